-- Clean texts: well-formed, and without control characters.
use Rattle.std.specs.Prelude.{ℕ, Bool, false, ◌&&◌, ◌||◌, not, List, [], ◌∷◌}
use Rattle.chars.specs.Utf8.{within}
use Rattle.chars.specs.Chars.{Character, chars, all_ok, well_formed_of}

-- Unicode's general category Cc: C0, DEL and C1
abbrev pub is_control : ℕ → Bool
is_control c = within 0x00 0x1F c || within 0x7F 0x9F c

-- some character is a control character; an ill-formed one is U+FFFD, which is none
abbrev pub any_control : List Character → Bool
any_control [] = false
any_control (c ∷ cs) = is_control c.code || any_control cs

-- all characters are well-formed, and none is a control character
abbrev pub all_clean : List Character → Bool
all_clean cs = all_ok cs && not (any_control cs)

-- a text is clean if it is well-formed and has no control character
unfoldable pub is_clean_text : List ℕ → Bool
is_clean_text s = well_formed_of s && not (any_control (chars s))
