-- The characters of any bytes (document 01, "Characters and widths"): well-formed sequences are read, each maximal ill-formed subpart is one U+FFFD.
use Rattle.std.specs.Prelude.{ℕ, zero, suc, ◌+◌, Bool, true, cond, ◌&&◌, ◌≡◌, List, [], ◌∷◌, ◌++◌, take, drop, get_or}
use Rattle.chars.specs.Utf8.{tail_len, complete, code_point}
use Rattle.chars.specs.Width.{char_width_of}

-- a character: its bytes, its code point, how many columns it takes, and whether the bytes are a well-formed sequence
pub record Character : Type 0 where
  pub text : List ℕ
  pub code : ℕ
  pub columns : ℕ
  pub ok : Bool

-- the character that the byte b leads, where the bytes bs follow
unfoldable pub char_at : ℕ → List ℕ → Character
char_at b bs =
    let more = take (tail_len b bs) bs in
    let code = cond (complete b more) (code_point (b ∷ more)) 0xFFFD in
    record { text = b ∷ more; code = code; columns = char_width_of code; ok = complete b more }

-- the character that starts at the offset `at` of a text
unfoldable pub char_in : ℕ → List ℕ → Character
char_in at s = char_at (get_or s at 0) (drop (suc at) s)

-- the characters of a text whose first k bytes belong to a character before
abbrev pub chars_from : ℕ → List ℕ → List Character
chars_from k [] = []
chars_from zero (b ∷ bs) = char_at b bs ∷ chars_from (tail_len b bs) bs
chars_from (suc k) (b ∷ bs) = chars_from k bs

-- the characters of a text, whatever its bytes; backwards is the reversed list
unfoldable pub chars : List ℕ → List Character
chars bs = chars_from 0 bs

-- a place of a text at which a character ends, so that the bytes before it and those from it on are read as they are in the whole text
abbrev pub Seam : List ℕ → ℕ → Type 0
Seam s n = chars s ≡ chars (take n s) ++ chars (drop n s)

abbrev pub bytes_of : List Character → List ℕ
bytes_of [] = []
bytes_of (c ∷ cs) = c.text ++ bytes_of cs

-- the width of a character
abbrev pub wide : Character → ℕ
wide c = c.columns

-- the width of a text is the sum over its characters
abbrev pub width_of : List Character → ℕ
width_of [] = 0
width_of (c ∷ cs) = wide c + width_of cs

unfoldable pub text_width_of : List ℕ → ℕ
text_width_of bs = width_of (chars bs)

-- a text is well-formed if each of its characters is
abbrev pub all_ok : List Character → Bool
all_ok [] = true
all_ok (c ∷ cs) = c.ok && all_ok cs

unfoldable pub well_formed_of : List ℕ → Bool
well_formed_of bs = all_ok (chars bs)
