-- How wide the listed lines are (document 02, Q-1): within the width asked for, but for a line that is not cut further. So a screen that right-aligns may trust the listed width.
-- `proofs/WidthLaws.antt` shows it.
use Rattle.std.specs.Prelude.{ℕ, ◌≤◌, Bool, true, false, ◌&&◌, ◌⊎◌, ◌≢◌, ◌≡◌, List, [], ◌∷◌, ltb}
use Rattle.chars.specs.Chars.{Character, chars}
use Rattle.chars.specs.Cut.{leading_zero_width_of}
use Rattle.buffer.specs.Place.{part}
use Rattle.recording.specs.Recording.{Bytes}
use Rattle.layout.specs.Wrap.{line_numbers, wrap_lines_of}

-- a lone word: no 20 stands in it
abbrev pub LoneWord : Bytes → Type 0
LoneWord [] = Unit {0}
LoneWord (b ∷ t) = (b ≢ 0x20) × LoneWord t

-- a lone character with the zero-width characters after it
abbrev pub LoneCharacter : List Character → Type 0
LoneCharacter [] = ⊥
LoneCharacter (c ∷ cs) = leading_zero_width_of cs ≡ cs

-- what is not cut further: where words are broken a character, otherwise a word
abbrev pub Uncut : Bool → Bytes → Type 0
Uncut true t = LoneCharacter (chars t)
Uncut false t = LoneWord t

-- a width is at most w, or the bytes that are so wide are not cut further; t says whether words are broken
abbrev pub WidthFits : ℕ → Bool → ℕ → Bytes → Type 0
WidthFits w t width s = (width ≤ w) ⊎ Uncut t s

-- so it is with every line of a line list of the data d: three numbers a line, the third is the width of the bytes from the first to the second
abbrev pub ListFits : ℕ → Bool → Bytes → List ℕ → Type 0
ListFits w t d [] = Unit {0}
ListFits w t d (first ∷ []) = ⊥
ListFits w t d (first ∷ end ∷ []) = ⊥
ListFits w t d (first ∷ end ∷ width ∷ ns) = WidthFits w t width (part first end d) × ListFits w t d ns

-- THE LAW: of the list that wrapping leaves, whatever the bytes; words are broken if that is asked for and the width is above 0
abbrev pub WidthsTrusted : Type 0
WidthsTrusted = (w : ℕ) (b : Bool) (d : Bytes) → ListFits w (b && ltb 0 w) d (line_numbers d (wrap_lines_of w b d))
