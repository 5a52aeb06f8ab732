-- Cutting a text at a width (document 01, module 2): whole characters are kept while the sum of their widths stays within; and leading zero-width characters.
use Rattle.std.specs.Prelude.{ℕ, ◌-◌, cond, List, [], ◌∷◌, reverse, leb, eqb, length}
use Rattle.chars.specs.Chars.{Character, chars, bytes_of, wide, width_of}

-- the first characters, kept while the sum of their widths stays within m
abbrev pub kept_within : ℕ → List Character → List Character
kept_within m [] = []
kept_within m (c ∷ cs) = cond (leb (wide c) m) (c ∷ kept_within (m - wide c) cs) []

-- where the beginning ends that is kept within m, and its width
unfoldable pub truncate_end_pos_of : ℕ → List ℕ → ℕ
truncate_end_pos_of m d = length (bytes_of (kept_within m (chars d)))

unfoldable pub truncate_end_width : ℕ → List ℕ → ℕ
truncate_end_width m d = width_of (kept_within m (chars d))

-- where the ending starts that is kept within m from the last character back, and its width
unfoldable pub truncate_start_pos_of : ℕ → List ℕ → ℕ
truncate_start_pos_of m d = length d - length (bytes_of (kept_within m (reverse (chars d))))

unfoldable pub truncate_start_width : ℕ → List ℕ → ℕ
truncate_start_width m d = width_of (kept_within m (reverse (chars d)))

-- the leading characters of width 0
abbrev pub leading_zero_width_of : List Character → List Character
leading_zero_width_of [] = []
leading_zero_width_of (c ∷ cs) = cond (eqb (wide c) 0) (c ∷ leading_zero_width_of cs) []

-- how many bytes they take
unfoldable pub zero_width_len_of : List ℕ → ℕ
zero_width_len_of d = length (bytes_of (leading_zero_width_of (chars d)))
