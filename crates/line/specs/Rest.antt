-- Wrapping read from any place on: what is left of the data, its first word, the first head of that word, and the lines that are still to come.
-- The rest from the middle of a word is read as if it were fresh data; `proofs/RestLaws.antt` shows that the lines are the same.
use Rattle.std.specs.Prelude.{ℕ, suc, ◌+◌, Bool, true, false, cond, ◌&&◌, ◌||◌, List, [], ◌∷◌, ◌++◌, leb, ltb, eqb, length}
use Rattle.std.specs.List.{prefix_len}
use Rattle.chars.specs.Chars.{Character, chars, bytes_of, wide, width_of}
use Rattle.chars.specs.Cut.{kept_within, leading_zero_width_of}
use Rattle.layout.specs.Wrap.{split_lines, Word, byte_words, words_of, split_words_at_width, fits_line, full_width, Line, line_of, word_len, lines_from}

-- the lines of the data from `at` on, where d is the data without its first `at` bytes; at 0 they are `wrap_lines_of`
unfoldable pub rest_lines : ℕ → Bool → ℕ → List ℕ → List Line
rest_lines w b at d = lines_from w b at (split_lines d)

-- the line of the data that d begins with, and the lines after it
unfoldable pub line_text : List ℕ → List ℕ
line_text [] = []
line_text (x ∷ d) = cond (eqb x 0x0A) [] (x ∷ line_text d)

unfoldable pub later_lines : List ℕ → List (List ℕ)
later_lines [] = []
later_lines (x ∷ d) = cond (eqb x 0x0A) (split_lines d) (later_lines d)

-- a word ends at a 20 or a 0A
abbrev pub ends_word : ℕ → Bool
ends_word x = eqb x 0x20 || eqb x 0x0A

-- the word that d begins with
unfoldable pub word_text : List ℕ → List ℕ
word_text [] = []
word_text (x ∷ d) = cond (ends_word x) [] (x ∷ word_text d)

abbrev pub space : ℕ → Bool
space x = eqb x 0x20

-- how many bytes 20 d begins with
unfoldable pub space_len : List ℕ → ℕ
space_len d = prefix_len space d

-- one character with the zero-width characters after it
unfoldable pub one_char_of : List Character → List Character
one_char_of [] = []
one_char_of (c ∷ cs) = c ∷ leading_zero_width_of cs

-- the first head: the longest within m; if its place is 0, one character
unfoldable pub head_of : ℕ → List Character → List Character
head_of m [] = []
head_of m (c ∷ cs) = cond (leb (wide c) m) (kept_within m (c ∷ cs)) (one_char_of (c ∷ cs))

-- a width that no word reaches
abbrev pub unreached : ℕ
unreached = 0xFFFFFFFFFFFFFFFF

-- the width to break at: without breaking one that no word reaches, so that one search serves both
unfoldable pub limit_of_line : ℕ → Bool → ℕ
limit_of_line w b = cond (b && ltb 0 w) w unreached

-- first fit from a place on: the line that began at `at` is under way, its last word ends at `end`, the next word starts at `here`, `run` is used; `first`: it has no word yet
unfoldable pub placed : ℕ → Bool → ℕ → ℕ → ℕ → ℕ → List Word → List Line
placed w first at end here run [] = line_of at end ∷ []
placed w first at end here run (v ∷ vs) =
    elim (first || fits_line w run v) [
      | true ↦ placed w false at (here + word_len v) (here + word_len v + v.space) (run + full_width v) vs
      | false ↦ line_of at end ∷ placed w false here (here + word_len v) (here + word_len v + v.space) (full_width v) vs
    ]

-- the same for all that is left of the data
unfoldable pub going : ℕ → Bool → Bool → ℕ → ℕ → ℕ → ℕ → List ℕ → List Line
going w b first at end here run d =
    placed w first at end here run (split_words_at_width w b (words_of (byte_words (line_text d)))) ++ lines_from w b (suc (here + length (line_text d))) (later_lines d)

-- the first head of the first word of d, its length in bytes, its width
unfoldable pub first_head_of : ℕ → List ℕ → List Character
first_head_of m d = head_of m (chars (word_text d))

unfoldable pub head_len : ℕ → List ℕ → ℕ
head_len m d = length (bytes_of (first_head_of m d))

unfoldable pub head_width : ℕ → List ℕ → ℕ
head_width m d = width_of (first_head_of m d)
