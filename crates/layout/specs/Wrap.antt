-- Wrapping (document 01, module 4): lines, words and their whitespace, breaking, first fit. All of it from the data bytes alone.
use Rattle.std.specs.Prelude.{ℕ, suc, ◌+◌, ◌<◌, Bool, true, false, cond, ◌&&◌, ◌||◌, ◌≡◌, List, [], ◌∷◌, ◌++◌, leb, ltb, eqb, length}
use Rattle.chars.specs.Chars.{Character, chars, bytes_of, wide, width_of, text_width_of}
use Rattle.chars.specs.Cut.{kept_within, leading_zero_width_of}
use Rattle.buffer.specs.Place.{part}
use Rattle.recording.specs.Recording.{is_nil}

-- ── grouping
-- one more member at the start of the first group
abbrev pub onto_first : {A : Type 0} → A → List (List A) → List (List A)
onto_first a [] = (a ∷ []) ∷ []
onto_first a (g ∷ gs) = (a ∷ g) ∷ gs

-- a member joins the group before it or starts a new one, by the sum of the sizes in that group so far
module _ {A : Type 0} (joins : ℕ → A → Bool) (size : A → ℕ) where
  -- the first group is the rest of the group that is under way, whose sum so far is `run`
  abbrev pub groups_from : ℕ → List A → List (List A)
  groups_from run [] = [] ∷ []
  groups_from run (a ∷ r) = elim (joins run a) [ true ↦ onto_first a (groups_from (run + size a) r) | false ↦ [] ∷ onto_first a (groups_from (size a) r) ]

  -- no members, one empty group
  abbrev pub groups : List A → List (List A)
  groups [] = [] ∷ []
  groups (a ∷ r) = onto_first a (groups_from (size a) r)

-- ── lines: the data is split at 0A
abbrev pub split_lines : List ℕ → List (List ℕ)
split_lines [] = [] ∷ []
split_lines (b ∷ bs) = cond (eqb b 0x0A) ([] ∷ split_lines bs) (onto_first b (split_lines bs))

-- lines joined by 0A
abbrev pub join_lines : List (List ℕ) → List ℕ
join_lines [] = []
join_lines (l ∷ []) = l
join_lines (l ∷ m ∷ ls) = l ++ 0x0A ∷ join_lines (m ∷ ls)

-- ── words: a word runs to the next 20, and the run of 20s after it is its whitespace
pub record ByteWord : Type 0 where
  pub text : List ℕ
  pub gap : ℕ

abbrev pub byte_word : List ℕ → ℕ → ByteWord
byte_word t n = record { text = t; gap = n }

-- a 20 in front: it belongs to an empty word
abbrev pub space_before : List ByteWord → List ByteWord
space_before [] = byte_word [] 1 ∷ []
space_before (w ∷ ws) = cond (is_nil w.text) (byte_word [] (suc w.gap) ∷ ws) (byte_word [] 1 ∷ w ∷ ws)

-- any other byte in front belongs to the first word
abbrev pub byte_before : ℕ → List ByteWord → List ByteWord
byte_before b [] = byte_word (b ∷ []) 0 ∷ []
byte_before b (w ∷ ws) = byte_word (b ∷ w.text) w.gap ∷ ws

-- the words of a line; leading spaces make an empty first word, a line without bytes has no words
abbrev pub byte_words : List ℕ → List ByteWord
byte_words [] = []
byte_words (b ∷ bs) = cond (eqb b 0x20) (space_before (byte_words bs)) (byte_before b (byte_words bs))

-- a word: its characters, and how many bytes 20 come after it
pub record Word : Type 0 where
  pub body : List Character
  pub space : ℕ

abbrev pub word_of : ByteWord → Word
word_of r = record { body = chars r.text; space = r.gap }

abbrev pub words_of : List ByteWord → List Word
words_of [] = []
words_of (r ∷ rs) = word_of r ∷ words_of rs

-- ── breaking (`split_words_at_width`)
-- a character joins the head before it if it has width 0 or the head stays within the width; `proofs/WordingLaws.antt` joins this to the document's wording, `Heads`
abbrev pub in_head : ℕ → ℕ → Character → Bool
in_head w run c = eqb (wide c) 0 || leb (run + wide c) w

-- the last head keeps the whitespace
abbrev pub heads_as_words : ℕ → List (List Character) → List Word
heads_as_words gap [] = []
heads_as_words gap (h ∷ []) = record { body = h; space = gap } ∷ []
heads_as_words gap (h ∷ g ∷ gs) = record { body = h; space = 0 } ∷ heads_as_words gap (g ∷ gs)

abbrev pub heads : ℕ → List Character → List (List Character)
heads w cs = groups (in_head w) wide cs

abbrev pub split_word : ℕ → Word → List Word
split_word w v = heads_as_words v.space (heads w v.body)

abbrev pub split_words : ℕ → List Word → List Word
split_words w [] = []
split_words w (v ∷ vs) = split_word w v ++ split_words w vs

-- only if asked for, and only if width > 0
unfoldable pub split_words_at_width : ℕ → Bool → List Word → List Word
split_words_at_width w b vs = cond (b && ltb 0 w) (split_words w vs) vs

-- the heads of a wider word as the document words them: longest heads within the width; where the place of the first character that passes it is 0, one character
-- with the zero-width characters after it; each next cut on the rest, until nothing is left
pub data Heads (w : ℕ) : List Character → List (List Character) → Type 0 where
  none : Heads w [] []
  fitting : {cs rest : List Character} {hs : List (List Character)} → 0 < length (kept_within w cs) → cs ≡ kept_within w cs ++ rest → Heads w rest hs → Heads w cs (kept_within w cs ∷ hs)
  single : {c : Character} {cs rest : List Character} {hs : List (List Character)} → length (kept_within w (c ∷ cs)) ≡ 0 → cs ≡ leading_zero_width_of cs ++ rest → Heads w rest hs
      → Heads w (c ∷ cs) ((c ∷ leading_zero_width_of cs) ∷ hs)

-- ── first fit: a word that is not first in its line, with run + its width > width, starts a new line with run 0; then run grows by its width and its whitespace
abbrev pub fits_line : ℕ → ℕ → Word → Bool
fits_line w run v = leb (run + width_of v.body) w

abbrev pub full_width : Word → ℕ
full_width v = width_of v.body + v.space

unfoldable pub first_fit_of : ℕ → List Word → List (List Word)
first_fit_of w vs = groups (fits_line w) full_width vs

-- ── lines of the result, as offsets in the content: from the first word's start to the last word's end
pub record Line : Type 0 where
  pub first : ℕ
  pub end : ℕ

abbrev pub line_of : ℕ → ℕ → Line
line_of a e = record { first = a; end = e }

-- the bytes of the data d that a line shows, and their display width
abbrev pub line_bytes : List ℕ → Line → List ℕ
line_bytes d l = part l.first l.end d

abbrev pub line_width : List ℕ → Line → ℕ
line_width d l = text_width_of (line_bytes d l)

-- the numbers of a line in the line list: first byte, end and display width
abbrev pub line_numbers : List ℕ → List Line → List ℕ
line_numbers d [] = []
line_numbers d (l ∷ ls) = l.first ∷ l.end ∷ line_width d l ∷ line_numbers d ls

abbrev pub word_len : Word → ℕ
word_len v = length (bytes_of v.body)

-- how many bytes a line shows, and how many it takes with its last whitespace
abbrev pub shown_len : List Word → ℕ
shown_len [] = 0
shown_len (v ∷ []) = word_len v
shown_len (v ∷ u ∷ us) = word_len v + v.space + shown_len (u ∷ us)

abbrev pub whole_len : List Word → ℕ
whole_len [] = 0
whole_len (v ∷ vs) = word_len v + v.space + whole_len vs

abbrev pub group_lines : ℕ → List (List Word) → List Line
group_lines at [] = []
group_lines at (g ∷ gs) = line_of at (at + shown_len g) ∷ group_lines (at + whole_len g) gs

-- one line of the data, wrapped
unfoldable pub wrapped_line : ℕ → Bool → List ℕ → List (List Word)
wrapped_line w b l = first_fit_of w (split_words_at_width w b (words_of (byte_words l)))

abbrev pub lines_from : ℕ → Bool → ℕ → List (List ℕ) → List Line
lines_from w b at [] = []
lines_from w b at (l ∷ ls) = group_lines at (wrapped_line w b l) ++ lines_from w b (suc (at + length l)) ls

-- `wrap_bytes`
unfoldable pub wrap_lines_of : ℕ → Bool → List ℕ → List Line
wrap_lines_of w b d = lines_from w b 0 (split_lines d)
