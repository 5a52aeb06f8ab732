-- Rows that pin the definitions of Q-7, clause by clause; `proofs/PinsHold.antt` computes them all.
-- What comes back is numbers: of a call its refusal, its number and what the list then holds; of a question its refusal and its two numbers.
use Rattle.std.specs.Prelude.{ℕ, List, [], ◌∷◌, length}
use Rattle.recording.specs.Recording.{Bytes, Recording, recording}
use Rattle.recording.specs.Outcome.{Outcome, lent_after, lent_lines, returned, Replied}
use Rattle.line_index.specs.Starts.{line_starts, line_span, place_for}
use Rattle.line_index.specs.Index.{build_outcome, extend_outcome, line_replied, place_replied}

-- ── a row: what comes back, and what is expected
pub record Row : Type 0 where
  pub got : List ℕ
  pub expected : List ℕ

abbrev row : List ℕ → List ℕ → Row
row g e = record { got = g; expected = e }

abbrev pub all_got : List Row → List (List ℕ)
all_got [] = []
all_got (r ∷ rs) = r.got ∷ all_got rs

abbrev pub all_expected : List Row → List (List ℕ)
all_expected [] = []
all_expected (r ∷ rs) = r.expected ∷ all_expected rs

-- ── short names
abbrev left : Outcome → List ℕ → List ℕ
left u ix = (returned u).refusal ∷ (returned u).number ∷ (lent_after u (lent_lines ix)).lines

abbrev numbers : Replied → List ℕ
numbers t = t.refusal ∷ t.first ∷ t.second ∷ []

abbrev build : Recording → List ℕ → List ℕ
build r ix = left (build_outcome r (length ix)) ix

abbrev extend : Recording → ℕ → List ℕ → ℕ → List ℕ
extend r earlier ix used = left (extend_outcome r earlier ix used) ix

abbrev line : Recording → List ℕ → ℕ → List ℕ
line r ix n = numbers (line_replied r ix n)

abbrev place : Recording → List ℕ → ℕ → List ℕ
place r ix o = numbers (place_replied r ix o)

-- "a", 0A, "bb", 0A: three lines, the last is empty
abbrev three : Bytes
three = 0x61 ∷ 0x0A ∷ 0x62 ∷ 0x62 ∷ 0x0A ∷ []

abbrev fine : Recording
fine = recording three [] []

-- one entry number: refusal 2
abbrev bad : Recording
bad = recording three (0 ∷ []) []

-- the index of `three`
abbrev ix : List ℕ
ix = 0 ∷ 2 ∷ 5 ∷ []

unfoldable pub pins : List Row
pins =
    -- the index: no data is one line; a last 0A opens one; 0D is a byte of its line
    row (line_starts []) (0 ∷ []) ∷
    row (line_starts (0x0A ∷ [])) (0 ∷ 1 ∷ []) ∷
    row (line_starts (0x0A ∷ 0x0A ∷ [])) (0 ∷ 1 ∷ 2 ∷ []) ∷
    row (line_starts (0x61 ∷ 0x0D ∷ 0x0A ∷ 0x62 ∷ [])) (0 ∷ 3 ∷ []) ∷
    row (line_starts three) ix ∷
    -- first byte and end
    row ((line_span three 0).first ∷ (line_span three 0).end ∷ []) (0 ∷ 1 ∷ []) ∷
    row ((line_span three 1).first ∷ (line_span three 1).end ∷ []) (2 ∷ 4 ∷ []) ∷
    row ((line_span three 2).first ∷ (line_span three 2).end ∷ []) (5 ∷ 5 ∷ []) ∷
    -- line and column: a 0A is on the line that it ends
    row ((place_for three 0).line ∷ (place_for three 0).column ∷ []) (0 ∷ 0 ∷ []) ∷
    row ((place_for three 1).line ∷ (place_for three 1).column ∷ []) (0 ∷ 1 ∷ []) ∷
    row ((place_for three 2).line ∷ (place_for three 2).column ∷ []) (1 ∷ 0 ∷ []) ∷
    row ((place_for three 4).line ∷ (place_for three 4).column ∷ []) (1 ∷ 2 ∷ []) ∷
    row ((place_for three 5).line ∷ (place_for three 5).column ∷ []) (2 ∷ 0 ∷ []) ∷
    -- building: a list that is longer, exactly full, too short, empty; the recording's refusal comes first
    row (build fine (9 ∷ 9 ∷ 9 ∷ 9 ∷ [])) (0 ∷ 3 ∷ 0 ∷ 2 ∷ 5 ∷ 9 ∷ []) ∷
    row (build fine (9 ∷ 9 ∷ 9 ∷ [])) (0 ∷ 3 ∷ 0 ∷ 2 ∷ 5 ∷ []) ∷
    row (build fine (9 ∷ 9 ∷ [])) (36 ∷ 0 ∷ 9 ∷ 9 ∷ []) ∷
    row (build fine []) (36 ∷ 0 ∷ []) ∷
    row (build bad (9 ∷ 9 ∷ [])) (2 ∷ 0 ∷ 9 ∷ 9 ∷ []) ∷
    -- extending from no data, from inside of a line, from all
    row (extend fine 0 (0 ∷ 9 ∷ 9 ∷ []) 1) (0 ∷ 3 ∷ 0 ∷ 2 ∷ 5 ∷ []) ∷
    row (extend fine 3 (0 ∷ 2 ∷ 9 ∷ 9 ∷ []) 2) (0 ∷ 3 ∷ 0 ∷ 2 ∷ 5 ∷ 9 ∷ []) ∷
    row (extend fine 5 ix 3) (0 ∷ 3 ∷ 0 ∷ 2 ∷ 5 ∷ []) ∷
    -- 36: no number used, an earlier part that is wrong, that of other bytes, more used than there are, more bytes than there are, no room
    row (extend fine 0 (0 ∷ 9 ∷ 9 ∷ []) 0) (36 ∷ 0 ∷ 0 ∷ 9 ∷ 9 ∷ []) ∷
    row (extend fine 2 (0 ∷ 1 ∷ 9 ∷ []) 2) (36 ∷ 0 ∷ 0 ∷ 1 ∷ 9 ∷ []) ∷
    row (extend fine 1 (0 ∷ 2 ∷ 9 ∷ []) 2) (36 ∷ 0 ∷ 0 ∷ 2 ∷ 9 ∷ []) ∷
    row (extend fine 5 ix 4) (36 ∷ 0 ∷ 0 ∷ 2 ∷ 5 ∷ []) ∷
    row (extend fine 6 ix 3) (36 ∷ 0 ∷ 0 ∷ 2 ∷ 5 ∷ []) ∷
    row (extend fine 3 (0 ∷ 2 ∷ []) 2) (36 ∷ 0 ∷ 0 ∷ 2 ∷ []) ∷
    row (extend bad 6 (0 ∷ 2 ∷ []) 3) (2 ∷ 0 ∷ 0 ∷ 2 ∷ []) ∷
    -- questions: the recording's refusal, then 36 (a number too few, too many, wrong, out of order), then 37
    row (line fine ix 1) (0 ∷ 2 ∷ 4 ∷ []) ∷
    row (line fine ix 2) (0 ∷ 5 ∷ 5 ∷ []) ∷
    row (line fine ix 3) (37 ∷ 0 ∷ 0 ∷ []) ∷
    row (line fine (0 ∷ 2 ∷ []) 3) (36 ∷ 0 ∷ 0 ∷ []) ∷
    row (line fine (0 ∷ 2 ∷ 5 ∷ 9 ∷ []) 1) (36 ∷ 0 ∷ 0 ∷ []) ∷
    row (line fine (0 ∷ 5 ∷ 2 ∷ []) 1) (36 ∷ 0 ∷ 0 ∷ []) ∷
    row (line bad (0 ∷ 2 ∷ []) 3) (2 ∷ 0 ∷ 0 ∷ []) ∷
    row (place fine ix 4) (0 ∷ 1 ∷ 2 ∷ []) ∷
    row (place fine ix 5) (0 ∷ 2 ∷ 0 ∷ []) ∷
    row (place fine ix 6) (37 ∷ 0 ∷ 0 ∷ []) ∷
    row (place fine (0 ∷ 3 ∷ 5 ∷ []) 6) (36 ∷ 0 ∷ 0 ∷ []) ∷
    row (place bad [] 9) (2 ∷ 0 ∷ 0 ∷ []) ∷
    []
