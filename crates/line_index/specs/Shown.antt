-- What Q-7 asks to be shown, clause by clause; `proofs/Shown.antt` has all of it.
use Rattle.recording.specs.Outcome.{Answer}
use Rattle.std.specs.Prelude.{ℕ, ◌+◌, ◌≤◌, ◌<◌, false, ◌≡◌, List, [], ◌∷◌, ◌++◌, length, take, get_or}
use Rattle.buffer.specs.Place.{over, part}
use Rattle.recording.specs.Recording.{Bytes, Recording}
use Rattle.recording.specs.Refusals.{first_of, recording_fault}
use Rattle.recording.specs.Outcome.{returned, answer_of, Promised, lent_lines}
use Rattle.layout.specs.Wrap.{split_lines, join_lines}
use Rattle.layout.specs.Unindent.{has_newline_in}
use Rattle.line_index.specs.Starts.{line_starts, line_ends, line_span, place_for}
use Rattle.line_index.specs.Index.{short_fault, extend_fault, line_fault, place_fault, build_outcome, extend_outcome, line_replied, place_replied}

-- ── "Extending it after an append equals building it over all the data"
-- for any earlier length, so also for 0 and for all: refused with the same number, or the same list and number
abbrev pub Extending : Type 0
Extending =
    (r : Recording) (earlier : ℕ) (ix : List ℕ) (used : ℕ) → earlier ≤ length r.data_bytes → used ≤ length ix → take used ix ≡ line_starts (take earlier r.data_bytes)
    → extend_outcome r earlier ix used ≡ build_outcome r (length ix)

-- the list holds the index of d, over what it held before
pub record Holds (d : Bytes) (before now : List ℕ) : Type 0 where
  pub fits : length (line_starts d) ≤ length before
  pub list : now ≡ over (line_starts d) before

-- a call that was not refused leaves the index, and its number is how many numbers that has
abbrev pub Built : Type 0
Built =
    (r : Recording) (ix ix' : List ℕ) (a : Answer) → Promised (build_outcome r (length ix)) (lent_lines ix) (lent_lines ix') a → (answer_of a).refusal ≡ 0
    → Holds r.data_bytes ix ix' × ((answer_of a).number ≡ length (line_starts r.data_bytes))

-- after an append, and again after another: extending what a call left answers as building over all the data would, in the list as it was at first, and leaves what that leaves
abbrev pub AfterAppend : Type 0
AfterAppend =
    (r q : Recording) (x : Bytes) → q.data_bytes ≡ r.data_bytes ++ x → (ix ix' ix'' : List ℕ) (b : Answer) → Holds r.data_bytes ix ix'
    → Promised (extend_outcome q (length r.data_bytes) ix' (length (line_starts r.data_bytes))) (lent_lines ix') (lent_lines ix'') b
    → (answer_of b ≡ returned (build_outcome q (length ix))) × ((answer_of b).refusal ≡ 0 → Holds q.data_bytes ix ix'')

-- ── "the first byte and the end of line n": the lines are those of the wrapping
-- what stands from each start to its end
abbrev pub pieces : Bytes → List ℕ → List ℕ → List Bytes
pieces d [] es = []
pieces d (a ∷ ss) [] = []
pieces d (a ∷ ss) (e ∷ es) = part a e d ∷ pieces d ss es

pub record Lines (d : Bytes) : Type 0 where
  pub split : pieces d (line_starts d) (line_ends d) ≡ split_lines d
  pub joined : join_lines (pieces d (line_starts d) (line_ends d)) ≡ d
  pub count : length (line_starts d) ≡ length (split_lines d)
  -- line n is the n-th of them, and has no 0A
  pub line : (n : ℕ) → n < length (line_starts d) → part (line_span d n).first (line_span d n).end d ≡ get_or (split_lines d) n []
  pub clean : (n : ℕ) → n < length (line_starts d) → has_newline_in (part (line_span d n).first (line_span d n).end d) ≡ false
  -- its 0A stands at its end, or the data ends there
  pub inner : (n : ℕ) → n + 1 < length (line_starts d) → (get_or d (line_span d n).end 0 ≡ 0x0A) × ((line_span d (n + 1)).first ≡ (line_span d n).end + 1)
  pub last : (n : ℕ) → n + 1 ≡ length (line_starts d) → (line_span d n).end ≡ length d

-- and so of what `line_at` replies: the bytes from the first number to the second are that line
abbrev pub LineReply : Type 0
LineReply =
    (r : Recording) (ix : List ℕ) (n : ℕ) → (line_replied r ix n).refusal ≡ 0
    → part (line_replied r ix n).first (line_replied r ix n).second r.data_bytes ≡ get_or (split_lines r.data_bytes) n []

-- ── "the line and byte column for an offset up to the data length": exactly one of each
pub record Places (d : Bytes) (o : ℕ) : Type 0 where
  pub there : (place_for d o).line < length (line_starts d)
  pub offset : (line_span d (place_for d o).line).first + (place_for d o).column ≡ o
  pub within : o ≤ (line_span d (place_for d o).line).end
  pub only : (n c : ℕ) → n < length (line_starts d) → (line_span d n).first + c ≡ o → o ≤ (line_span d n).end → place_for d o ≡ record { line = n; column = c }

abbrev pub EveryOffset : Type 0
EveryOffset = (d : Bytes) (o : ℕ) → o ≤ length d → Places d o

-- the two questions answer each other: a place's line is there, its first byte and the column make the offset, which is within the line, its end included
abbrev pub LineOfPlace : Type 0
LineOfPlace =
    (r : Recording) (ix : List ℕ) (o : ℕ) → (place_replied r ix o).refusal ≡ 0
    → ((line_replied r ix (place_replied r ix o).first).refusal ≡ 0)
    × ((line_replied r ix (place_replied r ix o).first).first + (place_replied r ix o).second ≡ o)
    × (o ≤ (line_replied r ix (place_replied r ix o).first).second)

-- and each column of a line that is there, its end included, is the place of its offset
abbrev pub PlaceOfLine : Type 0
PlaceOfLine =
    (r : Recording) (ix : List ℕ) (n c : ℕ) → (line_replied r ix n).refusal ≡ 0 → (line_replied r ix n).first + c ≤ (line_replied r ix n).second
    → place_replied r ix ((line_replied r ix n).first + c) ≡ record { refusal = 0; first = n; second = c }

-- ── "36 .. after the recording's checks; 37 .. last": these refusals in this order, and no others
pub record Turned (r : Recording) (ix : List ℕ) : Type 0 where
  pub build : (returned (build_outcome r (length ix))).refusal ≡ first_of (recording_fault r ∷ short_fault r.data_bytes (length ix) ∷ [])
  pub extend : (earlier used : ℕ) → (returned (extend_outcome r earlier ix used)).refusal ≡ first_of (recording_fault r ∷ extend_fault r.data_bytes earlier ix used ∷ [])
  pub line : (n : ℕ) → (line_replied r ix n).refusal ≡ first_of (recording_fault r ∷ line_fault r.data_bytes ix n ∷ [])
  pub place : (o : ℕ) → (place_replied r ix o).refusal ≡ first_of (recording_fault r ∷ place_fault r.data_bytes ix o ∷ [])
