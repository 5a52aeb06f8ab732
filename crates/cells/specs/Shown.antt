-- What Q-9 asks to be shown, clause by clause; `proofs/Shown.antt` has all of it, and the call's contract has `LeftInOrder`.
use Rattle.recording.specs.Outcome.{Answer}
use Rattle.std.specs.Prelude.{ℕ, ◌*◌, ◌≤◌, true, ◌≡◌, ltb, length, take}
use mathlib.Core.List.{List, [], ◌∷◌, ◌++◌, flatten}
use Rattle.chars.specs.Chars.{Character, chars, text_width_of, well_formed_of}
use Rattle.recording.specs.Lists.{AllOf}
use Rattle.recording.specs.Recording.{Bytes}
use Rattle.recording.specs.Refusals.{data_limit, first_of, refuse_if}
use Rattle.recording.specs.Outcome.{Room, done, Lent, room_in, returned, answer_of, Promised}
use Rattle.layout.specs.Layout.{outcome}
use Rattle.cells.specs.Cells.{bare, parts, cutting, cell_text, cell_width, joined, never_fall, last_end, wrong_ends_of, cells_outcome}

-- ── the list that is left: the first and the second of each two numbers
abbrev pub ends_of : List ℕ → List ℕ
ends_of [] = []
ends_of (end ∷ []) = []
ends_of (end ∷ width ∷ ns) = end ∷ ends_of ns

abbrev pub widths_of : List ℕ → List ℕ
widths_of [] = []
widths_of (end ∷ []) = []
widths_of (end ∷ width ∷ ns) = width ∷ widths_of ns

-- ── "It equals cutting each by itself in order"
-- `write_truncated_end` on the cell alone, in any buffers that take its result, leaves `text` and returns `width`
abbrev pub CutAlone : ℕ → Bytes → Bytes → Bytes → ℕ → Type 0
CutAlone m e cell text width =
    (o : Room) → length text ≤ o.data_bytes → outcome (record { job = cutting m e; room = o }) (bare cell) ≡ done (record { recording = bare text; lines = []; number = width })

-- the cells, their texts and widths, in order and as many of each
abbrev pub AllAlone : ℕ → Bytes → List Bytes → List Bytes → List ℕ → Type 0
AllAlone m e [] [] [] = Unit {0}
AllAlone m e [] [] (w ∷ ws) = ⊥
AllAlone m e [] (t ∷ ts) ws = ⊥
AllAlone m e (c ∷ cs) [] ws = ⊥
AllAlone m e (c ∷ cs) (t ∷ ts) [] = ⊥
AllAlone m e (c ∷ cs) (t ∷ ts) (w ∷ ws) = CutAlone m e c t w × AllAlone m e cs ts ws

-- of the bytes `left` and the numbers `ns` that the call leaves
pub record CutInOrder (m : ℕ) (ends : List ℕ) (e d left : Bytes) (ns : List ℕ) : Type 0 where
  -- the cells are the data, all of it
  pub cells : flatten (parts ends d) ≡ d
  -- what is left, cut at the listed ends, is cell by cell what the call by itself leaves, and the listed widths are those that it returns
  pub alone : AllAlone m e (parts ends d) (parts (ends_of ns) left) (widths_of ns)
  -- and these parts are all of it
  pub whole : flatten (parts (ends_of ns) left) ≡ left
  -- the ends never fall, and the last (0 without cells) is the length
  pub rise : never_fall 0 (ends_of ns) ≡ true
  pub last : last_end 0 (ends_of ns) ≡ length left
  -- no width is above the width asked for
  pub narrow : AllOf (λ w. w ≤ m) (widths_of ns)
  pub two : length ns ≡ 2 * length ends

-- of what running code leaves: if the answer is no refusal, then from the first place of each lent buffer on, as far as the answer says
abbrev pub LeftInOrder : ℕ → List ℕ → Bytes → Bytes → Lent → Answer → Type 0
LeftInOrder m ends e d after a =
    (answer_of a).refusal ≡ 0
    → ((answer_of a).number ≡ length ends) × CutInOrder m ends e d (take (answer_of a).data_bytes after.data_bytes) (take (2 * (answer_of a).number) after.lines)

abbrev pub InOrder : Type 0
InOrder =
    (m : ℕ) (ends : List ℕ) (e d : Bytes) (before after : Lent) (a : Answer)
    → Promised (cells_outcome m ends e d (room_in before)) before after a → LeftInOrder m ends e d after a

-- ── "Turned away: 38 .. after the checks of content and ellipsis", 9, 21 and 24 "on the joined result, with two numbers a cell": these refusals in this order, and no others
abbrev pub Turned : Type 0
Turned =
    (m : ℕ) (ends : List ℕ) (e d : Bytes) (o : Room)
    → (returned (cells_outcome m ends e d o)).refusal
    ≡ first_of (refuse_if (ltb data_limit (length d)) 1 ∷ refuse_if (ltb data_limit (length e)) 1 ∷ refuse_if (wrong_ends_of ends (length d)) 38
    ∷ refuse_if (ltb data_limit (length (joined m e (parts ends d)))) 9 ∷ refuse_if (ltb o.data_bytes (length (joined m e (parts ends d)))) 21
    ∷ refuse_if (ltb o.lines (2 * length ends)) 24 ∷ [])

-- ── the width listed is the sum of the widths kept; of a well-formed cell it is the width of the bytes left, whatever the ellipsis
abbrev pub WidthTrue : Type 0
WidthTrue = (m : ℕ) (e cell : Bytes) → well_formed_of cell ≡ true → text_width_of (cell_text m e cell) ≡ cell_width m e cell

-- and where the ellipsis is well-formed too, the joined cells are read as each by itself
abbrev pub chars_of_each : ℕ → Bytes → List Bytes → List Character
chars_of_each m e [] = []
chars_of_each m e (cell ∷ cells) = chars (cell_text m e cell) ++ chars_of_each m e cells

abbrev pub ReadAlone : Type 0
ReadAlone = (m : ℕ) (e : Bytes) (cells : List Bytes) → well_formed_of e ≡ true → AllOf (λ c. well_formed_of c ≡ true) cells → chars (joined m e cells) ≡ chars_of_each m e cells
