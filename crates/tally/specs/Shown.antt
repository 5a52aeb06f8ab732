-- What Q-10 asks to be shown, clause by clause, of the bytes that the call leaves; `proofs/Shown.antt` has all of it, and the call's contract has `SheetLeft`.
use Rattle.recording.specs.Outcome.{Answer}
use Rattle.std.specs.Prelude.{ℕ, ◌+◌, ◌-◌, ◌≤◌, ◌<◌, true, false, ◌≡◌, List, [], ◌∷◌, ◌++◌, ltb, length, take, get_or}
use Rattle.chars.specs.Chars.{chars, text_width_of}
use Rattle.controls.specs.Controls.{is_clean_text}
use Rattle.recording.specs.Lists.{AllOf}
use Rattle.recording.specs.Recording.{Bytes}
use Rattle.recording.specs.Refusals.{data_limit, first_of, refuse_if}
use Rattle.recording.specs.Outcome.{Room, done, Lent, room_in, returned, answer_of, Promised}
use Rattle.layout.specs.Layout.{outcome}
use Rattle.cells.specs.Cells.{bare}
use Rattle.cells.specs.Shown.{CutAlone}
use Rattle.sheet.specs.Sheet.{up_to, after, has, value_from, is_decimal}
use Rattle.tally.specs.Tally.{lines_of, cells_of, Column, columns_of, tilde, pad_job, boards_name, boards_at_text, is_boards, boards_sum, ended, sheet, shape_fault, lines_fault, tally_outcome}

-- ── "Each cell is cut at its end with ellipsis `~`, padded with spaces": `laid` is what the padding call leaves of what the truncating call leaves of d, each in any buffers that take its result
pub record LaidBy (c : Column) (d laid : Bytes) : Type 0 where
  pub cut : Bytes
  pub first : CutAlone c.width tilde d cut (text_width_of cut)
  pub second : (o : Room) → length laid ≤ o.data_bytes
      → outcome (record { job = pad_job c.alignment c.width; room = o }) (bare cut) ≡ done (record { recording = bare laid; lines = []; number = 0 })

-- ── where a cell stands
-- the columns before it, each with the gap behind it; the columns alone
abbrev pub start_of : List Column → ℕ
start_of [] = 0
start_of (c ∷ cs) = (c.width + 1) + start_of cs

abbrev pub widths : List Column → ℕ
widths [] = 0
widths (c ∷ cs) = c.width + widths cs

abbrev pub column_at : List Column → ℕ → Column
column_at cs k = get_or cs k (record { width = 0; alignment = 0 })

abbrev pub cell_at : Bytes → ℕ → Bytes
cell_at l k = get_or (cells_of l) k []

-- the cell d in a row: it starts at the column `start` and takes exactly the width of its own; no character of it joins one of its neighbours'
pub record Placed (row : Bytes) (c : Column) (d : Bytes) (start : ℕ) : Type 0 where
  pub before : Bytes
  pub laid : Bytes
  pub behind : Bytes
  pub split : row ≡ before ++ (laid ++ behind)
  pub reads : chars row ≡ chars before ++ (chars laid ++ chars behind)
  pub starts : text_width_of before ≡ start
  pub wide : text_width_of laid ≡ c.width
  pub by_calls : LaidBy c d laid

-- ── the row of a line
pub record RowRight (cs : List Column) (l row : Bytes) : Type 0 where
  -- "exactly the column widths plus the gaps wide"
  pub wide : text_width_of row ≡ widths cs + (length cs - 1)
  pub cells : (k : ℕ) → k < length cs → Placed row (column_at cs k) (cell_at l k) (start_of (take k cs))
  -- well-formed, without a control character, so without 0A
  pub clean : is_clean_text row ≡ true
  pub whole : has 0x0A row ≡ false

-- a row for each line, in order
abbrev pub EachRow : List Column → List Bytes → List Bytes → Type 0
EachRow cs [] [] = Unit {0}
EachRow cs [] (r ∷ rs) = ⊥
EachRow cs (l ∷ ls) [] = ⊥
EachRow cs (l ∷ ls) (r ∷ rs) = RowRight cs l r × EachRow cs ls rs

-- ── "The last row prints the number of value lines and the sum of that column": read as two decimals with a space between
pub record LastRight (names : Bytes) (values : List Bytes) (row : Bytes) : Type 0 where
  pub decimals : (is_decimal (up_to 0x20 row) ≡ true) × (is_decimal (after 0x20 row) ≡ true)
  pub lines : value_from 0 (up_to 0x20 row) ≡ length values
  -- "the sum over the input's lines"
  pub sum : value_from 0 (after 0x20 row) ≡ boards_sum (boards_at_text (cells_of names)) values
  -- 4,095 lines of 65,535 boards
  pub small : boards_sum (boards_at_text (cells_of names)) values ≤ 268365825
  pub clean : is_clean_text row ≡ true
  pub whole : has 0x0A row ≡ false

-- k cells come before the first that is exactly the name; all cells if none is
pub record FirstCalled (name : Bytes) (cs : List Bytes) (k : ℕ) : Type 0 where
  pub there : k < length cs → get_or cs k [] ≡ name
  pub earlier : (i : ℕ) → i < k → get_or cs i [] ≡ name → ⊥
  pub within : k ≤ length cs

-- ── the sheet: of the bytes `left` that the call leaves
pub record SheetRight (ns : List ℕ) (s left : Bytes) : Type 0 where
  pub names : Bytes
  pub values : List Bytes
  pub lines : lines_of s ≡ names ∷ values
  -- its rows, each ended by 0A, and nothing else; read as lines it is these
  pub rows : List Bytes
  pub last : Bytes
  pub printed : left ≡ ended (rows ++ (last ∷ []))
  pub reads : lines_of left ≡ rows ++ (last ∷ [])
  -- a row for each line, that of the names first, and the last row
  pub each : EachRow (columns_of ns) (names ∷ values) rows
  pub tally : LastRight names values last
  -- the column that is summed: the first called `boards`; each of its values is such a number; without it the sum is 0
  pub column : FirstCalled boards_name (cells_of names) (boards_at_text (cells_of names))
  pub numbers : boards_at_text (cells_of names) < length (columns_of ns) → AllOf (λ l. is_boards (cell_at l (boards_at_text (cells_of names))) ≡ true) values
  pub without : length (columns_of ns) ≤ boards_at_text (cells_of names) → boards_sum (boards_at_text (cells_of names)) values ≡ 0

-- of what running code leaves: if the answer is no refusal, then from the first place of the lent buffer on, as far as the answer says
abbrev pub SheetLeft : List ℕ → Bytes → Lent → Answer → Type 0
SheetLeft ns s after a = (answer_of a).refusal ≡ 0 → SheetRight ns s (take (answer_of a).data_bytes after.data_bytes)

abbrev pub Shown : Type 0
Shown =
    (ns : List ℕ) (s : Bytes) (before after : Lent) (a : Answer)
    → Promised (tally_outcome ns s (room_in before)) before after a → SheetLeft ns s after a

-- ── "Refusal 1 on the input comes before all below, 9 and 21 on the sheet after them": these refusals in this order, and no others
abbrev pub Turned : Type 0
Turned =
    (ns : List ℕ) (s : Bytes) (o : Room)
    → (returned (tally_outcome ns s o)).refusal
    ≡ first_of (refuse_if (ltb data_limit (length s)) 1 ∷ shape_fault ns (lines_of s) ∷ lines_fault (length (columns_of ns)) (lines_of s)
    ∷ refuse_if (ltb data_limit (length (sheet (columns_of ns) s))) 9 ∷ refuse_if (ltb o.data_bytes (length (sheet (columns_of ns) s))) 21 ∷ [])
