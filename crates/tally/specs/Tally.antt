-- Q-10: the tally sheet, in the request's order: the input's lines and cells, the columns, a laid-out cell, rows, the column `boards`, the last row, the sheet, and what is turned away.
use Rattle.std.specs.Prelude.{ℕ, zero, suc, ◌+◌, ◌%◌, Bool, false, cond, ◌&&◌, ◌||◌, not, List, [], ◌∷◌, ◌++◌, leb, ltb, eqb, length, get_or}
use Rattle.chars.specs.Utf8.{within}
use Rattle.controls.specs.Controls.{is_clean_text}
use Rattle.recording.specs.Lists.{same}
use Rattle.recording.specs.Recording.{Bytes, Recording, is_nil, data_of}
use Rattle.recording.specs.Refusals.{first_of, refuse_if, recording_fault}
use Rattle.recording.specs.Outcome.{Room, Result, Faults, Outcome, settle, Lent}
use Rattle.layout.specs.Layout.{Job, pad_start, pad_end, pad_centered, result_items}
use Rattle.layout.specs.Wrap.{onto_first}
use Rattle.cells.specs.Cells.{bare, cell_text}
use Rattle.sheet.specs.Sheet.{SheetLine, sheet_lines, value_from, is_decimal}
use Rattle.sheet.specs.Decimal.{decimal}

-- ── lines: each is ended by 0A, which the last may lack; an empty input is one empty line
abbrev pub texts_of : List SheetLine → List Bytes
texts_of [] = []
texts_of (l ∷ ls) = l.text ∷ texts_of ls

unfoldable pub lines_of : Bytes → List Bytes
lines_of s = cond (is_nil s) ([] ∷ []) (texts_of (sheet_lines s))

-- ── cells: comma between, so a line has one at least
abbrev pub split_at : ℕ → Bytes → List Bytes
split_at c [] = [] ∷ []
split_at c (b ∷ bs) = cond (eqb b c) ([] ∷ split_at c bs) (onto_first b (split_at c bs))

unfoldable pub cells_of : Bytes → List Bytes
cells_of l = split_at 0x2C l

-- ── columns: two numbers each, a width and an alignment; a last number alone is no column (and 39)
pub record Column : Type 0 where
  pub width : ℕ
  pub alignment : ℕ

abbrev pub columns_of : List ℕ → List Column
columns_of [] = []
columns_of (w ∷ []) = []
columns_of (w ∷ a ∷ ns) = record { width = w; alignment = a } ∷ columns_of ns

-- ── a laid-out cell: cut at its end with the ellipsis `~`, by the truncating call's definition
unfoldable pub tilde : Bytes
tilde = 0x7E ∷ []

-- and padded with spaces, by the padding calls': 0 start, spaces after; 1 end, spaces before; 2 centre
unfoldable pub space : Recording
space = bare (0x20 ∷ [])

abbrev pub pad_job : ℕ → ℕ → Job
pad_job zero w = pad_end w space
pad_job (suc zero) w = pad_start w space
pad_job (suc (suc a)) w = pad_centered w space

unfoldable pub laid_cell_of : Column → Bytes → Bytes
laid_cell_of c d = data_of (result_items (pad_job c.alignment c.width) (bare (cell_text c.width tilde d)))

-- ── a row: the cells of a line, joined by one space
abbrev pub row_from_cells : List Column → List Bytes → Bytes
row_from_cells [] ds = []
row_from_cells (c ∷ cs) [] = []
row_from_cells (c ∷ []) (d ∷ ds) = laid_cell_of c d
row_from_cells (c ∷ k ∷ cs) (d ∷ ds) = laid_cell_of c d ++ 0x20 ∷ row_from_cells (k ∷ cs) ds

unfoldable pub row_of : List Column → Bytes → Bytes
row_of cs l = row_from_cells cs (cells_of l)

abbrev pub rows_of : List Column → List Bytes → List Bytes
rows_of cs [] = []
rows_of cs (l ∷ ls) = row_of cs l ∷ rows_of cs ls

-- ── the first column called `boards`: how many columns come before it; all of them if there is none
unfoldable pub boards_name : Bytes
boards_name = 0x62 ∷ 0x6F ∷ 0x61 ∷ 0x72 ∷ 0x64 ∷ 0x73 ∷ []

abbrev pub boards_at_text : List Bytes → ℕ
boards_at_text [] = 0
boards_at_text (c ∷ cs) = cond (same c boards_name) 0 (suc (boards_at_text cs))

-- its cell in a line; no bytes if the line has no such cell
unfoldable pub boards_cell : ℕ → Bytes → Bytes
boards_cell k l = get_or (cells_of l) k []

-- a decimal whole number up to 65,535 without leading zeros
unfoldable pub is_boards : Bytes → Bool
is_boards s = is_decimal s && leb (value_from 0 s) 65535

-- ── the sum of that column over lines of values, 0 without such a column
unfoldable pub boards_in_text : ℕ → Bytes → ℕ
boards_in_text k l = cond (ltb k (length (cells_of l))) (value_from 0 (boards_cell k l)) 0

abbrev pub boards_sum : ℕ → List Bytes → ℕ
boards_sum k [] = 0
boards_sum k (l ∷ ls) = boards_in_text k l + boards_sum k ls

-- ── the last row: the number of lines of values and that sum, with one space between
unfoldable pub last_row : ℕ → ℕ → Bytes
last_row n sum = decimal n ++ 0x20 ∷ decimal sum

abbrev pub last_of : List Bytes → Bytes
last_of [] = last_row 0 0
last_of (names ∷ values) = last_row (length values) (boards_sum (boards_at_text (cells_of names)) values)

-- ── the sheet: the rows of all lines, that of the names too, and the last row, each ended by 0A
abbrev pub ended : List Bytes → Bytes
ended [] = []
ended (r ∷ rs) = r ++ 0x0A ∷ ended rs

unfoldable pub sheet : List Column → Bytes → Bytes
sheet cs s = ended (rows_of cs (lines_of s) ++ (last_of (lines_of s) ∷ []))

-- ── 39: a number of columns outside 1 to 12, a width outside 1 to 80, an alignment over 2, over 4,096 lines
abbrev pub bad_column_of : Column → Bool
bad_column_of c = not (within 1 80 c.width) || ltb 2 c.alignment

abbrev pub any_bad : List Column → Bool
any_bad [] = false
any_bad (c ∷ cs) = bad_column_of c || any_bad cs

unfoldable pub wrong_columns_of : List ℕ → Bool
wrong_columns_of ns = not (eqb (length ns % 2) 0) || not (within 1 12 (length (columns_of ns))) || any_bad (columns_of ns)

abbrev pub line_limit : ℕ
line_limit = 4096

unfoldable pub shape_fault : List ℕ → List Bytes → ℕ
shape_fault ns ls = refuse_if (wrong_columns_of ns || ltb line_limit (length ls)) 39

-- ── 40: a cell is ill-formed or contains a control character
unfoldable pub cell_fault : Bytes → ℕ
cell_fault c = refuse_if (not (is_clean_text c)) 40

abbrev pub cells_fault : List Bytes → ℕ
cells_fault [] = 0
cells_fault (c ∷ cs) = first_of (cell_fault c ∷ cells_fault cs ∷ [])

-- ── 41: another number of cells than n columns; a cell of the column k that is no such number
unfoldable pub count_fault : ℕ → Bytes → ℕ
count_fault n l = refuse_if (not (eqb (length (cells_of l)) n)) 41

unfoldable pub boards_fault : ℕ → Bytes → ℕ
boards_fault k l = refuse_if (ltb k (length (cells_of l)) && not (is_boards (boards_cell k l))) 41

-- ── line by line: 41 for the number of cells, 40 cell by cell, and in a line of values 41 for the boards
unfoldable pub names_fault : ℕ → Bytes → ℕ
names_fault n l = first_of (count_fault n l ∷ cells_fault (cells_of l) ∷ [])

unfoldable pub values_fault : ℕ → ℕ → Bytes → ℕ
values_fault n k l = first_of (count_fault n l ∷ cells_fault (cells_of l) ∷ boards_fault k l ∷ [])

abbrev pub all_values_fault : ℕ → ℕ → List Bytes → ℕ
all_values_fault n k [] = 0
all_values_fault n k (l ∷ ls) = first_of (values_fault n k l ∷ all_values_fault n k ls ∷ [])

abbrev pub lines_fault : ℕ → List Bytes → ℕ
lines_fault n [] = 0
lines_fault n (names ∷ values) = first_of (names_fault n names ∷ all_values_fault n (boards_at_text (cells_of names)) values ∷ [])

-- 39 first
unfoldable pub tally_fault : List ℕ → Bytes → ℕ
tally_fault ns s = first_of (shape_fault ns (lines_of s) ∷ lines_fault (length (columns_of ns)) (lines_of s) ∷ [])

-- ── the call: 1 of the input before these, 9 and 21 of the sheet after them
unfoldable pub tally_faults : List ℕ → Bytes → Faults
tally_faults ns s = record { lengths = 0; content = recording_fault (bare s); second = 0; added = 0; plain = 0; own = tally_fault ns s }

unfoldable pub tally_result : List ℕ → Bytes → Result
tally_result ns s = record { recording = bare (sheet (columns_of ns) s); lines = []; number = 0 }

-- THE OUTCOME of the call, given its columns' numbers and the input
unfoldable pub tally_outcome : List ℕ → Bytes → Room → Outcome
tally_outcome ns s o = settle (tally_faults ns s) o (tally_result ns s)

-- what the call is lent to write: a data buffer
abbrev pub lent_sheet : Bytes → Lent
lent_sheet bytes = record { data_bytes = bytes; entry_numbers = []; text = []; lines = [] }
