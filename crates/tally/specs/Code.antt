-- What the code's contracts cite: a column from its two numbers, the pieces of a row as they are written and measured, and what is scanned for.
use Rattle.std.specs.Prelude.{ℕ, ◌+◌, ◌-◌, ◌/◌, ◌≤◌, Bool, true, false, cond, ◌&&◌, ◌≡◌, List, [], ◌∷◌, ◌++◌, ltb, eqb, length}
use Rattle.chars.specs.Chars.{text_width_of, well_formed_of}
use Rattle.controls.specs.Controls.{is_clean_text}
use Rattle.recording.specs.Lists.{AllOf}
use Rattle.recording.specs.Recording.{Bytes}
use Rattle.recording.specs.Refusals.{data_limit}
use Rattle.cells.specs.Cells.{cell_text}
use Rattle.sheet.specs.Sheet.{sheet_lines}
use Rattle.tally.specs.Tally.{texts_of, lines_of, cells_of, Column, columns_of, tilde, row_of, rows_of, boards_at_text, boards_sum, ended, any_bad, wrong_columns_of}

abbrev pub column : ℕ → ℕ → Column
column w a = record { width = w; alignment = a }

-- of n spaces: none before at alignment 0, all at 1, half, rounded down, at 2
unfoldable pub before_of : ℕ → ℕ → ℕ
before_of a n = cond (eqb a 0) 0 (cond (eqb a 1) n (n / 2))

-- the byte after the cell i of n: a space if another follows, else the 0A of the row
unfoldable pub gap_after : ℕ → ℕ → ℕ
gap_after i n = cond (ltb (i + 1) n) 0x20 0x0A

-- the bytes of a laid-out cell: what is kept, and the spaces that are missing to the width
unfoldable pub laid_len : ℕ → Bytes → ℕ
laid_len w d = length (cell_text w tilde d) + (w - text_width_of (cell_text w tilde d))

abbrev pub cells_clean : List Bytes → Bool
cells_clean [] = true
cells_clean (d ∷ ds) = is_clean_text d && cells_clean ds

-- the lines of what is left of an input
abbrev pub lines_left : Bytes → List Bytes
lines_left s = texts_of (sheet_lines s)

-- a row with its 0A
abbrev pub line_of : List ℕ → Bytes → Bytes
line_of ns l = row_of (columns_of ns) l ++ (0x0A ∷ [])

-- the rows of some lines, each with its 0A
abbrev pub lines_text : List ℕ → List Bytes → Bytes
lines_text ns ls = ended (rows_of (columns_of ns) ls)

-- what is known of an input of n lines before any of them is looked at
pub record Tested (ns : List ℕ) (s : Bytes) (n : ℕ) : Type 0 where
  pub short : length s ≤ data_limit
  pub right : wrong_columns_of ns ≡ false
  pub count : n ≡ length (lines_of s)
  pub few : n ≤ 4096

-- the cells of a line fit its columns: what a line that is not turned away has
pub record Fit (ns : List ℕ) (l : Bytes) : Type 0 where
  pub some : 1 ≤ length (columns_of ns)
  pub columns : any_bad (columns_of ns) ≡ false
  pub formed : AllOf (λ d. well_formed_of d ≡ true) (cells_of l)
  pub many : length (cells_of l) ≡ length (columns_of ns)

-- the sum of all lines
abbrev pub sum_of : List Bytes → ℕ
sum_of [] = 0
sum_of (names ∷ values) = boards_sum (boards_at_text (cells_of names)) values
