-- The output of `wraplist` (document 01, module 7): the whole of what is printed for a sheet.
use Rattle.std.specs.Prelude.{ℕ, suc, ◌≡◌, ◌+◌, ◌≤◌, Bool, cond, ◌&&◌, List, [], ◌∷◌, ◌++◌, leb, length}
use Rattle.recording.specs.Lists.{same}
use Rattle.recording.specs.Recording.{Bytes}
use Rattle.layout.specs.Wrap.{Line, line_width, wrap_lines_of}
use Rattle.sheet.specs.Sheet.{SheetLine, sheet_lines, value_from, break_of_text, data_of, width_field, break_field, data_field, good_line}
use Rattle.sheet.specs.Decimal.{field}
use Rattle.rows.specs.declared.Task.{Task}

-- ── the rows: five numbers by single spaces, ended by 0A
unfoldable pub row_text : ℕ → ℕ → ℕ → ℕ → ℕ → Bytes
row_text r k a e w = field r 0x20 ++ (field k 0x20 ++ (field a 0x20 ++ (field e 0x20 ++ field w 0x0A)))

-- `! 0 0` after the row's number
unfoldable pub bad_row : ℕ → Bytes
bad_row r = field r 0x20 ++ (0x21 ∷ 0x20 ∷ 0x30 ∷ 0x20 ∷ 0x30 ∷ 0x0A ∷ [])

-- line in the row from k on, first byte, end, width; d is the row's data
abbrev pub line_rows : Bytes → ℕ → ℕ → List Line → Bytes
line_rows d r k [] = []
line_rows d r k (l ∷ ls) = row_text r k l.first l.end (line_width d l) ++ line_rows d r (suc k) ls

-- the same from the numbers of a line list
abbrev pub number_rows : ℕ → ℕ → List ℕ → Bytes
number_rows r k [] = []
number_rows r k (a ∷ []) = []
number_rows r k (a ∷ e ∷ []) = []
number_rows r k (a ∷ e ∷ w ∷ ns) = row_text r k a e w ++ number_rows r (suc k) ns

-- the rows of a value line's data
abbrev pub wrap_rows : ℕ → ℕ → Bool → Bytes → Bytes
wrap_rows r w b d = line_rows d r 0 (wrap_lines_of w b d)

-- what a value line gives; a last line without 0A is a bad one
unfoldable pub rows_of : ℕ → SheetLine → Bytes
rows_of r l =
    cond (l.ended && good_line l.text)
    (wrap_rows r (value_from 0 (width_field l.text)) (break_of_text (break_field l.text)) (data_of (data_field l.text)))
    (bad_row r)

-- t is what a right value line says, whose data has two digits less than the line at most
pub record Says (l : Bytes) (t : Task) : Type 0 where
  pub width : t.width ≡ value_from 0 (width_field l)
  pub breaks : t.breaks ≡ break_of_text (break_field l)
  pub hex : t.hex.now ≡ data_field l
  pub short : (length t.hex.now ≤ 8000) × (length t.hex.now + 2 ≤ length l)

-- row from r on: every value line counts, bad ones too
abbrev pub rows_from : ℕ → List SheetLine → Bytes
rows_from r [] = []
rows_from r (l ∷ ls) = rows_of r l ++ rows_from (suc r) ls

-- ── the sheet
-- `width break bytes`
unfoldable pub sheet_heading : Bytes
sheet_heading = 0x77 ∷ 0x69 ∷ 0x64 ∷ 0x74 ∷ 0x68 ∷ 0x20 ∷ 0x62 ∷ 0x72 ∷ 0x65 ∷ 0x61 ∷ 0x6B ∷ 0x20 ∷ 0x62 ∷ 0x79 ∷ 0x74 ∷ 0x65 ∷ 0x73 ∷ []

-- `row line start end width`, ended by 0A
unfoldable pub rows_heading : Bytes
rows_heading =
    0x72 ∷ 0x6F ∷ 0x77 ∷ 0x20 ∷ 0x6C ∷ 0x69 ∷ 0x6E ∷ 0x65 ∷ 0x20 ∷ 0x73 ∷ 0x74 ∷ 0x61 ∷ 0x72 ∷ 0x74 ∷ 0x20 ∷ 0x65 ∷ 0x6E ∷ 0x64 ∷ 0x20 ∷ 0x77 ∷ 0x69 ∷ 0x64 ∷ 0x74 ∷ 0x68 ∷ 0x0A ∷ []

abbrev pub sheet_limit : ℕ
sheet_limit = 65536

-- how many bytes are read at most: the one over the limit tells that a sheet is too long (law `read_enough`)
abbrev pub read_limit : ℕ
read_limit = suc sheet_limit

-- the first line must be exactly the heading
abbrev pub body : List SheetLine → Bytes
body [] = bad_row 0
body (l ∷ ls) = cond (l.ended && same l.text sheet_heading) (rows_from 0 ls) (bad_row 0)

-- a bad first line or size gives the heading, then `0 ! 0 0` only
unfoldable pub output : Bytes → Bytes
output s = rows_heading ++ cond (leb (length s) sheet_limit) (body (sheet_lines s)) (bad_row 0)
