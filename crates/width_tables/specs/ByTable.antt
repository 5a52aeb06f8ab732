-- The calls by any table of widths. Each definition that reads a text as characters for their widths stands here as in its own crate, word for word and in the crates' order, over any way to read.
-- By the library's own `chars` they are the library's definitions (`Published`, `Tables.antt`). What is taken from other crates asks no width but of characters that it is given.
use Rattle.std.specs.Prelude.{ℕ, suc, ◌+◌, ◌-◌, ◌/◌, Bool, true, cond, ◌&&◌, List, [], ◌∷◌, ◌++◌, reverse, leb, ltb, length, drop}
use Rattle.chars.specs.Width.{Range, width_in}
use Rattle.chars.specs.Chars.{Character, chars, bytes_of, width_of}
use Rattle.chars.specs.Cut.{kept_within, leading_zero_width_of}
use Rattle.recording.specs.Lists.{same}
use Rattle.recording.specs.Recording.{Bytes, Recording, Item, items, encode}
use Rattle.recording.specs.Recording as R
use Rattle.recording.specs.Coloured.{coloured}
use Rattle.recording.specs.Edit.{Op, edit}
use Rattle.recording.specs.Outcome.{Room, Result, Outcome, settle, no_recording, line_room}
use Rattle.recorder.specs.Recorder.{leaves}
use Rattle.layout.specs.Tabs.{tab_ops}
use Rattle.layout.specs.Unindent.{unindent_ops}
use Rattle.layout.specs.Wrap.{ByteWord, Word, split_lines, byte_words, split_words_at_width, first_fit_of, Line, line_bytes, group_lines}
use Rattle.layout.specs.Layout.{cut_end_of, cut_start_of, padding, indent_ops, wrap_ops, replace_ops, Job, with_second, alone, Single, wrapped_lines, replaced_parts, tabs_expanded, Call, faults_of}
use Rattle.layout.specs.Layout.{truncated_start, truncated_end, padded_start, padded_end, padded_centered, indented_lines, unindented_lines}
use Rattle.view.specs.View.{hidden_from, floor_ops, drop_raws, view_faults}
use Rattle.wrap_lines.specs.WrapBytes.{wrap_faults}
use Rattle.cells.specs.Cells.{bare, parts, cutting, cells_faults}
use Rattle.elide.specs.Elide.{cut_at_end, cut_at_start, fit_at_end, fit_at_start, Elided, elided, plain_result, plain_room, plain_faults}
use Rattle.sheet.specs.Sheet.{SheetLine, sheet_lines, value_from, break_of_text, data_of, width_field, break_field, data_field, good_line}
use Rattle.rows.specs.Rows.{row_text, bad_row, sheet_heading, rows_heading, sheet_limit}
use Rattle.tally.specs.Tally.{lines_of, cells_of, Column, columns_of, tilde, pad_job, last_of, ended, tally_faults}

-- the characters of a text, each as wide as the table says
abbrev pub at_widths : List Range → List Character → List Character
at_widths table [] = []
at_widths table (c ∷ cs) = record { text = c.text; code = c.code; columns = width_in table c.code; ok = c.ok } ∷ at_widths table cs

unfoldable pub chars_by : List Range → Bytes → List Character
chars_by table d = at_widths table (chars d)

module _ (chars : Bytes → List Character) where
  -- ── chars: the width of a text, its cuts, its leading zero-width characters
  unfoldable pub text_width_of : Bytes → ℕ
  text_width_of bs = width_of (chars bs)

  unfoldable pub truncate_end_pos_of : ℕ → Bytes → ℕ
  truncate_end_pos_of m d = length (bytes_of (kept_within m (chars d)))

  unfoldable pub truncate_end_width : ℕ → Bytes → ℕ
  truncate_end_width m d = width_of (kept_within m (chars d))

  unfoldable pub truncate_start_pos_of : ℕ → Bytes → ℕ
  truncate_start_pos_of m d = length d - length (bytes_of (kept_within m (reverse (chars d))))

  unfoldable pub truncate_start_width : ℕ → Bytes → ℕ
  truncate_start_width m d = width_of (kept_within m (reverse (chars d)))

  unfoldable pub zero_width_len_of : Bytes → ℕ
  zero_width_len_of d = length (bytes_of (leading_zero_width_of (chars d)))

  -- ── layout: wrapping
  abbrev pub word_of : ByteWord → Word
  word_of r = record { body = chars r.text; space = r.gap }

  abbrev pub words_of : List ByteWord → List Word
  words_of [] = []
  words_of (r ∷ rs) = word_of r ∷ words_of rs

  abbrev pub line_width : Bytes → Line → ℕ
  line_width d l = text_width_of (line_bytes d l)

  abbrev pub line_numbers : Bytes → List Line → List ℕ
  line_numbers d [] = []
  line_numbers d (l ∷ ls) = l.first ∷ l.end ∷ line_width d l ∷ line_numbers d ls

  unfoldable pub wrapped_line : ℕ → Bool → Bytes → List (List Word)
  wrapped_line w b l = first_fit_of w (split_words_at_width w b (words_of (byte_words l)))

  abbrev pub lines_from : ℕ → Bool → ℕ → List Bytes → List Line
  lines_from w b at [] = []
  lines_from w b at (l ∷ ls) = group_lines at (wrapped_line w b l) ++ lines_from w b (suc (at + length l)) ls

  unfoldable pub wrap_lines_of : ℕ → Bool → Bytes → List Line
  wrap_lines_of w b d = lines_from w b 0 (split_lines d)

  -- ── layout: the calls
  unfoldable pub trimmed_start_pos : ℕ → Bytes → ℕ
  trimmed_start_pos m d = let k = truncate_start_pos_of m d in k + zero_width_len_of (drop k d)

  unfoldable pub fill_count_of : ℕ → Bytes → ℕ
  fill_count_of min d = min - text_width_of d

  abbrev pub single_ops : Single → Bytes → List Op
  single_ops (wrapped_lines w b) d = wrap_ops (length d) 0 (wrap_lines_of w b d)
  single_ops (replaced_parts xs t) d = replace_ops t 0 xs
  single_ops (tabs_expanded s) d = tab_ops s 0 (chars d)

  abbrev pub single_lines : Single → Bytes → List Line
  single_lines (wrapped_lines w b) d = wrap_lines_of w b d
  single_lines (replaced_parts xs t) d = []
  single_lines (tabs_expanded s) d = []

  unfoldable pub result_items : Job → Recording → List Item
  result_items (with_second truncated_start m e) r =
      cond (ltb m (text_width_of r.data_bytes))
      (edit (cut_start_of (trimmed_start_pos m e.data_bytes)) (items e) ++ edit (cut_start_of (trimmed_start_pos (m - text_width_of e.data_bytes) r.data_bytes)) (items r))
      (edit (cut_start_of (zero_width_len_of r.data_bytes)) (items r))
  result_items (with_second truncated_end m e) r =
      cond (ltb m (text_width_of r.data_bytes))
      (edit (cut_end_of (truncate_end_pos_of (m - text_width_of e.data_bytes) r.data_bytes) r.data_bytes) (items r)
      ++ edit (cut_end_of (truncate_end_pos_of m e.data_bytes) e.data_bytes) (items e))
      (items r)
  result_items (with_second padded_start m f) r = padding (fill_count_of m r.data_bytes) (items f) ++ items r
  result_items (with_second padded_end m f) r = items r ++ padding (fill_count_of m r.data_bytes) (items f)
  result_items (with_second padded_centered m f) r =
      let n = fill_count_of m r.data_bytes in padding (n / 2) (items f) ++ (items r ++ padding (n - n / 2) (items f))
  result_items (with_second indented_lines m p) r = edit (indent_ops (items p) true r.data_bytes) (items r)
  result_items (with_second unindented_lines m p) r = edit (unindent_ops (length p.data_bytes) (split_lines r.data_bytes)) (items r)
  result_items (alone s) r = edit (single_ops s r.data_bytes) (items r)

  unfoldable pub lines_left : Job → Recording → List Line
  lines_left (with_second k m q) r = []
  lines_left (alone s) r = single_lines s r.data_bytes

  unfoldable pub number : Job → Recording → ℕ
  number (with_second truncated_start m e) r =
      cond (ltb m (text_width_of r.data_bytes))
      (truncate_start_width m e.data_bytes + truncate_start_width (m - text_width_of e.data_bytes) r.data_bytes) (text_width_of r.data_bytes)
  number (with_second truncated_end m e) r =
      cond (ltb m (text_width_of r.data_bytes))
      (truncate_end_width (m - text_width_of e.data_bytes) r.data_bytes + truncate_end_width m e.data_bytes) (text_width_of r.data_bytes)
  number (with_second padded_start m f) r = 0
  number (with_second padded_end m f) r = 0
  number (with_second padded_centered m f) r = 0
  number (with_second indented_lines m p) r = 0
  number (with_second unindented_lines m p) r = 0
  number (alone (wrapped_lines w b)) r = length (wrap_lines_of w b r.data_bytes)
  number (alone (replaced_parts xs t)) r = 0
  number (alone (tabs_expanded s)) r = 0

  unfoldable pub result_of : Job → Recording → Result
  result_of j r = record { recording = encode (result_items j r); lines = line_numbers r.data_bytes (lines_left j r); number = number j r }

  unfoldable pub outcome : Call → Recording → Outcome
  outcome c r = settle (faults_of c.job r) c.room (result_of c.job r)

  -- ── view: the floor's stars; the office's reading asks no width
  unfoldable pub hidden : Bytes → Recording → List Bool
  hidden l r = hidden_from l (chars r.data_bytes) (coloured r)

  unfoldable pub floor_items : Bytes → Recording → List Item
  floor_items l r = edit (floor_ops (hidden l r) (chars r.data_bytes)) (drop_raws l [] (items r))

  abbrev pub floor_of : Bytes → Recording → Recording
  floor_of l r = encode (floor_items l r)

  unfoldable pub floor_outcome : Bytes → Room → Recording → Outcome
  floor_outcome l o r = settle (view_faults l r) o (leaves (floor_of l r))

  -- ── wrap_lines
  abbrev pub wrap_result : ℕ → Bool → Bytes → Result
  wrap_result w b d = record { recording = no_recording; lines = line_numbers d (wrap_lines_of w b d); number = length (wrap_lines_of w b d) }

  unfoldable pub wrap_bytes_outcome : ℕ → Bool → Bytes → ℕ → Outcome
  wrap_bytes_outcome w b d room = settle (wrap_faults d) (line_room room) (wrap_result w b d)

  -- ── cells
  unfoldable pub cell_text : ℕ → Bytes → Bytes → Bytes
  cell_text m e cell = R.data_of (result_items (cutting m e) (bare cell))

  unfoldable pub cell_width : ℕ → Bytes → Bytes → ℕ
  cell_width m e cell = number (cutting m e) (bare cell)

  abbrev pub joined : ℕ → Bytes → List Bytes → Bytes
  joined m e [] = []
  joined m e (cell ∷ cells) = cell_text m e cell ++ joined m e cells

  abbrev pub cell_numbers : ℕ → Bytes → ℕ → List Bytes → List ℕ
  cell_numbers m e at [] = []
  cell_numbers m e at (cell ∷ cells) = (at + length (cell_text m e cell)) ∷ cell_width m e cell ∷ cell_numbers m e (at + length (cell_text m e cell)) cells

  unfoldable pub cells_result : ℕ → List ℕ → Bytes → Bytes → Result
  cells_result m ends e d = record { recording = bare (joined m e (parts ends d)); lines = cell_numbers m e 0 (parts ends d); number = length ends }

  unfoldable pub cells_outcome : ℕ → List ℕ → Bytes → Bytes → Room → Outcome
  cells_outcome m ends e d o = settle (cells_faults ends e d) o (cells_result m ends e d)

  -- ── elide
  unfoldable pub trimmed : Bytes → Bytes
  trimmed s = drop (zero_width_len_of s) s

  unfoldable pub elide_end_of : ℕ → Bytes → Bytes → Elided
  elide_end_of m s e =
      cond (ltb m (text_width_of s))
      (cond (ltb m (text_width_of e))
      (let kept = cut_at_end m (chars e) in elided (bytes_of kept) (width_of kept))
      (let kept = fit_at_end m (text_width_of e) (chars s) in elided (bytes_of kept ++ e) (width_of kept + text_width_of e)))
      (elided s (text_width_of s))

  unfoldable pub elide_start_of : ℕ → Bytes → Bytes → Elided
  elide_start_of m s e =
      cond (ltb m (text_width_of s))
      (cond (ltb m (text_width_of e))
      (let kept = cut_at_start m (chars e) in elided (trimmed (bytes_of kept)) (width_of kept))
      (let kept = fit_at_start m (text_width_of e) (chars s) in elided (e ++ trimmed (bytes_of kept)) (width_of kept + text_width_of e)))
      (elided s (text_width_of s))

  unfoldable pub elide_end_outcome : ℕ → Bytes → Bytes → ℕ → Outcome
  elide_end_outcome n s e m = let x = elide_end_of m s e in settle (plain_faults s e) (plain_room n) (plain_result x.text x.columns)

  unfoldable pub elide_start_outcome : ℕ → Bytes → Bytes → ℕ → Outcome
  elide_start_outcome n s e m = let x = elide_start_of m s e in settle (plain_faults s e) (plain_room n) (plain_result x.text x.columns)

  -- ── rows: what `wraplist` prints
  abbrev pub line_rows : Bytes → ℕ → ℕ → List Line → Bytes
  line_rows d r k [] = []
  line_rows d r k (l ∷ ls) = row_text r k l.first l.end (line_width d l) ++ line_rows d r (suc k) ls

  abbrev pub wrap_rows : ℕ → ℕ → Bool → Bytes → Bytes
  wrap_rows r w b d = line_rows d r 0 (wrap_lines_of w b d)

  unfoldable pub rows_of : ℕ → SheetLine → Bytes
  rows_of r l =
      cond (l.ended && good_line l.text)
      (wrap_rows r (value_from 0 (width_field l.text)) (break_of_text (break_field l.text)) (data_of (data_field l.text)))
      (bad_row r)

  abbrev pub rows_from : ℕ → List SheetLine → Bytes
  rows_from r [] = []
  rows_from r (l ∷ ls) = rows_of r l ++ rows_from (suc r) ls

  abbrev pub body : List SheetLine → Bytes
  body [] = bad_row 0
  body (l ∷ ls) = cond (l.ended && same l.text sheet_heading) (rows_from 0 ls) (bad_row 0)

  unfoldable pub output : Bytes → Bytes
  output s = rows_heading ++ cond (leb (length s) sheet_limit) (body (sheet_lines s)) (bad_row 0)

  -- ── tally: a laid-out cell, cut and then padded; what is turned away for its columns, cells and counts asks no width
  unfoldable pub laid_cell_of : Column → Bytes → Bytes
  laid_cell_of c d = R.data_of (result_items (pad_job c.alignment c.width) (bare (cell_text c.width tilde d)))

  -- a row: the cells of a line, joined by one space
  abbrev pub row_from_cells : List Column → List Bytes → Bytes
  row_from_cells [] ds = []
  row_from_cells (c ∷ cs) [] = []
  row_from_cells (c ∷ []) (d ∷ ds) = laid_cell_of c d
  row_from_cells (c ∷ k ∷ cs) (d ∷ ds) = laid_cell_of c d ++ 0x20 ∷ row_from_cells (k ∷ cs) ds

  unfoldable pub row_of : List Column → Bytes → Bytes
  row_of cs l = row_from_cells cs (cells_of l)

  -- the crate's `rows_of`; that of `rows` stands above
  abbrev pub tally_rows : List Column → List Bytes → List Bytes
  tally_rows cs [] = []
  tally_rows cs (l ∷ ls) = row_of cs l ∷ tally_rows cs ls

  -- the sheet: the rows of all lines, that of the names too, and the last row, each ended by 0A
  unfoldable pub sheet : List Column → Bytes → Bytes
  sheet cs s = ended (tally_rows cs (lines_of s) ++ (last_of (lines_of s) ∷ []))

  unfoldable pub tally_result : List ℕ → Bytes → Result
  tally_result ns s = record { recording = bare (sheet (columns_of ns) s); lines = []; number = 0 }

  -- the outcome of the call, given its columns' numbers and the input: 9 and 21 are those of the sheet by this table
  unfoldable pub tally_outcome : List ℕ → Bytes → Room → Outcome
  tally_outcome ns s o = settle (tally_faults ns s) o (tally_result ns s)
