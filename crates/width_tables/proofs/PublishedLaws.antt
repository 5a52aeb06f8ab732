-- Read by the library's own `chars`, what stands in `ByTable.antt` is what the library's contracts cite: each definition there is a faithful copy.
-- The idea: they are the same text, so unfolded they are the same; those that go along a list by induction.
use Prim.Native.Nat.{ℕ, suc, ◌+◌}
use mathlib.Core.Bool.{Bool}
use mathlib.Core.Path.{◌≡◌, refl, ap}
use mathlib.Core.List.{List, [], ◌∷◌}
use lib.ListN.{length}
use Rattle.chars.specs.Chars.{chars, text_width_of}
use Rattle.chars.specs.Cut.{truncate_end_pos_of, truncate_end_width, truncate_start_pos_of, truncate_start_width, zero_width_len_of}
use Rattle.recording.specs.Recording as R
use Rattle.recording.specs.Recording.{Bytes, Recording}
use Rattle.recording.specs.Outcome.{Room}
use Rattle.layout.specs.Wrap.{ByteWord, split_lines, byte_words, words_of, Line, line_numbers, wrapped_line, lines_from, wrap_lines_of}
use Rattle.layout.specs.Layout.{trimmed_start_pos, fill_count_of, Job, with_second, alone, wrapped_lines, replaced_parts, tabs_expanded, result_items, lines_left, number, result_of, Call, outcome}
use Rattle.layout.specs.Layout.{truncated_start, truncated_end, padded_start, padded_end, padded_centered, indented_lines, unindented_lines}
use Rattle.view.specs.View.{hidden, floor_items, floor_outcome}
use Rattle.wrap_lines.specs.WrapBytes.{wrap_bytes_outcome}
use Rattle.cells.specs.Cells.{bare, parts, cutting, cell_text, cell_width, joined, cell_numbers, cells_result, cells_outcome}
use Rattle.elide.specs.Elide.{trimmed, elide_end_of, elide_start_of, elide_end_outcome, elide_start_outcome}
use Rattle.sheet.specs.Sheet.{SheetLine, sheet_lines}
use Rattle.rows.specs.Rows.{line_rows, rows_of, rows_from, body, output}
use Rattle.tally.specs.Tally as T
use Rattle.tally.specs.Tally.{lines_of, cells_of, Column, columns_of, tilde, pad_job, laid_cell_of, row_from_cells, row_of, sheet, tally_result, tally_outcome}
use Rattle.width_tables.specs.ByTable as By

pub width : (d : Bytes) → text_width_of d ≡ By.text_width_of chars d
unfolding text_width_of By.text_width_of
width d = refl

pub end_pos_lem : (m : ℕ) (d : Bytes) → truncate_end_pos_of m d ≡ By.truncate_end_pos_of chars m d
unfolding truncate_end_pos_of By.truncate_end_pos_of
end_pos_lem m d = refl

pub end_width_lem : (m : ℕ) (d : Bytes) → truncate_end_width m d ≡ By.truncate_end_width chars m d
unfolding truncate_end_width By.truncate_end_width
end_width_lem m d = refl

pub start_pos_lem : (m : ℕ) (d : Bytes) → truncate_start_pos_of m d ≡ By.truncate_start_pos_of chars m d
unfolding truncate_start_pos_of By.truncate_start_pos_of
start_pos_lem m d = refl

pub start_width_lem : (m : ℕ) (d : Bytes) → truncate_start_width m d ≡ By.truncate_start_width chars m d
unfolding truncate_start_width By.truncate_start_width
start_width_lem m d = refl

pub zero_width_lem : (d : Bytes) → zero_width_len_of d ≡ By.zero_width_len_of chars d
unfolding zero_width_len_of By.zero_width_len_of
zero_width_lem d = refl

pub trim : (d : Bytes) → trimmed d ≡ By.trimmed chars d
unfolding trimmed By.trimmed zero_width_len_of By.zero_width_len_of
trim d = refl

-- ── wrapping
same_words : (ws : List ByteWord) → words_of ws ≡ By.words_of chars ws
same_words [] = refl
same_words (w ∷ ws) = rw (same_words ws)

same_lines : (w : ℕ) (b : Bool) (at : ℕ) (ls : List Bytes) → lines_from w b at ls ≡ By.lines_from chars w b at ls
unfolding wrapped_line By.wrapped_line
same_lines w b at [] = refl
same_lines w b at (l ∷ ls) = rw (same_words (byte_words l), same_lines w b (suc (at + length l)) ls)

wrap : (w : ℕ) (b : Bool) (d : Bytes) → wrap_lines_of w b d ≡ By.wrap_lines_of chars w b d
unfolding wrap_lines_of By.wrap_lines_of
wrap w b d = same_lines w b 0 (split_lines d)

same_numbers : (d : Bytes) (ls : List Line) → line_numbers d ls ≡ By.line_numbers chars d ls
unfolding text_width_of By.text_width_of
same_numbers d [] = refl
same_numbers d (l ∷ ls) = rw (same_numbers d ls)

-- ── the layout calls
same_items : (j : Job) (r : Recording) → result_items j r ≡ By.result_items chars j r
unfolding result_items By.result_items text_width_of By.text_width_of truncate_end_pos_of By.truncate_end_pos_of truncate_start_pos_of By.truncate_start_pos_of zero_width_len_of By.zero_width_len_of trimmed_start_pos By.trimmed_start_pos fill_count_of By.fill_count_of
same_items (with_second truncated_start m e) r = refl
same_items (with_second truncated_end m e) r = refl
same_items (with_second padded_start m f) r = refl
same_items (with_second padded_end m f) r = refl
same_items (with_second padded_centered m f) r = refl
same_items (with_second indented_lines m p) r = refl
same_items (with_second unindented_lines m p) r = refl
same_items (alone (wrapped_lines w b)) r = rw (wrap w b r.data_bytes)
same_items (alone (replaced_parts xs t)) r = refl
same_items (alone (tabs_expanded s)) r = refl

same_left : (j : Job) (r : Recording) → lines_left j r ≡ By.lines_left chars j r
unfolding lines_left By.lines_left
same_left (with_second k m q) r = refl
same_left (alone (wrapped_lines w b)) r = wrap w b r.data_bytes
same_left (alone (replaced_parts xs t)) r = refl
same_left (alone (tabs_expanded s)) r = refl

same_number : (j : Job) (r : Recording) → number j r ≡ By.number chars j r
unfolding number By.number text_width_of By.text_width_of truncate_end_width By.truncate_end_width truncate_start_width By.truncate_start_width
same_number (with_second truncated_start m e) r = refl
same_number (with_second truncated_end m e) r = refl
same_number (with_second padded_start m f) r = refl
same_number (with_second padded_end m f) r = refl
same_number (with_second padded_centered m f) r = refl
same_number (with_second indented_lines m p) r = refl
same_number (with_second unindented_lines m p) r = refl
same_number (alone (wrapped_lines w b)) r = rw (wrap w b r.data_bytes)
same_number (alone (replaced_parts xs t)) r = refl
same_number (alone (tabs_expanded s)) r = refl

pub layout : (c : Call) (r : Recording) → outcome c r ≡ By.outcome chars c r
unfolding outcome By.outcome result_of By.result_of
layout c r = rw (same_items c.job r, same_left c.job r, same_numbers r.data_bytes (By.lines_left chars c.job r), same_number c.job r)

-- ── the floor's reading
pub floor : (l : Bytes) (o : Room) (r : Recording) → floor_outcome l o r ≡ By.floor_outcome chars l o r
unfolding floor_outcome By.floor_outcome floor_items By.floor_items hidden By.hidden
floor l o r = refl

-- ── `wrap_bytes`
pub wrap-bytes : (w : ℕ) (b : Bool) (d : Bytes) (room : ℕ) → wrap_bytes_outcome w b d room ≡ By.wrap_bytes_outcome chars w b d room
unfolding wrap_bytes_outcome By.wrap_bytes_outcome
wrap-bytes w b d room = rw (wrap w b d, same_numbers d (By.wrap_lines_of chars w b d))

-- ── a page of cells
cell_text_lem : (m : ℕ) (e c : Bytes) → cell_text m e c ≡ By.cell_text chars m e c
unfolding cell_text By.cell_text
cell_text_lem m e c = ap R.data_of (same_items (cutting m e) (bare c))

cell_width_lem : (m : ℕ) (e c : Bytes) → cell_width m e c ≡ By.cell_width chars m e c
unfolding cell_width By.cell_width
cell_width_lem m e c = same_number (cutting m e) (bare c)

same_joined : (m : ℕ) (e : Bytes) (cs : List Bytes) → joined m e cs ≡ By.joined chars m e cs
same_joined m e [] = refl
same_joined m e (c ∷ cs) = rw (cell_text_lem m e c, same_joined m e cs)

cell_numbers_lem : (m : ℕ) (e : Bytes) (at : ℕ) (cs : List Bytes) → cell_numbers m e at cs ≡ By.cell_numbers chars m e at cs
cell_numbers_lem m e at [] = refl
cell_numbers_lem m e at (c ∷ cs) = rw (cell_text_lem m e c, cell_width_lem m e c, cell_numbers_lem m e (at + length (By.cell_text chars m e c)) cs)

pub cells : (m : ℕ) (ends : List ℕ) (e d : Bytes) (o : Room) → cells_outcome m ends e d o ≡ By.cells_outcome chars m ends e d o
unfolding cells_outcome By.cells_outcome cells_result By.cells_result
cells m ends e d o = rw (same_joined m e (parts ends d), cell_numbers_lem m e 0 (parts ends d))

-- ── plain text
pub elide_end_lem : (n : ℕ) (s e : Bytes) (m : ℕ) → elide_end_outcome n s e m ≡ By.elide_end_outcome chars n s e m
unfolding elide_end_outcome By.elide_end_outcome elide_end_of By.elide_end_of text_width_of By.text_width_of
elide_end_lem n s e m = refl

pub elide_start_lem : (n : ℕ) (s e : Bytes) (m : ℕ) → elide_start_outcome n s e m ≡ By.elide_start_outcome chars n s e m
unfolding elide_start_outcome By.elide_start_outcome elide_start_of By.elide_start_of text_width_of By.text_width_of trimmed By.trimmed zero_width_len_of By.zero_width_len_of
elide_start_lem n s e m = refl

-- ── `wraplist`
line_rows_lem : (d : Bytes) (r k : ℕ) (ls : List Line) → line_rows d r k ls ≡ By.line_rows chars d r k ls
unfolding text_width_of By.text_width_of
line_rows_lem d r k [] = refl
line_rows_lem d r k (l ∷ ls) = rw (line_rows_lem d r (suc k) ls)

same_rows : (r : ℕ) (l : SheetLine) → rows_of r l ≡ By.rows_of chars r l
unfolding rows_of By.rows_of
same_rows r l = rw (wrap _ _ _, line_rows_lem _ _ _ _)

rows_from_lem : (r : ℕ) (ls : List SheetLine) → rows_from r ls ≡ By.rows_from chars r ls
rows_from_lem r [] = refl
rows_from_lem r (l ∷ ls) = rw (same_rows r l, rows_from_lem (suc r) ls)

same_body : (ls : List SheetLine) → body ls ≡ By.body chars ls
same_body [] = refl
same_body (l ∷ ls) = rw (rows_from_lem 0 ls)

pub wraplist : (s : Bytes) → output s ≡ By.output chars s
unfolding output By.output
wraplist s = rw (same_body (sheet_lines s))

-- ── the tally sheet
laid_cell : (c : Column) (d : Bytes) → laid_cell_of c d ≡ By.laid_cell_of chars c d
unfolding laid_cell_of By.laid_cell_of
laid_cell c d = rw (cell_text_lem c.width tilde d) (ap R.data_of (same_items (pad_job c.alignment c.width) (bare (By.cell_text chars c.width tilde d))))

row_from : (cs : List Column) (ds : List Bytes) → row_from_cells cs ds ≡ By.row_from_cells chars cs ds
row_from [] ds = refl
row_from (c ∷ cs) [] = refl
row_from (c ∷ []) (d ∷ ds) = laid_cell c d
row_from (c ∷ k ∷ cs) (d ∷ ds) = rw (laid_cell c d, row_from (k ∷ cs) ds)

row_of_lem : (cs : List Column) (l : Bytes) → row_of cs l ≡ By.row_of chars cs l
unfolding row_of By.row_of
row_of_lem cs l = row_from cs (cells_of l)

tally_rows_lem : (cs : List Column) (ls : List Bytes) → T.rows_of cs ls ≡ By.tally_rows chars cs ls
tally_rows_lem cs [] = refl
tally_rows_lem cs (l ∷ ls) = rw (row_of_lem cs l, tally_rows_lem cs ls)

pub tally : (ns : List ℕ) (s : Bytes) (o : Room) → tally_outcome ns s o ≡ By.tally_outcome chars ns s o
unfolding tally_outcome By.tally_outcome tally_result By.tally_result sheet By.sheet
tally ns s o = rw (tally_rows_lem (columns_of ns) (lines_of s))
