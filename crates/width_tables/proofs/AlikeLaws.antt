-- Every call by two tables is the same, if each character of the texts lent is as wide by both.
-- The idea: a call reads the texts that it is lent and parts of them, and the characters of the parts are the texts' (`PieceLaws`); then `rw`.
use Prim.Native.Nat.{ℕ, zero, suc, ◌+◌, ◌-◌}
use native.Mathlib.Omega.{arith}
use mathlib.Core.Bool.{Bool, true, false, cond, ◌&&◌}
use mathlib.Core.Path.{◌≡◌, refl, sym, ap}
use mathlib.Core.List.{List, [], ◌∷◌, ◌++◌, reverse, tail}
use lib.Dec.{ltb}
use lib.ListN.{length, take, drop}
use Rattle.chars.specs.Width.{Range}
use Rattle.chars.specs.Chars.{Character, bytes_of, width_of}
use Rattle.chars.specs.Cut.{kept_within, leading_zero_width_of}
use Rattle.chars.proofs.SeamLaws.{Low}
use Rattle.recording.specs.Lists.{AllOf}
use Rattle.recording.specs.Recording.{Bytes, Recording, Item, items}
use Rattle.recording.specs.Recording as R
use Rattle.recording.specs.Edit.{edit}
use Rattle.recording.specs.Outcome.{Room}
use Rattle.recording.proofs.Lists.{all_left, all_right}
use Rattle.recording.proofs.EditLaws.{data_append}
use Rattle.recording.proofs.ItemsLaws.{data_items}
use Rattle.layout.specs.Wrap.{ByteWord, Word, split_lines, byte_words, split_words_at_width, first_fit_of, Line, line_bytes}
use Rattle.layout.specs.Layout.{cut_end_of, Job, with_second, alone, wrapped_lines, replaced_parts, tabs_expanded, Call}
use Rattle.layout.specs.Layout.{truncated_start, truncated_end, padded_start, padded_end, padded_centered, indented_lines, unindented_lines}
use Rattle.layout.proofs.TwiceLaws.{join_lines_lem, cuts}
use Rattle.truncate.proofs.CutLaws.{up_to_run}
use Rattle.cells.specs.Cells.{bare, parts, cutting}
use Rattle.elide.specs.Elide.{cut_at_start, fit_at_start}
use Rattle.elide.proofs.ElideLaws.{cut_start_lem, fit_start}
use Rattle.sheet.specs.Sheet.{SheetLine, sheet_lines, value_from, break_of_text, data_of, width_field, break_field, data_field, good_line}
use Rattle.rows.specs.Rows.{bad_row}
use Rattle.tally.specs.Tally.{lines_of, cells_of, Column, columns_of, tilde, pad_job}
use Rattle.width_tables.specs.ByTable as By
use Rattle.width_tables.specs.ByTable.{chars_by}
use Rattle.width_tables.specs.Tables.{lent_to, all_cells, value_text, value_texts, AsWide}
use Rattle.width_tables.proofs.CharacterLaws.{same_chars}
use Rattle.width_tables.proofs.PieceLaws.{Plain, beginning, joined_low, ending, kept, lines, WordPlain, words, shown_lines}

module _ (t u : List Range) where
  -- the character is as wide by both
  abbrev pub Same : Character → Type 0
  Same c = AsWide t u c.code

  abbrev pub Alike : Bytes → Type 0
  Alike d = Plain Same d

  reads : (d : Bytes) → Alike d → chars_by t d ≡ chars_by u d
  reads d h = same_chars t u d h

  -- ── questions about one text
  pub width : (d : Bytes) → Alike d → By.text_width_of (chars_by t) d ≡ By.text_width_of (chars_by u) d
  unfolding By.text_width_of
  width d h = ap width_of (reads d h)

  pub end_pos_lem : (m : ℕ) (d : Bytes) → Alike d → By.truncate_end_pos_of (chars_by t) m d ≡ By.truncate_end_pos_of (chars_by u) m d
  unfolding By.truncate_end_pos_of
  end_pos_lem m d h = ap (λ (cs : List Character). length (bytes_of (kept_within m cs))) (reads d h)

  pub end_width_lem : (m : ℕ) (d : Bytes) → Alike d → By.truncate_end_width (chars_by t) m d ≡ By.truncate_end_width (chars_by u) m d
  unfolding By.truncate_end_width
  end_width_lem m d h = ap (λ (cs : List Character). width_of (kept_within m cs)) (reads d h)

  pub start_pos_lem : (m : ℕ) (d : Bytes) → Alike d → By.truncate_start_pos_of (chars_by t) m d ≡ By.truncate_start_pos_of (chars_by u) m d
  unfolding By.truncate_start_pos_of
  start_pos_lem m d h = ap (λ (cs : List Character). length d - length (bytes_of (kept_within m (reverse cs)))) (reads d h)

  pub start_width_lem : (m : ℕ) (d : Bytes) → Alike d → By.truncate_start_width (chars_by t) m d ≡ By.truncate_start_width (chars_by u) m d
  unfolding By.truncate_start_width
  start_width_lem m d h = ap (λ (cs : List Character). width_of (kept_within m (reverse cs))) (reads d h)

  pub zero_width_lem : (d : Bytes) → Alike d → By.zero_width_len_of (chars_by t) d ≡ By.zero_width_len_of (chars_by u) d
  unfolding By.zero_width_len_of
  zero_width_lem d h = ap (λ (cs : List Character). length (bytes_of (leading_zero_width_of cs))) (reads d h)

  trimmed_pos_lem : (m : ℕ) (d : Bytes) → Alike d → By.trimmed_start_pos (chars_by t) m d ≡ By.trimmed_start_pos (chars_by u) m d
  unfolding By.trimmed_start_pos
  trimmed_pos_lem m d h = rw (start_pos_lem m d h, zero_width_lem (drop (By.truncate_start_pos_of (chars_by u) m d) d) (kept Same u m d h))

  fill : (m : ℕ) (d : Bytes) → Alike d → By.fill_count_of (chars_by t) m d ≡ By.fill_count_of (chars_by u) m d
  unfolding By.fill_count_of
  fill m d h = rw (width d h)

  -- ── wrapping
  same_words : (ws : List ByteWord) → AllOf (WordPlain Same) ws → By.words_of (chars_by t) ws ≡ By.words_of (chars_by u) ws
  same_words [] h = refl
  same_words (w ∷ ws) h = rw (reads w.text h.0, same_words ws h.1)

  same_line : (w : ℕ) (b : Bool) (l : Bytes) → Alike l → By.wrapped_line (chars_by t) w b l ≡ By.wrapped_line (chars_by u) w b l
  unfolding By.wrapped_line
  same_line w b l h = ap (λ (vs : List Word). first_fit_of w (split_words_at_width w b vs)) (same_words (byte_words l) (words Same l h))

  same_lines : (w : ℕ) (b : Bool) (at : ℕ) (ls : List Bytes) → AllOf Alike ls → By.lines_from (chars_by t) w b at ls ≡ By.lines_from (chars_by u) w b at ls
  same_lines w b at [] h = refl
  same_lines w b at (l ∷ ls) h = rw (same_line w b l h.0, same_lines w b (suc (at + length l)) ls h.1)

  wrap : (w : ℕ) (b : Bool) (d : Bytes) → Alike d → By.wrap_lines_of (chars_by t) w b d ≡ By.wrap_lines_of (chars_by u) w b d
  unfolding By.wrap_lines_of
  wrap w b d h = same_lines w b 0 (split_lines d) (lines Same d h)

  -- the lines' bytes are characters of the data, so their widths are the same too
  wrap-shown : (w : ℕ) (b : Bool) (d : Bytes) → Alike d → AllOf Alike (cuts d (By.wrap_lines_of (chars_by u) w b d))
  unfolding By.wrap_lines_of
  wrap-shown w b d h = shown_lines Same u w b d 0 (split_lines d) (sym (join_lines_lem d)) (lines Same d h)

  same_numbers : (d : Bytes) (ls : List Line) → AllOf Alike (cuts d ls) → By.line_numbers (chars_by t) d ls ≡ By.line_numbers (chars_by u) d ls
  same_numbers d [] h = refl
  same_numbers d (l ∷ ls) h = rw (width (line_bytes d l) h.0, same_numbers d ls h.1)

  listed : (w : ℕ) (b : Bool) (d : Bytes) → Alike d → By.line_numbers (chars_by t) d (By.wrap_lines_of (chars_by t) w b d) ≡ By.line_numbers (chars_by u) d (By.wrap_lines_of (chars_by u) w b d)
  listed w b d h = rw (wrap w b d h) (same_numbers d (By.wrap_lines_of (chars_by u) w b d) (wrap-shown w b d h))

  -- ── the layout calls
  same_items : (j : Job) (r : Recording) → AllOf Alike (lent_to j r) → By.result_items (chars_by t) j r ≡ By.result_items (chars_by u) j r
  unfolding By.result_items
  same_items (with_second truncated_start m e) r h =
      let n : ℕ = By.text_width_of (chars_by u) e.data_bytes in
      rw (
        width r.data_bytes h.0,
        width e.data_bytes h.1.0,
        trimmed_pos_lem m e.data_bytes h.1.0,
        trimmed_pos_lem (m - n) r.data_bytes h.0,
        zero_width_lem r.data_bytes h.0,
      )
  same_items (with_second truncated_end m e) r h =
      let n : ℕ = By.text_width_of (chars_by u) e.data_bytes in
      rw (width r.data_bytes h.0, width e.data_bytes h.1.0, end_pos_lem (m - n) r.data_bytes h.0, end_pos_lem m e.data_bytes h.1.0)
  same_items (with_second padded_start m f) r h = rw (fill m r.data_bytes h.0)
  same_items (with_second padded_end m f) r h = rw (fill m r.data_bytes h.0)
  same_items (with_second padded_centered m f) r h = rw (fill m r.data_bytes h.0)
  same_items (with_second indented_lines m p) r h = refl
  same_items (with_second unindented_lines m p) r h = refl
  same_items (alone (wrapped_lines w b)) r h = rw (wrap w b r.data_bytes h.0)
  same_items (alone (replaced_parts xs x)) r h = refl
  same_items (alone (tabs_expanded s)) r h = rw (reads r.data_bytes h.0)

  same_list : (j : Job) (r : Recording) → AllOf Alike (lent_to j r)
      → By.line_numbers (chars_by t) r.data_bytes (By.lines_left (chars_by t) j r) ≡ By.line_numbers (chars_by u) r.data_bytes (By.lines_left (chars_by u) j r)
  unfolding By.lines_left
  same_list (with_second k m q) r h = refl
  same_list (alone (wrapped_lines w b)) r h = listed w b r.data_bytes h.0
  same_list (alone (replaced_parts xs x)) r h = refl
  same_list (alone (tabs_expanded s)) r h = refl

  same_number : (j : Job) (r : Recording) → AllOf Alike (lent_to j r) → By.number (chars_by t) j r ≡ By.number (chars_by u) j r
  unfolding By.number
  same_number (with_second truncated_start m e) r h =
      let n : ℕ = By.text_width_of (chars_by u) e.data_bytes in
      rw (width r.data_bytes h.0, width e.data_bytes h.1.0, start_width_lem m e.data_bytes h.1.0, start_width_lem (m - n) r.data_bytes h.0)
  same_number (with_second truncated_end m e) r h =
      let n : ℕ = By.text_width_of (chars_by u) e.data_bytes in
      rw (width r.data_bytes h.0, width e.data_bytes h.1.0, end_width_lem (m - n) r.data_bytes h.0, end_width_lem m e.data_bytes h.1.0)
  same_number (with_second padded_start m f) r h = refl
  same_number (with_second padded_end m f) r h = refl
  same_number (with_second padded_centered m f) r h = refl
  same_number (with_second indented_lines m p) r h = refl
  same_number (with_second unindented_lines m p) r h = refl
  same_number (alone (wrapped_lines w b)) r h = rw (wrap w b r.data_bytes h.0)
  same_number (alone (replaced_parts xs x)) r h = refl
  same_number (alone (tabs_expanded s)) r h = refl

  pub layout : (c : Call) (r : Recording) → AllOf Alike (lent_to c.job r) → By.outcome (chars_by t) c r ≡ By.outcome (chars_by u) c r
  unfolding By.outcome By.result_of
  layout c r h = rw (same_items c.job r h, same_list c.job r h, same_number c.job r h)

  -- ── the floor's reading
  pub floor : (l : Bytes) (o : Room) (r : Recording) → Alike r.data_bytes → By.floor_outcome (chars_by t) l o r ≡ By.floor_outcome (chars_by u) l o r
  unfolding By.floor_outcome By.floor_items By.hidden
  floor l o r h = rw (reads r.data_bytes h)

  -- ── `wrap_bytes`
  pub wrap-bytes : (w : ℕ) (b : Bool) (d : Bytes) (room : ℕ) → Alike d → By.wrap_bytes_outcome (chars_by t) w b d room ≡ By.wrap_bytes_outcome (chars_by u) w b d room
  unfolding By.wrap_bytes_outcome
  wrap-bytes w b d room h = rw (listed w b d h, wrap w b d h)

  -- ── a page of cells
  cell_text_lem : (m : ℕ) (e c : Bytes) → Alike e → Alike c → By.cell_text (chars_by t) m e c ≡ By.cell_text (chars_by u) m e c
  unfolding By.cell_text
  cell_text_lem m e c g h = ap R.data_of (same_items (cutting m e) (bare c) (h, (g, tt)))

  cell_width_lem : (m : ℕ) (e c : Bytes) → Alike e → Alike c → By.cell_width (chars_by t) m e c ≡ By.cell_width (chars_by u) m e c
  unfolding By.cell_width
  cell_width_lem m e c g h = same_number (cutting m e) (bare c) (h, (g, tt))

  same_joined : (m : ℕ) (e : Bytes) (cs : List Bytes) → Alike e → AllOf Alike cs → By.joined (chars_by t) m e cs ≡ By.joined (chars_by u) m e cs
  same_joined m e [] g h = refl
  same_joined m e (c ∷ cs) g h = rw (cell_text_lem m e c g h.0, same_joined m e cs g h.1)

  cell_numbers_lem : (m : ℕ) (e : Bytes) (at : ℕ) (cs : List Bytes) → Alike e → AllOf Alike cs → By.cell_numbers (chars_by t) m e at cs ≡ By.cell_numbers (chars_by u) m e at cs
  cell_numbers_lem m e at [] g h = refl
  cell_numbers_lem m e at (c ∷ cs) g h =
      rw (cell_text_lem m e c g h.0, cell_width_lem m e c g h.0, cell_numbers_lem m e (at + length (By.cell_text (chars_by u) m e c)) cs g h.1)

  pub cells : (m : ℕ) (ends : List ℕ) (e d : Bytes) (o : Room) → Alike e → AllOf Alike (parts ends d) → By.cells_outcome (chars_by t) m ends e d o ≡ By.cells_outcome (chars_by u) m ends e d o
  unfolding By.cells_outcome By.cells_result
  cells m ends e d o g h = rw (same_joined m e (parts ends d) g h, cell_numbers_lem m e 0 (parts ends d) g h)

  -- ── plain text
  pub trim : (s : Bytes) → Alike s → By.trimmed (chars_by t) s ≡ By.trimmed (chars_by u) s
  unfolding By.trimmed
  trim s h = rw (zero_width_lem s h)

  same_end : (m : ℕ) (s e : Bytes) → Alike s → Alike e → By.elide_end_of (chars_by t) m s e ≡ By.elide_end_of (chars_by u) m s e
  unfolding By.elide_end_of
  same_end m s e h g = rw (width s h, width e g, reads s h, reads e g)

  -- what is trimmed was kept of an ending
  cut_alike : (m : ℕ) (e : Bytes) → Alike e → Alike (bytes_of (cut_at_start m (chars_by u e)))
  cut_alike m e g = rw (cut_start_lem m (chars_by u e)) (ending Same u m e g)

  fit_alike : (m w : ℕ) (s : Bytes) → Alike s → Alike (bytes_of (fit_at_start m w (chars_by u s)))
  fit_alike m w s h = rw (fit_start m w (chars_by u s)) (ending Same u (m - w) s h)

  same_start : (m : ℕ) (s e : Bytes) → Alike s → Alike e → By.elide_start_of (chars_by t) m s e ≡ By.elide_start_of (chars_by u) m s e
  unfolding By.elide_start_of
  same_start m s e h g =
      let n : ℕ = By.text_width_of (chars_by u) e in
      rw (
        width s h,
        width e g,
        reads s h,
        reads e g,
        trim (bytes_of (cut_at_start m (chars_by u e))) (cut_alike m e g),
        trim (bytes_of (fit_at_start m n (chars_by u s))) (fit_alike m n s h),
      )

  pub elide_end_lem : (n : ℕ) (s e : Bytes) (m : ℕ) → Alike s → Alike e → By.elide_end_outcome (chars_by t) n s e m ≡ By.elide_end_outcome (chars_by u) n s e m
  unfolding By.elide_end_outcome
  elide_end_lem n s e m h g = rw (same_end m s e h g)

  pub elide_start_lem : (n : ℕ) (s e : Bytes) (m : ℕ) → Alike s → Alike e → By.elide_start_outcome (chars_by t) n s e m ≡ By.elide_start_outcome (chars_by u) n s e m
  unfolding By.elide_start_outcome
  elide_start_lem n s e m h g = rw (same_start m s e h g)

  -- ── `wraplist`
  line_rows_lem : (d : Bytes) (r k : ℕ) (ls : List Line) → AllOf Alike (cuts d ls) → By.line_rows (chars_by t) d r k ls ≡ By.line_rows (chars_by u) d r k ls
  line_rows_lem d r k [] h = refl
  line_rows_lem d r k (l ∷ ls) h = rw (width (line_bytes d l) h.0, line_rows_lem d r (suc k) ls h.1)

  wrap_rows_lem : (r w : ℕ) (b : Bool) (d : Bytes) → Alike d → By.wrap_rows (chars_by t) r w b d ≡ By.wrap_rows (chars_by u) r w b d
  wrap_rows_lem r w b d h = rw (wrap w b d h) (line_rows_lem d r 0 (By.wrap_lines_of (chars_by u) w b d) (wrap-shown w b d h))

  same_rows : (r : ℕ) (l : SheetLine) → Alike (value_text l) → By.rows_of (chars_by t) r l ≡ By.rows_of (chars_by u) r l
  unfolding By.rows_of
  same_rows r l h = go (l.ended && good_line l.text) h
    where
      go : (good : Bool) → Alike (cond good (data_of (data_field l.text)) [])
          → cond good (By.wrap_rows (chars_by t) r (value_from 0 (width_field l.text)) (break_of_text (break_field l.text)) (data_of (data_field l.text))) (bad_row r)
          ≡ cond good (By.wrap_rows (chars_by u) r (value_from 0 (width_field l.text)) (break_of_text (break_field l.text)) (data_of (data_field l.text))) (bad_row r)
      go true h = wrap_rows_lem r (value_from 0 (width_field l.text)) (break_of_text (break_field l.text)) (data_of (data_field l.text)) h
      go false h = refl

  rows_from_lem : (r : ℕ) (ls : List SheetLine) → AllOf Alike (value_texts ls) → By.rows_from (chars_by t) r ls ≡ By.rows_from (chars_by u) r ls
  rows_from_lem r [] h = refl
  rows_from_lem r (l ∷ ls) h = rw (same_rows r l h.0, rows_from_lem (suc r) ls h.1)

  same_body : (ls : List SheetLine) → AllOf Alike (value_texts (tail ls)) → By.body (chars_by t) ls ≡ By.body (chars_by u) ls
  same_body [] h = refl
  same_body (l ∷ ls) h = rw (rows_from_lem 0 ls h)

  pub wraplist : (s : Bytes) → AllOf Alike (value_texts (tail (sheet_lines s))) → By.output (chars_by t) s ≡ By.output (chars_by u) s
  unfolding By.output
  wraplist s h = rw (same_body (sheet_lines s) h)

  -- ── the tally sheet
  low_tilde : (k : ℕ) → Low (take k tilde)
  unfolding tilde
  low_tilde zero = tt
  low_tilde (suc k) = omega arith

  -- what is left of a cell has its characters and those of `~`
  left_alike : (m : ℕ) (d : Bytes) → Alike tilde → Alike d → Alike (By.cell_text (chars_by u) m tilde d)
  unfolding By.cell_text By.result_items
  left_alike m d g h =
      let a : ℕ = By.truncate_end_pos_of (chars_by u) (m - By.text_width_of (chars_by u) tilde) d in
      let b : ℕ = By.truncate_end_pos_of (chars_by u) m tilde in
      go (ltb m (By.text_width_of (chars_by u) d)) (edit (cut_end_of a d) (items (bare d))) (edit (cut_end_of b tilde) (items (bare tilde))) a b
      (up_to_run a d [] []) (up_to_run b tilde [] []) (beginning Same u (m - By.text_width_of (chars_by u) tilde) d h) (beginning Same u m tilde g)
    where
      go : (cut : Bool) (x y : List Item) (a b : ℕ) → R.data_of x ≡ take a d → R.data_of y ≡ take b tilde → Alike (take a d) → Alike (take b tilde) → Alike (R.data_of (cond cut (x ++ y) (items (bare d))))
      go true x y a b e f k l = rw (data_append x y, e, f) (joined_low Same (take a d) (take b tilde) (low_tilde b) k l)
      go false x y a b e f k l = rw (data_items (bare d)) h

  pad_items : (a w : ℕ) (d : Bytes) → Alike d → By.result_items (chars_by t) (pad_job a w) (bare d) ≡ By.result_items (chars_by u) (pad_job a w) (bare d)
  unfolding By.result_items
  pad_items zero w d h = rw (fill w d h)
  pad_items (suc zero) w d h = rw (fill w d h)
  pad_items (suc (suc a)) w d h = rw (fill w d h)

  laid_cell : (c : Column) (d : Bytes) → Alike tilde → Alike d → By.laid_cell_of (chars_by t) c d ≡ By.laid_cell_of (chars_by u) c d
  unfolding By.laid_cell_of
  laid_cell c d g h =
      rw (cell_text_lem c.width tilde d g h)
      (ap R.data_of (pad_items c.alignment c.width (By.cell_text (chars_by u) c.width tilde d) (left_alike c.width d g h)))

  row_from : (cs : List Column) (ds : List Bytes) → Alike tilde → AllOf Alike ds → By.row_from_cells (chars_by t) cs ds ≡ By.row_from_cells (chars_by u) cs ds
  row_from [] ds g h = refl
  row_from (c ∷ cs) [] g h = refl
  row_from (c ∷ []) (d ∷ ds) g h = laid_cell c d g h.0
  row_from (c ∷ k ∷ cs) (d ∷ ds) g h = rw (laid_cell c d g h.0, row_from (k ∷ cs) ds g h.1)

  row_of_lem : (cs : List Column) (l : Bytes) → Alike tilde → AllOf Alike (cells_of l) → By.row_of (chars_by t) cs l ≡ By.row_of (chars_by u) cs l
  unfolding By.row_of
  row_of_lem cs l g h = row_from cs (cells_of l) g h

  tally_rows_lem : (cs : List Column) (ls : List Bytes) → Alike tilde → AllOf Alike (all_cells ls) → By.tally_rows (chars_by t) cs ls ≡ By.tally_rows (chars_by u) cs ls
  tally_rows_lem cs [] g h = refl
  tally_rows_lem cs (l ∷ ls) g h =
      rw (row_of_lem cs l g (all_left Alike (cells_of l) (all_cells ls) h), tally_rows_lem cs ls g (all_right Alike (cells_of l) (all_cells ls) h))

  pub tally : (ns : List ℕ) (s : Bytes) (o : Room) → Alike tilde → AllOf Alike (all_cells (lines_of s)) → By.tally_outcome (chars_by t) ns s o ≡ By.tally_outcome (chars_by u) ns s o
  unfolding By.tally_outcome By.tally_result By.sheet
  tally ns s o g h = rw (tally_rows_lem (columns_of ns) (lines_of s) g h)
