-- A row: its cells side by side. Widths add up because each cell is clean, and each cell starts where the columns before it and their gaps end.
use Prim.Native.Nat.{ℕ, zero, suc, ◌+◌, ◌-◌, ◌≤◌, ◌<◌}
use native.Mathlib.Omega.{arith}
use mathlib.Core.Bool.{true, false, ◌&&◌, not}
use mathlib.Core.Path.{◌≡◌, refl, sym, ap, ◌∙◌}
use mathlib.Core.List.{List, [], ◌∷◌, ◌++◌, append-nil, append_assoc}
use lib.Dec.{leb, ltb, eqb}
use lib.ListN.{length, take, get_or, replicate, length-append}
use borrow.Author.Tests.{leb-true}
use Rattle.chars.specs.Chars.{chars, text_width_of, well_formed_of}
use Rattle.chars.specs.Cut.{truncate_end_pos_of}
use Rattle.chars.proofs.JoinLaws.{chars-append, width_join}
use Rattle.controls.specs.Controls.{is_clean_text}
use Rattle.controls.proofs.ControlLaws.{CleanText, clean_text, text_clean, clean_formed, clean_none, clean_join}
use Rattle.recording.specs.Lists.{AllOf}
use Rattle.recording.specs.Recording.{Bytes}
use Rattle.recording.specs.Refusals.{data_limit}
use Rattle.recording.proofs.FaultLaws.{first_of-zero, refuse_if-zero}
use Rattle.recording.proofs.Lists.{and_left, and_right, or_left, or_right, not_false}
use Rattle.truncate.specs.Planned.{finished_end}
use Rattle.cells.specs.Cells.{cell_text}
use Rattle.cells.specs.Measured.{mark_of, plan_with}
use Rattle.cells.proofs.PlanLaws.{each_way, text_is}
use Rattle.sheet.specs.Sheet.{has}
use Rattle.tally.specs.Tally.{Column, tilde, bad_column_of, any_bad, cell_fault, cells_fault, cells_of, laid_cell_of, row_from_cells, row_of}
use Rattle.tally.specs.Shown.{start_of, widths, column_at, Placed, RowRight}
use Rattle.tally.specs.Code.{before_of}
use Rattle.tally.proofs.CellLaws.{around, laid_is, one_clean, space_width, none_width, laid_clean, laid_width, laid_by}

-- ── no 0A
abbrev pub Whole : Bytes → Type 0
Whole l = has 0x0A l ≡ false

pub whole_join : (a b : Bytes) → Whole a → Whole b → Whole (a ++ b)
whole_join [] b p q = q
whole_join (x ∷ a) b p q = rw (or_left (eqb x 0x0A) (has 0x0A a) p) (whole_join a b (or_right (eqb x 0x0A) (has 0x0A a) p) q)

whole_take : (n : ℕ) (d : Bytes) → Whole d → Whole (take n d)
whole_take zero [] p = refl
whole_take (suc n) [] p = refl
whole_take zero (b ∷ d) p = refl
whole_take (suc n) (b ∷ d) p = rw (or_left (eqb b 0x0A) (has 0x0A d) p) (whole_take n d (or_right (eqb b 0x0A) (has 0x0A d) p))

whole_spaces : (n : ℕ) → Whole (replicate n 0x20)
whole_spaces zero = refl
whole_spaces (suc n) = whole_spaces n

whole_cut : (w : ℕ) (d : Bytes) → Whole d → Whole (cell_text w tilde d)
unfolding tilde
whole_cut w d p =
    let room : ℕ = w - text_width_of tilde in
    let f : Whole (finished_end (plan_with (mark_of w tilde) w d) d tilde) =
    each_way w tilde d (λ t q. Whole t) (whole_join (take (truncate_end_pos_of room d) d) (take (truncate_end_pos_of w tilde) tilde) (whole_take (truncate_end_pos_of room d) d p) (whole_take (truncate_end_pos_of w tilde) tilde refl)) p in
    rw (text_is w tilde d (plan_with (mark_of w tilde) w d) refl) at f

whole_around : (a n : ℕ) (x : Bytes) → Whole x → Whole (around a n x)
whole_around a n x p =
    whole_join (replicate (before_of a n) 0x20) (x ++ replicate (n - before_of a n) 0x20) (whole_spaces (before_of a n)) (whole_join x (replicate (n - before_of a n) 0x20) p (whole_spaces (n - before_of a n)))

whole_laid : (c : Column) (d : Bytes) → Whole d → Whole (laid_cell_of c d)
whole_laid c d p = ap (has 0x0A) (laid_is c d) ∙ whole_around c.alignment (c.width - text_width_of (cell_text c.width tilde d)) (cell_text c.width tilde d) (whole_cut c.width d p)

-- ── what was not turned away
good_column : (c : Column) → bad_column_of c ≡ false → (1 ≤ c.width) × (c.width ≤ 80)
good_column c h =
    let e = not_false (leb 1 c.width && leb c.width 80) (or_left (not (leb 1 c.width && leb c.width 80)) (ltb 2 c.alignment) h) in
    (leb-true 1 c.width (and_left (leb 1 c.width) (leb c.width 80) e), leb-true c.width 80 (and_right (leb 1 c.width) (leb c.width 80) e))

pub first_column : (c : Column) (cs : List Column) → any_bad (c ∷ cs) ≡ false → (1 ≤ c.width) × (c.width ≤ 80) × (any_bad cs ≡ false)
first_column c cs h =
    let g = good_column c (or_left (bad_column_of c) (any_bad cs) h) in
    (g.0, g.1, or_right (bad_column_of c) (any_bad cs) h)

pub cell_clean : (d : Bytes) → cell_fault d ≡ 0 → is_clean_text d ≡ true
unfolding cell_fault
cell_clean d h = not_false (is_clean_text d) (refuse_if-zero (not (is_clean_text d)) 39 h)

-- the cells of a line that stand in columns
pub record Cells (cs : List Column) (ds : List Bytes) : Type 0 where
  pub columns : any_bad cs ≡ false
  pub clean : cells_fault ds ≡ 0
  pub whole : AllOf Whole ds
  pub short : AllOf (λ d. length d ≤ data_limit) ds
  pub many : length ds ≡ length cs

module _ (c : Column) (cs : List Column) (d : Bytes) (ds : List Bytes) (g : Cells (c ∷ cs) (d ∷ ds)) where
  first_clean : CleanText d
  first_clean = clean_text d (cell_clean d (first_of-zero (cell_fault d) (cells_fault ds ∷ []) g.clean).0)

  rest_cells : Cells cs ds
  rest_cells =
      record {
        columns = or_right (bad_column_of c) (any_bad cs) g.columns;
        clean = (first_of-zero (cells_fault ds) [] (first_of-zero (cell_fault d) (cells_fault ds ∷ []) g.clean).1).0;
        whole = g.whole.1;
        short = g.short.1;
        many = omega (arith, g.many);
      }

  laid_tidy : CleanText (laid_cell_of c d)
  laid_tidy = laid_clean c d first_clean

  laid_formed : well_formed_of (laid_cell_of c d) ≡ true
  laid_formed = clean_formed (laid_cell_of c d) laid_tidy

  laid_wide : text_width_of (laid_cell_of c d) ≡ c.width
  laid_wide = laid_width c d first_clean

  laid_whole : Whole (laid_cell_of c d)
  laid_whole = whole_laid c d g.whole.0

-- ── the row
row_clean : (cs : List Column) (ds : List Bytes) → Cells cs ds → CleanText (row_from_cells cs ds)
row_clean [] ds g = clean_none
row_clean (c ∷ []) [] g = clean_none
row_clean (c ∷ k ∷ cs) [] g = clean_none
row_clean (c ∷ []) (d ∷ ds) g = laid_tidy c [] d ds g
row_clean (c ∷ k ∷ cs) (d ∷ ds) g =
    clean_join (laid_cell_of c d) (0x20 ∷ row_from_cells (k ∷ cs) ds) (laid_tidy c (k ∷ cs) d ds g) (clean_join (0x20 ∷ []) (row_from_cells (k ∷ cs) ds) one_clean (row_clean (k ∷ cs) ds (rest_cells c (k ∷ cs) d ds g)))

row_whole : (cs : List Column) (ds : List Bytes) → Cells cs ds → Whole (row_from_cells cs ds)
row_whole [] ds g = refl
row_whole (c ∷ []) [] g = refl
row_whole (c ∷ k ∷ cs) [] g = refl
row_whole (c ∷ []) (d ∷ ds) g = laid_whole c [] d ds g
row_whole (c ∷ k ∷ cs) (d ∷ ds) g =
    whole_join (laid_cell_of c d) (0x20 ∷ row_from_cells (k ∷ cs) ds) (laid_whole c (k ∷ cs) d ds g) (row_whole (k ∷ cs) ds (rest_cells c (k ∷ cs) d ds g))

row_width : (cs : List Column) (ds : List Bytes) → Cells cs ds → 1 ≤ length cs → text_width_of (row_from_cells cs ds) ≡ widths cs + (length cs - 1)
row_width [] ds g h = absurd (omega arith)
row_width (c ∷ []) [] g h = absurd (omega (arith, g.many))
row_width (c ∷ k ∷ cs) [] g h = absurd (omega (arith, g.many))
row_width (c ∷ []) (d ∷ ds) g h = omega (arith, laid_wide c [] d ds g)
row_width (c ∷ k ∷ cs) (d ∷ ds) g h =
    omega (arith, width_join (laid_cell_of c d) (0x20 ∷ row_from_cells (k ∷ cs) ds) (laid_formed c (k ∷ cs) d ds g), laid_wide c (k ∷ cs) d ds g, space_width (row_from_cells (k ∷ cs) ds), row_width (k ∷ cs) ds (rest_cells c (k ∷ cs) d ds g) (omega arith))

-- ── a cell in its place: what comes before it in the row
record Spot (row text : Bytes) (start : ℕ) : Type 0 where
  before : Bytes
  behind : Bytes
  split : row ≡ before ++ (text ++ behind)
  clean : CleanText before
  starts : text_width_of before ≡ start

abbrev cell_of : List Bytes → ℕ → Bytes
cell_of ds k = get_or ds k []

spot : (k : ℕ) (cs : List Column) (ds : List Bytes) → Cells cs ds → k < length cs → Spot (row_from_cells cs ds) (laid_cell_of (column_at cs k) (cell_of ds k)) (start_of (take k cs))
spot k [] ds g h = absurd (omega arith)
spot k (c ∷ []) [] g h = absurd (omega (arith, g.many))
spot k (c ∷ b ∷ cs) [] g h = absurd (omega (arith, g.many))
spot zero (c ∷ []) (d ∷ ds) g h = record { before = []; behind = []; split = sym (append-nil (laid_cell_of c d)); clean = clean_none; starts = none_width }
spot zero (c ∷ b ∷ cs) (d ∷ ds) g h = record { before = []; behind = 0x20 ∷ row_from_cells (b ∷ cs) ds; split = refl; clean = clean_none; starts = none_width }
spot (suc k) (c ∷ []) (d ∷ ds) g h = absurd (omega arith)
spot (suc k) (c ∷ b ∷ cs) (d ∷ ds) g h =
    let s : Spot (row_from_cells (b ∷ cs) ds) (laid_cell_of (column_at (b ∷ cs) k) (cell_of ds k)) (start_of (take k (b ∷ cs))) = spot k (b ∷ cs) ds (rest_cells c (b ∷ cs) d ds g) (omega arith) in
    let t : Bytes = laid_cell_of (column_at (b ∷ cs) k) (cell_of ds k) in
    record {
      before = laid_cell_of c d ++ (0x20 ∷ s.before);
      behind = s.behind;
      split = ap (λ (r : Bytes). laid_cell_of c d ++ (0x20 ∷ r)) s.split ∙ sym (append_assoc (laid_cell_of c d) (0x20 ∷ s.before) (t ++ s.behind));
      clean = clean_join (laid_cell_of c d) (0x20 ∷ s.before) (laid_tidy c (b ∷ cs) d ds g) (clean_join (0x20 ∷ []) s.before one_clean s.clean);
      starts = omega (arith, width_join (laid_cell_of c d) (0x20 ∷ s.before) (laid_formed c (b ∷ cs) d ds g), laid_wide c (b ∷ cs) d ds g, space_width s.before, s.starts);
    }

-- the cell k: clean, and of a length that the calls take
cell_right : (k : ℕ) (cs : List Column) (ds : List Bytes) → Cells cs ds → k < length cs → CleanText (cell_of ds k) × (length (cell_of ds k) ≤ data_limit)
cell_right k [] ds g h = absurd (omega arith)
cell_right k (c ∷ cs) [] g h = absurd (omega (arith, g.many))
cell_right zero (c ∷ cs) (d ∷ ds) g h = (first_clean c cs d ds g, g.short.0)
cell_right (suc k) (c ∷ cs) (d ∷ ds) g h = cell_right k cs ds (rest_cells c cs d ds g) (omega arith)

placed : (k : ℕ) (cs : List Column) (ds : List Bytes) → Cells cs ds → length (row_from_cells cs ds) ≤ data_limit → k < length cs
    → Placed (row_from_cells cs ds) (column_at cs k) (cell_of ds k) (start_of (take k cs))
placed k cs ds g short h =
    let s = spot k cs ds g h in
    let c : Column = column_at cs k in
    let d : Bytes = cell_of ds k in
    let t : Bytes = laid_cell_of c d in
    let r = cell_right k cs ds g h in
    let f : well_formed_of t ≡ true = clean_formed t (laid_clean c d r.0) in
    record {
      before = s.before;
      laid = t;
      behind = s.behind;
      split = s.split;
      reads = ap chars s.split ∙ chars-append s.before (t ++ s.behind) (clean_formed s.before s.clean) ∙ ap (λ l. chars s.before ++ l) (chars-append t s.behind f);
      starts = s.starts;
      wide = laid_width c d r.0;
      by_calls = laid_by c d r.0 r.1 (omega (arith, short, ap length s.split, length-append s.before (t ++ s.behind), length-append t s.behind));
    }

-- ── the row of a line
pub row_right : (cs : List Column) (l : Bytes) → Cells cs (cells_of l) → 1 ≤ length cs → length (row_of cs l) ≤ data_limit → RowRight cs l (row_of cs l)
unfolding row_of
row_right cs l g h short =
    record {
      wide = row_width cs (cells_of l) g h;
      cells = λ k more. placed k cs (cells_of l) g short more;
      clean = text_clean (row_from_cells cs (cells_of l)) (row_clean cs (cells_of l) g);
      whole = row_whole cs (cells_of l) g;
    }
