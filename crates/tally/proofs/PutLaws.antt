-- A row with its 0A written cell by cell, and the rows of all lines written line by line: what is done and what is left are the whole, and the buffer holds what is done.
use Prim.Native.Nat.{ℕ, ◌+◌, ◌≤◌, ◌<◌}
use native.Mathlib.Omega.{arith}
use mathlib.Core.Path.{◌≡◌, refl, sym, ap, ◌∙◌}
use mathlib.Core.Bool.{true}
use mathlib.Core.List.{List, [], ◌∷◌, ◌++◌, append-nil, append_assoc}
use lib.ListN.{length, drop, length-append, drop_of_length-le}
use Rattle.chars.specs.Chars.{well_formed_of}
use Rattle.buffer.specs.Place.{over_at, part}
use Rattle.buffer.proofs.Laws.{over_none, then_put}
use Rattle.recording.specs.Lists.{AllOf}
use Rattle.recording.specs.Recording.{Bytes}
use Rattle.sheet.specs.Sheet.{SheetLine, up_to}
use Rattle.sheet.proofs.SheetLaws.{sheet_next}
use Rattle.tally.specs.Tally.{texts_of, lines_of, columns_of, laid_cell_of, row_of}
use Rattle.tally.specs.Code.{gap_after, lines_left, line_of, lines_text, Fit}
use Rattle.tally.proofs.ColumnLaws.{columns_in}
use Rattle.tally.proofs.WalkLaws.{gap_before, gap_by, cells_left, all_cells_lem, cells_next, Walk, row_left, walk_first, row_first, row_last, here, there, walk_next, row_next}

-- ── done and left: the buffer held `out₀`, and now holds what is done from `at` on
pub record Holds (out₀ : Bytes) (at : ℕ) (out : Bytes) (end : ℕ) (done : Bytes) : Type 0 where
  pub holds : out ≡ over_at at done out₀
  pub here : end ≡ at + length done
  pub long : length out ≡ length out₀

none_done : (out : Bytes) (at : ℕ) → Holds out at out at []
none_done out at = record { holds = sym (over_none at out); here = omega arith; long = refl }

more_done : (out₀ : Bytes) (at : ℕ) (out : Bytes) (end : ℕ) (done new : Bytes) (r : ℕ) (o : Bytes) → Holds out₀ at out end done → at ≤ length out₀ → r ≡ end + length new → o ≡ over_at end new out
    → length o ≡ length out → Holds out₀ at o r (done ++ new)
more_done out₀ at out end done new r o h a e f l =
    record { holds = then_put at done new out₀ out o end a h.holds h.here f; here = omega (arith, e, h.here, length-append done new); long = l ∙ h.long }

all_done : (out₀ : Bytes) (at : ℕ) (out : Bytes) (end : ℕ) (done all : Bytes) → Holds out₀ at out end done → done ++ [] ≡ all → (end ≡ at + length all) × (out ≡ over_at at all out₀)
all_done out₀ at out end done all h e =
    let q : done ≡ all = sym (append-nil done) ∙ e in
    (h.here ∙ ap (λ (l : Bytes). at + length l) q, h.holds ∙ ap (λ (l : Bytes). over_at at l out₀) q)

-- ── a row; ps are the numbers ns two by two
pub record RowState (ns : List ℕ) (ps : List (List ℕ)) (line out₀ : Bytes) (at : ℕ) (out : Bytes) (end from i : ℕ) : Type 0 where
  pub walk : Walk ps line from i
  pub done : Bytes
  pub so_far : Holds out₀ at out end done
  pub rest : done ++ row_left ps line from i ≡ line_of ns line
  pub formed : AllOf (λ d. well_formed_of d ≡ true) (cells_left line from)

pub row_start : (ns : List ℕ) (ps : List (List ℕ)) (line out : Bytes) (at : ℕ) → columns_in ps ≡ columns_of ns → Fit ns line → RowState ns ps line out at out at 0 0
row_start ns ps line out at are f =
    record {
      walk = walk_first ns ps are line f.columns f.many;
      done = [];
      so_far = none_done out at;
      rest = row_first ns ps are line f.some f.many;
      formed = rw (all_cells_lem line) f.formed;
    }

pub row_finish : (ns : List ℕ) (ps : List (List ℕ)) (line out₀ : Bytes) (at : ℕ) (out : Bytes) (end from i : ℕ) → RowState ns ps line out₀ at out end from i → length ps ≤ i
    → (end ≡ at + length (line_of ns line)) × (out ≡ over_at at (line_of ns line) out₀)
row_finish ns ps line out₀ at out end from i s h =
    all_done out₀ at out end s.done (line_of ns line) s.so_far (ap (λ (l : Bytes). s.done ++ l) (sym (row_last ps line from i h)) ∙ s.rest)

module _ (ns : List ℕ) (ps : List (List ℕ)) (line out₀ : Bytes) (at : ℕ) (out : Bytes) (end from i : ℕ) (s : RowState ns ps line out₀ at out end from i) (more : i < length ps) (e : ℕ)
    (q : e ≡ from + length (up_to 0x2C (drop from line))) where
  cells : cells_left line from ≡ part from e line ∷ cells_left line (e + 1)
  cells = cells_next line from e (there ps line from i s.walk more) q

  pub well : well_formed_of (part from e line) ≡ true
  well = (rw cells at s.formed).0

  abbrev laid : Bytes
  laid = laid_cell_of (here ps line from i s.walk more) (part from e line)

  abbrev gap : ℕ
  gap = gap_before (columns_in (drop (i + 1) ps))

  abbrev others : Bytes
  others = row_left ps line (e + 1) (i + 1)

  whole : (s.done ++ (laid ++ (gap ∷ []))) ++ others ≡ line_of ns line
  whole = append_assoc s.done (laid ++ (gap ∷ [])) others ∙ ap (λ (l : Bytes). s.done ++ l) (sym (row_next ps line from i s.walk more e q)) ∙ s.rest

  pub cell_room : at + length (line_of ns line) ≤ length out₀ → (end + length laid) + 1 ≤ length out
  cell_room h =
      omega (arith, h, s.so_far.here, s.so_far.long, ap length whole, length-append (s.done ++ (laid ++ (gap ∷ []))) others, length-append s.done (laid ++ (gap ∷ [])), length-append laid (gap ∷ []))

  -- the cell is put, and then the byte after it
  pub row_again : (g r b : ℕ) (o₁ o₂ : Bytes) → at ≤ length out₀ → e ≤ length line → g ≡ end + length laid → o₁ ≡ over_at end laid out → length o₁ ≡ length out → b ≡ gap_after i (length ps) → r ≡ g + 1 → o₂ ≡ over_at g (b ∷ []) o₁
      → length o₂ ≡ length o₁ → RowState ns ps line out₀ at o₂ r (e + 1) (i + 1)
  row_again g r b o₁ o₂ h₀ he hg h₁ l₁ hb hr h₂ l₂ =
      let f₁ : Holds out₀ at o₁ g (s.done ++ laid) = more_done out₀ at out end s.done laid g o₁ s.so_far h₀ hg h₁ l₁ in
      let f₂ : Holds out₀ at o₂ r ((s.done ++ laid) ++ (b ∷ [])) = more_done out₀ at o₁ g (s.done ++ laid) (b ∷ []) r o₂ f₁ h₀ hr h₂ l₂ in
      let j : (s.done ++ laid) ++ (b ∷ []) ≡ s.done ++ (laid ++ (gap ∷ [])) = append_assoc s.done laid (b ∷ []) ∙ ap (λ (x : ℕ). s.done ++ (laid ++ (x ∷ []))) (hb ∙ gap_by ps i) in
      record { walk = walk_next ps line from i s.walk more e q he; done = s.done ++ (laid ++ (gap ∷ [])); so_far = rw j at f₂; rest = whole; formed = (rw cells at s.formed).1 }

-- ── the lines of an input
pub all_left : (s : Bytes) → (length s ≡ 0 → ⊥) → lines_of s ≡ lines_left s
unfolding lines_of
all_left [] h = absurd (h refl)
all_left (b ∷ s) h = refl

pub blank_line : (s : Bytes) → length s ≡ 0 → lines_of s ≡ s ∷ []
unfolding lines_of
blank_line [] h = refl
blank_line (b ∷ s) h = absurd (omega (arith, h))

-- the line at p, which ends at e, and those after it
pub lines_next : (s : Bytes) (p e : ℕ) → p < length s → e ≡ p + length (up_to 0x0A (drop p s)) → lines_left (drop p s) ≡ part p e s ∷ lines_left (drop (e + 1) s)
lines_next s p e h q = ap (λ (ls : List SheetLine). texts_of ls) (sheet_next s p e h q)

pub lines_end : (s : Bytes) (p : ℕ) → length s ≤ p → lines_left (drop p s) ≡ []
lines_end s p h = ap lines_left (drop_of_length-le s {i = p} h)

-- one line's row and those of the others
pub text_next : (ns : List ℕ) (l : Bytes) (ls : List Bytes) → lines_text ns (l ∷ ls) ≡ line_of ns l ++ lines_text ns ls
text_next ns l ls = sym (append_assoc (row_of (columns_of ns) l) (0x0A ∷ []) (lines_text ns ls))

pub one_line : (ns : List ℕ) (s : Bytes) → length s ≡ 0 → lines_text ns (lines_of s) ≡ line_of ns s
one_line ns s h = ap (lines_text ns) (blank_line s h)

pub fit_one : (ns : List ℕ) (s : Bytes) → length s ≡ 0 → AllOf (Fit ns) (lines_of s) → Fit ns s
fit_one ns s h f = (rw (blank_line s h) at f).0

-- ── all rows
pub record RowsState (ns : List ℕ) (input out₀ : Bytes) (out : Bytes) (end from : ℕ) : Type 0 where
  pub done : Bytes
  pub so_far : Holds out₀ 0 out end done
  pub rest : done ++ lines_text ns (lines_left (drop from input)) ≡ lines_text ns (lines_of input)
  pub fits : AllOf (Fit ns) (lines_left (drop from input))

pub rows_start : (ns : List ℕ) (input out : Bytes) → (length input ≡ 0 → ⊥) → AllOf (Fit ns) (lines_of input) → RowsState ns input out out 0 0
rows_start ns input out h f = record { done = []; so_far = none_done out 0; rest = ap (lines_text ns) (sym (all_left input h)); fits = rw (all_left input h) at f }

pub rows_finish : (ns : List ℕ) (input out₀ out : Bytes) (end from : ℕ) → RowsState ns input out₀ out end from → length input ≤ from
    → (end ≡ length (lines_text ns (lines_of input))) × (out ≡ over_at 0 (lines_text ns (lines_of input)) out₀)
rows_finish ns input out₀ out end from s h =
    let a = all_done out₀ 0 out end s.done (lines_text ns (lines_of input)) s.so_far (ap (λ (ls : List Bytes). s.done ++ lines_text ns ls) (sym (lines_end input from h)) ∙ s.rest) in
    (omega (arith, a.0), a.1)

module _ (ns : List ℕ) (input out₀ out : Bytes) (end from : ℕ) (s : RowsState ns input out₀ out end from) (more : from < length input) (e : ℕ)
    (q : e ≡ from + length (up_to 0x0A (drop from input))) where
  lines : lines_left (drop from input) ≡ part from e input ∷ lines_left (drop (e + 1) input)
  lines = lines_next input from e more q

  pub fit_here : Fit ns (part from e input)
  fit_here = (rw lines at s.fits).0

  abbrev row : Bytes
  row = line_of ns (part from e input)

  abbrev below : Bytes
  below = lines_text ns (lines_left (drop (e + 1) input))

  all_rows : (s.done ++ row) ++ below ≡ lines_text ns (lines_of input)
  all_rows =
      append_assoc s.done row below ∙ ap (λ (l : Bytes). s.done ++ l) (sym (text_next ns (part from e input) (lines_left (drop (e + 1) input))))
      ∙ ap (λ (ls : List Bytes). s.done ++ lines_text ns ls) (sym lines) ∙ s.rest

  pub row_room : length (lines_text ns (lines_of input)) ≤ length out₀ → end + length row ≤ length out
  row_room h = omega (arith, h, s.so_far.here, s.so_far.long, ap length all_rows, length-append (s.done ++ row) below, length-append s.done row)

  pub rows_again : (r : ℕ) (o₁ : Bytes) → r ≡ end + length row → o₁ ≡ over_at end row out → length o₁ ≡ length out → RowsState ns input out₀ o₁ r (e + 1)
  rows_again r o₁ hr h₁ l₁ =
      record { done = s.done ++ row; so_far = more_done out₀ 0 out end s.done row r o₁ s.so_far (omega arith) hr h₁ l₁; rest = all_rows; fits = (rw lines at s.fits).1 }
