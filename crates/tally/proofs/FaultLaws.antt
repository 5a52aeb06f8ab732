-- What the tests that turn away say of an input that passes them all: its columns, its lines, their cells and their boards.
use Prim.Native.Nat.{ℕ, zero, suc, ◌*◌, ◌%◌, ◌≤◌, ◌<◌}
use native.Mathlib.Omega.{arith}
use mathlib.Core.Bool.{Bool, true, false, cond, ◌&&◌, ◌||◌, not, false≢true}
use mathlib.Core.Path.{◌≡◌, refl, sym, ap, ◌∙◌}
use mathlib.Core.List.{List, [], ◌∷◌}
use lib.Dec.{leb, ltb, eqb}
use lib.ListN.{length, get_or}
use borrow.Author.Tests.{eqb-true, leb-true, ltb-false, lt-ltb, le-ltb}
use Rattle.chars.specs.Utf8.{within}
use Rattle.chars.specs.Chars.{well_formed_of}
use Rattle.controls.proofs.ControlLaws.{clean_text, clean_formed}
use Rattle.recording.specs.Lists.{AllOf, same}
use Rattle.recording.specs.Recording.{Bytes}
use Rattle.recording.proofs.FaultLaws.{first_of-zero, refuse_if-zero}
use Rattle.recording.proofs.Lists.{and_left, and_right, or_left, or_right, not_false, same_self, same_equal}
use Rattle.sheet.specs.Sheet.{value_from, is_decimal}
use Rattle.tally.specs.Tally.{cells_of, columns_of, boards_name, boards_at_text, boards_cell, is_boards, boards_in_text, boards_sum, any_bad, wrong_columns_of, line_limit, shape_fault, cell_fault, cells_fault, count_fault, boards_fault, names_fault, values_fault, all_values_fault}
use Rattle.tally.specs.Shown.{FirstCalled}
use Rattle.tally.specs.Code.{Fit}
use Rattle.tally.proofs.RowLaws.{cell_clean}

-- ── the columns and the number of lines
pub record Columns (ns : List ℕ) : Type 0 where
  pub even : length ns % 2 ≡ 0
  pub some : 1 ≤ length (columns_of ns)
  pub few : length (columns_of ns) ≤ 12
  pub good : any_bad (columns_of ns) ≡ false

pub right_columns : (ns : List ℕ) → wrong_columns_of ns ≡ false → Columns ns
unfolding wrong_columns_of
right_columns ns h =
    let odd : Bool = not (eqb (length ns % 2) 0) in
    let n : ℕ = length (columns_of ns) in
    let many : Bool = not (within 1 12 n) in
    let p = or_left (odd || many) (any_bad (columns_of ns)) h in
    let q = not_false (leb 1 n && leb n 12) (or_right odd many p) in
    record {
      even = eqb-true (length ns % 2) 0 (not_false (eqb (length ns % 2) 0) (or_left odd many p));
      some = leb-true 1 n (and_left (leb 1 n) (leb n 12) q);
      few = leb-true n 12 (and_right (leb 1 n) (leb n 12) q);
      good = or_right (odd || many) (any_bad (columns_of ns)) h;
    }

pub right_shape : (ns : List ℕ) (ls : List Bytes) → shape_fault ns ls ≡ 0 → (wrong_columns_of ns ≡ false) × (length ls ≤ 4096)
unfolding shape_fault
right_shape ns ls f =
    let e = refuse_if-zero (wrong_columns_of ns || ltb line_limit (length ls)) 38 f in
    (or_left (wrong_columns_of ns) (ltb line_limit (length ls)) e, ltb-false 4096 (length ls) (or_right (wrong_columns_of ns) (ltb line_limit (length ls)) e))

-- ── a line
pub counted : (n : ℕ) (l : Bytes) → count_fault n l ≡ 0 → length (cells_of l) ≡ n
unfolding count_fault
counted n l c = eqb-true (length (cells_of l)) n (not_false (eqb (length (cells_of l)) n) (refuse_if-zero (not (eqb (length (cells_of l)) n)) 40 c))

-- the tests of a line of values are those of a line of names, and one more
pub names_tests : (n : ℕ) (l : Bytes) → names_fault n l ≡ 0 → (count_fault n l ≡ 0) × (cells_fault (cells_of l) ≡ 0)
unfolding names_fault
names_tests n l f =
    let p = first_of-zero (count_fault n l) (cells_fault (cells_of l) ∷ []) f in
    (p.0, (first_of-zero (cells_fault (cells_of l)) [] p.1).0)

pub values_tests : (n k : ℕ) (l : Bytes) → values_fault n k l ≡ 0 → (count_fault n l ≡ 0) × (cells_fault (cells_of l) ≡ 0) × (boards_fault k l ≡ 0)
unfolding values_fault
values_tests n k l f =
    let p = first_of-zero (count_fault n l) (cells_fault (cells_of l) ∷ boards_fault k l ∷ []) f in
    let q = first_of-zero (cells_fault (cells_of l)) (boards_fault k l ∷ []) p.1 in
    (p.0, q.0, (first_of-zero (boards_fault k l) [] q.1).0)

pub all_tests : (n k : ℕ) (l : Bytes) (ls : List Bytes) → all_values_fault n k (l ∷ ls) ≡ 0 → (values_fault n k l ≡ 0) × (all_values_fault n k ls ≡ 0)
all_tests n k l ls f =
    let p = first_of-zero (values_fault n k l) (all_values_fault n k ls ∷ []) f in
    (p.0, (first_of-zero (all_values_fault n k ls) [] p.1).0)

formed_cells : (ds : List Bytes) → cells_fault ds ≡ 0 → AllOf (λ d. well_formed_of d ≡ true) ds
formed_cells [] h = tt
formed_cells (d ∷ ds) h =
    let p = first_of-zero (cell_fault d) (cells_fault ds ∷ []) h in
    (clean_formed d (clean_text d (cell_clean d p.0)), formed_cells ds (first_of-zero (cells_fault ds) [] p.1).0)

pub fit_line : (ns : List ℕ) (l : Bytes) → Columns ns → count_fault (length (columns_of ns)) l ≡ 0 → cells_fault (cells_of l) ≡ 0 → Fit ns l
fit_line ns l c a f = record { some = c.some; columns = c.good; formed = formed_cells (cells_of l) f; many = counted (length (columns_of ns)) l a }

pub fit_values : (ns : List ℕ) (k : ℕ) (ls : List Bytes) → Columns ns → all_values_fault (length (columns_of ns)) k ls ≡ 0 → AllOf (Fit ns) ls
fit_values ns k [] c f = tt
fit_values ns k (l ∷ ls) c f =
    let n : ℕ = length (columns_of ns) in
    let p = all_tests n k l ls f in
    let q = values_tests n k l p.0 in
    (fit_line ns l c q.0 q.1, fit_values ns k ls c p.1)

-- ── the boards of a line
boards_small : (k : ℕ) (l : Bytes) → boards_fault k l ≡ 0 → boards_in_text k l ≤ 65535
unfolding boards_fault boards_in_text is_boards
boards_small k l h = go (ltb k (length (cells_of l))) (refuse_if-zero (ltb k (length (cells_of l)) && not (is_boards (boards_cell k l))) 40 h)
  where
    go : (t : Bool) → (t && not (is_boards (boards_cell k l))) ≡ false → cond t (value_from 0 (boards_cell k l)) 0 ≤ 65535
    go true e = leb-true (value_from 0 (boards_cell k l)) 65535 (and_right (is_decimal (boards_cell k l)) (leb (value_from 0 (boards_cell k l)) 65535) (not_false (is_boards (boards_cell k l)) e))
    go false e = omega arith

pub sum_small : (n k : ℕ) (ls : List Bytes) → all_values_fault n k ls ≡ 0 → boards_sum k ls ≤ 65535 * length ls
sum_small n k [] f = omega arith
sum_small n k (l ∷ ls) f =
    let p = all_tests n k l ls f in
    omega (arith, boards_small k l (values_tests n k l p.0).2, sum_small n k ls p.1)

-- its cell is such a number, and without a column there is none
one_number : (n k : ℕ) (l : Bytes) → values_fault n k l ≡ 0 → (k < n → is_boards (boards_cell k l) ≡ true) × (n ≤ k → boards_in_text k l ≡ 0)
unfolding boards_fault boards_in_text
one_number n k l f =
    let q = values_tests n k l f in
    let e = counted n l q.0 in
    let b = refuse_if-zero (ltb k (length (cells_of l)) && not (is_boards (boards_cell k l))) 40 q.2 in (
      λ h. not_false (is_boards (boards_cell k l)) (rw (lt-ltb k (length (cells_of l)) (omega (arith, e, h))) at b),
      λ h. simp (le-ltb k (length (cells_of l)) (omega (arith, e, h))),
    )

pub all_numbers : (n k : ℕ) (ls : List Bytes) → all_values_fault n k ls ≡ 0 → k < n → AllOf (λ l. is_boards (boards_cell k l) ≡ true) ls
all_numbers n k [] f h = tt
all_numbers n k (l ∷ ls) f h = let p = all_tests n k l ls f in ((one_number n k l p.0).0 h, all_numbers n k ls p.1 h)

pub no_sum : (n k : ℕ) (ls : List Bytes) → all_values_fault n k ls ≡ 0 → n ≤ k → boards_sum k ls ≡ 0
no_sum n k [] f h = refl
no_sum n k (l ∷ ls) f h = let p = all_tests n k l ls f in omega (arith, (one_number n k l p.0).1 h, no_sum n k ls p.1 h)

-- ── the column that is summed
pub first_called : (cs : List Bytes) → FirstCalled boards_name cs (boards_at_text cs)
first_called [] = record { there = λ h. absurd (omega (arith, h)); earlier = λ i h e. absurd (omega (arith, h)); within = omega arith }
first_called (c ∷ cs) = go (same c boards_name) refl (first_called cs)
  where
    past : same c boards_name ≡ false → FirstCalled boards_name cs (boards_at_text cs) → (i : ℕ) → i < suc (boards_at_text cs) → get_or (c ∷ cs) i [] ≡ boards_name → ⊥
    past e f zero h q = false≢true (sym e ∙ ap (λ (x : Bytes). same x boards_name) q ∙ same_self boards_name)
    past e f (suc i) h q = f.earlier i (omega (arith, h)) q

    go : (t : Bool) → same c boards_name ≡ t → FirstCalled boards_name cs (boards_at_text cs) → FirstCalled boards_name (c ∷ cs) (cond t 0 (suc (boards_at_text cs)))
    go true e f = record { there = λ h. same_equal c boards_name e; earlier = λ i h q. absurd (omega (arith, h)); within = omega arith }
    go false e f = record { there = λ h. f.there (omega (arith, h)); earlier = past e f; within = omega (arith, f.within) }
