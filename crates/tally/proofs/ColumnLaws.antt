-- The columns from their numbers two by two: that they are the columns of all numbers, what is left behind some of them, and what the tests of the numbers come to.
-- The idea: a column that is not bad may be left out of the question whether any is.
use Prim.Native.Nat.{ℕ, zero, suc, ◌+◌, ◌/◌, ◌%◌, ◌≤◌, ◌<◌}
use native.Mathlib.Omega.{arith}
use native.Mathlib.Numerals.{add-one}
use mathlib.Core.Bool.{Bool, true, false, ◌||◌}
use mathlib.Core.Path.{◌≡◌, refl, ap, ◌∙◌}
use mathlib.Core.List.{List, [], ◌∷◌}
use lib.ListN.{length, drop, get_or, drop_of_length-le}
use lib.Seq.{drop-cons}
use borrow.Author.Tests.{eq-eqb, ne_eqb}
use Rattle.std.specs.List.{list_any}
use Rattle.chars.specs.Utf8.{within}
use Rattle.std.specs.Simd.{first_chunks}
use Rattle.tally.specs.Tally.{Column, columns_of, bad_column_of, any_bad, wrong_columns_of}
use Rattle.tally.specs.Code.{column}

-- ── from pairs of numbers
abbrev pub column_in : List ℕ → Column
column_in p = column (get_or p 0 0) (get_or p 1 0)

abbrev pub columns_in : List (List ℕ) → List Column
columns_in [] = []
columns_in (p ∷ ps) = column_in p ∷ columns_in ps

pub columns_next : (ps : List (List ℕ)) (i : ℕ) → i < length ps → columns_in (drop i ps) ≡ column_in (get_or ps i []) ∷ columns_in (drop (i + 1) ps)
columns_next ps i h = rw (add-one, drop-cons ps i [] h)

pub columns_end : (ps : List (List ℕ)) (i : ℕ) → length ps ≤ i → columns_in (drop i ps) ≡ []
columns_end ps i h = rw (drop_of_length-le ps {i = i} h)

pub how_many : (ps : List (List ℕ)) → length (columns_in ps) ≡ length ps
how_many [] = refl
how_many (p ∷ ps) = omega (arith, how_many ps)

-- the pairs of all numbers
pairs_from : (n : ℕ) (ns : List ℕ) → n ≡ length ns / 2 → columns_in (first_chunks 2 n ns) ≡ columns_of ns
pairs_from zero [] h = refl
pairs_from (suc n) [] h = absurd (omega (arith, h))
pairs_from zero (w ∷ []) h = refl
pairs_from (suc n) (w ∷ []) h = absurd (omega (arith, h))
pairs_from zero (w ∷ a ∷ ns) h = absurd (omega (arith, h))
pairs_from (suc n) (w ∷ a ∷ ns) h = ap (λ (cs : List Column). column w a ∷ cs) (pairs_from n ns (omega (arith, h)))

pub columns_are : (ns : List ℕ) (ps : List (List ℕ)) → ps ≡ first_chunks 2 (length ns / 2) ns → columns_in ps ≡ columns_of ns
columns_are ns ps e = ap columns_in e ∙ pairs_from (length ns / 2) ns refl

pub columns-count : (ns : List ℕ) → length (columns_of ns) ≡ length ns / 2
columns-count [] = refl
columns-count (w ∷ []) = refl
columns-count (w ∷ a ∷ ns) = omega (arith, columns-count ns)

-- whether one of them is bad
pub any_pair : (ps : List (List ℕ)) → list_any (λ p. bad_column_of (column_in p)) ps ≡ any_bad (columns_in ps)
any_pair [] = refl
any_pair (p ∷ ps) = ap (λ (t : Bool). bad_column_of (column_in p) || t) (any_pair ps)

-- ── what the tests come to: whether a number is left over, whether the columns are 1 to 12, whether one is bad
module _ (ns : List ℕ) where
  pub wrong_odd : (length ns % 2 ≡ 0 → ⊥) → true ≡ wrong_columns_of ns
  unfolding wrong_columns_of
  wrong_odd h = rw (ne_eqb (length ns % 2) 0 h)

  module _ (even : length ns % 2 ≡ 0) where
    pub wrong_count : within 1 12 (length ns / 2) ≡ false → true ≡ wrong_columns_of ns
    unfolding wrong_columns_of
    wrong_count h = rw (eq-eqb (length ns % 2) 0 even, columns-count ns, h)

    pub wrong_any : within 1 12 (length ns / 2) ≡ true → any_bad (columns_of ns) ≡ wrong_columns_of ns
    unfolding wrong_columns_of
    wrong_any h = rw (eq-eqb (length ns % 2) 0 even, columns-count ns, h)
