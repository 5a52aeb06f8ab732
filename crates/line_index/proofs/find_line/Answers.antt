-- All numbers before the place at which the list is parted are not above the offset, and all from it on are.
use native.Mathlib.Omega.{arith}
use borrow.Author.Rules.{rules}
use Prim.Native.Nat.{ℕ, zero, suc, ◌+◌, ◌-◌, ◌≤◌, ◌<◌}
use mathlib.Core.Bool.{true, false}
use mathlib.Core.Path.{◌≡◌, ap}
use mathlib.Core.List.{List}
use lib.Dec.{leb}
use lib.ListN.{length, get_or}
use borrow.Author.Tests.{leb-true, leb-false}
use Rattle.std.specs.List.Sorted.{IsPartitionPoint}
use Rattle.std.proofs.lemmas.List.Sorted.{IsPartitionPoint-from_clause}
use Rattle.line_index.proofs.find_line.Goals as goal

module _ (ix : List ℕ) (o : ℕ) (some : 0 < length ix) (low : get_or ix 0 0 ≤ o) where
  past_first : (i : ℕ) → IsPartitionPoint (λ (n : ℕ). leb n o ≡ true) (λ (n : ℕ). leb n o ≡ false) ix i → 1 ≤ i
  past_first zero p = absurd (omega (arith, leb-false _ _ (p.1 0 0 (omega arith) some)))
  past_first (suc i) p = omega arith

  found : (i : ℕ) → i ≤ length ix → IsPartitionPoint (λ (n : ℕ). leb n o ≡ true) (λ (n : ℕ). leb n o ≡ false) ix i
      → (i - 1 < length ix) × (get_or ix (i - 1) 0 ≤ o) × (i - 1 + 1 < length ix → o < get_or ix (i - 1 + 1) 0)
  found i l p =
      let more : 1 ≤ i = past_first i p in
      let e : i - 1 + 1 ≡ i = omega (arith, more) in (
        omega (arith, more, l),
        leb-true _ _ (p.0 (i - 1) 0 (omega arith) (omega (arith, more))),
        λ h. omega (arith, leb-false _ _ (p.1 i 0 (omega arith) (omega (arith, e, h))), ap (λ (n : ℕ). get_or ix n 0) e),
      )

pub overflow_sub-result : goal.overflow_sub-result
overflow_sub-result c =
    let a = c.args in
    let e = c.partition_point.ensures in
    let q = c.requires in
    past_first a.index.now a.offset q.index_nonzero q.index_bound _ (IsPartitionPoint-from_clause (λ n. leb n a.offset) _ _ e.partitioned q.index_parted (λ x t f k. search rules))

pub returns : goal.returns
returns c =
    let a = c.args in
    let e = c.partition_point.ensures in
    let q = c.requires in
    found a.index.now a.offset q.index_nonzero q.index_bound _ e.bound (IsPartitionPoint-from_clause (λ n. leb n a.offset) _ _ e.partitioned q.index_parted (λ x t f k. search rules))
