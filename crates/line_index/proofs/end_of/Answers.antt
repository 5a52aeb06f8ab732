-- One before the next start, or the data's end (`end_inner`, `end_last`).
use native.Mathlib.Omega.{arith}
use Prim.Native.Nat.{ℕ, ◌+◌}
use mathlib.Core.Path.{◌≡◌, sym, ap}
use mathlib.Core.List.{List}
use lib.ListN.{length, get_or}
use mathlib.Core.Bool.{true}
use lib.Dec.{ltb}
use Rattle.std.proofs.lemmas.Grind.{get_or_default_zero}
use borrow.Author.Tests.{ltb-true, ltb-false}
use Rattle.line_index.specs.Starts.{line_starts, line_span}
use Rattle.line_index.proofs.StartLaws.{end_inner, end_last}
use Rattle.line_index.proofs.end_of.Goals as goal

-- the next start, where there is one
next : (d ix : List ℕ) (n x : ℕ) → ix ≡ line_starts d → true ≡ ltb (n + 1) (length ix) → x ≡ get_or ix (n + 1) x → x ≡ (line_span d n).end + 1
next d ix n x q t e = omega (arith, e, get_or_default_zero ix (n + 1) x (ltb-true _ _ (sym t)), ap (λ (l : List ℕ). get_or l (n + 1) 0) q, end_inner d n (omega (arith, ap length q, ltb-true _ _ (sym t))))

pub overflow_sub-result : goal.overflow_sub-result
overflow_sub-result c =
    let l = c.in-Some.ensures.lookup in
    omega (arith, next c.args.s.now c.args.index.now c.args.n _ c.requires.index_value l.0 l.1)

pub returns-in-Some : goal.returns-in-Some
returns-in-Some c =
    let l = c.in-Some.ensures.lookup in
    omega (arith, next c.args.s.now c.args.index.now c.args.n _ c.requires.index_value l.0 l.1)

pub returns-in-None : goal.returns-in-None
returns-in-None c =
    let a = c.args in
    sym (end_last a.s.now a.n (omega (arith, ap length c.requires.index_value, c.requires.n_in_bounds, ltb-false _ _ (sym c.in-None.ensures.lookup.0))))
