-- The search is of the first byte that is no 0A, and that is what the line has empty (`filled_position`).
use Rattle.std.proofs.Common.{rules}
use Rattle.std.proofs.lemmas.Iterator.{IsFirst-from_position, YieldsList-from_slice}
use Rattle.std.proofs.lemmas.List.{take_rest}
use Rattle.std.specs.Option.{unwrap_or}
use borrow.Author.Tests.{tests}
use Prim.Native.Nat.{ℕ, ◌+◌}
use mathlib.Core.Bool.{true, false, not}
use mathlib.Core.Path.{◌≡◌, sym, ap, ◌∙◌}
use mathlib.Core.List.{List}
use lib.Dec.{eqb}
use lib.ListN.{drop, length-drop}
use Rattle.indent.proofs.Laws.{found, filled_position}
use Rattle.indent.proofs.skip_empty.Goals as goal

pub returns-clause-value : goal.returns-clause-value
returns-clause-value c =
    let d : List ℕ = drop c.args.from c.args.s.now in
    let e = IsFirst-from_position _ _ _ (λ x. (not (eqb x 0x0A)) ≡ true) (λ x. (not (eqb x 0x0A)) ≡ false) c.position.ensures.ran
    (YieldsList-from_slice d (c.iter.ensures.rest ∙ take_rest c.args.s.now c.args.from)) (λ x q k. search (rules, tests)) (λ x q k. search (rules, tests)) in
    ap (λ (n : ℕ). c.args.from + n) (c.unwrap_or.ensures ∙ ap (λ (n : ℕ). unwrap_or c.position.result n) (sym (length-drop c.args.from c.args.s.now)) ∙ found (λ x. not (eqb x 0x0A)) d c.position.result e ∙ filled_position d)
