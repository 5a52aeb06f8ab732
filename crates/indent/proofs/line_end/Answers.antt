-- The blocks, then the search of the first 0A behind them (`break_position`).
use Rattle.std.proofs.Common.{rules}
use Rattle.std.proofs.lemmas.Iterator.{IsFirst-from_position, YieldsList-from_slice}
use Rattle.std.proofs.lemmas.List.{take_rest}
use Rattle.std.specs.Option.{unwrap_or}
use borrow.Author.Tests.{tests}
use Prim.Native.Nat.{ℕ, ◌+◌}
use mathlib.Core.Bool.{true, false}
use mathlib.Core.Path.{◌≡◌, sym, ap, ◌∙◌}
use mathlib.Core.List.{List}
use lib.Dec.{eqb}
use lib.ListN.{drop, length-drop}
use Rattle.indent.proofs.Laws.{found, break_position}
use Rattle.indent.proofs.line_end.Goals as goal

pub returns-clause-value : goal.returns-clause-value
returns-clause-value c =
    let d : List ℕ = drop c.skip_blocks-at.result c.args.s.now in
    let e = IsFirst-from_position _ _ _ (λ x. (eqb x 0x0A) ≡ true) (λ x. (eqb x 0x0A) ≡ false) c.position.ensures.ran
    (YieldsList-from_slice d (c.iter.ensures.rest ∙ take_rest c.args.s.now c.skip_blocks-at.result)) (λ x q k. search (rules, tests)) (λ x q k. search (rules, tests)) in
    ap (λ (n : ℕ). c.skip_blocks-at.result + n) (c.unwrap_or.ensures ∙ ap (λ (n : ℕ). unwrap_or c.position.result n) (sym (length-drop c.skip_blocks-at.result c.args.s.now)) ∙ found (λ x. eqb x 0x0A) d c.position.result e ∙ break_position d) ∙ c.skip_blocks-at.ensures.s_value
