-- From inside a line: past its end, then past the empty lines after it (`next_after`).
use native.Mathlib.Omega.{arith}
use borrow.Author.Rules.{rules}
use Prim.Native.Nat.{ℕ, ◌+◌}
use mathlib.Core.Path.{◌≡◌, sym, ap, ◌∙◌}
use mathlib.Core.Bool.{Bool, true, false}
use lib.ListN.{drop}
use Rattle.indent.specs.Lines.{to_next}
use Rattle.indent.proofs.Laws.{next_after}
use Rattle.indent.proofs.next_line.Goals as goal

pub returns-then-at_start : goal.returns-then-at_start
returns-then-at_start c =
    let a = c.args in
    record {
      value = c.skip_empty.ensures.value ∙ ap (λ (t : Bool). a.from + to_next t (drop a.from a.content.now)) (sym c.if-at_start.true);
      lower_bound = (search rules, search rules);
    }

pub returns : goal.returns
returns c =
    let a = c.args in
    let e = c.line_end.ensures.value in
    let far : c.skip_empty-2.result ≡ a.from + to_next false (drop a.from a.content.now) =
    omega (arith, c.skip_empty-2.ensures.value, e, ap (λ (n : ℕ). to_next true (drop n a.content.now)) e, next_after a.from a.content.now) in
    record {
      value = far ∙ ap (λ (t : Bool). a.from + to_next t (drop a.from a.content.now)) (sym c.if-at_start.false);
      lower_bound = (search rules, search rules);
    }
