-- By the kind of the entry, and for a push and a pop by the tests that decide over `since`.
use native.Mathlib.Omega.{arith}
use mathlib.Core.Bool.{false≢true}
use mathlib.Core.Path.{refl, sym, ◌∙◌}
use borrow.Author.Tests.{ne_eqb}
use Rattle.open_label.proofs.OpenLaws.{cut_alike, push_open, push_first, push-other, pop_outermost, pop_inner, push_told, pop_told, raw_told}
use Rattle.open_label.proofs.opened.Goals as goal
use Rattle.open_label.proofs.opened.Goals.{then-o-eq0, else-o-eq0}

pub returns-then-first-clause-opened : goal.returns-then-first-clause-opened
returns-then-first-clause-opened c =
    let o = c.args.o in
    elim c.if-o-eq0.branch [
      | then-o-eq0 w ↦ push_told _ _ _ _ _ c.in-0.is refl (push_first _ o.depth o.since w.if-o-eq0.true (cut_alike c.args.label.now c.args.text.now c.args.e _ w.eq-first.ensures ∙ sym w.first-is ∙ c.if-first.true))
      | else-o-eq0 w ↦ absurd (false≢true (sym (ne_eqb _ _ w.if-o-eq0.false) ∙ sym w.first-is ∙ c.if-first.true))
    ]

pub returns-else-first-clause-opened : goal.returns-else-first-clause-opened
returns-else-first-clause-opened c =
    let o = c.args.o in
    elim c.if-o-eq0.branch [
      | then-o-eq0 w ↦ push_told _ _ _ _ _ c.in-0.is refl (w.if-o-eq0.true ∙ push-other _ o.depth o.since w.if-o-eq0.true (cut_alike c.args.label.now c.args.text.now c.args.e _ w.eq-first.ensures ∙ sym w.first-is ∙ c.if-first.false))
      | else-o-eq0 w ↦ push_told _ _ _ _ _ c.in-0.is refl (push_open _ o.depth o.since w.if-o-eq0.false)
    ]

pub returns-then-o-clause-opened : goal.returns-then-o-clause-opened
returns-then-o-clause-opened c = pop_told _ _ _ _ _ c.in-1.is c.saturating_sub.ensures (pop_outermost c.args.o.depth c.args.o.since c.if-o.true)

pub returns-else-o-clause-opened : goal.returns-else-o-clause-opened
returns-else-o-clause-opened c = pop_told _ _ _ _ _ c.in-1.is c.saturating_sub.ensures (pop_inner c.args.o.depth c.args.o.since c.if-o.false)

pub returns-in_default-clause-opened : goal.returns-in_default-clause-opened
returns-in_default-clause-opened c = raw_told _ _ _ _ (λ z. omega (arith, z)) (λ z. omega (arith, z))
