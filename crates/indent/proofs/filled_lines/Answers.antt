-- Line by line: `Counted` says that n lines are counted, and that the lines of what is left give the rest of the count.
use native.Mathlib.Omega.{arith}
use mathlib.Core.Bool.{true}
use Rattle.indent.proofs.Laws.{one_more, all, next_past}
use Rattle.indent.proofs.filled_lines.Goals as goal

pub loop-at-init : goal.loop-at-init
loop-at-init c = record { from = 0; start = true; next = c.next_line-at.ensures.value; rest = omega arith; within = c.next_line-at.ensures.lower_bound.1; few = omega arith }

pub next_line-at-requires-in-loop-at : goal.next_line-at-requires-in-loop-at
next_line-at-requires-in-loop-at c = c.loop-at.invariant.within

pub loop-at-smaller : goal.loop-at-smaller
loop-at-smaller c = omega (arith, c.next_line-at-in-loop-at.ensures.value, c.loop-at-test.true, next_past c.loop-at.at c.args.content.now c.loop-at-test.true)

pub loop-at-preserved : goal.loop-at-preserved
loop-at-preserved c = one_more _ _ _ c.loop-at.invariant c.loop-at-test.true _ c.next_line-at-in-loop-at.ensures.value c.next_line-at-in-loop-at.ensures.lower_bound.1

pub returns : goal.returns
returns c =
    (all _ _ _ c.loop-at.invariant c.loop-at-test.false, omega (arith, c.loop-at.invariant.few, c.loop-at.invariant.within))
