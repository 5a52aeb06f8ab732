-- Invariant: the size so far and what the tabs from here on add are the size of the result (`Measured`). Where it passes the limit, so does the whole.
use native.Mathlib.Omega.{arith}
use Rattle.tabs.proofs.RecordLaws.{measured_first, measured_next, measured_over, measured_end}
use Rattle.tabs.proofs.expanded_len.Goals as goal

pub loop-p-init : goal.loop-p-init
loop-p-init c = measured_first c.args.stop c.requires.0 c.requires.1 c.args.content.now c.next_tab-p.result c.requires.2 c.next_tab-p.ensures

pub spaces_at-n-requires : goal.spaces_at-n-requires
spaces_at-n-requires c = c.requires.0

pub overflow_sub-size : goal.overflow_sub-size
overflow_sub-size c = omega (arith, c.spaces_at-n.ensures.1)

pub overflow_add-size : goal.overflow_add-size
overflow_add-size c = omega (arith, c.loop-p.invariant.small, c.spaces_at-n.ensures.2, c.requires.1)

pub returns-then-size-gt1048576 : goal.returns-then-size-gt1048576
returns-then-size-gt1048576 c =
    measured_over c.args.stop c.requires.0 c.requires.1 c.args.content.now c.loop-p.size c.loop-p.p c.loop-p.invariant (omega (arith, c.loop-p-test.true))
    c.spaces_at-n.result c.spaces_at-n.ensures.0 (omega (arith, c.if-size-gt1048576.true))

pub overflow_add-p : goal.overflow_add-p
overflow_add-p c = omega (arith, c.loop-p.invariant.here.within, c.requires.2)

pub overflow_add-p-in-loop-p : goal.overflow_add-p-in-loop-p
overflow_add-p-in-loop-p c = omega (arith, c.loop-p.invariant.here.within, c.loop-p.invariant.here.bounded, c.requires.1, c.requires.2, c.spaces_at-n.ensures.2)

pub next_tab-p-requires-in-loop-p : goal.next_tab-p-requires-in-loop-p
next_tab-p-requires-in-loop-p c = (omega (arith, c.loop-p-test.true), c.requires.2, omega (arith, c.loop-p.invariant.here.bounded, c.requires.1, c.spaces_at-n.ensures.2))

pub loop-p-smaller : goal.loop-p-smaller
loop-p-smaller c = omega (arith, c.next_tab-p-in-loop-p.ensures.onward.forward, c.loop-p-test.true)

pub loop-p-preserved : goal.loop-p-preserved
loop-p-preserved c =
    measured_next c.args.stop c.requires.0 c.requires.1 c.args.content.now c.loop-p.size c.loop-p.p c.loop-p.invariant (omega (arith, c.loop-p-test.true))
    c.spaces_at-n.result c.spaces_at-n.ensures.0 c.next_tab-p-in-loop-p.result c.next_tab-p-in-loop-p.ensures (omega (arith, c.if-size-gt1048576.false))

pub returns : goal.returns
returns c = measured_end c.args.stop c.requires.0 c.requires.1 c.args.content.now c.loop-p.size c.loop-p.p c.loop-p.invariant (omega (arith, c.loop-p-test.false))
