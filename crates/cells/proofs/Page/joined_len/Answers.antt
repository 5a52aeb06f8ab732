-- A turn adds what is kept of the next cell (`sum_next`), and no sum so far is above the joined length, which is small.
use native.Mathlib.Omega.{arith}
use Rattle.cells.proofs.EndsLaws.{end_within}
use Rattle.cells.proofs.PlanLaws.{mark_bounds}
use Rattle.cells.proofs.PutLaws.{sum_start, sum_next, sum_end, most_bytes, product_small}
use Rattle.cells.proofs.Page.joined_len.Goals as goal

pub loop-end-init : goal.loop-end-init
loop-end-init c = sum_start _ _ _ _ c.args.self.in_order

pub slice_bounds-measure_cell-end : goal.slice_bounds-measure_cell-end
slice_bounds-measure_cell-end c = omega (arith, end_within _ _ _ _ c.loop-end.invariant.ahead c.loop-end-test.true)

pub measure_cell-p-requires : goal.measure_cell-p-requires
measure_cell-p-requires c = (mark_bounds _ _ _ c.args.self.measured).0

pub overflow_add-total : goal.overflow_add-total
overflow_add-total c =
    let s = c.args.self in
    let n = sum_next _ _ _ _ _ _ c.loop-end.invariant.ahead c.loop-end-test.true _ s.measured _ c.measure_cell-p.ensures.value _ c.loop-end.invariant in
    omega (arith, n.sum, most_bytes _ _ _ _ s.in_order _ s.measured, product_small _ _ _ _ s.in_order _ s.measured s.ellipsis_short, s.content_short)

pub overflow_add-total-in-loop-end : goal.overflow_add-total-in-loop-end
overflow_add-total-in-loop-end c =
    let s = c.args.self in
    let n = sum_next _ _ _ _ _ _ c.loop-end.invariant.ahead c.loop-end-test.true _ s.measured _ c.measure_cell-p.ensures.value _ c.loop-end.invariant in
    omega (arith, n.sum, most_bytes _ _ _ _ s.in_order _ s.measured, product_small _ _ _ _ s.in_order _ s.measured s.ellipsis_short, s.content_short)

pub loop-end-preserved : goal.loop-end-preserved
loop-end-preserved c = sum_next _ _ _ _ _ _ c.loop-end.invariant.ahead c.loop-end-test.true _ c.args.self.measured _ c.measure_cell-p.ensures.value _ c.loop-end.invariant

pub returns : goal.returns
returns c = sum_end _ _ _ _ _ _ _ c.loop-end.invariant c.loop-end-test.false
