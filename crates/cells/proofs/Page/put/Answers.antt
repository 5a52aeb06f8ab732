-- A turn writes what is kept of the next cell and its numbers (`write_next`), which have room since all have.
use native.Mathlib.Omega.{arith}
use Rattle.cells.proofs.EndsLaws.{end_within}
use Rattle.cells.proofs.PlanLaws.{mark_bounds}
use Rattle.cells.proofs.PutLaws.{write_start, keeps_all, cell_fits, end_small, write_next, write_end}
use Rattle.cells.proofs.Page.put.Goals as goal

pub loop-k-init : goal.loop-k-init
loop-k-init c = write_start _ _ _ _ _ _ c.args.self.in_order

pub slice_bounds-cell-end : goal.slice_bounds-cell-end
slice_bounds-cell-end c = omega (arith, end_within _ _ _ _ c.loop-k.invariant.ahead c.loop-k-test.true)

pub measure_cell-p-requires : goal.measure_cell-p-requires
measure_cell-p-requires c = (mark_bounds _ _ _ c.args.self.measured).0

pub put_cell-at-requires : goal.put_cell-at-requires
put_cell-at-requires c =
    let s = c.args.self in
    let p = c.measure_cell-p.ensures in
    record {
      plan_in_bounds = (p.content_in_bounds.0, omega (arith, p.content_in_bounds.1, (mark_bounds _ _ _ s.measured).1));
      content_value = keeps_all _ _ _ _ _ _ c.loop-k.invariant.ahead c.loop-k-test.true _ s.measured _ p.value;
      ellipsis_in_bounds = cell_fits _ _ _ _ _ _ c.loop-k.invariant.ahead c.loop-k-test.true _ s.measured _ p.value _ _ _ _ _ c.loop-k.invariant c.requires.1;
    }

pub overflow_cast-at : goal.overflow_cast-at
overflow_cast-at c =
    let p = c.measure_cell-p.ensures in
    omega (
      arith,
      c.put_cell-at.ensures.0,
      end_small _ _ _ _ _ _ c.loop-k.invariant.ahead c.loop-k-test.true _ c.args.self.measured _ p.value _ _ _ _ _ c.loop-k.invariant c.requires.0,
    )

pub loop-k-preserved : goal.loop-k-preserved
loop-k-preserved c =
    let p = c.measure_cell-p.ensures in
    let w = c.put_cell-at.ensures in
    write_next _ _ _ _ _ _ c.loop-k.invariant.ahead c.loop-k-test.true _ c.args.self.measured _ p.value _ _ _ _ _ c.loop-k.invariant _ _ _ w.0 w.1 c.put_cell-at.auto.bytes c.set_cell.ensures
    c.set_cell.auto.cells

pub returns : goal.returns
returns c =
    let w = write_end _ _ _ _ _ _ _ _ _ _ _ c.loop-k.invariant c.loop-k-test.false in
    record { value = w.0; bytes_after = w.1; cells_after = w.2 }
