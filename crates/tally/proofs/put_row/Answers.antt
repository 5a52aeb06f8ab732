-- A cell and the byte after it are put at the end of what is done (`PutLaws`).
use native.Mathlib.Omega.{arith}
use Rattle.tally.proofs.ColumnLaws.{columns_are}
use Rattle.tally.proofs.WalkLaws.{wide}
use Rattle.tally.proofs.PutLaws.{row_start, well, cell_room, row_again, row_finish}
use Rattle.tally.proofs.put_row.Goals as goal

pub loop-i-init : goal.loop-i-init
loop-i-init c = row_start _ _ _ _ _ (columns_are _ _ c.as_chunks.ensures.front) c.requires.0

pub put_cell-g-requires : goal.put_cell-g-requires
put_cell-g-requires c =
    let s = c.loop-i.invariant in
    let more = c.loop-i-test.true in
    let f = c.find-e in
    ((wide _ _ _ _ s.walk more).0, well _ _ _ _ _ _ _ _ _ s more f.result f.ensures.value, omega (arith, cell_room _ _ _ _ _ _ _ _ _ s more f.result f.ensures.value c.requires.1))

pub put_byte_times-end-requires : goal.put_byte_times-end-requires
put_byte_times-end-requires c =
    let f = c.find-e in
    let p = c.put_cell-g in
    omega (arith, cell_room _ _ _ _ _ _ _ _ _ c.loop-i.invariant c.loop-i-test.true f.result f.ensures.value c.requires.1, p.ensures.0, p.auto.out)

pub loop-i-preserved : goal.loop-i-preserved
loop-i-preserved c =
    let f = c.find-e in
    let p = c.put_cell-g in
    let b = c.put_byte_times-end in
    row_again _ _ _ _ _ _ _ _ _ c.loop-i.invariant c.loop-i-test.true f.result f.ensures.value p.result b.result c.gap.result _ _ (omega (arith, c.requires.1)) f.ensures.lower_bound.1 p.ensures.0 p.ensures.1
    (omega (arith, p.auto.out)) c.gap.ensures b.ensures.0 b.ensures.1 (omega (arith, b.auto.out))

pub returns : goal.returns
returns c = row_finish _ _ _ _ _ _ _ _ _ c.loop-i.invariant (omega (arith, c.loop-i-test.false))
