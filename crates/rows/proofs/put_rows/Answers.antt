-- One line of the sheet more (`sheet_next`); behind the last one nothing is left (`rest_none`).
use Rattle.std.proofs.Common.{refl, arith}
use Rattle.buffer.proofs.Laws.{length_part}
use Rattle.buffer.proofs.FillLaws.{fill_start, fill_more}
use Rattle.rows.proofs.RowLaws.{next_rows}
use Rattle.rows.proofs.put_rows.Goals as goal

pub loop-p-init : goal.loop-p-init
loop-p-init c = record { filled = fill_start _ _ _ _ refl; within = omega arith; count = omega arith; room = omega arith }

pub loop-p-preserved : goal.loop-p-preserved
loop-p-preserved c =
    let s = c.args.sheet.now in
    let l = c.loop-p in
    let e = c.find-e in
    let o = c.one_row-at in
    record {
      filled = fill_more _ _ _ _ _ _ l.invariant.filled (omega arith) _ _ _ _ (next_rows l.row s l.p e.result c.loop-p-test.true e.ensures.value) o.ensures.value.1 o.auto.out o.ensures.value.0;
      within = omega (arith, e.ensures.lower_bound);
      count = omega (arith, e.ensures.lower_bound, l.invariant.count);
      room = omega (arith, o.ensures.upper_bound, l.invariant.room, e.ensures.lower_bound, length_part l.p e.result s e.ensures.lower_bound.1);
    }
