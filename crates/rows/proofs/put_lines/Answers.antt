-- One row more for the next three numbers (`rows_in_next`); where none are left, the rows of all numbers stand there (`rows_in_numbers`).
use Rattle.std.proofs.Common.{refl, ap, ◌∙◌, arith}
use Rattle.buffer.proofs.FillLaws.{fill_start, fill_more, fill_end}
use Rattle.rows.proofs.RowLaws.{rows_in, rows_in_next, rows_in_end, rows_in_numbers}
use Rattle.rows.proofs.put_lines.Goals as goal

pub loop-line-init : goal.loop-line-init
loop-line-init c = record { filled = fill_start _ _ _ _ refl; room = omega arith }

pub loop-line-preserved : goal.loop-line-preserved
loop-line-preserved c =
    let l = c.loop-line in
    let p = c.put_row-end in
    record {
      filled = fill_more _ _ _ _ _ _ l.invariant.filled (omega arith) _ _ _ _ (rows_in_next c.args.row l.line c.as_chunks.result.0.now (omega arith)) p.ensures.value.1 p.auto.out p.ensures.value.0;
      room = omega (arith, p.ensures.upper_bound, l.invariant.room);
    }

pub returns-clause-value : goal.returns-clause-value
returns-clause-value c =
    let x = c.args in
    let l = c.loop-line in
    let f = fill_end _ _ _ _ _ _ l.invariant.filled (rows_in_end x.row l.line c.as_chunks.result.0.now (omega arith)) in
    let e = ap (rows_in x.row 0) c.as_chunks.ensures.front ∙ rows_in_numbers x.row 0 x.lines.now in
    (rw e at f.1, rw e at f.0)
