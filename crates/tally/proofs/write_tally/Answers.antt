-- Each return of the call is one of `CallLaws`: the tests in their order, then the first pass, the sizes, and what is written.
use native.Mathlib.Omega.{arith}
use lib.ListN.{length}
use mathlib.Core.Path.{ap, ◌∙◌}
use Rattle.std.proofs.lemmas.Result.{err_from_is_err_and}
use Rattle.tally.proofs.CountLaws.{lines_some}
use Rattle.tally.proofs.CallLaws.{last_text_lem, shape-refused, scan-refused, sum_small, fits, sizes_refused, has_room, written}
use Rattle.tally.proofs.write_tally.Goals as goal

pub returns-in_err-lines-clause-promised : goal.returns-in_err-lines-clause-promised
returns-in_err-lines-clause-promised c =
    let x = c.args in
    let p = err_from_is_err_and c.from_residual.result c.from_residual.ensures.1 in
    rw (p.1, p.2) (shape-refused x.columns.now x.input.now x.out.now _ c.in_err-lines.ensures).0

pub overflow_sub-values : goal.overflow_sub-values
overflow_sub-values c = omega (arith, c.in_ok-lines.ensures.count, lines_some c.args.input.now)

pub returns-in_err-total-clause-promised : goal.returns-in_err-total-clause-promised
returns-in_err-total-clause-promised c =
    let x = c.args in
    let n = c.in_ok-lines in
    let r = c.from_residual-in_err-total in
    let p = err_from_is_err_and r.result r.ensures.1 in
    rw (p.1, p.2) (scan-refused x.columns.now x.input.now x.out.now n.lines n.ensures _ c.in_err-total.ensures.result_value).0

pub overflow_cast-sum : goal.overflow_cast-sum
overflow_cast-sum c =
    let x = c.args in
    let n = c.in_ok-lines in
    let g = c.in_ok-total.ensures in
    omega (arith, g.told.1, sum_small x.columns.now x.input.now x.out.now n.lines n.ensures g.result_value)

pub returns-in_err-settle-clause-promised : goal.returns-in_err-settle-clause-promised
returns-in_err-settle-clause-promised c =
    let x = c.args in
    let n = c.in_ok-lines in
    let g = c.in_ok-total.ensures in
    let l = c.last_len in
    let e = last_text_lem x.input.now n.lines _ n.ensures.count g.told.1 in
    let r = c.from_residual-in_err-settle in
    let p = err_from_is_err_and r.result r.ensures.1 in
    rw (p.1, p.2)
    (sizes_refused x.columns.now x.input.now x.out.now n.lines n.ensures g.result_value _ l.result g.told.0 (l.ensures.value ∙ ap length e) c.settle.result c.settle.ensures _ c.in_err-settle.was).0

pub put_rows-end-requires : goal.put_rows-end-requires
put_rows-end-requires c =
    let x = c.args in
    let n = c.in_ok-lines in
    let g = c.in_ok-total.ensures in
    let l = c.last_len in
    let e = last_text_lem x.input.now n.lines _ n.ensures.count g.told.1 in (
      fits x.columns.now x.input.now x.out.now n.lines n.ensures g.result_value,
      omega (arith, has_room x.columns.now x.input.now x.out.now n.lines n.ensures g.result_value _ l.result g.told.0 (l.ensures.value ∙ ap length e) c.settle.result c.settle.ensures c.in_ok-settle.was, g.told.0),
    )

pub put_last-requires : goal.put_last-requires
put_last-requires c =
    let x = c.args in
    let n = c.in_ok-lines in
    let g = c.in_ok-total.ensures in
    let l = c.last_len in
    let e = last_text_lem x.input.now n.lines _ n.ensures.count g.told.1 in
    let p = c.put_rows-end in
    omega (arith, has_room x.columns.now x.input.now x.out.now n.lines n.ensures g.result_value _ l.result g.told.0 (l.ensures.value ∙ ap length e) c.settle.result c.settle.ensures c.in_ok-settle.was, g.told.0, l.ensures.value, p.ensures.0, p.auto.out)

pub returns-clause-promised : goal.returns-clause-promised
returns-clause-promised c =
    let x = c.args in
    let n = c.in_ok-lines in
    let g = c.in_ok-total.ensures in
    let l = c.last_len in
    let e = last_text_lem x.input.now n.lines _ n.ensures.count g.told.1 in
    let p = c.put_rows-end.ensures in
    let q = c.put_last.ensures in
    (written x.columns.now x.input.now x.out.now n.lines n.ensures g.result_value _ l.result g.told.0 (l.ensures.value ∙ ap length e) c.settle.result c.settle.ensures c.in_ok-settle.was _ _ _ _ _ e p.0 p.1 q.0 q.1).0

pub returns-clause-sheet_left : goal.returns-clause-sheet_left
returns-clause-sheet_left c =
    let x = c.args in
    let n = c.in_ok-lines in
    let g = c.in_ok-total.ensures in
    let l = c.last_len in
    let e = last_text_lem x.input.now n.lines _ n.ensures.count g.told.1 in
    let p = c.put_rows-end.ensures in
    let q = c.put_last.ensures in
    (written x.columns.now x.input.now x.out.now n.lines n.ensures g.result_value _ l.result g.told.0 (l.ensures.value ∙ ap length e) c.settle.result c.settle.ensures c.in_ok-settle.was _ _ _ _ _ e p.0 p.1 q.0 q.1).1
