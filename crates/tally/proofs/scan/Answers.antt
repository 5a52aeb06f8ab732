-- The line of names decides first; if it is fine, the lines of values do (`ScanLaws`).
use Rattle.std.proofs.lemmas.Result.{err_from_is_err_and}
use Rattle.tally.proofs.ScanLaws.{names_refused, by_values, by_both, by_sum}
use Rattle.tally.proofs.scan.Goals as goal

pub returns-in_err-names-clause-result_value : goal.returns-in_err-names-clause-result_value
returns-in_err-names-clause-result_value c =
    let x = c.args in
    let f = c.find-e in
    let p = err_from_is_err_and c.from_residual.result c.from_residual.ensures.1 in
    rw (p.1, p.2) (names_refused x.columns.now x.input.now f.result f.ensures.value _ c.in_err-names.ensures.result_value)

pub returns-in_err-values-clause-result_value : goal.returns-in_err-values-clause-result_value
returns-in_err-values-clause-result_value c =
    let x = c.args in
    let f = c.find-e in
    let b = c.boards_at in
    let r = c.from_residual-in_err-values in
    let p = err_from_is_err_and r.result r.ensures.1 in
    rw (p.1, p.2) (by_values x.columns.now x.input.now f.result f.ensures.value c.in_ok-names.ensures.result_value b.result b.ensures _ c.in_err-values.ensures.result_value)

pub returns-clause-result_value : goal.returns-clause-result_value
returns-clause-result_value c =
    let x = c.args in
    let f = c.find-e in
    let b = c.boards_at in
    by_values x.columns.now x.input.now f.result f.ensures.value c.in_ok-names.ensures.result_value b.result b.ensures _ c.in_ok-values.ensures.result_value

pub returns-clause-told : goal.returns-clause-told
returns-clause-told c =
    let x = c.args in
    let f = c.find-e in
    let b = c.boards_at in
    let n = c.in_ok-names.ensures in
    let v = c.in_ok-values.ensures in (
      by_both x.columns.now x.input.now f.result f.ensures.value n.result_value b.result b.ensures _ _ n.told.0 v.told.0,
      by_sum x.columns.now x.input.now f.result f.ensures.value n.result_value b.result b.ensures _ v.told.1,
    )
