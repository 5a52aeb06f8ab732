-- The first line that is refused decides; what the others come to is added up (`ScanLaws`).
use native.Mathlib.Omega.{arith}
use Rattle.std.proofs.lemmas.Result.{err_from_is_err_and}
use Rattle.buffer.proofs.Laws.{length_part}
use Rattle.tally.proofs.ScanLaws.{scanning_first, scanning_last, scanning_next, line_refused}
use Rattle.tally.proofs.scan_values.Goals as goal

pub loop-at-init : goal.loop-at-init
loop-at-init c = scanning_first _ _ _ _ c.requires.2

pub returns-in_err-line-clause-result_value : goal.returns-in_err-line-clause-result_value
returns-in_err-line-clause-result_value c =
    let p = err_from_is_err_and c.from_residual.result c.from_residual.ensures.1 in
    let f = c.find-e in
    rw (p.1, p.2) (line_refused _ _ _ _ _ _ _ c.loop-at.invariant c.loop-at-test.true f.result f.ensures.value _ c.in_err-line.ensures.result_value)

pub overflow_add-bytes : goal.overflow_add-bytes
overflow_add-bytes c =
    let f = c.find-e in
    let s = c.loop-at.invariant in
    omega (arith, c.in_ok-line.ensures.small.0, s.small.0, s.inside, length_part c.loop-at.at f.result c.args.input.now f.ensures.lower_bound.1, f.ensures.lower_bound.1, c.requires.1)

pub overflow_add-boards : goal.overflow_add-boards
overflow_add-boards c =
    let s = c.loop-at.invariant in
    omega (arith, c.in_ok-line.ensures.small.1, s.small.1, s.inside, c.requires.1)

pub loop-at-preserved : goal.loop-at-preserved
loop-at-preserved c =
    let l = c.in_ok-line in
    let f = c.find-e in
    scanning_next _ _ _ _ _ _ _ c.loop-at.invariant c.loop-at-test.true f.result f.ensures.value l.ensures.result_value _ _ l.ensures.told l.ensures.small f.ensures.lower_bound.0 f.ensures.lower_bound.1

pub returns-clause-result_value : goal.returns-clause-result_value
returns-clause-result_value c = (scanning_last _ _ _ _ _ _ _ c.loop-at.invariant (omega (arith, c.loop-at-test.false))).0

pub returns-clause-told : goal.returns-clause-told
returns-clause-told c = (scanning_last _ _ _ _ _ _ _ c.loop-at.invariant (omega (arith, c.loop-at-test.false))).1

pub returns-clause-small : goal.returns-clause-small
returns-clause-small c =
    let s = c.loop-at.invariant in
    (omega (arith, s.small.0, s.inside, c.requires.1), omega (arith, s.small.1, s.inside, c.requires.1))
