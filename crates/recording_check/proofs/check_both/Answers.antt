-- The content's check decides if it refuses, then the second recording's (`first_refused`, `next_refused`, `both_fine` of CheckLaws).
use Rattle.std.proofs.lemmas.Result.{err_from_is_err_and}
use Rattle.recording.proofs.CheckLaws.{first_refused, next_refused, both_fine}
use Rattle.recording_check.proofs.check_both.Goals as goal

pub returns-in_err-check : goal.returns-in_err-check
returns-in_err-check c =
    let p = err_from_is_err_and c.from_residual.result c.from_residual.ensures.1 in
    rw (p.1, p.2) (first_refused _ _ _ c.check.ensures.result_value _ c.in_err-check.was)

pub returns-in_err-check-2 : goal.returns-in_err-check-2
returns-in_err-check-2 c =
    let p = err_from_is_err_and c.from_residual-in_err-check-2.result c.from_residual-in_err-check-2.ensures.1 in
    let k = c.check.ensures in
    rw (p.1, p.2)
    (next_refused _ _ _ k.result_value _ c.in_ok-check.was k.counted k.within _ c.check-2.ensures.result_value _ c.in_err-check-2.was)

pub returns : goal.returns
returns c =
    let k = c.check.ensures in
    let l = c.check-2.ensures in
    both_fine _ _ _ k.result_value _ c.in_ok-check.was k.counted k.within _ l.result_value _ c.in_ok-check-2.was l.counted l.within
