-- `replay` stops at the check's refusal, and else keeps the promise of `put_whole`: only the sizes are left to be judged (ReplayLaws).
use Rattle.std.proofs.lemmas.Result.{err_from_is_err_and}
use Rattle.recorder.proofs.ReplayLaws.{check_refused, sizes_left}
use Rattle.recorder.proofs.replay.Goals as goal

pub returns-in_err-check : goal.returns-in_err-check
returns-in_err-check c =
    let p = err_from_is_err_and c.from_residual.result c.from_residual.ensures.1 in
    rw (p.1, p.2) (check_refused _ _ c.check.result c.check.ensures.result_value _ c.in_err-check.was)

pub returns : goal.returns
returns c = sizes_left _ _ c.check.result c.check.ensures.result_value _ c.in_ok-check.was _ _ c.put_whole.ensures
