-- `write`: what its checks refuse is what its outcome has (`AddLaws`), and the bytes at the data's end are the outcome's over the buffer.
use Rattle.std.proofs.lemmas.Result.{err_from_is_err_and}
use mathlib.Core.Path.{refl, ◌∙◌}
use Rattle.recorder.specs.Recorder.{written}
use Rattle.recorder.proofs.AddLaws.{used_refused, data_refused, data_added}
use Rattle.recorder.proofs.AddLaws.{whole_part}
use Rattle.recorder.proofs.write.Goals as goal

pub returns-in_err-check_used : goal.returns-in_err-check_used
unfolding written
returns-in_err-check_used c =
    let p = err_from_is_err_and c.from_residual.result c.from_residual.ensures.1 in
    rw (p.1, p.2) (used_refused _ _ _ _ _ _ _ c.in_err-check_used.ensures.result_value)

pub returns-in_err-left : goal.returns-in_err-left
unfolding written
returns-in_err-left c =
    let p = err_from_is_err_and c.from_residual-in_err-left.result c.from_residual-in_err-left.ensures.1 in
    let u = c.in_ok-check_used.ensures in
    rw (p.1, p.2) (data_refused _ _ _ _ u.used_in u.result_value 0 refl c.args.added.now _ c.in_err-left.ensures.result_value)

pub returns : goal.returns
unfolding written
returns c =
    let u = c.in_ok-check_used.ensures in
    let s = c.in_ok-left.ensures in
    data_added _ _ _ _ u.used_in u.result_value 0 refl c.args.added.now s.result_value _ s.answer _ (c.put.ensures.1 ∙ whole_part _ _ _)
