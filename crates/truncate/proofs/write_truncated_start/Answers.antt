-- The promise of `truncate_start`: each refusal is found in its order, and what is measured, settled and written is the call's result (`proofs/CallLaws.antt`).
use mathlib.Core.List.{[], ◌∷◌}
use mathlib.Core.Path.{refl}
use Rattle.std.proofs.lemmas.Result.{err_from_is_err_and}
use Rattle.buffer.specs.LendsOn.{LendsOn, own_arrays, acts, touches, loops, calls, called}
use Rattle.truncate.proofs.CallLaws.{start_refused, start_over, start_room, start_written}
use Rattle.truncate.proofs.write_truncated_start.Code.Mir as code
use Rattle.truncate.proofs.write_truncated_start.Goals as goal

pub returns-in_err-sizes : goal.returns-in_err-sizes
returns-in_err-sizes c =
    let p = err_from_is_err_and c.from_residual.result c.from_residual.ensures.1 in
    rw (p.1, p.2) (start_refused _ _ _ _ _ _ _ c.check_both.ensures _ c.in_err-sizes.was)

pub returns-in_err-settle_kept : goal.returns-in_err-settle_kept
returns-in_err-settle_kept c =
    let p = err_from_is_err_and c.from_residual-in_err-settle_kept.result c.from_residual-in_err-settle_kept.ensures.1 in
    let m = c.measure_start-p.ensures in
    rw (p.1, p.2)
    (start_over _ _ _ _ _ _ _ c.check_both.ensures _ c.in_ok-sizes.was _ m.value _ c.from.ensures _ c.settle_kept.ensures _ c.in_err-settle_kept.was)

pub put_start-c-requires : goal.put_start-c-requires
put_start-c-requires c =
    let m = c.measure_start-p.ensures in
    let w = start_room _ _ _ _ _ _ _ c.check_both.ensures _ c.in_ok-sizes.was _ m.value _ c.from.ensures _ c.settle_kept.ensures c.in_ok-settle_kept.was in
    record { sound = w.0; sound_2 = w.1; content_in_bounds = m.content_in_bounds; fits = w.2 }

pub returns : goal.returns
returns c =
    let m = c.measure_start-p.ensures in
    start_written _ _ _ _ _ _ _ c.check_both.ensures _ c.in_ok-sizes.was _ m.value _ c.from.ensures _ c.settle_kept.ensures c.in_ok-settle_kept.was
    _ _ _ c.put_start-c.result c.put_start-c.ensures.result_after

-- the lent buffers go by one call, and it has no array; the other calls are lent nothing that is written, and `?` and `usize::from` take values
pub write-truncated-start-lends-on : LendsOn code.function [] 0
    ("recording_check::check_both" ∷ "core::result::ResultTry::branch" ∷ "core::result::ResultFromResidualErrResidual::from_residual"
    ∷ "truncate_plan::measure_start" ∷ "core::convert::others::UsizeFromBool::from"
    ∷ "truncate::settle_kept" ∷ "core::result::ResultTry::branch" ∷ "core::result::ResultFromResidualErrResidual::from_residual"
    ∷ "truncate::put_start" ∷ [])
unfolding own_arrays acts touches loops calls called
write-truncated-start-lends-on = refl
