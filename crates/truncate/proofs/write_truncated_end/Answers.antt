-- The promise of `truncate_end`: each refusal is found in its order, and what is measured, settled and written is the call's result (`proofs/CallLaws.antt`).
use mathlib.Core.List.{[], ◌∷◌}
use mathlib.Core.Path.{refl}
use Rattle.std.proofs.lemmas.Result.{err_from_is_err_and}
use Rattle.buffer.specs.LendsOn.{LendsOn, own_arrays, acts, touches, loops, calls, called}
use Rattle.truncate.proofs.CallLaws.{end_refused, end_over, end_room, end_written}
use Rattle.truncate.proofs.write_truncated_end.Code.Mir as code
use Rattle.truncate.proofs.write_truncated_end.Goals as goal

pub returns-in_err-sizes : goal.returns-in_err-sizes
returns-in_err-sizes c =
    let p = err_from_is_err_and c.from_residual.result c.from_residual.ensures.1 in
    rw (p.1, p.2) (end_refused _ _ _ _ _ _ _ c.check_both.ensures _ c.in_err-sizes.was)

pub returns-in_err-settle_kept : goal.returns-in_err-settle_kept
returns-in_err-settle_kept c =
    let p = err_from_is_err_and c.from_residual-in_err-settle_kept.result c.from_residual-in_err-settle_kept.ensures.1 in
    let m = c.measure_end-p.ensures in
    rw (p.1, p.2)
    (end_over _ _ _ _ _ _ _ c.check_both.ensures _ c.in_ok-sizes.was _ m.value m.content_in_bounds.0 m.content_in_bounds.1 _ c.from.ensures _ c.settle_kept.ensures _ c.in_err-settle_kept.was)

pub put_end-c-requires : goal.put_end-c-requires
put_end-c-requires c =
    let m = c.measure_end-p.ensures in
    let w = end_room _ _ _ _ _ _ _ c.check_both.ensures _ c.in_ok-sizes.was _ m.value m.content_in_bounds.0 m.content_in_bounds.1 _ c.from.ensures _ c.settle_kept.ensures c.in_ok-settle_kept.was in
    record { sound = w.0; sound_2 = w.1; content_in_bounds = m.content_in_bounds; fits = w.2 }

pub returns : goal.returns
returns c =
    let m = c.measure_end-p.ensures in
    end_written _ _ _ _ _ _ _ c.check_both.ensures _ c.in_ok-sizes.was _ m.value m.content_in_bounds.0 m.content_in_bounds.1 _ c.from.ensures _ c.settle_kept.ensures c.in_ok-settle_kept.was
    _ _ _ c.put_end-c.result c.put_end-c.ensures.result_after

-- the lent buffers go by one call, and it has no array; the other calls are lent nothing that is written, and `?` and `usize::from` take values
pub write-truncated-end-lends-on : LendsOn code.function [] 0
    ("recording_check::check_both" ∷ "core::result::ResultTry::branch" ∷ "core::result::ResultFromResidualErrResidual::from_residual"
    ∷ "truncate_plan::measure_end" ∷ "core::convert::others::UsizeFromBool::from"
    ∷ "truncate::settle_kept" ∷ "core::result::ResultTry::branch" ∷ "core::result::ResultFromResidualErrResidual::from_residual"
    ∷ "truncate::put_end" ∷ [])
unfolding own_arrays acts touches loops calls called
write-truncated-end-lends-on = refl
