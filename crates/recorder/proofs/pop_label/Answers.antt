-- `pop_label`: what its checks refuse is what its outcome has (`AddLaws`), and the entry at the entries' end is the outcome's over the buffer.
use Rattle.std.proofs.lemmas.Result.{err_from_is_err_and}
use mathlib.Core.Path.{refl, sym}
use mathlib.Core.List.{[]}
use native.Mathlib.Omega.{arith}
use Rattle.recorder.specs.Recorder.{popped, with_pop}
use Rattle.recorder.proofs.AddLaws.{used_refused, entry_refused, entry_added}
use Rattle.buffer.proofs.Laws.{over_none}
use Rattle.recorder.proofs.pop_label.Goals as goal

pub returns-in_err-check_used : goal.returns-in_err-check_used
unfolding popped with_pop
returns-in_err-check_used c =
    let p = err_from_is_err_and c.from_residual.result c.from_residual.ensures.1 in
    rw (p.1, p.2) (used_refused _ _ _ _ _ _ _ c.in_err-check_used.ensures.result_value)

pub returns-in_err-left : goal.returns-in_err-left
unfolding popped with_pop
returns-in_err-left c =
    let p = err_from_is_err_and c.from_residual-in_err-left.result c.from_residual-in_err-left.ensures.1 in
    let u = c.in_ok-check_used.ensures in
    rw (p.1, p.2) (entry_refused _ _ _ _ u.used_in u.result_value 0 refl [] 1 0 0 _ (omega arith) _ c.in_err-left.ensures.result_value)

pub returns : goal.returns
unfolding popped with_pop
returns c =
    let u = c.in_ok-check_used.ensures in
    let s = c.in_ok-left.ensures in
    entry_added _ _ _ _ u.used_in u.result_value 0 refl [] 1 0 0 _ (omega arith) s.result_value _ s.answer _ _ c.set_entry.ensures (sym (over_none _ _))
