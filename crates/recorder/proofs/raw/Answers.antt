-- `raw`: what its checks refuse is what its outcome has (`AddLaws`), and the entry and the sequence at the ends are the outcome's over the buffers.
use Rattle.std.proofs.lemmas.Result.{err_from_is_err_and}
use mathlib.Core.Path.{◌≡◌, refl}
use Rattle.recorder.specs.Recorder.{raw_added, with_raw}
use Rattle.recorder.proofs.AddLaws.{used_refused, added_refused, entry_refused, entry_added}
use lib.ListN.{length, take}
use lib.Seq.{length-take-le}
use Rattle.recording.specs.declared.Refusal.TheVariants.{EntryShape}
use Rattle.recorder.proofs.raw.Goals as goal

pub returns-in_err-check_used : goal.returns-in_err-check_used
unfolding raw_added with_raw
returns-in_err-check_used c =
    let p = err_from_is_err_and c.from_residual.result c.from_residual.ensures.1 in
    rw (p.1, p.2) (used_refused _ _ _ _ _ _ _ c.in_err-check_used.ensures.result_value)

pub returns-then-is_empty : goal.returns-then-is_empty
unfolding raw_added with_raw
returns-then-is_empty c = added_refused _ _ _ _ _ _ c.in_ok-check_used.ensures.result_value EntryShape (rw (← c.if-is_empty.ensures))

pub returns-in_err-left : goal.returns-in_err-left
unfolding raw_added with_raw
returns-in_err-left c =
    let p = err_from_is_err_and c.from_residual-in_err-left.result c.from_residual-in_err-left.ensures.1 in
    let u = c.in_ok-check_used.ensures in
    rw (p.1, p.2) (entry_refused _ _ _ _ u.used_in u.result_value _ (rw (← c.if-is_empty.ensures)) c.args.sequence.now 2 _ _ _ refl _ c.in_err-left.ensures.result_value)

pub returns : goal.returns
unfolding raw_added with_raw
returns c =
    let a = c.args in
    let u = c.in_ok-check_used.ensures in
    let s = c.in_ok-left.ensures in
    let n : length (take a.text_len a.text.now) ≡ a.text_len = length-take-le a.text_len a.text.now u.used_in.text in
    rw n
    (entry_added _ _ _ _ u.used_in u.result_value _ (rw (← c.if-is_empty.ensures)) a.sequence.now 2 a.text_len _ _ refl s.result_value _ s.answer _ _ c.put_mark.ensures.numbers_after c.put_mark.ensures.texts_after)
