-- `push_label`: what its checks refuse is what its outcome has (`AddLaws`), and the entry and what the label adds at the ends are the outcome's over the buffers.
-- The search of the label finds where the definition has its part.
use Rattle.std.proofs.lemmas.Result.{err_from_is_err_and}
use mathlib.Core.Path.{ap}
use native.Mathlib.Omega.{arith}
use Rattle.recorder.specs.Recorder.{UsedIn, pushed, with_label}
use Rattle.recorder.proofs.AddLaws.{used_refused, added_refused, entry_refused, entry_added}
use Rattle.recording.specs.declared.Refusal.TheVariants.{LabelIllFormed}
use lib.ListN.{length, take}
use Rattle.recording.specs.Recording.{entries_of, start_in}
use Rattle.recorder.proofs.AddLaws.{label_short, new_front}
use Prim.Native.Nat.{ℕ, ◌+◌}
use Rattle.recorder.proofs.push_label.Goals as goal

pub returns-in_err-check_used : goal.returns-in_err-check_used
unfolding pushed with_label
returns-in_err-check_used c =
    let p = err_from_is_err_and c.from_residual.result c.from_residual.ensures.1 in
    rw (p.1, p.2) (used_refused _ _ _ _ _ _ _ c.in_err-check_used.ensures.result_value)

pub returns-then-not-is_well_formed : goal.returns-then-not-is_well_formed
unfolding pushed with_label
returns-then-not-is_well_formed c =
    added_refused _ _ _ _ _ _ c.in_ok-check_used.ensures.result_value LabelIllFormed (rw (← c.if-not-is_well_formed.ensures))

pub returns-in_err-left : goal.returns-in_err-left
unfolding pushed with_label
returns-in_err-left c =
    let p = err_from_is_err_and c.from_residual-in_err-left.result c.from_residual-in_err-left.ensures.1 in
    let a = c.args in
    let u = c.in_ok-check_used.ensures in
    let t = take a.text_len a.text.now in
    let q = ap (λ (n : ℕ). a.text_len + n) c.place_label-place.ensures.add_value in
    rw (p.1, p.2)
    (entry_refused _ _ _ _ u.used_in u.result_value _ (rw (← c.if-not-is_well_formed.ensures)) _ 0 (start_in a.label.now t (length t) (entries_of (take a.entries_len a.entries.now))) _ _ q _ c.in_err-left.ensures.result_value)

pub overflow_cast-e-2 : goal.overflow_cast-e-2
overflow_cast-e-2 c =
    let u = c.in_ok-check_used.ensures in
    let s : UsedIn _ _ _ _ = c.in_ok-left.ensures.room in
    omega (arith, label_short _ _ _ _ u.used_in u.result_value c.args.label.now, c.place_label-place.ensures.add_value, s.text_limit_lem)

pub returns : goal.returns
unfolding pushed with_label
returns c =
    let a = c.args in
    let u = c.in_ok-check_used.ensures in
    let s = c.in_ok-left.ensures in
    let e = c.place_label-place.ensures in
    let q = ap (λ (n : ℕ). a.text_len + n) e.add_value in
    entry_added _ _ _ _ u.used_in u.result_value _ (rw (← c.if-not-is_well_formed.ensures)) _ 0 _ _ _ q s.result_value _ s.answer _ _
    (rw e.start_value at c.put_mark.ensures.numbers_after) (rw (e.add_value, new_front _ _ _) at c.put_mark.ensures.texts_after)
