-- What is written are the items of the plan: one step if nothing is cut, else the content's items and then the ellipsis's.
-- Their data is the finished result (`end_held`), and begins with the first run (`end_first`).
use mathlib.Core.Path.{refl, sym, ap, ◌∙◌}
use mathlib.Core.List.{List, [], ◌∷◌}
use borrow.Author.Tests.{not-true, not-false}
use Rattle.buffer.specs.LendsOn.{LendsOn, own_arrays, acts, touches, loops, calls, called}
use Rattle.buffer.proofs.HeldLaws.{held_self}
use Rattle.recording.specs.Recording.{Item}
use Rattle.recording.specs.Read.{recording_of}
use Rattle.writer.specs.Write.{out, add, blank}
use Rattle.writer.proofs.Steps.{fits_first, fits_then, then}
use Rattle.truncate.proofs.PlanLaws.{end_whole, end_cut}
use Rattle.truncate.proofs.HeldLaws.{end_held, end_first}
use Rattle.truncate.proofs.put_end.Code.Mir as code
use Rattle.truncate.proofs.put_end.Goals as goal

-- ── nothing is cut
pub put_recording-requires : goal.put_recording-requires
unfolding out
put_recording-requires c =
    let a = c.args in
    record { sound = c.requires.sound; fits = rw (end_whole a.p (recording_of a.content) (recording_of a.ellipsis) (not-true _ c.if-not-p.true)) at c.requires.fits }

pub returns-then-not-p : goal.returns-then-not-p
unfolding out
returns-then-not-p c =
    let a = c.args in
    let r = recording_of a.content in
    let e = recording_of a.ellipsis in
    let w = c.put_recording.ensures.result_after ∙ ap (λ (x : List Item). add x (blank a.bytes.now a.numbers.now a.texts.now)) (sym (end_whole a.p r e (not-true _ c.if-not-p.true))) in
    record { result_after = w; d_value = end_held a.p r e _ _ _ _ w }

-- ── two runs
pub put_up_to-c-requires : goal.put_up_to-c-requires
unfolding out
put_up_to-c-requires c =
    let a = c.args in
    let cut = end_cut a.p (recording_of a.content) (recording_of a.ellipsis) (not-false _ c.if-not-p.false) in
    record { sound = c.requires.sound; n_in_bounds = c.requires.content_in_bounds.0; fits = fits_first _ _ _ _ cut c.requires.fits }

pub put_end_ellipsis-requires : goal.put_end_ellipsis-requires
unfolding out
put_end_ellipsis-requires c =
    let a = c.args in
    let p = c.requires in
    let r = recording_of a.content in
    let e = recording_of a.ellipsis in
    let z = not-false _ c.if-not-p.false in
    let w = c.put_up_to-c.ensures.result_after in
    let f = end_first a.p r e _ _ _ _ z p.content_in_bounds.0 w in
    record {
      sound = p.sound_2;
      cut_value = (z, p.content_in_bounds.0, p.content_in_bounds.1);
      d_value = (f.0, held_self _ _ _ _ f.1);
      fits = fits_then _ _ _ _ _ (end_cut a.p r e z) p.fits w;
    }

pub returns : goal.returns
unfolding out
returns c =
    let a = c.args in
    let r = recording_of a.content in
    let e = recording_of a.ellipsis in
    let w = then _ _ _ _ _ _ (end_cut a.p r e (not-false _ c.if-not-p.false)) c.requires.fits c.put_up_to-c.ensures.result_after c.put_end_ellipsis.ensures.result_after in
    record { result_after = w; d_value = end_held a.p r e _ _ _ _ w }

-- each run goes by one call, and nothing is done between them
pub put-end-lends-on : LendsOn code.function [] 0 ("writer::put_recording" ∷ "truncate::put_up_to" ∷ "truncate::put_end_ellipsis" ∷ [])
unfolding own_arrays acts touches loops calls called
put-end-lends-on = refl
