-- What is written are the items of the plan: the content's alone if nothing is cut, else the ellipsis's and then the content's.
-- Their data is the finished result (`start_held`), and begins with the first run (`start_first`).
use native.Mathlib.Omega.{arith}
use mathlib.Core.Path.{refl, sym, ap, ◌∙◌}
use mathlib.Core.List.{List, [], ◌∷◌}
use borrow.Author.Tests.{not-true, not-false}
use Rattle.buffer.specs.LendsOn.{LendsOn, own_arrays, acts, touches, loops, calls, called}
use Rattle.buffer.proofs.HeldLaws.{held_self}
use Rattle.recording.specs.Recording.{Item}
use Rattle.recording.specs.Read.{recording_of}
use Rattle.writer.specs.Write.{out, add, blank}
use Rattle.writer.proofs.Steps.{fits_first, fits_then, then}
use Rattle.truncate.proofs.PlanLaws.{start_whole, start_cut}
use Rattle.truncate.proofs.HeldLaws.{start_held, start_first}
use Rattle.truncate.proofs.put_start.Code.Mir as code
use Rattle.truncate.proofs.put_start.Goals as goal

-- ── nothing is cut
pub put_from-requires : goal.put_from-requires
unfolding out
put_from-requires c =
    let a = c.args in
    let p = c.requires in
    record { sound = p.sound; n_in_bounds = omega arith; fits = rw (start_whole a.p (recording_of a.content) (recording_of a.ellipsis) (not-true _ c.if-not-p.true)) at p.fits }

pub returns-then-not-p : goal.returns-then-not-p
unfolding out
returns-then-not-p c =
    let a = c.args in
    let r = recording_of a.content in
    let e = recording_of a.ellipsis in
    let w = c.put_from.ensures.result_after ∙ ap (λ (x : List Item). add x (blank a.bytes.now a.numbers.now a.texts.now)) (sym (start_whole a.p r e (not-true _ c.if-not-p.true))) in
    record { result_after = w; d_value = start_held a.p r e _ _ _ _ w }

-- ── two runs
pub put_from-c-requires : goal.put_from-c-requires
unfolding out
put_from-c-requires c =
    let a = c.args in
    let cut = start_cut a.p (recording_of a.content) (recording_of a.ellipsis) (not-false _ c.if-not-p.false) in
    record { sound = c.requires.sound_2; n_in_bounds = c.requires.content_in_bounds.1; fits = fits_first _ _ _ _ cut c.requires.fits }

pub put_start_content-requires : goal.put_start_content-requires
unfolding out
put_start_content-requires c =
    let a = c.args in
    let p = c.requires in
    let r = recording_of a.content in
    let e = recording_of a.ellipsis in
    let z = not-false _ c.if-not-p.false in
    let w = c.put_from-c.ensures.result_after in
    let f = start_first a.p r e _ _ _ _ z w in
    record {
      sound = p.sound;
      cut_value = (z, p.content_in_bounds.0);
      d_value = (f.0, held_self _ _ _ _ f.1);
      fits = fits_then _ _ _ _ _ (start_cut a.p r e z) p.fits w;
    }

pub returns : goal.returns
unfolding out
returns c =
    let a = c.args in
    let r = recording_of a.content in
    let e = recording_of a.ellipsis in
    let w = then _ _ _ _ _ _ (start_cut a.p r e (not-false _ c.if-not-p.false)) c.requires.fits c.put_from-c.ensures.result_after c.put_start_content.ensures.result_after in
    record { result_after = w; d_value = start_held a.p r e _ _ _ _ w }

-- each run goes by one call, and nothing is done between them
pub put-start-lends-on : LendsOn code.function [] 0 ("truncate::put_from" ∷ "truncate::put_from" ∷ "truncate::put_start_content" ∷ [])
unfolding own_arrays acts touches loops calls called
put-start-lends-on = refl
