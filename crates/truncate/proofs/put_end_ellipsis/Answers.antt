-- The second run of the end call is one step, and comes next in the finished result (`next_second`), of which the first run stands.
use mathlib.Core.Path.{refl, sym, ◌∙◌}
use mathlib.Core.List.{[], ◌∷◌}
use lib.ListN.{take}
use lib.Seq.{length-take-le}
use Rattle.buffer.specs.Held.{RunHeld}
use Rattle.buffer.specs.LendsOn.{LendsOn, own_arrays, acts, touches, loops, calls, called}
use Rattle.buffer.proofs.HeldLaws.{next_second}
use Rattle.writer.specs.Write.{out}
use Rattle.truncate.specs.Planned.{finished_end}
use Rattle.truncate.proofs.HeldLaws.{end_runs}
use Rattle.truncate.proofs.put_end_ellipsis.Code.Mir as code
use Rattle.truncate.proofs.put_end_ellipsis.Goals as goal

pub put_up_to-requires : goal.put_up_to-requires
unfolding out
put_up_to-requires c =
    let p = c.requires in
    record {
      sound = p.sound;
      n_in_bounds = p.cut_value.2;
      fits = p.fits;
    }

pub returns : goal.returns
unfolding RunHeld
returns c =
    let a = c.args in
    let p = c.requires in
    let w = c.put_up_to.ensures in
    let all = finished_end a.p a.content.bytes.now a.ellipsis.bytes.now in
    let place = p.d_value.0 ∙ sym (length-take-le a.p.content a.content.bytes.now p.cut_value.1) in
    let runs = end_runs a.p a.content.bytes.now a.ellipsis.bytes.now p.cut_value.0 in
    let next = next_second (take a.p.content a.content.bytes.now) (take a.p.ellipsis a.ellipsis.bytes.now) all a.c.d runs place in
    record {
      result_after = w.result_after;
      holds_up_to = w.run_held all a.bytes.now p.d_value.1 next;
    }

-- the run goes by one call
pub put-end-ellipsis-lends-on : LendsOn code.function [] 0 ("truncate::put_up_to" ∷ [])
unfolding own_arrays acts touches loops calls called
put-end-ellipsis-lends-on = refl
