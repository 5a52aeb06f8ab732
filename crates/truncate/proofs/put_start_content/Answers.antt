-- The second run of the start call is one step, and comes next in the finished result (`next_second`), of which the first run stands.
use mathlib.Core.Path.{refl, sym, ◌∙◌}
use mathlib.Core.List.{[], ◌∷◌}
use lib.ListN.{drop, length-drop}
use Rattle.buffer.specs.Held.{RunHeld}
use Rattle.buffer.specs.LendsOn.{LendsOn, own_arrays, acts, touches, loops, calls, called}
use Rattle.buffer.proofs.HeldLaws.{next_second}
use Rattle.writer.specs.Write.{out}
use Rattle.truncate.specs.Planned.{finished_start}
use Rattle.truncate.proofs.HeldLaws.{start_runs}
use Rattle.truncate.proofs.put_start_content.Code.Mir as code
use Rattle.truncate.proofs.put_start_content.Goals as goal

pub put_from-requires : goal.put_from-requires
unfolding out
put_from-requires c =
    let p = c.requires in
    record {
      sound = p.sound;
      n_in_bounds = p.cut_value.1;
      fits = p.fits;
    }

pub returns : goal.returns
unfolding RunHeld
returns c =
    let a = c.args in
    let p = c.requires in
    let w = c.put_from.ensures in
    let all = finished_start a.p a.content.bytes.now a.ellipsis.bytes.now in
    let place = p.d_value.0 ∙ sym (length-drop a.p.ellipsis a.ellipsis.bytes.now) in
    let runs = start_runs a.p a.content.bytes.now a.ellipsis.bytes.now p.cut_value.0 in
    let next = next_second (drop a.p.ellipsis a.ellipsis.bytes.now) (drop a.p.content a.content.bytes.now) all a.c.d runs place in
    record {
      result_after = w.result_after;
      holds_up_to = w.run_held all a.bytes.now p.d_value.1 next;
    }

-- the run goes by one call
pub put-start-content-lends-on : LendsOn code.function [] 0 ("truncate::put_from" ∷ [])
unfolding own_arrays acts touches loops calls called
put-start-content-lends-on = refl
