-- The loop over the lines that get a prefix keeps `State` (`proofs/Loop.antt`): what is done, and that the plan for what is left gives the rest.
use native.Mathlib.Omega.{arith}
use mathlib.Core.Path.{refl, ◌∙◌}
use Rattle.writer.specs.Write.{out}
use Rattle.indent.proofs.Loop.{state_first, long_now, here, before, room_keep, room_prefix, step, room_last, finish}
use Rattle.indent.proofs.Laws.{next_past}
use Rattle.indent.proofs.put_indented.Goals as goal

pub next_line-p-requires : goal.next_line-p-requires
next_line-p-requires c = omega arith

pub loop-p-init : goal.loop-p-init
unfolding out
loop-p-init c = state_first _ _ _ _ _ _ _ refl refl c.requires.sound.0 c.next_line-p.ensures.value c.next_line-p.ensures.lower_bound.1

pub keep-c-requires : goal.keep-c-requires
keep-c-requires c =
    let s = c.loop-p.invariant in
    let z = c.requires.fits in
    record {
      ready = s.ready;
      at_le_n = (before _ _ _ _ _ _ _ _ s z, s.within);
      fits = room_keep _ _ _ _ _ _ _ _ s z c.loop-p-test.true;
    }

pub put_recording-c-requires : goal.put_recording-c-requires
put_recording-c-requires c =
    let z = c.requires in
    record {
      sound = z.sound.1;
      fits = room_prefix _ _ _ _ _ _ _ _ c.loop-p.invariant z.fits c.loop-p-test.true _ c.keep-c.ensures.result_after;
    }

pub next_line-p-requires-in-loop-p : goal.next_line-p-requires-in-loop-p
next_line-p-requires-in-loop-p c = c.loop-p.invariant.within

pub loop-p-smaller : goal.loop-p-smaller
loop-p-smaller c = omega (arith, c.next_line-p-in-loop-p.ensures.value, c.loop-p-test.true, next_past c.loop-p.p c.args.content.bytes.now c.loop-p-test.true)

pub loop-p-preserved : goal.loop-p-preserved
loop-p-preserved c =
    let k = c.keep-c.ensures in
    let r = c.put_recording-c.ensures in
    let n = c.next_line-p-in-loop-p.ensures in
    step _ _ _ _ _ _ _ _ c.loop-p.invariant c.requires.fits c.loop-p-test.true _ k.result_after _ _ _ _ r.result_after k.result_value k.ready_2.0 k.ready_2.1 r.at_value.0 r.at_value.1 n.value n.lower_bound.1

pub keep-requires : goal.keep-requires
keep-requires c =
    let s = c.loop-p.invariant in
    let z = c.requires.fits in
    record {
      ready = s.ready;
      at_le_n = (here _ _ _ _ _ _ _ _ s z, omega arith);
      fits = room_last _ _ _ _ _ _ _ _ s z c.loop-p-test.false;
    }

pub shape_of-bytes : goal.shape_of-bytes
unfolding out
shape_of-bytes c = c.keep.auto.bytes ∙ (long_now _ _ _ _ _ _ _ _ c.loop-p.invariant c.requires.fits).data_bytes

pub shape_of-numbers : goal.shape_of-numbers
unfolding out
shape_of-numbers c = c.keep.auto.numbers ∙ (long_now _ _ _ _ _ _ _ _ c.loop-p.invariant c.requires.fits).entry_numbers

pub shape_of-texts : goal.shape_of-texts
unfolding out
shape_of-texts c = c.keep.auto.texts ∙ (long_now _ _ _ _ _ _ _ _ c.loop-p.invariant c.requires.fits).text

pub returns : goal.returns
returns c = finish _ _ _ _ _ _ _ _ c.loop-p.invariant c.requires.fits c.loop-p-test.false _ c.keep.ensures.result_after
