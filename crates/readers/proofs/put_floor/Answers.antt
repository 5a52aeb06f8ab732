-- `Written` (PutLaws), at the head of each turn: what is written and what is to come are together what the floor is left.
use native.Mathlib.Omega.{arith}
use Rattle.writer.specs.Write.{out}
use Rattle.readers.proofs.FloorLaws.{first_arrived, arrived_next}
use Rattle.readers.proofs.PutLaws.{first_fit_lem, begun, as_long, written_end, run_room, entries_fit, written_next}
use Rattle.readers.proofs.put_floor.Goals as goal

pub put_entries-w-requires : goal.put_entries-w-requires
put_entries-w-requires c =
    let a = c.args in
    let d = a.content.bytes.now in
    let e = a.content.entries.now in
    let t = a.content.text.now in
    record {
      arrived = first_arrived a.label.now d e t c.requires.sound;
      entries_fit = first_fit_lem a.label.now d e t a.bytes.now a.numbers.now a.texts.now c.requires.fits;
    }

pub loop-w-init : goal.loop-w-init
loop-w-init c =
    let a = c.args in
    begun a.label.now a.content.bytes.now a.content.entries.now a.content.text.now a.bytes.now a.numbers.now a.texts.now c.requires.fits _ _ _ _
    c.copied_to-run.ensures c.put_entries-w.ensures.passed c.put_entries-w.ensures.entries_written

pub next_run-run-requires : goal.next_run-run-requires
next_run-run-requires c =
    let g = c.loop-w.invariant.going in
    record {
      standing = g.standing;
      at_in_bounds = (c.loop-w-test.true, g.fated.within);
    }

pub put_run-c-requires : goal.put_run-c-requires
put_run-c-requires c =
    let a = c.args in
    let r = c.next_run-run.ensures in (
      omega (arith, r.0.further),
      r.0.before,
      run_room a.label.now a.content.bytes.now a.content.entries.now a.content.text.now a.bytes.now a.numbers.now a.texts.now c.requires.fits c.loop-w.w c.loop-w.run _ _ _ c.loop-w.invariant
          c.next_run-run.result r.0 r.1,
    )

pub put_entries-w-requires-in-loop-w : goal.put_entries-w-requires-in-loop-w
put_entries-w-requires-in-loop-w c =
    let a = c.args in
    let r = c.next_run-run.ensures in
    let x = c.put_run-c.ensures in record {
      arrived = arrived_next a.label.now a.content.bytes.now a.content.entries.now a.content.text.now c.loop-w.w c.loop-w.run c.loop-w.invariant.going c.next_run-run.result r.0 r.1 c.put_run-c.result
          x.at_value.0 x.at_value.1;
      entries_fit = entries_fit a.label.now a.content.bytes.now a.content.entries.now a.content.text.now a.bytes.now a.numbers.now a.texts.now c.requires.fits c.loop-w.w c.loop-w.run _ _ _ c.loop-w.invariant
          c.next_run-run.result r.0 r.1
          c.put_run-c.result x.at_value.0 x.at_value.1 x.at_value.2 x.at_value.3 x.at_value.4 _ x.bytes_after;
    }

pub loop-w-smaller : goal.loop-w-smaller
loop-w-smaller c = omega (arith, c.put_entries-w-in-loop-w.ensures.passed.here, c.put_run-c.ensures.at_value.0, c.next_run-run.ensures.0.further, c.loop-w-test.true)

pub loop-w-preserved : goal.loop-w-preserved
loop-w-preserved c =
    let a = c.args in
    let r = c.next_run-run.ensures in
    let x = c.put_run-c.ensures in
    let e = c.put_entries-w-in-loop-w.ensures in
    written_next a.label.now a.content.bytes.now a.content.entries.now a.content.text.now a.bytes.now a.numbers.now a.texts.now c.requires.fits c.loop-w.w c.loop-w.run _ _ _ c.loop-w.invariant
    c.next_run-run.result r.0 r.1 c.put_run-c.result x.at_value.0 x.at_value.1 x.at_value.2 x.at_value.3 x.at_value.4 _ x.bytes_after c.put_entries-w-in-loop-w.result _ _ e.passed e.entries_written

pub shape_of-bytes : goal.shape_of-bytes
unfolding out
shape_of-bytes c =
    let a = c.args in
    (as_long a.label.now a.content.bytes.now a.content.entries.now a.content.text.now a.bytes.now a.numbers.now a.texts.now c.requires.fits c.loop-w.w c.loop-w.run _ _ _ c.loop-w.invariant).data_bytes

pub shape_of-numbers : goal.shape_of-numbers
unfolding out
shape_of-numbers c =
    let a = c.args in
    (as_long a.label.now a.content.bytes.now a.content.entries.now a.content.text.now a.bytes.now a.numbers.now a.texts.now c.requires.fits c.loop-w.w c.loop-w.run _ _ _ c.loop-w.invariant).entry_numbers

pub shape_of-texts : goal.shape_of-texts
unfolding out
shape_of-texts c =
    let a = c.args in
    (as_long a.label.now a.content.bytes.now a.content.entries.now a.content.text.now a.bytes.now a.numbers.now a.texts.now c.requires.fits c.loop-w.w c.loop-w.run _ _ _ c.loop-w.invariant).text

pub returns : goal.returns
returns c =
    let a = c.args in
    written_end a.label.now a.content.bytes.now a.content.entries.now a.content.text.now a.bytes.now a.numbers.now a.texts.now c.requires.fits c.loop-w.w c.loop-w.run _ _ _ c.loop-w.invariant
    (omega (arith, c.loop-w-test.false))
