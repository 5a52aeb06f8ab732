-- The cut is two steps of the writer, bytes and entries up to n and then the entries alone: `both` of `proofs/CutLaws.antt`. It leaves one run of data.
use native.Mathlib.Omega.{arith}
use mathlib.Core.Path.{refl}
use mathlib.Core.List.{List, [], ◌∷◌}
use lib.ListN.{take}
use Rattle.buffer.specs.LendsOn.{LendsOn, own_arrays, acts, touches, loops, calls, called}
use Rattle.recording.specs.Recording.{Item, items}
use Rattle.recording.specs.Read.{recording_of}
use Rattle.recording.specs.Edit.{edit, entries_only}
use Rattle.writer.specs.Write.{out}
use Rattle.writer.proofs.Steps.{ready_start}
use Rattle.writer.proofs.HeldLaws.{added_held}
use Rattle.layout.specs.Layout.{cut_end_of}
use Rattle.truncate.proofs.CutLaws.{edit_up_to, first_room, second_room, both, up_to_run}
use Rattle.truncate.proofs.put_up_to.Code.Mir as code
use Rattle.truncate.proofs.put_up_to.Goals as goal

pub keep-there-requires : goal.keep-there-requires
unfolding out
keep-there-requires c =
    let a = c.args in
    let s = a.content in
    let p = c.requires in record {
      ready = ready_start _ _ _ _ refl refl p.sound;
      at_le_n = (omega arith, p.n_in_bounds);
      fits = first_room (λ (x : List Item). x) entries_only _ _ _ _ _
          (edit_up_to a.n s.bytes.now s.entries.now s.text.now) _ refl refl _ p.fits;
    }

pub skip_entries-requires : goal.skip_entries-requires
unfolding out
skip_entries-requires c =
    let a = c.args in
    let s = a.content in
    let p = c.requires in
    let k = c.keep-there.ensures in record {
      ready = k.ready_2.0;
      at_le_n = (omega (arith, k.ready_2.1, p.n_in_bounds), omega arith);
      fits = second_room (λ (x : List Item). x) entries_only _ _ _ _ _
          (edit_up_to a.n s.bytes.now s.entries.now s.text.now) _ refl refl _ p.fits _ _ k.result_after k.result_value k.ready_2.1;
    }

pub returns : goal.returns
unfolding out
returns c =
    let a = c.args in
    let s = a.content in
    let p = c.requires in
    let k = c.keep-there.ensures in
    let w = both (λ (x : List Item). x) entries_only _ _ _ _ _ (edit_up_to a.n s.bytes.now s.entries.now s.text.now) _ refl refl _ p.fits _ _ k.result_after k.result_value
    k.ready_2.1 _ c.skip_entries.ensures.result_after in
    let is = edit (cut_end_of a.n s.bytes.now) (items (recording_of s)) in
    record {
      result_after = w;
      run_held = added_held is (take a.n s.bytes.now) (out a.bytes.now a.numbers.now a.texts.now a.c) _ w (up_to_run a.n s.bytes.now s.entries.now s.text.now);
    }

-- the bytes go by one `keep`
pub put-up-to-lends-on : LendsOn code.function [] 0 ("writer::keep" ∷ "writer::skip_entries" ∷ [])
unfolding own_arrays acts touches loops calls called
put-up-to-lends-on = refl
