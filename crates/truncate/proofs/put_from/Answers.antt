-- The cut is two steps of the writer, the entries alone up to n and then bytes and entries: `both` of `proofs/CutLaws.antt`. It leaves one run of data.
use native.Mathlib.Omega.{arith}
use mathlib.Core.Path.{refl}
use mathlib.Core.List.{List, [], ◌∷◌}
use lib.ListN.{drop}
use Rattle.buffer.specs.LendsOn.{LendsOn, own_arrays, acts, touches, loops, calls, called}
use Rattle.recording.specs.Recording.{Item, items}
use Rattle.recording.specs.Read.{recording_of}
use Rattle.recording.specs.Edit.{edit, entries_only}
use Rattle.writer.specs.Write.{out}
use Rattle.writer.proofs.Steps.{ready_start}
use Rattle.writer.proofs.HeldLaws.{added_held}
use Rattle.layout.specs.Layout.{cut_start_of}
use Rattle.truncate.proofs.CutLaws.{edit_from, first_room, second_room, both, from_run}
use Rattle.truncate.proofs.put_from.Code.Mir as code
use Rattle.truncate.proofs.put_from.Goals as goal

pub skip_entries-there-requires : goal.skip_entries-there-requires
unfolding out
skip_entries-there-requires c =
    let a = c.args in
    let s = a.content in
    let p = c.requires in record {
      ready = ready_start _ _ _ _ refl refl p.sound;
      at_le_n = (omega arith, p.n_in_bounds);
      fits = first_room entries_only (λ (x : List Item). x) _ _ _ _ _
          (edit_from a.n s.bytes.now s.entries.now s.text.now) _ refl refl _ p.fits;
    }

pub keep-requires : goal.keep-requires
unfolding out
keep-requires c =
    let a = c.args in
    let s = a.content in
    let p = c.requires in
    let k = c.skip_entries-there.ensures in record {
      ready = k.ready_2.0;
      at_le_n = (omega (arith, k.ready_2.1, p.n_in_bounds), omega arith);
      fits = second_room entries_only (λ (x : List Item). x) _ _ _ _ _
          (edit_from a.n s.bytes.now s.entries.now s.text.now) _ refl refl _ p.fits _ _ k.result_after k.result_value k.ready_2.1;
    }

pub returns : goal.returns
unfolding out
returns c =
    let a = c.args in
    let s = a.content in
    let p = c.requires in
    let k = c.skip_entries-there.ensures in
    let w = both entries_only (λ (x : List Item). x) _ _ _ _ _ (edit_from a.n s.bytes.now s.entries.now s.text.now) _ refl refl _ p.fits _ _ k.result_after k.result_value
    k.ready_2.1 _ c.keep.ensures.result_after in
    let is = edit (cut_start_of a.n) (items (recording_of s)) in
    record {
      result_after = w;
      run_held = added_held is (drop a.n s.bytes.now) (out a.bytes.now a.numbers.now a.texts.now a.c) _ w (from_run a.n s.bytes.now s.entries.now s.text.now);
    }

-- the bytes go by one `keep`
pub put-from-lends-on : LendsOn code.function [] 0 ("writer::skip_entries" ∷ "writer::keep" ∷ [])
unfolding own_arrays acts touches loops calls called
put-from-lends-on = refl
