-- `keep`: where no entry is left up to the byte n, the items before it are its bytes (`front-plain`); else `keep_entries` promises the same.
use native.Mathlib.Omega.{arith}
use Prim.Native.Nat.{◌<◌}
use mathlib.Core.Path.{refl, sym, ap, ◌∙◌}
use mathlib.Core.List.{List, [], ◌∷◌}
use lib.ListN.{length, drop}
use Rattle.buffer.specs.Place.{part}
use Rattle.buffer.specs.LendsOn.{LendsOn, own_arrays, acts, touches, loops, calls, called, Threads, only_by}
use Rattle.buffer.proofs.Laws.{length_part}
use Rattle.recording.specs.Recording.{Item, byte_items, entries_of}
use Rattle.recording.proofs.ItemsLaws.{data_bytes_lem}
use Rattle.writer.specs.declared.Cursor.{Cursor}
use Rattle.writer.specs.Write.{out, add, Fits, place_for}
use Rattle.writer.proofs.Carry.{front-plain, back-plain, bytes_wrote}
use Rattle.writer.proofs.keep.Code.Mir as code
use Rattle.writer.proofs.keep.Goals as goal

pub place_at-requires : goal.place_at-requires
place_at-requires c = c.requires.ready.within

pub put_bytes-c-requires : goal.put_bytes-c-requires
unfolding out
put_bytes-c-requires c =
    let a = c.args in
    let r = c.requires in
    let e = front-plain a.content.bytes.now a.content.entries.now a.content.text.now a.n a.from r.ready r.at_le_n.0 r.at_le_n.1 (omega (arith, c.if-n-place_at.true, c.place_at.ensures)) in
    let f : Fits (byte_items (part a.from.at a.n a.content.bytes.now)) (out a.bytes.now a.numbers.now a.texts.now a.from) = rw e at r.fits in
    let d = ap length (data_bytes_lem (part a.from.at a.n a.content.bytes.now)) in
    (r.at_le_n.0, r.at_le_n.1, omega (arith, f.data_bytes, d, length_part a.from.at a.n a.content.bytes.now r.at_le_n.1))

pub returns-then-n-place_at : goal.returns-then-n-place_at
returns-then-n-place_at c =
    let a = c.args in
    let h = c.requires in
    let b = c.put_bytes-c.ensures in
    let z = length_part a.from.at a.n a.content.bytes.now h.at_le_n.1 in
    let r = c.put_bytes-c.result in
    let q : Cursor = record { at = a.n; k = r.k; d = r.d; e = r.e; t = r.t } in
    let later : a.n < place_for (entries_of (drop a.from.k a.content.entries.now)) = omega (arith, c.if-n-place_at.true, c.place_at.ensures) in
    let e = front-plain a.content.bytes.now a.content.entries.now a.content.text.now a.n a.from h.ready h.at_le_n.0 h.at_le_n.1 later in
    let k = back-plain a.content.bytes.now a.content.entries.now a.content.text.now a.n a.from h.ready h.at_le_n.0 h.at_le_n.1 later q refl b.at_value.1 in
    let w = bytes_wrote a.bytes.now _ a.numbers.now a.texts.now (part a.from.at a.n a.content.bytes.now) a.from q b.bytes_after (omega (arith, b.at_value.2, z)) b.at_value.3 b.at_value.4 in
    record {
      result_after = w ∙ ap (λ (is : List Item). add is (out a.bytes.now a.numbers.now a.texts.now a.from)) (sym e);
      result_value = k.0;
      ready_2 = (k.1, refl, b.run_held);
    }

-- the bytes go by `put_bytes` or by `keep_entries`, which take the cursor and leave it: so not by one after the other
pub keep-lends-on : LendsOn code.function [] 0 ("writer::place_at" ∷ "writer::put_bytes" ∷ "writer::keep_entries" ∷ [])
unfolding own_arrays acts touches loops calls called
keep-lends-on = refl

pub keep-threads : Threads code.function 5 7 ("writer::put_bytes" ∷ "writer::keep_entries" ∷ [])
unfolding acts only_by called
keep-threads = record { rest = acts code.t-2; begins = refl; goes_on = refl }
