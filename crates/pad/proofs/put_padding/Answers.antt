-- The loop over the fill's entries keeps `State` (`proofs/Loop.antt`): what is done, and that the pieces of what is left, repeated, are the rest. At count 0 nothing is written.
use native.Mathlib.Omega.{arith}
use Prim.Native.Nat.{ℕ, ◌+◌, ◌≤◌}
use mathlib.Core.Path.{◌≡◌, refl, sym, ap, ◌∙◌}
use mathlib.Core.List.{List, []}
use lib.ListN.{length}
use Rattle.layout.specs.Layout.{padding, repeat_pieces}
use Rattle.recording.specs.Recording.{Item, recording, items}
use Rattle.writer.specs.declared.Cursor.{Cursor}
use Rattle.writer.specs.Write.{out, add, Fits}
use Rattle.writer.proofs.Carry.{add-nil}
use Rattle.pad.proofs.Loop.{state_first, padding-zero, padding_more, now_long, entire, times_asked, entry_asked, turned, last_asked, ended}
use Rattle.pad.proofs.put_padding.Goals as goal

-- the fill is read from its start
abbrev from : Cursor → Cursor
from c = record { at = 0; k = 0; d = c.d; e = c.e; t = c.t }

-- at a count above 0 the padding is the pieces repeated
module _ (n : ℕ) (ds ns ts od oe ot : List ℕ) (c : Cursor) (more : n ≡ 0 → ⊥) where
  room_of : Fits (padding n (items (recording ds ns ts))) (out od oe ot c) → Fits (repeat_pieces n [] (items (recording ds ns ts))) (out od oe ot (from c))
  unfolding out
  room_of f = rw (padding_more n (items (recording ds ns ts)) more) at f

  back_to : add (repeat_pieces n [] (items (recording ds ns ts))) (out od oe ot (from c)) ≡ add (padding n (items (recording ds ns ts))) (out od oe ot c)
  unfolding out
  back_to = ap (λ (l : List Item). add l (out od oe ot c)) (sym (padding_more n (items (recording ds ns ts)) more))

-- ── what is asked on the way
pub returns-then-n-eq0 : goal.returns-then-n-eq0
returns-then-n-eq0 c =
    let a = c.args in
    add-nil _ ∙ ap (λ (l : List Item). add l (out a.bytes.now a.numbers.now a.texts.now a.c)) (sym (padding-zero a.n _ c.if-n-eq0.true))

pub loop-p-init : goal.loop-p-init
loop-p-init c = state_first _ _ _ _ _ _ _ refl refl c.requires.sound c.place_at-p.ensures

pub entry_at-e-requires : goal.entry_at-e-requires
entry_at-e-requires c =
    let room : let a = c.args in Fits (repeat_pieces a.n [] (items (recording a.fill.bytes.now a.fill.entries.now a.fill.text.now))) (out a.bytes.now a.numbers.now a.texts.now (from a.c)) = room_of _ _ _ _ _ _ _ _ c.if-n-eq0.false c.requires.fits in
    let whole : c.loop-p.f.k + 4 ≤ length c.args.fill.entries.now = entire _ _ _ _ _ _ _ _ _ _ _ _ _ c.loop-p.invariant room c.loop-p-test.true in
    whole

pub put_times-f-requires : goal.put_times-f-requires
put_times-f-requires c =
    let room : let a = c.args in Fits (repeat_pieces a.n [] (items (recording a.fill.bytes.now a.fill.entries.now a.fill.text.now))) (out a.bytes.now a.numbers.now a.texts.now (from a.c)) = room_of _ _ _ _ _ _ _ _ c.if-n-eq0.false c.requires.fits in
    times_asked _ _ _ _ _ _ _ _ _ _ _ _ _ c.loop-p.invariant room c.loop-p-test.true _ c.entry_at-e.ensures

pub put_entry-f-requires : goal.put_entry-f-requires
put_entry-f-requires c =
    let room : let a = c.args in Fits (repeat_pieces a.n [] (items (recording a.fill.bytes.now a.fill.entries.now a.fill.text.now))) (out a.bytes.now a.numbers.now a.texts.now (from a.c)) = room_of _ _ _ _ _ _ _ _ c.if-n-eq0.false c.requires.fits in
    let q = entry_asked _ _ _ _ _ _ _ _ _ _ _ _ _ c.loop-p.invariant room c.loop-p-test.true _ c.entry_at-e.ensures
    _ c.put_times-f.ensures.at_value (omega (arith, c.well_formed)) in record { len_value = q.0; len_in_bounds = q.1.0; e_in_bounds = q.1.1.0; d_le_data_limit = q.1.1.1.0; numbers_value = q.1.1.1.1 }

pub place_at-p-requires-in-loop-p : goal.place_at-p-requires-in-loop-p
place_at-p-requires-in-loop-p c =
    let room : let a = c.args in Fits (repeat_pieces a.n [] (items (recording a.fill.bytes.now a.fill.entries.now a.fill.text.now))) (out a.bytes.now a.numbers.now a.texts.now (from a.c)) = room_of _ _ _ _ _ _ _ _ c.if-n-eq0.false c.requires.fits in
    let whole : c.loop-p.f.k + 4 ≤ length c.args.fill.entries.now = entire _ _ _ _ _ _ _ _ _ _ _ _ _ c.loop-p.invariant room c.loop-p-test.true in
    omega (arith, whole, c.put_times-f.ensures.at_value.1, c.put_entry-f.ensures.at_value.1)

pub loop-p-smaller : goal.loop-p-smaller
loop-p-smaller c =
    let room : let a = c.args in Fits (repeat_pieces a.n [] (items (recording a.fill.bytes.now a.fill.entries.now a.fill.text.now))) (out a.bytes.now a.numbers.now a.texts.now (from a.c)) = room_of _ _ _ _ _ _ _ _ c.if-n-eq0.false c.requires.fits in
    let whole : c.loop-p.f.k + 4 ≤ length c.args.fill.entries.now = entire _ _ _ _ _ _ _ _ _ _ _ _ _ c.loop-p.invariant room c.loop-p-test.true in
    omega (arith, whole, c.put_times-f.ensures.at_value.1, c.put_entry-f.ensures.at_value.1)

pub loop-p-preserved : goal.loop-p-preserved
loop-p-preserved c =
    let room : let a = c.args in Fits (repeat_pieces a.n [] (items (recording a.fill.bytes.now a.fill.entries.now a.fill.text.now))) (out a.bytes.now a.numbers.now a.texts.now (from a.c)) = room_of _ _ _ _ _ _ _ _ c.if-n-eq0.false c.requires.fits in
    turned _ _ _ _ _ _ _ _ _ _ _ _ _ c.loop-p.invariant room c.loop-p-test.true _ c.entry_at-e.ensures
    _ _ _ _ _ _ c.put_times-f.ensures.bytes_after c.put_times-f.ensures.at_value c.put_entry-f.ensures.at_value c.put_entry-f.ensures.numbers_after c.put_entry-f.ensures.texts_after c.place_at-p-in-loop-p.ensures

pub put_times-requires : goal.put_times-requires
put_times-requires c =
    let room : let a = c.args in Fits (repeat_pieces a.n [] (items (recording a.fill.bytes.now a.fill.entries.now a.fill.text.now))) (out a.bytes.now a.numbers.now a.texts.now (from a.c)) = room_of _ _ _ _ _ _ _ _ c.if-n-eq0.false c.requires.fits in
    last_asked _ _ _ _ _ _ _ _ _ _ _ _ _ c.loop-p.invariant room c.loop-p-test.false

pub shape_of-bytes : goal.shape_of-bytes
shape_of-bytes c =
    let room : let a = c.args in Fits (repeat_pieces a.n [] (items (recording a.fill.bytes.now a.fill.entries.now a.fill.text.now))) (out a.bytes.now a.numbers.now a.texts.now (from a.c)) = room_of _ _ _ _ _ _ _ _ c.if-n-eq0.false c.requires.fits in
    c.put_times.auto.bytes ∙ (now_long _ _ _ _ _ _ _ _ _ _ _ _ _ c.loop-p.invariant room).0

pub shape_of-numbers : goal.shape_of-numbers
shape_of-numbers c =
    let room : let a = c.args in Fits (repeat_pieces a.n [] (items (recording a.fill.bytes.now a.fill.entries.now a.fill.text.now))) (out a.bytes.now a.numbers.now a.texts.now (from a.c)) = room_of _ _ _ _ _ _ _ _ c.if-n-eq0.false c.requires.fits in
    (now_long _ _ _ _ _ _ _ _ _ _ _ _ _ c.loop-p.invariant room).1

pub shape_of-texts : goal.shape_of-texts
shape_of-texts c =
    let room : let a = c.args in Fits (repeat_pieces a.n [] (items (recording a.fill.bytes.now a.fill.entries.now a.fill.text.now))) (out a.bytes.now a.numbers.now a.texts.now (from a.c)) = room_of _ _ _ _ _ _ _ _ c.if-n-eq0.false c.requires.fits in
    (now_long _ _ _ _ _ _ _ _ _ _ _ _ _ c.loop-p.invariant room).2

pub returns : goal.returns
returns c =
    let room : let a = c.args in Fits (repeat_pieces a.n [] (items (recording a.fill.bytes.now a.fill.entries.now a.fill.text.now))) (out a.bytes.now a.numbers.now a.texts.now (from a.c)) = room_of _ _ _ _ _ _ _ _ c.if-n-eq0.false c.requires.fits in
    let b = c.put_times.ensures in
    ended _ _ _ _ _ _ _ _ _ _ _ _ _ c.loop-p.invariant room c.loop-p-test.false _ _ b.bytes_after b.at_value ∙ back_to _ _ _ _ _ _ _ _ c.if-n-eq0.false
