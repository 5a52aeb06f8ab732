-- The loop over the lines that have the prefix keeps `State` (`proofs/Loop.antt`): what is written, and that the plan for what is left gives the rest.
use native.Mathlib.Omega.{arith}
use Prim.Native.Nat.{ℕ}
use mathlib.Core.Path.{◌≡◌, refl, sym, ap, subst, ◌∙◌}
use mathlib.Core.List.{List}
use lib.ListN.{length}
use Rattle.recording.specs.declared.Recording as Lent
use Rattle.recording.specs.Recording.{Bytes, Item, items}
use Rattle.recording.specs.Read.{recording_of}
use Rattle.recording.specs.Edit.{edit}
use Rattle.writer.specs.Write.{out, add, blank, Fits}
use Rattle.layout.specs.Wrap.{split_lines}
use Rattle.layout.specs.Unindent.{unindent_ops, prefix_fault}
use Rattle.layout.proofs.UnindentLaws.{by_bytes, begin_long, Indented, no_prefix_fault}
use Rattle.unindent.proofs.Laws.{moves}
use Rattle.unindent.proofs.Loop.{whole, state_first, long_now, before, inside, room_keep, room_skip, step, here, room_last, finish}
use Rattle.unindent.proofs.put_unindented.Goals as goal

-- every line that is not empty begins with the prefix, so the edit line by line is that byte by byte
module _ (p : Bytes) (r : Lent.Recording) (z : prefix_fault p r.bytes.now ≡ 0) where
  indented : Indented p r.bytes.now
  indented = no_prefix_fault p r.bytes.now z

  same : edit (unindent_ops (length p) (split_lines r.bytes.now)) (items (recording_of r)) ≡ whole p r.bytes.now r.entries.now r.text.now
  same = by_bytes (length p) r.bytes.now (begin_long p (split_lines r.bytes.now) indented.all) (items (recording_of r))

  module _ (od : Bytes) (oe : List ℕ) (ot : Bytes) where
    room : Fits (edit (unindent_ops (length p) (split_lines r.bytes.now)) (items (recording_of r))) (blank od oe ot) → Fits (whole p r.bytes.now r.entries.now r.text.now) (blank od oe ot)
    room f = subst (λ (x : List Item). Fits x (blank od oe ot)) same f

pub loop-p-init : goal.loop-p-init
unfolding out
loop-p-init c =
    let i = indented c.args.prefix.now c.args.content c.requires.sound.1 in
    state_first _ _ _ _ _ _ _ refl refl c.requires.sound.0 i.all c.next_line-p.ensures.value c.next_line-p.ensures.lower_bound.1

pub keep-c-requires : goal.keep-c-requires
keep-c-requires c =
    let a = c.args in
    let i = indented a.prefix.now a.content c.requires.sound.1 in
    let z = room a.prefix.now a.content c.requires.sound.1 a.bytes.now a.numbers.now a.texts.now c.requires.fits in
    let s = c.loop-p.invariant in
    record {
      ready = s.ready;
      at_le_n = (before _ _ _ _ i.one_line _ _ _ _ s z, s.within);
      fits = room_keep _ _ _ _ i.one_line _ _ _ _ s z c.loop-p-test.true;
    }

pub overflow_add-p : goal.overflow_add-p
overflow_add-p c =
    let a = c.args in
    let i = indented a.prefix.now a.content c.requires.sound.1 in
    let z = room a.prefix.now a.content c.requires.sound.1 a.bytes.now a.numbers.now a.texts.now c.requires.fits in
    let s = c.loop-p.invariant in
    let n = inside _ _ _ _ i.one_line _ _ _ _ s z c.loop-p-test.true in
    omega (arith, n, c.requires.sound.0.short)

pub skip-c-requires : goal.skip-c-requires
skip-c-requires c =
    let a = c.args in
    let i = indented a.prefix.now a.content c.requires.sound.1 in
    let z = room a.prefix.now a.content c.requires.sound.1 a.bytes.now a.numbers.now a.texts.now c.requires.fits in
    let s = c.loop-p.invariant in
    let n = inside _ _ _ _ i.one_line _ _ _ _ s z c.loop-p-test.true in
    let e = c.keep-c.ensures in
    record {
      ready = e.ready_2.0;
      at_le_n = (omega (arith, e.ready_2.1), n);
      fits = room_skip _ _ _ _ i.one_line _ _ _ _ s z c.loop-p-test.true _ _ e.result_after e.result_value e.ready_2.1;
    }

pub next_line-p-requires-in-loop-p : goal.next_line-p-requires-in-loop-p
next_line-p-requires-in-loop-p c =
    let a = c.args in
    let i = indented a.prefix.now a.content c.requires.sound.1 in
    let z = room a.prefix.now a.content c.requires.sound.1 a.bytes.now a.numbers.now a.texts.now c.requires.fits in
    let s = c.loop-p.invariant in
    let n = inside _ _ _ _ i.one_line _ _ _ _ s z c.loop-p-test.true in
    n

pub loop-p-smaller : goal.loop-p-smaller
loop-p-smaller c =
    let a = c.args in
    omega (arith, c.next_line-p-in-loop-p.ensures.value, c.loop-p-test.true, moves (length a.prefix.now) c.loop-p.p a.content.bytes.now c.loop-p-test.true)

pub loop-p-preserved : goal.loop-p-preserved
loop-p-preserved c =
    let a = c.args in
    let i = indented a.prefix.now a.content c.requires.sound.1 in
    let z = room a.prefix.now a.content c.requires.sound.1 a.bytes.now a.numbers.now a.texts.now c.requires.fits in
    let s = c.loop-p.invariant in
    let e = c.keep-c.ensures in
    let g = c.skip-c.ensures in
    let n = c.next_line-p-in-loop-p.ensures in
    step _ _ _ _ i.one_line _ _ _ _ s z c.loop-p-test.true _ _ e.result_after e.result_value e.ready_2.1 _ _ _ g.result_after g.result_value g.ready_2.0 g.ready_2.1 n.value n.lower_bound.1

pub keep-requires : goal.keep-requires
keep-requires c =
    let a = c.args in
    let i = indented a.prefix.now a.content c.requires.sound.1 in
    let z = room a.prefix.now a.content c.requires.sound.1 a.bytes.now a.numbers.now a.texts.now c.requires.fits in
    let s = c.loop-p.invariant in
    record {
      ready = s.ready;
      at_le_n = (here _ _ _ _ i.one_line _ _ _ _ s z c.loop-p-test.false, omega arith);
      fits = room_last _ _ _ _ i.one_line _ _ _ _ s z c.loop-p-test.false;
    }

-- the buffers are as long as they were
pub shape_of-bytes : goal.shape_of-bytes
unfolding out
shape_of-bytes c =
    let a = c.args in
    let i = indented a.prefix.now a.content c.requires.sound.1 in
    let z = room a.prefix.now a.content c.requires.sound.1 a.bytes.now a.numbers.now a.texts.now c.requires.fits in
    let s = c.loop-p.invariant in
    let l = long_now _ _ _ _ i.one_line _ _ _ _ s z in
    c.keep.auto.bytes ∙ l.data_bytes

pub shape_of-numbers : goal.shape_of-numbers
unfolding out
shape_of-numbers c =
    let a = c.args in
    let i = indented a.prefix.now a.content c.requires.sound.1 in
    let z = room a.prefix.now a.content c.requires.sound.1 a.bytes.now a.numbers.now a.texts.now c.requires.fits in
    let s = c.loop-p.invariant in
    let l = long_now _ _ _ _ i.one_line _ _ _ _ s z in
    c.keep.auto.numbers ∙ l.entry_numbers

pub shape_of-texts : goal.shape_of-texts
unfolding out
shape_of-texts c =
    let a = c.args in
    let i = indented a.prefix.now a.content c.requires.sound.1 in
    let z = room a.prefix.now a.content c.requires.sound.1 a.bytes.now a.numbers.now a.texts.now c.requires.fits in
    let s = c.loop-p.invariant in
    let l = long_now _ _ _ _ i.one_line _ _ _ _ s z in
    c.keep.auto.texts ∙ l.text

pub returns : goal.returns
returns c =
    let a = c.args in
    let i = indented a.prefix.now a.content c.requires.sound.1 in
    let z = room a.prefix.now a.content c.requires.sound.1 a.bytes.now a.numbers.now a.texts.now c.requires.fits in
    let s = c.loop-p.invariant in
    finish _ _ _ _ i.one_line _ _ _ _ s z c.loop-p-test.false _ c.keep.ensures.result_after
    ∙ ap (λ (x : List Item). add x (blank a.bytes.now a.numbers.now a.texts.now)) (sym (same a.prefix.now a.content c.requires.sound.1))
