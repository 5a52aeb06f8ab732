-- At a tab: one turn of a replacement record (`the_turn`), in the three steps of `replace`; behind the last tab the rest of the content is written.
use native.Mathlib.Omega.{arith}
use Prim.Native.Nat.{ℕ, ◌+◌, ◌*◌, ◌≤◌, ◌<◌}
use mathlib.Core.Path.{◌≡◌, refl, sym, ap, subst, ◌∙◌}
use mathlib.Core.List.{List}
use lib.ListN.{length}
use Rattle.buffer.specs.Place.{part}
use Rattle.buffer.proofs.Laws.{length_part}
use Rattle.chars.specs.Chars.{chars}
use Rattle.recording.specs.Recording.{recording, Item, items}
use Rattle.recording.specs.Edit.{edit}
use Rattle.writer.specs.declared.Cursor.{Cursor}
use Rattle.writer.specs.Write.{Out, out, add, blank, Fits}
use Rattle.layout.specs.declared.Replacement.{Replacement}
use Rattle.layout.specs.Tabs.{spaces_at_column, spaces, tab_ops}
use Rattle.layout.specs.Layout.{replace_ops}
use Rattle.replace.specs.Records.{replacement}
use Rattle.replace.specs.Turn.{Turn}
use Rattle.replace.proofs.RecordLaws.{Good}
use Rattle.replace.proofs.TurnLaws.{is_good, room_keep, room_put, room_skip, ready_skip, turned, bytes_room, part_wrote}
use Rattle.replace.proofs.PlanLaws.{State, state_first, long_now, may_turn, state_next, within, room_last, finish}
use Rattle.tabs.specs.declared.Place.{Place}
use Rattle.tabs.specs.Tabs.{tabs_from, place}
use Rattle.tabs.proofs.RecordLaws.{AtTab, at_tab, first_tab, tab_then, tab_end, records_whole, records_good}
use Rattle.tabs.proofs.put_expanded.Goals as goal

-- the edit of the definition is that of the records
module _ (s : ℕ) (low : 1 ≤ s) (high : s ≤ 64) (ds ns ts : List ℕ) where
  abbrev whole : List Item
  whole = edit (replace_ops (spaces 64) 0 (tabs_from s ds (place 0 0))) (items (recording ds ns ts))

  same : edit (tab_ops s 0 (chars ds)) (items (recording ds ns ts)) ≡ whole
  same = records_whole s low high ds ns ts (spaces 64) refl

  room : (o : Out) → Fits (edit (tab_ops s 0 (chars ds)) (items (recording ds ns ts))) o → Fits whole o
  room o f = subst (λ (is : List Item). Fits is o) same f

-- at a tab that becomes n spaces: its record is the next one, and there is room for its turn
module _ (s : ℕ) (ds ns ts : List ℕ) (o₀ o : Out) (c : Cursor) (p : Place) (i : AtTab ds p × State ds ns ts (spaces 64) (tabs_from s ds (place 0 0)) (tabs_from s ds p) o₀ o c)
    (r : Fits (edit (replace_ops (spaces 64) 0 (tabs_from s ds (place 0 0))) (items (recording ds ns ts))) o₀) (more : p.at < length ds) (n : ℕ) (e : n ≡ spaces_at_column s p.column) where
  the_turn : Turn ds ns ts (spaces 64) (replacement p.at (p.at + 1) 0 n) c o
  the_turn = may_turn _ _ _ _ _ _ _ _ _ i.1 r _ _ (first_tab s ds p n i.0 more e)

  good_tab : Good c.at (length ds) 64 (replacement p.at (p.at + 1) 0 n)
  good_tab = is_good _ _ _ _ _ _ _ the_turn

-- the column behind the spaces is within the bound
column_in : (at c n s : ℕ) → c ≤ 64 * at → s ≤ 64 → n ≤ s → c + n ≤ 64 * (at + 1)
column_in at c n s h k l = omega (arith, h, k, l)

pub next_tab-p-requires : goal.next_tab-p-requires
next_tab-p-requires c =
    (omega arith, c.requires.sound.short, omega arith)

pub loop-p-init : goal.loop-p-init
unfolding out
loop-p-init c =
    let a = c.args in
    let q = c.requires.le_stop in (
      at_tab a.content.bytes.now 0 0 c.next_tab-p.result c.next_tab-p.ensures,
      subst (λ (xs : List Replacement). State a.content.bytes.now a.content.entries.now a.content.text.now (spaces 64) (tabs_from a.stop a.content.bytes.now (place 0 0)) xs
          (blank a.bytes.now a.numbers.now a.texts.now) (blank a.bytes.now a.numbers.now a.texts.now) (record { at = 0; k = 0; d = 0; e = 0; t = 0 }))
          (c.next_tab-p.ensures.onward.same a.stop)
          (state_first _ _ _ _ _ _ _ refl refl c.requires.sound (records_good a.stop q.0 q.1 a.content.bytes.now a.content.entries.now a.content.text.now (spaces 64) refl)),
    )

pub spaces_at-n-requires : goal.spaces_at-n-requires
spaces_at-n-requires c =
    c.requires.le_stop.0

pub keep-c-requires : goal.keep-c-requires
keep-c-requires c =
    let a = c.args in
    let i = c.loop-p.invariant in
    let q = c.requires.le_stop in
    let r = room a.stop q.0 q.1 a.content.bytes.now a.content.entries.now a.content.text.now _ c.requires.fits in
    let h = c.loop-p-test.true in
    let n = c.spaces_at-n in
    let t = the_turn a.stop _ _ _ _ _ _ _ i r h n.result n.ensures.0 in
    let g = good_tab a.stop _ _ _ _ _ _ _ i r h n.result n.ensures.0 in
    record {
      ready = t.ready;
      at_le_n = (g.low, omega (arith, h));
      fits = room_keep _ _ _ _ _ _ _ t;
    }

pub put_bytes-c-requires : goal.put_bytes-c-requires
put_bytes-c-requires c =
    let a = c.args in
    let i = c.loop-p.invariant in
    let q = c.requires.le_stop in
    let r = room a.stop q.0 q.1 a.content.bytes.now a.content.entries.now a.content.text.now _ c.requires.fits in
    let h = c.loop-p-test.true in
    let n = c.spaces_at-n in
    let t = the_turn a.stop _ _ _ _ _ _ _ i r h n.result n.ensures.0 in
    let g = good_tab a.stop _ _ _ _ _ _ _ i r h n.result n.ensures.0 in
    let k = c.keep-c in
    let f = room_put _ _ _ _ _ _ _ t _ k.ensures.result_after in
    let l = bytes_room _ _ _ (part 0 n.result (spaces 64)) k.result _ (length_part 0 n.result (spaces 64) g.within) f in
    (omega (arith, n.ensures.1), g.within, omega (arith, l))

pub overflow_add-p : goal.overflow_add-p
overflow_add-p c =
    let h = c.loop-p-test.true in
    omega (arith, h, c.requires.sound.short)

pub skip-c-requires : goal.skip-c-requires
skip-c-requires c =
    let a = c.args in
    let i = c.loop-p.invariant in
    let q = c.requires.le_stop in
    let r = room a.stop q.0 q.1 a.content.bytes.now a.content.entries.now a.content.text.now _ c.requires.fits in
    let h = c.loop-p-test.true in
    let n = c.spaces_at-n in
    let t = the_turn a.stop _ _ _ _ _ _ _ i r h n.result n.ensures.0 in
    let g = good_tab a.stop _ _ _ _ _ _ _ i r h n.result n.ensures.0 in
    let k = c.keep-c in
    let b = c.put_bytes-c in
    let w = part_wrote _ _ _ _ (spaces 64) k.result b.result 0 n.result g.within b.ensures.bytes_after b.ensures.at_value in
    record {
      ready = ready_skip _ _ _ _ _ _ _ t _ k.ensures.result_after _ w k.result b.result b.ensures.at_value.0 b.ensures.at_value.1 k.ensures.ready_2.1 k.ensures.result_value k.ensures.ready_2.0;
      at_le_n = (omega (arith, b.ensures.at_value.0, k.ensures.ready_2.1, g.order), g.high);
      fits = room_skip _ _ _ _ _ _ _ t _ k.ensures.result_after _ w k.result b.result b.ensures.at_value.0 b.ensures.at_value.1 k.ensures.ready_2.1 k.ensures.result_value;
    }

pub overflow_add-p-in-loop-p : goal.overflow_add-p-in-loop-p
overflow_add-p-in-loop-p c =
    let h = c.loop-p-test.true in
    omega (arith, h, c.requires.sound.short)

pub overflow_add-p-in-loop-p-2 : goal.overflow_add-p-in-loop-p-2
overflow_add-p-in-loop-p-2 c =
    let a = c.args in
    let i = c.loop-p.invariant in
    let q = c.requires.le_stop in
    let h = c.loop-p-test.true in
    let n = c.spaces_at-n in
    let m = column_in c.loop-p.p.at c.loop-p.p.column n.result a.stop i.0.bounded q.1 n.ensures.2 in
    omega (arith, m, h, c.requires.sound.short)

pub next_tab-p-requires-in-loop-p : goal.next_tab-p-requires-in-loop-p
next_tab-p-requires-in-loop-p c =
    let a = c.args in
    let i = c.loop-p.invariant in
    let q = c.requires.le_stop in
    let h = c.loop-p-test.true in
    let n = c.spaces_at-n in
    let m = column_in c.loop-p.p.at c.loop-p.p.column n.result a.stop i.0.bounded q.1 n.ensures.2 in
    (omega (arith, h), c.requires.sound.short, m)

pub loop-p-smaller : goal.loop-p-smaller
loop-p-smaller c =
    let h = c.loop-p-test.true in
    omega (arith, c.next_tab-p-in-loop-p.ensures.onward.forward, h)

pub loop-p-preserved : goal.loop-p-preserved
loop-p-preserved c =
    let a = c.args in
    let i = c.loop-p.invariant in
    let q = c.requires.le_stop in
    let r = room a.stop q.0 q.1 a.content.bytes.now a.content.entries.now a.content.text.now _ c.requires.fits in
    let h = c.loop-p-test.true in
    let n = c.spaces_at-n in
    let t = the_turn a.stop _ _ _ _ _ _ _ i r h n.result n.ensures.0 in
    let g = good_tab a.stop _ _ _ _ _ _ _ i r h n.result n.ensures.0 in
    let k = c.keep-c in
    let b = c.put_bytes-c in
    let w = part_wrote _ _ _ _ (spaces 64) k.result b.result 0 n.result g.within b.ensures.bytes_after b.ensures.at_value in
    let s = c.skip-c.ensures in
    let p = c.loop-p.p in
    let x = c.next_tab-p-in-loop-p in
    let d = turned _ _ _ _ _ _ _ t _ k.ensures.result_after _ w k.result b.result b.ensures.at_value.0 b.ensures.at_value.1 k.ensures.ready_2.1 k.ensures.result_value _ _ s.result_after s.result_value s.ready_2.0 s.ready_2.1 in (
      at_tab a.content.bytes.now (p.at + 1) (p.column + n.result) x.result x.ensures,
      state_next _ _ _ _ _ _ _ _ _ i.1 r _ _ (tab_then a.stop a.content.bytes.now p x.result n.result i.0 h n.ensures.0 x.ensures) _ _ d,
    )

pub keep-requires : goal.keep-requires
keep-requires c =
    let a = c.args in
    let i = c.loop-p.invariant in
    let q = c.requires.le_stop in
    let r = room a.stop q.0 q.1 a.content.bytes.now a.content.entries.now a.content.text.now _ c.requires.fits in
    let e = tab_end a.stop a.content.bytes.now c.loop-p.p (omega (arith, c.loop-p-test.false)) in
    record { ready = i.1.ready; at_le_n = (within _ _ _ _ _ _ _ _ _ i.1 r e, omega arith); fits = room_last _ _ _ _ _ _ _ _ _ i.1 r e }

-- the buffers are as long as they were
pub shape_of-bytes : goal.shape_of-bytes
unfolding out
shape_of-bytes c =
    let a = c.args in
    let i = c.loop-p.invariant in
    let q = c.requires.le_stop in
    let r = room a.stop q.0 q.1 a.content.bytes.now a.content.entries.now a.content.text.now _ c.requires.fits in
    let l = long_now _ _ _ _ _ _ _ _ _ i.1 r in
    c.keep.auto.bytes ∙ l.data_bytes

pub shape_of-numbers : goal.shape_of-numbers
unfolding out
shape_of-numbers c =
    let a = c.args in
    let i = c.loop-p.invariant in
    let q = c.requires.le_stop in
    let r = room a.stop q.0 q.1 a.content.bytes.now a.content.entries.now a.content.text.now _ c.requires.fits in
    let l = long_now _ _ _ _ _ _ _ _ _ i.1 r in
    c.keep.auto.numbers ∙ l.entry_numbers

pub shape_of-texts : goal.shape_of-texts
unfolding out
shape_of-texts c =
    let a = c.args in
    let i = c.loop-p.invariant in
    let q = c.requires.le_stop in
    let r = room a.stop q.0 q.1 a.content.bytes.now a.content.entries.now a.content.text.now _ c.requires.fits in
    let l = long_now _ _ _ _ _ _ _ _ _ i.1 r in
    c.keep.auto.texts ∙ l.text

pub returns : goal.returns
returns c =
    let a = c.args in
    let i = c.loop-p.invariant in
    let q = c.requires.le_stop in
    let r = room a.stop q.0 q.1 a.content.bytes.now a.content.entries.now a.content.text.now _ c.requires.fits in
    let e = tab_end a.stop a.content.bytes.now c.loop-p.p (omega (arith, c.loop-p-test.false)) in
    finish _ _ _ _ _ _ _ _ _ i.1 r e _ c.keep.ensures.result_after
    ∙ ap (λ (is : List Item). add is (blank a.bytes.now a.numbers.now a.texts.now)) (sym (same a.stop q.0 q.1 a.content.bytes.now a.content.entries.now a.content.text.now))
