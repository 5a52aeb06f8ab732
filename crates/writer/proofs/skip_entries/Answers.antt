-- `skip_entries`: as `keep_entries`, with the entries alone written (`entries_only`).
use native.Mathlib.Omega.{arith}
use Rattle.writer.proofs.Carry.{State, TurnRoom, room_turn, same_room, turn_items, turn_wrote, bytes_wrote, add-nil, long_now, whole, ok, entry_is, fits_turn, step, finish}
use Rattle.writer.proofs.Carry.{only_append, only_bytes, only_none, only_entry}
use Rattle.writer.specs.Write.{out, add, Fits, numbers_for, text_for, Ready, left, place_for, item_at}
use Rattle.writer.specs.declared.Cursor.{Cursor}
use Rattle.recording.specs.Refusals.{bad_shape_of}
use Rattle.recording.specs.Edit.{front, back, entries_only}
use Rattle.recording.specs.Recording.{Item, entries_of}
use Rattle.recording.specs.declared.Entry.{Entry}
use Rattle.buffer.specs.Place.{over_at, part}
use Rattle.buffer.proofs.Laws.{over_none}
use Rattle.buffer.specs.LendsOn.{LendsOn, own_arrays, acts, touches, loops, calls, called}
use lib.ListN.{length, take, drop}
use mathlib.Core.Path.{◌≡◌, refl, sym, ap, ◌∙◌}
use mathlib.Core.List.{List, [], ◌∷◌}
use mathlib.Core.Bool.{true, false}
use Rattle.share.specs.Placed.{placed_from}
use Prim.Native.Nat.{ℕ, ◌+◌, ◌-◌, ◌≤◌, ◌<◌}
use Rattle.writer.proofs.skip_entries.Code.Mir as code
use Rattle.writer.proofs.skip_entries.Goals as goal

module _ (ds ns ts : List ℕ) (n : ℕ) (c₀ : Cursor) (od oe₀ ot₀ oe ot : List ℕ) (c : Cursor) (p : ℕ)
    (s : State entries_only ds ns ts n (out od oe₀ ot₀ c₀) c₀ (out od oe ot c) c p) (l : n ≤ length ds) (room : Fits (entries_only (front (n - c₀.at) (left ds ns ts c₀))) (out od oe₀ ot₀ c₀)) where
  now-long : (length oe ≡ length oe₀) × (length ot ≡ length ot₀)
  unfolding out
  now-long =
      let g = long_now entries_only only_append ds ns ts n (out od oe₀ ot₀ c₀) (out od oe ot c) c₀ c p s l room in
      (g.entry_numbers, g.text)

  module _ (more : p ≤ n) where
    entire : c.k + 4 ≤ length ns
    entire = whole entries_only only_append ds ns ts n (out od oe₀ ot₀ c₀) (out od oe ot c) c₀ c p s l room more

    module _ (e : Entry) (q : entries_of (drop c.k ns) ≡ e ∷ entries_of (drop (c.k + 4) ns)) where
      turn-only : entries_only (turn_items ds ts c.at e) ≡ item_at ts e ∷ []
      turn-only =
          only_bytes (part c.at e.position ds) (item_at ts e ∷ [])
          ∙ only_entry (item_at ts e) (entry_is entries_only only_append ds ns ts n (out od oe₀ ot₀ c₀) (out od oe ot c) c₀ c p s l room more e q).kind

      roomy : TurnRoom od oe ot c 0 (length (text_for (c.d + 0) oe ot c (item_at ts e)))
      roomy =
          room_turn od oe ot [] c (item_at ts e)
          (entry_is entries_only only_append ds ns ts n (out od oe₀ ot₀ c₀) (out od oe ot c) c₀ c p s l room more e q)
          (rw turn-only at (fits_turn entries_only only_append ds ns ts n (out od oe₀ ot₀ c₀) (out od oe ot c) c₀ c p s l room more e q))

      asked : length ns ≤ 18446744073709551615
          → (bad_shape_of e.kind e.start e.len ≡ false) × ((e.start + e.len ≤ length ts)
          × (((c.e + 4 ≤ length oe) × (c.t + length (text_for c.d oe ot c (item_at ts e)) ≤ length ot)) × (((c.d ≤ 1048576) × (c.t ≤ 65536) × (c.k + 4 ≤ 18446744073709551615)) × (placed_from 0 [] (entries_of (take c.e oe)) ≡ true))))
      asked big =
          let o = ok entries_only only_append ds ns ts n (out od oe₀ ot₀ c₀) (out od oe ot c) c₀ c p s l room more e q in
          let r = roomy in
          let m = same_room oe ot c c (c.d + 0) (item_at ts e) (omega arith) refl refl in
          (o.1, (o.2, ((r.entry_numbers, omega (arith, r.text, m)), ((omega (arith, r.data_limit_lem), omega (arith, r.text_limit_lem), omega (arith, entire, big)), r.placed))))

      turned : (oe' ot' : List ℕ) (c₂ : Cursor) (p' : ℕ)
          → (c₂.at ≡ e.position) × (c₂.k ≡ c.k + 4) × (c₂.d ≡ c.d) × (c₂.e ≡ c.e + 4) × (c₂.t ≡ c.t + length (text_for c.d oe ot c (item_at ts e)))
          → oe' ≡ over_at c.e (numbers_for c.d oe ot c (item_at ts e)) oe
          → ot' ≡ over_at c.t (text_for c.d oe ot c (item_at ts e)) ot
          → p' ≡ place_for (entries_of (drop c₂.k ns))
          → State entries_only ds ns ts n (out od oe₀ ot₀ c₀) c₀ (out od oe' ot' c₂) c₂ p'
      turned oe' ot' c₂ p' q₂ ee et ep =
          step entries_only only_append ds ns ts n (out od oe₀ ot₀ c₀) (out od oe ot c) c₀ c p s l room more e q (out od oe' ot' c₂) c₂ p'
          (turn_wrote od od oe oe' ot ot' [] c c c₂ (item_at ts e)
          (entry_is entries_only only_append ds ns ts n (out od oe₀ ot₀ c₀) (out od oe ot c) c₀ c p s l room more e q)
          (sym (over_none c.d od)) (omega arith) refl refl ee et q₂.2 q₂.3 q₂.4
          ∙ ap (λ (x : List Item). add x (out od oe ot c)) (sym turn-only))
          q₂.0 q₂.1 ep

  module _ (past : n < p) where
    ended : (c₂ : Cursor) → (c₂.at ≡ n) × (c₂.k ≡ c.k) × (c₂.d ≡ c.d) × (c₂.e ≡ c.e) × (c₂.t ≡ c.t)
        → (out od oe ot c₂ ≡ add (entries_only (front (n - c₀.at) (left ds ns ts c₀))) (out od oe₀ ot₀ c₀)) × (left ds ns ts c₂ ≡ back (n - c₀.at) (left ds ns ts c₀)) × Ready ds ns ts c₂
    ended c₂ q =
        finish entries_only only_append ds ns ts n (out od oe₀ ot₀ c₀) (out od oe ot c) c₀ c p s l room past (out od oe ot c₂) c₂
        (bytes_wrote od od oe ot [] c c₂ (sym (over_none c.d od)) (omega (arith, q.2)) q.3 q.4 ∙ ap (λ (x : List Item). add x (out od oe ot c)) (sym (only_none (part c.at n ds))))
        q.0 q.1

pub loop-p-init : goal.loop-p-init
loop-p-init c =
    record {
      done = [];
      wrote = add-nil _;
      rest = refl;
      behind = refl;
      ready = c.requires.ready;
      here =
          c.requires.at_le_n.0;
      next = c.place_at-p.ensures;
    }

pub entry_at-e-requires : goal.entry_at-e-requires
entry_at-e-requires c =
    entire _ _ _ _ _ _ _ _ _ _ _ _ c.loop-p.invariant c.requires.at_le_n.1
    c.requires.fits c.loop-p-test.true

pub put_entry-c-requires : goal.put_entry-c-requires
put_entry-c-requires c =
    let q = let pre = c.requires in
    asked _ _ _ _ _ _ _ _ _ _ _ _ c.loop-p.invariant pre.at_le_n.1 pre.fits c.loop-p-test.true _
    c.entry_at-e.ensures (omega (arith, c.well_formed)) in record { len_value = q.0; len_in_bounds = q.1.0; e_in_bounds = q.1.1.0; d_le_data_limit = q.1.1.1.0; numbers_value = q.1.1.1.1 }

pub place_at-p-requires-in-loop-p : goal.place_at-p-requires-in-loop-p
place_at-p-requires-in-loop-p c =
    let pre = c.requires in
    omega (
      arith,
      entire _ _ _ _ _ _ _ _ _ _ _ _ c.loop-p.invariant pre.at_le_n.1 pre.fits
          c.loop-p-test.true,
      c.put_entry-c.ensures.at_value.1,
    )

pub loop-p-smaller : goal.loop-p-smaller
loop-p-smaller c =
    let pre = c.requires in
    omega (
      arith,
      entire _ _ _ _ _ _ _ _ _ _ _ _ c.loop-p.invariant pre.at_le_n.1 pre.fits
          c.loop-p-test.true,
      c.put_entry-c.ensures.at_value.1,
    )

pub loop-p-preserved : goal.loop-p-preserved
loop-p-preserved c =
    let pre = c.requires in
    let e = c.put_entry-c.ensures in
    turned _ _ _ _ _ _ _ _ _ _ _ _ c.loop-p.invariant pre.at_le_n.1 pre.fits
    c.loop-p-test.true _
    c.entry_at-e.ensures _ _ _ _ e.at_value e.numbers_after e.texts_after c.place_at-p-in-loop-p.ensures

pub shape_of-numbers : goal.shape_of-numbers
shape_of-numbers c =
    (now-long _ _ _ _ _ _ _ _ _ _ _ _ c.loop-p.invariant c.requires.at_le_n.1
    c.requires.fits).0

pub shape_of-texts : goal.shape_of-texts
shape_of-texts c =
    (now-long _ _ _ _ _ _ _ _ _ _ _ _ c.loop-p.invariant c.requires.at_le_n.1
    c.requires.fits).1

pub returns : goal.returns
returns c =
    let e = ended _ _ _ _ _ _ _ _ _ _ _ _ c.loop-p.invariant c.requires.at_le_n.1
    c.requires.fits c.loop-p-test.false _ (refl, refl, refl, refl, refl) in
    record {
      result_after = e.0;
      result_value = e.1;
      ready_2 = (e.2, refl);
    }

-- no call is lent the data buffer or the content
pub skip-entries-lends-on : LendsOn code.function [] 1 ("writer::place_at" ∷ "recording::entry_at" ∷ "writer::put_entry" ∷ "writer::place_at" ∷ [])
unfolding own_arrays acts touches loops calls called
skip-entries-lends-on = refl
