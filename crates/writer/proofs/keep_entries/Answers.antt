-- `keep_entries`: the loop's state is `State` of Carry with all items written; a turn is `step`, the end is `finish`.
use native.Mathlib.Omega.{arith}
use Rattle.writer.proofs.Carry.{same, State, TurnRoom, room_turn, same_room, turn_wrote, bytes_wrote, add-nil, fits_now, long_now, whole, entry_place, ok, entry_is, fits_turn, step, front_last, finish}
use Rattle.writer.proofs.HeldLaws.{added_held, data_left}
use Rattle.recording.proofs.ItemsLaws.{data_bytes_lem}
use Rattle.buffer.proofs.Laws.{length_part}
use Rattle.writer.specs.Write.{out, add, Fits, numbers_for, text_for, Ready, left, place_for, item_at}
use Rattle.writer.specs.declared.Cursor.{Cursor}
use Rattle.recording.specs.Refusals.{bad_shape_of}
use Rattle.recording.specs.Edit.{front, back}
use Rattle.recording.specs.Recording.{byte_items, entries_of}
use Rattle.recording.specs.declared.Entry.{Entry}
use Rattle.buffer.specs.Place.{over_at, part}
use Rattle.buffer.specs.Held.{RunHeld}
use Rattle.buffer.specs.LendsOn.{LendsOn, own_arrays, acts, touches, loops, calls, called, Threads, only_by}
use lib.ListN.{length, take, drop}
use mathlib.Core.Path.{◌≡◌, refl, ap, ◌∙◌}
use mathlib.Core.List.{List, [], ◌∷◌}
use mathlib.Core.Bool.{true, false}
use Rattle.share.specs.Placed.{placed_from}
use Prim.Native.Nat.{ℕ, ◌+◌, ◌-◌, ◌≤◌, ◌<◌}
use Rattle.writer.proofs.keep_entries.Code.Mir as code
use Rattle.writer.proofs.keep_entries.Goals as goal

module _ (ds ns ts : List ℕ) (n : ℕ) (c₀ : Cursor) (od₀ oe₀ ot₀ od oe ot : List ℕ) (c : Cursor) (p : ℕ)
    (s : State same ds ns ts n (out od₀ oe₀ ot₀ c₀) c₀ (out od oe ot c) c p) (l : n ≤ length ds) (room : Fits (front (n - c₀.at) (left ds ns ts c₀)) (out od₀ oe₀ ot₀ c₀)) where
  now-long : (length od ≡ length od₀) × (length oe ≡ length oe₀) × (length ot ≡ length ot₀)
  unfolding out
  now-long =
      let g = long_now same (λ a b. refl) ds ns ts n (out od₀ oe₀ ot₀ c₀) (out od oe ot c) c₀ c p s l room in
      (g.data_bytes, g.entry_numbers, g.text)

  module _ (more : p ≤ n) where
    entire : c.k + 4 ≤ length ns
    entire = whole same (λ a b. refl) ds ns ts n (out od₀ oe₀ ot₀ c₀) (out od oe ot c) c₀ c p s l room more

    module _ (e : Entry) (q : entries_of (drop c.k ns) ≡ e ∷ entries_of (drop (c.k + 4) ns)) where
      fine : (c.at ≤ e.position) × (bad_shape_of e.kind e.start e.len ≡ false) × (e.start + e.len ≤ length ts) × (p ≡ e.position)
      fine =
          let o = ok same (λ a b. refl) ds ns ts n (out od₀ oe₀ ot₀ c₀) (out od oe ot c) c₀ c p s l room more e q in
          (o.0, o.1, o.2, entry_place same (λ a b. refl) ds ns ts n (out od₀ oe₀ ot₀ c₀) (out od oe ot c) c₀ c p s l room more e q)

      size : length (part c.at e.position ds) ≡ p - c.at
      size = length_part c.at e.position ds (omega (arith, fine.3)) ∙ (omega (arith, fine.3))

      roomy : TurnRoom od oe ot c (p - c.at) (length (text_for (c.d + (p - c.at)) oe ot c (item_at ts e)))
      roomy =
          rw size at
          (room_turn od oe ot (part c.at e.position ds) c (item_at ts e)
          (entry_is same (λ a b. refl) ds ns ts n (out od₀ oe₀ ot₀ c₀) (out od oe ot c) c₀ c p s l room more e q)
          (fits_turn same (λ a b. refl) ds ns ts n (out od₀ oe₀ ot₀ c₀) (out od oe ot c) c₀ c p s l room more e q))

      asked : (c₁ : Cursor) → (c₁.at ≡ c.at) × (c₁.k ≡ c.k) × (c₁.d ≡ c.d + (p - c.at)) × (c₁.e ≡ c.e) × (c₁.t ≡ c.t) → length ns ≤ 18446744073709551615
          → (bad_shape_of e.kind e.start e.len ≡ false) × ((e.start + e.len ≤ length ts)
          × (((c₁.e + 4 ≤ length oe) × (c₁.t + length (text_for c₁.d oe ot c₁ (item_at ts e)) ≤ length ot)) × (((c₁.d ≤ 1048576) × (c₁.t ≤ 65536) × (c₁.k + 4 ≤ 18446744073709551615)) × (placed_from 0 [] (entries_of (take c₁.e oe)) ≡ true))))
      asked c₁ f big =
          let r = roomy in
          let m = same_room oe ot c c₁ (c.d + (p - c.at)) (item_at ts e) f.2 f.3 f.4 in (
            fine.1,
            (
              fine.2,
              (
                (omega (arith, f.3, r.entry_numbers), omega (arith, f.4, r.text, m)),
                (
                  (omega (arith, f.2, r.data_limit_lem), omega (arith, f.4, r.text_limit_lem), omega (arith, f.1, entire, big)),
                  ap (λ (m : ℕ). placed_from 0 [] (entries_of (take m oe))) f.3 ∙ r.placed,
                ),
              ),
            ),
          )

      turned : (od' oe' ot' : List ℕ) (c₁ c₂ : Cursor) (p' : ℕ)
          → od' ≡ over_at c.d (part c.at p ds) od → (c₁.at ≡ c.at) × (c₁.k ≡ c.k) × (c₁.d ≡ c.d + (p - c.at)) × (c₁.e ≡ c.e) × (c₁.t ≡ c.t)
          → (c₂.at ≡ e.position) × (c₂.k ≡ c₁.k + 4) × (c₂.d ≡ c₁.d) × (c₂.e ≡ c₁.e + 4) × (c₂.t ≡ c₁.t + length (text_for c₁.d oe ot c₁ (item_at ts e)))
          → oe' ≡ over_at c₁.e (numbers_for c₁.d oe ot c₁ (item_at ts e)) oe
          → ot' ≡ over_at c₁.t (text_for c₁.d oe ot c₁ (item_at ts e)) ot
          → p' ≡ place_for (entries_of (drop c₂.k ns))
          → State same ds ns ts n (out od₀ oe₀ ot₀ c₀) c₀ (out od' oe' ot' c₂) c₂ p'
      turned od' oe' ot' c₁ c₂ p' ed q₁ q₂ ee et ep =
          step same (λ a b. refl) ds ns ts n (out od₀ oe₀ ot₀ c₀) (out od oe ot c) c₀ c p s l room more e q (out od' oe' ot' c₂) c₂ p'
          (turn_wrote od od' oe oe' ot ot' (part c.at e.position ds) c c₁ c₂ (item_at ts e)
          (entry_is same (λ a b. refl) ds ns ts n (out od₀ oe₀ ot₀ c₀) (out od oe ot c) c₀ c p s l room more e q)
          (ed ∙ ap (λ (m : ℕ). over_at c.d (part c.at m ds) od) fine.3) (omega (arith, size, q₁.2)) q₁.3 q₁.4 ee et q₂.2 q₂.3 q₂.4)
          q₂.0 (q₂.1 ∙ ap (λ (m : ℕ). m + 4) q₁.1) ep

  module _ (past : n < p) where
    last-size : length (part c.at n ds) ≡ n - c.at
    last-size = length_part c.at n ds l

    last-room : c.d + (n - c.at) ≤ length od
    unfolding out
    last-room =
        let q = front_last same (λ a b. refl) ds ns ts n (out od₀ oe₀ ot₀ c₀) (out od oe ot c) c₀ c p s l room past in
        let f : Fits (byte_items (part c.at n ds)) (out od oe ot c) = rw q at (fits_now same (λ a b. refl) ds ns ts n (out od₀ oe₀ ot₀ c₀) (out od oe ot c) c₀ c p s l room) in
        omega (arith, f.data_bytes, ap length (data_bytes_lem (part c.at n ds)), last-size)

    ended : (od' : List ℕ) (c₁ c₂ : Cursor)
        → od' ≡ over_at c.d (part c.at n ds) od → (c₁.at ≡ c.at) × (c₁.k ≡ c.k) × (c₁.d ≡ c.d + (n - c.at)) × (c₁.e ≡ c.e) × (c₁.t ≡ c.t)
        → (c₂.at ≡ n) × (c₂.k ≡ c₁.k) × (c₂.d ≡ c₁.d) × (c₂.e ≡ c₁.e) × (c₂.t ≡ c₁.t)
        → (out od' oe ot c₂ ≡ add (front (n - c₀.at) (left ds ns ts c₀)) (out od₀ oe₀ ot₀ c₀)) × (left ds ns ts c₂ ≡ back (n - c₀.at) (left ds ns ts c₀)) × Ready ds ns ts c₂
    ended od' c₁ c₂ ed q₁ q₂ =
        finish same (λ a b. refl) ds ns ts n (out od₀ oe₀ ot₀ c₀) (out od oe ot c) c₀ c p s l room past (out od' oe ot c₂) c₂
        (bytes_wrote od od' oe ot (part c.at n ds) c c₂ ed (omega (arith, last-size, q₁.2, q₂.2)) (q₂.3 ∙ q₁.3) (q₂.4 ∙ q₁.4))
        q₂.0 (q₂.1 ∙ q₁.1)

    run-kept : (od' : List ℕ) (c₂ : Cursor) → out od' oe ot c₂ ≡ add (front (n - c₀.at) (left ds ns ts c₀)) (out od₀ oe₀ ot₀ c₀)
        → RunHeld c₀.d c₂.d (part c₀.at n ds) od₀ od'
    unfolding out
    run-kept od' c₂ w = added_held (front (n - c₀.at) (left ds ns ts c₀)) (part c₀.at n ds) (out od₀ oe₀ ot₀ c₀) (out od' oe ot c₂) w (data_left ds ns ts c₀ n)

pub loop-p-init : goal.loop-p-init
loop-p-init c =
    record {
      done = [];
      wrote = add-nil _;
      rest = refl;
      behind = refl;
      ready = c.requires.ready;
      here =
          c.requires.at_le_n.0;
      next = c.place_at-p.ensures;
    }

pub entry_at-e-requires : goal.entry_at-e-requires
entry_at-e-requires c =
    entire _ _ _ _ _ _ _ _ _ _ _ _ _ c.loop-p.invariant c.requires.at_le_n.1
    c.requires.fits c.loop-p-test.true

pub put_bytes-c-requires : goal.put_bytes-c-requires
put_bytes-c-requires c =
    let pre = c.requires in
    let more = c.loop-p-test.true in
    let f = fine _ _ _ _ _ _ _ _ _ _ _ _ _ c.loop-p.invariant pre.at_le_n.1 pre.fits more _ c.entry_at-e.ensures in
    let r = roomy _ _ _ _ _ _ _ _ _ _ _ _ _ c.loop-p.invariant pre.at_le_n.1 pre.fits more _ c.entry_at-e.ensures in
    (omega (arith, f.0, f.3), omega (arith, more, pre.at_le_n.1), r.data_bytes)

pub put_entry-c-requires : goal.put_entry-c-requires
put_entry-c-requires c =
    let q = let pre = c.requires in
    asked _ _ _ _ _ _ _ _ _ _ _ _ _ c.loop-p.invariant pre.at_le_n.1 pre.fits
    c.loop-p-test.true _ c.entry_at-e.ensures _
    c.put_bytes-c.ensures.at_value
    (omega (arith, c.well_formed)) in record { len_value = q.0; len_in_bounds = q.1.0; e_in_bounds = q.1.1.0; d_le_data_limit = q.1.1.1.0; numbers_value = q.1.1.1.1 }

pub place_at-p-requires-in-loop-p : goal.place_at-p-requires-in-loop-p
place_at-p-requires-in-loop-p c =
    let pre = c.requires in
    let w = entire _ _ _ _ _ _ _ _ _ _ _ _ _ c.loop-p.invariant pre.at_le_n.1
    pre.fits c.loop-p-test.true in
    omega (arith, w, c.put_bytes-c.ensures.at_value.1, c.put_entry-c.ensures.at_value.1)

pub loop-p-smaller : goal.loop-p-smaller
loop-p-smaller c =
    let pre = c.requires in
    let w = entire _ _ _ _ _ _ _ _ _ _ _ _ _ c.loop-p.invariant
    pre.at_le_n.1 pre.fits c.loop-p-test.true in
    omega (arith, w, c.put_bytes-c.ensures.at_value.1, c.put_entry-c.ensures.at_value.1)

pub loop-p-preserved : goal.loop-p-preserved
loop-p-preserved c =
    let pre = c.requires in
    let b = c.put_bytes-c.ensures in
    let e = c.put_entry-c.ensures in
    turned _ _ _ _ _ _ _ _ _ _ _ _ _ c.loop-p.invariant pre.at_le_n.1
    pre.fits c.loop-p-test.true _
    c.entry_at-e.ensures _ _ _ _ _ _ b.bytes_after b.at_value e.at_value e.numbers_after e.texts_after
    c.place_at-p-in-loop-p.ensures

pub put_bytes-c-requires-2 : goal.put_bytes-c-requires-2
put_bytes-c-requires-2 c =
    let s = c.loop-p.invariant in
    let pre = c.requires in
    (s.here, pre.at_le_n.1, last-room _ _ _ _ _ _ _ _ _ _ _ _ _ s pre.at_le_n.1 pre.fits c.loop-p-test.false)

pub shape_of-bytes : goal.shape_of-bytes
shape_of-bytes c =
    c.put_bytes-c-2.auto.bytes ∙ (now-long _ _ _ _ _ _ _ _ _ _ _ _ _ c.loop-p.invariant
    c.requires.at_le_n.1
    c.requires.fits).0

pub shape_of-numbers : goal.shape_of-numbers
shape_of-numbers c =
    (now-long _ _ _ _ _ _ _ _ _ _ _ _ _ c.loop-p.invariant
    c.requires.at_le_n.1
    c.requires.fits).1

pub shape_of-texts : goal.shape_of-texts
shape_of-texts c =
    (now-long _ _ _ _ _ _ _ _ _ _ _ _ _ c.loop-p.invariant
    c.requires.at_le_n.1
    c.requires.fits).2

pub returns : goal.returns
returns c =
    let pre = c.requires in
    let b = c.put_bytes-c-2.ensures in
    let s = c.loop-p.invariant in
    let past = c.loop-p-test.false in
    let e = ended _ _ _ _ _ _ _ _ _ _ _ _ _ s pre.at_le_n.1 pre.fits past _ _ _ b.bytes_after b.at_value (refl, refl, refl, refl, refl) in
    record {
      result_after = e.0;
      result_value = e.1;
      ready_2 = (e.2, refl, run-kept _ _ _ _ _ _ _ _ _ _ _ _ _ s pre.at_le_n.1 pre.fits past _ _ e.0);
    }

-- the bytes go by `put_bytes` alone: once a turn, and once at the end
pub keep-entries-lends-on : LendsOn code.function [] 1 ("writer::place_at" ∷ "recording::entry_at" ∷ "writer::put_bytes" ∷ "writer::put_entry" ∷ "writer::place_at" ∷ "writer::put_bytes" ∷ [])
unfolding own_arrays acts touches loops calls called
keep-entries-lends-on = refl

-- and each run where the one before ended: the cursor c begins as `from`, and is what one writing call leaves and the next one takes
pub keep-entries-threads : Threads code.function 5 7 ("writer::put_bytes" ∷ "writer::put_entry" ∷ [])
unfolding acts only_by called
keep-entries-threads = record { rest = acts code.t-2; begins = refl; goes_on = refl }
