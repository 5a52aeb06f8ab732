-- The loop over the fill's entries: a turn writes the piece up to the next entry n times and the entry, the end writes the last piece n times.
-- The idea: `State` says what is done, and that what is left of the fill, its pieces repeated, gives the rest of the padding.
use mathlib.Core.Path.{◌≡◌, refl, sym, ap, ◌∙◌}
use mathlib.Core.Bool.{true, false}
use mathlib.Core.List.{List, [], ◌∷◌, ◌++◌, append_assoc, append-nil}
use Prim.Native.Nat.{ℕ, zero, suc, ◌+◌, ◌-◌, ◌≤◌, ◌<◌}
use native.Mathlib.Omega.{arith}
use lib.ListN.{length, take, drop, length-drop}
use Rattle.buffer.specs.Place.{over_at, part}
use Rattle.recording.specs.declared.Entry.{Entry}
use Rattle.recording.specs.Recording.{recording, entries_of, Item, byte, push, pop, raw, byte_items, items_from, items}
use Rattle.recording.specs.Refusals.{bad_shape_of}
use Rattle.recording.proofs.ItemsLaws.{data_bytes_lem, data_items_from}
use Rattle.recording.proofs.SizeLaws.{IsEntry}
use Rattle.share.specs.Placed.{placed_from}
use Rattle.writer.specs.declared.Cursor.{Cursor}
use Rattle.writer.specs.Write.{Out, out, add, Fits, numbers_for, text_for, Valid, Sound, Ready, left, place_for, item_at}
use Rattle.writer.proofs.Laws.{fits_left, fits_right, add-append, add_long, Long}
use Rattle.writer.proofs.Carry.{valid_in, whole_entry, EntryItem, is_entry, TurnRoom, room_turn, same_room, turn_wrote, bytes_wrote, add-nil, rest_after, left_turn, front_stop, placed}
use Rattle.writer.proofs.Steps.{front_all, left_start, ready_start}
use Rattle.layout.specs.Layout.{copies, repeat_pieces, padding}
use Rattle.layout.proofs.PadLaws.{repeat_bytes}
use Rattle.pad.specs.Padding.{repeated}
use Rattle.pad.proofs.Laws.{copies-bytes}

-- ── padding by pieces
pub padding-zero : (n : ℕ) (f : List Item) → n ≡ 0 → padding n f ≡ []
padding-zero zero f h = refl
padding-zero (suc n) f h = absurd (omega arith)

pub padding_more : (n : ℕ) (f : List Item) → (n ≡ 0 → ⊥) → padding n f ≡ repeat_pieces n [] f
padding_more zero f h = absurd (h refl)
padding_more (suc n) f h = refl

at_entry : (n : ℕ) (p : List ℕ) (x : Item) (r : List Item) → IsEntry x → repeat_pieces n p (x ∷ r) ≡ copies n p ++ (x ∷ repeat_pieces n [] r)
at_entry n p (byte b) r h = absurd h
at_entry n p (push l) r h = refl
at_entry n p pop r h = refl
at_entry n p (raw t) r h = refl

repeat_turn : (n : ℕ) (p : List ℕ) (x : Item) (r : List Item) → IsEntry x
    → repeat_pieces n [] (byte_items p ++ (x ∷ r)) ≡ (byte_items (repeated n p) ++ (x ∷ [])) ++ repeat_pieces n [] r
repeat_turn n p x r h =
    repeat_bytes n [] p (x ∷ r) ∙ at_entry n p x r h ∙ ap (λ (l : List Item). l ++ (x ∷ repeat_pieces n [] r)) (copies-bytes n p)
    ∙ sym (append_assoc (byte_items (repeated n p)) (x ∷ []) (repeat_pieces n [] r))

repeat_last : (n : ℕ) (p : List ℕ) → repeat_pieces n [] (byte_items p) ≡ byte_items (repeated n p)
repeat_last n p =
    ap (λ (l : List Item). repeat_pieces n [] l) (sym (append-nil (byte_items p))) ∙ repeat_bytes n [] p [] ∙ copies-bytes n p

-- ── the state
pub record State (n : ℕ) (ds ns ts : List ℕ) (o₀ o : Out) (c : Cursor) (p : ℕ) : Type 0 where
  pub done : List Item
  pub wrote : o ≡ add done o₀
  -- what is left gives the rest of the padding
  pub rest : done ++ repeat_pieces n [] (left ds ns ts c) ≡ repeat_pieces n [] (items (recording ds ns ts))
  pub ready : Ready ds ns ts c
  -- the next entry stands at p
  pub next : p ≡ place_for (entries_of (drop c.k ns))

pub state_first : (n : ℕ) (ds ns ts : List ℕ) (o : Out) (c : Cursor) (p : ℕ) → c.at ≡ 0 → c.k ≡ 0 → Sound ds ns ts → p ≡ place_for (entries_of (drop 0 ns)) → State n ds ns ts o o c p
state_first n ds ns ts o c p a k s e =
    record {
      done = [];
      wrote = add-nil o;
      rest = ap (λ (l : List Item). repeat_pieces n [] l) (left_start ds ns ts c a k);
      ready = ready_start ds ns ts c a k s;
      next = rw k e;
    }

module _ (n : ℕ) (ds ns ts : List ℕ) (o₀ o : Out) (c : Cursor) (p : ℕ) (s : State n ds ns ts o₀ o c p) (room : Fits (repeat_pieces n [] (items (recording ds ns ts))) o₀) where
  abbrev left_over : List Item
  left_over = repeat_pieces n [] (left ds ns ts c)

  all : Fits (s.done ++ left_over) o₀
  all = rw s.rest room

  fits_done : Fits s.done o₀
  fits_done = fits_left s.done left_over o₀ all

  fits_now : Fits left_over o
  fits_now = rw s.wrote (fits_right s.done left_over o₀ all)

  pub long_now : Long o o₀
  long_now = rw s.wrote (add_long s.done o₀ fits_done)

  pub here : c.at ≤ length ds
  here = valid_in c.at (length ds) (length ts) (entries_of (drop c.k ns)) s.ready.valid

  -- a turn
  module _ (more : p ≤ length ds) where
    pub whole : c.k + 4 ≤ length ns
    whole = whole_entry c.k ns (omega (arith, s.next, s.ready.short))

    module _ (e : Entry) (q : entries_of (drop c.k ns) ≡ e ∷ entries_of (drop (c.k + 4) ns)) where
      pub entry_place : p ≡ e.position
      entry_place = s.next ∙ ap place_for q ∙ placed e (entries_of (drop (c.k + 4) ns))

      pub ok : (c.at ≤ e.position) × (bad_shape_of e.kind e.start e.len ≡ false) × (e.start + e.len ≤ length ts) × Valid e.position (length ds) (length ts) (entries_of (drop (c.k + 4) ns))
      unfolding Valid
      ok = rw q at s.ready.valid

      pub entry_is : EntryItem (item_at ts e)
      entry_is = is_entry ts e

      abbrev piece : List ℕ
      piece = repeated n (part c.at e.position ds)

      abbrev turn : List Item
      turn = byte_items piece ++ (item_at ts e ∷ [])

      parted : left_over ≡ turn ++ repeat_pieces n [] (rest_after ds ns ts c.k e)
      parted =
          ap (λ (l : List Item). repeat_pieces n [] l) (left_turn ds ns ts c e q ok.0)
          ∙ repeat_turn n (part c.at e.position ds) (item_at ts e) (rest_after ds ns ts c.k e) entry_is.kind

      pub fits_turn : Fits turn o
      fits_turn = fits_left turn (repeat_pieces n [] (rest_after ds ns ts c.k e)) o (rw parted at fits_now)

      pub step : (o' : Out) (c' : Cursor) (p' : ℕ) → o' ≡ add turn o → c'.at ≡ e.position → c'.k ≡ c.k + 4 → p' ≡ place_for (entries_of (drop c'.k ns)) → State n ds ns ts o₀ o' c' p'
      unfolding left
      step o' c' p' eo ea ek ep =
          let same : left ds ns ts c' ≡ rest_after ds ns ts c.k e = λ i. items_from (ea i) ts (drop (ea i) ds) (entries_of (drop (ek i) ns)) in
          record {
            done = s.done ++ turn;
            wrote = eo ∙ ap (λ (x : Out). add turn x) s.wrote ∙ add-append s.done turn o₀ fits_done;
            rest =
                append_assoc s.done turn (repeat_pieces n [] (left ds ns ts c')) ∙ ap (λ (l : List Item). s.done ++ (turn ++ repeat_pieces n [] l)) same
                ∙ ap (λ (x : List Item). s.done ++ x) (sym parted) ∙ s.rest;
            ready = record { within = omega (arith, ek, whole); valid = rw (ea, ek) ok.3; short = s.ready.short };
            next = ep;
          }

  -- the end
  module _ (past : length ds < p) where
    abbrev last : List ℕ
    last = repeated n (part c.at (length ds) ds)

    left_bytes : left ds ns ts c ≡ byte_items (part c.at (length ds) ds)
    unfolding left
    left_bytes =
        sym (front_all (length ds - c.at) (left ds ns ts c) (omega (arith, ap length (data_items_from (entries_of (drop c.k ns)) c.at ts (drop c.at ds)), length-drop c.at ds)))
        ∙ front_stop c.at (length ds) (length ts) ds ts here (omega arith) (entries_of (drop c.k ns)) (omega (arith, s.next)) s.ready.valid

    last_is : left_over ≡ byte_items last
    last_is = ap (λ (l : List Item). repeat_pieces n [] l) left_bytes ∙ repeat_last n (part c.at (length ds) ds)

    pub fits_last : Fits (byte_items last) o
    fits_last = rw last_is at fits_now

    pub finish : (o' : Out) → o' ≡ add (byte_items last) o → o' ≡ add (repeat_pieces n [] (items (recording ds ns ts))) o₀
    finish o' w =
        w ∙ ap (λ (x : Out). add (byte_items last) x) s.wrote ∙ add-append s.done (byte_items last) o₀ fits_done
        ∙ ap (λ (l : List Item). add l o₀) (ap (λ (l : List Item). s.done ++ l) (sym last_is) ∙ s.rest)

-- ── the same in the words of the leaves' contracts
module _ (n : ℕ) (ds ns ts : List ℕ) (od₀ oe₀ ot₀ od oe ot : List ℕ) (c₀ c : Cursor) (p : ℕ) (s : State n ds ns ts (out od₀ oe₀ ot₀ c₀) (out od oe ot c) c p)
    (room : Fits (repeat_pieces n [] (items (recording ds ns ts))) (out od₀ oe₀ ot₀ c₀)) where
  pub now_long : (length od ≡ length od₀) × (length oe ≡ length oe₀) × (length ot ≡ length ot₀)
  unfolding out
  now_long =
      let g = long_now n ds ns ts (out od₀ oe₀ ot₀ c₀) (out od oe ot c) c p s room in
      (g.data_bytes, g.entry_numbers, g.text)

  pub within_fill : c.at ≤ length ds
  within_fill = here n ds ns ts (out od₀ oe₀ ot₀ c₀) (out od oe ot c) c p s room

  module _ (more : p ≤ length ds) where
    pub entire : c.k + 4 ≤ length ns
    entire = whole n ds ns ts (out od₀ oe₀ ot₀ c₀) (out od oe ot c) c p s room more

    module _ (e : Entry) (q : entries_of (drop c.k ns) ≡ e ∷ entries_of (drop (c.k + 4) ns)) where
      place : p ≡ e.position
      place = entry_place n ds ns ts (out od₀ oe₀ ot₀ c₀) (out od oe ot c) c p s room more e q

      fine : (c.at ≤ e.position) × (bad_shape_of e.kind e.start e.len ≡ false) × (e.start + e.len ≤ length ts) × Valid e.position (length ds) (length ts) (entries_of (drop (c.k + 4) ns))
      fine = ok n ds ns ts (out od₀ oe₀ ot₀ c₀) (out od oe ot c) c p s room more e q

      item : EntryItem (item_at ts e)
      item = entry_is n ds ns ts (out od₀ oe₀ ot₀ c₀) (out od oe ot c) c p s room more e q

      there : repeated n (part c.at e.position ds) ≡ repeated n (part c.at p ds)
      there = ap (λ (m : ℕ). repeated n (part c.at m ds)) (sym place)

      roomy : TurnRoom od oe ot c (length (repeated n (part c.at p ds))) (length (text_for (c.d + length (repeated n (part c.at p ds))) oe ot c (item_at ts e)))
      roomy =
          rw there at
          (room_turn od oe ot (repeated n (part c.at e.position ds)) c (item_at ts e) item
          (fits_turn n ds ns ts (out od₀ oe₀ ot₀ c₀) (out od oe ot c) c p s room more e q))

      pub times_asked : (c.at ≤ p) × (p ≤ length ds) × (c.d + length (repeated n (part c.at p ds)) ≤ length od)
      times_asked = (omega (arith, fine.0, place), more, roomy.data_bytes)

      pub entry_asked : (c₁ : Cursor) → (c₁.at ≡ c.at) × (c₁.k ≡ c.k) × (c₁.d ≡ c.d + length (repeated n (part c.at p ds))) × (c₁.e ≡ c.e) × (c₁.t ≡ c.t)
          → length ns ≤ 18446744073709551615
          → (bad_shape_of e.kind e.start e.len ≡ false) × ((e.start + e.len ≤ length ts)
          × (((c₁.e + 4 ≤ length oe) × (c₁.t + length (text_for c₁.d oe ot c₁ (item_at ts e)) ≤ length ot))
          × (((c₁.d ≤ 1048576) × (c₁.t ≤ 65536) × (c₁.k + 4 ≤ 18446744073709551615)) × (placed_from 0 [] (entries_of (take c₁.e oe)) ≡ true))))
      entry_asked c₁ f big =
          let r = roomy in
          let m = same_room oe ot c c₁ (c.d + length (repeated n (part c.at p ds))) (item_at ts e) f.2 f.3 f.4 in (
            fine.1,
            (
              fine.2,
              (
                (omega (arith, f.3, r.entry_numbers), omega (arith, f.4, r.text, m)),
                (
                  (omega (arith, f.2, r.data_limit_lem), omega (arith, f.4, r.text_limit_lem), omega (arith, f.1, entire, big)),
                  ap (λ (j : ℕ). placed_from 0 [] (entries_of (take j oe))) f.3 ∙ r.placed,
                ),
              ),
            ),
          )

      pub turned : (od' oe' ot' : List ℕ) (c₁ c₂ : Cursor) (p' : ℕ)
          → od' ≡ over_at c.d (repeated n (part c.at p ds)) od
          → (c₁.at ≡ c.at) × (c₁.k ≡ c.k) × (c₁.d ≡ c.d + length (repeated n (part c.at p ds))) × (c₁.e ≡ c.e) × (c₁.t ≡ c.t)
          → (c₂.at ≡ e.position) × (c₂.k ≡ c₁.k + 4) × (c₂.d ≡ c₁.d) × (c₂.e ≡ c₁.e + 4) × (c₂.t ≡ c₁.t + length (text_for c₁.d oe ot c₁ (item_at ts e)))
          → oe' ≡ over_at c₁.e (numbers_for c₁.d oe ot c₁ (item_at ts e)) oe
          → ot' ≡ over_at c₁.t (text_for c₁.d oe ot c₁ (item_at ts e)) ot
          → p' ≡ place_for (entries_of (drop c₂.k ns))
          → State n ds ns ts (out od₀ oe₀ ot₀ c₀) (out od' oe' ot' c₂) c₂ p'
      turned od' oe' ot' c₁ c₂ p' ed q₁ q₂ ee et ep =
          step n ds ns ts (out od₀ oe₀ ot₀ c₀) (out od oe ot c) c p s room more e q (out od' oe' ot' c₂) c₂ p'
          (turn_wrote od od' oe oe' ot ot' (repeated n (part c.at e.position ds)) c c₁ c₂ (item_at ts e) item
          (ed ∙ ap (λ (l : List ℕ). over_at c.d l od) (sym there)) (q₁.2 ∙ ap (λ (l : List ℕ). c.d + length l) (sym there)) q₁.3 q₁.4 ee et q₂.2 q₂.3 q₂.4)
          q₂.0 (q₂.1 ∙ ap (λ (m : ℕ). m + 4) q₁.1) ep

  module _ (past : length ds < p) where
    pub last_asked : (c.at ≤ length ds) × (length ds ≤ length ds) × (c.d + length (repeated n (part c.at (length ds) ds)) ≤ length od)
    unfolding out
    last_asked =
        let f = fits_last n ds ns ts (out od₀ oe₀ ot₀ c₀) (out od oe ot c) c p s room past in
        (within_fill, omega arith, omega (arith, f.data_bytes, ap length (data_bytes_lem (repeated n (part c.at (length ds) ds)))))

    pub ended : (od' : List ℕ) (c₁ : Cursor) → od' ≡ over_at c.d (repeated n (part c.at (length ds) ds)) od
        → (c₁.at ≡ c.at) × (c₁.k ≡ c.k) × (c₁.d ≡ c.d + length (repeated n (part c.at (length ds) ds))) × (c₁.e ≡ c.e) × (c₁.t ≡ c.t)
        → out od' oe ot c₁ ≡ add (repeat_pieces n [] (items (recording ds ns ts))) (out od₀ oe₀ ot₀ c₀)
    ended od' c₁ ed q₁ =
        finish n ds ns ts (out od₀ oe₀ ot₀ c₀) (out od oe ot c) c p s room past (out od' oe ot c₁)
        (bytes_wrote od od' oe ot (repeated n (part c.at (length ds) ds)) c c₁ ed q₁.2 q₁.3 q₁.4)
