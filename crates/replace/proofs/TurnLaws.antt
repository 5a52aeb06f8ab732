-- One record's turn: its three steps (keep up to the start, put the new bytes, pass the stretch that goes) write `turn_items`, each with the room that the whole turn has.
use mathlib.Core.Path.{◌≡◌, refl, ap, ◌∙◌}
use mathlib.Core.List.{List, ◌++◌}
use Prim.Native.Nat.{ℕ, ◌+◌, ◌-◌, ◌≤◌}
use native.Mathlib.Omega.{arith}
use lib.ListN.{length, drop}
use Rattle.buffer.specs.Place.{over_at, part}
use Rattle.buffer.proofs.Laws.{length_part}
use Rattle.recording.specs.Recording.{Item, byte_items, items_from, entries_of}
use Rattle.recording.specs.Edit.{front, back, entries_only}
use Rattle.recording.proofs.ItemsLaws.{data_bytes_lem}
use Rattle.writer.specs.declared.Cursor.{Cursor}
use Rattle.writer.specs.Write.{Out, out, add, Fits, Ready, left}
use Rattle.writer.proofs.Carry.{bytes_wrote}
use Rattle.writer.proofs.Steps.{fits_first, fits_then, then}
use Rattle.layout.specs.declared.Replacement.{Replacement}
use Rattle.replace.specs.Turn.{turn_items, turn_left, Turn, Turned}
use Rattle.replace.proofs.RecordLaws.{Good, good}

module _ (ds ns ts new : List ℕ) (x : Replacement) (c : Cursor) (o : Out) (turn : Turn ds ns ts new x c o) where
  pub is_good : Good c.at (length ds) (length new) x
  is_good = good c.at (length ds) (length new) x turn.good

  abbrev whole : List Item
  whole = turn_items new c.at x (left ds ns ts c)

  abbrev before : List Item
  before = front (x.start - c.at) (left ds ns ts c)

  abbrev put_in : List Item
  put_in = byte_items (part x.from x.to new)

  abbrev gone : List Item
  gone = entries_only (front (x.end - x.start) (back (x.start - c.at) (left ds ns ts c)))

  in_three : whole ≡ before ++ (put_in ++ gone)
  unfolding turn_items
  in_three = refl

  pub room_keep : Fits before o
  room_keep = fits_first before (put_in ++ gone) whole o in_three turn.fits

  module _ (o₁ : Out) (w₁ : o₁ ≡ add before o) where
    two : Fits (put_in ++ gone) o₁
    two = fits_then before (put_in ++ gone) whole o o₁ in_three turn.fits w₁

    pub room_put : Fits put_in o₁
    room_put = fits_first put_in gone (put_in ++ gone) o₁ refl two

    -- a is the cursor after keep; the bytes that come in leave b at the same place
    module _ (o₂ : Out) (w₂ : o₂ ≡ add put_in o₁) (a b : Cursor) (ba : b.at ≡ a.at) (bk : b.k ≡ a.k) (here : a.at ≡ x.start)
        (behind : left ds ns ts a ≡ back (x.start - c.at) (left ds ns ts c)) where
      left_b : left ds ns ts b ≡ back (x.start - c.at) (left ds ns ts c)
      unfolding left
      left_b = (λ i. items_from (ba i) ts (drop (ba i) ds) (entries_of (drop (bk i) ns))) ∙ behind

      gone_b : entries_only (front (x.end - b.at) (left ds ns ts b)) ≡ gone
      gone_b = λ i. entries_only (front (x.end - (ba ∙ here) i) (left_b i))

      pub room_skip : Fits (entries_only (front (x.end - b.at) (left ds ns ts b))) o₂
      room_skip = rw gone_b (fits_then put_in gone (put_in ++ gone) o₁ o₂ refl two w₂)

      pub ready_skip : Ready ds ns ts a → Ready ds ns ts b
      ready_skip r = record { within = rw bk r.within; valid = rw (ba, bk) r.valid; short = r.short }

      pub turned : (o₃ : Out) (r : Cursor) → o₃ ≡ add (entries_only (front (x.end - b.at) (left ds ns ts b))) o₂ → left ds ns ts r ≡ back (x.end - b.at) (left ds ns ts b)
          → Ready ds ns ts r → r.at ≡ x.end → Turned ds ns ts new x c r o o₃
      unfolding turn_left
      turned o₃ r w₃ l g e =
          record {
            wrote = then before (put_in ++ gone) whole o o₁ o₃ in_three turn.fits w₁
                (then put_in gone (put_in ++ gone) o₁ o₂ o₃ refl two w₂ (w₃ ∙ ap (λ (is : List Item). add is o₂) gone_b));
            behind = l ∙ (λ i. back (x.end - (ba ∙ here) i) (left_b i));
            ready = g;
            here = e;
          }

-- room for bytes in the data buffer, and what `put_bytes` has written
pub bytes_room : (od oe ot p : List ℕ) (a : Cursor) (m : ℕ) → length p ≡ m → Fits (byte_items p) (out od oe ot a) → a.d + m ≤ length od
unfolding out
bytes_room od oe ot p a m e f = omega (arith, f.data_bytes, ap length (data_bytes_lem p), e)

pub part_wrote : (od od' oe ot new : List ℕ) (a b : Cursor) (from to : ℕ) → to ≤ length new → od' ≡ over_at a.d (part from to new) od
    → (b.at ≡ a.at) × (b.k ≡ a.k) × (b.d ≡ a.d + (to - from)) × (b.e ≡ a.e) × (b.t ≡ a.t) → out od' oe ot b ≡ add (byte_items (part from to new)) (out od oe ot a)
part_wrote od od' oe ot new a b from to h e q = bytes_wrote od od' oe ot (part from to new) a b e (omega (arith, q.2, length_part from to new h)) q.3 q.4
