-- The two calls as their code goes through them, over plain values: what the check of both recordings found (k), the plan (p), how often the ellipsis's entries are written (m), and the verdict on the sizes (v).
-- Each place where a call returns has a law, and each is one of `SecondLaws` at what the plan keeps (`end_measured`, `start_measured`).
use Rattle.std.specs.Prelude as Std
use Rattle.std.specs.Int.{from_bool}
use mathlib.Core.Path.{◌≡◌, refl}
use mathlib.Core.List.{List}
use Prim.Native.Nat.{ℕ, ◌+◌, ◌-◌, ◌*◌, ◌≤◌}
use lib.ListN.{length}
use Rattle.recording.specs.declared.Refusal.{Refusal}
use Rattle.recording.specs.declared.TextSizes.{TextSizes}
use Rattle.recording.specs.Recording.{Recording, entries_of, Item}
use Rattle.recording.specs.Check.{fault_of, BothChecked}
use Rattle.recording.specs.Outcome.{room_in}
use Rattle.share.specs.Sizes.{text_size_of}
use Rattle.writer.specs.declared.Cursor.{Cursor}
use Rattle.writer.specs.Write.{out, add, blank, Fits, SoundIn}
use Rattle.writer.specs.Sizes.{sizes_fault}
use Rattle.layout.specs.Layout.{truncated_end, truncated_start, truncate_end, truncate_start}
use Rattle.layout.specs.Lent.{lent_of, Leaves}
use Rattle.outcomes.proofs.SecondLaws.{Given, BothFine, Measured, both_refused, both_fine, sizes_refused, has_room, written, Fine, sizes_less, checked_fine}
use Rattle.truncate_plan.specs.declared.Plan.{Plan}
use Rattle.truncate_plan.specs.Plan.{plan_end, plan_start}
use Rattle.truncate.specs.Planned.{end_items, start_items}
use Rattle.truncate.proofs.PlanLaws.{end_number, start_number, end_measured, start_measured}

-- ── what is known of both recordings, once nothing is found
module _ (n : TextSizes) (r e : Recording) (h : BothChecked (Std.Ok n) r e) where
  pub content_fine : Fine r.data_bytes r.entry_numbers r.text n.content
  content_fine = checked_fine r.data_bytes r.entry_numbers r.text n.content h.0 h.1.1.0 h.1.1.1.1.0

  pub second_fine : Fine e.data_bytes e.entry_numbers e.text n.second
  second_fine = checked_fine e.data_bytes e.entry_numbers e.text n.second h.1.0 h.1.1.1.0 h.1.1.1.1.1

  pub texts_within : (m : ℕ) → text_size_of r.text (entries_of r.entry_numbers) e.text (entries_of e.entry_numbers) m ≤ n.content + m * n.second
  texts_within m = sizes_less r.data_bytes r.entry_numbers r.text e.data_bytes e.entry_numbers e.text n.content n.second m content_fine second_fine

module _ (max : ℕ) (r e : Recording) (od oe ot : List ℕ) (k : Std.Result TextSizes Refusal) (h : BothChecked k r e) where
  -- ── the end call
  abbrev end_given : Given
  end_given =
      record {
        kind = truncated_end;
        width = max;
        ds = r.data_bytes;
        ns = r.entry_numbers;
        ts = r.text;
        fs = e.data_bytes;
        gs = e.entry_numbers;
        us = e.text;
        od = od;
        oe = oe;
        ot = ot;
      }

  pub end_refused : (f : Refusal) → k ≡ Std.Err f → Leaves (truncate_end max e) r (lent_of od oe ot) (lent_of od oe ot) (Std.Err f)
  end_refused = both_refused end_given k h

  module _ (n : TextSizes) (q : k ≡ Std.Ok n) (p : Plan) (ep : p ≡ plan_end max r.data_bytes e.data_bytes) (a : p.content ≤ length r.data_bytes) (b : p.ellipsis ≤ length e.data_bytes)
      (m : ℕ) (em : m ≡ from_bool p.cut) (v : Std.Result Unit Refusal)
      (g : fault_of v ≡ sizes_fault (p.content + p.ellipsis) (length r.entry_numbers + m * length e.entry_numbers)
      (text_size_of r.text (entries_of r.entry_numbers) e.text (entries_of e.entry_numbers) m) 0 (room_in (lent_of od oe ot))) where
    end_fine : BothFine end_given n
    end_fine = both_fine end_given k h n q

    abbrev end_is : List Item
    end_is = end_items p r e

    end_sized : Measured end_given m end_is (p.content + p.ellipsis) (length r.entry_numbers + m * length e.entry_numbers)
        (text_size_of r.text (entries_of r.entry_numbers) e.text (entries_of e.entry_numbers) m)
    end_sized = end_measured end_given n end_fine p m em refl ep a b

    pub end_over : (f : Refusal) → v ≡ Std.Err f → Leaves (truncate_end max e) r (lent_of od oe ot) (lent_of od oe ot) (Std.Err f)
    end_over = sizes_refused end_given n end_fine m end_is _ _ _ end_sized v g

    -- what writing asks
    pub end_room : v ≡ Std.Ok tt → SoundIn r × SoundIn e × Fits (end_items p r e) (blank od oe ot)
    end_room w = (end_fine.0.whole, end_fine.1.whole, has_room end_given n end_fine m end_is _ _ _ end_sized v g w)

    pub end_written : v ≡ Std.Ok tt → (od' oe' ot' : List ℕ) (c : Cursor) → out od' oe' ot' c ≡ add (end_items p r e) (blank od oe ot)
        → Leaves (truncate_end max e) r (lent_of od oe ot) (lent_of od' oe' ot') (Std.Ok (record { «data» = c.d; entries = c.e; text = c.t; number = p.width }))
    end_written w od' oe' ot' c o = written end_given n end_fine m end_is _ _ _ end_sized v g w p.width od' oe' ot' c (end_number max r e p ep) o

  -- ── the start call
  abbrev start_given : Given
  start_given =
      record {
        kind = truncated_start;
        width = max;
        ds = r.data_bytes;
        ns = r.entry_numbers;
        ts = r.text;
        fs = e.data_bytes;
        gs = e.entry_numbers;
        us = e.text;
        od = od;
        oe = oe;
        ot = ot;
      }

  pub start_refused : (f : Refusal) → k ≡ Std.Err f → Leaves (truncate_start max e) r (lent_of od oe ot) (lent_of od oe ot) (Std.Err f)
  start_refused = both_refused start_given k h

  module _ (n : TextSizes) (q : k ≡ Std.Ok n) (p : Plan) (ep : p ≡ plan_start max r.data_bytes e.data_bytes)
      (m : ℕ) (em : m ≡ from_bool p.cut) (v : Std.Result Unit Refusal)
      (g : fault_of v ≡ sizes_fault ((length r.data_bytes - p.content) + (length e.data_bytes - p.ellipsis)) (length r.entry_numbers + m * length e.entry_numbers)
      (text_size_of r.text (entries_of r.entry_numbers) e.text (entries_of e.entry_numbers) m) 0 (room_in (lent_of od oe ot))) where
    start_fine : BothFine start_given n
    start_fine = both_fine start_given k h n q

    abbrev start_is : List Item
    start_is = start_items p r e

    start_sized : Measured start_given m start_is ((length r.data_bytes - p.content) + (length e.data_bytes - p.ellipsis)) (length r.entry_numbers + m * length e.entry_numbers)
        (text_size_of r.text (entries_of r.entry_numbers) e.text (entries_of e.entry_numbers) m)
    start_sized = start_measured start_given n start_fine p m em refl ep

    pub start_over : (f : Refusal) → v ≡ Std.Err f → Leaves (truncate_start max e) r (lent_of od oe ot) (lent_of od oe ot) (Std.Err f)
    start_over = sizes_refused start_given n start_fine m start_is _ _ _ start_sized v g

    -- what writing asks
    pub start_room : v ≡ Std.Ok tt → SoundIn r × SoundIn e × Fits (start_items p r e) (blank od oe ot)
    start_room w = (start_fine.0.whole, start_fine.1.whole, has_room start_given n start_fine m start_is _ _ _ start_sized v g w)

    pub start_written : v ≡ Std.Ok tt → (od' oe' ot' : List ℕ) (c : Cursor) → out od' oe' ot' c ≡ add (start_items p r e) (blank od oe ot)
        → Leaves (truncate_start max e) r (lent_of od oe ot) (lent_of od' oe' ot') (Std.Ok (record { «data» = c.d; entries = c.e; text = c.t; number = p.width }))
    start_written w od' oe' ot' c o = written start_given n start_fine m start_is _ _ _ start_sized v g w p.width od' oe' ot' c (start_number max r e p ep) o
