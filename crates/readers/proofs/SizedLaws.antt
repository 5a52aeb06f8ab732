-- The sizes of what the floor is left: entries as `scan` told them, and the text by the raw sequences that go (`floor_sized`); data not longer than the content's, so that there is room where there is room for the content's
-- (`floor_roomy`).
use Rattle.std.specs.Prelude as Std
use Prim.Native.Nat.{ℕ, ◌+◌, ◌-◌, ◌≤◌}
use native.Mathlib.Omega.{arith}
use mathlib.Core.List.{[]}
use mathlib.Core.Path.{◌≡◌, refl, sym, subst, ◌∙◌}
use lib.ListN.{length}
use Rattle.recording.specs.Recording.{Bytes, Recording, entries_of, items, data_of, text_of, encode}
use Rattle.recording.specs.Refusals.{recording_fault}
use Rattle.recording.specs.Share.{Inside, sum_of, raw_len_of}
use Rattle.recording.proofs.FaultLaws.{no_fault, inside_of}
use Rattle.recording.specs.Outcome.{Room}
use Rattle.recording.proofs.SizeLaws.{count_numbers}
use borrow.Author.Tests.{ltb-false}
use Rattle.share.specs.Sizes.{raws_in, less_size_of, Stands}
use Rattle.share.proofs.SizeLaws.{less_of_items, gone_few}
use Rattle.writer.specs.Sizes.{sizes_fault}
use Rattle.writer.proofs.Sizes.{smaller_fits}
use Rattle.recorder.proofs.LeftLaws.{Sized}
use Rattle.view.specs.View.{floor_items}
use Rattle.view.proofs.SizeLaws.{drop_text, floor_entries, floor_raws, floor_labels, floor_text_most, data_bound}
use Rattle.open_label.specs.declared.Kept.{Kept}
use Rattle.open_label.specs.Open.{ScanTold}

module _ (l : Bytes) (q : Recording) where
  -- the raw sequences that go, in bytes
  module _ (office : ℕ) (k : Kept) (o : office ≡ length (text_of (items q))) (h : ScanTold l q (Std.Ok k)) where
    raws : sum_of raw_len_of (floor_items l q) + (office - k.text) ≡ sum_of raw_len_of (items q)
    unfolding ScanTold
    raws = (λ i. sum_of raw_len_of (floor_items l q) + (o i - h.2 i)) ∙ floor_raws l q

    module _ (f : recording_fault q ≡ 0) where
      size : less_size_of q.text (entries_of q.entry_numbers) (office - k.text) ≡ length (encode (floor_items l q)).text
      size = less_of_items q.data_bytes q.entry_numbers q.text (floor_items l q) (office - k.text) f raws (floor_labels l q)

      -- what `less_size` asks
      pub less_asked : ((length q.entry_numbers ≤ 16384) × (length q.text ≤ 65536) × Inside q.text (entries_of q.entry_numbers))
          × ((office - k.text ≤ raws_in (entries_of q.entry_numbers)) × (less_size_of q.text (entries_of q.entry_numbers) (office - k.text) ≤ k.text))
      unfolding ScanTold
      less_asked =
          let n = no_fault q f in (
            (
              ltb-false 16384 (length q.entry_numbers) n.entry_numbers,
              ltb-false 65536 (length q.text) n.text,
              inside_of (entries_of q.entry_numbers) 0 q.data_bytes q.text n.entries,
            ),
            (
              gone_few q.data_bytes q.entry_numbers q.text (floor_items l q) (office - k.text) f raws,
              omega (arith, size, h.2, floor_text_most l q),
            ),
          )

      pub floor_sized : (room t : ℕ) → Stands room (less_size_of q.text (entries_of q.entry_numbers) (office - k.text)) t
          → Sized room (floor_items l q) (length (data_of (floor_items l q))) k.entries t
      unfolding ScanTold encode
      floor_sized room t s =
          record {
            data_size = refl;
            entry_size = h.1 ∙ sym (floor_entries l q) ∙ count_numbers (floor_items l q) 0 [] [];
            text_size_lem = subst (λ (n : ℕ). Stands room n t) size s;
          }

    -- no less than what stays
    pub less_than_office : k.text ≤ office
    unfolding ScanTold
    less_than_office = omega (arith, o, h.2, drop_text l [] (items q))

  pub floor_shorter : length (data_of (floor_items l q)) ≤ length q.data_bytes
  unfolding encode
  floor_shorter = data_bound l q

  -- where there is room for the content's data, there is for the floor's
  pub floor_roomy : (e t : ℕ) (o : Room) → 0 ≡ sizes_fault (length q.data_bytes) e t 0 o → 0 ≡ sizes_fault (length (data_of (floor_items l q))) e t 0 o
  floor_roomy e t o g = sym (smaller_fits (length (data_of (floor_items l q))) (length q.data_bytes) e t 0 0 o (sym g) floor_shorter (omega arith))
