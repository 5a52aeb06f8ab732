-- A call on a content alone: what its check found, and the sizes of what it leaves. It is one edit that puts bytes in and nothing else, so the entry numbers and the text are the content's.
use Rattle.std.specs.Prelude as Std
use mathlib.Core.Path.{◌≡◌, refl, sym, ap, subst, ◌∙◌}
use mathlib.Core.List.{List, [], ◌∷◌}
use Prim.Native.Nat.{ℕ}
use native.Mathlib.Omega.{arith}
use lib.ListN.{length}
use Rattle.buffer.specs.Place.{over}
use Rattle.recording.specs.declared.Refusal.{Refusal}
use Rattle.recording.specs.Recording.{Bytes, Recording, recording, entries_of, Item, byte, items, text_of, encode}
use Rattle.recording.specs.Share.{sum_of, raw_len_of, push_of}
use Rattle.recording.specs.Edit.{edit, edit_data}
use Rattle.recording.specs.Refusals.{number_of_refusal, recording_fault}
use Rattle.recording.specs.Check.{fault_of, Counted, Within}
use Rattle.recording.proofs.CheckLaws.{refused-number, fine_zero, fine_count, fine_within}
use Rattle.recording.proofs.EditLaws.{edit_data_lem}
use Rattle.recording.proofs.ItemsLaws.{data_items}
use Rattle.recording.proofs.OutcomeLaws.{number_pos, first_hit}
use Rattle.recording.proofs.SizeLaws.{count_numbers, edit-count}
use Rattle.share.specs.Sizes.{own_size_of, Stands}
use Rattle.share.proofs.SizeLaws.{own_of_items}
use Rattle.writer.specs.declared.Cursor.{Cursor}
use Rattle.writer.specs.Write.{out, add, blank, Fits}
use Rattle.writer.specs.Sizes.{sizes_fault}
use Rattle.writer.proofs.Sizes.{numbers_items, quads_of}
use Rattle.layout.specs.Wrap.{line_numbers}
use Rattle.layout.specs.Layout.{Single, alone, single_ops, single_lines, single_fault, result_items, lines_left, number, second_fault, own_fault}
use Rattle.recording.specs.Outcome.{Lent, room_in}
use Rattle.layout.specs.Lent.{lent_lined, Leaves}
use Rattle.layout.proofs.StripLaws.{bare_single, no_puts, sum_kept}
use Rattle.outcomes.proofs.OutcomeLaws as outcomes
use Rattle.outcomes.proofs.OutcomeLaws.{Accepted, Sized}
use Rattle.outcomes.proofs.SecondLaws.{Fine, checked_fine}

module _ (s : Single) (ds ns ts : List ℕ) (b : Lent) where
  abbrev pub content : Recording
  content = recording ds ns ts

  -- the items that the call leaves
  abbrev pub result : List Item
  result = edit (single_ops s ds) (items content)

  pub content-refused : (k : Std.Result ℕ Refusal) → fault_of k ≡ recording_fault content → (f : Refusal) → k ≡ Std.Err f → Leaves (alone s) content b b (Std.Err f)
  content-refused k e f q =
      let n : number_of_refusal f ≡ recording_fault content = sym (refused-number k f q) ∙ e in
      outcomes.input_refused (alone s) content b f (n ∙ sym (first_hit (recording_fault content) (second_fault (alone s) ∷ []) (omega (arith, n, number_pos f))))

  pub content_fine : (k : Std.Result ℕ Refusal) → fault_of k ≡ recording_fault content → Counted k (length (text_of (items content))) → Within k 268435456 → (n : ℕ) → k ≡ Std.Ok n → Fine ds ns ts n
  content_fine k e c w n q = checked_fine ds ns ts n (sym e ∙ fine_zero k n q) (fine_count k n (length (text_of (items content))) q c) (fine_within k n 268435456 q w)

  -- the check found nothing
  module _ (passed : recording_fault content ≡ 0) where
    pub own_refused : (f : Refusal) → single_fault s ds ≡ number_of_refusal f → Leaves (alone s) content b b (Std.Err f)
    unfolding second_fault own_fault
    own_refused f e = outcomes.own_refused (alone s) content b passed refl f e

    -- a data of d bytes, a text for which t stands, and l numbers in the line list
    module _ (own : single_fault s ds ≡ 0) (d t l : ℕ) (ed : d ≡ length (edit_data (single_ops s ds) ds)) (et : Stands (length b.text) (own_size_of ts (entries_of ns)) t)
        (el : l ≡ length (line_numbers ds (single_lines s ds))) (v : Std.Result Unit Refusal) (g : fault_of v ≡ sizes_fault d (length ns) t l (room_in b)) where
      accepted : Accepted (alone s) content
      unfolding second_fault own_fault
      accepted = record { content = passed; second = refl; own = own }

      -- raw sequences and labels are the content's
      kept : (m : Item → ℕ) → ((x : ℕ) → m (byte x) ≡ 0) → sum_of m result ≡ sum_of m (items content)
      kept m none = sum_kept m none (single_ops s ds) (items content) (bare_single s ds)

      stands : Stands (length b.text) (length (encode result).text) t
      stands =
          subst (λ (k : ℕ). Stands (length b.text) k t) (own_of_items ds ns ts result passed (kept raw_len_of (λ x. refl)) (λ l. kept (push_of l) (λ x. refl))) et

      sized : Sized (alone s) content (length b.text) result d (length ns) t l
      unfolding result_items lines_left
      sized =
          record {
            leaves = refl;
            data_size = ed ∙ sym (ap length (edit_data_lem (single_ops s ds) (items content)) ∙ ap (λ (x : Bytes). length (edit_data (single_ops s ds) x)) (data_items content));
            entry_size =
                omega (
                  arith,
                  count_numbers (items content) 0 [] [],
                  numbers_items ds ns ts (quads_of ds ns ts passed),
                  edit-count (single_ops s ds) (items content),
                  no_puts
                      (single_ops s ds) (bare_single s ds),
                );
            text_size_lem = stands;
            line_size_lem = el;
          }

      pub sizes_refused : (f : Refusal) → v ≡ Std.Err f → Leaves (alone s) content b b (Std.Err f)
      sizes_refused f q = outcomes.sizes_refused (alone s) content b accepted result d (length ns) t l sized v g f q

      pub has_room : v ≡ (Std.Ok tt) → Fits result (blank b.data_bytes b.entry_numbers b.text)
      has_room q = outcomes.has_room (alone s) content b accepted result d (length ns) t l sized v g q

      pub written : v ≡ (Std.Ok tt) → (w : ℕ) (od oe ot ol : List ℕ) (k : Cursor) → number (alone s) content ≡ w → out od oe ot k ≡ add result (blank b.data_bytes b.entry_numbers b.text)
          → ol ≡ over (line_numbers ds (single_lines s ds)) b.lines → Leaves (alone s) content b (lent_lined od oe ot ol) (Std.Ok (record { «data» = k.d; entries = k.e; text = k.t; number = w }))
      unfolding lines_left
      written q w od oe ot ol k en wrote listed = outcomes.written (alone s) content b accepted result d (length ns) t l sized v g q w od oe ot ol k en wrote listed
