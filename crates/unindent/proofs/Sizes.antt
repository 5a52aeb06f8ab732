-- How much is left once the indent is taken off: nothing is put in, so the entry numbers, the raw sequences and the labels are the content's; and that this is what the call leaves (`unindented_measured`).
use mathlib.Core.Path.{◌≡◌, refl, sym, ap, subst, ◌∙◌}
use mathlib.Core.Bool.{true}
use mathlib.Core.List.{List}
use Prim.Native.Nat.{ℕ}
use native.Mathlib.Omega.{arith}
use native.Mathlib.Nat.{zero-mul}
use lib.ListN.{length}
use Rattle.recording.specs.declared.Refusal.TheVariants.{PrefixNewline}
use Rattle.recording.specs.declared.TextSizes.{TextSizes}
use Rattle.recording.specs.Recording.{Bytes, entries_of, Item, items}
use Rattle.recording.specs.Share.{sum_of, raw_len_of, push_of, times}
use Rattle.recording.specs.Edit.{Op, edit, edit_data}
use Rattle.recording.specs.Refusals.{number_of_refusal}
use Rattle.recording.proofs.EditLaws.{edit_data_lem}
use Rattle.recording.proofs.ItemsLaws.{data_items}
use Rattle.recording.proofs.SizeLaws.{edit-count}
use Rattle.share.specs.Sizes.{own_size_of, Stands}
use Rattle.share.proofs.SizeLaws.{size_none}
use Rattle.layout.specs.Wrap.{split_lines}
use Rattle.layout.specs.Unindent.{unindent_ops, has_newline_in, prefix_fault}
use Rattle.layout.specs.Layout.{Kind, unindented_lines, with_second, result_items, kind_fault}
use Rattle.layout.proofs.PutLaws.{puts_unindent}
use Rattle.layout.proofs.StripLaws.{Bare, BarePuts, no_puts, sum_kept}
use Rattle.outcomes.proofs.SecondLaws.{Given, content, second, job, BothFine, Shares, Measured}

-- a 0A in the prefix comes first
pub newline_refused : (p d : Bytes) → has_newline_in p ≡ true → prefix_fault p d ≡ number_of_refusal PrefixNewline
unfolding prefix_fault
newline_refused p d h = rw h

-- ── what the call leaves has the sizes that are settled
module _ (x : Given) (n : TextSizes) (fine : BothFine x n) (size : ℕ) where
  abbrev ops : List Op
  ops = unindent_ops (length x.fs) (split_lines x.ds)

  abbrev pub result : List Item
  result = edit ops (items (content x))

  leaves : x.kind ≡ unindented_lines → result_items (job x) (content x) ≡ result
  unfolding result_items
  leaves q = ap (λ (j : Kind). result_items (with_second j x.width (second x)) (content x)) q

  bare : BarePuts ops
  bare = puts_unindent Bare (length x.fs) (split_lines x.ds)

  -- the prefix's entries are not written
  shares : Shares result (items (content x)) (items (second x)) 0
  shares =
      record {
        raws = omega (arith, sum_kept raw_len_of (λ b. refl) ops (items (content x)) bare, zero-mul (sum_of raw_len_of (items (second x))));
        labels = λ l. omega (arith, sum_kept (push_of l) (λ b. refl) ops (items (content x)) bare, zero-mul (times l (items (second x))));
      }

  pub unindented_measured : x.kind ≡ unindented_lines → prefix_fault x.fs x.ds ≡ 0 → size ≡ length (edit_data ops x.ds)
      → (t : ℕ) → Stands (length x.ot) (own_size_of x.ts (entries_of x.ns)) t → Measured x 0 result size (length x.ns) t
  unindented_measured q z e t h =
      record {
        own = ap (λ (j : Kind). kind_fault j x.fs x.ds) q ∙ z;
        leaves = leaves q;
        data_size = e ∙ sym (ap length (edit_data_lem ops (items (content x))) ∙ ap (λ (d : Bytes). length (edit_data ops d)) (data_items (content x)));
        entry_size = omega (arith, fine.0.entry_size, edit-count ops (items (content x)), no_puts ops bare);
        shares = shares;
        text_size_lem = subst (λ (k : ℕ). Stands (length x.ot) k t) (size_none x.ts x.us (entries_of x.ns) (entries_of x.gs)) h;
      }
