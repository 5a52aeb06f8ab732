-- How much indenting writes: the content, and the prefix once for each line that is not empty; and that this is what the call leaves (`indented_measured`).
use mathlib.Core.Path.{◌≡◌, sym, ap, ◌∙◌}
use mathlib.Core.Bool.{true}
use mathlib.Core.List.{List, ◌++◌}
use Prim.Native.Nat.{ℕ, ◌+◌, ◌*◌}
use native.Mathlib.Omega.{arith}
use lib.ListN.{length}
use Rattle.recording.specs.declared.TextSizes.{TextSizes}
use Rattle.recording.specs.Recording.{entries_of, Item, items, data_of}
use Rattle.recording.specs.Share.{sum_of, raw_len_of, push_of, times}
use Rattle.recording.proofs.ShareLaws.{sum-append}
use Rattle.share.specs.Sizes.{text_size_of, Stands}
use Rattle.recording.specs.Edit.{edit}
use Rattle.recording.proofs.SizeLaws.{entry_count, count-append}
use Rattle.writer.proofs.Laws.{data_size}
use Rattle.layout.specs.Layout.{indent_ops, Kind, indented_lines, with_second, result_items, kind_fault}
use Rattle.outcomes.proofs.SecondLaws.{Given, content, second, job, BothFine, Shares, Measured}
use Rattle.indent.specs.Lines.{filled_lines_of}
use Rattle.indent.proofs.Laws.{sized}

numbers_len : (a b : List Item) → 4 * entry_count (a ++ b) ≡ 4 * entry_count a + 4 * entry_count b
numbers_len a b = omega (arith, count-append a b)

-- ── what the call leaves has the sizes that are settled; k: how many lines are not empty
module _ (x : Given) (n : TextSizes) (fine : BothFine x n) (k : ℕ) (e : k ≡ filled_lines_of true x.ds) where
  abbrev is : List Item
  is = items (content x)

  abbrev prefix : List Item
  prefix = items (second x)

  all_data : length x.ds + k * length x.fs ≡ length (data_of (edit (indent_ops prefix true x.ds) is))
  all_data = (λ i. fine.0.data_size i + e i * fine.1.data_size i) ∙ sym (sized (λ (y : List Item). length (data_of y)) data_size prefix true x.ds is)

  all_entries : length x.ns + k * length x.gs ≡ 4 * entry_count (edit (indent_ops prefix true x.ds) is)
  all_entries = (λ i. fine.0.entry_size i + e i * fine.1.entry_size i) ∙ sym (sized (λ (y : List Item). 4 * entry_count y) numbers_len prefix true x.ds is)

  -- raw sequences and labels: the content's, and the prefix's k times
  shares : Shares (edit (indent_ops prefix true x.ds) is) is prefix k
  shares =
      record {
        raws = sized (sum_of raw_len_of) (sum-append raw_len_of) prefix true x.ds is ∙ ap (λ (j : ℕ). sum_of raw_len_of is + j * sum_of raw_len_of prefix) (sym e);
        labels = λ l. sized (times l) (sum-append (push_of l)) prefix true x.ds is ∙ ap (λ (j : ℕ). times l is + j * times l prefix) (sym e);
      }

  leaves : x.kind ≡ indented_lines → result_items (job x) (content x) ≡ edit (indent_ops prefix true x.ds) is
  unfolding result_items
  leaves q = ap (λ (j : Kind). result_items (with_second j x.width (second x)) (content x)) q

  pub indented_measured : x.kind ≡ indented_lines → (t : ℕ) → Stands (length x.ot) (text_size_of x.ts (entries_of x.ns) x.us (entries_of x.gs) k) t
      → Measured x k (edit (indent_ops prefix true x.ds) is) (length x.ds + k * length x.fs) (length x.ns + k * length x.gs) t
  indented_measured q t h =
      record { own = ap (λ (j : Kind). kind_fault j x.fs x.ds) q; leaves = leaves q; data_size = all_data; entry_size = all_entries; shares = shares; text_size_lem = h }
