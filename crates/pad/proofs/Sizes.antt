-- How much padding writes: n times the fill's bytes, its entries once a side; and that this is what the three calls leave (`padded_measured`).
use mathlib.Core.Path.{◌≡◌, refl, sym, ap, ◌∙◌}
use mathlib.Core.List.{List, [], ◌∷◌, ◌++◌, append-nil}
use Prim.Native.Nat.{ℕ, zero, suc, ◌+◌, ◌-◌, ◌*◌, ◌≤◌}
use native.Mathlib.Nat.{zero-mul, one-mul, suc-mul, mul-add, add-mul}
use native.Mathlib.Omega.{arith}
use lib.ListN.{length, length-append}
use Rattle.recording.specs.declared.TextSizes.{TextSizes}
use Rattle.recording.specs.Recording.{Recording, entries_of, Item, byte, push, pop, raw, byte_items, items, data_of}
use Rattle.recording.specs.Share.{sum_of, raw_len_of, push_of}
use Rattle.recording.proofs.ItemsLaws.{data_bytes_lem}
use Rattle.recording.proofs.SizeLaws.{entry_count, count-append}
use Rattle.recording.proofs.ShareLaws.{sum-append}
use Rattle.share.specs.Sizes.{text_size_of, Stands}
use Rattle.writer.specs.Write.{Out, add, Fits}
use Rattle.writer.proofs.Laws.{data_size}
use Rattle.writer.proofs.Steps.{fits_first, fits_then, then}
use Rattle.writer.proofs.Carry.{count_none}
use Rattle.layout.specs.Layout.{copies, repeat_pieces, padding, fill_count_of, Kind, with_second, result_items, kind_fault}
use Rattle.outcomes.proofs.SecondLaws.{Given, content, second, BothFine, Shares, Measured}
use Rattle.pad.specs.declared.Side.{Side}
use Rattle.pad.specs.declared.Side.TheVariants.{Start, End, Centered}
use Rattle.pad.specs.Padding.{repeated, once_if_of, sides, left_of, kind_of}
use Rattle.pad.proofs.Laws.{copies-bytes}

-- ── pieces repeated
data_copies : (n : ℕ) (q : List ℕ) → length (data_of (copies n q)) ≡ n * length q
data_copies zero q = sym (zero-mul (length q))
data_copies (suc n) q =
    omega (arith, data_size (byte_items q) (copies n q), ap length (data_bytes_lem q), data_copies n q, suc-mul n (length q))

-- a piece ends at an entry: what comes after it is repeated by itself
data_entry : (n m k : ℕ) (q : List ℕ) (r : List Item) → k ≡ n * m → length (data_of r) ≡ k → length (data_of (copies n q ++ r)) ≡ n * (length q + m)
data_entry n m k q r e h = omega (arith, data_size (copies n q) r, data_copies n q, mul-add n (length q) m)

data_repeated : (n : ℕ) (q : List ℕ) (is : List Item) → length (data_of (repeat_pieces n q is)) ≡ n * (length q + length (data_of is))
data_repeated n q [] = data_copies n q ∙ ap (λ (m : ℕ). n * m) (omega arith)
data_repeated n q (byte b ∷ is) =
    let e : length (q ++ (b ∷ [])) + length (data_of is) ≡ length q + suc (length (data_of is)) = omega (arith, length-append q (b ∷ [])) in
    data_repeated n (q ++ (b ∷ [])) is ∙ ap (λ (m : ℕ). n * m) e
data_repeated n q (push l ∷ is) = data_entry n (length (data_of is)) (n * length (data_of is)) q (push l ∷ repeat_pieces n [] is) refl (data_repeated n [] is ∙ ap (λ (m : ℕ). n * m) (omega arith))
data_repeated n q (pop ∷ is) = data_entry n (length (data_of is)) (n * length (data_of is)) q (pop ∷ repeat_pieces n [] is) refl (data_repeated n [] is ∙ ap (λ (m : ℕ). n * m) (omega arith))
data_repeated n q (raw t ∷ is) = data_entry n (length (data_of is)) (n * length (data_of is)) q (raw t ∷ repeat_pieces n [] is) refl (data_repeated n [] is ∙ ap (λ (m : ℕ). n * m) (omega arith))

-- ── one padding
padding_data : (n : ℕ) (f : List Item) → length (data_of (padding n f)) ≡ n * length (data_of f)
padding_data zero f = sym (zero-mul (length (data_of f)))
padding_data (suc n) f = data_repeated (suc n) [] f ∙ ap (λ (m : ℕ). suc n * m) (omega arith)

-- ── entries come once a side; `size` counts them, their raw sequences or the pushes of a label, and no bytes
module _ (size : List Item → ℕ) (size-append : (a b : List Item) → size (a ++ b) ≡ size a + size b) (size-bytes : (q : List ℕ) → size (byte_items q) ≡ 0) where
  size_copies : (n : ℕ) (q : List ℕ) → size (copies n q) ≡ 0
  size_copies n q = ap size (copies-bytes n q) ∙ size-bytes (repeated n q)

  size_entry : (n : ℕ) (q : List ℕ) (x : Item) (r is : List Item) → size r ≡ size is → size (copies n q ++ (x ∷ r)) ≡ size (x ∷ is)
  size_entry n q x r is h = omega (arith, size-append (copies n q) (x ∷ r), size_copies n q, size-append (x ∷ []) r, size-append (x ∷ []) is, h)

  size_repeated : (n : ℕ) (q : List ℕ) (is : List Item) → size (repeat_pieces n q is) ≡ size is
  size_repeated n q [] = size_copies n q ∙ sym (size-bytes [])
  size_repeated n q (byte b ∷ is) = omega (arith, size_repeated n (q ++ (b ∷ [])) is, size-append (byte b ∷ []) is, size-bytes (b ∷ []))
  size_repeated n q (push l ∷ is) = size_entry n q (push l) (repeat_pieces n [] is) is (size_repeated n [] is)
  size_repeated n q (pop ∷ is) = size_entry n q pop (repeat_pieces n [] is) is (size_repeated n [] is)
  size_repeated n q (raw t ∷ is) = size_entry n q (raw t) (repeat_pieces n [] is) is (size_repeated n [] is)

  padding_size : (n : ℕ) (f : List Item) → size (padding n f) ≡ once_if_of n * size f
  unfolding once_if_of
  padding_size zero f = size-bytes [] ∙ sym (zero-mul (size f))
  padding_size (suc n) f = size_repeated (suc n) [] f ∙ sym (one-mul (size f))

  sides_size : (l r : ℕ) (f is : List Item) → size (sides l r f is) ≡ size is + (once_if_of l + once_if_of r) * size f
  unfolding sides
  sides_size l r f is =
      omega (arith, size-append (padding l f) (is ++ padding r f), size-append is (padding r f), padding_size l f, padding_size r f, add-mul (once_if_of l) (once_if_of r) (size f))

numbers_append : (a b : List Item) → 4 * entry_count (a ++ b) ≡ 4 * entry_count a + 4 * entry_count b
numbers_append a b = omega (arith, count-append a b)

sum-bytes : (m : Item → ℕ) → ((b : ℕ) → m (byte b) ≡ 0) → (q : List ℕ) → sum_of m (byte_items q) ≡ 0
sum-bytes m none [] = refl
sum-bytes m none (b ∷ q) = omega (arith, none b, sum-bytes m none q)

-- ── three steps write both sides
module _ (l r : ℕ) (f is : List Item) (o : Out) (fits : Fits (sides l r f is) o) where
  split : sides l r f is ≡ padding l f ++ (is ++ padding r f)
  unfolding sides
  split = refl

  pub room_before : Fits (padding l f) o
  room_before = fits_first (padding l f) (is ++ padding r f) (sides l r f is) o split fits

  module _ (o₁ : Out) (w₁ : o₁ ≡ add (padding l f) o) where
    fits₂ : Fits (is ++ padding r f) o₁
    fits₂ = fits_then (padding l f) (is ++ padding r f) (sides l r f is) o o₁ split fits w₁

    pub room_content : Fits is o₁
    room_content = fits_first is (padding r f) (is ++ padding r f) o₁ refl fits₂

    module _ (o₂ : Out) (w₂ : o₂ ≡ add is o₁) where
      pub room_behind : Fits (padding r f) o₂
      room_behind = fits_then is (padding r f) (is ++ padding r f) o₁ o₂ refl fits₂ w₂

      pub all_three : (o₃ : Out) → o₃ ≡ add (padding r f) o₂ → o₃ ≡ add (sides l r f is) o
      all_three o₃ w₃ =
          then (padding l f) (is ++ padding r f) (sides l r f is) o o₁ o₃ split fits w₁ (then is (padding r f) (is ++ padding r f) o₁ o₂ o₃ refl fits₂ w₂ w₃)

-- ── what the call of a side leaves
-- padding has no refusals of its own
no_own : (s : Side) (q d : List ℕ) → kind_fault (kind_of s) q d ≡ 0
unfolding kind_of
no_own Start q d = refl
no_own End q d = refl
no_own Centered q d = refl

sided : (s : Side) (m : ℕ) (f c : Recording)
    → let n = fill_count_of m c.data_bytes in result_items (with_second (kind_of s) m f) c ≡ sides (left_of s n) (n - left_of s n) (items f) (items c)
unfolding kind_of result_items sides left_of
sided Start m f c =
    let n : ℕ = fill_count_of m c.data_bytes in
    let e : n - n ≡ 0 = omega arith in
    ap (λ (l : List Item). padding n (items f) ++ l) (sym (append-nil (items c)) ∙ ap (λ (k : ℕ). items c ++ padding k (items f)) (sym e))
sided End m f c =
    let n : ℕ = fill_count_of m c.data_bytes in
    let e : n - 0 ≡ n = omega arith in
    ap (λ (k : ℕ). items c ++ padding k (items f)) (sym e)
sided Centered m f c = refl

-- ── both sides, k times in all, l of them before the content: the items that the call leaves have the sizes that are settled
module _ (x : Given) (n : TextSizes) (fine : BothFine x n) (k l : ℕ) (le : l ≤ k) where
  abbrev is : List Item
  is = items (content x)

  abbrev fill : List Item
  fill = items (second x)

  abbrev before : List Item
  before = padding l fill

  abbrev behind : List Item
  behind = padding (k - l) fill

  abbrev all : List Item
  all = sides l (k - l) fill is

  sides_data : length x.ds + k * length x.fs ≡ length (data_of all)
  unfolding sides
  sides_data =
      let e : l + (k - l) ≡ k = omega arith in
      let s : k * length x.fs ≡ l * length (data_of fill) + (k - l) * length (data_of fill) = (λ i. sym e i * fine.1.data_size i) ∙ add-mul l (k - l) (length (data_of fill)) in
      omega (arith, s, fine.0.data_size, data_size before (is ++ behind), data_size is behind, padding_data l fill, padding_data (k - l) fill)

  -- what the entries take, where the fill's come m times
  module _ (m : ℕ) (em : m ≡ once_if_of l + once_if_of (k - l)) where
    sides_entries : length x.ns + m * length x.gs ≡ 4 * entry_count all
    sides_entries =
        (λ i. fine.0.entry_size i + em i * fine.1.entry_size i)
        ∙ sym (sides_size (λ (y : List Item). 4 * entry_count y) numbers_append (λ q. ap (λ (j : ℕ). 4 * j) (count_none q)) l (k - l) fill is)

    sides_shares : Shares all is fill m
    sides_shares =
        let sums : (s : Item → ℕ) → ((b : ℕ) → s (byte b) ≡ 0) → sum_of s all ≡ sum_of s is + m * sum_of s fill =
        λ s none. sides_size (sum_of s) (sum-append s) (sum-bytes s none) l (k - l) fill is ∙ ap (λ (j : ℕ). sum_of s is + j * sum_of s fill) (sym em) in
        record { raws = sums raw_len_of (λ b. refl); labels = λ y. sums (push_of y) (λ b. refl) }

    pub padded_measured : (s : Side) → x.kind ≡ kind_of s → k ≡ fill_count_of x.width x.ds → l ≡ left_of s k
        → (t : ℕ) → Stands (length x.ot) (text_size_of x.ts (entries_of x.ns) x.us (entries_of x.gs) m) t
        → Measured x m all (length x.ds + k * length x.fs) (length x.ns + m * length x.gs) t
    padded_measured s ek en el t h =
        record {
          own = ap (λ (j : Kind). kind_fault j x.fs x.ds) ek ∙ no_own s x.fs x.ds;
          leaves =
              ap (λ (j : Kind). result_items (with_second j x.width (second x)) (content x)) ek ∙ sided s x.width (second x) (content x)
              ∙ ap (λ (j : ℕ). sides (left_of s j) (j - left_of s j) fill is) (sym en) ∙ ap (λ (j : ℕ). sides j (k - j) fill is) (sym el);
          data_size = sides_data;
          entry_size = sides_entries;
          shares = sides_shares;
          text_size_lem = h;
        }
