-- The plan that is measured is the call's: what is written by it is `result_items` and its width `number`; and its sizes. The idea: a plan is chosen by one test, as the call's result is.
use mathlib.Core.Path.{◌≡◌, refl, sym, ap, ◌∙◌}
use mathlib.Core.Bool.{Bool, true, false, cond, false≢true}
use mathlib.Core.List.{List, ◌++◌}
use mathlib.Core.Logic.{inl}
use Rattle.std.specs.Int.{from_bool}
use Prim.Native.Nat.{ℕ, ◌+◌, ◌-◌, ◌*◌, ◌≤◌}
use native.Mathlib.Omega.{arith}
use lib.Dec.{ltb}
use lib.ListN.{length, length-append}
use Rattle.chars.specs.Chars.{text_width_of}
use Rattle.recording.specs.Recording.{Recording, recording, entries_of, Item, byte, items, data_of}
use Rattle.recording.specs.Share.{sum_of, raw_len_of, push_of}
use Rattle.recording.specs.Edit.{edit}
use Rattle.recording.proofs.EditLaws.{data_append}
use Rattle.recording.proofs.SizeLaws.{entry_count, count-append, edit-count}
use Rattle.recording.proofs.ShareLaws.{sum-append, edit-sum}
use Rattle.share.specs.Sizes.{text_size_of, Counts, Stands}
use Rattle.recording.specs.declared.TextSizes.{TextSizes}
use Rattle.outcomes.proofs.SecondLaws.{Fine, Given, content, second, BothFine, Shares, Measured}
use Rattle.layout.specs.Layout.{Kind, truncated_start, truncated_end, with_second, cut_end_of, cut_start_of, truncate_end, truncate_start, result_items, number, kind_fault}
use Rattle.truncate_plan.specs.declared.Plan.{Plan}
use Rattle.truncate_plan.specs.Plan.{plan_end, plan_start}
use Rattle.truncate.specs.Planned.{end_items, start_items}
use Rattle.truncate.proofs.CutLaws.{up_to_data, from_data}

-- ── the items of a plan, by its test
module _ (p : Plan) (r e : Recording) where
  pub end_whole : p.cut ≡ false → end_items p r e ≡ items r
  unfolding end_items
  end_whole z = rw z

  pub end_cut : p.cut ≡ true → end_items p r e ≡ edit (cut_end_of p.content r.data_bytes) (items r) ++ edit (cut_end_of p.ellipsis e.data_bytes) (items e)
  unfolding end_items
  end_cut z = rw z

  pub start_whole : p.cut ≡ false → start_items p r e ≡ edit (cut_start_of p.content) (items r)
  unfolding start_items
  start_whole z = rw z

  pub start_cut : p.cut ≡ true → start_items p r e ≡ edit (cut_start_of p.ellipsis) (items e) ++ edit (cut_start_of p.content) (items r)
  unfolding start_items
  start_cut z = rw z

-- ── the plan is the call's
end_chosen : (t : Bool) (x y : Plan) (r e : Recording) → end_items (cond t x y) r e ≡ cond t (end_items x r e) (end_items y r e)
end_chosen true x y r e = refl
end_chosen false x y r e = refl

start_chosen : (t : Bool) (x y : Plan) (r e : Recording) → start_items (cond t x y) r e ≡ cond t (start_items x r e) (start_items y r e)
start_chosen true x y r e = refl
start_chosen false x y r e = refl

width_chosen : (t : Bool) (x y : Plan) → cond t x.width y.width ≡ (cond t x y).width
width_chosen true x y = refl
width_chosen false x y = refl

-- a plan that does not cut is the second choice
uncut : (t : Bool) (x y : Plan) → x.cut ≡ true → (cond t x y).cut ≡ false → cond t x y ≡ y
uncut true x y h z = absurd (false≢true (sym z ∙ h))
uncut false x y h z = refl

module _ (max : ℕ) (r e : Recording) (p : Plan) where
  pub end_items_lem : p ≡ plan_end max r.data_bytes e.data_bytes → result_items (truncate_end max e) r ≡ end_items p r e
  unfolding end_items plan_end result_items
  end_items_lem q = sym (ap (λ (x : Plan). end_items x r e) q ∙ end_chosen (ltb max (text_width_of r.data_bytes)) _ _ r e)

  pub end_number : p ≡ plan_end max r.data_bytes e.data_bytes → number (truncate_end max e) r ≡ p.width
  unfolding plan_end number
  end_number q = width_chosen (ltb max (text_width_of r.data_bytes)) _ _ ∙ sym (ap (λ (x : Plan). x.width) q)

  pub start_items_lem : p ≡ plan_start max r.data_bytes e.data_bytes → result_items (truncate_start max e) r ≡ start_items p r e
  unfolding start_items plan_start result_items
  start_items_lem q = sym (ap (λ (x : Plan). start_items x r e) q ∙ start_chosen (ltb max (text_width_of r.data_bytes)) _ _ r e)

  pub start_number : p ≡ plan_start max r.data_bytes e.data_bytes → number (truncate_start max e) r ≡ p.width
  unfolding plan_start number
  start_number q = width_chosen (ltb max (text_width_of r.data_bytes)) _ _ ∙ sym (ap (λ (x : Plan). x.width) q)

module _ (max : ℕ) (ds es : List ℕ) (p : Plan) where
  pub end_uncut : p ≡ plan_end max ds es → p.cut ≡ false → (p.content ≡ length ds) × (p.ellipsis ≡ 0)
  unfolding plan_end
  end_uncut q z =
      let u = q ∙ uncut (ltb max (text_width_of ds)) _ _ refl (sym (ap (λ (x : Plan). x.cut) q) ∙ z) in
      (ap (λ (x : Plan). x.content) u, ap (λ (x : Plan). x.ellipsis) u)

  start_uncut : p ≡ plan_start max ds es → p.cut ≡ false → p.ellipsis ≡ length es
  unfolding plan_start
  start_uncut q z =
      let u = q ∙ uncut (ltb max (text_width_of ds)) _ _ refl (sym (ap (λ (x : Plan). x.cut) q) ∙ z) in
      ap (λ (x : Plan). x.ellipsis) u

-- ── sizes
-- of one list of items or another, by a test: b more by the first
size_if : (s : List Item → ℕ) (t : Bool) (x z : List Item) (a b : ℕ) → s x ≡ a + b → s z ≡ a → s (cond t x z) ≡ a + from_bool t * b
size_if s true x z a b e f = omega (arith, e)
size_if s false x z a b e f = omega (arith, f)

-- a size settles a call as itself
itself : (room t : ℕ) → Stands room t t
unfolding Stands Counts
itself room t = inl (inl refl)

-- a cut drops no entry: the result has the content's, and the ellipsis's once if it is written
module _ (m : Item → ℕ) (none : (b : ℕ) → m (byte b) ≡ 0) (p : Plan) (r e : Recording) where
  end_sum : sum_of m (end_items p r e) ≡ sum_of m (items r) + from_bool p.cut * sum_of m (items e)
  unfolding end_items
  end_sum =
      let x : List Item = edit (cut_end_of p.content r.data_bytes) (items r) in
      let y : List Item = edit (cut_end_of p.ellipsis e.data_bytes) (items e) in
      let s : sum_of m (x ++ y) ≡ sum_of m (items r) + sum_of m (items e) =
      omega (arith, sum-append m x y, edit-sum m none (cut_end_of p.content r.data_bytes) (items r), edit-sum m none (cut_end_of p.ellipsis e.data_bytes) (items e)) in
      size_if (sum_of m) p.cut (x ++ y) (items r) (sum_of m (items r)) (sum_of m (items e)) s refl

  start_sum : sum_of m (start_items p r e) ≡ sum_of m (items r) + from_bool p.cut * sum_of m (items e)
  unfolding start_items
  start_sum =
      let u : List Item = edit (cut_start_of p.ellipsis) (items e) in
      let w : List Item = edit (cut_start_of p.content) (items r) in
      let c = edit-sum m none (cut_start_of p.content) (items r) in
      let s : sum_of m (u ++ w) ≡ sum_of m (items r) + sum_of m (items e) = omega (arith, sum-append m u w, c, edit-sum m none (cut_start_of p.ellipsis) (items e)) in
      size_if (sum_of m) p.cut (u ++ w) w (sum_of m (items r)) (sum_of m (items e)) s (omega (arith, c))

end_shares : (p : Plan) (r e : Recording) → Shares (end_items p r e) (items r) (items e) (from_bool p.cut)
end_shares p r e = record { raws = end_sum raw_len_of (λ b. refl) p r e; labels = λ l. end_sum (push_of l) (λ b. refl) p r e }

start_shares : (p : Plan) (r e : Recording) → Shares (start_items p r e) (items r) (items e) (from_bool p.cut)
start_shares p r e = record { raws = start_sum raw_len_of (λ b. refl) p r e; labels = λ l. start_sum (push_of l) (λ b. refl) p r e }

data_size_append : (x y : List Item) → length (data_of (x ++ y)) ≡ length (data_of x) + length (data_of y)
data_size_append x y = ap length (data_append x y) ∙ length-append (data_of x) (data_of y)

module _ (ds ns ts ds₂ ns₂ ts₂ : List ℕ) (n₁ n₂ : ℕ) (f : Fine ds ns ts n₁) (g : Fine ds₂ ns₂ ts₂ n₂) (max : ℕ) (p : Plan) where
  abbrev r : Recording
  r = recording ds ns ts

  abbrev e : Recording
  e = recording ds₂ ns₂ ts₂

  -- the end call
  abbrev x : List Item
  x = edit (cut_end_of p.content ds) (items r)

  abbrev y : List Item
  y = edit (cut_end_of p.ellipsis ds₂) (items e)

  end_count : length ns + from_bool p.cut * length ns₂ ≡ 4 * entry_count (end_items p (recording ds ns ts) (recording ds₂ ns₂ ts₂))
  unfolding end_items
  end_count =
      sym (size_if (λ (l : List Item). 4 * entry_count l) p.cut (x ++ y) (items r) (length ns) (length ns₂)
      (omega (arith, count-append x y, edit-count (cut_end_of p.content ds) (items r), edit-count (cut_end_of p.ellipsis ds₂) (items e), f.entry_size, g.entry_size)) (sym f.entry_size))

  end_data : p ≡ plan_end max ds ds₂ → p.content ≤ length ds → p.ellipsis ≤ length ds₂ → p.content + p.ellipsis ≡ length (data_of (end_items p (recording ds ns ts) (recording ds₂ ns₂ ts₂)))
  end_data q a b = go p.cut refl
    where
      go : (t : Bool) → p.cut ≡ t → p.content + p.ellipsis ≡ length (data_of (end_items p (recording ds ns ts) (recording ds₂ ns₂ ts₂)))
      go true z = omega (arith, ap (λ (l : List Item). length (data_of l)) (end_cut p r e z), data_size_append x y, up_to_data p.content ds ns ts a, up_to_data p.ellipsis ds₂ ns₂ ts₂ b)
      go false z = let u = end_uncut max ds ds₂ p q z in omega (arith, ap (λ (l : List Item). length (data_of l)) (end_whole p r e z), f.data_size, u.0, u.1)

  -- the start call
  abbrev u : List Item
  u = edit (cut_start_of p.ellipsis) (items e)

  abbrev w : List Item
  w = edit (cut_start_of p.content) (items r)

  start_count : length ns + from_bool p.cut * length ns₂ ≡ 4 * entry_count (start_items p (recording ds ns ts) (recording ds₂ ns₂ ts₂))
  unfolding start_items
  start_count =
      let c = edit-count (cut_start_of p.content) (items r) in
      sym (size_if (λ (l : List Item). 4 * entry_count l) p.cut (u ++ w) w (length ns) (length ns₂) (omega (arith, count-append u w, c, edit-count (cut_start_of p.ellipsis) (items e), f.entry_size, g.entry_size))
      (omega (arith, c, f.entry_size)))

  start_data : p ≡ plan_start max ds ds₂ → (length ds - p.content) + (length ds₂ - p.ellipsis) ≡ length (data_of (start_items p (recording ds ns ts) (recording ds₂ ns₂ ts₂)))
  start_data q = go p.cut refl
    where
      go : (t : Bool) → p.cut ≡ t → (length ds - p.content) + (length ds₂ - p.ellipsis) ≡ length (data_of (start_items p (recording ds ns ts) (recording ds₂ ns₂ ts₂)))
      go true z = omega (arith, ap (λ (l : List Item). length (data_of l)) (start_cut p r e z), data_size_append u w, from_data p.content ds ns ts, from_data p.ellipsis ds₂ ns₂ ts₂)
      go false z = omega (arith, ap (λ (l : List Item). length (data_of l)) (start_whole p r e z), from_data p.content ds ns ts, start_uncut max ds ds₂ p q z)

-- ── what a call leaves has the sizes that are settled; k is how often the ellipsis's entries are written
module _ (x : Given) (n : TextSizes) (fine : BothFine x n) (p : Plan) (k : ℕ) (ek : k ≡ from_bool p.cut) where
  -- the numbers of its entries, and the size of its text
  abbrev numbers : ℕ
  numbers = length x.ns + k * length x.gs

  abbrev texts : ℕ
  texts = text_size_of x.ts (entries_of x.ns) x.us (entries_of x.gs) k

  pub end_measured : x.kind ≡ truncated_end → p ≡ plan_end x.width x.ds x.fs → p.content ≤ length x.ds → p.ellipsis ≤ length x.fs
      → Measured x k (end_items p (content x) (second x)) (p.content + p.ellipsis) numbers texts
  end_measured h q a b =
      record {
        own = ap (λ (j : Kind). kind_fault j x.fs x.ds) h;
        leaves = ap (λ (j : Kind). result_items (with_second j x.width (second x)) (content x)) h ∙ end_items_lem x.width (content x) (second x) p q;
        data_size = end_data x.ds x.ns x.ts x.fs x.gs x.us n.content n.second fine.0 fine.1 x.width p q a b;
        entry_size = rw ek (end_count x.ds x.ns x.ts x.fs x.gs x.us n.content n.second fine.0 fine.1 x.width p);
        shares = rw ek (end_shares p (content x) (second x));
        text_size_lem = itself (length x.ot) texts;
      }

  pub start_measured : x.kind ≡ truncated_start → p ≡ plan_start x.width x.ds x.fs
      → Measured x k (start_items p (content x) (second x)) ((length x.ds - p.content) + (length x.fs - p.ellipsis)) numbers texts
  start_measured h q =
      record {
        own = ap (λ (j : Kind). kind_fault j x.fs x.ds) h;
        leaves = ap (λ (j : Kind). result_items (with_second j x.width (second x)) (content x)) h ∙ start_items_lem x.width (content x) (second x) p q;
        data_size = start_data x.ds x.ns x.ts x.fs x.gs x.us n.content n.second fine.0 fine.1 x.width p q;
        entry_size = rw ek (start_count x.ds x.ns x.ts x.fs x.gs x.us n.content n.second fine.0 fine.1 x.width p);
        shares = rw ek (start_shares p (content x) (second x));
        text_size_lem = itself (length x.ot) texts;
      }
