-- For the labels that are counted: the entries that brought a new text serve for all entries before (`alike_next`), entry by entry (`Gathered`), and the sum of both recordings.
use mathlib.Core.Path.{◌≡◌, refl, sym, ap, ◌∙◌}
use mathlib.Core.Bool.{Bool, true, false, cond, ◌&&◌, ◌||◌}
use mathlib.Core.Logic.{inl, inr, ⊎_elim}
use mathlib.Core.List.{List, [], ◌∷◌, ◌++◌, append_assoc, append-nil}
use Prim.Native.Nat.{ℕ, ◌+◌, ◌-◌, ◌*◌, ◌%◌, ◌≤◌, ◌<◌}
use native.Mathlib.Numerals.{add-one, add-two, add-three}
use native.Mathlib.Omega.{arith}
use lib.Dec.{eqb}
use lib.ListN.{length, take, drop, set, length-drop, take-append-drop}
use lib.Seq.{length-take-le, take-append_seam}
use borrow.Author.Tests.{eq-eqb, ne_eqb, eqb-true}
use Rattle.buffer.specs.Place.{over_at}
use Rattle.buffer.proofs.Laws.{stores}
use Rattle.recording.specs.declared.Entry.{Entry}
use Rattle.recording.specs.Lists.{same}
use Rattle.recording.specs.Recording.{Bytes, entries_of, numbers_of_ranges, part_of, is_push_of, pushed_in, new_text}
use Rattle.recording.proofs.CheckLaws.{entries_quarter}
use Rattle.recording.proofs.Lists.{same_equal}
use Rattle.recording.proofs.Lists.{and_left, and_right}
use Rattle.recording.proofs.ShareLaws.{or_comm, pushed-snoc}
use Rattle.recording.specs.Share.{Inside}
use Rattle.share.specs.Sizes.{raws_in, label_in, labels_in, new_in, Alike, first_added_of, Serve, size_less, Counts}
use Rattle.share.proofs.SizeLaws.{new_most, inside_next, entries_of-append}

-- four stores from k on
pub four_stores : (l : List ℕ) (k a b c d : ℕ) → k + 4 ≤ length l
    → set (set (set (set l k a) (k + 1) b) (k + 2) c) (k + 3) d ≡ over_at k (a ∷ b ∷ c ∷ d ∷ []) l
four_stores l k a b c d h = rw (add-one, add-two, add-three) (stores (a ∷ b ∷ c ∷ d ∷ []) l k h)

-- ── the entries that brought a text serve for all
module _ (u : Bytes) (those : List Entry) (t : Bytes) where
  label_new : (xs : List Entry) (e : Entry) → e.kind ≡ 0 → label_in u those t xs e ≡ new_in u those t xs (part_of t e)
  unfolding label_in new_in
  label_new xs e k = rw (eq-eqb e.kind 0 k)

  label_alike : (xs ys : List Entry) (e : Entry) → Alike u those t xs ys → label_in u those t xs e ≡ label_in u those t ys e
  unfolding label_in new_in Alike
  label_alike xs ys e h = ap (λ (n : ℕ). cond (eqb e.kind 0) n 0) (h (part_of t e))

  -- a push of l more: l is not new any longer; another entry changes nothing for l
  pushed : (xs : List Entry) (e : Entry) (l : Bytes) → is_push_of l t e ≡ true → new_in u those t (xs ++ (e ∷ [])) l ≡ 0
  unfolding new_in
  pushed xs e l p = go (pushed_in l u those)
    where
      q : pushed_in l t (xs ++ (e ∷ [])) ≡ true
      q = pushed-snoc l t xs e ∙ ap (λ (z : Bool). pushed_in l t xs || z) p ∙ or_comm (pushed_in l t xs) true

      go : (b : Bool) → cond b 0 (length (new_text l t (xs ++ (e ∷ [])))) ≡ 0
      go true = refl
      go false = ap (λ (z : Bool). length (cond z [] l)) q

  passed : (xs : List Entry) (e : Entry) (l : Bytes) → is_push_of l t e ≡ false → new_in u those t (xs ++ (e ∷ [])) l ≡ new_in u those t xs l
  unfolding new_in
  passed xs e l p =
      ap (λ (z : Bool). cond (pushed_in l u those) 0 (length (cond z [] l))) (pushed-snoc l t xs e ∙ ap (λ (z : Bool). pushed_in l t xs || z) p ∙ or_comm (pushed_in l t xs) false)

  -- an entry that is left out brings nothing: its text is empty, or `those` or the entries kept have it
  pub alike_next : (xs ys : List Entry) (e : Entry) → Alike u those t xs ys → Alike u those t (first_added_of u those t xs e) (ys ++ (e ∷ []))
  unfolding Alike first_added_of
  alike_next xs ys e h l = go (eqb (label_in u those t xs e) 0) refl (is_push_of l t e) refl
    where
      go : (a : Bool) → eqb (label_in u those t xs e) 0 ≡ a → (p : Bool) → is_push_of l t e ≡ p → new_in u those t (cond a xs (xs ++ (e ∷ []))) l ≡ new_in u those t (ys ++ (e ∷ [])) l
      go true q true p =
          let k : eqb e.kind 0 ≡ true = and_left (eqb e.kind 0) (eqb e.len (length l) && same (part_of t e) l) p in
          let s = and_right (eqb e.len (length l)) (same (part_of t e) l) (and_right (eqb e.kind 0) (eqb e.len (length l) && same (part_of t e) l) p) in
          ap (new_in u those t xs) (sym (same_equal (part_of t e) l s)) ∙ sym (label_new xs e (eqb-true e.kind 0 k)) ∙ eqb-true (label_in u those t xs e) 0 q ∙ sym (pushed ys e l p)
      go true q false p = h l ∙ sym (passed ys e l p)
      go false q true p = pushed xs e l p ∙ sym (pushed ys e l p)
      go false q false p = passed xs e l p ∙ h l ∙ sym (passed ys e l p)

-- ── a recording whose own firsts are searched instead
module _ (u : Bytes) (xs those : List Entry) (h : Alike [] [] u xs those) (t : Bytes) where
  label_those : (before : List Entry) (e : Entry) → label_in u xs t before e ≡ label_in u those t before e
  unfolding label_in Alike new_in pushed_in
  label_those before e =
      ap (λ (n : ℕ). cond (eqb e.kind 0) n 0)
      (go (pushed_in (part_of t e) u xs) (pushed_in (part_of t e) u those) (length (new_text (part_of t e) t before)) (new_most (pushed_in (part_of t e) t before) (part_of t e)) (h (part_of t e)))
    where
      go : (a b : Bool) (n : ℕ) → n ≤ length (part_of t e) → length (cond a [] (part_of t e)) ≡ length (cond b [] (part_of t e)) → cond a 0 n ≡ cond b 0 n
      go true true n s q = refl
      go true false n s q = omega (arith, s, q)
      go false true n s q = omega (arith, s, q)
      go false false n s q = refl

  pub labels_those : (before es : List Entry) → labels_in u xs t before es ≡ labels_in u those t before es
  labels_those before [] = refl
  labels_those before (e ∷ es) = λ i. label_those before e i + labels_those (before ++ (e ∷ [])) es i

-- ── one entry
module _ (u : Bytes) (those : List Entry) (t fs : List ℕ) (m : ℕ) (e : Entry) where
  pub not_kept : label_in u those t (entries_of (take m fs)) e ≡ 0 → entries_of (take m fs) ≡ first_added_of u those t (entries_of (take m fs)) e
  unfolding first_added_of
  not_kept z = rw (eq-eqb (label_in u those t (entries_of (take m fs)) e) 0 z)

  pub kept : (fs' : List ℕ) → (label_in u those t (entries_of (take m fs)) e ≡ 0 → ⊥) → m % 4 ≡ 0 → m + 4 ≤ length fs → fs' ≡ over_at m (numbers_of_ranges (e ∷ [])) fs
      → entries_of (take (m + 4) fs') ≡ first_added_of u those t (entries_of (take m fs)) e
  unfolding first_added_of over_at
  kept fs' z f h q =
      let ns : List ℕ = numbers_of_ranges (e ∷ []) in
      let w : length (take m fs) ≡ m = length-take-le m fs (omega (arith, h)) in
      let l : length (take m fs ++ ns) ≡ m + 4 = simp lib.ListN.length-append (omega (arith, w)) in
      let s : take (m + 4) fs' ≡ take m fs ++ ns =
      ap (take (m + 4)) (q ∙ sym (append_assoc (take m fs) ns (drop 4 (drop m fs)))) ∙ ap (λ (n : ℕ). take n ((take m fs ++ ns) ++ drop 4 (drop m fs))) (sym l) ∙ take-append_seam (take m fs ++ ns) (drop 4 (drop m fs)) in
      ap entries_of s ∙ entries_of-append (take m fs) ns (omega (arith, w, f)) ∙ sym (ap (λ (b : Bool). cond b (entries_of (take m fs)) (entries_of (take m fs) ++ (e ∷ []))) (ne_eqb (label_in u those t (entries_of (take m fs)) e) 0 z))

-- ── entry by entry: `size` has what is counted of the entries `done`, and fs up to m those of them that brought it; `rest` are left
pub record Gathered (u : Bytes) (those : List Entry) (t : Bytes) (all : List Entry) (from : ℕ) (done rest : List Entry) (fs : List ℕ) (m size : ℕ) : Type 0 where
  pub whole : done ++ rest ≡ all
  pub sizes : size + labels_in u those t done rest ≡ from + labels_in u those t [] all
  pub low : size ≤ 65536
  pub inside : Inside t rest
  pub few : m + 4 * length rest ≤ 4 * length all
  pub quads : m % 4 ≡ 0
  pub alike : Alike u those t (entries_of (take m fs)) done

pub gathered_none : (u : Bytes) (those : List Entry) (t : Bytes) (all : List Entry) (from : ℕ) (fs : List ℕ) → from ≤ 65536 → Inside t all → Gathered u those t all from [] all fs 0 from
unfolding Alike
gathered_none u those t all from fs b h =
    record { whole = refl; sizes = refl; low = b; inside = h; few = omega arith; quads = refl; alike = λ l. refl }

-- what the call leaves
abbrev pub Counted : Bytes → List Entry → Bytes → List Entry → ℕ → List ℕ → ℕ → ℕ → Type 0
Counted u those t all from fs m size = Counts (from + labels_in u those t [] all) size × Serve size u those t (entries_of (take m fs)) all

module _ (u : Bytes) (those : List Entry) (t : Bytes) (all : List Entry) (from : ℕ) (done rest : List Entry) (fs : List ℕ) (m size : ℕ) (s : Gathered u those t all from done rest fs m size) where
  module _ (e : Entry) (es : List Entry) (q : rest ≡ e ∷ es) where
    pub entry-inside : (e.start + e.len ≤ length t) × Inside t es
    entry-inside = inside_next t e es (rw q at s.inside)

    -- there is room for the next entry
    pub entry-fits : (ns : List ℕ) → all ≡ entries_of ns → m + 4 ≤ length ns
    entry-fits ns a = omega (arith, s.few, ap length q, ap length a, entries_quarter ns)

    module _ (fs' : List ℕ) (m' size' : ℕ) (es' : size' ≡ size + label_in u those t (entries_of (take m fs)) e) (em : (m' % 4 ≡ 0) × (m' ≤ m + 4) × (size' ≤ size + 65536)) (ef : entries_of (take m' fs') ≡ first_added_of u those t (entries_of (take m fs)) e) where
      total : size' + labels_in u those t (done ++ (e ∷ [])) es ≡ from + labels_in u those t [] all
      total =
          omega (
            arith,
            s.sizes,
            es',
            label_alike u those t (entries_of (take m fs)) done e s.alike,
            ap (labels_in u those t done) q,
          )

      pub gathered_over : 65536 < size' → Counted u those t all from fs' m' size'
      unfolding Counts Serve
      gathered_over h = (inr (omega (arith, total, h), h), λ g. absurd (omega (arith, g, h)))

      pub gathered_next : size' ≤ 65536 → Gathered u those t all from (done ++ (e ∷ [])) es fs' m' size'
      gathered_next h =
          record {
            whole = append_assoc done (e ∷ []) es ∙ ap (λ (l : List Entry). done ++ l) (sym q) ∙ s.whole;
            sizes = total;
            low = h;
            inside = entry-inside.1;
            few = omega (arith, s.few, em.1, ap length q);
            quads = em.0;
            alike = rw ef (alike_next u those t (entries_of (take m fs)) done e s.alike);
          }

  pub gathered_all : rest ≡ [] → Counted u those t all from fs m size
  unfolding Counts Serve
  gathered_all z =
      let a : done ≡ all = sym (append-nil done) ∙ ap (λ (l : List Entry). done ++ l) (sym z) ∙ s.whole in
      (inl (omega (arith, s.sizes, ap (labels_in u those t done) z)), λ g. rw a at s.alike)

-- ── the sum
module _ (t : Bytes) (es : List Entry) (u : Bytes) (fs : List Entry) (n gone a b : ℕ) (ra : a ≡ raws_in es - gone) (rb : b ≡ raws_in fs) where
  pub size_raws : 65536 < a + n * b → Counts (size_less gone t es u fs n) (a + n * b)
  unfolding Counts size_less
  size_raws h = inr (omega (arith, h, ra, ap (λ (k : ℕ). n * k) rb), h)

  module _ (r : ℕ) (c : Counts ((a + n * b) + labels_in [] [] t [] es) r) where
    pub size_alone : n ≡ 0 → Counts (size_less gone t es u fs n) r
    unfolding size_less
    size_alone z =
        let e : (a + n * b) + labels_in [] [] t [] es ≡ ((raws_in es - gone) + n * raws_in fs) + (labels_in [] [] t [] es + cond (eqb n 0) 0 (labels_in t es u [] fs)) =
        rw (eq-eqb n 0 z) (omega (arith, ra, ap (λ (k : ℕ). n * k) rb)) in
        rw e at c

    pub size_over : 65536 < r → Counts (size_less gone t es u fs n) r
    unfolding Counts size_less
    size_over h = inr (⊎_elim (λ q. omega (arith, h, q, ra, ap (λ (k : ℕ). n * k) rb)) (λ q. omega (arith, q.0, ra, ap (λ (k : ℕ). n * k) rb)) c, h)

    pub size_both : (n ≡ 0 → ⊥) → r ≤ 65536 → (gs : List ℕ) (k : ℕ) → Serve r [] [] t (entries_of (take k gs)) es → (m : ℕ) → Counts (r + labels_in t (entries_of (take k gs)) u [] fs) m
        → Counts (size_less gone t es u fs n) m
    unfolding Counts size_less Serve
    size_both z h gs k s m d =
        let x : labels_in t (entries_of (take k gs)) u [] fs ≡ labels_in t es u [] fs = labels_those t (entries_of (take k gs)) es (s h) u [] fs in
        let e : r ≡ (a + n * b) + labels_in [] [] t [] es = ⊎_elim (λ q. q) (λ q. absurd (omega (arith, q.1, h))) c in
        let g : r + labels_in t (entries_of (take k gs)) u [] fs ≡ ((raws_in es - gone) + n * raws_in fs) + (labels_in [] [] t [] es + cond (eqb n 0) 0 (labels_in t es u [] fs)) =
        rw (ne_eqb n 0 z) (omega (arith, e, ra, ap (λ (j : ℕ). n * j) rb, x)) in
        rw g at d
