-- Whether the label is open takes two numbers and no stack (`open_since`): how many labels are open, and the depth that the outermost push of this label made.
-- The idea: the label is open as long as its outermost push is, and that one is closed by the pop that finds the depth at `since` (`pop_since`).
-- From this what is open behind an entry (`push_told`, `pop_told`, `raw_told`), and what dropping raw sequences leaves of it (`kept_told`, `dropped_told`).
use Prim.Native.Nat.{ℕ, zero, suc, ◌+◌, ◌-◌, ◌≤◌}
use native.Mathlib.Omega.{arith}
use mathlib.Core.Bool.{Bool, true, false, cond, ◌&&◌, ◌||◌, not, or-true, false≢true}
use mathlib.Core.Path.{◌≡◌, refl, sym, ap, ◌∙◌}
use mathlib.Core.List.{List, [], ◌∷◌, ◌++◌, tail}
use lib.Dec.{eqb}
use lib.ListN.{length, take, drop}
use borrow.Author.Tests.{eqb-true, eq-eqb, ne_eqb}
use Rattle.std.specs.Cmp.Lexicographic.{pointwise}
use Rattle.recording.specs.Lists.{same}
use Rattle.recording.specs.declared.Entry.{Entry}
use Rattle.recording.specs.Recording.{Bytes, push, pop, raw, item_of, part_of}
use Rattle.recording.specs.Coloured.{open_after}
use Rattle.recording.specs.Refusals.{bad_shape_of}
use Rattle.writer.specs.Write.{item_at}
use Rattle.view.specs.View.{among, drop_raws}
use Rattle.open_label.specs.declared.Open.{Open}
use Rattle.open_label.specs.Open.{since_push, since_pop, since_of, Tells, Opened, Drops}

-- ── the labels and the two numbers
module _ (l : Bytes) where
  since_le : (s : List Bytes) → since_of l s ≤ length s
  since_le [] = omega arith
  since_le (k ∷ s) = go (eqb (since_of l s) 0) (same l k) (since_le s)
    where
      go : (t u : Bool) → since_of l s ≤ length s → cond t (cond u (suc (length s)) 0) (since_of l s) ≤ suc (length s)
      go true true h = omega arith
      go true false h = omega arith
      go false u h = omega arith

  open_since : (s : List Bytes) → among l s ≡ not (eqb (since_of l s) 0)
  open_since [] = refl
  open_since (k ∷ s) = go (eqb (since_of l s) 0) refl (same l k) (open_since s)
    where
      go : (t : Bool) → eqb (since_of l s) 0 ≡ t → (u : Bool) → among l s ≡ not (eqb (since_of l s) 0)
          → (u || among l s) ≡ not (eqb (cond t (cond u (suc (length s)) 0) (since_of l s)) 0)
      go true e true h = rw (ne_eqb (suc (length s)) 0 (λ z. omega (arith, z)))
      go true e false h = h ∙ ap not e
      go false e u h = rw (h, e) (or-true u)

  pop_since : (s : List Bytes) → since_of l (tail s) ≡ since_pop (length s) (since_of l s)
  pop_since [] = refl
  pop_since (k ∷ s) = go (eqb (since_of l s) 0) refl (same l k)
    where
      go : (t : Bool) → eqb (since_of l s) 0 ≡ t → (u : Bool) → since_of l s ≡ since_pop (suc (length s)) (cond t (cond u (suc (length s)) 0) (since_of l s))
      go true e true = eqb-true (since_of l s) 0 e ∙ rw (eq-eqb (suc (length s)) (suc (length s)) refl)
      go true e false = eqb-true (since_of l s) 0 e ∙ rw (ne_eqb (suc (length s)) 0 (λ z. omega (arith, z)))
      go false e u = rw (ne_eqb (suc (length s)) (since_of l s) (λ z. omega (arith, z, since_le s)))

-- what tells the open labels tells whether l is open
pub told_open : (l : Bytes) (o : Open) (s : List Bytes) → Tells l o s → among l s ≡ not (eqb o.since 0)
told_open l o s h = open_since l s ∙ ap (λ (n : ℕ). not (eqb n 0)) (sym h.1)

length_tail : (s : List Bytes) → length (tail s) ≡ length s - 1
length_tail [] = refl
length_tail (k ∷ s) = omega arith

-- ── `since` after a push and after a pop, by the tests of the code
pub push_open : (is : Bool) (d n : ℕ) → (n ≡ 0 → ⊥) → n ≡ since_push is d n
push_open is d n h = rw (ne_eqb n 0 h)

pub push_first : (is : Bool) (d n : ℕ) → n ≡ 0 → is ≡ true → d + 1 ≡ since_push is d n
push_first is d n h g = rw (eq-eqb n 0 h, g) (omega arith)

pub push-other : (is : Bool) (d n : ℕ) → n ≡ 0 → is ≡ false → 0 ≡ since_push is d n
push-other is d n h g = rw (eq-eqb n 0 h, g)

pub pop_outermost : (d n : ℕ) → d ≡ n → 0 ≡ since_pop d n
pop_outermost d n h = rw (eq-eqb d n h)

pub pop_inner : (d n : ℕ) → (d ≡ n → ⊥) → n ≡ since_pop d n
pop_inner d n h = rw (ne_eqb d n h)

-- ── an entry as an item, by its kind
push_item : (k : ℕ) (p : Bytes) → k ≡ 0 → item_of k p ≡ push p
push_item zero p h = refl
push_item (suc k) p h = absurd (omega arith)

pop_item : (k : ℕ) (p : Bytes) → k ≡ 1 → item_of k p ≡ pop
pop_item zero p h = absurd (omega arith)
pop_item (suc zero) p h = refl
pop_item (suc (suc k)) p h = absurd (omega arith)

raw_item : (k : ℕ) (p : Bytes) → (k ≡ 0 → ⊥) → (k ≡ 1 → ⊥) → item_of k p ≡ raw p
raw_item zero p h g = absurd (h refl)
raw_item (suc zero) p h g = absurd (g refl)
raw_item (suc (suc k)) p h g = refl

-- ── what is open behind an entry
-- what `==` compares
alike : (x y : Bytes) → pointwise eqb x y ≡ same x y
alike [] [] = refl
alike [] (b ∷ y) = refl
alike (a ∷ x) [] = refl
alike (a ∷ x) (b ∷ y) = ap (λ (t : Bool). eqb a b && t) (alike x y)

-- its text, as the code cuts it
cut_same : (l t : Bytes) (e : Entry) (r : Bool) → r ≡ same l (take (e.start + e.len - e.start) (drop e.start t)) → same l (part_of t e) ≡ r
cut_same l t e r q =
    let n : e.start + e.len - e.start ≡ e.len = omega arith in
    sym (q ∙ ap (λ (m : ℕ). same l (take m (drop e.start t))) n)

pub cut_alike : (l t : Bytes) (e : Entry) (r : Bool) → r ≡ pointwise eqb l (take (e.start + e.len - e.start) (drop e.start t)) → same l (part_of t e) ≡ r
cut_alike l t e r q = cut_same l t e r (q ∙ alike l (take (e.start + e.len - e.start) (drop e.start t)))

module _ (l t : Bytes) (e : Entry) (o : Open) where
  pub push_told : (r : Open) → e.kind ≡ 0 → r.depth ≡ o.depth + 1 → r.since ≡ since_push (same l (part_of t e)) o.depth o.since → Opened l (item_at t e) o r
  unfolding Opened item_at
  push_told r k d q =
      rw (push_item e.kind (part_of t e) k)
      (λ s h. (omega (arith, d, h.0), q ∙ (λ i. since_push (same l (part_of t e)) (h.0 i) (h.1 i))))

  pub pop_told : (r : Open) → e.kind ≡ 1 → r.depth ≡ o.depth - 1 → r.since ≡ since_pop o.depth o.since → Opened l (item_at t e) o r
  unfolding Opened item_at
  pop_told r k d q =
      rw (pop_item e.kind (part_of t e) k)
      (λ s h. (omega (arith, d, h.0, length_tail s), q ∙ (λ i. since_pop (h.0 i) (h.1 i)) ∙ sym (pop_since l s)))

  pub raw_told : (e.kind ≡ 0 → ⊥) → (e.kind ≡ 1 → ⊥) → Opened l (item_at t e) o o
  unfolding Opened item_at
  raw_told a b = rw (raw_item e.kind (part_of t e) a b) (λ s h. h)

-- ── what dropping the raw sequences under the label leaves of an entry
module _ (e : Entry) (o : Open) (b : bad_shape_of e.kind e.start e.len ≡ false) where
  pub kept_told : (e.kind ≡ 2 → ⊥) → Drops e o false
  unfolding Drops item_at bad_shape_of
  kept_told k l t s is h = go e.kind b k
    where
      go : (k : ℕ) → bad_shape_of k e.start e.len ≡ false → (k ≡ 2 → ⊥)
          → drop_raws l s (item_of k (part_of t e) ∷ is) ≡ item_of k (part_of t e) ∷ drop_raws l (open_after s (item_of k (part_of t e) ∷ [])) is
      go zero q g = refl
      go (suc zero) q g = refl
      go (suc (suc zero)) q g = absurd (g refl)
      go (suc (suc (suc k))) q g = absurd (false≢true (sym q))

  pub dropped_told : e.kind ≡ 2 → Drops e o (not (eqb o.since 0))
  unfolding Drops item_at
  dropped_told k l t s is h =
      rw (raw_item e.kind (part_of t e) (λ z. omega (arith, k, z)) (λ z. omega (arith, k, z)))
      (ap (λ (u : Bool). cond u [] (raw (part_of t e) ∷ []) ++ drop_raws l s is) (told_open l o s h))
