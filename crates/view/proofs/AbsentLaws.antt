-- Where no push has the label, the floor reads what the office reads, entry for entry (`absent_label`). The idea: no byte is under it, so every character stays, and no raw sequence is dropped.
use Prim.Native.Nat.{ℕ, zero, suc}
use mathlib.Core.Bool.{Bool, false, ◌||◌, or-false, or_assoc, or_comm}
use mathlib.Core.Path.{◌≡◌, refl, sym, ap, ◌∙◌}
use mathlib.Core.List.{List, [], ◌∷◌, ◌++◌, tail, reverse, reverse-cons}
use lib.ListN.{length, take, drop}
use Rattle.chars.specs.Chars.{Character, chars}
use Rattle.recording.specs.Lists.{same}
use Rattle.recording.specs.Recording.{Bytes, Recording, Item, byte, push, pop, raw, items}
use Rattle.recording.specs.Coloured.{Coloured, coloured_from, coloured}
use Rattle.recording.specs.Edit.{back, edit}
use Rattle.recording.proofs.EditLaws.{front_with_back}
use Rattle.recording.proofs.Lists.{or_left, or_right}
use Rattle.view.specs.View.{among, any_under_of, hidden_from, hidden, floor_ops, drop_raws, floor_items}
use Rattle.view.specs.Theorem.{opens}

neither : (a b : Bool) → a ≡ false → b ≡ false → (a || b) ≡ false
neither a b h g = rw (h, g)

module _ (l : Bytes) where
  -- ── the labels of a byte are those that are open
  among_append : (a b : List Bytes) → among l (a ++ b) ≡ (among l a || among l b)
  among_append [] b = refl
  among_append (k ∷ a) b = rw (among_append a b) (sym (or_assoc (same l k) (among l a) (among l b)))

  pub among_reverse : (s : List Bytes) → among l (reverse s) ≡ among l s
  among_reverse [] = refl
  among_reverse (k ∷ s) =
      rw (reverse-cons k s, among_append (reverse s) (k ∷ []), among_reverse s, or-false (same l k)) (or_comm (among l s) (same l k))

  pub among_tail : (s : List Bytes) → among l s ≡ false → among l (tail s) ≡ false
  among_tail [] h = refl
  among_tail (k ∷ s) h = or_right (same l k) (among l s) h

  -- another label pushed
  among_push : (k : Bytes) (s : List Bytes) (is : List Item) → among l s ≡ false → opens l (push k ∷ is) ≡ false → among l (k ∷ s) ≡ false
  among_push k s is h g = neither (same l k) (among l s) (or_left (same l k) (opens l is) g) h

  -- ── no byte is under it, no raw sequence goes
  pub none_under : (s : List Bytes) (is : List Item) → among l s ≡ false → opens l is ≡ false → any_under_of l (coloured_from s is) ≡ false
  none_under s [] h g = refl
  none_under s (byte b ∷ is) h g = neither (among l (reverse s)) (any_under_of l (coloured_from s is)) (among_reverse s ∙ h) (none_under s is h g)
  none_under s (push k ∷ is) h g = none_under (k ∷ s) is (among_push k s is h g) (or_right (same l k) (opens l is) g)
  none_under s (pop ∷ is) h g = none_under (tail s) is (among_tail s h) g
  none_under s (raw t ∷ is) h g = none_under s is h g

  none_dropped : (s : List Bytes) (is : List Item) → among l s ≡ false → opens l is ≡ false → drop_raws l s is ≡ is
  none_dropped s [] h g = refl
  none_dropped s (byte b ∷ is) h g = ap (λ (r : List Item). byte b ∷ r) (none_dropped s is h g)
  none_dropped s (push k ∷ is) h g = ap (λ (r : List Item). push k ∷ r) (none_dropped (k ∷ s) is (among_push k s is h g) (or_right (same l k) (opens l is) g))
  none_dropped s (pop ∷ is) h g = ap (λ (r : List Item). pop ∷ r) (none_dropped (tail s) is (among_tail s h) g)
  none_dropped s (raw t ∷ is) h g = rw h (ap (λ (r : List Item). raw t ∷ r) (none_dropped s is h g))

  -- ── every character stays
  under-take : (n : ℕ) (cs : List Coloured) → any_under_of l cs ≡ false → any_under_of l (take n cs) ≡ false
  under-take zero cs h = refl
  under-take (suc n) [] h = refl
  under-take (suc n) (c ∷ cs) h =
      neither (among l c.labels) (any_under_of l (take n cs)) (or_left (among l c.labels) (any_under_of l cs) h) (under-take n cs (or_right (among l c.labels) (any_under_of l cs) h))

  under_drop : (n : ℕ) (cs : List Coloured) → any_under_of l cs ≡ false → any_under_of l (drop n cs) ≡ false
  under_drop zero cs h = h
  under_drop (suc n) [] h = refl
  under_drop (suc n) (c ∷ cs) h = under_drop n cs (or_right (among l c.labels) (any_under_of l cs) h)

  all_kept : (chs : List Character) (cs : List Coloured) (is : List Item) → any_under_of l cs ≡ false → edit (floor_ops (hidden_from l chs cs) chs) is ≡ is
  all_kept [] cs is h = refl
  all_kept (c ∷ chs) cs is h =
      rw (under-take (length c.text) cs h, all_kept chs (drop (length c.text) cs) (back (length c.text) is) (under_drop (length c.text) cs h))
      (front_with_back (length c.text) is)

  pub absent_label : (r : Recording) → opens l (items r) ≡ false → floor_items l r ≡ items r
  unfolding floor_items hidden coloured
  absent_label r h = rw (none_dropped [] (items r) refl h) (all_kept (chars r.data_bytes) (coloured r) (items r) (none_under [] (items r) refl h))
