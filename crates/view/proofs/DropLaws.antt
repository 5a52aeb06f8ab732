-- Dropping the raw sequences under a label changes no data byte, no coloured byte and no balance (`drop_data`, `drop-coloured`, `drop_balance`), and may come before or after an edit that puts in
-- bytes alone, as the floor's does (`drop-edit`, `floor_drop`). Such an edit itself loses no entry (`entries_stay`).
-- The idea: the labels open at an entry are those of the pushes and pops before it, and no step of the edit changes these.
use Prim.Native.Nat.{ℕ, zero, suc}
use mathlib.Core.Bool.{Bool, true, false, cond}
use mathlib.Core.Path.{◌≡◌, refl, sym, ap, ◌∙◌}
use mathlib.Core.List.{List, [], ◌∷◌, ◌++◌, tail, reverse, append_assoc}
use Rattle.chars.specs.Chars.{Character, chars}
use Rattle.recording.specs.Recording.{Bytes, Recording, Item, byte, push, pop, raw, byte_items, items, data_of}
use Rattle.recording.specs.Coloured.{Coloured, coloured_from, open_after, balanced_from}
use Rattle.recording.specs.Edit.{Op, keep, skip, put, front, back, entries_only, edit}
use Rattle.recording.proofs.EditLaws.{AllPuts, open_entries, only_append, front_with_back}
use Rattle.layout.proofs.StripLaws.{Bare, BarePuts, bare_bytes}
use Rattle.view.specs.View.{among, hidden, stars, floor_ops, drop_raws, floor_items}

-- ── what the floor's edit puts in is bytes: what is true of any bytes is true of it
pub puts_floor : (P : List Item → Type 0) → ((d : Bytes) → P (byte_items d)) → (hs : List Bool) (cs : List Character) → AllPuts P (floor_ops hs cs)
puts_floor P bytes [] cs = tt
puts_floor P bytes (h ∷ hs) [] = tt
puts_floor P bytes (true ∷ hs) (c ∷ cs) = (bytes (stars c), puts_floor P bytes hs cs)
puts_floor P bytes (false ∷ hs) (c ∷ cs) = puts_floor P bytes hs cs

pub bare_floor : (hs : List Bool) (cs : List Character) → BarePuts (floor_ops hs cs)
bare_floor hs cs = puts_floor Bare bare_bytes hs cs

-- ── a raw sequence, dropped or not, is no data byte and no label
data_raw : (t : Bool) (x : Bytes) (is : List Item) → data_of (cond t [] (raw x ∷ []) ++ is) ≡ data_of is
data_raw true x is = refl
data_raw false x is = refl

coloured-raw : (t : Bool) (x : Bytes) (s : List Bytes) (is : List Item) → coloured_from s (cond t [] (raw x ∷ []) ++ is) ≡ coloured_from s is
coloured-raw true x s is = refl
coloured-raw false x s is = refl

balance_raw : (t : Bool) (x : Bytes) (n : ℕ) (is : List Item) → balanced_from n (cond t [] (raw x ∷ []) ++ is) ≡ balanced_from n is
balance_raw true x n is = refl
balance_raw false x n is = refl

front-raw : (t : Bool) (x : Bytes) (n : ℕ) (is : List Item) → front n (cond t [] (raw x ∷ []) ++ is) ≡ cond t [] (raw x ∷ []) ++ front n is
front-raw true x n is = refl
front-raw false x n is = refl

back-raw : (t : Bool) (x : Bytes) (n : ℕ) (is : List Item) → back n (cond t [] (raw x ∷ []) ++ is) ≡ back n is
back-raw true x n is = refl
back-raw false x n is = refl

entries-raw : (t : Bool) (x : Bytes) (is : List Item) → entries_only (cond t [] (raw x ∷ []) ++ is) ≡ cond t [] (raw x ∷ []) ++ entries_only is
entries-raw true x is = refl
entries-raw false x is = refl

module _ (l : Bytes) where
  -- ── what it leaves as it is
  pub drop_data : (s : List Bytes) (is : List Item) → data_of (drop_raws l s is) ≡ data_of is
  drop_data s [] = refl
  drop_data s (byte b ∷ is) = ap (λ (d : Bytes). b ∷ d) (drop_data s is)
  drop_data s (push k ∷ is) = drop_data (k ∷ s) is
  drop_data s (pop ∷ is) = drop_data (tail s) is
  drop_data s (raw t ∷ is) = data_raw (among l s) t (drop_raws l s is) ∙ drop_data s is

  pub drop-coloured : (s : List Bytes) (is : List Item) → coloured_from s (drop_raws l s is) ≡ coloured_from s is
  drop-coloured s [] = refl
  drop-coloured s (byte b ∷ is) = ap (λ (r : List Coloured). record { val = b; labels = reverse s } ∷ r) (drop-coloured s is)
  drop-coloured s (push k ∷ is) = drop-coloured (k ∷ s) is
  drop-coloured s (pop ∷ is) = drop-coloured (tail s) is
  drop-coloured s (raw t ∷ is) = coloured-raw (among l s) t s (drop_raws l s is) ∙ drop-coloured s is

  pub drop_balance : (n : ℕ) (s : List Bytes) (is : List Item) → balanced_from n (drop_raws l s is) ≡ balanced_from n is
  drop_balance zero s [] = refl
  drop_balance (suc n) s [] = refl
  drop_balance n s (byte b ∷ is) = drop_balance n s is
  drop_balance n s (push k ∷ is) = drop_balance (suc n) (k ∷ s) is
  drop_balance zero s (pop ∷ is) = refl
  drop_balance (suc n) s (pop ∷ is) = drop_balance n (tail s) is
  drop_balance n s (raw t ∷ is) = balance_raw (among l s) t n (drop_raws l s is) ∙ drop_balance n s is

  -- ── over the parts of an edit
  pub drop-append : (s : List Bytes) (a b : List Item) → drop_raws l s (a ++ b) ≡ drop_raws l s a ++ drop_raws l (open_after s a) b
  drop-append s [] b = refl
  drop-append s (byte x ∷ a) b = ap (λ (r : List Item). byte x ∷ r) (drop-append s a b)
  drop-append s (push k ∷ a) b = ap (λ (r : List Item). push k ∷ r) (drop-append (k ∷ s) a b)
  drop-append s (pop ∷ a) b = ap (λ (r : List Item). pop ∷ r) (drop-append (tail s) a b)
  drop-append s (raw t ∷ a) b =
      ap (λ (r : List Item). cond (among l s) [] (raw t ∷ []) ++ r) (drop-append s a b)
      ∙ sym (append_assoc (cond (among l s) [] (raw t ∷ [])) (drop_raws l s a) (drop_raws l (open_after s a) b))

  pub drop-front : (n : ℕ) (s : List Bytes) (is : List Item) → front n (drop_raws l s is) ≡ drop_raws l s (front n is)
  drop-front n s [] = refl
  drop-front zero s (byte b ∷ is) = refl
  drop-front (suc n) s (byte b ∷ is) = ap (λ (r : List Item). byte b ∷ r) (drop-front n s is)
  drop-front n s (push k ∷ is) = ap (λ (r : List Item). push k ∷ r) (drop-front n (k ∷ s) is)
  drop-front n s (pop ∷ is) = ap (λ (r : List Item). pop ∷ r) (drop-front n (tail s) is)
  drop-front n s (raw t ∷ is) = front-raw (among l s) t n (drop_raws l s is) ∙ ap (λ (r : List Item). cond (among l s) [] (raw t ∷ []) ++ r) (drop-front n s is)

  pub drop-back : (n : ℕ) (s : List Bytes) (is : List Item) → back n (drop_raws l s is) ≡ drop_raws l (open_after s (front n is)) (back n is)
  drop-back n s [] = refl
  drop-back zero s (byte b ∷ is) = refl
  drop-back (suc n) s (byte b ∷ is) = drop-back n s is
  drop-back n s (push k ∷ is) = drop-back n (k ∷ s) is
  drop-back n s (pop ∷ is) = drop-back n (tail s) is
  drop-back n s (raw t ∷ is) = back-raw (among l s) t n (drop_raws l s is) ∙ drop-back n s is

  pub drop-entries : (s : List Bytes) (is : List Item) → entries_only (drop_raws l s is) ≡ drop_raws l s (entries_only is)
  drop-entries s [] = refl
  drop-entries s (byte b ∷ is) = drop-entries s is
  drop-entries s (push k ∷ is) = ap (λ (r : List Item). push k ∷ r) (drop-entries (k ∷ s) is)
  drop-entries s (pop ∷ is) = ap (λ (r : List Item). pop ∷ r) (drop-entries (tail s) is)
  drop-entries s (raw t ∷ is) = entries-raw (among l s) t (drop_raws l s is) ∙ ap (λ (r : List Item). cond (among l s) [] (raw t ∷ []) ++ r) (drop-entries s is)

  drop-bytes : (s : List Bytes) (p x : List Item) → Bare p → drop_raws l s (p ++ x) ≡ p ++ drop_raws l s x
  drop-bytes s [] x h = refl
  drop-bytes s (byte b ∷ p) x h = ap (λ (r : List Item). byte b ∷ r) (drop-bytes s p x h)
  drop-bytes s (push k ∷ p) x h = absurd h
  drop-bytes s (pop ∷ p) x h = absurd h
  drop-bytes s (raw t ∷ p) x h = absurd h

  -- ── before or after the edit: a step, given that it holds for what comes after
  drop_keep : (n : ℕ) (s : List Bytes) (is x y : List Item) → x ≡ drop_raws l (open_after s (front n is)) y → front n (drop_raws l s is) ++ x ≡ drop_raws l s (front n is ++ y)
  drop_keep n s is x y e = rw (drop-front n s is, e) (sym (drop-append s (front n is) y))

  drop-skip : (n : ℕ) (s : List Bytes) (is x y : List Item) → x ≡ drop_raws l (open_after s (front n is)) y
      → entries_only (front n (drop_raws l s is)) ++ x ≡ drop_raws l s (entries_only (front n is) ++ y)
  drop-skip n s is x y e = rw (drop-front n s is, drop-entries s (front n is), e, drop-append s (entries_only (front n is)) y, open_entries s (front n is))

  pub drop-edit : (ops : List Op) → BarePuts ops → (s : List Bytes) (is : List Item) → edit ops (drop_raws l s is) ≡ drop_raws l s (edit ops is)
  drop-edit [] q s is = refl
  drop-edit (keep n ∷ ops) q s is =
      drop_keep n s is (edit ops (back n (drop_raws l s is))) (edit ops (back n is)) (rw (drop-back n s is) (drop-edit ops q (open_after s (front n is)) (back n is)))
  drop-edit (skip n ∷ ops) q s is =
      drop-skip n s is (edit ops (back n (drop_raws l s is))) (edit ops (back n is)) (rw (drop-back n s is) (drop-edit ops q (open_after s (front n is)) (back n is)))
  drop-edit (put p ∷ ops) q s is =
      let s₀ : List Bytes = open_after s (front 0 is) in
      drop_keep 0 s is (p ++ edit ops (back 0 (drop_raws l s is))) (p ++ edit ops (back 0 is))
      (rw (drop-back 0 s is, drop-bytes s₀ p (edit ops (back 0 is)) q.0) (ap (λ (r : List Item). p ++ r) (drop-edit ops q.1 s₀ (back 0 is))))

-- ── an edit that puts in bytes alone loses no entry, and their order is the content's
only_twice : (a : List Item) → entries_only (entries_only a) ≡ entries_only a
only_twice [] = refl
only_twice (byte x ∷ a) = only_twice a
only_twice (push k ∷ a) = ap (λ (r : List Item). push k ∷ r) (only_twice a)
only_twice (pop ∷ a) = ap (λ (r : List Item). pop ∷ r) (only_twice a)
only_twice (raw t ∷ a) = ap (λ (r : List Item). raw t ∷ r) (only_twice a)

only_bare : (p : List Item) → Bare p → entries_only p ≡ []
only_bare [] h = refl
only_bare (byte b ∷ p) h = only_bare p h
only_bare (push k ∷ p) h = absurd h
only_bare (pop ∷ p) h = absurd h
only_bare (raw t ∷ p) h = absurd h

only_split : (n : ℕ) (is : List Item) → entries_only (front n is) ++ entries_only (back n is) ≡ entries_only is
only_split n is = sym (only_append (front n is) (back n is)) ∙ ap entries_only (front_with_back n is)

pub entries-edit : (ops : List Op) → BarePuts ops → (is : List Item) → entries_only (edit ops is) ≡ entries_only is
entries-edit [] q is = refl
entries-edit (keep n ∷ ops) q is = rw (only_append (front n is) (edit ops (back n is)), entries-edit ops q (back n is)) (only_split n is)
entries-edit (skip n ∷ ops) q is = rw (only_append (entries_only (front n is)) (edit ops (back n is)), only_twice (front n is), entries-edit ops q (back n is)) (only_split n is)
entries-edit (put p ∷ ops) q is =
    rw (only_append (front 0 is) (p ++ edit ops (back 0 is)), only_append p (edit ops (back 0 is)), only_bare p q.0, entries-edit ops q.1 (back 0 is)) (only_split 0 is)

-- so it opens and closes what the content does: balance is a matter of entries
balance_entries : (n : ℕ) (is : List Item) → balanced_from n (entries_only is) ≡ balanced_from n is
balance_entries n [] = refl
balance_entries n (byte b ∷ is) = balance_entries n is
balance_entries n (push k ∷ is) = balance_entries (suc n) is
balance_entries zero (pop ∷ is) = refl
balance_entries (suc n) (pop ∷ is) = balance_entries n is
balance_entries n (raw t ∷ is) = balance_entries n is

pub balance_edit : (ops : List Op) → BarePuts ops → (n : ℕ) (is : List Item) → balanced_from n (edit ops is) ≡ balanced_from n is
balance_edit ops q n is = sym (balance_entries n (edit ops is)) ∙ ap (balanced_from n) (entries-edit ops q is) ∙ balance_entries n is

-- ── the floor's edit
pub entries_stay : (l : Bytes) (r : Recording) → entries_only (floor_items l r) ≡ entries_only (drop_raws l [] (items r))
unfolding floor_items
entries_stay l r = entries-edit (floor_ops (hidden l r) (chars r.data_bytes)) (bare_floor (hidden l r) (chars r.data_bytes)) (drop_raws l [] (items r))

pub floor_drop : (l : Bytes) (hs : List Bool) (cs : List Character) (is : List Item) → edit (floor_ops hs cs) (drop_raws l [] is) ≡ drop_raws l [] (edit (floor_ops hs cs) is)
floor_drop l hs cs is = drop-edit l (floor_ops hs cs) (bare_floor hs cs) [] is

pub floor_balance : (hs : List Bool) (cs : List Character) (is : List Item) → balanced_from 0 (edit (floor_ops hs cs) is) ≡ balanced_from 0 is
floor_balance hs cs is = balance_edit (floor_ops hs cs) (bare_floor hs cs) 0 is
