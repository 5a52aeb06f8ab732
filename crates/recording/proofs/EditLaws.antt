-- An edit of the items is the same edit of the coloured bytes (`edit_law`), keeps balance (`edit_bal`), and is the same edit of the data alone (`edit_data_lem`).
-- The idea: `front n` and `back n` of the items are `take n` and `drop n` of the coloured bytes, with the labels open after `front n` carried over.
use Prim.Native.Nat.{ℕ, zero, suc, ◌+◌}
use native.Mathlib.Nat.{zero-add, suc-add}
use mathlib.Core.Bool.{true, false≢true}
use mathlib.Core.Path.{◌≡◌, refl, sym, ap, ◌∙◌}
use mathlib.Core.List.{List, [], ◌∷◌, ◌++◌, reverse, tail, append_assoc, reverse-append}
use lib.ListN.{length, take, drop}
use Rattle.recording.specs.Recording.{Bytes, Item, byte, push, pop, raw, data_of}
use Rattle.recording.specs.Coloured.{Coloured, coloured_from, open_after, balanced_from}
use Rattle.recording.specs.Edit.{Op, keep, skip, put, front, back, entries_only, edit, labels_at, under, edit_coloured, edit_data}

abbrev pub Bal : List Bytes → List Item → Type 0
Bal s is = balanced_from (length s) is ≡ true

-- P holds of all that an edit puts in
abbrev pub AllPuts : (List Item → Type 0) → List Op → Type 0
AllPuts P [] = Unit {0}
AllPuts P (keep n ∷ ops) = AllPuts P ops
AllPuts P (skip n ∷ ops) = AllPuts P ops
AllPuts P (put p ∷ ops) = P p × AllPuts P ops

abbrev pub Balanced : List Item → Type 0
Balanced p = balanced_from 0 p ≡ true

abbrev pub PutsBal : List Op → Type 0
PutsBal ops = AllPuts Balanced ops

pub coloured-append : (s : List Bytes) (a b : List Item) → coloured_from s (a ++ b) ≡ coloured_from s a ++ coloured_from (open_after s a) b
coloured-append s [] b = refl
coloured-append s (byte x ∷ a) b = ap (λ (r : List Coloured). record { val = x; labels = reverse s } ∷ r) (coloured-append s a b)
coloured-append s (push l ∷ a) b = coloured-append (l ∷ s) a b
coloured-append s (pop ∷ a) b = coloured-append (tail s) a b
coloured-append s (raw t ∷ a) b = coloured-append s a b

pub open_append : (s : List Bytes) (a b : List Item) → open_after s (a ++ b) ≡ open_after (open_after s a) b
open_append s [] b = refl
open_append s (byte x ∷ a) b = open_append s a b
open_append s (push l ∷ a) b = open_append (l ∷ s) a b
open_append s (pop ∷ a) b = open_append (tail s) a b
open_append s (raw t ∷ a) b = open_append s a b

pub coloured-front : (s : List Bytes) (n : ℕ) (is : List Item) → coloured_from s (front n is) ≡ take n (coloured_from s is)
coloured-front s zero [] = refl
coloured-front s (suc n) [] = refl
coloured-front s zero (byte x ∷ is) = refl
coloured-front s (suc n) (byte x ∷ is) = ap (λ (r : List Coloured). record { val = x; labels = reverse s } ∷ r) (coloured-front s n is)
coloured-front s n (push l ∷ is) = coloured-front (l ∷ s) n is
coloured-front s n (pop ∷ is) = coloured-front (tail s) n is
coloured-front s n (raw t ∷ is) = coloured-front s n is

pub coloured-back : (s : List Bytes) (n : ℕ) (is : List Item) → coloured_from (open_after s (front n is)) (back n is) ≡ drop n (coloured_from s is)
coloured-back s zero [] = refl
coloured-back s (suc n) [] = refl
coloured-back s zero (byte x ∷ is) = refl
coloured-back s (suc n) (byte x ∷ is) = coloured-back s n is
coloured-back s n (push l ∷ is) = coloured-back (l ∷ s) n is
coloured-back s n (pop ∷ is) = coloured-back (tail s) n is
coloured-back s n (raw t ∷ is) = coloured-back s n is

pub coloured-entries : (s : List Bytes) (is : List Item) → coloured_from s (entries_only is) ≡ []
coloured-entries s [] = refl
coloured-entries s (byte x ∷ is) = coloured-entries s is
coloured-entries s (push l ∷ is) = coloured-entries (l ∷ s) is
coloured-entries s (pop ∷ is) = coloured-entries (tail s) is
coloured-entries s (raw t ∷ is) = coloured-entries s is

pub open_entries : (s : List Bytes) (is : List Item) → open_after s (entries_only is) ≡ open_after s is
open_entries s [] = refl
open_entries s (byte x ∷ is) = open_entries s is
open_entries s (push l ∷ is) = open_entries (l ∷ s) is
open_entries s (pop ∷ is) = open_entries (tail s) is
open_entries s (raw t ∷ is) = open_entries s is

pub bal_back : (s : List Bytes) (n : ℕ) (is : List Item) → Bal s is → Bal (open_after s (front n is)) (back n is)
bal_back s n [] h = h
bal_back s zero (byte x ∷ is) h = h
bal_back s (suc n) (byte x ∷ is) h = bal_back s n is h
bal_back s n (push l ∷ is) h = bal_back (l ∷ s) n is h
bal_back [] n (pop ∷ is) h = absurd (false≢true h)
bal_back (x ∷ s) n (pop ∷ is) h = bal_back s n is h
bal_back s n (raw t ∷ is) h = bal_back s n is h

-- at the end of what is balanced, no label is open
length-zero : (s : List Bytes) → Bal s [] → reverse s ≡ []
length-zero [] h = refl
length-zero (x ∷ s) h = absurd (false≢true h)

pub labels_front : (s : List Bytes) (is : List Item) → Bal s is → reverse (open_after s (front 0 is)) ≡ labels_at (coloured_from s is)
labels_front s [] h = length-zero s h
labels_front s (byte x ∷ is) h = refl
labels_front s (push l ∷ is) h = labels_front (l ∷ s) is h
labels_front [] (pop ∷ is) h = absurd (false≢true h)
labels_front (x ∷ s) (pop ∷ is) h = labels_front s is h
labels_front s (raw t ∷ is) h = labels_front s is h

-- what is balanced by itself stands under the labels around it, and leaves them
pub coloured-under : (t s : List Bytes) (p : List Item) → Bal t p → coloured_from (t ++ s) p ≡ under (reverse s) (coloured_from t p)
coloured-under t s [] h = refl
coloured-under t s (byte x ∷ p) h = rw (reverse-append t s, coloured-under t s p h)
coloured-under t s (push l ∷ p) h = coloured-under (l ∷ t) s p h
coloured-under [] s (pop ∷ p) h = absurd (false≢true h)
coloured-under (x ∷ t) s (pop ∷ p) h = coloured-under t s p h
coloured-under t s (raw r ∷ p) h = coloured-under t s p h

pub open_under : (t s : List Bytes) (p : List Item) → Bal t p → open_after (t ++ s) p ≡ s
open_under [] s [] h = refl
open_under (x ∷ t) s [] h = absurd (false≢true h)
open_under t s (byte x ∷ p) h = open_under t s p h
open_under t s (push l ∷ p) h = open_under (l ∷ t) s p h
open_under [] s (pop ∷ p) h = absurd (false≢true h)
open_under (x ∷ t) s (pop ∷ p) h = open_under t s p h
open_under t s (raw r ∷ p) h = open_under t s p h

pub edit_law : (ops : List Op) (s : List Bytes) (is : List Item) → Bal s is → PutsBal ops → coloured_from s (edit ops is) ≡ edit_coloured ops (coloured_from s is)
edit_law [] s is h q = refl
edit_law (keep n ∷ ops) s is h q =
    rw (coloured-append, edit_law ops (open_after s (front n is)) (back n is) (bal_back s n is h) q, coloured-front, coloured-back)
edit_law (skip n ∷ ops) s is h q =
    rw (coloured-append, coloured-entries, open_entries, edit_law ops (open_after s (front n is)) (back n is) (bal_back s n is h) q, coloured-back)
edit_law (put p ∷ ops) s is h q =
    rw (
      coloured-append s (front 0 is) (p ++ edit ops (back 0 is)),
      coloured-append (open_after s (front 0 is)) p (edit ops (back 0 is)),
      coloured-under []
          (open_after s (front 0 is)) p q.0,
      open_under [] (open_after s (front 0 is)) p q.0,
      labels_front s is h,
      edit_law ops (open_after s (front 0 is)) (back 0 is)
          (bal_back s 0 is h) q.1,
      coloured-front s 0 is,
      coloured-back s 0 is,
    )

-- balance is kept
pub bal_front : (n k : ℕ) (is x : List Item) → ((m : ℕ) → balanced_from m (back k is) ≡ true → balanced_from m x ≡ true) → balanced_from n is ≡ true → balanced_from n (front k is ++ x) ≡ true
bal_front n k [] x f h = f n h
bal_front n zero (byte b ∷ is) x f h = f n h
bal_front n (suc k) (byte b ∷ is) x f h = bal_front n k is x f h
bal_front n k (push l ∷ is) x f h = bal_front (suc n) k is x f h
bal_front zero k (pop ∷ is) x f h = absurd (false≢true h)
bal_front (suc n) k (pop ∷ is) x f h = bal_front n k is x f h
bal_front n k (raw t ∷ is) x f h = bal_front n k is x f h

pub bal_skip : (n k : ℕ) (is x : List Item) → ((m : ℕ) → balanced_from m (back k is) ≡ true → balanced_from m x ≡ true) → balanced_from n is ≡ true → balanced_from n (entries_only (front k is) ++ x) ≡ true
bal_skip n k [] x f h = f n h
bal_skip n zero (byte b ∷ is) x f h = f n h
bal_skip n (suc k) (byte b ∷ is) x f h = bal_skip n k is x f h
bal_skip n k (push l ∷ is) x f h = bal_skip (suc n) k is x f h
bal_skip zero k (pop ∷ is) x f h = absurd (false≢true h)
bal_skip (suc n) k (pop ∷ is) x f h = bal_skip n k is x f h
bal_skip n k (raw t ∷ is) x f h = bal_skip n k is x f h

pub bal_append : (m n : ℕ) (p is : List Item) → balanced_from m p ≡ true → balanced_from n is ≡ true → balanced_from (m + n) (p ++ is) ≡ true
bal_append zero n [] is h g = rw (zero-add n) g
bal_append (suc m) n [] is h g = absurd (false≢true h)
bal_append m n (byte b ∷ p) is h g = bal_append m n p is h g
bal_append m n (push l ∷ p) is h g = rw (suc-add m n) at (bal_append (suc m) n p is h g)
bal_append zero n (pop ∷ p) is h g = absurd (false≢true h)
bal_append (suc m) n (pop ∷ p) is h g = rw (suc-add m n) (bal_append m n p is h g)
bal_append m n (raw t ∷ p) is h g = bal_append m n p is h g

pub edit_bal : (ops : List Op) (n : ℕ) (is : List Item) → PutsBal ops → balanced_from n is ≡ true → balanced_from n (edit ops is) ≡ true
edit_bal [] n is q h = h
edit_bal (keep k ∷ ops) n is q h = bal_front n k is (edit ops (back k is)) (λ m g. edit_bal ops m (back k is) q g) h
edit_bal (skip k ∷ ops) n is q h = bal_skip n k is (edit ops (back k is)) (λ m g. edit_bal ops m (back k is) q g) h
edit_bal (put p ∷ ops) n is q h =
    bal_front n 0 is (p ++ edit ops (back 0 is)) (λ m g. rw (← (zero-add m)) (bal_append 0 m p (edit ops (back 0 is)) q.0 (edit_bal ops m (back 0 is) q.1 g))) h

-- on data alone
pub data_append : (a b : List Item) → data_of (a ++ b) ≡ data_of a ++ data_of b
data_append [] b = refl
data_append (byte x ∷ a) b = ap (λ (r : Bytes). x ∷ r) (data_append a b)
data_append (push l ∷ a) b = data_append a b
data_append (pop ∷ a) b = data_append a b
data_append (raw t ∷ a) b = data_append a b

pub data_front : (n : ℕ) (is : List Item) → data_of (front n is) ≡ take n (data_of is)
data_front zero [] = refl
data_front (suc n) [] = refl
data_front zero (byte x ∷ is) = refl
data_front (suc n) (byte x ∷ is) = ap (λ (r : Bytes). x ∷ r) (data_front n is)
data_front n (push l ∷ is) = data_front n is
data_front n (pop ∷ is) = data_front n is
data_front n (raw t ∷ is) = data_front n is

pub data_back : (n : ℕ) (is : List Item) → data_of (back n is) ≡ drop n (data_of is)
data_back zero [] = refl
data_back (suc n) [] = refl
data_back zero (byte x ∷ is) = refl
data_back (suc n) (byte x ∷ is) = data_back n is
data_back n (push l ∷ is) = data_back n is
data_back n (pop ∷ is) = data_back n is
data_back n (raw t ∷ is) = data_back n is

pub data_entries : (is : List Item) → data_of (entries_only is) ≡ []
data_entries [] = refl
data_entries (byte x ∷ is) = data_entries is
data_entries (push l ∷ is) = data_entries is
data_entries (pop ∷ is) = data_entries is
data_entries (raw t ∷ is) = data_entries is

pub edit_data_lem : (ops : List Op) (is : List Item) → data_of (edit ops is) ≡ edit_data ops (data_of is)
edit_data_lem [] is = refl
edit_data_lem (keep n ∷ ops) is = rw (data_append, edit_data_lem ops (back n is), data_front, data_back)
edit_data_lem (skip n ∷ ops) is = rw (data_append, data_entries, edit_data_lem ops (back n is), data_back)
edit_data_lem (put p ∷ ops) is = rw (data_append (front 0 is) (p ++ edit ops (back 0 is)), data_append p (edit ops (back 0 is)), edit_data_lem ops (back 0 is), data_front 0 is, data_back 0 is)

-- ── at the place where a back starts, the entries are gone already
pub front-back : (k : ℕ) (is : List Item) → front 0 (back k is) ≡ []
front-back k [] = refl
front-back zero (byte b ∷ is) = refl
front-back (suc k) (byte b ∷ is) = front-back k is
front-back k (push l ∷ is) = front-back k is
front-back k (pop ∷ is) = front-back k is
front-back k (raw l ∷ is) = front-back k is

pub back-back : (k : ℕ) (is : List Item) → back 0 (back k is) ≡ back k is
back-back k [] = refl
back-back zero (byte b ∷ is) = refl
back-back (suc k) (byte b ∷ is) = back-back k is
back-back k (push l ∷ is) = back-back k is
back-back k (pop ∷ is) = back-back k is
back-back k (raw l ∷ is) = back-back k is

-- ── the items up to a place and those from it on are all of them; and a place further on is found from there
pub front_with_back : (n : ℕ) (is : List Item) → front n is ++ back n is ≡ is
front_with_back n [] = refl
front_with_back zero (byte b ∷ is) = refl
front_with_back (suc n) (byte b ∷ is) = ap (λ (r : List Item). byte b ∷ r) (front_with_back n is)
front_with_back n (push l ∷ is) = ap (λ (r : List Item). push l ∷ r) (front_with_back n is)
front_with_back n (pop ∷ is) = ap (λ (r : List Item). pop ∷ r) (front_with_back n is)
front_with_back n (raw t ∷ is) = ap (λ (r : List Item). raw t ∷ r) (front_with_back n is)

pub front-add : (m n : ℕ) (is : List Item) → front (m + n) is ≡ front m is ++ front n (back m is)
front-add m n [] = refl
front-add zero n (byte b ∷ is) = rw (zero-add n)
front-add (suc m) n (byte b ∷ is) = rw (suc-add m n) (ap (λ (r : List Item). byte b ∷ r) (front-add m n is))
front-add m n (push l ∷ is) = ap (λ (r : List Item). push l ∷ r) (front-add m n is)
front-add m n (pop ∷ is) = ap (λ (r : List Item). pop ∷ r) (front-add m n is)
front-add m n (raw t ∷ is) = ap (λ (r : List Item). raw t ∷ r) (front-add m n is)

pub back-add : (m n : ℕ) (is : List Item) → back (m + n) is ≡ back n (back m is)
back-add m n [] = refl
back-add zero n (byte b ∷ is) = rw (zero-add n)
back-add (suc m) n (byte b ∷ is) = rw (suc-add m n) (back-add m n is)
back-add m n (push l ∷ is) = back-add m n is
back-add m n (pop ∷ is) = back-add m n is
back-add m n (raw t ∷ is) = back-add m n is

-- ── steps put together: of two that keep or skip one is made, and before the next byte skipping is keeping
pub only_append : (a b : List Item) → entries_only (a ++ b) ≡ entries_only a ++ entries_only b
only_append [] b = refl
only_append (byte x ∷ a) b = only_append a b
only_append (push l ∷ a) b = ap (λ (r : List Item). push l ∷ r) (only_append a b)
only_append (pop ∷ a) b = ap (λ (r : List Item). pop ∷ r) (only_append a b)
only_append (raw t ∷ a) b = ap (λ (r : List Item). raw t ∷ r) (only_append a b)

pub only_entries : (is : List Item) → entries_only (front 0 is) ≡ front 0 is
only_entries [] = refl
only_entries (byte x ∷ is) = refl
only_entries (push l ∷ is) = ap (λ (r : List Item). push l ∷ r) (only_entries is)
only_entries (pop ∷ is) = ap (λ (r : List Item). pop ∷ r) (only_entries is)
only_entries (raw t ∷ is) = ap (λ (r : List Item). raw t ∷ r) (only_entries is)

pub kept_more : (m n : ℕ) (ops : List Op) (is : List Item) → edit (keep m ∷ keep n ∷ ops) is ≡ edit (keep (m + n) ∷ ops) is
kept_more m n ops is =
    sym (append_assoc (front m is) (front n (back m is)) (edit ops (back n (back m is)))) ∙ (λ i. sym (front-add m n is) i ++ edit ops (sym (back-add m n is) i))

pub skipped_more : (m n : ℕ) (ops : List Op) (is : List Item) → edit (skip m ∷ skip n ∷ ops) is ≡ edit (skip (m + n) ∷ ops) is
skipped_more m n ops is =
    sym (append_assoc (entries_only (front m is)) (entries_only (front n (back m is))) (edit ops (back n (back m is))))
    ∙ (λ i. (sym (only_append (front m is) (front n (back m is))) ∙ ap entries_only (sym (front-add m n is))) i ++ edit ops (sym (back-add m n is) i))

pub skip_none : (ops : List Op) (is : List Item) → edit (skip 0 ∷ ops) is ≡ edit (keep 0 ∷ ops) is
skip_none ops is = ap (λ (l : List Item). l ++ edit ops (back 0 is)) (only_entries is)
