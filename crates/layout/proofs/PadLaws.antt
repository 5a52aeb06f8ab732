-- A balanced fill with no entry inside its data, repeated: its coloured bytes are the fill's, repeated.
use Prim.Native.Nat.{ℕ, zero, suc, ◌-◌}
use native.Mathlib.Nat.{sub-zero}
use mathlib.Core.Bool.{Bool, true, false, ◌||◌, false≢true}
use mathlib.Core.Path.{◌≡◌, refl, sym, ap, ◌∙◌}
use mathlib.Core.List.{List, [], ◌∷◌, ◌++◌, reverse, tail, append_assoc, append-nil}
use lib.Dec.{eqb}
use lib.ListN.{length, take, drop}
use lib.Seq.{take-length, drop-length, take-nil, drop-nil}
use borrow.Author.Tests.{eqb-true}
use Rattle.recording.specs.declared.Entry.{Entry}
use Rattle.recording.specs.Coloured.{Coloured, coloured_from, open_after, balanced_from, none_inside_of, none_inside_recording}
use Rattle.recording.specs.Recording.{Bytes, Recording, Item, byte, push, pop, raw, byte_items, item_of, items_from, items, entries_of, part_of}
use Rattle.recording.proofs.Lists.{and_left, and_right}
use Rattle.recording.proofs.EditLaws.{coloured-append}
use Rattle.layout.specs.Layout.{copies, repeat_pieces, padding}
use Rattle.layout.specs.Plain.{times, with_labels}

abbrev pub NoBytes : List Item → Type 0
NoBytes [] = Unit {0}
NoBytes (byte b ∷ is) = ⊥
NoBytes (push l ∷ is) = NoBytes is
NoBytes (pop ∷ is) = NoBytes is
NoBytes (raw t ∷ is) = NoBytes is

-- entries, all the bytes, entries
pub record Flat (d : Bytes) (is : List Item) : Type 0 where
  pub opening : List Item
  pub closing : List Item
  pub no_opening : NoBytes opening
  pub no_closing : NoBytes closing
  pub split : is ≡ opening ++ (byte_items d ++ closing)

no_entry : (k : ℕ) (p : Bytes) (is : List Item) → NoBytes is → NoBytes (item_of k p ∷ is)
no_entry zero p is h = h
no_entry (suc zero) p is h = h
no_entry (suc (suc k)) p is h = h

no_items_from : (es : List Entry) (at : ℕ) (t : Bytes) → NoBytes (items_from at t [] es)
no_items_from [] at t = tt
no_items_from (e ∷ es) at t =
    rw (take-nil {A = ℕ} (e.position - at), drop-nil {A = ℕ} (e.position - at))
    (no_entry e.kind (part_of t e) (items_from e.position t [] es) (no_items_from es e.position t))

flat_bytes : (d : Bytes) → Flat d (byte_items d)
flat_bytes d = record { opening = []; closing = []; no_opening = tt; no_closing = tt; split = sym (append-nil (byte_items d)) }

flat_entry : (k : ℕ) (p d : Bytes) (is : List Item) → Flat d is → Flat d (item_of k p ∷ is)
flat_entry k p d is f =
    record {
      opening = item_of k p ∷ f.opening;
      closing = f.closing;
      no_opening = no_entry k p f.opening f.no_opening;
      no_closing = f.no_closing;
      split = ap
          (λ (l : List Item). item_of k p ∷ l) f.split;
    }

flat_from : (es : List Entry) (t d : Bytes) → none_inside_of (length d) es ≡ true → Flat d (items_from 0 t d es)
flat_from [] t d h = flat_bytes d
flat_from (e ∷ es) t d h = go (flat_from es t d rest) (eqb p 0) refl (eqb p (length d)) refl (and_left (eqb p 0 || eqb p (length d)) (none_inside_of (length d) es) h)
  where
    p : ℕ
    p = e.position

    rest : none_inside_of (length d) es ≡ true
    rest = and_right (eqb p 0 || eqb p (length d)) (none_inside_of (length d) es) h

    go : Flat d (items_from 0 t d es) → (x : Bool) → eqb p 0 ≡ x → (y : Bool) → eqb p (length d) ≡ y → (eqb p 0 || eqb p (length d)) ≡ true
        → Flat d (byte_items (take (p - 0) d) ++ item_of e.kind (part_of t e) ∷ items_from p t (drop (p - 0) d) es)
    go ih true z y z' g = rw (eqb-true p 0 z) (flat_entry e.kind (part_of t e) d (items_from 0 t d es) ih)
    go ih false z true z' g =
        rw (sub-zero p, eqb-true p (length d) z', take-length d, drop-length d)
        (record {
          opening = [];
          closing = item_of e.kind (part_of t e) ∷ items_from (length d) t [] es;
          no_opening = tt;
          no_closing = no_entry e.kind (part_of t e)
              (items_from (length d) t [] es) (no_items_from es (length d) t);
          split = refl;
        })
    go ih false z false z' g = absurd (false≢true (rw (z, z') at g))

pub flat : (f : Recording) → none_inside_recording f ≡ true → Flat f.data_bytes (items f)
unfolding none_inside_recording items
flat f h = flat_from (entries_of f.entry_numbers) f.text f.data_bytes h

copies-nil : (n : ℕ) → copies n [] ≡ []
copies-nil zero = refl
copies-nil (suc n) = copies-nil n

repeat_none : (n : ℕ) (is : List Item) → NoBytes is → repeat_pieces n [] is ≡ is
repeat_none n [] h = copies-nil n
repeat_none n (byte b ∷ is) h = absurd h
repeat_none n (push l ∷ is) h = rw (copies-nil n, repeat_none n is h)
repeat_none n (pop ∷ is) h = rw (copies-nil n, repeat_none n is h)
repeat_none n (raw t ∷ is) h = rw (copies-nil n, repeat_none n is h)

repeat_piece : (n : ℕ) (q : Bytes) (is : List Item) → NoBytes is → repeat_pieces n q is ≡ copies n q ++ is
repeat_piece n q [] h = sym (append-nil (copies n q))
repeat_piece n q (byte b ∷ is) h = absurd h
repeat_piece n q (push l ∷ is) h = rw (repeat_none n is h)
repeat_piece n q (pop ∷ is) h = rw (repeat_none n is h)
repeat_piece n q (raw t ∷ is) h = rw (repeat_none n is h)

pub repeat_bytes : (n : ℕ) (q d : Bytes) (is : List Item) → repeat_pieces n q (byte_items d ++ is) ≡ repeat_pieces n (q ++ d) is
repeat_bytes n q [] is = rw (append-nil q)
repeat_bytes n q (b ∷ d) is = repeat_bytes n (q ++ (b ∷ [])) d is ∙ ap (λ (l : Bytes). repeat_pieces n l is) (append_assoc q (b ∷ []) d)

repeat_opening : (n : ℕ) (a is : List Item) → NoBytes a → repeat_pieces n [] (a ++ is) ≡ a ++ repeat_pieces n [] is
repeat_opening n [] is h = refl
repeat_opening n (byte b ∷ a) is h = absurd h
repeat_opening n (push l ∷ a) is h = rw (copies-nil n, repeat_opening n a is h)
repeat_opening n (pop ∷ a) is h = rw (copies-nil n, repeat_opening n a is h)
repeat_opening n (raw t ∷ a) is h = rw (copies-nil n, repeat_opening n a is h)

pub repeat_flat : (n : ℕ) (d : Bytes) (is : List Item) (f : Flat d is) → repeat_pieces n [] is ≡ f.opening ++ (copies n d ++ f.closing)
repeat_flat n d is f =
    ap (λ (l : List Item). repeat_pieces n [] l) f.split ∙ repeat_opening n f.opening (byte_items d ++ f.closing) f.no_opening
    ∙ ap (λ (l : List Item). f.opening ++ l) (repeat_bytes n [] d f.closing ∙ repeat_piece n d f.closing f.no_closing)

coloured_none : (s : List Bytes) (is : List Item) → NoBytes is → coloured_from s is ≡ []
coloured_none s [] h = refl
coloured_none s (byte b ∷ is) h = absurd h
coloured_none s (push l ∷ is) h = coloured_none (l ∷ s) is h
coloured_none s (pop ∷ is) h = coloured_none (tail s) is h
coloured_none s (raw t ∷ is) h = coloured_none s is h

pub coloured-bytes : (s : List Bytes) (d : Bytes) (is : List Item) → coloured_from s (byte_items d ++ is) ≡ with_labels (reverse s) d ++ coloured_from s is
coloured-bytes s [] is = refl
coloured-bytes s (b ∷ d) is = ap (λ (l : List Coloured). record { val = b; labels = reverse s } ∷ l) (coloured-bytes s d is)

coloured-copies : (n : ℕ) (s : List Bytes) (d : Bytes) (is : List Item) → coloured_from s (copies n d ++ is) ≡ times n (with_labels (reverse s) d) ++ coloured_from s is
coloured-copies zero s d is = refl
coloured-copies (suc n) s d is =
    rw (append_assoc (byte_items d) (copies n d) is, coloured-bytes s d (copies n d ++ is), coloured-copies n s d is)
    (sym (append_assoc (with_labels (reverse s) d) (times n (with_labels (reverse s) d)) (coloured_from s is)))

coloured_flat : (d : Bytes) (is : List Item) (f : Flat d is) → coloured_from [] is ≡ with_labels (reverse (open_after [] f.opening)) d
coloured_flat d is f =
    ap (λ (l : List Item). coloured_from [] l) f.split
    ∙ rw (
      coloured-append [] f.opening (byte_items d ++ f.closing),
      coloured_none [] f.opening f.no_opening,
      coloured-bytes (open_after [] f.opening) d f.closing,
      coloured_none (open_after [] f.opening) f.closing f.no_closing,
    ) (append-nil _)

repeated_flat : (n : ℕ) (d : Bytes) (is : List Item) → Flat d is → coloured_from [] (repeat_pieces n [] is) ≡ times n (coloured_from [] is)
repeated_flat n d is f =
    rw (
      repeat_flat n d is f,
      coloured_flat d is f,
      coloured-append [] f.opening (copies n d ++ f.closing),
      coloured_none [] f.opening f.no_opening,
      coloured-copies n
          (open_after [] f.opening) d f.closing,
      coloured_none (open_after [] f.opening) f.closing f.no_closing,
    ) (append-nil _)

pub coloured-padding : (n : ℕ) (d : Bytes) (is : List Item) → Flat d is → coloured_from [] (padding n is) ≡ times n (coloured_from [] is)
coloured-padding zero d is f = refl
coloured-padding (suc n) d is f = repeated_flat (suc n) d is f

-- balance does not see bytes
bal_bytes : (m : ℕ) (d : Bytes) (is : List Item) → balanced_from m (byte_items d ++ is) ≡ balanced_from m is
bal_bytes m [] is = refl
bal_bytes m (b ∷ d) is = bal_bytes m d is

bal_copies : (n m : ℕ) (d : Bytes) (is : List Item) → balanced_from m (copies n d ++ is) ≡ balanced_from m is
bal_copies zero m d is = refl
bal_copies (suc n) m d is = rw (append_assoc (byte_items d) (copies n d) is, bal_bytes m d (copies n d ++ is)) (bal_copies n m d is)

bal_same : (a x y : List Item) (m : ℕ) → ((k : ℕ) → balanced_from k x ≡ balanced_from k y) → balanced_from m (a ++ x) ≡ balanced_from m (a ++ y)
bal_same [] x y m f = f m
bal_same (byte b ∷ a) x y m f = bal_same a x y m f
bal_same (push l ∷ a) x y m f = bal_same a x y (suc m) f
bal_same (pop ∷ a) x y zero f = refl
bal_same (pop ∷ a) x y (suc m) f = bal_same a x y m f
bal_same (raw t ∷ a) x y m f = bal_same a x y m f

bal_repeated : (n : ℕ) (d : Bytes) (is : List Item) → Flat d is → balanced_from 0 is ≡ true → balanced_from 0 (repeat_pieces n [] is) ≡ true
bal_repeated n d is f h =
    ap (λ (l : List Item). balanced_from 0 l) (repeat_flat n d is f)
    ∙ bal_same f.opening (copies n d ++ f.closing) (byte_items d ++ f.closing) 0 (λ k. bal_copies n k d f.closing ∙ sym (bal_bytes k d f.closing))
    ∙ ap (λ (l : List Item). balanced_from 0 l) (sym f.split) ∙ h

pub bal_padding : (n : ℕ) (d : Bytes) (is : List Item) → Flat d is → balanced_from 0 is ≡ true → balanced_from 0 (padding n is) ≡ true
bal_padding zero d is f h = refl
bal_padding (suc n) d is f h = bal_repeated (suc n) d is f h
