-- What is encoded is read back as the same items (`items-encode`); the data of a recording's items, and of its coloured bytes, is its data.
-- The idea: `items_from` is run on what `entries_from` wrote, with the bytes since the last entry (`q`) as an argument; the part that a push takes has its text (`placed_at`).
use Prim.Native.Nat.{ℕ, zero, suc, ◌+◌, ◌-◌}
use native.Mathlib.Nat.{add-zero, add-suc}
use native.Mathlib.Omega.{arith}
use mathlib.Core.Bool.{Bool, true, false, cond, ◌&&◌, ◌||◌}
use mathlib.Core.Path.{◌≡◌, refl, sym, ap, ◌∙◌}
use mathlib.Core.List.{List, [], ◌∷◌, ◌++◌, tail, append_assoc, append-nil}
use lib.Dec.{eqb}
use lib.ListN.{length, take, drop, take-append-drop}
use lib.Seq.{take-append_seam, drop-append_seam, drop_at}
use Rattle.recording.specs.declared.Entry.{Entry}
use Rattle.recording.specs.Lists.{same}
use Rattle.recording.specs.Recording.{Bytes, Recording, entries_of, numbers_of_ranges, part_of, Item, byte, push, pop, raw, byte_items, item_of, items_from, items, data_of, entry, is_push_of, pushed_in, start_in, push_at, new_text, entries_from, text_from, encode}
use Rattle.recording.specs.Coloured.{Coloured, coloured_from, coloured, values}
use Rattle.recording.specs.Edit.{Op, keep, skip, put, edit, labels_at, under, edit_coloured, edit_data}
use Rattle.recording.proofs.Lists.{and_right, same_equal}
use Rattle.recording.proofs.EditLaws.{data_append, edit_data_lem}

pub bytes-append : (a b : Bytes) → byte_items (a ++ b) ≡ byte_items a ++ byte_items b
bytes-append [] b = refl
bytes-append (x ∷ a) b = ap (λ (r : List Item). byte x ∷ r) (bytes-append a b)

length-snoc : (q : Bytes) (b : ℕ) → length (q ++ (b ∷ [])) ≡ suc (length q)
length-snoc [] b = refl
length-snoc (x ∷ q) b = ap suc (length-snoc q b)

snoc-append : (q : Bytes) (b : ℕ) (r : Bytes) → (q ++ (b ∷ [])) ++ r ≡ q ++ b ∷ r
snoc-append [] b r = refl
snoc-append (x ∷ q) b r = ap (λ (l : Bytes). x ∷ l) (snoc-append q b r)

snoc-items : (q : Bytes) (b : ℕ) (r : List Item) → byte_items (q ++ (b ∷ [])) ++ r ≡ byte_items q ++ byte b ∷ r
snoc-items [] b r = refl
snoc-items (x ∷ q) b r = ap (λ (l : List Item). byte x ∷ l) (snoc-items q b r)

-- the part of the text that an entry with the text t, after used bytes, finds
pub part_at : (pre t post : Bytes) (used : ℕ) → length pre ≡ used → take (length t) (drop used (pre ++ (t ++ post))) ≡ t
part_at pre t post used e = rw (drop_at pre (t ++ post) used e) (take-append_seam t post)

less : (at : ℕ) (q : Bytes) → (at + length q) - at ≡ length q
less at q = omega arith

-- a part of the text stays where it is when more comes behind
pub part_in : (s n : ℕ) (t x l : Bytes) → take n (drop s t) ≡ l → take (length l) (drop s (t ++ x)) ≡ l
part_in s n t x l e = ap (λ (m : Bytes). take (length m) (drop s (t ++ x))) (sym e) ∙ go s n t ∙ e
  where
    go : (s n : ℕ) (t : Bytes) → take (length (take n (drop s t))) (drop s (t ++ x)) ≡ take n (drop s t)
    go zero zero t = refl
    go zero (suc n) [] = refl
    go zero (suc n) (b ∷ t) = ap (λ (m : Bytes). b ∷ m) (go zero n t)
    go (suc s) zero [] = refl
    go (suc s) (suc n) [] = refl
    go (suc s) n (b ∷ t) = go s n t

pub push-part : (l t : Bytes) (e : Entry) → is_push_of l t e ≡ true → part_of t e ≡ l
push-part l t e q = same_equal (part_of t e) l (and_right (eqb e.len (length l)) (same (part_of t e) l) (and_right (eqb e.kind 0) (eqb e.len (length l) && same (part_of t e) l) q))

-- the first push with an equal text, or the new text at the end: the part is l, whatever comes behind
pub placed_at : (l t : Bytes) (es : List Entry) (post : Bytes) → take (length l) (drop (start_in l t (length t) es) (t ++ (new_text l t es ++ post))) ≡ l
unfolding start_in pushed_in
placed_at l t [] post = part_at t l post (length t) refl
placed_at l t (e ∷ es) post = go (is_push_of l t e) refl (placed_at l t es post)
  where
    go : (b : Bool) → is_push_of l t e ≡ b → take (length l) (drop (start_in l t (length t) es) (t ++ (new_text l t es ++ post))) ≡ l
        → take (length l) (drop (cond b e.start (start_in l t (length t) es)) (t ++ (cond (b || pushed_in l t es) [] l ++ post))) ≡ l
    go true q h = part_in e.start e.len t post l (push-part l t e q)
    go false q h = h

module _ where
  pub decoded : (is : List Item) (at : ℕ) (q t : Bytes) (es : List Entry)
      → items_from at (t ++ text_from (at + length q) t es is) (q ++ data_of is) (entries_from (at + length q) t es is) ≡ byte_items q ++ is
  decoded [] at q t es = rw (append-nil q) (sym (append-nil (byte_items q)))
  decoded (byte b ∷ is) at q t es =
      rw (← snoc-items q b is, ← snoc-append q b (data_of is), ← add-suc at (length q), ← length-snoc q b) (decoded is at (q ++ (b ∷ [])) t es)
  decoded (push l ∷ is) at q t es =
      let e : Entry = push_at (at + length q) t es l in
      rw (less at q, take-append_seam q (data_of is), drop-append_seam q (data_of is), placed_at l t es (text_from (at + length q) (t ++ new_text l t es) (es ++ (e ∷ [])) is), ← append_assoc t (new_text l t es) (text_from (at + length q) (t ++ new_text l t es) (es ++ (e ∷ [])) is))
      (ap (λ (r : List Item). byte_items q ++ push l ∷ r)
      (rw (add-zero (at + length q)) at (decoded is (at + length q) [] (t ++ new_text l t es) (es ++ (e ∷ [])))))
  decoded (pop ∷ is) at q t es =
      rw (less at q, take-append_seam q (data_of is), drop-append_seam q (data_of is))
      (ap (λ (r : List Item). byte_items q ++ pop ∷ r)
      (rw (add-zero (at + length q)) at (decoded is (at + length q) [] t (es ++ (entry (at + length q) 1 0 0 ∷ [])))))
  decoded (raw x ∷ is) at q t es =
      let e : Entry = entry (at + length q) 2 (length t) (length x) in
      rw (less at q, take-append_seam q (data_of is), drop-append_seam q (data_of is), part_at t x (text_from (at + length q) (t ++ x) (es ++ (e ∷ [])) is) (length t) refl, ← append_assoc t x (text_from (at + length q) (t ++ x) (es ++ (e ∷ [])) is))
      (ap (λ (r : List Item). byte_items q ++ raw x ∷ r)
      (rw (add-zero (at + length q)) at (decoded is (at + length q) [] (t ++ x) (es ++ (e ∷ [])))))

-- the numbers of entries are read as those entries
pub entries_numbers : (es : List Entry) → entries_of (numbers_of_ranges es) ≡ es
entries_numbers [] = refl
entries_numbers (e ∷ es) = ap (λ (l : List Entry). e ∷ l) (entries_numbers es)

pub items-encode : (is : List Item) → items (encode is) ≡ is
unfolding items encode
items-encode is = rw (entries_numbers (entries_from 0 [] [] is)) (decoded is 0 [] [] [])

-- what was written is written again as it stands
pub encode_again : (is : List Item) → encode (items (encode is)) ≡ encode is
encode_again is = ap encode (items-encode is)

pub data_bytes_lem : (d : Bytes) → data_of (byte_items d) ≡ d
data_bytes_lem [] = refl
data_bytes_lem (b ∷ d) = ap (λ (l : Bytes). b ∷ l) (data_bytes_lem d)

pub data_entry : (k : ℕ) (p : Bytes) (is : List Item) → data_of (item_of k p ∷ is) ≡ data_of is
data_entry zero p is = refl
data_entry (suc zero) p is = refl
data_entry (suc (suc k)) p is = refl

pub data_items_from : (es : List Entry) (at : ℕ) (t d : Bytes) → data_of (items_from at t d es) ≡ d
data_items_from [] at t d = data_bytes_lem d
data_items_from (e ∷ es) at t d =
    let p : ℕ = e.position in
    rw (
      data_append (byte_items (take (p - at) d)) (item_of e.kind (part_of t e) ∷ items_from p t (drop (p - at) d) es),
      data_entry e.kind (part_of t e)
          (items_from p t (drop (p - at) d) es),
      data_bytes_lem (take (p - at) d),
      data_items_from es p t (drop (p - at) d),
    )
    (take-append-drop (p - at) d)

pub data_items : (r : Recording) → data_of (items r) ≡ r.data_bytes
unfolding items
data_items r = data_items_from (entries_of r.entry_numbers) 0 r.text r.data_bytes

pub values-coloured : (s : List Bytes) (is : List Item) → values (coloured_from s is) ≡ data_of is
values-coloured s [] = refl
values-coloured s (byte b ∷ is) = ap (λ (l : Bytes). b ∷ l) (values-coloured s is)
values-coloured s (push l ∷ is) = values-coloured (l ∷ s) is
values-coloured s (pop ∷ is) = values-coloured (tail s) is
values-coloured s (raw t ∷ is) = values-coloured s is

pub values_of : (r : Recording) → values (coloured r) ≡ r.data_bytes
unfolding coloured
values_of r = values-coloured [] (items r) ∙ data_items r

pub values-append : (x y : List Coloured) → values (x ++ y) ≡ values x ++ values y
values-append [] y = refl
values-append (c ∷ x) y = ap (λ (l : Bytes). c.val ∷ l) (values-append x y)

pub values-under : (ls : List Bytes) (x : List Coloured) → values (under ls x) ≡ values x
values-under ls [] = refl
values-under ls (c ∷ x) = ap (λ (l : Bytes). c.val ∷ l) (values-under ls x)

pub values-take : (n : ℕ) (x : List Coloured) → values (take n x) ≡ take n (values x)
values-take zero x = refl
values-take (suc n) [] = refl
values-take (suc n) (c ∷ x) = ap (λ (l : Bytes). c.val ∷ l) (values-take n x)

pub values-drop : (n : ℕ) (x : List Coloured) → values (drop n x) ≡ drop n (values x)
values-drop zero x = refl
values-drop (suc n) [] = refl
values-drop (suc n) (c ∷ x) = values-drop n x

-- an edit of coloured bytes is the same edit of their values
pub values-edit : (ops : List Op) (cs : List Coloured) → values (edit_coloured ops cs) ≡ edit_data ops (values cs)
values-edit [] cs = refl
values-edit (keep n ∷ ops) cs = values-append (take n cs) (edit_coloured ops (drop n cs)) ∙ rw (values-take n cs, values-edit ops (drop n cs), values-drop n cs)
values-edit (skip n ∷ ops) cs = values-edit ops (drop n cs) ∙ rw (values-drop n cs)
values-edit (put p ∷ ops) cs =
    values-append (under (labels_at cs) (coloured_from [] p)) (edit_coloured ops cs) ∙ rw (values-under (labels_at cs) (coloured_from [] p), values-coloured [] p, values-edit ops cs)

-- edits that do the same to all items do the same to data
pub edit-alike : (ops ops' : List Op) (d : Bytes) → ((is : List Item) → edit ops is ≡ edit ops' is) → edit_data ops d ≡ edit_data ops' d
edit-alike ops ops' d f = sym (on_bytes ops) ∙ ap data_of (f (byte_items d)) ∙ on_bytes ops'
  where
    on_bytes : (x : List Op) → data_of (edit x (byte_items d)) ≡ edit_data x d
    on_bytes x = edit_data_lem x (byte_items d) ∙ ap (λ (e : Bytes). edit_data x e) (data_bytes_lem d)
