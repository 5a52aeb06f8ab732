-- The floor's items are the content's, without the raw sequences under the label, with what becomes of each byte in its stead (`floor_placed`).
-- What is to come splits behind the entries at a place (`come_entries`) and behind a run of bytes (`come_run`).
-- The idea: each step of the floor's edit, for one character, is the same as what becomes of that character's bytes.
use Prim.Native.Nat.{ℕ, zero, suc, ◌+◌, ◌-◌, ◌≤◌}
use native.Mathlib.Omega.{arith}
use mathlib.Core.Bool.{Bool, true, false}
use mathlib.Core.Path.{◌≡◌, refl, sym, ap, ◌∙◌}
use mathlib.Core.List.{List, [], ◌∷◌, ◌++◌, append_assoc, flatten}
use lib.ListN.{length, take, drop, replicate, length-append, length-replicate, length-take}
use lib.Seq.{take-append_seam, drop-append_seam}
use Rattle.chars.specs.Chars.{Character, chars, bytes_of}
use Rattle.chars.proofs.CharsLaws.{Valid, bytes-chars, valid-chars}
use Rattle.recording.specs.Recording.{Bytes, Recording, Item, byte, push, pop, raw, byte_items, items, data_of}
use Rattle.recording.specs.Coloured.{coloured, open_after}
use Rattle.recording.specs.Edit.{Op, keep, skip, put, front, back, entries_only, edit}
use Rattle.recording.proofs.EditLaws.{data_append, data_front, data_back, front_with_back, back-add}
use Rattle.recording.proofs.ItemsLaws.{data_bytes_lem, data_items, bytes-append}
use Rattle.view.specs.View.{hidden_from, hidden, stars, floor_ops, drop_raws, floor_items}
use Rattle.view.proofs.DropLaws.{drop_data, drop-append}
use Rattle.view.proofs.SizeLaws.{length-hidden}
use Rattle.floor_runs.specs.Fates.{singles, gone, fates_of, fates, placed, to_come}

-- ── bytes that stay
pub length-singles : (d : Bytes) → length (singles d) ≡ length d
length-singles [] = refl
length-singles (b ∷ d) = ap suc (length-singles d)

pub flatten-singles : (d : Bytes) → flatten (singles d) ≡ d
unfolding flatten
flatten-singles [] = refl
flatten-singles (b ∷ d) = ap (λ (l : Bytes). b ∷ l) (flatten-singles d)

pub singles-append : (a b : Bytes) → singles (a ++ b) ≡ singles a ++ singles b
singles-append [] b = refl
singles-append (x ∷ a) b = ap (λ (l : List Bytes). (x ∷ []) ∷ l) (singles-append a b)

placed_kept : (is : List Item) → placed (singles (data_of is)) is ≡ is
placed_kept [] = refl
placed_kept (byte b ∷ is) = ap (λ (r : List Item). byte b ∷ r) (placed_kept is)
placed_kept (push k ∷ is) = ap (λ (r : List Item). push k ∷ r) (placed_kept is)
placed_kept (pop ∷ is) = ap (λ (r : List Item). pop ∷ r) (placed_kept is)
placed_kept (raw t ∷ is) = ap (λ (r : List Item). raw t ∷ r) (placed_kept is)

-- ── bytes that go
pub flatten_none : (n : ℕ) → flatten (replicate {A = Bytes} n []) ≡ []
unfolding flatten
flatten_none zero = refl
flatten_none (suc n) = flatten_none n

placed_none : (m : ℕ) (is : List Item) → length (data_of is) ≤ m → placed (replicate m []) is ≡ entries_only is
placed_none m [] h = refl
placed_none zero (byte b ∷ is) h = absurd (omega (arith, h))
placed_none (suc m) (byte b ∷ is) h = placed_none m is (omega (arith, h))
placed_none m (push k ∷ is) h = ap (λ (r : List Item). push k ∷ r) (placed_none m is h)
placed_none m (pop ∷ is) h = ap (λ (r : List Item). pop ∷ r) (placed_none m is h)
placed_none m (raw t ∷ is) h = ap (λ (r : List Item). raw t ∷ r) (placed_none m is h)

front_short : (m : ℕ) (is : List Item) → length (data_of (front m is)) ≤ m
front_short m is = omega (arith, ap length (data_front m is), length-take m (data_of is))

-- the bytes x for the first byte, after the entries before it, and nothing for those behind
placed_gone : (x : Bytes) (m : ℕ) (is : List Item) → 1 ≤ length (data_of is)
    → placed (x ∷ replicate m []) (front (suc m) is) ≡ front 0 is ++ (byte_items x ++ entries_only (front (suc m) (back 0 is)))
placed_gone x m [] h = absurd (omega (arith, h))
placed_gone x m (byte b ∷ is) h = ap (λ (r : List Item). byte_items x ++ r) (placed_none m (front m is) (front_short m is))
placed_gone x m (push k ∷ is) h = ap (λ (r : List Item). push k ∷ r) (placed_gone x m is h)
placed_gone x m (pop ∷ is) h = ap (λ (r : List Item). pop ∷ r) (placed_gone x m is h)
placed_gone x m (raw t ∷ is) h = ap (λ (r : List Item). raw t ∷ r) (placed_gone x m is h)

-- ── in two parts: of the first n bytes, and of those behind
placed-front : (fs gs : List Bytes) (n : ℕ) (is : List Item) → length fs ≡ n → n ≤ length (data_of is) → placed (fs ++ gs) is ≡ placed fs (front n is) ++ placed gs (back n is)
placed-front fs gs n [] e h = refl
placed-front [] gs zero (byte b ∷ is) e h = refl
placed-front (f ∷ fs) gs zero (byte b ∷ is) e h = absurd (omega (arith, e))
placed-front [] gs (suc n) (byte b ∷ is) e h = absurd (omega (arith, e))
placed-front (f ∷ fs) gs (suc n) (byte b ∷ is) e h =
    ap (λ (r : List Item). byte_items f ++ r) (placed-front fs gs n is (omega (arith, e)) (omega (arith, h)))
    ∙ sym (append_assoc (byte_items f) (placed fs (front n is)) (placed gs (back n is)))
placed-front fs gs n (push k ∷ is) e h = ap (λ (r : List Item). push k ∷ r) (placed-front fs gs n is e h)
placed-front fs gs n (pop ∷ is) e h = ap (λ (r : List Item). pop ∷ r) (placed-front fs gs n is e h)
placed-front fs gs n (raw t ∷ is) e h = ap (λ (r : List Item). raw t ∷ r) (placed-front fs gs n is e h)

pub length_gone : (c : Character) → 1 ≤ length c.text → length (gone c) ≡ length c.text
length_gone c h = omega (arith, length-replicate {A = Bytes} (length c.text - 1) [])

-- ── the floor's edit, character for character
module _ (fs : List Bytes) (ops : List Op) (c : Character) (cs : List Character) (is : List Item) (some : 1 ≤ length c.text) (e : data_of is ≡ c.text ++ bytes_of cs)
    (rest : edit ops (back (length c.text) is) ≡ placed fs (back (length c.text) is)) where
  abbrev n : ℕ
  n = length c.text

  enough : n ≤ length (data_of is)
  enough = omega (arith, ap length e, length-append c.text (bytes_of cs))

  own : data_of (front n is) ≡ c.text
  own = data_front n is ∙ ap (take n) e ∙ take-append_seam c.text (bytes_of cs)

  keeps : edit (keep n ∷ ops) is ≡ placed (singles c.text ++ fs) is
  keeps =
      ap (λ (r : List Item). front n is ++ r) rest
      ∙ ap (λ (r : List Item). r ++ placed fs (back n is)) (sym (ap (λ (d : Bytes). placed (singles d) (front n is)) (sym own) ∙ placed_kept (front n is)))
      ∙ sym (placed-front (singles c.text) fs n is (length-singles c.text) enough)

  goes : edit (put (byte_items (stars c)) ∷ skip n ∷ ops) is ≡ placed (gone c ++ fs) is
  goes =
      let x : Bytes = stars c in
      let m : suc (n - 1) ≡ n = omega (arith, some) in
      let z : 0 + n ≡ n = omega arith in
      let inner : List Item = entries_only (front n (back 0 is)) in
      let g : placed (gone c) (front n is) ≡ front 0 is ++ (byte_items x ++ inner) =
      (rw m at (placed_gone x (n - 1) is (omega (arith, enough, some)))) in
      ap (λ (r : List Item). front 0 is ++ (byte_items x ++ (inner ++ edit ops r))) (sym (back-add 0 n is) ∙ ap (λ (k : ℕ). back k is) z)
      ∙ ap (λ (r : List Item). front 0 is ++ (byte_items x ++ (inner ++ r))) rest
      ∙ ap (λ (r : List Item). front 0 is ++ r) (sym (append_assoc (byte_items x) inner (placed fs (back n is))))
      ∙ sym (append_assoc (front 0 is) (byte_items x ++ inner) (placed fs (back n is)))
      ∙ ap (λ (r : List Item). r ++ placed fs (back n is)) (sym g)
      ∙ sym (placed-front (gone c) fs n is (length_gone c some) enough)

edit-placed : (hs : List Bool) (cs : List Character) (is : List Item) → length hs ≡ length cs → Valid cs → data_of is ≡ bytes_of cs → edit (floor_ops hs cs) is ≡ placed (fates_of hs cs) is
edit-placed [] [] is q v e = sym (ap (λ (d : Bytes). placed (singles d) is) (sym e) ∙ placed_kept is)
edit-placed [] (c ∷ cs) is q v e = absurd (omega (arith, q))
edit-placed (h ∷ hs) [] is q v e = absurd (omega (arith, q))
edit-placed (true ∷ hs) (c ∷ cs) is q v e =
    goes (fates_of hs cs) (floor_ops hs cs) c cs is (omega (arith, ap length v.0.text)) e
    (edit-placed hs cs (back (length c.text) is) (omega (arith, q)) v.1 (data_back (length c.text) is ∙ ap (drop (length c.text)) e ∙ drop-append_seam c.text (bytes_of cs)))
edit-placed (false ∷ hs) (c ∷ cs) is q v e =
    keeps (fates_of hs cs) (floor_ops hs cs) c cs is (omega (arith, ap length v.0.text)) e
    (edit-placed hs cs (back (length c.text) is) (omega (arith, q)) v.1 (data_back (length c.text) is ∙ ap (drop (length c.text)) e ∙ drop-append_seam c.text (bytes_of cs)))

pub floor_placed : (l : Bytes) (r : Recording) → floor_items l r ≡ to_come l (fates l r) [] (items r)
unfolding floor_items hidden fates
floor_placed l r =
    edit-placed (hidden l r) (chars r.data_bytes) (drop_raws l [] (items r)) (length-hidden l (chars r.data_bytes) (coloured r)) (valid-chars r.data_bytes)
    (drop_data l [] (items r) ∙ data_items r ∙ sym (bytes-chars r.data_bytes))

-- ── one step further: an entry, or a run of bytes without an entry inside
pub placed-bytes : (fs gs : List Bytes) (d : Bytes) (is : List Item) → length fs ≡ length d → placed (fs ++ gs) (byte_items d ++ is) ≡ byte_items (flatten fs) ++ placed gs is
unfolding flatten
placed-bytes [] gs [] is e = refl
placed-bytes [] gs (b ∷ d) is e = absurd (omega (arith, e))
placed-bytes (f ∷ fs) gs [] is e = absurd (omega (arith, e))
placed-bytes (f ∷ fs) gs (b ∷ d) is e =
    ap (λ (r : List Item). byte_items f ++ r) (placed-bytes fs gs d is (omega (arith, e)))
    ∙ sym (append_assoc (byte_items f) (byte_items (flatten fs)) (placed gs is))
    ∙ ap (λ (r : List Item). r ++ placed gs is) (sym (bytes-append f (flatten fs)))

drop-bytes : (l : Bytes) (s : List Bytes) (d : Bytes) (is : List Item) → drop_raws l s (byte_items d ++ is) ≡ byte_items d ++ drop_raws l s is
drop-bytes l s [] is = refl
drop-bytes l s (b ∷ d) is = ap (λ (r : List Item). byte b ∷ r) (drop-bytes l s d is)

pub come_run : (l : Bytes) (fs gs : List Bytes) (s : List Bytes) (d : Bytes) (is : List Item) → length fs ≡ length d
    → to_come l (fs ++ gs) s (byte_items d ++ is) ≡ byte_items (flatten fs) ++ to_come l gs s is
come_run l fs gs s d is e = ap (placed (fs ++ gs)) (drop-bytes l s d is) ∙ placed-bytes fs gs d (drop_raws l s is) e

-- entries alone stay as they are
placed-entries : (fs : List Bytes) (a is : List Item) → data_of a ≡ [] → placed fs (a ++ is) ≡ a ++ placed fs is
placed-entries fs [] is e = refl
placed-entries fs (byte b ∷ a) is e = absurd (omega (arith, ap length e))
placed-entries fs (push k ∷ a) is e = ap (λ (r : List Item). push k ∷ r) (placed-entries fs a is e)
placed-entries fs (pop ∷ a) is e = ap (λ (r : List Item). pop ∷ r) (placed-entries fs a is e)
placed-entries fs (raw t ∷ a) is e = ap (λ (r : List Item). raw t ∷ r) (placed-entries fs a is e)

pub come_entries : (l : Bytes) (fs : List Bytes) (s : List Bytes) (is : List Item)
    → to_come l fs s is ≡ drop_raws l s (front 0 is) ++ to_come l fs (open_after s (front 0 is)) (back 0 is)
come_entries l fs s is =
    ap (λ (x : List Item). placed fs (drop_raws l s x)) (sym (front_with_back 0 is)) ∙ ap (placed fs) (drop-append l s (front 0 is) (back 0 is))
    ∙ placed-entries fs (drop_raws l s (front 0 is)) (drop_raws l (open_after s (front 0 is)) (back 0 is)) (drop_data l s (front 0 is) ∙ data_front 0 is)

-- ── the data that is left
data_placed : (fs : List Bytes) (is : List Item) → length fs ≡ length (data_of is) → data_of (placed fs is) ≡ flatten fs
unfolding flatten
data_placed [] [] e = refl
data_placed (f ∷ fs) [] e = absurd (omega (arith, e))
data_placed [] (byte b ∷ is) e = absurd (omega (arith, e))
data_placed (f ∷ fs) (byte b ∷ is) e = data_append (byte_items f) (placed fs is) ∙ rw (data_bytes_lem f, data_placed fs is (omega (arith, e)))
data_placed [] (push k ∷ is) e = data_placed [] is e
data_placed (f ∷ fs) (push k ∷ is) e = data_placed (f ∷ fs) is e
data_placed [] (pop ∷ is) e = data_placed [] is e
data_placed (f ∷ fs) (pop ∷ is) e = data_placed (f ∷ fs) is e
data_placed [] (raw t ∷ is) e = data_placed [] is e
data_placed (f ∷ fs) (raw t ∷ is) e = data_placed (f ∷ fs) is e

length-fates_of : (hs : List Bool) (cs : List Character) → length hs ≡ length cs → Valid cs → length (fates_of hs cs) ≡ length (bytes_of cs)
length-fates_of [] [] q v = refl
length-fates_of [] (c ∷ cs) q v = absurd (omega (arith, q))
length-fates_of (h ∷ hs) [] q v = absurd (omega (arith, q))
length-fates_of (true ∷ hs) (c ∷ cs) q v =
    omega (arith, length-append (gone c) (fates_of hs cs), length-append c.text (bytes_of cs), length_gone c (omega (arith, ap length v.0.text)), length-fates_of hs cs (omega (arith, q)) v.1)
length-fates_of (false ∷ hs) (c ∷ cs) q v =
    omega (arith, length-append (singles c.text) (fates_of hs cs), length-append c.text (bytes_of cs), length-singles c.text, length-fates_of hs cs (omega (arith, q)) v.1)

-- one for each data byte
pub length-fates : (l : Bytes) (r : Recording) → length (fates l r) ≡ length r.data_bytes
unfolding fates
length-fates l r =
    let cs = chars r.data_bytes in
    length-fates_of (hidden_from l cs (coloured r)) cs (length-hidden l cs (coloured r)) (valid-chars r.data_bytes) ∙ ap length (bytes-chars r.data_bytes)

pub data_floor : (l : Bytes) (r : Recording) → data_of (floor_items l r) ≡ flatten (fates l r)
data_floor l r =
    ap data_of (floor_placed l r) ∙ data_placed (fates l r) (drop_raws l [] (items r)) (length-fates l r ∙ sym (ap length (drop_data l [] (items r) ∙ data_items r)))
