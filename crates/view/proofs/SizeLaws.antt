-- The lengths of what the floor is left, for code that settles 9 and 21 to 23 before it writes: data by the characters (`floor_data`, `floor_data_length`), entries by the content without
-- the raw sequences that go (`floor_entries`), text by its raw sequences (`floor_raws`) and its labels, which are the content's (`floor_labels`). None is longer than what the office is left (`data_bound`, `entries_bound`, `text_bound`).
-- The idea for data: no character has more columns than bytes (`chars/proofs/NarrowLaws.antt`).
use Prim.Native.Nat.{ℕ, suc, ◌+◌, ◌-◌, ◌*◌, ◌≤◌}
use native.Mathlib.Omega.{arith}
use mathlib.Core.Bool.{Bool, true, false, cond}
use mathlib.Core.Path.{◌≡◌, refl, sym, ap, ◌∙◌}
use mathlib.Core.List.{List, [], ◌∷◌, ◌++◌, tail}
use lib.ListN.{length, drop, length-append, length-replicate}
use lib.Seq.{take-append_seam, drop-append_seam}
use Rattle.chars.specs.Chars.{Character, chars, bytes_of, wide}
use Rattle.chars.proofs.CharsLaws.{Valid, bytes-chars, valid-chars}
use Rattle.chars.proofs.NarrowLaws.{wide_text}
use Rattle.recording.specs.Recording.{Bytes, Recording, Item, byte, push, pop, raw, items, encode, text_of}
use Rattle.recording.specs.Coloured.{Coloured, coloured}
use Rattle.recording.specs.Edit.{Op, edit, edit_data}
use Rattle.recording.proofs.EditLaws.{edit_data_lem}
use Rattle.recording.proofs.ItemsLaws.{data_items, data_bytes_lem}
use Rattle.recording.proofs.SizeLaws.{entry_count, count_numbers, text_len, edit-count}
use Rattle.recording.specs.Lists.{same}
use Rattle.recording.specs.Share.{sum_of, raw_len_of, push_of, times}
use Rattle.recording.proofs.ShareLaws.{encode-length, labels_same, text_shorter}
use Rattle.layout.proofs.StripLaws.{BarePuts, no_puts, sum_kept, text_kept}
use Rattle.view.specs.View.{among, hidden_from, hidden, stars, floor_ops, drop_raws, floor_items, floor_of}
use Rattle.view.proofs.DropLaws.{bare_floor, drop_data}

-- ── data: for each character its stars or its bytes
abbrev pub floor_bytes : List Bool → List Character → Bytes
floor_bytes [] cs = []
floor_bytes (h ∷ hs) [] = []
floor_bytes (true ∷ hs) (c ∷ cs) = stars c ++ floor_bytes hs cs
floor_bytes (false ∷ hs) (c ∷ cs) = c.text ++ floor_bytes hs cs

-- and how many these are: one number to add for each character
abbrev pub floor_length : List Bool → List Character → ℕ
floor_length [] cs = 0
floor_length (h ∷ hs) [] = 0
floor_length (true ∷ hs) (c ∷ cs) = wide c + floor_length hs cs
floor_length (false ∷ hs) (c ∷ cs) = length c.text + floor_length hs cs

edit-bytes : (hs : List Bool) (cs : List Character) → length hs ≡ length cs → edit_data (floor_ops hs cs) (bytes_of cs) ≡ floor_bytes hs cs
edit-bytes [] [] e = refl
edit-bytes [] (c ∷ cs) e = absurd (omega (arith, e))
edit-bytes (h ∷ hs) [] e = absurd (omega (arith, e))
edit-bytes (true ∷ hs) (c ∷ cs) e = rw (data_bytes_lem (stars c), drop-append_seam c.text (bytes_of cs), edit-bytes hs cs (omega (arith, e)))
edit-bytes (false ∷ hs) (c ∷ cs) e = rw (take-append_seam c.text (bytes_of cs), drop-append_seam c.text (bytes_of cs), edit-bytes hs cs (omega (arith, e)))

length_floor : (hs : List Bool) (cs : List Character) → length (floor_bytes hs cs) ≡ floor_length hs cs
length_floor [] cs = refl
length_floor (h ∷ hs) [] = refl
length_floor (true ∷ hs) (c ∷ cs) = omega (arith, length-append (stars c) (floor_bytes hs cs), length-replicate {A = ℕ} (wide c) 0x2A, length_floor hs cs)
length_floor (false ∷ hs) (c ∷ cs) = omega (arith, length-append c.text (floor_bytes hs cs), length_floor hs cs)

pub length-hidden : (l : Bytes) (cs : List Character) (xs : List Coloured) → length (hidden_from l cs xs) ≡ length cs
length-hidden l [] xs = refl
length-hidden l (c ∷ cs) xs = ap suc (length-hidden l cs (drop (length c.text) xs))

-- ── without the raw sequences that go
raw-count : (t : Bool) (x : Bytes) (is : List Item) → entry_count (cond t [] (raw x ∷ []) ++ is) ≤ suc (entry_count is)
raw-count true x is = omega arith
raw-count false x is = omega arith

raw_text : (t : Bool) (x : Bytes) (is : List Item) → text_len (cond t [] (raw x ∷ []) ++ is) ≤ length x + text_len is
raw_text true x is = omega arith
raw_text false x is = omega (arith, length-append x (text_of is))

drop-count : (l : Bytes) (s : List Bytes) (is : List Item) → entry_count (drop_raws l s is) ≤ entry_count is
drop-count l s [] = omega arith
drop-count l s (byte b ∷ is) = drop-count l s is
drop-count l s (push k ∷ is) = omega (arith, drop-count l (k ∷ s) is)
drop-count l s (pop ∷ is) = omega (arith, drop-count l (tail s) is)
drop-count l s (raw t ∷ is) = omega (arith, raw-count (among l s) t (drop_raws l s is), drop-count l s is)

pub drop_text : (l : Bytes) (s : List Bytes) (is : List Item) → text_len (drop_raws l s is) ≤ text_len is
drop_text l s [] = omega arith
drop_text l s (byte b ∷ is) = drop_text l s is
drop_text l s (push k ∷ is) = omega (arith, drop_text l (k ∷ s) is, length-append k (text_of is), length-append k (text_of (drop_raws l (k ∷ s) is)))
drop_text l s (pop ∷ is) = drop_text l (tail s) is
drop_text l s (raw t ∷ is) = omega (arith, raw_text (among l s) t (drop_raws l s is), drop_text l s is, length-append t (text_of is))

-- labels all stay
drop_labels : (l : Bytes) (s : List Bytes) (is : List Item) (k : Bytes) → times k (drop_raws l s is) ≡ times k is
drop_labels l s [] k = refl
drop_labels l s (byte b ∷ is) k = ap (λ (n : ℕ). 0 + n) (drop_labels l s is k)
drop_labels l s (push x ∷ is) k = ap (λ (n : ℕ). cond (same x k) 1 0 + n) (drop_labels l (x ∷ s) is k)
drop_labels l s (pop ∷ is) k = ap (λ (n : ℕ). 0 + n) (drop_labels l (tail s) is k)
drop_labels l s (raw x ∷ is) k = go (among l s) (drop_labels l s is k)
  where
    go : (t : Bool) → times k (drop_raws l s is) ≡ times k is → times k (cond t [] (raw x ∷ []) ++ drop_raws l s is) ≡ 0 + times k is
    go true h = omega (arith, h)
    go false h = omega (arith, h)

-- so the texts lose what the raw sequences lose
drop-raws : (l : Bytes) (s : List Bytes) (is : List Item) → sum_of raw_len_of (drop_raws l s is) + text_len is ≡ sum_of raw_len_of is + text_len (drop_raws l s is)
drop-raws l s [] = refl
drop-raws l s (byte b ∷ is) = omega (arith, drop-raws l s is)
drop-raws l s (push x ∷ is) = omega (arith, drop-raws l (x ∷ s) is, length-append x (text_of is), length-append x (text_of (drop_raws l (x ∷ s) is)))
drop-raws l s (pop ∷ is) = omega (arith, drop-raws l (tail s) is)
drop-raws l s (raw x ∷ is) = go (among l s) (drop-raws l s is)
  where
    go : (t : Bool) → sum_of raw_len_of (drop_raws l s is) + text_len is ≡ sum_of raw_len_of is + text_len (drop_raws l s is)
        → sum_of raw_len_of (cond t [] (raw x ∷ []) ++ drop_raws l s is) + text_len (raw x ∷ is) ≡ sum_of raw_len_of (raw x ∷ is) + text_len (cond t [] (raw x ∷ []) ++ drop_raws l s is)
    go true h = omega (arith, h, length-append x (text_of is))
    go false h = omega (arith, h, length-append x (text_of is), length-append x (text_of (drop_raws l s is)))

-- ── entries and text: stars have none
module _ (l : Bytes) (r : Recording) where
  abbrev ops : List Op
  ops = floor_ops (hidden l r) (chars r.data_bytes)

  bare : BarePuts ops
  bare = bare_floor (hidden l r) (chars r.data_bytes)

  pub floor_data : (floor_of l r).data_bytes ≡ floor_bytes (hidden l r) (chars r.data_bytes)
  unfolding encode floor_items hidden
  floor_data =
      edit_data_lem ops (drop_raws l [] (items r)) ∙ ap (edit_data ops) (drop_data l [] (items r) ∙ data_items r ∙ sym (bytes-chars r.data_bytes))
      ∙ edit-bytes (hidden l r) (chars r.data_bytes) (length-hidden l (chars r.data_bytes) (coloured r))

  pub floor_data_length : length (floor_of l r).data_bytes ≡ floor_length (hidden l r) (chars r.data_bytes)
  floor_data_length = ap length floor_data ∙ length_floor (hidden l r) (chars r.data_bytes)

  pub floor_entries : length (floor_of l r).entry_numbers ≡ 4 * entry_count (drop_raws l [] (items r))
  unfolding encode floor_items
  floor_entries =
      count_numbers (edit ops (drop_raws l [] (items r))) 0 [] []
      ∙ ap (λ (n : ℕ). 4 * n) (omega (arith, edit-count ops (drop_raws l [] (items r)), no_puts ops bare))

  -- the raw sequences that go are what the texts side by side lose
  pub floor_raws : sum_of raw_len_of (floor_items l r) + (text_len (items r) - text_len (drop_raws l [] (items r))) ≡ sum_of raw_len_of (items r)
  unfolding floor_items
  floor_raws =
      omega (arith, sum_kept raw_len_of (λ b. refl) ops (drop_raws l [] (items r)) bare, drop-raws l [] (items r), drop_text l [] (items r))

  pub floor_labels : (k : Bytes) → times k (floor_items l r) ≡ times k (items r)
  unfolding floor_items
  floor_labels k = sum_kept (push_of k) (λ b. refl) ops (drop_raws l [] (items r)) bare ∙ drop_labels l [] (items r) k

  -- all texts side by side, without the raw sequences that go, are never less
  pub floor_text_most : length (floor_of l r).text ≤ text_len (drop_raws l [] (items r))
  unfolding floor_items
  floor_text_most = omega (arith, text_kept ops (drop_raws l [] (items r)) bare, text_shorter (drop_raws l [] (items r)))

-- ── none is longer than what the office is left
length_bound : (hs : List Bool) (cs : List Character) → Valid cs → floor_length hs cs ≤ length (bytes_of cs)
length_bound [] cs v = omega arith
length_bound (h ∷ hs) [] v = omega arith
length_bound (true ∷ hs) (c ∷ cs) v = omega (arith, wide_text c (bytes_of cs) v.0, length_bound hs cs v.1, length-append c.text (bytes_of cs))
length_bound (false ∷ hs) (c ∷ cs) v = omega (arith, length_bound hs cs v.1, length-append c.text (bytes_of cs))

module _ (l : Bytes) (r : Recording) where
  pub data_bound : length (floor_of l r).data_bytes ≤ length r.data_bytes
  data_bound = omega (arith, floor_data_length l r, length_bound (hidden l r) (chars r.data_bytes) (valid-chars r.data_bytes), ap length (bytes-chars r.data_bytes))

  pub entries_bound : length (floor_of l r).entry_numbers ≤ length (encode (items r)).entry_numbers
  unfolding encode
  entries_bound = omega (arith, floor_entries l r, drop-count l [] (items r), count_numbers (items r) 0 [] [])

  pub text_bound : length (floor_of l r).text ≤ length (encode (items r)).text
  text_bound =
      let f = floor_items l r in
      omega (
        arith,
        encode-length f,
        encode-length (items r),
        floor_raws l r,
        labels_same f (items r) (λ k p. omega (arith, p, floor_labels l r k)) (λ k p. omega (arith, p, floor_labels l r k)),
      )
