-- What is written adds at the ends (`entries-append`, `text_after`), and how many entries an edit writes: the content's and those put in.
-- Also the steps of a loop over content: an entry here, or bytes up to the next entry.
use Prim.Native.Nat.{ℕ, zero, suc, ◌+◌, ◌-◌, ◌*◌, ◌≤◌}
use native.Mathlib.Omega.{arith}
use mathlib.Core.Path.{◌≡◌, refl, sym, ap, ◌∙◌}
use mathlib.Core.List.{List, [], ◌∷◌, ◌++◌, append_assoc, append-nil}
use lib.ListN.{length, take, drop, take-append-drop}
use lib.Seq.{take-add, drop-drop}
use Rattle.recording.proofs.ItemsLaws.{bytes-append}
use Rattle.recording.specs.declared.Entry.{Entry}
use Rattle.recording.specs.Recording.{Bytes, entry, numbers_of_ranges, part_of, Item, byte, push, pop, raw, byte_items, data_of, text_of, push_at, new_text, entries_from, text_from, item_of, items_from}
use Rattle.recording.specs.Edit.{Op, keep, skip, put, front, back, entries_only, edit}

pub append-cons : (es : List Entry) (e : Entry) (r : List Entry) → (es ++ (e ∷ [])) ++ r ≡ es ++ e ∷ r
append-cons es e r = append_assoc es (e ∷ []) r

pub text_append : (a b : List Item) → text_of (a ++ b) ≡ text_of a ++ text_of b
text_append [] b = refl
text_append (byte x ∷ a) b = text_append a b
text_append (push l ∷ a) b = rw (text_append a b) (sym (append_assoc l (text_of a) (text_of b)))
text_append (pop ∷ a) b = text_append a b
text_append (raw l ∷ a) b = rw (text_append a b) (sym (append_assoc l (text_of a) (text_of b)))

-- what comes after some items is written behind what they leave
module _ (b : List Item) where
  pub entries-append : (a : List Item) (at : ℕ) (t : Bytes) (es : List Entry)
      → entries_from at t es (a ++ b) ≡ entries_from at t es a ++ entries_from (at + length (data_of a)) (t ++ text_from at t es a) (es ++ entries_from at t es a) b
  entries-append [] at t es = let e : at + 0 ≡ at = omega arith in rw (e, append-nil t, append-nil es)
  entries-append (byte x ∷ a) at t es =
      let e : at + suc (length (data_of a)) ≡ suc at + length (data_of a) = omega arith in rw e (entries-append a (suc at) t es)
  entries-append (push l ∷ a) at t es =
      let e : Entry = push_at at t es l in
      let n : Bytes = new_text l t es in
      rw (← append_assoc t n (text_from at (t ++ n) (es ++ (e ∷ [])) a), ← append-cons es e (entries_from at (t ++ n) (es ++ (e ∷ [])) a))
      (ap (λ (r : List Entry). e ∷ r) (entries-append a at (t ++ n) (es ++ (e ∷ []))))
  entries-append (pop ∷ a) at t es =
      let e : Entry = entry at 1 0 0 in
      rw (← append-cons es e (entries_from at t (es ++ (e ∷ [])) a)) (ap (λ (r : List Entry). e ∷ r) (entries-append a at t (es ++ (e ∷ []))))
  entries-append (raw x ∷ a) at t es =
      let e : Entry = entry at 2 (length t) (length x) in
      rw (← append_assoc t x (text_from at (t ++ x) (es ++ (e ∷ [])) a), ← append-cons es e (entries_from at (t ++ x) (es ++ (e ∷ [])) a))
      (ap (λ (r : List Entry). e ∷ r) (entries-append a at (t ++ x) (es ++ (e ∷ []))))

  pub text_after : (a : List Item) (at : ℕ) (t : Bytes) (es : List Entry)
      → text_from at t es (a ++ b) ≡ text_from at t es a ++ text_from (at + length (data_of a)) (t ++ text_from at t es a) (es ++ entries_from at t es a) b
  text_after [] at t es = let e : at + 0 ≡ at = omega arith in rw (e, append-nil t, append-nil es)
  text_after (byte x ∷ a) at t es =
      let e : at + suc (length (data_of a)) ≡ suc at + length (data_of a) = omega arith in rw e (text_after a (suc at) t es)
  text_after (push l ∷ a) at t es =
      let e : Entry = push_at at t es l in
      let n : Bytes = new_text l t es in
      rw (← append_assoc t n (text_from at (t ++ n) (es ++ (e ∷ [])) a), ← append-cons es e (entries_from at (t ++ n) (es ++ (e ∷ [])) a), append_assoc n (text_from at (t ++ n) (es ++ (e ∷ [])) a))
      (ap (λ (r : Bytes). n ++ r) (text_after a at (t ++ n) (es ++ (e ∷ []))))
  text_after (pop ∷ a) at t es =
      let e : Entry = entry at 1 0 0 in
      rw (← append-cons es e (entries_from at t (es ++ (e ∷ [])) a)) (text_after a at t (es ++ (e ∷ [])))
  text_after (raw x ∷ a) at t es =
      let e : Entry = entry at 2 (length t) (length x) in
      rw (← append_assoc t x (text_from at (t ++ x) (es ++ (e ∷ [])) a), ← append-cons es e (entries_from at (t ++ x) (es ++ (e ∷ [])) a), append_assoc x (text_from at (t ++ x) (es ++ (e ∷ [])) a))
      (ap (λ (r : Bytes). x ++ r) (text_after a at (t ++ x) (es ++ (e ∷ []))))

-- ── sizes: no entry is dropped, so the entries of an edit are those of the content and of what is put in
abbrev pub entry_count : List Item → ℕ
entry_count [] = 0
entry_count (byte b ∷ is) = entry_count is
entry_count (push l ∷ is) = suc (entry_count is)
entry_count (pop ∷ is) = suc (entry_count is)
entry_count (raw t ∷ is) = suc (entry_count is)

pub length-entries : (is : List Item) (at : ℕ) (t : Bytes) (es : List Entry) → length (entries_from at t es is) ≡ entry_count is
length-entries [] at t es = refl
length-entries (byte b ∷ is) at t es = length-entries is (suc at) t es
length-entries (push l ∷ is) at t es = ap suc (length-entries is at (t ++ new_text l t es) (es ++ (push_at at t es l ∷ [])))
length-entries (pop ∷ is) at t es = ap suc (length-entries is at t (es ++ (entry at 1 0 0 ∷ [])))
length-entries (raw x ∷ is) at t es = ap suc (length-entries is at (t ++ x) (es ++ (entry at 2 (length t) (length x) ∷ [])))

pub length_numbers : (es : List Entry) → length (numbers_of_ranges es) ≡ 4 * length es
length_numbers [] = refl
length_numbers (e ∷ es) = omega (arith, length_numbers es)

pub numbers_append : (a b : List Entry) → numbers_of_ranges (a ++ b) ≡ numbers_of_ranges a ++ numbers_of_ranges b
numbers_append [] b = refl
numbers_append (e ∷ a) b = ap (λ (r : List ℕ). e.position ∷ e.kind ∷ e.start ∷ e.len ∷ r) (numbers_append a b)

-- the entry numbers that items take
pub count_numbers : (is : List Item) (at : ℕ) (t : Bytes) (es : List Entry) → length (numbers_of_ranges (entries_from at t es is)) ≡ 4 * entry_count is
count_numbers is at t es = length_numbers (entries_from at t es is) ∙ ap (λ (n : ℕ). 4 * n) (length-entries is at t es)

abbrev pub text_len : List Item → ℕ
text_len is = length (text_of is)

abbrev pub put_count : List Op → ℕ
put_count [] = 0
put_count (keep n ∷ ops) = put_count ops
put_count (skip n ∷ ops) = put_count ops
put_count (put p ∷ ops) = entry_count p + put_count ops

pub count-append : (a b : List Item) → entry_count (a ++ b) ≡ entry_count a + entry_count b
count-append [] b = omega arith
count-append (byte x ∷ a) b = count-append a b
count-append (push l ∷ a) b = omega (arith, count-append a b)
count-append (pop ∷ a) b = omega (arith, count-append a b)
count-append (raw l ∷ a) b = omega (arith, count-append a b)

pub count_split : (n : ℕ) (is : List Item) → entry_count (front n is) + entry_count (back n is) ≡ entry_count is
count_split n [] = refl
count_split zero (byte x ∷ is) = omega arith
count_split (suc n) (byte x ∷ is) = count_split n is
count_split n (push l ∷ is) = omega (arith, count_split n is)
count_split n (pop ∷ is) = omega (arith, count_split n is)
count_split n (raw l ∷ is) = omega (arith, count_split n is)

pub count_only : (is : List Item) → entry_count (entries_only is) ≡ entry_count is
count_only [] = refl
count_only (byte x ∷ is) = count_only is
count_only (push l ∷ is) = omega (arith, count_only is)
count_only (pop ∷ is) = omega (arith, count_only is)
count_only (raw l ∷ is) = omega (arith, count_only is)

pub edit-count : (ops : List Op) (is : List Item) → entry_count (edit ops is) ≡ entry_count is + put_count ops
edit-count [] is = omega arith
edit-count (keep n ∷ ops) is = omega (arith, count-append (front n is) (edit ops (back n is)), edit-count ops (back n is), count_split n is)
edit-count (skip n ∷ ops) is = omega (arith, count-append (entries_only (front n is)) (edit ops (back n is)), count_only (front n is), edit-count ops (back n is), count_split n is)
edit-count (put p ∷ ops) is =
    omega (arith, count-append (front 0 is) (p ++ edit ops (back 0 is)), count-append p (edit ops (back 0 is)), edit-count ops (back 0 is), count_split 0 is)

-- ── one step of a loop over content: an entry here, or bytes up to the next entry
abbrev pub IsEntry : Item → Type 0
IsEntry (byte b) = ⊥
IsEntry (push l) = Unit {0}
IsEntry pop = Unit {0}
IsEntry (raw t) = Unit {0}

pub front-entry : (n : ℕ) (e : Item) (is : List Item) → IsEntry e → front n (e ∷ is) ≡ e ∷ front n is
front-entry n (byte b) is h = absurd h
front-entry n (push l) is h = refl
front-entry n pop is h = refl
front-entry n (raw t) is h = refl

pub back-entry : (n : ℕ) (e : Item) (is : List Item) → IsEntry e → back n (e ∷ is) ≡ back n is
back-entry n (byte b) is h = absurd h
back-entry n (push l) is h = refl
back-entry n pop is h = refl
back-entry n (raw t) is h = refl

pub front_bytes : (d : Bytes) (n : ℕ) (is : List Item) → front (length d + n) (byte_items d ++ is) ≡ byte_items d ++ front n is
front_bytes [] n is = let e : 0 + n ≡ n = omega arith in rw e
front_bytes (b ∷ d) n is = let e : suc (length d) + n ≡ suc (length d + n) = omega arith in rw (e, front_bytes d n is)

pub back-bytes : (d : Bytes) (n : ℕ) (is : List Item) → back (length d + n) (byte_items d ++ is) ≡ back n is
back-bytes [] n is = let e : 0 + n ≡ n = omega arith in rw e
back-bytes (b ∷ d) n is = let e : suc (length d) + n ≡ suc (length d + n) = omega arith in rw (e, back-bytes d n is)

-- the text of an edit has the length of the content's text and of the texts put in
pub text_only : (is : List Item) → text_of (entries_only is) ≡ text_of is
text_only [] = refl
text_only (byte x ∷ is) = text_only is
text_only (push l ∷ is) = rw (text_only is)
text_only (pop ∷ is) = text_only is
text_only (raw l ∷ is) = rw (text_only is)

-- bytes come first as far as the next entry stands
pub cursor_bytes : (m at : ℕ) (t d : Bytes) (e : Entry) (es : List Entry) → at + m ≤ e.position
    → items_from at t d (e ∷ es) ≡ byte_items (take m d) ++ items_from (at + m) t (drop m d) (e ∷ es)
cursor_bytes m at t d e es h =
    let p : ℕ = e.position in
    let q : p - at ≡ m + (p - (at + m)) = omega arith in
    rw (q, take-add m (p - (at + m)) d, bytes-append (take m d) (take (p - (at + m)) (drop m d)), drop-drop (p - (at + m)) m d)
    (append_assoc (byte_items (take m d)) (byte_items (take (p - (at + m)) (drop m d))) (item_of e.kind (part_of t e) ∷ items_from p t (drop (m + (p - (at + m))) d) es))

pub cursor_end : (m at : ℕ) (t d : Bytes) → items_from at t d [] ≡ byte_items (take m d) ++ items_from (at + m) t (drop m d) []
cursor_end m at t d = rw (← bytes-append (take m d) (drop m d)) (ap byte_items (sym (take-append-drop m d)))
