-- The tabs as replacement records: their edit is the edit of the definition (`as_replaced`), none of them is bad (`tabs_good`), and how much longer the result is (`expanded_size`).
-- From place to place: a character that is no tab changes nothing (`char_passed`), a tab is the next record (`tab_next`), and at the end there is none (`tab_end`).
use Prim.Native.Nat.{ℕ, zero, suc, ◌+◌, ◌-◌, ◌*◌, ◌≤◌, ◌<◌}
use native.Mathlib.Nat.{add-mul, one-mul, mul-le-mul}
use native.Mathlib.Numerals.{add-one}
use native.Mathlib.Omega.{arith}
use mathlib.Core.Bool.{Bool, true, false, cond, ◌||◌, false≢true}
use mathlib.Core.Path.{◌≡◌, refl, sym, ap, subst, ◌∙◌}
use mathlib.Core.List.{List, [], ◌∷◌, ◌++◌}
use lib.Dec.{eqb, ltb}
use lib.ListN.{length, take, drop, get_or, length-append, length-drop}
use lib.Seq.{drop-cons}
use Rattle.std.specs.Prelude.{Option, None, Some, Ok, Err, Result}
use Rattle.std.specs.List.{AllWithin, HoldsAt}
use Rattle.std.specs.Option.{MatchOption, unwrap_or}
use Rattle.std.specs.Result.{is_ok}
use Rattle.std.proofs.lemmas.List.{get_or-drop}
use borrow.Author.Tests.{ne_eqb, ltb-false, le-ltb}
use Rattle.std.proofs.lemmas.Bool.Decides.{nat_tests}
use Rattle.chars.specs.Chars.{Character, char_at, char_in, chars, bytes_of, wide}
use Rattle.chars.proofs.CharsLaws.{bytes-chars, Valid, valid-chars, char_next, chars_end, char_some, char_inside}
use Rattle.chars.proofs.FoldLaws.{plain}
use Rattle.buffer.specs.Place.{part}
use Rattle.recording.specs.Recording.{recording, Item, byte_items, items}
use Rattle.recording.specs.declared.Refusal.{Refusal}
use Rattle.recording.specs.Check.{fault_of}
use Rattle.recording.specs.Refusals.{refuse_if}
use Rattle.recording.specs.Edit.{keep, skip, put, front, back, edit, edit_data}
use Rattle.recording.proofs.EditLaws.{front-back, back-back, front_with_back, kept_more}
use Rattle.recording.proofs.ItemsLaws.{edit-alike}
use Rattle.layout.specs.declared.Replacement.{Replacement}
use Rattle.layout.specs.Tabs.{spaces_at_column, spaces, leads_with, column_after, tab_ops}
use Rattle.layout.specs.Layout.{replace_ops, bad_record_of, records_fault, stop_fault}
use Rattle.layout.proofs.TabLaws.{some_spaces, Plain, Sort, tab, newline, other, sort, chars_tab}
use Rattle.replace.specs.Records.{replacement, capped}
use Rattle.replace.proofs.RecordLaws.{good, no_eight, capped_over, capped_in}
use Rattle.replace.proofs.ScanLaws.{size_next}
use Rattle.tabs.specs.declared.Place.{Place}
use Rattle.tabs.specs.Tabs.{tab_records, tabs_from, place, Onward, Passed, Reached, growth, one_tab_of, tab_count_of}

-- ── the edit
part-spaces : (n m : ℕ) → n ≤ m → part 0 n (spaces m) ≡ spaces n
part-spaces n m h = let z : n - 0 ≡ n = omega arith in rw z (go n m h)
  where
    go : (n m : ℕ) → n ≤ m → take n (spaces m) ≡ spaces n
    go zero m h = refl
    go (suc n) zero h = absurd (omega arith)
    go (suc n) (suc m) h = ap (λ (l : List ℕ). 0x20 ∷ l) (go n m (omega (arith, h)))

-- nothing is kept first
kept_none : (s c : ℕ) (cs : List Character) (is : List Item) → edit (keep 0 ∷ tab_ops s c cs) is ≡ edit (tab_ops s c cs) is
kept_none s c [] is = front_with_back 0 is
kept_none s c (ch ∷ cs) is = go (leads_with 0x09 ch)
  where
    p : List Item
    p = byte_items (spaces (spaces_at_column s c))

    n : ℕ
    n = length ch.text

    later : List Item → List Item
    later x = edit (tab_ops s (column_after s c ch) cs) x

    go : (t : Bool) → edit (keep 0 ∷ cond t (put p ∷ skip 1 ∷ []) (keep n ∷ []) ++ tab_ops s (column_after s c ch) cs) is
        ≡ edit (cond t (put p ∷ skip 1 ∷ []) (keep n ∷ []) ++ tab_ops s (column_after s c ch) cs) is
    go true = rw (front-back 0 is, back-back 0 is)
    go false = let z : 0 + n ≡ n = omega arith in kept_more 0 n (tab_ops s (column_after s c ch) cs) is ∙ ap (λ (m : ℕ). front m is ++ later (back m is)) z

-- ── the records from a character on: its own, if it is a tab, and those of the characters after it
module _ (s c at : ℕ) (ch : Character) (cs : List Character) where
  abbrev own : List Replacement
  own = replacement at (suc at) 0 (spaces_at_column s c) ∷ tab_records s (column_after s c ch) (suc at) cs

  abbrev none_own : List Replacement
  none_own = tab_records s (column_after s c ch) (at + length ch.text) cs

  records_tab : leads_with 0x09 ch ≡ true → tab_records s c at (ch ∷ cs) ≡ own
  records_tab t = ap (λ (b : Bool). cond b own none_own) t

  records_other : leads_with 0x09 ch ≡ false → tab_records s c at (ch ∷ cs) ≡ none_own
  records_other t = ap (λ (b : Bool). cond b own none_own) t

module _ (s : ℕ) (low : 1 ≤ s) (high : s ≤ 64) where
  -- `at` is the last record's end, `here` the place of the characters cs
  replaced_from : (c at here : ℕ) (cs : List Character) → at ≤ here → (is : List Item)
      → edit (keep (here - at) ∷ tab_ops s c cs) is ≡ edit (replace_ops (spaces 64) at (tab_records s c here cs)) is
  replaced_from c at here [] h is = front_with_back (here - at) is
  replaced_from c at here (ch ∷ cs) h is =
      go (leads_with 0x09 ch) (λ x. replaced_from (column_after s c ch) (suc here) (suc here) cs (omega arith) x) (replaced_from (column_after s c ch) at (here + length ch.text) cs (omega (arith, h)) is)
    where
      k : ℕ
      k = spaces_at_column s c

      n : ℕ
      n = length ch.text

      c' : ℕ
      c' = column_after s c ch

      a : ℕ
      a = here - at

      go : (t : Bool)
          → ((x : List Item) → edit (keep (suc here - suc here) ∷ tab_ops s c' cs) x ≡ edit (replace_ops (spaces 64) (suc here) (tab_records s c' (suc here) cs)) x)
          → edit (keep (here + n - at) ∷ tab_ops s c' cs) is ≡ edit (replace_ops (spaces 64) at (tab_records s c' (here + n) cs)) is
          → edit (keep a ∷ cond t (put (byte_items (spaces k)) ∷ skip 1 ∷ []) (keep n ∷ []) ++ tab_ops s c' cs) is
          ≡ edit (replace_ops (spaces 64) at (cond t (replacement here (suc here) 0 k ∷ tab_records s c' (suc here) cs) (tab_records s c' (here + n) cs))) is
      go true f g =
          let z : suc here - suc here ≡ 0 = omega arith in
          let o : suc here - here ≡ 1 = omega arith in
          let j : List Item = back 1 (back 0 (back a is)) in
          let e : edit (tab_ops s c' cs) j ≡ edit (replace_ops (spaces 64) (suc here) (tab_records s c' (suc here) cs)) j = sym (kept_none s c' cs j) ∙ (rw z at (f j)) in
          rw (o, part-spaces k 64 (omega (arith, (some_spaces s c low).1, high)), e)
      go false f g =
          let w : here + n - at ≡ a + n = omega (arith, h) in
          kept_more a n (tab_ops s c' cs) is ∙ (rw w at g)

  pub as_replaced : (cs : List Character) (is : List Item) → edit (tab_ops s 0 cs) is ≡ edit (replace_ops (spaces 64) 0 (tab_records s 0 0 cs)) is
  as_replaced cs is = sym (kept_none s 0 cs is) ∙ replaced_from 0 0 0 cs (omega arith) is

  -- ── none of the records is bad
  good_record : (last at n k : ℕ) → last ≤ at → suc at ≤ n → k ≤ 64 → bad_record_of last n 64 (replacement at (suc at) 0 k) ≡ false
  good_record last at n k p q r = rw (le-ltb (suc at) at (omega arith), le-ltb n (suc at) q, le-ltb at last p, le-ltb k 0 (omega arith), le-ltb 64 k r)

  good_from : (c last at n : ℕ) (cs : List Character) → Valid cs → last ≤ at → at + length (bytes_of cs) ≡ n → records_fault last n 64 (tab_records s c at cs) ≡ 0
  good_from c last at n [] v h e = refl
  good_from c last at n (ch ∷ cs) v h e = go (sort ch (bytes_of cs) v.0) (λ l a q g. good_from (column_after s c ch) l a n cs v.1 q g)
    where
      c' : ℕ
      c' = column_after s c ch

      long : length (bytes_of (ch ∷ cs)) ≡ length ch.text + length (bytes_of cs)
      long = length-append ch.text (bytes_of cs)

      Later : Type 0
      Later = (l a : ℕ) → l ≤ a → a + length (bytes_of cs) ≡ n → records_fault l n 64 (tab_records s c' a cs) ≡ 0

      kept : leads_with 0x09 ch ≡ false → Later → records_fault last n 64 (tab_records s c at (ch ∷ cs)) ≡ 0
      kept t f = ap (λ (xs : List Replacement). records_fault last n 64 xs) (records_other s c at ch cs t) ∙ f last (at + length ch.text) (omega (arith, h)) (omega (arith, e, long))

      go : Sort ch → Later → records_fault last n 64 (tab_records s c at (ch ∷ cs)) ≡ 0
      go (tab t x) f =
          let one : length ch.text ≡ 1 = ap length x in
          let b = good_record last at n (spaces_at_column s c) h (omega (arith, e, long, one)) (omega (arith, (some_spaces s c low).1, high)) in
          ap (λ (xs : List Replacement). records_fault last n 64 xs) (records_tab s c at ch cs t)
          ∙ ap (λ (u : Bool). cond u 8 (records_fault (suc at) n 64 (tab_records s c' (suc at) cs))) b ∙ f (suc at) (suc at) (omega arith) (omega (arith, e, long, one))
      go (newline t u x) f = kept t f
      go (other t u x) f = kept t f

  pub tabs_good : (ds : List ℕ) → records_fault 0 (length ds) 64 (tab_records s 0 0 (chars ds)) ≡ 0
  tabs_good ds = good_from 0 0 0 (length ds) (chars ds) (valid-chars ds) (omega arith) (omega (arith, ap length (bytes-chars ds)))

  -- ── how much longer the result is
  abbrev TabsOnly : List Replacement → Type 0
  TabsOnly [] = Unit {0}
  TabsOnly (x ∷ xs) = (x.end ≡ suc x.start) × (x.from ≡ 0) × (1 ≤ x.to) × TabsOnly xs

  tabs_only : (c at : ℕ) (cs : List Character) → TabsOnly (tab_records s c at cs)
  tabs_only c at [] = tt
  tabs_only c at (ch ∷ cs) = go (leads_with 0x09 ch) (tabs_only (column_after s c ch) (suc at) cs) (tabs_only (column_after s c ch) (at + length ch.text) cs)
    where
      go : (t : Bool) → TabsOnly (tab_records s (column_after s c ch) (suc at) cs) → TabsOnly (tab_records s (column_after s c ch) (at + length ch.text) cs)
          → TabsOnly (cond t (replacement at (suc at) 0 (spaces_at_column s c) ∷ tab_records s (column_after s c ch) (suc at) cs) (tab_records s (column_after s c ch) (at + length ch.text) cs))
      go true p q = (refl, refl, (some_spaces s c low).0, p)
      go false p q = q

  size_law : (ds new : List ℕ) (at : ℕ) (xs : List Replacement) → at ≤ length ds → records_fault at (length ds) (length new) xs ≡ 0 → TabsOnly xs
      → length (edit_data (replace_ops new at xs) (drop at ds)) ≡ (length ds - at) + growth xs
  size_law ds new at [] h f o = omega (arith, length-drop at ds)
  size_law ds new at (x ∷ xs) h f o =
      let e = no_eight (bad_record_of at (length ds) (length new) x) (records_fault x.end (length ds) (length new) xs) f in
      let g = good at (length ds) (length new) x e.0 in
      omega (arith, size_next ds new at x xs g, size_law ds new x.end xs g.high e.1 o.3, g.low, g.high, o.0, o.1, o.2)

  pub expanded_size : (ds : List ℕ) → length (edit_data (tab_ops s 0 (chars ds)) ds) ≡ length ds + growth (tab_records s 0 0 (chars ds))
  expanded_size ds =
      let ops = tab_ops s 0 (chars ds) in
      let xs : List Replacement = tab_records s 0 0 (chars ds) in
      let e : edit_data ops ds ≡ edit_data (replace_ops (spaces 64) 0 xs) ds = edit-alike ops (replace_ops (spaces 64) 0 xs) ds (as_replaced (chars ds)) in
      ap length e ∙ size_law ds (spaces 64) 0 xs (omega arith) (tabs_good ds) (tabs_only 0 0 (chars ds)) ∙ omega arith

-- ── from place to place
tabs_on : (ds : List ℕ) (at c n w : ℕ) → at < length ds → (get_or ds at 0 ≡ 0x09 → ⊥) → n ≡ length (char_in at ds).text → w ≡ cond (eqb (get_or ds at 0) 0x0A) 0 (c + wide (char_in at ds)) → (s : ℕ)
    → tabs_from s ds (place at c) ≡ tabs_from s ds (place (at + n) w)
unfolding tabs_from char_in char_at
tabs_on ds at c n w more not_tab e f s = rw (char_next ds at more, ne_eqb (get_or ds at 0) 0x09 not_tab, e, f)

-- behind a character that is no tab; n is its length and w the column there
pub char_passed : (ds : List ℕ) (at c n w : ℕ) → at < length ds → (get_or ds at 0 ≡ 0x09 → ⊥) → n ≡ length (char_in at ds).text → w ≡ cond (eqb (get_or ds at 0) 0x0A) 0 (c + wide (char_in at ds))
    → w ≤ 64 * (at + n) → Passed ds at c (place (at + n) w)
char_passed ds at c n w more not_tab e f b =
    record {
      further = omega (arith, e, char_some ds at more);
      onward = record { forward = omega arith; within = omega (arith, e, char_inside ds at more); bounded = b; same = λ s. tabs_on ds at c n w more not_tab e f s };
    }

pub onward_start : (ds : List ℕ) (at c : ℕ) → at ≤ length ds → c ≤ 64 * at → Onward ds at c (place at c)
onward_start ds at c h b = record { forward = omega arith; within = h; bounded = b; same = λ s. refl }

pub onward_then : (ds : List ℕ) (at c : ℕ) (p r : Place) → Onward ds at c p → Onward ds p.at p.column r → Onward ds at c r
onward_then ds at c p r o q = record { forward = omega (arith, o.forward, q.forward); within = q.within; bounded = q.bounded; same = λ s. o.same s ∙ q.same s }

-- one printable ASCII byte more
pub printable_passed : (ds : List ℕ) (from c i : ℕ) → i < length ds → 0x20 ≤ get_or ds i 0 → get_or ds i 0 < 0x7F → Onward ds from c (place i (c + (i - from)))
    → Onward ds from c (place (i + 1) (c + (i + 1 - from)))
printable_passed ds from c i more p q o =
    let w : ℕ = c + (i - from) in
    let k = plain ds i p (omega (arith, q)) in
    let next = char_passed ds i w 1 (w + 1) more (λ z. omega (arith, z, p)) (sym k.0) (rw (ne_eqb (get_or ds i 0) 0x0A (λ z. omega (arith, z, p)), k.1)) (omega (arith, o.bounded)) in
    subst (λ (v : ℕ). Onward ds from c (place (i + 1) v)) (omega (arith, o.forward)) (onward_then ds from c (place i w) (place (i + 1) (w + 1)) o next.onward)

-- and n more
pub printable_run : (ds : List ℕ) (from c n : ℕ) → from + n ≤ length ds → c ≤ 64 * from → ((i : ℕ) → i < n → (0x20 ≤ get_or ds (from + i) 0) × (get_or ds (from + i) 0 < 0x7F)) → Onward ds from c (place (from + n) (c + n))
printable_run ds from c zero h b p = subst (λ (r : Place). Onward ds from c r) (λ i. place (plus-zero from i) (plus-zero c i)) (onward_start ds from c (omega (arith, h)) b)
  where
    plus-zero : (k : ℕ) → k ≡ k + 0
    plus-zero k = omega arith
printable_run ds from c (suc n) h b p =
    let w : c + n ≡ c + (from + n - from) = omega arith in
    let e : from + n + 1 ≡ from + suc n = omega arith in
    let f : c + (from + n + 1 - from) ≡ c + suc n = omega arith in
    let q = p n (omega arith) in
    let o = printable_run ds from c n (omega (arith, h)) b (λ i l. p i (omega (arith, l))) in
    subst (λ (r : Place). Onward ds from c r) (λ i. place (e i) (f i))
    (printable_passed ds from c (from + n) (omega (arith, h)) q.0 q.1 (subst (λ (v : ℕ). Onward ds from c (place (from + n) v)) w o))

-- up to the first that is no such byte
pub printable_found : (ds : List ℕ) (from c : ℕ) (r : Option ℕ) → from ≤ length ds → c ≤ 64 * from
    → MatchOption r (AllWithin (λ b. (0x20 ≤ b) × (b < 0x7F)) (drop from ds) 0 (length (drop from ds)))
    (λ i. (i < length (drop from ds)) × HoldsAt (λ b. Unit {0}) (drop from ds) i × AllWithin (λ b. (0x20 ≤ b) × (b < 0x7F)) (drop from ds) 0 i)
    → Onward ds from c (place (from + unwrap_or r (length ds - from)) (c + unwrap_or r (length ds - from)))
printable_found ds from c None h b e =
    printable_run ds from c (length ds - from) (omega (arith, h)) b (λ i l. rw (← get_or-drop from ds i 0) (e i 0 (omega arith) (omega (arith, l, length-drop from ds))))
printable_found ds from c (Some n) h b e =
    printable_run ds from c n (omega (arith, e.0, length-drop from ds)) b (λ i l. rw (← get_or-drop from ds i 0) (e.2 i 0 (omega arith) l))

-- at a tab: its record, and the tabs from behind it on
pub tab_next : (s : ℕ) (ds : List ℕ) (p : Place) → p.at < length ds → get_or ds p.at 0 ≡ 0x09
    → tabs_from s ds p ≡ replacement p.at (p.at + 1) 0 (spaces_at_column s p.column) ∷ tabs_from s ds (place (p.at + 1) (p.column + spaces_at_column s p.column))
unfolding tabs_from
tab_next s ds p h e = rw (add-one, drop-cons ds p.at 0 h, e, chars_tab (drop (suc p.at) ds))

pub tab_end : (s : ℕ) (ds : List ℕ) (p : Place) → length ds ≤ p.at → tabs_from s ds p ≡ []
unfolding tabs_from
tab_end s ds p h = rw (chars_end ds p.at h)

tabs_all : (s : ℕ) (ds : List ℕ) → tabs_from s ds (place 0 0) ≡ tab_records s 0 0 (chars ds)
unfolding tabs_from
tabs_all s ds = refl

-- ── a place at a tab or at the end
pub record AtTab (ds : List ℕ) (p : Place) : Type 0 where
  pub within : p.at ≤ length ds
  pub bounded : p.column ≤ 64 * p.at
  pub stands : p.at < length ds → get_or ds p.at 0 ≡ 0x09

pub at_tab : (ds : List ℕ) (at c : ℕ) (p : Place) → Reached ds at c p → AtTab ds p
at_tab ds at c p r = record { within = r.onward.within; bounded = r.onward.bounded; stands = r.stands }

-- the tab there and n spaces, and the next place
pub first_tab : (s : ℕ) (ds : List ℕ) (p : Place) (n : ℕ) → AtTab ds p → p.at < length ds → n ≡ spaces_at_column s p.column
    → tabs_from s ds p ≡ replacement p.at (p.at + 1) 0 n ∷ tabs_from s ds (place (p.at + 1) (p.column + n))
first_tab s ds p n a h e = tab_next s ds p h (a.stands h) ∙ (λ i. replacement p.at (p.at + 1) 0 (sym e i) ∷ tabs_from s ds (place (p.at + 1) (p.column + sym e i)))

pub tab_then : (s : ℕ) (ds : List ℕ) (p r : Place) (n : ℕ) → AtTab ds p → p.at < length ds → n ≡ spaces_at_column s p.column → Reached ds (p.at + 1) (p.column + n) r
    → tabs_from s ds p ≡ replacement p.at (p.at + 1) 0 n ∷ tabs_from s ds r
tab_then s ds p r n a h e q = first_tab s ds p n a h e ∙ ap (λ (xs : List Replacement). replacement p.at (p.at + 1) 0 n ∷ xs) (q.onward.same s)

-- ── measuring: the size so far, and what the tabs from p on add, are the size of the result
pub record Measured (s : ℕ) (ds : List ℕ) (size : ℕ) (p : Place) : Type 0 where
  pub here : AtTab ds p
  pub small : size ≤ 1048576
  pub total : size + growth (tabs_from s ds p) ≡ length ds + growth (tabs_from s ds (place 0 0))

module _ (s : ℕ) (low : 1 ≤ s) (high : s ≤ 64) (ds : List ℕ) where
  abbrev whole : ℕ
  whole = length (edit_data (tab_ops s 0 (chars ds)) ds)

  whole_is : whole ≡ length ds + growth (tabs_from s ds (place 0 0))
  whole_is = expanded_size s low high ds ∙ ap (λ (xs : List Replacement). length ds + growth xs) (sym (tabs_all s ds))

  pub measured_first : (p : Place) → length ds ≤ 1048576 → Reached ds 0 0 p → Measured s ds (length ds) p
  measured_first p h r = record { here = at_tab ds 0 0 p r; small = h; total = ap (λ (xs : List Replacement). length ds + growth xs) (sym (r.onward.same s)) }

  module _ (size : ℕ) (p : Place) (m : Measured s ds size p) where
    pub measured_end : length ds ≤ p.at → size ≡ capped whole
    measured_end h =
        let z : growth (tabs_from s ds p) ≡ 0 = ap growth (tab_end s ds p h) in
        let e : whole ≡ size = omega (arith, whole_is, m.total, z) in
        sym (ap capped e ∙ capped_in size m.small)

    module _ (more : p.at < length ds) (n : ℕ) (e : n ≡ spaces_at_column s p.column) where
      pub measured_next : (r : Place) → Reached ds (p.at + 1) (p.column + n) r → size + (n - 1) ≤ 1048576 → Measured s ds (size + (n - 1)) r
      measured_next r q h =
          let g : growth (tabs_from s ds p) ≡ (n - 1) + growth (tabs_from s ds r) = ap growth (tab_then s ds p r n m.here more e q) in
          record { here = at_tab ds (p.at + 1) (p.column + n) r q; small = h; total = omega (arith, m.total, g) }

      pub measured_over : 1048576 < size + (n - 1) → 1048577 ≡ capped whole
      measured_over h =
          let g : growth (tabs_from s ds p) ≡ (spaces_at_column s p.column - 1) + growth (tabs_from s ds (place (p.at + 1) (p.column + spaces_at_column s p.column))) =
          ap growth (tab_next s ds p more (m.here.stands more)) in
          sym (capped_over whole (omega (arith, whole_is, m.total, g, e, h)))

-- ── the largest size: no tab becomes more than s spaces
one_le : (b : ℕ) → one_tab_of b ≤ 1
one_le b = go (eqb b 0x09)
  where
    go : (t : Bool) → cond t 1 0 ≤ 1
    go true = omega arith
    go false = omega arith

pub count_next : (ds : List ℕ) (i : ℕ) → i < length ds → (tab_count_of (take (i + 1) ds) ≡ tab_count_of (take i ds) + one_tab_of (get_or ds i 0)) × (one_tab_of (get_or ds i 0) ≤ 1)
count_next ds i h = (rw add-one (go ds i h), one_le (get_or ds i 0))
  where
    go : (ds : List ℕ) (i : ℕ) → i < length ds → tab_count_of (take (suc i) ds) ≡ tab_count_of (take i ds) + one_tab_of (get_or ds i 0)
    go [] i h = absurd (omega arith)
    go (b ∷ ds) zero h = omega arith
    go (b ∷ ds) (suc i) h = omega (arith, go ds i (omega arith))

count-plain : (t d : List ℕ) → Plain t → tab_count_of (t ++ d) ≡ tab_count_of d
count-plain [] d h = refl
count-plain (b ∷ t) d h = rw (ne_eqb b 0x09 h.0) (omega (arith, count-plain t d h.2))

module _ (s : ℕ) (low : 1 ≤ s) where
  growth_most : (c at : ℕ) (cs : List Character) → Valid cs → growth (tab_records s c at cs) ≤ tab_count_of (bytes_of cs) * (s - 1)
  growth_most c at [] v = omega arith
  growth_most c at (ch ∷ cs) v =
      go (sort ch (bytes_of cs) v.0) (growth_most (column_after s c ch) (suc at) cs v.1) (growth_most (column_after s c ch) (at + length ch.text) cs v.1)
    where
      m : ℕ
      m = tab_count_of (bytes_of cs)

      Later : ℕ → Type 0
      Later a = growth (tab_records s (column_after s c ch) a cs) ≤ m * (s - 1)

      most : (n : ℕ) → tab_count_of (ch.text ++ bytes_of cs) ≡ n → growth (tab_records s c at (ch ∷ cs)) ≤ n * (s - 1) → growth (tab_records s c at (ch ∷ cs)) ≤ tab_count_of (ch.text ++ bytes_of cs) * (s - 1)
      most n e h = subst (λ (k : ℕ). growth (tab_records s c at (ch ∷ cs)) ≤ k * (s - 1)) (sym e) h

      counted : (t : List ℕ) → ch.text ≡ t → tab_count_of (ch.text ++ bytes_of cs) ≡ tab_count_of (t ++ bytes_of cs)
      counted t x = ap (λ (b : List ℕ). tab_count_of (b ++ bytes_of cs)) x

      go : Sort ch → Later (suc at) → Later (at + length ch.text) → growth (tab_records s c at (ch ∷ cs)) ≤ tab_count_of (ch.text ++ bytes_of cs) * (s - 1)
      go (tab t x) f g = most (1 + m) (counted (0x09 ∷ []) x) (omega (arith, ap growth (records_tab s c at ch cs t), f, add-mul 1 m (s - 1), one-mul (s - 1), (some_spaces s c low).1))
      go (newline t u x) f g = most m (counted (0x0A ∷ []) x ∙ omega arith) (omega (arith, ap growth (records_other s c at ch cs t), g))
      go (other t u x) f g = most m (count-plain ch.text (bytes_of cs) x) (omega (arith, ap growth (records_other s c at ch cs t), g))

module _ (s : ℕ) (low : 1 ≤ s) (high : s ≤ 64) (ds : List ℕ) where
  pub size_most : length (edit_data (tab_ops s 0 (chars ds)) ds) ≤ length ds + tab_count_of ds * (s - 1)
  size_most = omega (arith, expanded_size s low high ds, rw (bytes-chars ds) at (growth_most s low 0 0 (chars ds) (valid-chars ds)))

  -- and it is a number that fits
  pub most_small : (n : ℕ) → n ≤ 1048576 → n * (s - 1) ≤ 66060288
  most_small n h = let k : s - 1 ≤ 63 = omega (arith, high) in omega (arith, mul-le-mul h k)

pub fine_zero : (r : Result Unit Refusal) → is_ok r ≡ true → fault_of r ≡ 0
fine_zero (Ok u) h = refl
fine_zero (Err f) h = absurd (false≢true h)

-- ── writing: the records and the definition
module _ (s : ℕ) (low : 1 ≤ s) (high : s ≤ 64) (ds ns ts new : List ℕ) (blanks : new ≡ spaces 64) where
  pub records_whole : edit (tab_ops s 0 (chars ds)) (items (recording ds ns ts)) ≡ edit (replace_ops new 0 (tabs_from s ds (place 0 0))) (items (recording ds ns ts))
  records_whole = rw (blanks, tabs_all s ds) (as_replaced s low high (chars ds) (items (recording ds ns ts)))

  pub records_good : records_fault 0 (length ds) (length new) (tabs_from s ds (place 0 0)) ≡ 0
  records_good = rw (blanks, tabs_all s ds) (tabs_good s low high ds)

-- ── without refusal 31
pub stop_in : (s : ℕ) → stop_fault s ≡ 0 → (1 ≤ s) × (s ≤ 64)
stop_in s h = go (eqb s 0) (ltb 64 s) refl refl h
  where
    go : (a b : Bool) → eqb s 0 ≡ a → ltb 64 s ≡ b → refuse_if (a || b) 31 ≡ 0 → (1 ≤ s) × (s ≤ 64)
    go true b e f g = absurd (omega (arith, g))
    go false true e f g = absurd (omega (arith, g))
    go false false e f g = (grind (arith, nat_tests, e), ltb-false 64 s f)
