-- One byte further in a scan of a line or a field: what a definition says of the bytes from a place on, by the byte there and the bytes after it.
use Prim.Native.Nat.{ℕ, zero, suc, ◌+◌, ◌-◌, ◌*◌, ◌/◌, ◌≤◌, ◌<◌, min}
use native.Mathlib.Omega.{arith}
use mathlib.Core.Bool.{Bool, true, false, cond, ◌&&◌, not}
use mathlib.Core.Path.{◌≡◌, refl, sym, ap, ◌∙◌}
use mathlib.Core.List.{[], ◌∷◌, ◌++◌}
use lib.Dec.{leb, ltb, eqb}
use lib.ListN.{length, take, drop, get_or, set, length-drop, drop_of_length-le}
use lib.Seq.{take-suc, drop-cons, drop-drop, set_at, append_snoc, length-take-le}
use borrow.Author.Tests.{le-leb, lt-leb, lt-ltb, le-ltb, ltb-true, ltb-false}
use native.Mathlib.Numerals.{add-one, one-add}
use Rattle.std.specs.List.{prefix_len, list_all}
use Rattle.std.specs.Prelude.{Option, Some, None}
use Rattle.chars.proofs.ReaderLaws.{and_false}
use Rattle.recording.specs.Recording.{Bytes}
use Rattle.sheet.specs.Sheet.{up_to, after, sheet_line, onto_line, sheet_lines, is_digit, all_digits, value_from, small_digits, nibble, is_hex_byte, all_hex_of, from_pairs}

-- ── the byte at a place
-- what is left from a place on
pub rest_next : (s : Bytes) (i : ℕ) → i < length s → drop i s ≡ get_or s i 0 ∷ drop (i + 1) s
rest_next s i h = rw add-one (drop-cons s i 0 h)

pub rest_none : (s : Bytes) (i : ℕ) → length s ≤ i → drop i s ≡ []
rest_none s i h = drop_of_length-le s {i = i} h

-- ── up to the first c, and after it
pub up_to_length : (c : ℕ) (s : Bytes) → length (up_to c s) ≡ prefix_len (λ b. not (eqb b c)) s
up_to_length c [] = refl
up_to_length c (b ∷ s) = go (eqb b c) (up_to_length c s)
  where
    go : (t : Bool) → length (up_to c s) ≡ prefix_len (λ b. not (eqb b c)) s → length (cond t [] (b ∷ up_to c s)) ≡ cond (not t) (1 + prefix_len (λ b. not (eqb b c)) s) 0
    go true e = refl
    go false e = rw (one-add, e)

pub up_to_take : (c : ℕ) (s : Bytes) → take (length (up_to c s)) s ≡ up_to c s
up_to_take c [] = refl
up_to_take c (b ∷ s) = go (eqb b c) (up_to_take c s)
  where
    go : (t : Bool) → take (length (up_to c s)) s ≡ up_to c s → take (length (cond t [] (b ∷ up_to c s))) (b ∷ s) ≡ cond t [] (b ∷ up_to c s)
    go true e = refl
    go false e = ap (λ (l : Bytes). b ∷ l) e

pub after_drop : (c : ℕ) (s : Bytes) → drop (suc (length (up_to c s))) s ≡ after c s
after_drop c [] = refl
after_drop c (b ∷ s) = go (eqb b c) (after_drop c s)
  where
    go : (t : Bool) → drop (suc (length (up_to c s))) s ≡ after c s → drop (length (cond t [] (b ∷ up_to c s))) s ≡ cond t s (after c s)
    go true e = refl
    go false e = e

-- what comes after the first c at e, or nothing
pub after_from : (c : ℕ) (s : Bytes) (e : ℕ) → e ≡ length (up_to c s) → drop (min (length s) (e + 1)) s ≡ after c s
after_from c s e h = go (ltb e (length s)) refl
  where
    next : suc e ≡ suc (length (up_to c s))
    next = ap suc h

    go : (t : Bool) → ltb e (length s) ≡ t → drop (min (length s) (e + 1)) s ≡ after c s
    go true l = let m : min (length s) (e + 1) ≡ suc e = omega (arith, ltb-true e (length s) l) in rw (m, next) (after_drop c s)
    go false l =
        let n : length s ≤ e = ltb-false e (length s) l in
        let m : min (length s) (e + 1) ≡ length s = omega (arith, n) in
        rw m (rest_none s (length s) (omega arith)) ∙ sym (rest_none s (suc e) (omega (arith, n))) ∙ ap (λ (k : ℕ). drop k s) next ∙ after_drop c s

pub up_to_le : (c : ℕ) (s : Bytes) → length (up_to c s) ≤ length s
up_to_le c [] = omega arith
up_to_le c (b ∷ s) = go (eqb b c) (up_to_le c s)
  where
    go : (t : Bool) → length (up_to c s) ≤ length s → length (cond t [] (b ∷ up_to c s)) ≤ suc (length s)
    go true e = omega arith
    go false e = omega (arith, e)

-- ── the lines of a sheet
ltb-suc : (n m : ℕ) → ltb (suc n) (suc m) ≡ ltb n m
ltb-suc n m = go (ltb n m) refl
  where
    go : (t : Bool) → ltb n m ≡ t → ltb (suc n) (suc m) ≡ t
    go true e = lt-ltb (suc n) (suc m) (omega (arith, ltb-true n m e))
    go false e = le-ltb (suc n) (suc m) (omega (arith, ltb-false n m e))

-- a sheet's first line, whether 0A ends it, and the lines after it
pub line_next : (b : ℕ) (s : Bytes)
    → sheet_lines (b ∷ s) ≡ sheet_line (up_to 0x0A (b ∷ s)) (ltb (length (up_to 0x0A (b ∷ s))) (length (b ∷ s))) ∷ sheet_lines (after 0x0A (b ∷ s))
line_next b [] = go (eqb b 0x0A)
  where
    go : (t : Bool) → cond t (sheet_line [] true ∷ []) (sheet_line (b ∷ []) false ∷ [])
        ≡ sheet_line (cond t [] (b ∷ [])) (ltb (length (cond t [] (b ∷ []))) 1) ∷ sheet_lines (cond t [] [])
    go true = refl
    go false = refl
line_next b (c ∷ s) = go (eqb b 0x0A) (line_next c s)
  where
    n : ℕ
    n = length (up_to 0x0A (c ∷ s))

    go : (t : Bool) → sheet_lines (c ∷ s) ≡ sheet_line (up_to 0x0A (c ∷ s)) (ltb n (length (c ∷ s))) ∷ sheet_lines (after 0x0A (c ∷ s))
        → cond t (sheet_line [] true ∷ sheet_lines (c ∷ s)) (onto_line b (sheet_lines (c ∷ s)))
        ≡ sheet_line (cond t [] (b ∷ up_to 0x0A (c ∷ s))) (ltb (length (cond t [] (b ∷ up_to 0x0A (c ∷ s)))) (suc (length (c ∷ s)))) ∷ sheet_lines (cond t (c ∷ s) (after 0x0A (c ∷ s)))
    go true e = simp (lt-ltb 0 (suc (length (c ∷ s))) (omega arith))
    go false e = ap (onto_line b) e ∙ simp (ltb-suc n (length (c ∷ s)))

ltb_shift : (p a b : ℕ) → ltb (p + a) (p + b) ≡ ltb a b
ltb_shift p a b = go (ltb a b) refl
  where
    go : (t : Bool) → ltb a b ≡ t → ltb (p + a) (p + b) ≡ t
    go true e = lt-ltb (p + a) (p + b) (omega (arith, ltb-true a b e))
    go false e = le-ltb (p + a) (p + b) (omega (arith, ltb-false a b e))

-- the line at p, and the lines after its end e
pub sheet_next : (s : Bytes) (p e : ℕ) → p < length s → e ≡ p + length (up_to 0x0A (drop p s))
    → sheet_lines (drop p s) ≡ sheet_line (take (e - p) (drop p s)) (ltb e (length s)) ∷ sheet_lines (drop (e + 1) s)
sheet_next s p e h k =
    let t = drop p s in
    let c : t ≡ get_or s p 0 ∷ drop (p + 1) s = rest_next s p h in
    let n : length (up_to 0x0A t) ≡ e - p = omega (arith, k) in
    let first : up_to 0x0A t ≡ take (e - p) t = sym (up_to_take 0x0A t) ∙ ap (λ (j : ℕ). take j t) n in
    let next : p + suc (length (up_to 0x0A t)) ≡ e + 1 = omega (arith, k) in
    let rest : after 0x0A t ≡ drop (e + 1) s = sym (after_drop 0x0A t) ∙ drop-drop (suc (length (up_to 0x0A t))) p s ∙ ap (λ (j : ℕ). drop j s) next in
    let all : p + length t ≡ length s = omega (arith, length-drop p s) in
    let ended : ltb (length (up_to 0x0A t)) (length t) ≡ ltb e (length s) = sym (ltb_shift p (length (up_to 0x0A t)) (length t)) ∙ (λ i. ltb (sym k i) (all i)) in
    ap sheet_lines c ∙ line_next (get_or s p 0) (drop (p + 1) s) ∙ ap (λ (l : Bytes). sheet_line (up_to 0x0A l) (ltb (length (up_to 0x0A l)) (length l)) ∷ sheet_lines (after 0x0A l)) (sym c)
    ∙ (λ i. sheet_line (first i) (ended i) ∷ sheet_lines (rest i))

-- ── decimals
value_grows : (n : ℕ) (s : Bytes) → n ≤ value_from n s
value_grows n [] = omega arith
value_grows n (b ∷ s) = omega (arith, value_grows (n * 10 + (b - 0x30)) s)

module _ (s : Bytes) (i : ℕ) (more : i < length s) where
  pub digit_bad : is_digit (get_or s i 0) ≡ false → all_digits (drop i s) ≡ false
  digit_bad h = ap all_digits (rest_next s i more) ∙ simp h

  pub digit_good : is_digit (get_or s i 0) ≡ true → all_digits (drop i s) ≡ all_digits (drop (i + 1) s)
  digit_good h = ap all_digits (rest_next s i more) ∙ simp h

  pub value_next : (n : ℕ) → value_from n (drop i s) ≡ value_from (n * 10 + (get_or s i 0 - 0x30)) (drop (i + 1) s)
  value_next n = ap (value_from n) (rest_next s i more)

pub value_big : (n : ℕ) (s : Bytes) → 4294967295 < n → leb (value_from n s) 4294967295 ≡ false
value_big n s h = lt-leb (value_from n s) 4294967295 (omega (arith, value_grows n s))

-- digits that are none, or too large, have no value; the others have theirs
pub not_digits : (s : Bytes) → all_digits s ≡ false → ◌≡◌ {A = Option ℕ} None (cond (small_digits s) (Some (value_from 0 s)) None)
not_digits s h = simp h

pub not_small : (s : Bytes) → leb (value_from 0 s) 4294967295 ≡ false → ◌≡◌ {A = Option ℕ} None (cond (small_digits s) (Some (value_from 0 s)) None)
not_small s h = simp (h, and_false (all_digits s))

pub all_small : (s : Bytes) (n : ℕ) → all_digits s ≡ true → n ≡ value_from 0 s → n ≤ 4294967295 → Some n ≡ cond (small_digits s) (Some (value_from 0 s)) None
all_small s n h e k = simp (h, le-leb (value_from 0 s) 4294967295 (omega (arith, e))) (ap Some e)

-- the digits read so far have the value n
pub record Digits (s : Bytes) (i n : ℕ) : Type 0 where
  pub within : i ≤ length s
  pub small : n ≤ 4294967295
  pub value : value_from n (drop i s) ≡ value_from 0 s
  pub good : all_digits (drop i s) ≡ all_digits s

-- and the next digit would pass 32 bits
pub too_large : (s : Bytes) (i n : ℕ) → Digits s i n → i < length s → 4294967295 < n * 10 + (get_or s i 0 - 0x30) → ◌≡◌ {A = Option ℕ} None (cond (small_digits s) (Some (value_from 0 s)) None)
too_large s i n d more h = not_small s (ap (λ (v : ℕ). leb v 4294967295) (sym d.value ∙ value_next s i more n) ∙ value_big _ (drop (i + 1) s) h)

-- ── hexadecimal digits
pub all_hex_list : (s : Bytes) → list_all is_hex_byte s ≡ all_hex_of s
all_hex_list [] = refl
all_hex_list (b ∷ s) = ap (λ (t : Bool). is_hex_byte b && t) (all_hex_list s)

pub length_pairs : (s : Bytes) → length (from_pairs s) ≡ length s / 2
length_pairs [] = refl
length_pairs (x ∷ []) = refl
length_pairs (x ∷ y ∷ s) = omega (arith, length_pairs s)

pub pair_at : (s : Bytes) (k : ℕ) → k < length s / 2 → get_or (from_pairs s) k 0 ≡ nibble (get_or s (2 * k) 0) * 16 + nibble (get_or s (2 * k + 1) 0)
pair_at [] k h = absurd (omega (arith, h))
pair_at (x ∷ []) k h = absurd (omega (arith, h))
pair_at (x ∷ y ∷ s) zero h = refl
pair_at (x ∷ y ∷ s) (suc k) h =
    let e : 2 * suc k ≡ suc (suc (2 * k)) = omega arith in
    let f : 2 * suc k + 1 ≡ suc (suc (2 * k + 1)) = omega arith in
    pair_at s k (omega (arith, h)) ∙ ap (λ (j : ℕ). nibble (get_or (x ∷ y ∷ s) j 0) * 16 + nibble (get_or (x ∷ y ∷ s) (suc (suc (2 * k + 1))) 0)) (sym e)
    ∙ ap (λ (j : ℕ). nibble (get_or (x ∷ y ∷ s) (2 * suc k) 0) * 16 + nibble (get_or (x ∷ y ∷ s) j 0)) (sym f)

-- one more byte of a result stored
pub store_next : (src out : Bytes) (k : ℕ) → k < length src → k < length out → set (take k src ++ drop k out) k (get_or src k 0) ≡ take (k + 1) src ++ drop (k + 1) out
store_next src out k p q =
    let l : length (take k src) ≡ k = length-take-le k src (omega arith) in
    rw (add-one, drop-cons out k 0, set_at, take-suc src k 0, append_snoc)
