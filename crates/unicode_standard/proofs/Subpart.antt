-- D93b and the Standard's conversion practice: a well-formed sequence at the front is read whole; anything else loses its maximal subpart, which is the character's bytes.
-- D86: a text is well-formed exactly if it is a concatenation of well-formed sequences.
-- The idea: the first columns of table 3-7 are apart, so only the row of the lead byte counts; in that row, `matched` is how far the bytes go along.
use Prim.Native.Nat.{ℕ, zero, suc, ◌≤◌}
use native.Mathlib.Omega.{arith}
use mathlib.Core.Bool.{Bool, true, false, cond, ◌&&◌, ◌||◌, false≢true}
use mathlib.Core.Logic.{◌⊎◌, inl, inr, ⊎_elim}
use mathlib.Core.Path.{◌≡◌, refl, sym, ap, ◌∙◌}
use mathlib.Core.List.{List, [], ◌∷◌, ◌++◌, tail}
use lib.Dec.{leb, ltb, eqb, T, leb→le, ltb→lt, leb-zero, leb-suc-zero, leb-suc-suc, eqb-zero-suc, eqb-suc-zero, eqb-suc-suc}
use lib.ListN.{length, take, length-append}
use lib.Seq.{length-take-le, take-append_seam}
use borrow.Author.Tests.{leb-true, le-leb, lt-leb, eq-eqb}
use Rattle.chars.specs.Utf8.{Row, within, table37, leads, row_in, row_of, matched, tail_len, complete}
use Rattle.chars.specs.Chars.{Character, char_at, chars_from, chars, bytes_of, all_ok, well_formed_of}
use Rattle.chars.proofs.CharsLaws.{matched-le, tail_le, bytes-chars, from_skip, length_text}
use Rattle.chars.proofs.Table.{and_left, and_right}
use Rattle.unicode_standard.specs.Standard.{begins, fills, any_row, initial_part, well_formed_sequence, all_sequences, concatenation, WellFormedText, Subpart, MaximalSubpart}

-- ── only the row of the lead byte counts
abbrev above : ℕ → List Row → Bool
above n [] = true
above n ([] ∷ rs) = false
above n ((c ∷ cs) ∷ rs) = ltb n c.low && (leb c.low c.high && above c.high rs)

abbrev apart : List Row → Bool
apart [] = true
apart ([] ∷ rs) = false
apart ((c ∷ cs) ∷ rs) = above c.high rs && apart rs

-- a test of rows that fails wherever b does not stand in the first column
module _ (f : Row → Bool) (b : ℕ) (bad : (r : Row) → leads r b ≡ false → f r ≡ false) where
  none : (n : ℕ) (rs : List Row) → T (above n rs) → b ≤ n → any_row f rs ≡ false
  none n [] h k = refl
  none n ((c ∷ cs) ∷ rs) h k =
      let p = ltb→lt n c.low (and_left (ltb n c.low) (leb c.low c.high && above c.high rs) h) in
      let q = and_right (ltb n c.low) (leb c.low c.high && above c.high rs) h in
      let u = leb→le c.low c.high (and_left (leb c.low c.high) (above c.high rs) q) in
      let e : leads (c ∷ cs) b ≡ false = rw (lt-leb c.low b (omega arith)) in
      rw (bad (c ∷ cs) e) (none c.high rs (and_right (leb c.low c.high) (above c.high rs) q) (omega arith))
  none n ([] ∷ rs) h k = elim h [ ]

  or_false : (x y : Bool) → y ≡ false → (x || y) ≡ x
  or_false true y e = refl
  or_false false y e = e

  second : (x y : Bool) → (x && y) ≡ true → y ≡ true
  second true y e = e
  second false true e = refl
  second false false e = e

  one_row_lem : (rs : List Row) → T (apart rs) → any_row f rs ≡ f (row_in rs b)
  one_row_lem [] h = sym (bad [] refl)
  one_row_lem ((c ∷ cs) ∷ rs) h = go (within c.low c.high b) refl (one_row_lem rs (and_right (above c.high rs) (apart rs) h))
    where
      go : (t : Bool) → within c.low c.high b ≡ t → any_row f rs ≡ f (row_in rs b) → (f (c ∷ cs) || any_row f rs) ≡ f (cond t (c ∷ cs) (row_in rs b))
      go true e ih =
          or_false (f (c ∷ cs)) (any_row f rs)
          (none c.high rs (and_left (above c.high rs) (apart rs) h) (leb-true b c.high (second (leb c.low b) (leb b c.high) e)))
      go false e ih = rw (bad (c ∷ cs) e) ih
  one_row_lem ([] ∷ rs) h = elim h [ ]

and_false : (x y : Bool) → x ≡ false → (x && y) ≡ false
and_false x y e = rw e

begins_bad : (b : ℕ) (s : List ℕ) (r : Row) → leads r b ≡ false → begins r (b ∷ s) ≡ false
begins_bad b s [] e = refl
begins_bad b s (c ∷ cs) e = and_false (within c.low c.high b) (begins cs s) e

fills_bad : (b : ℕ) (s : List ℕ) (r : Row) → leads r b ≡ false → fills r (b ∷ s) ≡ false
fills_bad b s [] e = refl
fills_bad b s (c ∷ cs) e = and_false (within c.low c.high b) (fills cs s) e

initial_row : (b : ℕ) (s : List ℕ) → initial_part (b ∷ s) ≡ begins (row_of b) (b ∷ s)
unfolding initial_part row_of table37
initial_row b s = one_row_lem (λ r. begins r (b ∷ s)) b (begins_bad b s) table37 tt

sequence_row : (b : ℕ) (s : List ℕ) → well_formed_sequence (b ∷ s) ≡ fills (row_of b) (b ∷ s)
unfolding well_formed_sequence row_of table37
sequence_row b s = one_row_lem (λ r. fills r (b ∷ s)) b (fills_bad b s) table37 tt

-- a row that is found has the byte in its first column
found_in : (rs : List Row) (b : ℕ) → (row_in rs b ≡ []) ⊎ (leads (row_in rs b) b ≡ true)
found_in [] b = inl refl
found_in (r ∷ rs) b = go (leads r b) refl (found_in rs b)
  where
    go : (t : Bool) → leads r b ≡ t → (row_in rs b ≡ []) ⊎ (leads (row_in rs b) b ≡ true) → (cond t r (row_in rs b) ≡ []) ⊎ (leads (cond t r (row_in rs b)) b ≡ true)
    go true e ih = inr e
    go false e ih = ih

found : (b : ℕ) → (row_of b ≡ []) ⊎ (leads (row_of b) b ≡ true)
unfolding row_of
found b = found_in table37 b

-- ── along a row
tail_begins : (cs : Row) (bs : List ℕ) (k : ℕ) → k ≤ length bs → begins cs (take k bs) ≡ leb k (matched cs bs)
tail_begins cs bs zero h = sym (leb-zero (matched cs bs))
tail_begins cs [] (suc k) h = absurd (omega arith)
tail_begins [] (b ∷ bs) (suc k) h = sym (leb-suc-zero k)
tail_begins (c ∷ cs) (b ∷ bs) (suc k) h = go (within c.low c.high b) (tail_begins cs bs k (omega arith))
  where
    go : (t : Bool) → begins cs (take k bs) ≡ leb k (matched cs bs) → (t && begins cs (take k bs)) ≡ leb (suc k) (cond t (suc (matched cs bs)) 0)
    go true e = e ∙ sym (leb-suc-suc k (matched cs bs))
    go false e = sym (leb-suc-zero k)

fills_taken : (cs : Row) (bs : List ℕ) → fills cs (take (matched cs bs) bs) ≡ eqb (matched cs bs) (length cs)
fills_taken [] bs = refl
fills_taken (c ∷ cs) [] = sym (eqb-zero-suc (length cs))
fills_taken (c ∷ cs) (b ∷ bs) = go (within c.low c.high b) refl (fills_taken cs bs)
  where
    go : (t : Bool) → within c.low c.high b ≡ t → fills cs (take (matched cs bs) bs) ≡ eqb (matched cs bs) (length cs)
        → fills (c ∷ cs) (take (cond t (suc (matched cs bs)) 0) (b ∷ bs)) ≡ eqb (cond t (suc (matched cs bs)) 0) (suc (length cs))
    go true e ih = rw e (ih ∙ sym (eqb-suc-suc (matched cs bs) (length cs)))
    go false e ih = sym (eqb-zero-suc (length cs))

and_true : (x y : Bool) → (x && y) ≡ true → (x ≡ true) × (y ≡ true)
and_true true y e = (refl, e)
and_true false y e = absurd (false≢true e)

fills_length : (cs : Row) (bs : List ℕ) (k : ℕ) → k ≤ length bs → fills cs (take k bs) ≡ true → (matched cs bs ≡ k) × (length cs ≡ k)
fills_length [] bs zero h e = (refl, refl)
fills_length [] [] (suc k) h e = absurd (omega arith)
fills_length [] (b ∷ bs) (suc k) h e = absurd (false≢true e)
fills_length (c ∷ cs) bs zero h e = absurd (false≢true e)
fills_length (c ∷ cs) [] (suc k) h e = absurd (omega arith)
fills_length (c ∷ cs) (b ∷ bs) (suc k) h e =
    let q = and_true (within c.low c.high b) (fills cs (take k bs)) e in
    let ih = fills_length cs bs k (omega arith) q.1 in
    (rw q.0 (ap suc ih.0), ap suc ih.1)

-- ── D93b: the first 1 + k bytes begin a well-formed sequence exactly if b leads one and k is at most `tail_len`
module _ (b : ℕ) (bs : List ℕ) where
  initial_part_lem : (k : ℕ) → k ≤ length bs → initial_part (b ∷ take k bs) ≡ (leads (row_of b) b && leb k (tail_len b bs))
  unfolding tail_len
  initial_part_lem k h = initial_row b (take k bs) ∙ go (row_of b)
    where
      go : (r : Row) → begins r (b ∷ take k bs) ≡ (leads r b && leb k (matched (tail r) bs))
      go [] = refl
      go (c ∷ cs) = ap (λ (x : Bool). within c.low c.high b && x) (tail_begins cs bs k h)

  no_row : row_of b ≡ [] → tail_len b bs ≡ 0
  unfolding tail_len
  no_row e = rw e

  -- the bytes of a character are a maximal subpart from its first byte on
  pub subpart_maximal : MaximalSubpart (b ∷ bs) (suc (tail_len b bs))
  subpart_maximal =
      record {
        subpart =
            record {
              some = omega arith;
              inside = omega (arith, tail_le b bs);
              initial =
                  ⊎_elim (λ e. inr (ap suc (no_row e)))
                  (λ e. inl (initial_part_lem (tail_len b bs) (tail_le b bs) ∙ rw (e, le-leb (tail_len b bs) (tail_len b bs) (omega arith)))) (found b);
            };
        longest = not_longer;
      }
    where
      within_tail : (t : Bool) (k : ℕ) → (t && leb k (tail_len b bs)) ≡ true → k ≤ tail_len b bs
      within_tail true k e = leb-true k (tail_len b bs) e
      within_tail false k e = absurd (false≢true e)

      not_longer : (k : ℕ) → Subpart (b ∷ bs) k → k ≤ suc (tail_len b bs)
      not_longer zero p = omega arith
      not_longer (suc k) p =
          ⊎_elim (λ e. omega (arith, within_tail (leads (row_of b) b) k (sym (initial_part_lem k (omega (arith, p.inside))) ∙ e)))
          (λ e. omega (arith, e)) p.initial

  -- a character is well-formed exactly if its bytes are a well-formed sequence
  pub ok_sequence : (char_at b bs).ok ≡ well_formed_sequence (char_at b bs).text
  unfolding char_at complete tail_len
  ok_sequence = sym (sequence_row b (take (matched (tail (row_of b)) bs) bs) ∙ ⊎_elim (λ e. none_there e) (λ e. there (row_of b) e) (found b))
    where
      none_there : row_of b ≡ [] → fills (row_of b) (b ∷ take (matched (tail (row_of b)) bs) bs) ≡ eqb (suc (length (take (matched (tail (row_of b)) bs) bs))) (length (row_of b))
      none_there e = rw e (sym (eqb-suc-zero 0))

      there : (r : Row) → leads r b ≡ true → fills r (b ∷ take (matched (tail r) bs) bs) ≡ eqb (suc (length (take (matched (tail r) bs) bs))) (length r)
      there [] e = absurd (false≢true e)
      there (c ∷ cs) e =
          rw (e, length-take-le (matched cs bs) bs (matched-le cs bs)) (fills_taken cs bs ∙ sym (eqb-suc-suc (matched cs bs) (length cs)))

  -- a well-formed sequence at the front is read, whole
  pub sequence_read : (k : ℕ) → k ≤ length (b ∷ bs) → well_formed_sequence (take k (b ∷ bs)) ≡ true → ((char_at b bs).text ≡ take k (b ∷ bs)) × ((char_at b bs).ok ≡ true)
  unfolding char_at complete tail_len well_formed_sequence table37
  sequence_read zero h e = absurd (false≢true e)
  sequence_read (suc k) h e = go (row_of b) (sym (sequence_row b (take k bs)) ∙ e)
    where
      go : (r : Row) → fills r (b ∷ take k bs) ≡ true → (b ∷ take (matched (tail r) bs) bs ≡ b ∷ take k bs) × (eqb (suc (length (take (matched (tail r) bs) bs))) (length r) ≡ true)
      go [] p = absurd (false≢true p)
      go (c ∷ cs) p =
          let q = fills_length cs bs k (omega arith) (and_true (within c.low c.high b) (fills cs (take k bs)) p).1 in
          (ap (λ (n : ℕ). b ∷ take n bs) q.0, rw (q.0, q.1, length-take-le k bs (omega arith)) (eq-eqb (suc k) (suc k) refl))

-- ── a text has one maximal subpart, and no bytes have none
pub maximal_once : (s : List ℕ) (n k : ℕ) → MaximalSubpart s n → MaximalSubpart s k → n ≡ k
maximal_once s n k p q = omega (arith, p.longest k q.subpart, q.longest n p.subpart)

pub maximal_some : (n : ℕ) → MaximalSubpart [] n → ⊥
maximal_some n p = omega (arith, p.subpart.some, p.subpart.inside)

-- ── D86: a text is well-formed exactly if it is a concatenation of sequences of table 3-7
abbrev texts : List Character → List (List ℕ)
texts [] = []
texts (c ∷ cs) = c.text ∷ texts cs

concatenation_texts : (cs : List Character) → concatenation (texts cs) ≡ bytes_of cs
concatenation_texts [] = refl
concatenation_texts (c ∷ cs) = ap (λ (l : List ℕ). c.text ++ l) (concatenation_texts cs)

-- the characters that are read are sequences exactly if they are well-formed
texts_from : (k : ℕ) (bs : List ℕ) → all_sequences (texts (chars_from k bs)) ≡ all_ok (chars_from k bs)
texts_from zero [] = refl
texts_from (suc k) [] = refl
texts_from zero (b ∷ bs) = rw (ok_sequence b bs, texts_from (tail_len b bs) bs)
texts_from (suc k) (b ∷ bs) = texts_from k bs

pub well_formed_text : (s : List ℕ) → well_formed_of s ≡ true → WellFormedText s
unfolding well_formed_of chars
well_formed_text s h = record { parts = texts (chars s); each = texts_from 0 s ∙ h; whole = concatenation_texts (chars s) ∙ bytes-chars s }

-- a sequence at the front is one character, which is well-formed, and the rest decides
front : (p s : List ℕ) → well_formed_sequence p ≡ true → well_formed_of (p ++ s) ≡ well_formed_of s
unfolding well_formed_of chars well_formed_sequence table37
front [] s h = absurd (false≢true h)
front (b ∷ q) s h =
    let k = suc (length q) in
    let r = sequence_read b (q ++ s) k (omega (arith, length-append q s)) (ap well_formed_sequence (take-append_seam (b ∷ q) s) ∙ h) in
    let e : tail_len b (q ++ s) ≡ length q = omega (arith, length_text b (q ++ s), ap length r.0, length-take-le (length q) (q ++ s) (omega (arith, length-append q s))) in
    rw (r.1, e, from_skip q s)

parts_well_formed : (ps : List (List ℕ)) → all_sequences ps ≡ true → well_formed_of (concatenation ps) ≡ true
unfolding well_formed_of chars
parts_well_formed [] h = refl
parts_well_formed (p ∷ ps) h =
    let q = and_true (well_formed_sequence p) (all_sequences ps) h in
    front p (concatenation ps) q.0 ∙ parts_well_formed ps q.1

pub text_well_formed : (s : List ℕ) → WellFormedText s → well_formed_of s ≡ true
text_well_formed s t = rw (← t.whole) (parts_well_formed t.parts t.each)
