-- Whether a list is the index, asked without finding the lines: numbers that rise, each behind a 0A, and as many as there are 0A, are all of them (`all_behind`).
-- The idea: such numbers are never more than the 0A that are left (`few_behind`), so none can be passed over.
use Prim.Native.Nat.{ℕ, suc, ◌+◌, ◌-◌, ◌≤◌, ◌<◌}
use native.Mathlib.Omega.{arith}
use native.Mathlib.Numerals.{add-one}
use mathlib.Core.Bool.{Bool, true, false, cond, ◌&&◌, false≢true}
use mathlib.Core.Path.{◌≡◌, refl, sym, ap, subst, ◌∙◌}
use mathlib.Core.List.{List, [], ◌∷◌}
use lib.Dec.{leb, ltb, eqb}
use lib.ListN.{length, drop, get_or, length-drop, drop_of_length-le}
use lib.Seq.{drop-cons}
use borrow.Author.Tests.{eq-eqb, ne_eqb, eqb-true, eqb-false, ltb-true, leb-true, lt-ltb, le-ltb, le-leb, lt-leb}
use Rattle.newlines.specs.Newlines.{newlines}
use Rattle.recording.specs.Lists.{same}
use Rattle.recording.proofs.Lists.{and_left, and_right, same_self, same_equal}
use Rattle.line_index.specs.Starts.{starts_from, line_starts}
use Rattle.line_index.specs.Code.{behind, stand_behind_in}
use Rattle.line_index.proofs.StartLaws.{count_starts, left_more, left_byte, left_next}

-- ── one number
module _ (w : List ℕ) (last n : ℕ) where
  behind_out : behind w last n ≡ true → (last < n) × (n ≤ length w) × (get_or w (n - 1) 0 ≡ 0x0A)
  behind_out h =
      let r = and_right (ltb last n) (leb n (length w) && eqb (get_or w (n - 1) 0) 0x0A) h in (
        ltb-true _ _ (and_left (ltb last n) (leb n (length w) && eqb (get_or w (n - 1) 0) 0x0A) h),
        leb-true _ _ (and_left (leb n (length w)) (eqb (get_or w (n - 1) 0) 0x0A) r),
        eqb-true _ _ (and_right (leb n (length w)) (eqb (get_or w (n - 1) 0) 0x0A) r),
      )

  pub behind_in : last < n → n ≤ length w → get_or w (n - 1) 0 ≡ 0x0A → behind w last n ≡ true
  behind_in a b c = rw (lt-ltb last n a, le-leb n (length w) b, eq-eqb _ _ c)

  pub behind_low : n ≤ last → behind w last n ≡ false
  behind_low h = rw (le-ltb last n h)

  pub behind_past : last < n → length w < n → behind w last n ≡ false
  behind_past a h = rw (lt-ltb last n a, lt-leb n (length w) h)

  pub behind-other : last < n → n ≤ length w → (get_or w (n - 1) 0 ≡ 0x0A → ⊥) → behind w last n ≡ false
  behind-other a b h = rw (lt-ltb last n a, le-leb n (length w) b, ne_eqb _ _ h)

module _ (w : List ℕ) (last n : ℕ) (ns : List ℕ) (h : stand_behind_in w last (n ∷ ns) ≡ true) where
  first_behind : (last < n) × (n ≤ length w) × (get_or w (n - 1) 0 ≡ 0x0A)
  first_behind = behind_out w last n (and_left (behind w last n) (stand_behind_in w n ns) h)

  rest-behind : stand_behind_in w n ns ≡ true
  rest-behind = and_right (behind w last n) (stand_behind_in w n ns) h

-- the numbers from k on, asked one by one
module _ (w : List ℕ) (last : ℕ) (ix : List ℕ) (k : ℕ) (h : k < length ix) where
  behind_next : stand_behind_in w last (drop k ix) ≡ (behind w last (get_or ix k 0) && stand_behind_in w (get_or ix k 0) (drop (k + 1) ix))
  behind_next = rw (add-one, drop-cons ix k 0 h)

  pub behind_stop : (t : Bool) → stand_behind_in w last (drop k ix) ≡ t → behind w last (get_or ix k 0) ≡ false → false ≡ t
  behind_stop t e b = sym (rw b at behind_next) ∙ e

  pub behind_on : (t : Bool) → stand_behind_in w last (drop k ix) ≡ t → behind w last (get_or ix k 0) ≡ true → stand_behind_in w (get_or ix k 0) (drop (k + 1) ix) ≡ t
  behind_on t e b = sym (rw b at behind_next) ∙ e

pub behind_end : (w : List ℕ) (last : ℕ) (ix : List ℕ) (k : ℕ) → length ix ≤ k → stand_behind_in w last (drop k ix) ≡ true
behind_end w last ix k h = rw (drop_of_length-le ix {i = k} h)

-- they need not begin so low
sooner : (w : List ℕ) (last at : ℕ) (ns : List ℕ) → last ≤ at → stand_behind_in w at ns ≡ true → stand_behind_in w last ns ≡ true
sooner w last at [] l h = refl
sooner w last at (n ∷ ns) l h =
    let f = first_behind w at n ns h in
    rw (behind_in w last n (omega (arith, f.0, l)) f.1 f.2) (rest-behind w at n ns h)

later : (w : List ℕ) (last at n : ℕ) (ns : List ℕ) → at < n → stand_behind_in w last (n ∷ ns) ≡ true → stand_behind_in w at (n ∷ ns) ≡ true
later w last at n ns l h =
    let f = first_behind w last n ns h in
    rw (behind_in w at n l f.1 f.2) (rest-behind w last n ns h)

-- ── numbers at the place behind the next byte, or beyond it
data Next (at : ℕ) (ns : List ℕ) : Type 0 where
  none : ns ≡ [] → Next at ns
  here : (r : List ℕ) → ns ≡ suc at ∷ r → Next at ns
  beyond : (n : ℕ) (r : List ℕ) → ns ≡ n ∷ r → suc at < n → Next at ns

next_of : (w : List ℕ) (at : ℕ) (ns : List ℕ) → stand_behind_in w at ns ≡ true → Next at ns
next_of w at [] h = none refl
next_of w at (n ∷ ns) h = go (eqb n (suc at)) refl
  where
    go : (t : Bool) → eqb n (suc at) ≡ t → Next at (n ∷ ns)
    go true e = here ns (ap (λ (k : ℕ). k ∷ ns) (eqb-true n (suc at) e))
    go false e = beyond n ns refl (omega (arith, (first_behind w at n ns h).0, eqb-false n (suc at) e))

module _ (w : List ℕ) (at b : ℕ) (d : List ℕ) (e : drop at w ≡ b ∷ d) where
  -- a number at the next place says that the byte is a 0A
  next_newline : (r : List ℕ) → stand_behind_in w at (suc at ∷ r) ≡ true → b ≡ 0x0A
  next_newline r h =
      let k : suc at - 1 ≡ at = omega arith in
      sym (left_byte at b d w e) ∙ sym (ap (λ (n : ℕ). get_or w n 0) k) ∙ (first_behind w at (suc at) r h).2

-- NEVER MORE than the 0A that are left
few_behind : (w : List ℕ) (at : ℕ) (d ns : List ℕ) → drop at w ≡ d → stand_behind_in w at ns ≡ true → length ns ≤ newlines d
few_behind w at [] [] e h = omega arith
few_behind w at [] (n ∷ ns) e h = absurd (omega (arith, (first_behind w at n ns h).0, (first_behind w at n ns h).1, ap length e, length-drop at w))
few_behind w at (b ∷ d) ns e h = go (next_of w at ns h) (λ ms m. few_behind w (suc at) d ms (left_next at b d w e) m)
  where
    Rest : Type 0
    Rest = (ms : List ℕ) → stand_behind_in w (suc at) ms ≡ true → length ms ≤ newlines d

    more : newlines d ≤ newlines (b ∷ d)
    more = bit (eqb b 0x0A)
      where
        bit : (t : Bool) → newlines d ≤ cond t 1 0 + newlines d
        bit true = omega arith
        bit false = omega arith

    go : Next at ns → Rest → length ns ≤ newlines (b ∷ d)
    go (none q) f = rw q (omega arith)
    go (here r q) f =
        let k : stand_behind_in w at (suc at ∷ r) ≡ true = subst (λ (l : List ℕ). stand_behind_in w at l ≡ true) q h in
        let z : newlines (b ∷ d) ≡ 1 + newlines d = rw (eq-eqb b 0x0A (next_newline w at b d e r k)) in
        omega (arith, ap length q, z, f r (rest-behind w at (suc at) r k))
    go (beyond n r q l) f =
        let k : stand_behind_in w at (n ∷ r) ≡ true = subst (λ (x : List ℕ). stand_behind_in w at x ≡ true) q h in
        omega (arith, ap length q, more, f (n ∷ r) (later w at (suc at) n r l k))

-- AS MANY, AND THEY ARE ALL
all_behind : (w : List ℕ) (at : ℕ) (d ns : List ℕ) → drop at w ≡ d → stand_behind_in w at ns ≡ true → length ns ≡ newlines d → ns ≡ starts_from at d
unfolding starts_from
all_behind w at [] [] e h c = refl
all_behind w at [] (n ∷ ns) e h c = absurd (omega arith)
all_behind w at (b ∷ d) ns e h c = go (eqb b 0x0A) refl c (next_of w at ns h) (λ ms m k. all_behind w (suc at) d ms (left_next at b d w e) m k)
  where
    Rest : Type 0
    Rest = (ms : List ℕ) → stand_behind_in w (suc at) ms ≡ true → length ms ≡ newlines d → ms ≡ starts_from (suc at) d

    go : (t : Bool) → eqb b 0x0A ≡ t → length ns ≡ cond t 1 0 + newlines d → Next at ns → Rest → ns ≡ cond t (suc at ∷ starts_from (suc at) d) (starts_from (suc at) d)
    go true z k (none q) f = absurd (omega (arith, k, ap length q))
    go true z k (here r q) f =
        let m : stand_behind_in w at (suc at ∷ r) ≡ true = subst (λ (l : List ℕ). stand_behind_in w at l ≡ true) q h in
        q ∙ ap (λ (l : List ℕ). suc at ∷ l) (f r (rest-behind w at (suc at) r m) (omega (arith, k, ap length q)))
    go true z k (beyond n r q l) f =
        let m : stand_behind_in w at (n ∷ r) ≡ true = subst (λ (x : List ℕ). stand_behind_in w at x ≡ true) q h in
        absurd (omega (arith, k, ap length q, few_behind w (suc at) d (n ∷ r) (left_next at b d w e) (later w at (suc at) n r l m)))
    go false z k (none q) f = f ns (rw q) (omega (arith, k))
    go false z k (here r q) f =
        let m : stand_behind_in w at (suc at ∷ r) ≡ true = subst (λ (l : List ℕ). stand_behind_in w at l ≡ true) q h in
        absurd (eqb-false b 0x0A z (next_newline w at b d e r m))
    go false z k (beyond n r q l) f =
        let m : stand_behind_in w at (n ∷ r) ≡ true = subst (λ (x : List ℕ). stand_behind_in w at x ≡ true) q h in
        f ns (subst (λ (x : List ℕ). stand_behind_in w (suc at) x ≡ true) (sym q) (later w at (suc at) n r l m)) (omega (arith, k))

-- the starts are such numbers
starts_behind : (w : List ℕ) (at : ℕ) (d : List ℕ) → drop at w ≡ d → stand_behind_in w at (starts_from at d) ≡ true
unfolding starts_from
starts_behind w at [] e = refl
starts_behind w at (b ∷ d) e = go (eqb b 0x0A) refl (starts_behind w (suc at) d (left_next at b d w e))
  where
    go : (t : Bool) → eqb b 0x0A ≡ t → stand_behind_in w (suc at) (starts_from (suc at) d) ≡ true
        → stand_behind_in w at (cond t (suc at ∷ starts_from (suc at) d) (starts_from (suc at) d)) ≡ true
    go true z h =
        let k : suc at - 1 ≡ at = omega arith in
        rw (behind_in w at (suc at) (omega arith) (omega (arith, left_more at b d w e)) (ap (λ (n : ℕ). get_or w n 0) k ∙ left_byte at b d w e ∙ eqb-true b 0x0A z)) h
    go false z h = sooner w at (suc at) (starts_from (suc at) d) (omega arith) h

-- ── the list as it is asked
module _ (d ix : List ℕ) where
  -- of what is not equal
  not_same : (ix ≡ line_starts d → ⊥) → false ≡ same ix (line_starts d)
  not_same n = go (same ix (line_starts d)) refl
    where
      go : (t : Bool) → same ix (line_starts d) ≡ t → false ≡ t
      go true e = absurd (n (same_equal ix (line_starts d) e))
      go false e = refl

  pub ask_none : length ix ≡ 0 → false ≡ same ix (line_starts d)
  unfolding line_starts
  ask_none h = not_same (λ e. omega (arith, h, ap length e))

  pub ask_first : (get_or ix 0 0 ≡ 0 → ⊥) → false ≡ same ix (line_starts d)
  unfolding line_starts
  ask_first h = not_same (λ e. h (ap (λ (l : List ℕ). get_or l 0 0) e))

  pub ask_behind : stand_behind_in d 0 (drop 1 ix) ≡ false → false ≡ same ix (line_starts d)
  unfolding line_starts
  ask_behind h = not_same (λ e. false≢true (sym h ∙ ap (λ (l : List ℕ). stand_behind_in d 0 (drop 1 l)) e ∙ starts_behind d 0 d refl))

  pub ask_count : 0 < length ix → get_or ix 0 0 ≡ 0 → stand_behind_in d 0 (drop 1 ix) ≡ true → eqb (newlines d) (length ix - 1) ≡ same ix (line_starts d)
  unfolding line_starts
  ask_count m z h = go (eqb (newlines d) (length ix - 1)) refl
    where
      -- its 0, and the rest
      parts : ix ≡ 0 ∷ drop 1 ix
      parts = drop-cons ix 0 0 m ∙ ap (λ (n : ℕ). n ∷ drop 1 ix) z

      go : (t : Bool) → eqb (newlines d) (length ix - 1) ≡ t → t ≡ same ix (0 ∷ starts_from 0 d)
      go true e =
          let q : ix ≡ 0 ∷ starts_from 0 d
          = parts ∙ ap (λ (l : List ℕ). 0 ∷ l) (all_behind d 0 d (drop 1 ix) refl h (omega (arith, length-drop 1 ix, eqb-true (newlines d) (length ix - 1) e))) in
          sym (ap (λ (l : List ℕ). same l (0 ∷ starts_from 0 d)) q ∙ same_self (0 ∷ starts_from 0 d))
      go false e = not_same (λ q. eqb-false (newlines d) (length ix - 1) e (omega (arith, ap length q, count_starts 0 d)))
