-- The plan of an indenting, which goes byte by byte, as the code goes through it: from one line that gets a prefix to the next (`plan_next`, `plan_last`); how much it writes (`sized`);
-- and the passes over the data that find the lines: how far it is to the next line that is not empty (`to_next`), past the next 0A (`to_break`).
use mathlib.Core.Path.{◌≡◌, refl, sym, ap, ◌∙◌}
use mathlib.Core.Bool.{Bool, true, false, cond, ◌&&◌, not}
use mathlib.Core.List.{List, [], ◌∷◌, ◌++◌, append_assoc}
use Prim.Native.Nat.{ℕ, suc, ◌+◌, ◌*◌, ◌≤◌, ◌<◌, zero, ◌/◌}
use native.Mathlib.Nat.{zero-mul, one-mul, add-mul}
use native.Mathlib.Numerals.{add-one}
use native.Mathlib.Omega.{arith}
use borrow.Author.Tests.{eq-eqb, ne_eqb, ltb-false}
use lib.Dec.{eqb}
use lib.ListN.{length, drop, get_or, length-drop, drop_of_length-le}
use lib.Seq.{drop-cons, drop-drop}
use Rattle.std.specs.List.{position_or_len, AllWithin, HoldsAt, list_any}
use Rattle.std.specs.Prelude.{Option, None, Some}
use Rattle.std.specs.Option.{MatchOption, unwrap_or}
use Rattle.std.proofs.lemmas.List.Sums.{position_or_len_is}
use Rattle.std.proofs.lemmas.List.Recursion.{is_position_or_len}
use Rattle.recording.specs.Recording.{Item}
use Rattle.recording.specs.Edit.{keep, put, front, back, edit}
use Rattle.recording.proofs.EditLaws.{front_with_back, front-add, back-add}
use Rattle.layout.specs.Layout.{indent_ops}
use Rattle.newlines.specs.Newlines.{to_break}
use Rattle.newlines.proofs.BreakLaws.{any_break, break_past}
use Rattle.std.specs.Simd.{first_chunks}
use Rattle.std.proofs.Math.Nat.{div-mul-le_self}
use Rattle.indent.specs.Lines.{filled_lines_of, to_next}

-- ── from line to line
pub plan_next : (p : List Item) (start : Bool) (d : List ℕ) (is : List Item) → to_next start d < length d
    → edit (indent_ops p start d) is ≡ front (to_next start d) is ++ (p ++ edit (indent_ops p false (drop (to_next start d) d)) (back (to_next start d) is))
unfolding to_next
plan_next p start [] is h = absurd (omega arith)
plan_next p start (b ∷ bs) is h = go (start && not (eqb b 0x0A)) (λ g. plan_next p (eqb b 0x0A) bs (back 1 is) g) h
  where
    m : ℕ
    m = to_next (eqb b 0x0A) bs

    rest : List Item → List Item
    rest x = edit (indent_ops p false (drop m bs)) x

    go : (t : Bool) → (m < length bs → edit (indent_ops p (eqb b 0x0A) bs) (back 1 is) ≡ front m (back 1 is) ++ (p ++ rest (back m (back 1 is)))) → cond t 0 (suc m) < suc (length bs)
        → edit (cond t (put p ∷ []) [] ++ (keep 1 ∷ indent_ops p (eqb b 0x0A) bs)) is
        ≡ front (cond t 0 (suc m)) is ++ (p ++ edit (indent_ops p false (drop (cond t 0 (suc m)) (b ∷ bs))) (back (cond t 0 (suc m)) is))
    go true f g = refl
    go false f g =
        let e : 1 + m ≡ suc m = omega arith in
        ap (λ (l : List Item). front 1 is ++ l) (f (omega arith))
        ∙ sym (append_assoc (front 1 is) (front m (back 1 is)) (p ++ rest (back m (back 1 is))))
        ∙ (λ i. sym (front-add 1 m is) i ++ (p ++ rest (sym (back-add 1 m is) i)))
        ∙ ap (λ (n : ℕ). front n is ++ (p ++ rest (back n is))) e

pub plan_last : (p : List Item) (start : Bool) (d : List ℕ) (is : List Item) → length d ≤ to_next start d → edit (indent_ops p start d) is ≡ is
unfolding to_next
plan_last p start [] is h = refl
plan_last p start (b ∷ bs) is h = go (start && not (eqb b 0x0A)) (λ g. plan_last p (eqb b 0x0A) bs (back 1 is) g) h
  where
    go : (t : Bool) → (length bs ≤ to_next (eqb b 0x0A) bs → edit (indent_ops p (eqb b 0x0A) bs) (back 1 is) ≡ back 1 is) → suc (length bs) ≤ cond t 0 (suc (to_next (eqb b 0x0A) bs))
        → edit (cond t (put p ∷ []) [] ++ (keep 1 ∷ indent_ops p (eqb b 0x0A) bs)) is ≡ is
    go true f g = absurd (omega arith)
    go false f g = ap (λ (l : List Item). front 1 is ++ l) (f (omega arith)) ∙ front_with_back 1 is

-- ── sizes: the content's, and the prefix's for each line that is not empty; `size` counts bytes, entries or text
module _ (size : List Item → ℕ) (size-append : (a b : List Item) → size (a ++ b) ≡ size a + size b) where
  split : (n : ℕ) (is : List Item) → size (front n is) + size (back n is) ≡ size is
  split n is = sym (size-append (front n is) (back n is)) ∙ ap size (front_with_back n is)

  pub sized : (p : List Item) (start : Bool) (d : List ℕ) (is : List Item) → size (edit (indent_ops p start d) is) ≡ size is + filled_lines_of start d * size p
  unfolding filled_lines_of
  sized p start [] is = omega (arith, zero-mul (size p))
  sized p start (b ∷ bs) is = go (start && not (eqb b 0x0A)) (λ x. sized p (eqb b 0x0A) bs x)
    where
      n : ℕ
      n = filled_lines_of (eqb b 0x0A) bs

      Rest : Type 0
      Rest = (x : List Item) → size (edit (indent_ops p (eqb b 0x0A) bs) x) ≡ size x + n * size p

      kept : Rest → (x : List Item) → size (edit (keep 1 ∷ indent_ops p (eqb b 0x0A) bs) x) ≡ size x + n * size p
      kept f x = omega (arith, size-append (front 1 x) (edit (indent_ops p (eqb b 0x0A) bs) (back 1 x)), split 1 x, f (back 1 x))

      go : (t : Bool) → Rest → size (edit (cond t (put p ∷ []) [] ++ (keep 1 ∷ indent_ops p (eqb b 0x0A) bs)) is) ≡ size is + (cond t 1 0 + n) * size p
      go true f =
          let x : List Item = edit (keep 1 ∷ indent_ops p (eqb b 0x0A) bs) (back 0 is) in
          omega (arith, size-append (front 0 is) (p ++ x), size-append p x, split 0 is, kept f (back 0 is), add-mul 1 n (size p), one-mul (size p))
      go false f = kept f is ∙ ap (λ (k : ℕ). size is + k * size p) (omega arith)

-- ── the count, from line to line
pub filled_next : (start : Bool) (d : List ℕ) → to_next start d < length d → filled_lines_of start d ≡ suc (filled_lines_of false (drop (to_next start d) d))
unfolding filled_lines_of to_next
filled_next start [] h = absurd (omega arith)
filled_next start (b ∷ bs) h = go (start && not (eqb b 0x0A)) (λ g. filled_next (eqb b 0x0A) bs g) h
  where
    m : ℕ
    m = to_next (eqb b 0x0A) bs

    go : (t : Bool) → (m < length bs → filled_lines_of (eqb b 0x0A) bs ≡ suc (filled_lines_of false (drop m bs))) → cond t 0 (suc m) < suc (length bs)
        → cond t 1 0 + filled_lines_of (eqb b 0x0A) bs ≡ suc (filled_lines_of false (drop (cond t 0 (suc m)) (b ∷ bs)))
    go true f g = omega arith
    go false f g = omega (arith, f (omega arith))

pub filled_none : (start : Bool) (d : List ℕ) → length d ≤ to_next start d → filled_lines_of start d ≡ 0
unfolding filled_lines_of to_next
filled_none start [] h = refl
filled_none start (b ∷ bs) h = go (start && not (eqb b 0x0A)) (λ g. filled_none (eqb b 0x0A) bs g) h
  where
    go : (t : Bool) → (length bs ≤ to_next (eqb b 0x0A) bs → filled_lines_of (eqb b 0x0A) bs ≡ 0) → suc (length bs) ≤ cond t 0 (suc (to_next (eqb b 0x0A) bs)) → cond t 1 0 + filled_lines_of (eqb b 0x0A) bs ≡ 0
    go true f g = absurd (omega arith)
    go false f g = omega (arith, f (omega arith))

-- ── the next line: past its 0A and the empty lines after it
next_drop : (d : List ℕ) → to_next false d ≡ to_break d + to_next true (drop (to_break d) d)
unfolding to_next to_break
next_drop [] = refl
next_drop (b ∷ bs) = go (eqb b 0x0A) refl (next_drop bs)
  where
    go : (t : Bool) → eqb b 0x0A ≡ t → to_next false bs ≡ to_break bs + to_next true (drop (to_break bs) bs)
        → suc (to_next t bs) ≡ cond t 0 (suc (to_break bs)) + to_next true (drop (cond t 0 (suc (to_break bs))) (b ∷ bs))
    go true e f =
        let h : to_next true (b ∷ bs) ≡ suc (to_next true bs) = rw e in
        omega (arith, h)
    go false e f = omega (arith, f)

pub next_after : (at : ℕ) (d : List ℕ) → to_next false (drop at d) ≡ to_break (drop at d) + to_next true (drop (at + to_break (drop at d)) d)
next_after at d = next_drop (drop at d) ∙ ap (λ (l : List ℕ). to_break (drop at d) + to_next true l) (drop-drop (to_break (drop at d)) at d)

module _ (start : Bool) (at : ℕ) (d : List ℕ) (more : at < length d) where
  next_is : to_next start (drop at d) ≡ cond (start && not (eqb (get_or d at 0) 0x0A)) 0 (suc (to_next (eqb (get_or d at 0) 0x0A) (drop (at + 1) d)))
  unfolding to_next
  next_is = rw (add-one, drop-cons d at 0 more)

module _ (at : ℕ) (d : List ℕ) (more : at < length d) where
  pub next_here : (get_or d at 0 ≡ 0x0A → ⊥) → to_next true (drop at d) ≡ 0
  next_here h = simp (ne_eqb _ _ h) at (next_is true at d more)

  pub next_later : get_or d at 0 ≡ 0x0A → to_next true (drop at d) ≡ suc (to_next true (drop (at + 1) d))
  next_later h = simp (eq-eqb _ _ h) at (next_is true at d more)

  -- a byte that has its prefix is passed
  pub next_past : 0 < to_next false (drop at d)
  next_past = omega (arith, next_is false at d more)

pub next_end : (at : ℕ) (d : List ℕ) → length d ≤ at → to_next true (drop at d) ≡ 0
unfolding to_next
next_end at d past = rw (drop_of_length-le d {i = at} past)

-- ── the passes are searches
-- what `position` answers over d, the length where it finds none
pub found : (p : ℕ → Bool) (d : List ℕ) (r : Option ℕ)
    → MatchOption r (AllWithin (λ x. p x ≡ false) d 0 (length d)) (λ i. (i < length d) × HoldsAt (λ x. p x ≡ true) d i × AllWithin (λ x. p x ≡ false) d 0 i)
    → unwrap_or r (length d) ≡ position_or_len p d
found p d None h = sym (position_or_len_is p d (length d) 0 (omega arith) (λ k lt. h k 0 (omega arith) lt) (λ lt. absurd (omega arith)))
found p d (Some i) h = sym (position_or_len_is p d i 0 (omega (arith, h.0)) (λ k lt. h.2 k 0 (omega arith) lt) (λ lt. h.1 0))

pub break_position : (d : List ℕ) → position_or_len (λ b. eqb b 0x0A) d ≡ to_break d
unfolding to_break
break_position d = sym (is_position_or_len to_break (λ b. eqb b 0x0A) refl (λ b bs. ap (λ (n : ℕ). cond (eqb b 0x0A) 0 n) (omega arith)) d)

pub filled_position : (d : List ℕ) → position_or_len (λ b. not (eqb b 0x0A)) d ≡ to_next true d
unfolding to_next
filled_position d = sym (is_position_or_len (to_next true) (λ b. not (eqb b 0x0A)) refl (λ b bs. go (eqb b 0x0A) bs) d)
  where
    go : (t : Bool) (bs : List ℕ) → cond (not t) 0 (suc (to_next t bs)) ≡ cond (not t) 0 (1 + to_next true bs)
    go true bs = omega arith
    go false bs = refl

-- ── blocks of 16 bytes
-- the first k of n blocks have no 0A: as many bytes come before the next
blocks_none : (k n : ℕ) (d : List ℕ) → k ≤ n → n * 16 ≤ length d → ((j : ℕ) → j < k → list_any (λ b. eqb b 0x0A) (get_or (first_chunks 16 n d) j []) ≡ false) → 16 * k ≤ to_break d
blocks_none zero n d h l p = omega arith
blocks_none (suc k) zero d h l p = absurd (omega arith)
blocks_none (suc k) (suc n) d h l p =
    let a : 16 ≤ to_break d = ltb-false (to_break d) 16 (sym (any_break 16 d (omega arith)) ∙ p 0 (omega arith)) in
    let r = blocks_none k n (drop 16 d) (omega arith) (omega (arith, length-drop 16 d)) (λ j q. p (suc j) (omega arith)) in
    omega (arith, break_past 16 0 d a, r)

-- what `position` answers over the blocks of d
pub blocks_passed : (d : List ℕ) (blocks : List (List ℕ)) (r : Option ℕ) → blocks ≡ first_chunks 16 (length d / 16) d → length blocks ≡ length d / 16
    → MatchOption r (AllWithin (λ b. list_any (λ x. eqb x 0x0A) b ≡ false) blocks 0 (length blocks))
    (λ i. (i < length blocks) × HoldsAt (λ b. Unit {0}) blocks i × AllWithin (λ b. list_any (λ x. eqb x 0x0A) b ≡ false) blocks 0 i)
    → (16 * unwrap_or r (length blocks) ≤ to_break d) × (16 * unwrap_or r (length blocks) ≤ length d)
blocks_passed d blocks None e c a =
    let l = div-mul-le_self (length d) 16 in
    (blocks_none (length blocks) (length d / 16) d (omega (arith, c)) l (λ j q. rw (← e) (a j [] (omega arith) q)), omega (arith, c, l))
blocks_passed d blocks (Some i) e c a =
    let l = div-mul-le_self (length d) 16 in
    (blocks_none i (length d / 16) d (omega (arith, c, a.0)) l (λ j q. rw (← e) (a.2 j [] (omega arith) q)), omega (arith, c, l, a.0))

-- ── the loop that counts: n lines are counted, p is the first place of the next line that is not empty
pub record Counted (d : List ℕ) (n p : ℕ) : Type 0 where
  -- up to where the lines are counted, and whether the byte there may start one
  pub from : ℕ
  pub start : Bool
  pub next : p ≡ from + to_next start (drop from d)
  -- what is left gives the rest of the count
  pub rest : n + filled_lines_of start (drop from d) ≡ filled_lines_of true d
  pub within : p ≤ length d
  pub few : n ≤ p

module _ (d : List ℕ) (n p : ℕ) (s : Counted d n p) where
  abbrev left : List ℕ
  left = drop s.from d

  pub one_more : p < length d → (p' : ℕ) → p' ≡ p + to_next false (drop p d) → p' ≤ length d → Counted d (n + 1) p'
  one_more more p' e l =
      let here : drop (to_next s.start left) left ≡ drop p d = drop-drop (to_next s.start left) s.from d ∙ ap (λ (m : ℕ). drop m d) (sym s.next) in
      let one : filled_lines_of s.start left ≡ suc (filled_lines_of false (drop p d)) =
      filled_next s.start left (omega (arith, s.next, length-drop s.from d)) ∙ ap (λ (l : List ℕ). suc (filled_lines_of false l)) here in
      record { from = p; start = false; next = e; rest = omega (arith, s.rest, one); within = l; few = omega (arith, s.few, e, next_past p d more) }

  pub all : length d ≤ p → n ≡ filled_lines_of true d
  all past = omega (arith, s.rest, filled_none s.start left (omega (arith, s.next, length-drop s.from d)))
