-- The next 0A: bytes before it are passed one by one or many at once (`break_later`, `break_past`), and the bytes of a block are asked one after another (`any_next`) or at once (`any_break`, `any_block`).
use mathlib.Core.Path.{◌≡◌, sym, ap, ◌∙◌}
use mathlib.Core.Bool.{Bool, true, false, cond, ◌||◌}
use mathlib.Core.List.{List, [], ◌∷◌}
use Prim.Native.Nat.{ℕ, zero, suc, ◌+◌, ◌≤◌, ◌<◌}
use native.Mathlib.Numerals.{add-one}
use native.Mathlib.Omega.{arith}
use Rattle.std.proofs.lemmas.Bool.Decides.{nat_tests}
use borrow.Author.Tests.{eq-eqb, ne_eqb, lt-ltb, le-ltb}
use lib.Dec.{eqb, ltb}
use lib.ListN.{length, take, drop, get_or, drop_of_length-le}
use lib.Seq.{drop-cons, drop-drop}
use Rattle.std.specs.List.{list_any}
use Rattle.std.proofs.Math.Bool.{or_assoc, or-false}
use Rattle.std.proofs.lemmas.List.{take_all}
use Rattle.newlines.specs.Newlines.{to_break, has_break_in}

-- ── the next 0A: n bytes before it are passed at once
break_drop : (n : ℕ) (d : List ℕ) → n ≤ to_break d → to_break d ≡ n + to_break (drop n d)
unfolding to_break
break_drop zero d h = omega arith
break_drop (suc n) [] h = absurd (omega arith)
break_drop (suc n) (b ∷ bs) h = go (eqb b 0x0A) (λ g. break_drop n bs g) h
  where
    go : (t : Bool) → (n ≤ to_break bs → to_break bs ≡ n + to_break (drop n bs)) → suc n ≤ cond t 0 (suc (to_break bs)) → cond t 0 (suc (to_break bs)) ≡ suc n + to_break (drop n bs)
    go true f g = absurd (omega arith)
    go false f g = omega (arith, f (omega arith))

pub break_past : (n at : ℕ) (d : List ℕ) → n ≤ to_break (drop at d) → to_break (drop at d) ≡ n + to_break (drop (at + n) d)
break_past n at d h = break_drop n (drop at d) h ∙ ap (λ (l : List ℕ). n + to_break l) (drop-drop n at d)

module _ (at : ℕ) (d : List ℕ) (more : at < length d) where
  break_is : to_break (drop at d) ≡ cond (eqb (get_or d at 0) 0x0A) 0 (suc (to_break (drop (at + 1) d)))
  unfolding to_break
  break_is = rw (add-one, drop-cons d at 0 more)

  pub break_here : get_or d at 0 ≡ 0x0A → to_break (drop at d) ≡ 0
  break_here h = simp (eq-eqb _ _ h) at break_is

  pub break_later : (get_or d at 0 ≡ 0x0A → ⊥) → to_break (drop at d) ≡ suc (to_break (drop (at + 1) d))
  break_later h = simp (ne_eqb _ _ h) at break_is

pub break_end : (at : ℕ) (d : List ℕ) → length d ≤ at → to_break (drop at d) ≡ 0
unfolding to_break
break_end at d past = rw (drop_of_length-le d {i = at} past)

-- whether one of the first n bytes is 0A
pub any_break : (n : ℕ) (d : List ℕ) → n ≤ length d → list_any (λ b. eqb b 0x0A) (take n d) ≡ ltb (to_break d) n
unfolding to_break
any_break zero d h = sym (le-ltb (to_break d) 0 (omega arith))
any_break (suc n) [] h = absurd (omega arith)
any_break (suc n) (b ∷ d) h = go (eqb b 0x0A) (any_break n d (omega arith))
  where
    one_more : (m : ℕ) → ltb m n ≡ ltb (suc m) (suc n)
    one_more m = grind (arith, nat_tests)

    go : (t : Bool) → list_any (λ x. eqb x 0x0A) (take n d) ≡ ltb (to_break d) n → (t || list_any (λ x. eqb x 0x0A) (take n d)) ≡ ltb (cond t 0 (suc (to_break d))) (suc n)
    go true e = sym (lt-ltb 0 (suc n) (omega arith))
    go false e = e ∙ one_more (to_break d)

-- one byte more
pub any_next : (j : ℕ) (d : List ℕ) → j < length d → has_break_in (take (j + 1) d) ≡ (has_break_in (take j d) || eqb (get_or d j 0) 0x0A)
any_next j d h = rw add-one (go j d h)
  where
    go : (j : ℕ) (d : List ℕ) → j < length d → has_break_in (take (suc j) d) ≡ (has_break_in (take j d) || eqb (get_or d j 0) 0x0A)
    go j [] h = absurd (omega arith)
    go zero (b ∷ d) h = or-false (eqb b 0x0A)
    go (suc j) (b ∷ d) h = ap (λ (t : Bool). eqb b 0x0A || t) (go j d (omega arith)) ∙ sym (or_assoc (eqb b 0x0A) (has_break_in (take j d)) (eqb (get_or d j 0) 0x0A))

-- all bytes of a block
pub any_block : (d : List ℕ) → length d ≡ 16 → has_break_in d ≡ ltb (to_break d) 16
any_block d h = ap has_break_in (sym (take_all 16 d (omega (arith, h)))) ∙ any_break 16 d (omega (arith, h))
