-- Ranges beside one another: a code point in none of the last ranges of a table has its width by those before; one that the first ranges leave aside has its width by those behind; and ranges within a
-- stretch say nothing of a code point outside it.
use Prim.Native.Nat.{ℕ, ◌≤◌}
use native.Mathlib.Omega.{arith}
use mathlib.Core.Bool.{Bool, true, false, ◌&&◌, ◌||◌, false≢true}
use mathlib.Core.Path.{◌≡◌, refl, sym, ◌∙◌}
use mathlib.Core.List.{List, [], ◌∷◌, ◌++◌}
use lib.Dec.{leb, ltb, T, leb→le}
use borrow.Author.Tests.{leb-true, lt-leb, ltb-true}
use Rattle.chars.specs.Utf8.{within}
use Rattle.chars.specs.Width.{Range, width_in}
use Rattle.chars.proofs.Table.{and_left, and_right}
use Rattle.chars.proofs.ReaderLaws.{in_span}

pub behind : (rs ss : List Range) (c : ℕ) → width_in ss c ≡ 1 → width_in (rs ++ ss) c ≡ width_in rs c
behind [] ss c h = h
behind (r ∷ rs) ss c h = rw (behind rs ss c h)

-- what a test that holds says
pub bounds : (a b c : ℕ) → within a b c ≡ true → (a ≤ c) × (c ≤ b)
bounds a b c h = go (leb a c) refl (leb c b) refl h
  where
    go : (s : Bool) → leb a c ≡ s → (t : Bool) → leb c b ≡ t → (s && t) ≡ true → (a ≤ c) × (c ≤ b)
    go true e true f h = (leb-true a c e, leb-true c b f)
    go true e false f h = absurd (false≢true h)
    go false e t f h = absurd (false≢true h)

-- ── ranges that leave a stretch aside
abbrev pub all_aside : ℕ → ℕ → List Range → Bool
all_aside low high [] = true
all_aside low high (r ∷ rs) = (ltb r.last low || ltb high r.first) && all_aside low high rs

and_no : (a b : Bool) → b ≡ false → (a && b) ≡ false
and_no true b h = h
and_no false b h = refl

module _ (low high c : ℕ) (from : low ≤ c) (to : c ≤ high) where
  outside : (a b : ℕ) → T (ltb b low || ltb high a) → within a b c ≡ false
  outside a b h = go (ltb b low) refl (ltb high a) refl h
    where
      go : (s : Bool) → ltb b low ≡ s → (t : Bool) → ltb high a ≡ t → T (s || t) → within a b c ≡ false
      go true e t f h = and_no (leb a c) (leb c b) (lt-leb c b (omega (arith, ltb-true b low e)))
      go false e true f h = rw (lt-leb a c (omega (arith, ltb-true high a f)))
      go false e false f h = absurd h

  pub aside : (rs ss : List Range) → T (all_aside low high rs) → (width_in rs c ≡ 1) × (width_in (rs ++ ss) c ≡ width_in ss c)
  aside [] ss h = (refl, refl)
  aside (r ∷ rs) ss h =
      let o = outside r.first r.last (and_left (ltb r.last low || ltb high r.first) (all_aside low high rs) h) in
      let k = aside rs ss (and_right (ltb r.last low || ltb high r.first) (all_aside low high rs) h) in
      (rw o k.0, rw o k.1)

-- ── ranges within a stretch
abbrev pub all_inside : ℕ → ℕ → List Range → Bool
all_inside low high [] = true
all_inside low high (r ∷ rs) = (leb low r.first && leb r.last high) && all_inside low high rs

module _ (low high c : ℕ) (out : within low high c ≡ false) where
  not_in : (a b : ℕ) → low ≤ a → b ≤ high → within a b c ≡ false
  not_in a b p q = go (within a b c) refl
    where
      go : (t : Bool) → within a b c ≡ t → t ≡ false
      go true e = let k = bounds a b c e in absurd (false≢true (sym out ∙ in_span low high c (omega (arith, k)) (omega (arith, k))))
      go false e = refl

  pub none_inside : (rs : List Range) → T (all_inside low high rs) → width_in rs c ≡ 1
  none_inside [] h = refl
  none_inside (r ∷ rs) h =
      let k = and_left (leb low r.first && leb r.last high) (all_inside low high rs) h in
      let p = leb→le low r.first (and_left (leb low r.first) (leb r.last high) k) in
      let q = leb→le r.last high (and_right (leb low r.first) (leb r.last high) k) in
      let o = not_in r.first r.last p q in
      rw o (none_inside rs (and_right (leb low r.first && leb r.last high) (all_inside low high rs) h))
