-- Breaking by the short definition `heads` is breaking in the document's words, `Heads`; and a word within the width is not broken.
-- The idea: a group that is within the width goes on as `kept_within` does, one that is wider already takes zero-width characters only (`from_fit`, `from_wide`).
use Prim.Native.Nat.{ℕ, zero, suc, ◌+◌, ◌-◌, ◌≤◌, ◌<◌}
use native.Mathlib.Omega.{arith}
use mathlib.Core.Bool.{Bool, true, false, cond}
use mathlib.Core.Path.{◌≡◌, refl, ap, ◌∙◌}
use mathlib.Core.List.{List, [], ◌∷◌, ◌++◌}
use lib.Dec.{leb, eqb}
use lib.ListN.{length, length-append}
use borrow.Author.Tests.{leb-false, leb-true, le-leb, lt-leb, ne_eqb}
use Rattle.chars.specs.Chars.{Character, wide, width_of}
use Rattle.chars.specs.Cut.{kept_within, leading_zero_width_of}
use Rattle.chars.proofs.CutLaws.{kept_rest, split_kept}
use Rattle.layout.specs.Wrap.{onto_first, groups_from, in_head, heads, Heads, none, fitting, single}
use Rattle.layout.proofs.GroupLaws.{from_join, from_new}

-- what `leading_zero_width_of` leaves
abbrev pub after_zero : List Character → List Character
after_zero [] = []
after_zero (c ∷ cs) = cond (eqb (wide c) 0) (after_zero cs) (c ∷ cs)

pub split_zero : (cs : List Character) → cs ≡ leading_zero_width_of cs ++ after_zero cs
split_zero [] = refl
split_zero (c ∷ cs) = go (eqb (wide c) 0) (split_zero cs)
  where
    go : (t : Bool) → cs ≡ leading_zero_width_of cs ++ after_zero cs → c ∷ cs ≡ cond t (c ∷ leading_zero_width_of cs) [] ++ cond t (after_zero cs) (c ∷ cs)
    go true h = ap (λ (l : List Character). c ∷ l) h
    go false h = refl

-- the heads of what is left of a word: none if nothing is left
abbrev pub rest_heads : ℕ → List Character → List (List Character)
rest_heads w [] = []
rest_heads w (c ∷ cs) = heads w (c ∷ cs)

-- ── when a character joins the head before it
in_zero : (w run : ℕ) (c : Character) → eqb (wide c) 0 ≡ true → in_head w run c ≡ true
in_zero w run c e = rw e

in_not : (w run : ℕ) (c : Character) → eqb (wide c) 0 ≡ false → in_head w run c ≡ leb (run + wide c) w
in_not w run c e = rw e

in_fit : (w run : ℕ) (c : Character) → run + wide c ≤ w → in_head w run c ≡ true
in_fit w run c h = go (eqb (wide c) 0) refl
  where
    go : (t : Bool) → eqb (wide c) 0 ≡ t → in_head w run c ≡ true
    go true e = in_zero w run c e
    go false e = in_not w run c e ∙ le-leb (run + wide c) w h

in_pass : (w run : ℕ) (c : Character) → 0 < wide c → w < run + wide c → in_head w run c ≡ false
in_pass w run c z h = in_not w run c (ne_eqb (wide c) 0 (λ e. omega arith)) ∙ lt-leb (run + wide c) w h

-- ── the rest of a head that is under way
pub from_fit : (w run : ℕ) (cs : List Character) → run ≤ w → groups_from (in_head w) wide run cs ≡ kept_within (w - run) cs ∷ rest_heads w (kept_rest (w - run) cs)
from_fit w run [] h = refl
from_fit w run (c ∷ cs) h = go (leb (wide c) (w - run)) refl (λ k. from_fit w (run + wide c) cs k)
  where
    go : (t : Bool) → leb (wide c) (w - run) ≡ t
        → (run + wide c ≤ w → groups_from (in_head w) wide (run + wide c) cs ≡ kept_within (w - (run + wide c)) cs ∷ rest_heads w (kept_rest (w - (run + wide c)) cs))
        → groups_from (in_head w) wide run (c ∷ cs) ≡ cond t (c ∷ kept_within ((w - run) - wide c) cs) [] ∷ rest_heads w (cond t (kept_rest ((w - run) - wide c) cs) (c ∷ cs))
    go true e f =
        let k : run + wide c ≤ w = omega (arith, leb-true (wide c) (w - run) e) in
        let s : (w - run) - wide c ≡ w - (run + wide c) = omega arith in
        from_join (in_head w) wide run c cs (in_fit w run c k) ∙ rw (f k, s)
    go false e f =
        let k = leb-false (wide c) (w - run) e in
        from_new (in_head w) wide run c cs (in_pass w run c (omega arith) (omega arith))

pub from_wide : (w run : ℕ) (cs : List Character) → w < run → groups_from (in_head w) wide run cs ≡ leading_zero_width_of cs ∷ rest_heads w (after_zero cs)
from_wide w run [] h = refl
from_wide w run (c ∷ cs) h = go (eqb (wide c) 0) refl (λ k. from_wide w (run + wide c) cs k)
  where
    go : (t : Bool) → eqb (wide c) 0 ≡ t → (w < run + wide c → groups_from (in_head w) wide (run + wide c) cs ≡ leading_zero_width_of cs ∷ rest_heads w (after_zero cs))
        → groups_from (in_head w) wide run (c ∷ cs) ≡ cond t (c ∷ leading_zero_width_of cs) [] ∷ rest_heads w (cond t (after_zero cs) (c ∷ cs))
    go true e f = from_join (in_head w) wide run c cs (in_zero w run c e) ∙ rw (f (omega arith))
    go false e f = from_new (in_head w) wide run c cs (in_not w run c e ∙ lt-leb (run + wide c) w (omega arith))

-- ── the first head, and the heads of what it leaves
pub first_head : (w : ℕ) (c : Character) (cs : List Character)
    → rest_heads w (c ∷ cs)
    ≡ cond (leb (wide c) w) (kept_within w (c ∷ cs)) (c ∷ leading_zero_width_of cs) ∷ rest_heads w (cond (leb (wide c) w) (kept_rest w (c ∷ cs)) (after_zero cs))
first_head w c cs = go (leb (wide c) w) refl
  where
    go : (t : Bool) → leb (wide c) w ≡ t
        → rest_heads w (c ∷ cs)
        ≡ cond t (cond t (c ∷ kept_within (w - wide c) cs) []) (c ∷ leading_zero_width_of cs) ∷ rest_heads w (cond t (cond t (kept_rest (w - wide c) cs) (c ∷ cs)) (after_zero cs))
    go true e = rw (from_fit w (wide c) cs (leb-true (wide c) w e))
    go false e = rw (from_wide w (wide c) cs (leb-false (wide c) w e))

-- ── a word that is not wider than the width is one head, itself
pub narrow : (w : ℕ) (cs : List Character) → width_of cs ≤ w → heads w cs ≡ cs ∷ []
narrow w [] h = refl
narrow w (c ∷ cs) h = ap (λ (l : List (List Character)). onto_first c l) (all_in (wide c) cs h)
  where
    all_in : (run : ℕ) (ds : List Character) → run + width_of ds ≤ w → groups_from (in_head w) wide run ds ≡ ds ∷ []
    all_in run [] k = refl
    all_in run (d ∷ ds) k =
        from_join (in_head w) wide run d ds (in_fit w run d (omega arith)) ∙ ap (λ (l : List (List Character)). onto_first d l) (all_in (run + wide d) ds (omega arith))

-- ── the document's wording; n bounds the length, which each head makes smaller
kept_head : (w : ℕ) (c : Character) (cs : List Character) → leb (wide c) w ≡ true
    → (rest_heads w (c ∷ cs) ≡ kept_within w (c ∷ cs) ∷ rest_heads w (kept_rest w (c ∷ cs))) × (0 < length (kept_within w (c ∷ cs)))
kept_head w c cs e = (first_head w c cs ∙ rw e, rw e (omega arith))

single_head : (w : ℕ) (c : Character) (cs : List Character) → leb (wide c) w ≡ false
    → (rest_heads w (c ∷ cs) ≡ (c ∷ leading_zero_width_of cs) ∷ rest_heads w (after_zero cs)) × (length (kept_within w (c ∷ cs)) ≡ 0)
single_head w c cs e = (first_head w c cs ∙ rw e, rw e)

one_more : (n w : ℕ) → ((r : List Character) → length r ≤ n → Heads w r (rest_heads w r)) → (cs : List Character) → length cs ≤ suc n → Heads w cs (rest_heads w cs)
one_more n w f [] h = none
one_more n w f (c ∷ cs) h = go (leb (wide c) w) refl
  where
    go : (t : Bool) → leb (wide c) w ≡ t → Heads w (c ∷ cs) (rest_heads w (c ∷ cs))
    go true e =
        let p = kept_head w c cs e in
        let s = split_kept w (c ∷ cs) in
        let l : length (kept_rest w (c ∷ cs)) ≤ n = omega (arith, p.1, ap length s, length-append (kept_within w (c ∷ cs)) (kept_rest w (c ∷ cs))) in
        rw p.0 (fitting p.1 s (f (kept_rest w (c ∷ cs)) l))
    go false e =
        let p = single_head w c cs e in
        let s = split_zero cs in
        let l : length (after_zero cs) ≤ n = omega (arith, ap length s, length-append (leading_zero_width_of cs) (after_zero cs)) in
        rw p.0 (single p.1 s (f (after_zero cs) l))

no_more : (w : ℕ) (cs : List Character) → length cs ≤ 0 → Heads w cs (rest_heads w cs)
no_more w [] h = none
no_more w (c ∷ cs) h = absurd (omega arith)

worded : (n w : ℕ) (cs : List Character) → length cs ≤ n → Heads w cs (rest_heads w cs)
worded zero w cs h = no_more w cs h
worded (suc n) w cs h = one_more n w (λ r k. worded n w r k) cs h

pub heads_worded : (w : ℕ) (c : Character) (cs : List Character) → Heads w (c ∷ cs) (heads w (c ∷ cs))
heads_worded w c cs = worded (length (c ∷ cs)) w (c ∷ cs) (omega arith)
