-- The numbers of the calls one after another: what is left of the list after k calls (`next`, `none`), and that what fits has ranges within its pools.
use Prim.Native.Nat.{ℕ, suc, ◌+◌, ◌*◌, ◌-◌, ◌≤◌, ◌<◌}
use native.Mathlib.Omega.{arith}
use mathlib.Core.Bool.{Bool, true, false, ◌&&◌, false≢true}
use mathlib.Core.Path.{◌≡◌, refl, sym, ap, ◌∙◌}
use mathlib.Core.List.{List, [], ◌∷◌}
use lib.Dec.{leb}
use lib.ListN.{drop, get_or}
use lib.Seq.{drop-drop, get_or-drop}
use borrow.Author.Tests.{leb-true}
use Rattle.requests.specs.declared.Request.{Request}
use Rattle.requests.specs.Requests.{request_in, requests_of, range_fits_in, last_kind, fits_in, all_fit_in}

abbrev request : ℕ → ℕ → ℕ → ℕ → ℕ → ℕ → ℕ → ℕ → Request
request k w a b c d e f = record { kind = k; width = w; from = a; to = b; first = c; last = d; start = e; end = f }

-- the eight numbers from i on
pub request_is : (cs : List ℕ) (i : ℕ)
    → request (get_or cs i 0) (get_or cs (i + 1) 0) (get_or cs (i + 2) 0) (get_or cs (i + 3) 0) (get_or cs (i + 4) 0) (get_or cs (i + 5) 0) (get_or cs (i + 6) 0) (get_or cs (i + 7) 0)
    ≡ request_in (drop i cs)
unfolding request_in
request_is cs i =
    let z : i + 0 ≡ i = omega arith in
    rw (get_or-drop i cs 0 0, get_or-drop i cs 1 0, get_or-drop i cs 2 0, get_or-drop i cs 3 0, get_or-drop i cs 4 0, get_or-drop i cs 5 0, get_or-drop i cs 6 0, get_or-drop i cs 7 0, z)

-- ── what is left
-- after k of n calls
abbrev pub rest : ℕ → ℕ → List ℕ → List Request
rest n k cs = requests_of (n - k) (drop (8 * k) cs)

pub rest_all : (n : ℕ) (cs : List ℕ) → rest n 0 cs ≡ requests_of n cs
rest_all n cs = let e : n - 0 ≡ n = omega arith in rw e

pub next : (n k : ℕ) (cs : List ℕ) → k < n → rest n k cs ≡ request_in (drop (8 * k) cs) ∷ rest n (k + 1) cs
next n k cs h =
    let e : n - k ≡ suc (n - (k + 1)) = omega arith in
    let f : 8 * (k + 1) ≡ 8 * k + 8 = omega arith in
    rw (e, f) (ap (λ (l : List ℕ). request_in (drop (8 * k) cs) ∷ requests_of (n - (k + 1)) l) (drop-drop 8 (8 * k) cs))

pub none : (n k : ℕ) (cs : List ℕ) → n ≤ k → rest n k cs ≡ []
none n k cs h = let e : n - k ≡ 0 = omega arith in rw e

-- ── the call that comes next fits, or it does not
module _ (p q n k : ℕ) (cs : List ℕ) (m : k < n) (x : Request) (f : Bool) (is : x ≡ request_in (drop (8 * k) cs)) (test : f ≡ fits_in p q x) where
  head_test : all_fit_in p q (rest n k cs) ≡ (f && all_fit_in p q (rest n (k + 1) cs))
  head_test = ap (all_fit_in p q) (next n k cs m) ∙ ap (λ (y : Request). fits_in p q y && all_fit_in p q (rest n (k + 1) cs)) (sym is) ∙ ap (λ (b : Bool). b && all_fit_in p q (rest n (k + 1) cs)) (sym test)

  pub one_bad : f ≡ false → all_fit_in p q (rest n k cs) ≡ false
  one_bad e = head_test ∙ ap (λ (b : Bool). b && all_fit_in p q (rest n (k + 1) cs)) e

  pub one_good : f ≡ true → all_fit_in p q (rest n k cs) ≡ all_fit_in p q (rest n (k + 1) cs)
  one_good e = head_test ∙ ap (λ (b : Bool). b && all_fit_in p q (rest n (k + 1) cs)) e

-- ── both of two tests
pub and_left : (a b : Bool) → (a && b) ≡ true → a ≡ true
and_left true b h = refl
and_left false b h = h

pub and_right : (a b : Bool) → (a && b) ≡ true → b ≡ true
and_right true b h = h
and_right false b h = absurd (false≢true h)

-- ── a call that fits
range_fit : (n a b : ℕ) → range_fits_in n a b ≡ true → (a ≤ b) × (b ≤ n)
range_fit n a b h = (leb-true a b (and_left (leb a b) (leb b n) h), leb-true b n (and_right (leb a b) (leb b n) h))

pub fit : (p q : ℕ) (x y : Request) → x ≡ y → fits_in p q y ≡ true
    → (x.from ≤ x.to) × (x.to ≤ p) × (x.first ≤ x.last) × (x.last ≤ q) × (x.start ≤ x.end) × (x.end ≤ p)
unfolding fits_in
fit p q x y e g =
    let b : Bool = range_fits_in p x.from x.to in
    let n : Bool = range_fits_in q x.first x.last in
    let t : Bool = range_fits_in p x.start x.end in
    let h : fits_in p q x ≡ true = ap (fits_in p q) e ∙ g in
    let h₁ = and_right (leb x.kind last_kind) (b && (n && t)) h in
    let h₂ = and_right b (n && t) h₁ in
    let r₁ = range_fit p x.from x.to (and_left b (n && t) h₁) in
    let r₂ = range_fit q x.first x.last (and_left n t h₂) in
    let r₃ = range_fit p x.start x.end (and_right n t h₂) in
    (r₁.0, r₁.1, r₂.0, r₂.1, r₃.0, r₃.1)
