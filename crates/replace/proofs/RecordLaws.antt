-- Replacement records behind numbers, what a record that is not bad says (`Good`), capped sizes, and how the scan goes on.
use Rattle.std.specs.Prelude.{Result, Ok, Err}
use Rattle.recording.specs.declared.Refusal.{Refusal}
use mathlib.Core.Path.{◌≡◌, refl, sym, ap, ◌∙◌}
use mathlib.Core.Bool.{Bool, true, false, cond, ◌||◌}
use mathlib.Core.List.{List, [], ◌∷◌}
use Prim.Native.Nat.{ℕ, suc, ◌+◌, ◌≤◌, ◌<◌}
use native.Mathlib.Numerals.{add-one, add-two, add-three, add-four}
use native.Mathlib.Omega.{arith}
use lib.Dec.{ltb}
use lib.ListN.{length, drop, get_or}
use lib.Seq.{drop-cons}
use borrow.Author.Tests.{ltb-false, lt-ltb, le-ltb}
use Rattle.recording.proofs.Lists.{or_left, or_right}
use Rattle.layout.specs.declared.Replacement.{Replacement}
use Rattle.layout.specs.Layout.{bad_record_of}
use Rattle.replace.specs.declared.Scan.{Scan}
use Rattle.replace.specs.Records.{replacement, records_of, capped, check_step, and_then, check_all}

-- ── records behind numbers
pub records_next : (ns : List ℕ) (k : ℕ) → k + 4 ≤ length ns
    → records_of (drop k ns) ≡ replacement (get_or ns k 0) (get_or ns (k + 1) 0) (get_or ns (k + 2) 0) (get_or ns (k + 3) 0) ∷ records_of (drop (k + 4) ns)
records_next ns k h =
    let h₀ : k < length ns = omega arith in
    let h₁ : suc k < length ns = omega arith in
    let h₂ : suc (suc k) < length ns = omega arith in
    let h₃ : suc (suc (suc k)) < length ns = omega arith in
    rw (add-one, add-two, add-three, add-four, drop-cons ns k 0, drop-cons ns (suc k) 0, drop-cons ns (suc (suc k)) 0, drop-cons ns (suc (suc (suc k))) 0)

pub records_few : (ns : List ℕ) → length ns < 4 → records_of ns ≡ []
records_few [] h = refl
records_few (s ∷ []) h = refl
records_few (s ∷ e ∷ []) h = refl
records_few (s ∷ e ∷ f ∷ []) h = refl
records_few (s ∷ e ∷ f ∷ t ∷ ns) h = absurd (omega arith)

-- ── a record that is not bad
pub record Good (at n t : ℕ) (x : Replacement) : Type 0 where
  pub low : at ≤ x.start
  pub order : x.start ≤ x.end
  pub high : x.end ≤ n
  pub part : x.from ≤ x.to
  pub within : x.to ≤ t

pub good : (at n t : ℕ) (x : Replacement) → bad_record_of at n t x ≡ false → Good at n t x
good at n t x h =
    let a = ltb x.end x.start in
    let b = ltb n x.end in
    let c = ltb x.start at in
    let d = ltb x.to x.from in
    let e = ltb t x.to in
    let h₄ = or_left (a || b || c || d) e h in
    let h₃ = or_left (a || b || c) d h₄ in
    let h₂ = or_left (a || b) c h₃ in
    record {
      low = ltb-false x.start at (or_right (a || b) c h₃);
      order = ltb-false x.end x.start (or_left a b h₂);
      high = ltb-false n x.end (or_right a b h₂);
      part = ltb-false x.to x.from (or_right (a || b || c) d h₄);
      within = ltb-false t x.to (or_right (a || b || c || d) e h);
    }

-- no refusal 8: the first record is not bad, and the others have none
pub no_eight : (b : Bool) (m : ℕ) → cond b 8 m ≡ 0 → (b ≡ false) × (m ≡ 0)
no_eight true m h = absurd (omega (arith, h))
no_eight false m h = (refl, h)

-- ── capped sizes
pub capped_over : (n : ℕ) → 1048576 < n → capped n ≡ 1048577
unfolding capped
capped_over n h = rw (lt-ltb 1048576 n h)

pub capped_in : (n : ℕ) → n ≤ 1048576 → capped n ≡ n
unfolding capped
capped_in n h = rw (le-ltb 1048576 n h)

-- ── the scan goes on behind a record, or ends there
pub scan_next : (n t : ℕ) (xs ys : List Replacement) (x : Replacement) (s s' : Scan) (r z : Result Scan Refusal) → xs ≡ x ∷ ys → r ≡ check_step n t x s → r ≡ Ok s'
    → check_all n t xs s ≡ z → check_all n t ys s' ≡ z
scan_next n t xs ys x s s' r z e q o g =
    ap (λ (v : Result Scan Refusal). and_then v (λ w. check_all n t ys w)) (sym o ∙ q) ∙ sym (ap (λ (l : List Replacement). check_all n t l s) e) ∙ g

pub scan_refused : (n t : ℕ) (xs ys : List Replacement) (x : Replacement) (s : Scan) (r z : Result Scan Refusal) (f : Refusal) → xs ≡ x ∷ ys → r ≡ check_step n t x s → r ≡ Err f
    → check_all n t xs s ≡ z → Err f ≡ z
scan_refused n t xs ys x s r z f e q o g =
    ap (λ (v : Result Scan Refusal). and_then v (λ w. check_all n t ys w)) (sym o ∙ q) ∙ sym (ap (λ (l : List Replacement). check_all n t l s) e) ∙ g
