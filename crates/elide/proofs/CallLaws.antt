-- The order of refusals for plain text: a fault of the input comes first and decides alone; without one, the result's limit, then the buffer.
use Prim.Native.Nat.{ℕ, ◌≤◌, ◌<◌}
use native.Mathlib.Omega.{arith}
use mathlib.Core.Bool.{Bool, true, false, not, ◌&&◌}
use mathlib.Core.Path.{◌≡◌, refl, sym, ap, subst, ◌∙◌}
use Rattle.std.specs.Prelude.{Err}
use mathlib.Core.List.{[], ◌∷◌, ◌++◌}
use lib.Dec.{ltb}
use lib.ListN.{length}
use borrow.Author.Tests.{lt-ltb, le-ltb}
use Rattle.chars.specs.Chars.{well_formed_of}
use Rattle.buffer.specs.Place.{over, over_at}
use Rattle.buffer.proofs.Laws.{put_over}
use Rattle.recording.specs.Recording.{Bytes}
use Rattle.recording.specs.Refusals.{number_of_refusal, data_limit, first_of, refuse_if}
use Rattle.recording.specs.Outcome.{Room, Result, Outcome, Lent, Answer, refused, done, over_limit, no_room, refusal_of, settle, Promised}
use Rattle.recording.specs.declared.Refusal.{Refusal}
use Rattle.recording.proofs.OutcomeLaws.{number_pos, promise_refused}
use Rattle.elide.specs.Elide.{plain_result, plain_room, faults_by, no_faults, plain_faults, plain_fault}

-- ── faults of the input
settle_by : (a b c : Bool) (k : ℕ) (o : Room) (x : Result) → first_of (refuse_if a 1 ∷ refuse_if b 1 ∷ refuse_if c 7 ∷ []) ≡ k → (k ≡ 0 → ⊥)
    → settle (faults_by (refuse_if a 1) (refuse_if b 1) (refuse_if c 7)) o x ≡ refused k
unfolding settle refusal_of
settle_by true b c k o x e h = ap refused e
settle_by false true c k o x e h = ap refused e
settle_by false false true k o x e h = ap refused e
settle_by false false false k o x e h = absurd (h (sym e))

settle_none : (a b c : Bool) (o : Room) (x : Result) → first_of (refuse_if a 1 ∷ refuse_if b 1 ∷ refuse_if c 7 ∷ []) ≡ 0
    → settle (faults_by (refuse_if a 1) (refuse_if b 1) (refuse_if c 7)) o x ≡ settle no_faults o x
settle_none true b c o x e = absurd (omega (arith, e))
settle_none false true c o x e = absurd (omega (arith, e))
settle_none false false true o x e = absurd (omega (arith, e))
settle_none false false false o x e = refl

pub faulty : (s e : Bytes) (k : ℕ) (o : Room) (x : Result) → plain_fault s e ≡ k → (k ≡ 0 → ⊥) → settle (plain_faults s e) o x ≡ refused k
unfolding plain_fault plain_faults
faulty s e k o x h n = settle_by (ltb data_limit (length s)) (ltb data_limit (length e)) (not (well_formed_of s && well_formed_of e)) k o x h n

pub faultless : (s e : Bytes) (o : Room) (x : Result) → plain_fault s e ≡ 0 → settle (plain_faults s e) o x ≡ settle no_faults o x
unfolding plain_fault plain_faults
faultless s e o x h = settle_none (ltb data_limit (length s)) (ltb data_limit (length e)) (not (well_formed_of s && well_formed_of e)) o x h

-- without a fault both are well-formed
sound_by : (a b x y : Bool) → first_of (refuse_if a 1 ∷ refuse_if b 1 ∷ refuse_if (not (x && y)) 7 ∷ []) ≡ 0 → (x ≡ true) × (y ≡ true)
sound_by true b x y e = absurd (omega (arith, e))
sound_by false true x y e = absurd (omega (arith, e))
sound_by false false false y e = absurd (omega (arith, e))
sound_by false false true false e = absurd (omega (arith, e))
sound_by false false true true e = (refl, refl)

pub sound : (s e : Bytes) → plain_fault s e ≡ 0 → (well_formed_of s ≡ true) × (well_formed_of e ≡ true)
unfolding plain_fault
sound s e h = sound_by (ltb data_limit (length s)) (ltb data_limit (length e)) (well_formed_of s) (well_formed_of e) h

-- ── the result's size
module _ (n w : ℕ) (s : Bytes) where
  pub over_limit_lem : 1048576 < length s → settle no_faults (plain_room n) (plain_result s w) ≡ refused 9
  unfolding settle refusal_of over_limit
  over_limit_lem h = simp (lt-ltb 1048576 (length s) h)

  pub too_short : length s ≤ 1048576 → n < length s → settle no_faults (plain_room n) (plain_result s w) ≡ refused 21
  unfolding settle refusal_of over_limit no_room
  too_short h k = simp (le-ltb 1048576 (length s) h, lt-ltb n (length s) k)

  pub has_room : length s ≤ 1048576 → length s ≤ n → settle no_faults (plain_room n) (plain_result s w) ≡ done (plain_result s w)
  unfolding settle refusal_of over_limit no_room
  has_room h k = simp (le-ltb 1048576 (length s) h, le-ltb n (length s) k)

-- ── two parts put one after the other, from the buffer's first place on
pub two_puts : (p q o o₁ o₂ : Bytes) (at : ℕ) → o₁ ≡ over_at 0 p o → at ≡ length p → o₂ ≡ over_at at q o₁ → o₂ ≡ over (p ++ q) o
unfolding over
two_puts p q o o₁ o₂ at e k f = f ∙ ap (λ (n : ℕ). over_at n q o₁) k ∙ ap (over_at (length p) q) (e ∙ put_over [] p o) ∙ put_over p q o

-- ── the outcomes: a fault of the input, or what the two parts are settled to
pub input_refused : (s e : Bytes) (o : Room) (x : Result) (f : Refusal) (b : Lent) → number_of_refusal f ≡ plain_fault s e → Promised (settle (plain_faults s e) o x) b b (Err f)
input_refused s e o x f b h = promise_refused (settle (plain_faults s e) o x) f b (faulty s e (number_of_refusal f) o x (sym h) (λ z. omega (arith, z, number_pos f)))

pub settled : (s e : Bytes) (o : Room) (p q : Bytes) (w v : ℕ) (b after : Lent) (a : Answer) → 0 ≡ plain_fault s e → p ≡ q → w ≡ v → Promised (settle no_faults o (plain_result p w)) b after a
    → Promised (settle (plain_faults s e) o (plain_result q v)) b after a
settled s e o p q w v b after a h i j r =
    let same : settle no_faults o (plain_result p w) ≡ settle (plain_faults s e) o (plain_result q v) = rw (i, j) (sym (faultless s e o (plain_result q v) (sym h))) in
    subst (λ (u : Outcome). Promised u b after a) same r
