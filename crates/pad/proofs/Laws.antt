-- Laws of a piece written n times: one copy more at the end (`repeated_next`), the room for it, and the copies as items (`copies-bytes`).
use mathlib.Core.Path.{◌≡◌, refl, sym, ap, ◌∙◌}
use mathlib.Core.List.{List, [], ◌∷◌, ◌++◌, append_assoc, append-nil}
use Prim.Native.Nat.{ℕ, zero, suc, ◌+◌, ◌-◌, ◌≤◌, ◌<◌}
use native.Mathlib.Numerals.{add-one}
use native.Mathlib.Omega.{arith}
use lib.ListN.{length, take, drop, get_or, replicate, length-append, length-replicate}
use lib.Seq.{drop-cons}
use Rattle.buffer.specs.Place.{over_at, part}
use Rattle.buffer.proofs.Laws.{over_none, over_twice}
use Rattle.recording.specs.Recording.{Item, byte_items}
use Rattle.recording.proofs.ItemsLaws.{bytes-append}
use Rattle.layout.specs.Layout.{copies}
use Rattle.pad.specs.Padding.{repeated, once_if_of}

-- ── one copy more
repeated-snoc : (n : ℕ) (p : List ℕ) → repeated n p ++ p ≡ repeated (suc n) p
unfolding repeated
repeated-snoc zero p = sym (append-nil p)
repeated-snoc (suc n) p = append_assoc p (repeated n p) p ∙ ap (λ (l : List ℕ). p ++ l) (repeated-snoc n p)

pub repeated-within : (i n : ℕ) (p : List ℕ) → i < n → length (repeated i p) + length p ≤ length (repeated n p)
unfolding repeated
repeated-within i zero p h = absurd (omega arith)
repeated-within zero (suc n) p h = omega (arith, length-append p (repeated n p))
repeated-within (suc i) (suc n) p h = omega (arith, length-append p (repeated n p), length-append p (repeated i p), repeated-within i n p (omega arith))

pub repeated_next : (at i : ℕ) (p old : List ℕ) → at ≤ length old → over_at (at + length (repeated i p)) p (over_at at (repeated i p) old) ≡ over_at at (repeated (i + 1) p) old
repeated_next at i p old h =
    over_twice at (repeated i p) p old h ∙ ap (λ (l : List ℕ). over_at at l old) (rw add-one (repeated-snoc i p))

pub repeated_long : (i : ℕ) (p : List ℕ) → length (repeated (i + 1) p) ≡ length (repeated i p) + length p
repeated_long i p = rw add-one (ap length (sym (repeated-snoc i p)) ∙ length-append (repeated i p) p)

pub repeated-zero : (p : List ℕ) → length (repeated 0 p) ≡ 0
unfolding repeated
repeated-zero p = refl

pub repeated_first : (at : ℕ) (p old : List ℕ) → old ≡ over_at at (repeated 0 p) old
unfolding repeated
repeated_first at p old = sym (over_none at old)

pub repeated_none : (n : ℕ) → repeated n [] ≡ []
unfolding repeated
repeated_none zero = refl
repeated_none (suc n) = repeated_none n

-- ── a single byte
pub repeated-byte : (n b : ℕ) → repeated n (b ∷ []) ≡ replicate n b
unfolding repeated
repeated-byte zero b = refl
repeated-byte (suc n) b = ap (λ (l : List ℕ). b ∷ l) (repeated-byte n b)

pub length-single : (n b : ℕ) → length (repeated n (b ∷ [])) ≡ n
length-single n b = ap length (repeated-byte n b) ∙ length-replicate n b

-- ── a piece of no byte, and one of a single byte
pub piece_none : (a b n at : ℕ) (s old : List ℕ) → a ≡ b → (at ≡ at + length (repeated n (part a b s))) × (old ≡ over_at at (repeated n (part a b s)) old)
piece_none a b n at s old h =
    let z : b - a ≡ 0 = omega arith in
    let e : repeated n (part a b s) ≡ [] = ap (λ (m : ℕ). repeated n (take m (drop a s))) z ∙ repeated_none n in
    rw e (omega arith, sym (over_none at old))

pub piece_one : (a b : ℕ) (s : List ℕ) → a + 1 ≡ b → b ≤ length s → part a b s ≡ get_or s a 0 ∷ []
piece_one a b s h l =
    let z : b - a ≡ 1 = omega arith in
    let m : a < length s = omega arith in
    ap (λ (k : ℕ). take k (drop a s)) z ∙ rw (drop-cons s a 0 m)

-- ── the copies as items
pub copies-bytes : (n : ℕ) (p : List ℕ) → copies n p ≡ byte_items (repeated n p)
unfolding repeated
copies-bytes zero p = refl
copies-bytes (suc n) p = ap (λ (l : List Item). byte_items p ++ l) (copies-bytes n p) ∙ sym (bytes-append p (repeated n p))

-- ── once a side
pub once_none : (n : ℕ) → n ≡ 0 → 0 ≡ once_if_of n
unfolding once_if_of
once_none zero h = refl
once_none (suc n) h = absurd (omega arith)

pub once_more : (n : ℕ) → 0 < n → 1 ≡ once_if_of n
unfolding once_if_of
once_more zero h = absurd (omega arith)
once_more (suc n) h = refl
