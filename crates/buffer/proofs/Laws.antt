-- Laws on buffers that are written from the front: a part lent and given back, one write after another, and what a finished buffer holds.
use mathlib.Core.Path.{◌≡◌, sym, ap, ◌∙◌}
use mathlib.Core.List.{List, [], ◌∷◌, ◌++◌, append_assoc}
use Prim.Native.Nat.{ℕ, ◌+◌, ◌-◌, ◌≤◌, ◌<◌}
use native.Mathlib.Omega.{arith}
use native.Mathlib.Numerals.{add-one}
use lib.ListN.{length, take, drop, set, replicate, take-append-drop, length-append, length-drop, length-take, length-replicate, replicate-append-replicate}
use lib.Seq.{sets, sets-eq, take-append_seam, drop-append_seam, take_at, drop_at, drop-drop, length-take-le}
use borrow.Rule.Slice.PartMut.{put_mid}
use Rattle.buffer.specs.Place.{over, over_at, part}

-- a callee that left `new` in the part of xs of its length from `at` on has written it into xs from `at` on
pub lent_part : {T : Type 0} → (at n : ℕ) (new xs ys : List T) → n ≡ length new → ys ≡ new → put_mid at n xs ys ≡ over_at at new xs
unfolding over_at over
lent_part at n new xs ys e y = rw (y, e)

-- what is put where the result so far ends makes the result longer
pub put_over : {T : Type 0} → (done new old : List T) → over_at (length done) new (over done old) ≡ over (done ++ new) old
unfolding over_at
put_over done new old = rw (take-append_seam, drop-append_seam, drop-drop, length-append, append_assoc)

-- nothing is put
pub over_none : {T : Type 0} → (at : ℕ) (old : List T) → over_at at [] old ≡ old
unfolding over_at over
over_none at old = take-append-drop at old

-- one thing is put behind another
pub over_twice : {T : Type 0} → (at : ℕ) (a b old : List T) → at ≤ length old → over_at (at + length a) b (over_at at a old) ≡ over_at at (a ++ b) old
unfolding over_at
over_twice {T} at a b old h =
    let l : length (take at old) ≡ at = length-take-le at old h in
    let m : length (take at old ++ a) ≡ at + length a = length-append (take at old) a ∙ ap (λ (n : ℕ). n + length a) l in
    rw (
      ← append_assoc (take at old) a (drop (length a) (drop at old)),
      take_at (take at old ++ a) (drop (length a) (drop at old)) (at + length a) m,
      drop_at (take at old ++ a)
          (drop (length a) (drop at old)) (at + length a) m,
      length-append a b,
      drop-drop,
      append_assoc,
    )
    (ap (λ (x : List T). take at old ++ x) (sym (append_assoc a b (drop (length a + length b) (drop at old)))))

-- the same of two writes, the second where the first one ended
pub then_put : {T : Type 0} → (at : ℕ) (x y o o₁ o₂ : List T) (r : ℕ) → at ≤ length o → o₁ ≡ over_at at x o → r ≡ at + length x → o₂ ≡ over_at r y o₁ → o₂ ≡ over_at at (x ++ y) o
then_put {T} at x y o o₁ o₂ r h e k f = f ∙ ap (λ (j : ℕ). over_at j y o₁) k ∙ ap (over_at (at + length x) y) e ∙ over_twice at x y o h

-- bytes, or numbers, are stored one after another from k on
pub stores : (vs l : List ℕ) (k : ℕ) → k + length vs ≤ length l → sets l k vs ≡ over_at k vs l
unfolding over_at
stores vs l k h = sets-eq vs l k h ∙ append_assoc (take k l) vs (drop (k + length vs) l) ∙ rw drop-drop

pub one_store : (l : List ℕ) (k b : ℕ) → k < length l → set l k b ≡ over_at k (b ∷ []) l
one_store l k b h = stores (b ∷ []) l k (omega arith)

pub two_stores : (l : List ℕ) (k a b : ℕ) → k + 2 ≤ length l → set (set l k a) (k + 1) b ≡ over_at k (a ∷ b ∷ []) l
two_stores l k a b h = rw add-one (stores (a ∷ b ∷ []) l k h)

-- a store behind n copies of a byte is one copy more
pub store_next : (at i b : ℕ) (l old : List ℕ) → l ≡ over_at at (replicate i b) old → at ≤ length old → at + i < length l → set l (at + i) b ≡ over_at at (replicate (i + 1) b) old
store_next at i b l old e h m =
    one_store l (at + i) b m ∙ ap (λ (x : List ℕ). over_at (at + i) (b ∷ []) x) e ∙ ap (λ (n : ℕ). over_at (at + n) (b ∷ []) (over_at at (replicate i b) old)) (sym (length-replicate i b))
    ∙ over_twice at (replicate i b) (b ∷ []) old h ∙ ap (λ (x : List ℕ). over_at at x old) (replicate-append-replicate i 1 b)

pub length_part : {T : Type 0} → (a b : ℕ) (s : List T) → b ≤ length s → length (part a b s) ≡ b - a
length_part a b s h = simp (length-take, length-drop) (omega arith)

-- up to the length of the result, the buffer is the result
pub take_over : {T : Type 0} → (new old : List T) → take (length new) (over new old) ≡ new
unfolding over
take_over new old = take-append_seam new (drop (length new) old)

pub length_over : {T : Type 0} → (new old : List T) → length new ≤ length old → length (over new old) ≡ length old
unfolding over
length_over new old h = simp (length-append, length-drop) (omega arith)
