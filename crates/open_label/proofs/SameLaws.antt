-- Whether two lists of bytes are equal (`same`), found byte for byte: of two lengths they are not (`same_lengths`); the next byte of each and the rest decide (`same_next`), and at the end they are
-- (`same_end`).
use Prim.Native.Nat.{ℕ, ◌+◌, ◌≤◌, ◌<◌}
use native.Mathlib.Numerals.{add-one}
use mathlib.Core.Bool.{Bool, true, false, ◌&&◌}
use mathlib.Core.Path.{◌≡◌, refl, ap}
use mathlib.Core.List.{List}
use lib.Dec.{eqb}
use lib.ListN.{length, take, drop, get_or, drop_of_length-le}
use lib.Seq.{drop-cons}
use Rattle.recording.specs.Lists.{same}
use Rattle.recording.proofs.Lists.{same_equal}

pub same_lengths : (x y : List ℕ) → (length x ≡ length y → ⊥) → same x y ≡ false
same_lengths x y h = go (same x y) refl
  where
    go : (t : Bool) → same x y ≡ t → same x y ≡ false
    go true e = absurd (h (ap length (same_equal x y e)))
    go false e = e

pub same_next : (j at m n : ℕ) (x y : List ℕ) → j < length x → at < length y → m ≡ n + 1
    → same (drop j x) (take m (drop at y)) ≡ (eqb (get_or x j 0) (get_or y at 0) && same (drop (j + 1) x) (take n (drop (at + 1) y)))
same_next j at m n x y h g e = rw (e, add-one n, add-one j, add-one at, drop-cons x j 0 h, drop-cons y at 0 g)

pub same_end : (j : ℕ) (x y : List ℕ) → length x ≤ j → same (drop j x) (take 0 y) ≡ true
same_end j x y h = rw (drop_of_length-le x {i = j} h)
