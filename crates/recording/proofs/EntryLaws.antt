-- Entries behind numbers that are read from an index on: four numbers are the next entry, fewer are none.
use mathlib.Core.Path.{◌≡◌, refl}
use mathlib.Core.List.{List, [], ◌∷◌}
use Prim.Native.Nat.{ℕ, suc, ◌+◌, ◌≤◌, ◌<◌}
use native.Mathlib.Numerals.{add-one, add-two, add-three, add-four}
use native.Mathlib.Omega.{arith}
use lib.ListN.{length, drop, get_or}
use lib.Seq.{drop-cons}
use Rattle.recording.specs.Recording.{entry, entries_of}

numbers_next : (ns : List ℕ) (k : ℕ) → k + 4 ≤ length ns
    → drop k ns ≡ get_or ns k 0 ∷ get_or ns (k + 1) 0 ∷ get_or ns (k + 2) 0 ∷ get_or ns (k + 3) 0 ∷ drop (k + 4) ns
numbers_next ns k h =
    let h₀ : k < length ns = omega arith in
    let h₁ : suc k < length ns = omega arith in
    let h₂ : suc (suc k) < length ns = omega arith in
    let h₃ : suc (suc (suc k)) < length ns = omega arith in
    rw (add-one, add-two, add-three, add-four, drop-cons ns k 0, drop-cons ns (suc k) 0, drop-cons ns (suc (suc k)) 0, drop-cons ns (suc (suc (suc k))) 0)

pub entries_next : (ns : List ℕ) (k : ℕ) → k + 4 ≤ length ns
    → entries_of (drop k ns) ≡ entry (get_or ns k 0) (get_or ns (k + 1) 0) (get_or ns (k + 2) 0) (get_or ns (k + 3) 0) ∷ entries_of (drop (k + 4) ns)
entries_next ns k h = rw (numbers_next ns k h)

pub entries_few : (ns : List ℕ) → length ns < 4 → entries_of ns ≡ []
entries_few [] h = refl
entries_few (p ∷ []) h = refl
entries_few (p ∷ k ∷ []) h = refl
entries_few (p ∷ k ∷ s ∷ []) h = refl
entries_few (p ∷ k ∷ s ∷ n ∷ ns) h = absurd (omega arith)
