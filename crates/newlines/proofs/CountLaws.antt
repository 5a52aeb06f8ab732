-- The count of 0A: one byte more (`front_next`), one block less of all (`blocks_next`), all blocks and the rest behind them (`blocks_rest`).
use mathlib.Core.Path.{◌≡◌, refl, sym, ap, ◌∙◌}
use mathlib.Core.Bool.{Bool, true, false, cond}
use mathlib.Core.List.{List, [], ◌∷◌, ◌++◌}
use Prim.Native.Nat.{ℕ, zero, suc, ◌+◌, ◌-◌, ◌*◌, ◌≤◌, ◌<◌}
use native.Mathlib.Numerals.{add-one}
use native.Mathlib.Omega.{arith}
use Rattle.std.proofs.Math.Nat.{zero-mul, suc-mul}
use mir.Val.{bool_byte}
use Rattle.std.proofs.lemmas.List.{take_rest}
use lib.Dec.{eqb}
use lib.ListN.{length, take, drop, get_or, length-drop, drop_of_length-le, take-append-drop}
use Rattle.std.specs.Simd.{first_chunks}
use lib.Seq.{drop-cons, drop-drop}
use Rattle.newlines.specs.Newlines.{newlines}

pub count-append : (a b : List ℕ) → newlines (a ++ b) ≡ newlines a + newlines b
count-append [] b = omega arith
count-append (x ∷ a) b = omega (arith, count-append a b)

-- one byte more
pub front_next : (j : ℕ) (d : List ℕ) → j < length d → newlines (take (j + 1) d) ≡ newlines (take j d) + cond (eqb (get_or d j 0) 0x0A) 1 0
front_next j d h = rw add-one (go j d h)
  where
    go : (j : ℕ) (d : List ℕ) → j < length d → newlines (take (suc j) d) ≡ newlines (take j d) + cond (eqb (get_or d j 0) 0x0A) 1 0
    go j [] h = absurd (omega arith)
    go zero (b ∷ d) h = omega arith
    go (suc j) (b ∷ d) h = omega (arith, go j d (omega arith))

-- in several blocks
unfoldable pub newlines_in : List (List ℕ) → ℕ
newlines_in [] = 0
newlines_in (b ∷ bs) = newlines b + newlines_in bs

-- one block less
pub blocks_next : (i : ℕ) (bs : List (List ℕ)) → i < length bs → newlines_in (drop i bs) ≡ newlines (get_or bs i []) + newlines_in (drop (i + 1) bs)
unfolding newlines_in
blocks_next i bs h = rw (add-one, drop-cons bs i [] h)

pub blocks_end : (i : ℕ) (bs : List (List ℕ)) → length bs ≤ i → newlines_in (drop i bs) ≡ 0
unfolding newlines_in
blocks_end i bs h = rw (drop_of_length-le bs {i = i} h)

-- k blocks of n bytes and the rest behind them
pub blocks_rest : (n k : ℕ) (d : List ℕ) → newlines_in (first_chunks n k d) + newlines (drop (k * n) d) ≡ newlines d
unfolding newlines_in
blocks_rest n zero d = simp zero-mul (omega arith)
blocks_rest n (suc k) d =
    let front : newlines d ≡ newlines (take n d) + newlines (drop n d) = ap newlines (sym (take-append-drop n d)) ∙ count-append (take n d) (drop n d) in
    let behind : drop (suc k * n) d ≡ drop (k * n) (drop n d) = ap (λ (m : ℕ). drop m d) (omega (arith, suc-mul k n)) ∙ sym (drop-drop (k * n) n d) in
    omega (arith, front, blocks_rest n k (drop n d), ap newlines behind)

pub blocks_all : (n k : ℕ) (at : ℕ) (s : List ℕ) (bs : List (List ℕ)) (rest : List ℕ) → bs ≡ first_chunks n k (take (length s - at) (drop at s))
    → rest ≡ drop (k * n) (take (length s - at) (drop at s)) → newlines_in bs + newlines rest ≡ newlines (drop at s)
blocks_all n k at s bs rest e f = rw (e, f, take_rest s at) (blocks_rest n k (drop at s))

-- at most one a byte
pub count_few : (d : List ℕ) → newlines d ≤ length d
count_few [] = omega arith
count_few (b ∷ d) = go (eqb b 0x0A) (count_few d)
  where
    go : (t : Bool) → newlines d ≤ length d → cond t 1 0 + newlines d ≤ suc (length d)
    go true h = omega arith
    go false h = omega arith

pub count_rest : (at : ℕ) (s : List ℕ) → newlines (drop at s) ≤ length s - at
count_rest at s = omega (arith, count_few (drop at s), length-drop at s)

-- ── a test as a number
pub bit_is : (t : Bool) → bool_byte t ≡ cond t 1 0
bit_is true = refl
bit_is false = refl

pub bit_small : (t : Bool) → bool_byte t ≤ 1
bit_small true = omega arith
bit_small false = omega arith
