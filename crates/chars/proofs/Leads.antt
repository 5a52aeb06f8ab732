-- The lead table is table 3-7: for each byte, the length digit of its entry is the length of its row, and the other two digits give the row's columns after the first.
-- By one computed test over all 256 entries.
use mathlib.Core.Path.{◌≡◌, refl}
use mathlib.Core.Bool.{Bool, true, false, ◌&&◌}
use mathlib.Core.List.{[], ◌∷◌, tail}
use Prim.Native.Nat.{ℕ, ◌+◌, ◌*◌, ◌/◌, ◌%◌, ◌≤◌, ◌<◌}
use native.Mathlib.Omega.{arith}
use lib.Dec.{eqb, leb, eqb→eq, leb→le, T}
use lib.ListN.{get_or, length}
use Rattle.chars.specs.Utf8.{Span, Row, table37, row_of}
use Rattle.chars.specs.Leads.{columns, lead_table}
use Rattle.chars.proofs.Table.{at, and_left, and_right}

abbrev same_span_of : Span → Span → Bool
same_span_of a b = eqb a.low b.low && eqb a.high b.high

abbrev same_row_of : Row → Row → Bool
same_row_of [] [] = true
same_row_of [] (b ∷ bs) = false
same_row_of (a ∷ ar) [] = false
same_row_of (a ∷ ar) (b ∷ bs) = same_span_of a b && same_row_of ar bs

same_span : (a b : Span) → T (same_span_of a b) → a ≡ b
same_span a b t =
    let p = eqb→eq a.low b.low (and_left (eqb a.low b.low) (eqb a.high b.high) t) in
    let q = eqb→eq a.high b.high (and_right (eqb a.low b.low) (eqb a.high b.high) t) in
    λ i. record { low = p i; high = q i }

same_row : (ar bs : Row) → T (same_row_of ar bs) → ar ≡ bs
same_row [] [] t = refl
same_row (a ∷ ar) (b ∷ bs) t =
    let p = same_span a b (and_left (same_span_of a b) (same_row_of ar bs) t) in
    let q = same_row ar bs (and_right (same_span_of a b) (same_row_of ar bs) t) in
    λ i. p i ∷ q i
same_row [] (b ∷ bs) t = elim t [ ]
same_row (a ∷ ar) [] t = elim t [ ]

-- the three digits of an entry
abbrev pub len_of : ℕ → ℕ
len_of x = x / 256 % 256

abbrev pub low_of : ℕ → ℕ
low_of x = x / 16 % 16 * 16

abbrev pub high_of : ℕ → ℕ
high_of x = x % 16 * 16 + 15

-- the entry x is right for the byte b
abbrev right : ℕ → ℕ → Bool
right b x = eqb (len_of x) (length (row_of b)) && (same_row_of (tail (row_of b)) (columns (len_of x) (low_of x) (high_of x)) && leb (len_of x) 4)

module _ (b : ℕ) (h : b < 256) where
  tested : T (right b (get_or lead_table b 0))
  unfolding lead_table row_of table37
  tested = at right lead_table tt b (omega arith)

  pub lead_row : (len_of (get_or lead_table b 0) ≡ length (row_of b)) × (tail (row_of b) ≡ columns (len_of (get_or lead_table b 0)) (low_of (get_or lead_table b 0)) (high_of (get_or lead_table b 0)))
      × (len_of (get_or lead_table b 0) ≤ 4)
  lead_row =
      let x : ℕ = get_or lead_table b 0 in
      let t₁ : Bool = eqb (len_of x) (length (row_of b)) in
      let t₂ : Bool = same_row_of (tail (row_of b)) (columns (len_of x) (low_of x) (high_of x)) in
      let t₃ : Bool = leb (len_of x) 4 in
      let rest : T (t₂ && t₃) = and_right t₁ (t₂ && t₃) tested in (
        eqb→eq (len_of x) (length (row_of b)) (and_left t₁ (t₂ && t₃) tested),
        same_row (tail (row_of b)) (columns (len_of x) (low_of x) (high_of x)) (and_left t₂ t₃ rest),
        leb→le
            (len_of x) 4 (and_right t₂ t₃ rest),
      )
