-- The bytes of a character behind its first are in 80..BF, whether it is well-formed or not (`more_trails`).
-- The idea: table 3-7 has nothing else in its columns behind the first, by a computed test over its rows; and of an ill-formed sequence those bytes stand in these columns too.
use Prim.Native.Nat.{ℕ, zero, suc, ◌≤◌, ◌<◌}
use native.Mathlib.Omega.{arith}
use mathlib.Core.Bool.{Bool, true, false, cond, ◌&&◌}
use mathlib.Core.Path.{◌≡◌, refl, sym, subst}
use mathlib.Core.List.{List, [], ◌∷◌, ◌++◌, tail}
use lib.Dec.{leb, T, leb→le}
use lib.ListN.{length, get_or}
use Rattle.chars.specs.Utf8.{Span, Row, within, table37, leads, row_in, row_of, Trails, matched, tail_len}
use Rattle.chars.specs.Chars.{Character}
use Rattle.chars.proofs.Table.{and_left, and_right}
use Rattle.chars.proofs.CharsLaws.{Read}

-- ── table 3-7
-- each column has bytes of 80..BF only
abbrev pub trailing : Row → Bool
trailing [] = true
trailing (c ∷ cs) = (leb 0x80 c.low && leb c.high 0xBF) && trailing cs

-- and so each column behind the first one of all rows
abbrev all_trailing : List Row → Bool
all_trailing [] = true
all_trailing (r ∷ rs) = trailing (tail r) && all_trailing rs

trailing_in : (rs : List Row) (b : ℕ) → T (all_trailing rs) → T (trailing (tail (row_in rs b)))
trailing_in [] b t = tt
trailing_in (r ∷ rs) b t = go (leads r b) (trailing_in rs b (and_right (trailing (tail r)) (all_trailing rs) t))
  where
    go : (u : Bool) → T (trailing (tail (row_in rs b))) → T (trailing (tail (cond u r (row_in rs b))))
    go true k = and_left (trailing (tail r)) (all_trailing rs) t
    go false k = k

pub row_trailing : (b : ℕ) → T (trailing (tail (row_of b)))
unfolding row_of table37
row_trailing b = trailing_in table37 b tt

-- the first one of such columns, and those behind it
module _ (c : Span) (cs : Row) (t : T (trailing (c ∷ cs))) where
  both : T (leb 0x80 c.low && leb c.high 0xBF)
  both = and_left (leb 0x80 c.low && leb c.high 0xBF) (trailing cs) t

  pub column_low : 0x80 ≤ c.low
  column_low = leb→le 0x80 c.low (and_left (leb 0x80 c.low) (leb c.high 0xBF) both)

  column_high : c.high ≤ 0xBF
  column_high = leb→le c.high 0xBF (and_right (leb 0x80 c.low) (leb c.high 0xBF) both)

  pub columns_on : T (trailing cs)
  columns_on = and_right (leb 0x80 c.low && leb c.high 0xBF) (trailing cs) t

  pub column-trails : (b : ℕ) → within c.low c.high b ≡ true → Trails b
  column-trails b w =
      let x : T (within c.low c.high b) = subst T (sym w) tt in
      let from = leb→le c.low b (and_left (leb c.low b) (leb b c.high) x) in
      let to = leb→le b c.high (and_right (leb c.low b) (leb b c.high) x) in
      (omega (arith, from, column_low), omega (arith, to, column_high))

-- ── the bytes of a character
-- each of the bytes trails
abbrev pub AllTrail : List ℕ → Type 0
AllTrail [] = Unit {0}
AllTrail (b ∷ s) = Trails b × AllTrail s

matched-trails : (cs : Row) (m r : List ℕ) → T (trailing cs) → matched cs (m ++ r) ≡ length m → AllTrail m
matched-trails cs [] r t e = tt
matched-trails [] (b ∷ m) r t e = absurd (omega (arith, e))
matched-trails (c ∷ cs) (b ∷ m) r t e = go (within c.low c.high b) refl e (λ g. matched-trails cs m r (columns_on c cs t) g)
  where
    go : (u : Bool) → within c.low c.high b ≡ u → cond u (suc (matched cs (m ++ r))) 0 ≡ suc (length m) → (matched cs (m ++ r) ≡ length m → AllTrail m) → Trails b × AllTrail m
    go true w g f = (column-trails c cs t b w, f (omega (arith, g)))
    go false w g f = absurd (omega (arith, g))

pub more_trails : (c : Character) (rest : List ℕ) (R : Read c rest) → AllTrail R.more
unfolding tail_len
more_trails c rest R = matched-trails (tail (row_of R.first)) R.more rest (row_trailing R.first) R.stops

-- one of them by its place
pub trails_at : (m r : List ℕ) → AllTrail m → (i : ℕ) → i < length m → Trails (get_or (m ++ r) i 0)
trails_at [] r t i h = absurd (omega (arith, h))
trails_at (b ∷ m) r t zero h = t.0
trails_at (b ∷ m) r t (suc i) h = trails_at m r t.1 i (omega (arith, h))
