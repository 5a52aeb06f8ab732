-- What the reader answers, from the length and the columns of a lead byte's row; and that three bytes after the lead byte are enough, a missing one taken for 0.
use Prim.Native.Nat.{ℕ, zero, suc, ◌+◌, ◌*◌, ◌%◌, ◌≤◌, ◌<◌}
use native.Mathlib.Omega.{arith}
use mathlib.Core.Bool.{Bool, true, false, cond, ◌&&◌}
use mathlib.Core.Path.{◌≡◌, refl, sym, ap, ◌∙◌}
use mathlib.Core.List.{List, [], ◌∷◌, tail}
use lib.Dec.{leb, eqb, T, leb→le}
use lib.ListN.{length, take, drop, get_or}
use lib.Seq.{get_or-drop}
use borrow.Author.Tests.{le-leb, lt-leb}
use Rattle.chars.specs.Utf8.{Row, within, table37, leads, row_in, row_of, matched, tail_len, complete, code_point}
use Rattle.chars.specs.Leads.{columns}
use Rattle.chars.specs.Width.{char_width_of}
use Rattle.chars.specs.Chars.{char_at, char_in}
use Rattle.chars.specs.Read.{read_of}
use Rattle.chars.specs.declared.Read.{Read}
use Rattle.chars.proofs.Table.{and_left, and_right}

pub and_false : (t : Bool) → (t && false) ≡ false
and_false true = refl
and_false false = refl

-- ── the answer by a row of n columns, of which `cols` come after the first
abbrev pub good : ℕ → ℕ → Read
good c n = record { code = c; len = n; ok = true }

abbrev pub bad : ℕ → Read
bad n = record { code = 0xFFFD; len = n; ok = false }

abbrev answer : ℕ → ℕ → List ℕ → Read
answer n a more = record { code = cond (eqb (suc (length more)) n) (code_point (a ∷ more)) 0xFFFD; len = suc (length more); ok = eqb (suc (length more)) n }

abbrev pub read_by : ℕ → Row → ℕ → List ℕ → Read
read_by n cols a bs = answer n a (take (matched cols bs) bs)

pub read_by_lem : (a : ℕ) (bs : List ℕ) (n low high : ℕ) → n ≡ length (row_of a) → tail (row_of a) ≡ columns n low high → read_by n (columns n low high) a bs ≡ read_of (char_at a bs)
unfolding char_at tail_len complete
read_by_lem a bs n low high e f = rw (← f, e)

pub in_span : (low high b : ℕ) → low ≤ b → b ≤ high → within low high b ≡ true
in_span low high b p q = simp (le-leb low b p, le-leb b high q)

pub below : (low high b : ℕ) → b < low → within low high b ≡ false
below low high b p = simp (lt-leb low b p)

pub above : (low high b : ℕ) → high < b → within low high b ≡ false
above low high b p = simp (lt-leb b high p) (and_false (leb low b))

module _ (a b c d low high : ℕ) where
  abbrev By : ℕ → Read
  By n = read_by n (columns n low high) a (b ∷ c ∷ d ∷ [])

  pub two_bytes : (n : ℕ) → n ≡ 2 → within low high b ≡ true → good (a % 32 * 64 + b % 64) 2 ≡ By n
  two_bytes n e f = rw e (simp f)

  pub three_bytes : (n : ℕ) → n ≡ 3 → within low high b ≡ true → within 0x80 0xBF c ≡ true → good (a % 16 * 4096 + b % 64 * 64 + c % 64) 3 ≡ By n
  three_bytes n e f g = rw e (simp (f, g))

  pub four_bytes : (n : ℕ) → n ≡ 4 → within low high b ≡ true → within 0x80 0xBF c ≡ true → within 0x80 0xBF d ≡ true
      → good (a % 8 * 262144 + b % 64 * 4096 + c % 64 * 64 + d % 64) 4 ≡ By n
  four_bytes n e f g h = rw e (simp (f, g, h))

-- ── the same by tests, one after the other: of n, and of the bytes b, c and d, whose tests give p, q and r
abbrev tested : ℕ → Bool → Bool → Bool → ℕ → ℕ → ℕ → ℕ → Read
tested n p q r a b c d =
    cond (eqb n 0) (bad 1) (cond (eqb n 1) (good a 1) (cond p (cond (eqb n 2) (good (a % 32 * 64 + b % 64) 2)
    (cond q (cond (eqb n 3) (good (a % 16 * 4096 + b % 64 * 64 + c % 64) 3)
    (cond r (good (a % 8 * 262144 + b % 64 * 4096 + c % 64 * 64 + d % 64) 4) (bad 3))) (bad 2))) (bad 1)))

by_tests : (n low high a b c d : ℕ) → n ≤ 4
    → read_by n (columns n low high) a (b ∷ c ∷ d ∷ []) ≡ tested n (within low high b) (within 0x80 0xBF c) (within 0x80 0xBF d) a b c d
by_tests zero low high a b c d h = refl
by_tests (suc zero) low high a b c d h = refl
by_tests (suc (suc zero)) low high a b c d h = go (within low high b) (within 0x80 0xBF c) (within 0x80 0xBF d)
  where
    go : (p q r : Bool) → answer 2 a (take (cond p 1 0) (b ∷ c ∷ d ∷ [])) ≡ tested 2 p q r a b c d
    go true q r = refl
    go false q r = refl
by_tests (suc (suc (suc zero))) low high a b c d h = go (within low high b) (within 0x80 0xBF c) (within 0x80 0xBF d)
  where
    go : (p q r : Bool) → answer 3 a (take (cond p (suc (cond q 1 0)) 0) (b ∷ c ∷ d ∷ [])) ≡ tested 3 p q r a b c d
    go true true r = refl
    go true false r = refl
    go false q r = refl
by_tests (suc (suc (suc (suc zero)))) low high a b c d h = go (within low high b) (within 0x80 0xBF c) (within 0x80 0xBF d)
  where
    go : (p q r : Bool) → answer 4 a (take (cond p (suc (cond q (suc (cond r 1 0)) 0)) 0) (b ∷ c ∷ d ∷ [])) ≡ tested 4 p q r a b c d
    go true true true = refl
    go true true false = refl
    go true false r = refl
    go false q r = refl
by_tests (suc (suc (suc (suc (suc n))))) low high a b c d h = absurd (omega arith)

pub decoded : (a b c d n low high : ℕ) → (n ≡ length (row_of a)) × (tail (row_of a) ≡ columns n low high) × (n ≤ 4)
    → read_of (char_at a (b ∷ c ∷ d ∷ [])) ≡ tested n (within low high b) (within 0x80 0xBF c) (within 0x80 0xBF d) a b c d
decoded a b c d n low high l = sym (read_by_lem a (b ∷ c ∷ d ∷ []) n low high l.0 l.1) ∙ by_tests n low high a b c d l.2

-- ── no column after the first has the byte 0
abbrev solid : Row → Bool
solid [] = true
solid (c ∷ cs) = leb 1 c.low && solid cs

abbrev all_solid : List Row → Bool
all_solid [] = true
all_solid (r ∷ rs) = (solid (tail r) && leb (length (tail r)) 3) && all_solid rs

solid_in : (rs : List Row) (b : ℕ) → T (all_solid rs) → T (solid (tail (row_in rs b)) && leb (length (tail (row_in rs b))) 3)
solid_in [] b t = tt
solid_in (r ∷ rs) b t = go (leads r b) (solid_in rs b (and_right (solid (tail r) && leb (length (tail r)) 3) (all_solid rs) t))
  where
    go : (u : Bool) → T (solid (tail (row_in rs b)) && leb (length (tail (row_in rs b))) 3)
        → T (solid (tail (cond u r (row_in rs b))) && leb (length (tail (cond u r (row_in rs b)))) 3)
    go true k = and_left (solid (tail r) && leb (length (tail r)) 3) (all_solid rs) t
    go false k = k

row_solid : (b : ℕ) → T (solid (tail (row_of b)) && leb (length (tail (row_of b))) 3)
unfolding row_of table37
row_solid b = solid_in table37 b tt

-- the first k bytes, 0 for each that is missing
abbrev padded : ℕ → List ℕ → List ℕ
padded zero bs = []
padded (suc k) [] = 0 ∷ padded k []
padded (suc k) (b ∷ bs) = b ∷ padded k bs

matched_padded : (k : ℕ) (cs : Row) (bs : List ℕ) → T (solid cs) → length cs ≤ k → take (matched cs (padded k bs)) (padded k bs) ≡ take (matched cs bs) bs
matched_padded zero [] bs t h = refl
matched_padded zero (c ∷ cs) bs t h = absurd (omega arith)
matched_padded (suc k) [] [] t h = refl
matched_padded (suc k) [] (b ∷ bs) t h = refl
matched_padded (suc k) (c ∷ cs) [] t h =
    let low : 1 ≤ c.low = leb→le 1 c.low (and_left (leb 1 c.low) (solid cs) t) in
    simp (lt-leb c.low 0 low)
matched_padded (suc k) (c ∷ cs) (b ∷ bs) t h = go (within c.low c.high b) (matched_padded k cs bs (and_right (leb 1 c.low) (solid cs) t) (omega arith))
  where
    go : (u : Bool) → take (matched cs (padded k bs)) (padded k bs) ≡ take (matched cs bs) bs
        → take (cond u (suc (matched cs (padded k bs))) 0) (b ∷ padded k bs) ≡ take (cond u (suc (matched cs bs)) 0) (b ∷ bs)
    go true e = ap (λ (l : List ℕ). b ∷ l) e
    go false e = refl

three : (bs : List ℕ) → get_or bs 0 0 ∷ get_or bs 1 0 ∷ get_or bs 2 0 ∷ [] ≡ padded 3 bs
three [] = refl
three (b ∷ []) = refl
three (b ∷ c ∷ []) = refl
three (b ∷ c ∷ d ∷ bs) = refl

-- the character that a leads depends on three bytes after it at most
pub char_padded : (a : ℕ) (bs : List ℕ) → char_at a (get_or bs 0 0 ∷ get_or bs 1 0 ∷ get_or bs 2 0 ∷ []) ≡ char_at a bs
unfolding char_at tail_len
char_padded a bs =
    let cs : Row = tail (row_of a) in
    let t = row_solid a in
    let e : take (matched cs (padded 3 bs)) (padded 3 bs) ≡ take (matched cs bs) bs =
    matched_padded 3 cs bs (and_left (solid cs) (leb (length cs) 3) t) (leb→le (length cs) 3 (and_right (solid cs) (leb (length cs) 3) t)) in
    rw (three bs) (ap (λ (more : List ℕ). let code = cond (complete a more) (code_point (a ∷ more)) 0xFFFD in record { text = a ∷ more; code = code; columns = char_width_of code; ok = complete a more }) e)

-- ── the character at a place, from the four bytes from there on
pub read_in : (s : List ℕ) (at b c d : ℕ) → b ≡ get_or s (at + 1) 0 → c ≡ get_or s (at + 2) 0 → d ≡ get_or s (at + 3) 0 → char_at (get_or s at 0) (b ∷ c ∷ d ∷ []) ≡ char_in at s
unfolding char_in
read_in s at b c d p q r =
    let step : (i : ℕ) → get_or s (at + suc i) 0 ≡ get_or (drop (suc at) s) i 0
    = λ i. let e : at + suc i ≡ suc at + i = omega arith in ap (λ (n : ℕ). get_or s n 0) e ∙ sym (get_or-drop (suc at) s i 0) in
    rw (p, q, r, step 0, step 1, step 2) (char_padded (get_or s at 0) (drop (suc at) s))
