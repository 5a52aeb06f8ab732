-- The digits of a number, one further in a loop (`decimal_one`, `decimal_more`); and a printed number reads back as itself: digits only, no leading zero, the same value.
-- The idea: more places than a number has digits change nothing, so what stands before the last digit is the decimal of the rest.
use Prim.Native.Nat.{ℕ, zero, suc, ◌+◌, ◌-◌, ◌*◌, ◌^◌, ◌/◌, ◌%◌, ◌≤◌, ◌<◌}
use native.Mathlib.Omega.{arith}
use Rattle.std.proofs.Common.{pow-suc}
use mathlib.Core.Bool.{Bool, true, false, cond}
use mathlib.Core.Path.{◌≡◌, refl, sym, ap, ◌∙◌}
use mathlib.Core.List.{List, [], ◌∷◌, ◌++◌, append_assoc, append-nil}
use lib.Dec.{leb, ltb, eqb}
use lib.ListN.{length, take, drop, get_or, set, length-append, length-set, take-append-drop}
use lib.Seq.{set_at, drop-cons, length-take-le}
use borrow.Author.Tests.{le-leb, leb-true, ltb-true, ltb-false, lt-ltb, le-ltb, eq-eqb, ne_eqb}
use Rattle.buffer.specs.Place.{over_at}
use Rattle.buffer.proofs.Laws.{over_none, over_twice}
use Rattle.recording.specs.Recording.{Bytes}
use Rattle.recording.proofs.Lists.{and_left, and_right, or_left, or_right}
use Rattle.sheet.specs.Sheet.{has, up_to, after, is_digit, all_digits, value_from, no_leading_zero_in, is_decimal}
use Rattle.sheet.specs.Decimal.{decimal_up_to, decimal}

-- ── the last digit, and the decimal before it
-- a place more than there are digits changes nothing
up_to_more : (k n : ℕ) → n < 10 ^ suc k → decimal_up_to (suc (suc k)) n ≡ decimal_up_to (suc k) n
up_to_more zero n h = simp (lt-ltb n 10 (omega (arith, h)))
up_to_more (suc k) n h = ap (λ (l : Bytes). cond (ltb n 10) [] l ++ ((0x30 + n % 10) ∷ [])) (up_to_more k (n / 10) (omega (arith, h)))

pub decimal_one : (n : ℕ) → n < 10 → decimal n ≡ (0x30 + n) ∷ []
unfolding decimal
decimal_one n h = let e : n % 10 ≡ n = omega arith in simp (lt-ltb n 10 h, e)

pub decimal_more : (n : ℕ) → 10 ≤ n → n < 10000000000 → decimal n ≡ decimal (n / 10) ++ ((0x30 + n % 10) ∷ [])
unfolding decimal
decimal_more n p h = simp (le-ltb n 10 p) (ap (λ (l : Bytes). l ++ ((0x30 + n % 10) ∷ [])) (sym (up_to_more 8 (n / 10) (omega (arith, h)))))

-- ── from one to ten digits
up_to_short : (k n : ℕ) → length (decimal_up_to k n) ≤ k
up_to_short zero n = omega arith
up_to_short (suc k) n = go (ltb n 10) (up_to_short k (n / 10))
  where
    go : (t : Bool) → length (decimal_up_to k (n / 10)) ≤ k → length (cond t [] (decimal_up_to k (n / 10)) ++ ((0x30 + n % 10) ∷ [])) ≤ suc k
    go true h = omega arith
    go false h = omega (arith, h, length-append (decimal_up_to k (n / 10)) ((0x30 + n % 10) ∷ []))

pub decimal_short : (n : ℕ) → length (decimal n) ≤ 10
unfolding decimal
decimal_short n = up_to_short 10 n

pub decimal-length : (n : ℕ) → 10 ≤ n → n < 10000000000 → length (decimal n) ≡ suc (length (decimal (n / 10)))
decimal-length n p h = omega (arith, ap length (decimal_more n p h), length-append (decimal (n / 10)) ((0x30 + n % 10) ∷ []))

-- as many as the logarithm k says, and one
some_power : (j : ℕ) → 1 ≤ 10 ^ j
some_power zero = omega arith
some_power (suc j) = omega (arith, pow-suc 10 j, some_power j)

pub decimal_zero : length (decimal 0) ≡ 1
decimal_zero = ap length (decimal_one 0 (omega arith))

pub decimal_log : (k n : ℕ) → 10 ^ k ≤ n → n < 10 * 10 ^ k → n < 10000000000 → length (decimal n) ≡ k + 1
decimal_log zero n p q h = ap length (decimal_one n (omega (arith, q)))
decimal_log (suc k) n p q h =
    let t : 10 ^ suc k ≡ 10 * 10 ^ k = omega (arith, pow-suc 10 k) in
    omega (arith, decimal-length n (omega (arith, p, t, some_power k)) h, decimal_log k (n / 10) (omega (arith, p, t)) (omega (arith, q, t)) (omega (arith, h)))

-- ── a byte stored before those that stand from k + 1 on
pub store_before : (k b : ℕ) (new l old : List ℕ) → l ≡ over_at (k + 1) new old → k < length old → set l k b ≡ over_at k (b ∷ new) old
unfolding over_at
store_before k b new l old e h =
    let x : ℕ = get_or old k 0 in
    let d : drop k old ≡ x ∷ drop (suc k) old = drop-cons old k 0 h in
    let kept : over_at k (x ∷ []) old ≡ old = ap (λ (r : List ℕ). take k old ++ r) (ap (λ (r : List ℕ). x ∷ drop 1 r) d ∙ sym d) ∙ take-append-drop k old in
    let f : l ≡ over_at k (x ∷ new) old = e ∙ ap (over_at (k + 1) new) (sym kept) ∙ over_twice k (x ∷ []) new old (omega arith) in
    ap (λ (o : List ℕ). set o k b) f ∙ set_at (take k old) x (new ++ drop (suc (length new)) (drop k old)) b k (length-take-le k old (omega arith))

-- ── digits
digit_in : (n : ℕ) → is_digit (0x30 + n % 10) ≡ true
digit_in n = rw (le-leb 0x30 (0x30 + n % 10) (omega arith), le-leb (0x30 + n % 10) 0x39 (omega arith))

digits_join : (a b : Bytes) → all_digits a ≡ true → all_digits b ≡ true → all_digits (a ++ b) ≡ true
digits_join [] b p q = q
digits_join (x ∷ a) b p q = rw (and_left (is_digit x) (all_digits a) p) (digits_join a b (and_right (is_digit x) (all_digits a) p) q)

digits_only : (k n : ℕ) → all_digits (decimal_up_to k n) ≡ true
digits_only zero n = refl
digits_only (suc k) n = go (ltb n 10) (digits_only k (n / 10))
  where
    last : all_digits ((0x30 + n % 10) ∷ []) ≡ true
    last = rw (digit_in n)

    go : (t : Bool) → all_digits (decimal_up_to k (n / 10)) ≡ true → all_digits (cond t [] (decimal_up_to k (n / 10)) ++ ((0x30 + n % 10) ∷ [])) ≡ true
    go true h = last
    go false h = digits_join (decimal_up_to k (n / 10)) ((0x30 + n % 10) ∷ []) h last

-- ── the value
value_last : (m : ℕ) (a : Bytes) (b : ℕ) → value_from m (a ++ (b ∷ [])) ≡ value_from m a * 10 + (b - 0x30)
value_last m [] b = refl
value_last m (x ∷ a) b = value_last (m * 10 + (x - 0x30)) a b

value_up_to : (k n : ℕ) → n < 10 ^ k → value_from 0 (decimal_up_to k n) ≡ n
value_up_to zero n h = omega (arith, h)
value_up_to (suc k) n h = go (ltb n 10) refl (value_up_to k (n / 10) (omega (arith, h)))
  where
    go : (t : Bool) → ltb n 10 ≡ t → value_from 0 (decimal_up_to k (n / 10)) ≡ n / 10 → value_from 0 (cond t [] (decimal_up_to k (n / 10)) ++ ((0x30 + n % 10) ∷ [])) ≡ n
    go true e ih = omega (arith, ltb-true n 10 e)
    go false e ih = value_last 0 (decimal_up_to k (n / 10)) (0x30 + n % 10) ∙ omega (arith, ih)

-- ── no leading zero
abbrev Leads : Bytes → Type 0
Leads [] = ⊥
Leads (b ∷ s) = eqb b 0x30 ≡ false

leads_join : (a b : Bytes) → Leads a → Leads (a ++ b)
leads_join [] b h = absurd h
leads_join (x ∷ a) b h = h

leads_up_to : (k n : ℕ) → 1 ≤ n → n < 10 ^ k → Leads (decimal_up_to k n)
leads_up_to zero n p h = absurd (omega (arith, h))
leads_up_to (suc k) n p h = go (ltb n 10) refl (λ q. leads_up_to k (n / 10) q (omega (arith, h)))
  where
    go : (t : Bool) → ltb n 10 ≡ t → (1 ≤ n / 10 → Leads (decimal_up_to k (n / 10))) → Leads (cond t [] (decimal_up_to k (n / 10)) ++ ((0x30 + n % 10) ∷ []))
    go true e f = ne_eqb (0x30 + n % 10) 0x30 (λ z. omega (arith, z, p, ltb-true n 10 e))
    go false e f = leads_join (decimal_up_to k (n / 10)) ((0x30 + n % 10) ∷ []) (f (omega (arith, ltb-false n 10 e)))

no_zero : (s : Bytes) → Leads s → no_leading_zero_in s ≡ true
no_zero [] h = absurd h
no_zero (b ∷ []) h = refl
no_zero (b ∷ c ∷ s) h = rw h

no_zero-decimal : (n : ℕ) → n < 10000000000 → no_leading_zero_in (decimal n) ≡ true
unfolding decimal
no_zero-decimal zero h = refl
no_zero-decimal (suc n) h = no_zero (decimal_up_to 10 (suc n)) (leads_up_to 10 (suc n) (omega arith) (omega (arith, h)))

-- ── a printed number reads back as itself
pub value_decimal : (n : ℕ) → n < 10000000000 → value_from 0 (decimal n) ≡ n
unfolding decimal
value_decimal n h = value_up_to 10 n (omega (arith, h))

pub digits_decimal : (n : ℕ) → all_digits (decimal n) ≡ true
unfolding decimal
digits_decimal n = digits_only 10 n

pub decimal-decimal : (n : ℕ) → n ≤ 4294967295 → is_decimal (decimal n) ≡ true
unfolding is_decimal
decimal-decimal n h =
    rw (no_zero-decimal n (omega (arith, h)), digits_decimal n, value_decimal n (omega (arith, h)), le-leb n 4294967295 h)

-- ── digits are no other byte
pub digit_bounds : (b : ℕ) → is_digit b ≡ true → (0x30 ≤ b) × (b ≤ 0x39)
digit_bounds b h = (leb-true 0x30 b (and_left (leb 0x30 b) (leb b 0x39) h), leb-true b 0x39 (and_right (leb 0x30 b) (leb b 0x39) h))

pub digits_lack : (c : ℕ) (s : Bytes) → c < 0x30 → all_digits s ≡ true → has c s ≡ false
digits_lack c [] k h = refl
digits_lack c (b ∷ s) k h =
    rw (ne_eqb b c (λ z. omega (arith, z, k, (digit_bounds b (and_left (is_digit b) (all_digits s) h)).0))) (digits_lack c s k (and_right (is_digit b) (all_digits s) h))

-- ── two fields with a byte between
pub up_to_field : (c : ℕ) (a b : Bytes) → has c a ≡ false → up_to c (a ++ (c ∷ b)) ≡ a
up_to_field c [] b h = rw (eq-eqb c c refl)
up_to_field c (x ∷ a) b h = rw (or_left (eqb x c) (has c a) h) (ap (λ (l : Bytes). x ∷ l) (up_to_field c a b (or_right (eqb x c) (has c a) h)))

pub after_field : (c : ℕ) (a b : Bytes) → has c a ≡ false → after c (a ++ (c ∷ b)) ≡ b
after_field c [] b h = rw (eq-eqb c c refl)
after_field c (x ∷ a) b h = rw (or_left (eqb x c) (has c a) h) (after_field c a b (or_right (eqb x c) (has c a) h))

-- ── the digits written from the last to the first: what stands from i on is behind the digits of m, and both together are the decimal of n
pub record SoFar (at n : ℕ) (old out : List ℕ) (i m : ℕ) : Type 0 where
  pub done : List ℕ
  pub holds : out ≡ over_at i done old
  pub whole : decimal m ++ done ≡ decimal n
  pub place : i ≡ at + length (decimal m)
  pub small : m ≤ n
  pub long : length out ≡ length old

pub none_written : (at n : ℕ) (old : List ℕ) → SoFar at n old old (at + length (decimal n)) n
none_written at n old = record { done = []; holds = sym (over_none _ _); whole = append-nil _; place = refl; small = omega arith; long = refl }

module _ (at n : ℕ) (old out : List ℕ) (i m : ℕ) (s : SoFar at n old out i m) (room : at + length (decimal n) ≤ length old) where
  pub inside : i ≤ length old
  inside = omega (arith, s.place, ap length s.whole, length-append (decimal m) s.done, room)

  module _ (more : 10 ≤ m) (large : n < 10000000000) where
    longer : length (decimal m) ≡ length (decimal (m / 10)) + 1
    longer = omega (arith, decimal-length m more (omega (arith, s.small, large)))

    pub some_left : at < i
    some_left = omega (arith, s.place, longer)

    pub one_written : SoFar at n old (set out (i - 1) (0x30 + m % 10)) (i - 1) (m / 10)
    one_written =
        let e : i ≡ (i - 1) + 1 = omega (arith, some_left) in
        record {
          done = (0x30 + m % 10) ∷ s.done;
          holds = store_before (i - 1) (0x30 + m % 10) s.done out old (s.holds ∙ ap (λ (j : ℕ). over_at j s.done old) e) (omega (arith, e, inside));
          whole = sym (append_assoc (decimal (m / 10)) ((0x30 + m % 10) ∷ []) s.done) ∙ ap (λ (l : List ℕ). l ++ s.done) (sym (decimal_more m more (omega (arith, s.small, large)))) ∙ s.whole;
          place = omega (arith, s.place, longer);
          small = omega (arith, s.small);
          long = length-set out (i - 1) (0x30 + m % 10) ∙ s.long;
        }

  pub last_written : m < 10 → set out at (0x30 + m) ≡ over_at at (decimal n) old
  last_written less =
      let d = decimal_one m less in
      let e : i ≡ at + 1 = omega (arith, s.place, ap length d) in
      store_before at (0x30 + m) s.done out old (s.holds ∙ ap (λ (j : ℕ). over_at j s.done old) e) (omega (arith, e, inside))
      ∙ ap (λ (l : List ℕ). over_at at l old) (ap (λ (l : List ℕ). l ++ s.done) (sym d) ∙ s.whole)
