-- Beyond ASCII a well-formed character is a control character exactly if C2 leads it and the byte behind that is below A0.
-- The idea: table 3-7 keeps the code points of all other sequences at A0 or above, by a computed test over its rows.
-- An ASCII byte is its own code point (`ascii_code`), which `chars/proofs/FoldLaws.antt` states and this file passes on.
use Prim.Native.Nat.{ℕ, suc, ◌+◌, ◌*◌, ◌%◌, ◌≤◌, ◌<◌}
use native.Mathlib.Omega.{arith}
use mathlib.Core.Bool.{Bool, true, false, cond, ◌&&◌, ◌||◌}
use mathlib.Core.Path.{◌≡◌, refl, sym, ap, ◌∙◌}
use mathlib.Core.List.{List, [], ◌∷◌, ◌++◌, tail}
use lib.Dec.{leb, ltb}
use lib.ListN.{length, take, drop, get_or, take-append-drop, length-drop}
use lib.Seq.{length-take-le, get_or-drop}
use borrow.Author.Tests.{eqb-true, leb-true, ltb-true, ltb-false}
use Rattle.chars.specs.Utf8.{Row, span, within, table37, leads, row_in, row_of, matched, tail_len, complete, code_point}
use Rattle.chars.specs.Chars.{char_at, char_in}
use Rattle.chars.proofs.CharsLaws.{tail_le}
pub use Rattle.chars.proofs.FoldLaws.{ascii_code}
use Rattle.chars.proofs.RangeLaws.{bounds}
use Rattle.chars.proofs.JoinLaws.{and_both}
use Rattle.chars.proofs.ReaderLaws.{in_span, above}
use Rattle.controls.specs.Controls.{is_control}

-- ── table 3-7: how low the code points of a row can be is told by its first two columns
abbrev high : Row → Bool
high [] = true
high (c ∷ []) = leb c.high 0x7F
high (c ∷ d ∷ []) = leb 0xC2 c.low && leb c.high 0xDF
high (c ∷ d ∷ e ∷ []) = (leb 0xE0 c.low && leb c.high 0xEF) && (leb 0xE1 c.low || (leb 0xA0 d.low && leb d.high 0xBF))
high (c ∷ d ∷ e ∷ f ∷ gs) = (leb 0xF0 c.low && leb c.high 0xF7) && (leb 0xF1 c.low || (leb 0x90 d.low && leb d.high 0xBF))

abbrev all_high : List Row → Bool
all_high [] = true
all_high (r ∷ rs) = high r && all_high rs

-- b stands in the first column
abbrev Lead : Row → ℕ → Type 0
Lead [] b = Unit {0}
Lead (c ∷ cs) b = (c.low ≤ b) × (b ≤ c.high)

record Led (r : Row) (b : ℕ) : Type 0 where
  test : high r ≡ true
  lead : Lead r b

lead_of : (r : Row) (b : ℕ) → leads r b ≡ true → Lead r b
lead_of [] b h = tt
lead_of (c ∷ cs) b h = bounds c.low c.high b h

led_in : (rs : List Row) (b : ℕ) → all_high rs ≡ true → Led (row_in rs b) b
led_in [] b h = record { test = refl; lead = tt }
led_in (r ∷ rs) b h = go (leads r b) refl (led_in rs b (and_both (high r) (all_high rs) h).1)
  where
    go : (t : Bool) → leads r b ≡ t → Led (row_in rs b) b → Led (cond t r (row_in rs b)) b
    go true e k = record { test = (and_both (high r) (all_high rs) h).0; lead = lead_of r b e }
    go false e k = k

row_led : (b : ℕ) → Led (row_of b) b
unfolding row_of table37
row_led b = led_in table37 b refl

-- ── the code point of all bytes m of a sequence, whose row is r
three_high : (b x y cl ch dl dh : ℕ) → cl ≤ b → b ≤ ch → ((leb 0xE0 cl && leb ch 0xEF) && (leb 0xE1 cl || (leb 0xA0 dl && leb dh 0xBF))) ≡ true → dl ≤ x → x ≤ dh → 0xA0 ≤ b % 16 * 4096 + x % 64 * 64 + y % 64
three_high b x y cl ch dl dh p q t u v =
    let a = and_both (leb 0xE0 cl && leb ch 0xEF) (leb 0xE1 cl || (leb 0xA0 dl && leb dh 0xBF)) t in
    let o = and_both (leb 0xE0 cl) (leb ch 0xEF) a.0 in
    go (leb 0xE1 cl) refl a.1 (leb-true ch 0xEF o.1)
  where
    go : (w : Bool) → leb 0xE1 cl ≡ w → (w || (leb 0xA0 dl && leb dh 0xBF)) ≡ true → ch ≤ 0xEF → 0xA0 ≤ b % 16 * 4096 + x % 64 * 64 + y % 64
    go true e h n = let k = leb-true 0xE1 cl e in omega (arith, k, n, p, q)
    go false e h n =
        let k = and_both (leb 0xA0 dl) (leb dh 0xBF) h in
        omega (arith, leb-true 0xA0 dl k.0, leb-true dh 0xBF k.1, u, v)

four_high : (b x y z cl ch dl dh : ℕ) → cl ≤ b → b ≤ ch → ((leb 0xF0 cl && leb ch 0xF7) && (leb 0xF1 cl || (leb 0x90 dl && leb dh 0xBF))) ≡ true → dl ≤ x → x ≤ dh → 0xA0 ≤ b % 8 * 262144 + x % 64 * 4096 + y % 64 * 64 + z % 64
four_high b x y z cl ch dl dh p q t u v =
    let a = and_both (leb 0xF0 cl && leb ch 0xF7) (leb 0xF1 cl || (leb 0x90 dl && leb dh 0xBF)) t in
    let o = and_both (leb 0xF0 cl) (leb ch 0xF7) a.0 in
    go (leb 0xF1 cl) refl a.1 (leb-true ch 0xF7 o.1)
  where
    go : (w : Bool) → leb 0xF1 cl ≡ w → (w || (leb 0x90 dl && leb dh 0xBF)) ≡ true → ch ≤ 0xF7 → 0xA0 ≤ b % 8 * 262144 + x % 64 * 4096 + y % 64 * 64 + z % 64
    go true e h n = let k = leb-true 0xF1 cl e in omega (arith, k, n, p, q)
    go false e h n =
        let k = and_both (leb 0x90 dl) (leb dh 0xBF) h in
        omega (arith, leb-true 0x90 dl k.0, leb-true dh 0xBF k.1, u, v)

second : (t : Bool) (n k : ℕ) → cond t (suc n) 0 ≡ suc k → t ≡ true
second true n k h = refl
second false n k h = absurd (omega (arith, h))

code_high : (r : Row) (b : ℕ) (m rest : List ℕ) → Led r b → suc (length m) ≡ length r → matched (tail r) (m ++ rest) ≡ length m → 0x7F < b → (b ≡ 0xC2 → ⊥) → 0xA0 ≤ code_point (b ∷ m)
code_high [] b m rest l f h p q = absurd (omega (arith, f))
code_high (c ∷ []) b m rest l f h p q = absurd (omega (arith, p, l.lead.1, leb-true c.high 0x7F l.test))
code_high (c ∷ d ∷ []) b [] rest l f h p q = absurd (omega (arith, f))
code_high (c ∷ d ∷ []) b (x ∷ []) rest l f h p q =
    let t = and_both (leb 0xC2 c.low) (leb c.high 0xDF) l.test in
    let n : 0xC3 ≤ b = omega (arith, l.lead.0, leb-true 0xC2 c.low t.0, q) in
    omega (arith, n, l.lead.1, leb-true c.high 0xDF t.1)
code_high (c ∷ d ∷ []) b (x ∷ y ∷ m) rest l f h p q = absurd (omega (arith, f))
code_high (c ∷ d ∷ e ∷ []) b [] rest l f h p q = absurd (omega (arith, f))
code_high (c ∷ d ∷ e ∷ []) b (x ∷ []) rest l f h p q = absurd (omega (arith, f))
code_high (c ∷ d ∷ e ∷ []) b (x ∷ y ∷ []) rest l f h p q =
    let o = bounds d.low d.high x (second (within d.low d.high x) _ _ h) in
    three_high b x y c.low c.high d.low d.high l.lead.0 l.lead.1 l.test o.0 o.1
code_high (c ∷ d ∷ e ∷ []) b (x ∷ y ∷ z ∷ m) rest l f h p q = absurd (omega (arith, f))
code_high (c ∷ d ∷ e ∷ k ∷ gs) b [] rest l f h p q = absurd (omega (arith, f))
code_high (c ∷ d ∷ e ∷ k ∷ gs) b (x ∷ []) rest l f h p q = absurd (omega (arith, f))
code_high (c ∷ d ∷ e ∷ k ∷ gs) b (x ∷ y ∷ []) rest l f h p q = absurd (omega (arith, f))
code_high (c ∷ d ∷ e ∷ k ∷ gs) b (x ∷ y ∷ z ∷ m) rest l f h p q =
    let o = bounds d.low d.high x (second (within d.low d.high x) _ _ h) in
    four_high b x y z c.low c.high d.low d.high l.lead.0 l.lead.1 l.test o.0 o.1

-- ── after C2 the code point is the second byte
c2_code : (bs : List ℕ) → suc (length (take (matched (span 0x80 0xBF ∷ []) bs) bs)) ≡ 2 → (code_point (0xC2 ∷ take (matched (span 0x80 0xBF ∷ []) bs) bs) ≡ get_or bs 0 0) × (0x80 ≤ get_or bs 0 0)
c2_code [] h = absurd (omega (arith, h))
c2_code (x ∷ bs) h = go (within 0x80 0xBF x) refl h
  where
    go : (t : Bool) → within 0x80 0xBF x ≡ t → suc (length (take (cond t 1 0) (x ∷ bs))) ≡ 2 → (code_point (0xC2 ∷ take (cond t 1 0) (x ∷ bs)) ≡ x) × (0x80 ≤ x)
    go true e k = let o = bounds 0x80 0xBF x e in (omega (arith, o.0, o.1), o.0)
    go false e k = absurd (omega (arith, k))

-- ── the character at a place
module _ (s : List ℕ) (at : ℕ) (ok : (char_in at s).ok ≡ true) where
  abbrev b : ℕ
  b = get_or s at 0

  abbrev bs : List ℕ
  bs = drop (suc at) s

  full : suc (length (take (tail_len b bs) bs)) ≡ length (row_of b)
  unfolding char_in char_at complete
  full = eqb-true (suc (length (take (tail_len b bs) bs))) (length (row_of b)) ok

  code_is : (char_in at s).code ≡ code_point (b ∷ take (tail_len b bs) bs)
  unfolding char_in char_at complete
  code_is = rw ok

  pub other_lead : 0x7F < b → (b ≡ 0xC2 → ⊥) → is_control (char_in at s).code ≡ false
  unfolding tail_len
  other_lead p q =
      let m : List ℕ = take (tail_len b bs) bs in
      let k : matched (tail (row_of b)) (m ++ drop (tail_len b bs) bs) ≡ length m = rw (take-append-drop (tail_len b bs) bs) (sym (length-take-le (tail_len b bs) bs (tail_le b bs))) in
      let n = code_high (row_of b) b m (drop (tail_len b bs) bs) (row_led b) full k p q in
      ap is_control code_is ∙ simp (above 0x00 0x1F (code_point (b ∷ m)) (omega (arith, n)), above 0x7F 0x9F (code_point (b ∷ m)) (omega (arith, n)))

  module _ (c2 : b ≡ 0xC2) where
    row_c2 : tail (row_of b) ≡ span 0x80 0xBF ∷ []
    unfolding row_of table37
    row_c2 = rw c2

    two : length (row_of b) ≡ 2
    unfolding row_of table37
    two = rw c2

    c2_read : ((char_in at s).code ≡ get_or bs 0 0) × (0x80 ≤ get_or bs 0 0)
    unfolding tail_len
    c2_read =
        let c = c2_code bs (ap (λ (r : Row). suc (length (take (matched r bs) bs))) (sym row_c2) ∙ full ∙ two) in
        (code_is ∙ (λ i. code_point (c2 i ∷ take (matched (row_c2 i) bs) bs)) ∙ c.0, c.1)

    code_second : ((char_in at s).code ≡ get_or s (at + 1) 0) × (0x80 ≤ get_or s (at + 1) 0)
    code_second =
        let n : suc at + 0 ≡ at + 1 = omega arith in
        let e : get_or bs 0 0 ≡ get_or s (at + 1) 0 = get_or-drop (suc at) s 0 0 ∙ ap (λ (k : ℕ). get_or s k 0) n in
        (c2_read.0 ∙ e, omega (arith, e, c2_read.1))

    pub c2_control : is_control (char_in at s).code ≡ ltb (get_or s (at + 1) 0) 0xA0
    c2_control = ap is_control code_second.0 ∙ go (ltb (get_or s (at + 1) 0) 0xA0) refl
      where
        x : ℕ
        x = get_or s (at + 1) 0

        go : (t : Bool) → ltb x 0xA0 ≡ t → is_control x ≡ t
        go true e = simp (above 0x00 0x1F x (omega (arith, code_second.1)), in_span 0x7F 0x9F x (omega (arith, code_second.1)) (omega (arith, ltb-true x 0xA0 e)))
        go false e = simp (above 0x00 0x1F x (omega (arith, code_second.1)), above 0x7F 0x9F x (omega (arith, ltb-false x 0xA0 e)))

    -- there is such a byte
    pub c2_inside : at + 1 < length s
    c2_inside = omega (arith, full, two, length-take-le (tail_len b bs) bs (tail_le b bs), tail_le b bs, length-drop (suc at) s)
