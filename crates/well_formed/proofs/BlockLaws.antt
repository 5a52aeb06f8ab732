-- Bytes that fit are well-formed characters, from a place where no sequence is open to any other such place.
-- The idea: where no sequence is open a byte leads one, and each byte after it is one that the lead byte asks for.
use Prim.Native.Nat.{ℕ, zero, suc, ◌+◌, ◌≤◌, ◌<◌}
use native.Mathlib.Omega.{arith}
use native.Mathlib.Numerals.{add-one, add-two, add-three}
use mathlib.Core.Bool.{Bool, true, false}
use mathlib.Core.Path.{◌≡◌, refl, sym, ap, ◌∙◌, subst}
use mathlib.Core.List.{List, [], ◌∷◌, tail}
use lib.Dec.{leb}
use lib.ListN.{length, drop, get_or}
use borrow.Author.Tests.{leb-true, leb-false}
use Rattle.chars.specs.Utf8.{Span, span, table37, row_of}
use Rattle.chars.specs.Leads.{columns}
use Rattle.chars.specs.Chars.{char_in, chars, all_ok, well_formed_of}
use Rattle.chars.specs.Read.{read_of}
use Rattle.chars.specs.declared.Read.{Read}
use Rattle.well_formed.specs.Blocks.{Ended, Fits, EndsAt, FitsAt, Fitting, Plain}
use Rattle.chars.proofs.CharsLaws.{chars_end}
use Rattle.chars.proofs.ReaderLaws.{good, read_by, read_by_lem, read_in, two_bytes, three_bytes, four_bytes, in_span, above}
use Rattle.chars.proofs.FoldLaws.{ascii_len, ascii_ok, ok_next}

-- ── stretches that fit
pub fitting_join : (s : List ℕ) (a b c d : ℕ) → Fitting a b s → Fitting c d s → c ≤ b → Fitting a d s
fitting_join s a b c d f g h i p q = go (leb b i) refl
  where
    go : (t : Bool) → leb b i ≡ t → FitsAt i s
    go true e = g i (omega (arith, leb-true b i e, h)) q
    go false e = f i p (leb-false b i e)

-- ── the character at a place, from its bytes
record Whole (s : List ℕ) (at n : ℕ) : Type 0 where
  len : n ≡ length (char_in at s).text
  ok : (char_in at s).ok ≡ true

module _ (s : List ℕ) (at : ℕ) where
  abbrev a : ℕ
  a = get_or s at 0

  abbrev b : ℕ
  b = get_or s (suc at) 0

  abbrev c : ℕ
  c = get_or s (suc (suc at)) 0

  abbrev d : ℕ
  d = get_or s (suc (suc (suc at))) 0

  -- the row of the lead byte has n columns
  by_row : (n low high code : ℕ) (first : Span) → row_of a ≡ first ∷ columns n low high → n ≡ length (first ∷ columns n low high)
      → good code n ≡ read_by n (columns n low high) a (b ∷ c ∷ d ∷ []) → Whole s at n
  by_row n low high code first r l e =
      let p : b ≡ get_or s (at + 1) 0 = rw add-one refl in
      let q : c ≡ get_or s (at + 2) 0 = rw add-two refl in
      let u : d ≡ get_or s (at + 3) 0 = rw add-three refl in
      let k : good code n ≡ read_of (char_in at s) =
      e ∙ read_by_lem a (b ∷ c ∷ d ∷ []) n low high (l ∙ ap length (sym r)) (ap tail r) ∙ ap read_of (read_in s at b c d p q u) in
      record { len = ap (λ (x : Read). x.len) k; ok = sym (ap (λ (x : Read). x.ok) k) }

  two : (low high : ℕ) (first : Span) → row_of a ≡ first ∷ columns 2 low high → low ≤ b → b ≤ high → Whole s at 2
  two low high first r p q = by_row 2 low high _ first r refl (two_bytes a b c d low high 2 refl (in_span low high b p q))

  three : (low high : ℕ) (first : Span) → row_of a ≡ first ∷ columns 3 low high → low ≤ b → b ≤ high → 0x80 ≤ c → c ≤ 0xBF → Whole s at 3
  three low high first r p q u v = by_row 3 low high _ first r refl (three_bytes a b c d low high 3 refl (in_span low high b p q) (in_span 0x80 0xBF c u v))

  four : (low high : ℕ) (first : Span) → row_of a ≡ first ∷ columns 4 low high → low ≤ b → b ≤ high → 0x80 ≤ c → c ≤ 0xBF → 0x80 ≤ d → d ≤ 0xBF → Whole s at 4
  four low high first r p q u v x y =
      by_row 4 low high _ first r refl (four_bytes a b c d low high 4 refl (in_span low high b p q) (in_span 0x80 0xBF c u v) (in_span 0x80 0xBF d x y))

-- ── the row of a lead byte
row_two : (a : ℕ) → 0xC2 ≤ a → a ≤ 0xDF → row_of a ≡ span 0xC2 0xDF ∷ columns 2 0x80 0xBF
unfolding row_of table37
row_two a p q = simp (above 0x00 0x7F a (omega arith), in_span 0xC2 0xDF a p q)

row_e0 : (a : ℕ) → a ≡ 0xE0 → row_of a ≡ span 0xE0 0xE0 ∷ columns 3 0xA0 0xBF
unfolding row_of table37
row_e0 a e = rw e refl

row_e1 : (a : ℕ) → 0xE1 ≤ a → a ≤ 0xEC → row_of a ≡ span 0xE1 0xEC ∷ columns 3 0x80 0xBF
unfolding row_of table37
row_e1 a p q = simp (above 0x00 0x7F a (omega arith), above 0xC2 0xDF a (omega arith), above 0xE0 0xE0 a (omega arith), in_span 0xE1 0xEC a p q)

row_ed : (a : ℕ) → a ≡ 0xED → row_of a ≡ span 0xED 0xED ∷ columns 3 0x80 0x9F
unfolding row_of table37
row_ed a e = rw e refl

row_ee : (a : ℕ) → 0xEE ≤ a → a ≤ 0xEF → row_of a ≡ span 0xEE 0xEF ∷ columns 3 0x80 0xBF
unfolding row_of table37
row_ee a p q =
    simp (above 0x00 0x7F a (omega arith), above 0xC2 0xDF a (omega arith), above 0xE0 0xE0 a (omega arith), above 0xE1 0xEC a (omega arith), above 0xED 0xED a (omega arith), in_span 0xEE 0xEF a p q)

row_f0 : (a : ℕ) → a ≡ 0xF0 → row_of a ≡ span 0xF0 0xF0 ∷ columns 4 0x90 0xBF
unfolding row_of table37
row_f0 a e = rw e refl

row_f1 : (a : ℕ) → 0xF1 ≤ a → a ≤ 0xF3 → row_of a ≡ span 0xF1 0xF3 ∷ columns 4 0x80 0xBF
unfolding row_of table37
row_f1 a p q =
    simp (
      above 0x00 0x7F a (omega arith),
      above 0xC2 0xDF a (omega arith),
      above 0xE0 0xE0 a (omega arith),
      above 0xE1 0xEC a (omega arith),
      above 0xED 0xED a (omega arith),
      above
          0xEE 0xEF a (omega arith),
      above 0xF0 0xF0 a (omega arith),
      in_span 0xF1 0xF3 a p q,
    )

row_f4 : (a : ℕ) → a ≡ 0xF4 → row_of a ≡ span 0xF4 0xF4 ∷ columns 4 0x80 0x8F
unfolding row_of table37
row_f4 a e = rw e refl

-- what `Fits` says of a byte that continues a sequence after y
abbrev Continues : ℕ → ℕ → Type 0
Continues y z = (0x80 ≤ z) × (z ≤ 0xBF) × (y ≡ 0xE0 → 0xA0 ≤ z) × (y ≡ 0xF0 → 0x90 ≤ z) × (y ≡ 0xED → z ≤ 0x9F) × (y ≡ 0xF4 → z ≤ 0x8F)

module _ (s : List ℕ) (at : ℕ) where
  abbrev lead : ℕ
  lead = get_or s at 0

  whole_two : 0xC2 ≤ lead → lead < 0xE0 → Continues lead (get_or s (suc at) 0) → Whole s at 2
  whole_two p q k = two s at 0x80 0xBF _ (row_two lead p (omega arith)) k.0 k.1

  whole_three : 0xE0 ≤ lead → lead < 0xF0 → Continues lead (get_or s (suc at) 0) → 0x80 ≤ get_or s (suc (suc at)) 0 → get_or s (suc (suc at)) 0 ≤ 0xBF → Whole s at 3
  whole_three p q k u v = go (leb lead 0xE0) refl (leb lead 0xEC) refl (leb lead 0xED) refl
    where
      go : (t : Bool) → leb lead 0xE0 ≡ t → (t' : Bool) → leb lead 0xEC ≡ t' → (t'' : Bool) → leb lead 0xED ≡ t'' → Whole s at 3
      go true e t' e' t'' e'' =
          let h : lead ≡ 0xE0 = omega (arith, leb-true lead 0xE0 e) in
          three s at 0xA0 0xBF _ (row_e0 lead h) (k.2 h) k.1 u v
      go false e true e' t'' e'' = three s at 0x80 0xBF _ (row_e1 lead (leb-false lead 0xE0 e) (leb-true lead 0xEC e')) k.0 k.1 u v
      go false e false e' true e'' =
          let h : lead ≡ 0xED = omega (arith, leb-false lead 0xEC e', leb-true lead 0xED e'') in
          three s at 0x80 0x9F _ (row_ed lead h) k.0 (k.4 h) u v
      go false e false e' false e'' = three s at 0x80 0xBF _ (row_ee lead (leb-false lead 0xED e'') (omega arith)) k.0 k.1 u v

  whole_four : 0xF0 ≤ lead → lead ≤ 0xF4 → Continues lead (get_or s (suc at) 0) → 0x80 ≤ get_or s (suc (suc at)) 0 → get_or s (suc (suc at)) 0 ≤ 0xBF
      → 0x80 ≤ get_or s (suc (suc (suc at))) 0 → get_or s (suc (suc (suc at))) 0 ≤ 0xBF → Whole s at 4
  whole_four p q k u v x y = go (leb lead 0xF0) refl (leb lead 0xF3) refl
    where
      go : (t : Bool) → leb lead 0xF0 ≡ t → (t' : Bool) → leb lead 0xF3 ≡ t' → Whole s at 4
      go true e t' e' =
          let h : lead ≡ 0xF0 = omega (arith, leb-true lead 0xF0 e) in
          four s at 0x90 0xBF _ (row_f0 lead h) (k.3 h) k.1 u v x y
      go false e true e' = four s at 0x80 0xBF _ (row_f1 lead (leb-false lead 0xF0 e) (leb-true lead 0xF3 e')) k.0 k.1 u v x y
      go false e false e' =
          let h : lead ≡ 0xF4 = omega (arith, leb-false lead 0xF3 e') in
          four s at 0x80 0x8F _ (row_f4 lead h) k.0 (k.5 h) u v x y

-- ── one character further
-- the character at `at` is well-formed and ends at `next`, no later than e
record Step (s : List ℕ) (at e : ℕ) : Type 0 where
  n : ℕ
  next : ℕ
  far : next ≡ at + n
  some : 1 ≤ n
  within : next ≤ e
  ends : EndsAt next s
  whole : Whole s at n

module _ (s : List ℕ) (at e : ℕ) (end : EndsAt e s) where
  -- a lead byte's sequence is open up to its last byte, so e is not inside it
  reach_two : at < e → 0xC0 ≤ get_or s at 0 → suc at < e
  reach_two h z = go (leb e (suc at)) refl
    where
      go : (t : Bool) → leb e (suc at) ≡ t → suc at < e
      go true k =
          let j : e ≡ suc at = omega (arith, leb-true e (suc at) k) in
          absurd (omega (arith, (subst (λ (m : ℕ). EndsAt m s) j end).second))
      go false k = leb-false e (suc at) k

  reach_three : suc at < e → 0xE0 ≤ get_or s at 0 → suc (suc at) < e
  reach_three h z = go (leb e (suc (suc at))) refl
    where
      go : (t : Bool) → leb e (suc (suc at)) ≡ t → suc (suc at) < e
      go true k =
          let j : e ≡ suc (suc at) = omega (arith, leb-true e (suc (suc at)) k) in
          absurd (omega (arith, (subst (λ (m : ℕ). EndsAt m s) j end).third))
      go false k = leb-false e (suc (suc at)) k

  reach_four : suc (suc at) < e → 0xF0 ≤ get_or s at 0 → suc (suc (suc at)) < e
  reach_four h z = go (leb e (suc (suc (suc at)))) refl
    where
      go : (t : Bool) → leb e (suc (suc (suc at))) ≡ t → suc (suc (suc at)) < e
      go true k =
          let j : e ≡ suc (suc (suc at)) = omega (arith, leb-true e (suc (suc (suc at))) k) in
          absurd (omega (arith, (subst (λ (m : ℕ). EndsAt m s) j end).fourth))
      go false k = leb-false e (suc (suc (suc at))) k

  step : EndsAt at s → at < e → Fitting at e s → Step s at e
  step here more fit = go (leb 0x80 (get_or s at 0)) refl (leb 0xE0 (get_or s at 0)) refl (leb 0xF0 (get_or s at 0)) refl
    where
      go : (t : Bool) → leb 0x80 (get_or s at 0) ≡ t → (t' : Bool) → leb 0xE0 (get_or s at 0) ≡ t' → (t'' : Bool) → leb 0xF0 (get_or s at 0) ≡ t'' → Step s at e
      go false k t' k' t'' k'' =
          let h : (get_or s at 0) < 128 = leb-false 0x80 (get_or s at 0) k in
          record {
            n = 1;
            next = suc at;
            far = omega arith;
            some = omega arith;
            within = more;
            ends = record { second = omega arith; third = omega (arith, here.second); fourth = omega (arith, here.third) };
            whole = record { len = sym (ascii_len s at h); ok = ascii_ok s at h };
          }
      go true k false k' t'' k'' =
          let l = (fit at (omega arith) more).lead here (leb-true 0x80 (get_or s at 0) k) in
          let h = leb-false 0xE0 (get_or s at 0) k' in
          let m₁ = reach_two more (omega (arith, l.0)) in
          let b = (fit (suc at) (omega arith) m₁).more (λ o. omega (arith, o.second, l.0)) in
          record {
            n = 2;
            next = suc (suc at);
            far = omega arith;
            some = omega arith;
            within = m₁;
            ends = record { second = omega (arith, b.1); third = h; fourth = omega (arith, here.second) };
            whole = whole_two s at l.0 h b;
          }
      go true k true k' false k'' =
          let l = (fit at (omega arith) more).lead here (leb-true 0x80 (get_or s at 0) k) in
          let h = leb-true 0xE0 (get_or s at 0) k' in
          let g = leb-false 0xF0 (get_or s at 0) k'' in
          let m₁ = reach_two more (omega (arith, l.0)) in
          let m₂ = reach_three m₁ h in
          let b = (fit (suc at) (omega arith) m₁).more (λ o. omega (arith, o.second, l.0)) in
          let c = (fit (suc (suc at)) (omega arith) m₂).more (λ o. omega (arith, o.third, h)) in
          record {
            n = 3;
            next = suc (suc (suc at));
            far = omega arith;
            some = omega arith;
            within = m₂;
            ends = record { second = omega (arith, c.1); third = omega (arith, b.1); fourth = g };
            whole = whole_three s at h g b c.0 c.1;
          }
      go true k true k' true k'' =
          let l = (fit at (omega arith) more).lead here (leb-true 0x80 (get_or s at 0) k) in
          let h = leb-true 0xE0 (get_or s at 0) k' in
          let g = leb-true 0xF0 (get_or s at 0) k'' in
          let m₁ = reach_two more (omega (arith, l.0)) in
          let m₂ = reach_three m₁ h in
          let m₃ = reach_four m₂ g in
          let b = (fit (suc at) (omega arith) m₁).more (λ o. omega (arith, o.second, l.0)) in
          let c = (fit (suc (suc at)) (omega arith) m₂).more (λ o. omega (arith, o.third, h)) in
          let d = (fit (suc (suc (suc at))) (omega arith) m₃).more (λ o. omega (arith, o.fourth, g)) in
          record {
            n = 4;
            next = suc (suc (suc (suc at)));
            far = omega arith;
            some = omega arith;
            within = m₃;
            ends = record { second = omega (arith, d.1); third = omega (arith, c.1); fourth = omega (arith, b.1) };
            whole = whole_four s at g l.1 b c.0 c.1 d.0 d.1;
          }

-- ── from one place to another, k places at most
passes : (k : ℕ) (s : List ℕ) (at e : ℕ) → e ≤ at + k → at ≤ e → e ≤ length s → EndsAt at s → EndsAt e s → Fitting at e s → all_ok (chars (drop at s)) ≡ all_ok (chars (drop e s))
passes zero s at e h p q here end fit =
    let j : at ≡ e = omega arith in
    ap (λ (m : ℕ). all_ok (chars (drop m s))) j
passes (suc k) s at e h p q here end fit = go (leb e at) refl (λ m. passes k s m e)
  where
    go : (t : Bool) → leb e at ≡ t
        → ((m : ℕ) → e ≤ m + k → m ≤ e → e ≤ length s → EndsAt m s → EndsAt e s → Fitting m e s → all_ok (chars (drop m s)) ≡ all_ok (chars (drop e s)))
        → all_ok (chars (drop at s)) ≡ all_ok (chars (drop e s))
    go true l f =
        let j : at ≡ e = omega (arith, leb-true e at l) in
        ap (λ (m : ℕ). all_ok (chars (drop m s))) j
    go false l f =
        let more : at < e = leb-false e at l in
        let x : Step s at e = step s at e end here more fit in
        ok_next s at x.n (omega arith) x.whole.len true x.whole.ok
        ∙ ap (λ (m : ℕ). all_ok (chars (drop m s))) (sym x.far)
        ∙ f x.next (omega (arith, x.far, x.some)) x.within q x.ends end (λ i u v. fit i (omega (arith, u, x.far)) v)

-- ── where the bytes before e fit
not-le : (m n : ℕ) → (n ≤ m → ⊥) → m < n
not-le m n h = go (leb n m) refl
  where
    go : (t : Bool) → leb n m ≡ t → m < n
    go true e = absurd (h (leb-true n m e))
    go false e = leb-false n m e

-- a byte that leads a sequence stands where none is open
ended_before : (w x y z : ℕ) → Fits w x y z → 0xC0 ≤ z → Ended w x y
ended_before w x y z f h = record {
  second = not-le y 0xC0 (λ k. omega (arith, (f.more (λ o. omega (arith, o.second, k))).1));
  third = not-le x 0xE0 (λ k. omega (arith, (f.more (λ o. omega (arith, o.third, k))).1));
  fourth = not-le w 0xF0 (λ k. omega (arith, (f.more (λ o. omega (arith, o.fourth, k))).1));
}

passed : (s : List ℕ) (e r : ℕ) → e ≤ length s → Fitting 0 e s → r ≤ e → (r ≡ e → EndsAt e s) → (r < e → 0xC0 ≤ get_or s r 0) → all_ok (chars (drop r s)) ≡ well_formed_of s
unfolding well_formed_of
passed s e r h fit p q l = sym (passes r s 0 r (omega arith) (omega arith) (omega arith) (record { second = omega arith; third = omega arith; fourth = omega arith })
    (ends (leb e r) refl) (λ i u v. fit i u (omega arith)))
  where
    ends : (t : Bool) → leb e r ≡ t → EndsAt r s
    ends true k =
        let j : r ≡ e = omega (arith, leb-true e r k) in
        subst (λ (m : ℕ). EndsAt m s) (sym j) (q j)
    ends false k =
        let m : r < e = leb-false e r k in
        ended_before _ _ _ _ (fit r (omega arith) m) (l m)

-- the last boundary of the three bytes before e
pub passed_back : (s : List ℕ) (e from r : ℕ) → from + 3 ≡ e → e ≤ length s → Fitting 0 e s → (r ≡ from + 3 → EndsAt (from + 3) s) × (r < from + 3 → 0xC0 ≤ get_or s r 0) → r ≤ from + 3
    → all_ok (chars (drop r s)) ≡ well_formed_of s
passed_back s e from r k h fit b p = passed s (from + 3) r (omega arith) (subst (λ (n : ℕ). Fitting 0 n s) (sym k) fit) p b.0 b.1

-- ── ASCII is well-formed
plain_ok : (k : ℕ) (s : List ℕ) (at : ℕ) → at + k ≡ length s → Plain at (length s) s → all_ok (chars (drop at s)) ≡ true
plain_ok zero s at e p = ap all_ok (chars_end s at (omega arith))
plain_ok (suc k) s at e p =
    let h : get_or s at 0 < 128 = p at (omega arith) (omega arith) in
    ok_next s at 1 (omega arith) (sym (ascii_len s at h)) true (ascii_ok s at h) ∙ plain_ok k s (at + 1) (omega arith) (λ i q r. p i (omega arith) r)

pub plain_formed : (s : List ℕ) → Plain 0 (length s) s → well_formed_of s ≡ true
unfolding well_formed_of
plain_formed s p = plain_ok (length s) s 0 (omega arith) p
