-- No text is wider than it is long: no character has more columns than bytes.
-- The idea: what is two columns wide takes three bytes in UTF-8.
use Prim.Native.Nat.{ℕ, suc, ◌≤◌, ◌<◌}
use native.Mathlib.Omega.{arith}
use mathlib.Core.Bool.{Bool, true, false, cond, ◌&&◌, ◌||◌, not, false≢true}
use mathlib.Core.Path.{◌≡◌, refl, sym, ap, ◌∙◌}
use mathlib.Core.List.{List, [], ◌∷◌, tail}
use lib.Dec.{leb, eqb}
use lib.ListN.{length, length-append}
use borrow.Author.Tests.{leb-true}
use Rattle.chars.specs.Utf8.{Row, span, within, table37, leads, row_in, row_of, complete, code_point}
use Rattle.chars.specs.Width.{Range, ranges, width_in, char_width_of}
use Rattle.chars.specs.Chars.{Character, chars, bytes_of, wide, width_of, text_width_of}
use Rattle.chars.proofs.CharsLaws.{Read, Valid, bytes-chars, valid-chars, width_two}
use Rattle.chars.proofs.RangeLaws.{bounds}
use Rattle.chars.proofs.JoinLaws.{and_both}

-- below 1100 nothing is two columns wide
abbrev low_narrow : List Range → Bool
low_narrow [] = true
low_narrow (r ∷ rs) = (leb r.columns 1 || leb 0x1100 r.first) && low_narrow rs

narrow_in : (rs : List Range) (c : ℕ) → low_narrow rs ≡ true → c < 0x1100 → width_in rs c ≤ 1
narrow_in [] c h b = omega arith
narrow_in (r ∷ rs) c h b =
    go (within r.first r.last c) refl (leb r.columns 1) refl (and_both (leb r.columns 1 || leb 0x1100 r.first) (low_narrow rs) h).0
    (narrow_in rs c (and_both (leb r.columns 1 || leb 0x1100 r.first) (low_narrow rs) h).1 b)
  where
    go : (t : Bool) → within r.first r.last c ≡ t → (u : Bool) → leb r.columns 1 ≡ u → (u || leb 0x1100 r.first) ≡ true → width_in rs c ≤ 1
        → cond t r.columns (width_in rs c) ≤ 1
    go false e u f g ih = ih
    go true e true f g ih = leb-true r.columns 1 f
    go true e false f g ih = absurd (omega (arith, b, leb-true 0x1100 r.first g, bounds r.first r.last c e))

narrow : (c : ℕ) → c < 0x1100 → char_width_of c ≤ 1
unfolding char_width_of ranges
narrow c h = narrow_in ranges c refl h

-- a sequence of one byte is ASCII
abbrev none_single : List Row → Bool
none_single [] = true
none_single (r ∷ rs) = not (eqb 1 (length r)) && none_single rs

no_single : (rs : List Row) (b : ℕ) → none_single rs ≡ true → eqb 1 (length (row_in rs b)) ≡ false
no_single [] b h = refl
no_single (r ∷ rs) b h =
    go (leads r b) (eqb 1 (length r)) refl (and_both (not (eqb 1 (length r))) (none_single rs) h).0 (no_single rs b (and_both (not (eqb 1 (length r))) (none_single rs) h).1)
  where
    go : (t : Bool) (u : Bool) → eqb 1 (length r) ≡ u → not u ≡ true → eqb 1 (length (row_in rs b)) ≡ false → eqb 1 (length (cond t r (row_in rs b))) ≡ false
    go false u e f ih = ih
    go true true e f ih = absurd (false≢true f)
    go true false e f ih = e

single_ascii : (b : ℕ) → eqb 1 (length (row_of b)) ≡ true → b ≤ 0x7F
unfolding row_of table37
single_ascii b h = go (within 0x00 0x7F b) refl h
  where
    go : (t : Bool) → within 0x00 0x7F b ≡ t → eqb 1 (length (cond t (span 0x00 0x7F ∷ []) (row_in (tail table37) b))) ≡ true → b ≤ 0x7F
    go true e g = (bounds 0x00 0x7F b e).1
    go false e g = absurd (false≢true (sym (no_single (tail table37) b refl) ∙ g))

-- so no character has more columns than bytes
replacement_width : char_width_of 0xFFFD ≤ 1
unfolding char_width_of ranges
replacement_width = omega arith

single_width : (b : ℕ) → char_width_of (cond (complete b []) (code_point (b ∷ [])) 0xFFFD) ≤ 1
unfolding complete
single_width b = go (eqb 1 (length (row_of b))) refl
  where
    go : (t : Bool) → eqb 1 (length (row_of b)) ≡ t → char_width_of (cond t b 0xFFFD) ≤ 1
    go true e = narrow b (omega (arith, single_ascii b e))
    go false e = replacement_width

read_width : (b : ℕ) (more : List ℕ) → char_width_of (cond (complete b more) (code_point (b ∷ more)) 0xFFFD) ≤ suc (length more)
read_width b [] = single_width b
read_width b (x ∷ more) = omega (arith, width_two (cond (complete b (x ∷ more)) (code_point (b ∷ x ∷ more)) 0xFFFD))

pub wide_text : (c : Character) (rest : List ℕ) → Read c rest → wide c ≤ length c.text
wide_text c rest R = rw (R.text, R.columns, R.code) (read_width R.first R.more)

wide_all : (cs : List Character) → Valid cs → width_of cs ≤ length (bytes_of cs)
wide_all [] v = omega arith
wide_all (c ∷ cs) v = omega (arith, wide_text c (bytes_of cs) v.0, wide_all cs v.1, length-append c.text (bytes_of cs))

pub width_short : (s : List ℕ) → text_width_of s ≤ length s
unfolding text_width_of
width_short s = omega (arith, wide_all (chars s) (valid-chars s), ap length (bytes-chars s))
