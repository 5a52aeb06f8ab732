-- One character further in a loop over a text: what is folded over the characters from `at` on, from a character's length and width and the fold from its end on.
-- And the characters that need no table: an ASCII byte is a well-formed character of one byte, and a printable one is 1 wide.
use Prim.Native.Nat.{ℕ, ◌+◌, ◌-◌, ◌≤◌, ◌<◌}
use native.Mathlib.Omega.{arith}
use mathlib.Core.Bool.{Bool, true, false, cond, ◌&&◌}
use mathlib.Core.Path.{◌≡◌, refl, ap, ◌∙◌}
use mathlib.Core.List.{List, [], ◌∷◌, tail}
use lib.Dec.{leb, eqb, T, leb→le}
use lib.ListN.{length, drop, get_or, length-append}
use borrow.Author.Tests.{le-leb, lt-leb, eq-eqb, ne_eqb, leb-true, leb-false}
use Rattle.chars.specs.Utf8.{span, table37, row_of, tail_len, complete}
use Rattle.chars.specs.Width.{Range, ranges, width_in, char_width_of}
use Rattle.chars.specs.Chars.{Character, char_at, char_in, chars, bytes_of, wide, width_of, all_ok}
use Rattle.chars.specs.Cut.{kept_within, leading_zero_width_of}
use Rattle.chars.proofs.CharsLaws.{chars_end, char_next, char_columns}
use Rattle.chars.proofs.CutLaws.{longest}
use Rattle.chars.proofs.ReaderLaws.{in_span, above}
use Rattle.chars.proofs.Table.{and_left, and_right}

-- ── ASCII
pub ascii_row : (a : ℕ) → a < 128 → row_of a ≡ span 0x00 0x7F ∷ []
unfolding row_of table37
ascii_row a h = simp (in_span 0x00 0x7F a (omega arith) (omega arith))

module _ (s : List ℕ) (at : ℕ) (ascii : get_or s at 0 < 128) where
  pub ascii_len : length (char_in at s).text ≡ 1
  unfolding char_in char_at tail_len
  ascii_len = simp (ascii_row (get_or s at 0) ascii)

  pub ascii_ok : (char_in at s).ok ≡ true
  unfolding char_in char_at tail_len complete
  ascii_ok = simp (ascii_row (get_or s at 0) ascii)

  pub ascii_code : (char_in at s).code ≡ get_or s at 0
  unfolding char_in char_at tail_len complete
  ascii_code = simp (ascii_row (get_or s at 0) ascii)

  ascii_wide : wide (char_in at s) ≡ char_width_of (get_or s at 0)
  ascii_wide = char_columns s at ∙ ap char_width_of ascii_code

-- each range starts at m or later
abbrev all_from : ℕ → List Range → Bool
all_from m [] = true
all_from m (r ∷ rs) = leb m r.first && all_from m rs

before_all : (m code : ℕ) (rs : List Range) → T (all_from m rs) → code < m → width_in rs code ≡ 1
before_all m code [] t h = refl
before_all m code (r ∷ rs) t h =
    let low : m ≤ r.first = leb→le m r.first (and_left (leb m r.first) (all_from m rs) t) in
    simp (lt-leb r.first code (omega arith)) (before_all m code rs (and_right (leb m r.first) (all_from m rs) t) h)

-- the only range below DEL is that of the control characters
printable_width : (a : ℕ) → 32 ≤ a → a ≤ 126 → char_width_of a ≡ 1
unfolding char_width_of ranges
printable_width a p q = simp (above 0x00 0x1F a p) (before_all 127 a (tail ranges) tt (omega arith))

pub plain : (s : List ℕ) (at : ℕ) → 32 ≤ get_or s at 0 → get_or s at 0 ≤ 126 → (length (char_in at s).text ≡ 1) × (wide (char_in at s) ≡ 1)
plain s at p q = (ascii_len s at (omega arith), ascii_wide s at (omega arith) ∙ printable_width (get_or s at 0) p q)

-- a control character below 20 is one byte and has no width
control_width : (a : ℕ) → a < 32 → char_width_of a ≡ 0
unfolding char_width_of ranges
control_width a h = simp (in_span 0x00 0x1F a (omega arith) (omega arith))

pub control : (s : List ℕ) (at : ℕ) → get_or s at 0 < 32 → (length (char_in at s).text ≡ 1) × (wide (char_in at s) ≡ 0)
control s at h = (ascii_len s at (omega arith), ascii_wide s at (omega arith) ∙ control_width (get_or s at 0) h)

-- ── the character at `at`, of which n is the length and w the width
module _ (s : List ℕ) (at n w : ℕ) (more : at < length s) (e : n ≡ length (char_in at s).text) (f : w ≡ wide (char_in at s)) where
  next : chars (drop at s) ≡ char_in at s ∷ chars (drop (at + n) s)
  next = rw e (char_next s at more)

  pub width_next : width_of (chars (drop at s)) ≡ w + width_of (chars (drop (at + n) s))
  width_next = rw (next, f)

  kept_next : (m : ℕ) → kept_within m (chars (drop at s)) ≡ cond (leb w m) (char_in at s ∷ kept_within (m - w) (chars (drop (at + n) s))) []
  kept_next m = rw (next, f)

  -- it is kept, and so is what the rest of the width keeps of the characters after it
  pub kept_more : (m : ℕ) → w ≤ m
      → (length (bytes_of (kept_within m (chars (drop at s)))) ≡ n + length (bytes_of (kept_within (m - w) (chars (drop (at + n) s)))))
      × (width_of (kept_within m (chars (drop at s))) ≡ w + width_of (kept_within (m - w) (chars (drop (at + n) s))))
  kept_more m h =
      let k : kept_within m (chars (drop at s)) ≡ char_in at s ∷ kept_within (m - w) (chars (drop (at + n) s)) = kept_next m ∙ simp (le-leb w m h) in
      let rest : List ℕ = bytes_of (kept_within (m - w) (chars (drop (at + n) s))) in
      (omega (arith, ap (λ (l : List Character). length (bytes_of l)) k, length-append (char_in at s).text rest), rw (k, f))

  -- it would pass the width
  pub kept_none : (m : ℕ) → m < w → kept_within m (chars (drop at s)) ≡ []
  kept_none m h = kept_next m ∙ simp (lt-leb w m h)

  zero_next : leading_zero_width_of (chars (drop at s)) ≡ cond (eqb w 0) (char_in at s ∷ leading_zero_width_of (chars (drop (at + n) s))) []
  zero_next = rw (next, f)

  pub zero_more : w ≡ 0 → length (bytes_of (leading_zero_width_of (chars (drop at s)))) ≡ n + length (bytes_of (leading_zero_width_of (chars (drop (at + n) s))))
  zero_more h =
      let k : leading_zero_width_of (chars (drop at s)) ≡ char_in at s ∷ leading_zero_width_of (chars (drop (at + n) s)) = zero_next ∙ simp (eq-eqb w 0 h) in
      let rest : List ℕ = bytes_of (leading_zero_width_of (chars (drop (at + n) s))) in
      omega (arith, ap (λ (l : List Character). length (bytes_of l)) k, length-append (char_in at s).text rest)

  pub zero_none : (w ≡ 0 → ⊥) → leading_zero_width_of (chars (drop at s)) ≡ []
  zero_none h = zero_next ∙ simp (ne_eqb w 0 h)

-- ── well-formedness
module _ (s : List ℕ) (at n : ℕ) (more : at < length s) (e : n ≡ length (char_in at s).text) where
  pub ok_next : (t : Bool) → (char_in at s).ok ≡ t → all_ok (chars (drop at s)) ≡ (t && all_ok (chars (drop (at + n) s)))
  ok_next t h = rw (char_next s at more, e, h)

-- ── the longest ending within a width, from the front
-- where something wide is left, the text has not ended
pub some_left : (s : List ℕ) (at : ℕ) → 0 < width_of (chars (drop at s)) → at < length s
some_left s at h = go (leb (length s) at) refl
  where
    go : (t : Bool) → leb (length s) at ≡ t → at < length s
    go true e = absurd (omega (arith, ap width_of (chars_end s at (leb-true (length s) at e)), h))
    go false e = leb-false (length s) at e

-- what is left is too wide, so its first character goes
pub longest_next : (m : ℕ) (s : List ℕ) (at n : ℕ) → at < length s → n ≡ length (char_in at s).text → m < width_of (chars (drop at s))
    → longest m (chars (drop at s)) ≡ longest m (chars (drop (at + n) s))
longest_next m s at n more e h =
    let k : chars (drop at s) ≡ char_in at s ∷ chars (drop (at + n) s) = rw e (char_next s at more) in
    let j : m < wide (char_in at s) + width_of (chars (drop (at + n) s)) = rw k at h in
    rw (k, lt-leb (wide (char_in at s) + width_of (chars (drop (at + n) s))) m j)
