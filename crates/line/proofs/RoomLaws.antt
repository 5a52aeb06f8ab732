-- The room that a head has on its line, and why no head follows one that was cut off its word.
-- The idea: such a head and the character after it are wider than the width to break at, so the next head is wider than what is left of the line.
use Prim.Native.Nat.{ℕ, ◌+◌, ◌-◌, ◌≤◌, ◌<◌}
use native.Mathlib.Omega.{arith}
use mathlib.Core.Bool.{Bool, true, false, cond, ◌&&◌, not, false≢true}
use mathlib.Core.Logic.{◌≢◌}
use mathlib.Core.Path.{◌≡◌, refl, sym, ap, ◌∙◌}
use mathlib.Core.List.{List, [], ◌∷◌, ◌++◌}
use lib.Dec.{leb, ltb, eqb}
use lib.ListN.{length, drop, length-append}
use lib.Seq.{drop-append_seam}
use borrow.Author.Tests.{leb-true, leb-false, ne_eqb}
use Rattle.chars.specs.Chars.{Character, chars, bytes_of, wide, width_of}
use Rattle.chars.specs.Cut.{kept_within, leading_zero_width_of}
use Rattle.chars.proofs.CharsLaws.{bytes-chars, bytes-append, Valid, valid-chars, valid_clean, valid_suffix}
use Rattle.chars.proofs.CutLaws.{kept_rest}
use Rattle.layout.proofs.WordingLaws.{after_zero}
use Rattle.line.specs.Rest.{word_text, space_len, one_char_of, head_of, unreached, limit_of_line, first_head_of, head_len, head_width}
use Rattle.line.specs.Line.{room_of_state, in_line_text, goes_on_in}
use Rattle.line.proofs.HeadLaws.{after_head, head_split}
use Rattle.line.proofs.WordCharLaws.{word_drop}

-- ── the room
pub room_first : (first : Bool) (run w limit : ℕ) → first ≡ true → limit ≡ room_of_state first run w limit
unfolding room_of_state
room_first first run w limit e = rw e

pub room_left : (first : Bool) (run w limit left : ℕ) → first ≡ false → left ≡ w - run → left ≡ room_of_state first run w limit
unfolding room_of_state
room_left first run w limit left e f = rw e f

pub limit_ge : (w : ℕ) (b : Bool) → w ≤ unreached → w ≤ limit_of_line w b
unfolding limit_of_line
limit_ge w b h = go (b && ltb 0 w)
  where
    go : (t : Bool) → w ≤ cond t w unreached
    go true = omega arith
    go false = h

pub room_le : (first : Bool) (run w limit : ℕ) → w ≤ limit → room_of_state first run w limit ≤ limit
unfolding room_of_state
room_le true run w limit h = omega arith
room_le false run w limit h = omega (arith, h)

-- ── whether the line goes on
pub goes_not : (gap : ℕ) (d : List ℕ) → gap ≡ 0 → false ≡ goes_on_in gap d
unfolding goes_on_in
goes_not gap d e = rw e

pub goes_line : (gap : ℕ) (d : List ℕ) (r : Bool) → gap ≢ 0 → r ≡ in_line_text d → r ≡ goes_on_in gap d
unfolding goes_on_in
goes_line gap d r e f = rw (ne_eqb gap 0 e) f

-- ── a head and the character after it
abbrev first_wide : List Character → ℕ
first_wide [] = 0
first_wide (c ∷ cs) = wide c

kept_past : (m : ℕ) (cs : List Character) → 0 < length (kept_rest m cs) → m < width_of (kept_within m cs) + first_wide (kept_rest m cs)
kept_past m [] h = absurd (omega arith)
kept_past m (c ∷ cs) h = go (leb (wide c) m) refl h (λ k. kept_past (m - wide c) cs k)
  where
    go : (t : Bool) → leb (wide c) m ≡ t → 0 < length (cond t (kept_rest (m - wide c) cs) (c ∷ cs))
        → (0 < length (kept_rest (m - wide c) cs) → m - wide c < width_of (kept_within (m - wide c) cs) + first_wide (kept_rest (m - wide c) cs))
        → m < width_of (cond t (c ∷ kept_within (m - wide c) cs) []) + first_wide (cond t (kept_rest (m - wide c) cs) (c ∷ cs))
    go true e k f = omega (arith, f k, leb-true (wide c) m e)
    go false e k f = omega (arith, leb-false (wide c) m e)

head_past : (m : ℕ) (cs : List Character) → 0 < length (after_head m cs) → m < width_of (head_of m cs) + first_wide (after_head m cs)
unfolding head_of one_char_of
head_past m [] h = absurd (omega arith)
head_past m (c ∷ cs) h = go (leb (wide c) m) refl h (kept_past m (c ∷ cs))
  where
    go : (t : Bool) → leb (wide c) m ≡ t → 0 < length (cond t (kept_rest m (c ∷ cs)) (after_zero cs))
        → (0 < length (kept_rest m (c ∷ cs)) → m < width_of (kept_within m (c ∷ cs)) + first_wide (kept_rest m (c ∷ cs)))
        → m < width_of (cond t (kept_within m (c ∷ cs)) (c ∷ leading_zero_width_of cs)) + first_wide (cond t (kept_rest m (c ∷ cs)) (after_zero cs))
    go true e k f = f k
    go false e k f = omega (arith, leb-false (wide c) m e)

head_first : (m : ℕ) (cs : List Character) → first_wide cs ≤ width_of (head_of m cs)
unfolding head_of one_char_of
head_first m [] = omega arith
head_first m (c ∷ cs) = go (leb (wide c) m) refl
  where
    go : (t : Bool) → leb (wide c) m ≡ t → wide c ≤ width_of (cond t (cond t (c ∷ kept_within (m - wide c) cs) []) (c ∷ leading_zero_width_of cs))
    go true e = omega arith
    go false e = omega arith

-- what is left after the first head has the rest of the word's characters
chars_after : (m : ℕ) (d : List ℕ) → chars (word_text (drop (head_len m d) d)) ≡ after_head m (chars (word_text d))
unfolding head_len first_head_of
chars_after m d =
    let t : List ℕ = word_text d in
    let h : List Character = head_of m (chars t) in
    let r : List Character = after_head m (chars t) in
    let all : h ++ r ≡ chars t = head_split m (chars t) in
    let whole : bytes_of h ++ bytes_of r ≡ t = sym (bytes-append h r) ∙ ap bytes_of all ∙ bytes-chars t in
    let v : Valid r = valid_suffix h r (rw all (valid-chars t)) in
    let n : length (bytes_of h) ≤ length t = omega (arith, ap length whole, length-append (bytes_of h) (bytes_of r)) in
    let e : drop (length (bytes_of h)) t ≡ bytes_of r = ap (drop (length (bytes_of h))) (sym whole) ∙ drop-append_seam (bytes_of h) (bytes_of r) in
    ap chars (sym (word_drop (length (bytes_of h)) d n) ∙ e) ∙ valid_clean r v

-- ── the next head is too wide
word_some : (d : List ℕ) → in_line_text d ≡ true → space_len d ≡ 0 → 0 < length (word_text d)
unfolding in_line_text space_len word_text
word_some [] i s = absurd (false≢true i)
word_some (x ∷ d) i s = go (eqb x 0x20) refl (eqb x 0x0A) refl i s
  where
    go : (p : Bool) → eqb x 0x20 ≡ p → (q : Bool) → eqb x 0x0A ≡ q → not q ≡ true → cond p (1 + space_len d) 0 ≡ 0 → 0 < length (word_text (x ∷ d))
    go true e q f i s = absurd (omega (arith, s))
    go false e true f i s = absurd (false≢true i)
    go false e false f i s = rw (e, f) (omega arith)

chars_some : (u : List ℕ) → 0 < length u → 0 < length (chars u)
chars_some u h = go (chars u) (bytes-chars u)
  where
    go : (cs : List Character) → bytes_of cs ≡ u → 0 < length cs
    go [] e = absurd (omega (arith, h, ap length e))
    go (c ∷ cs) e = omega arith

pub cut_full : (m n width : ℕ) (d : List ℕ) → n ≡ head_len m d → width ≡ head_width m d → space_len (drop n d) ≡ 0 → in_line_text (drop n d) ≡ true → m < width + head_width m (drop n d)
unfolding head_width first_head_of
cut_full m n width d en ew s i =
    let r : List Character = after_head m (chars (word_text d)) in
    let e : chars (word_text (drop n d)) ≡ r = ap (λ (x : ℕ). chars (word_text (drop x d))) en ∙ chars_after m d in
    let some : 0 < length r = rw e at (chars_some (word_text (drop n d)) (word_some (drop n d) i s)) in
    let next : first_wide r ≤ width_of (head_of m (chars (word_text (drop n d)))) = rw e (head_first m r) in
    omega (arith, ew, head_past m (chars (word_text d)) some, next)
