-- How many lines there can be, and how long the lines joined by 0A can be.
-- The idea: a head with its whitespace takes at least one byte of what is left; a word that is not broken has whitespace or a 0A after it, in whose place the added 0A stands.
use Prim.Native.Nat.{ℕ, zero, suc, ◌+◌, ◌-◌, ◌*◌, ◌≤◌, ◌<◌}
use native.Mathlib.Omega.{arith}
use mathlib.Core.Bool.{Bool, true, false, cond, ◌&&◌, ◌||◌, false≢true}
use mathlib.Core.Path.{◌≡◌, refl, sym, ap, subst, ◌∙◌}
use mathlib.Core.List.{List, [], ◌∷◌}
use lib.Dec.{leb, ltb, eqb}
use lib.ListN.{length, drop, length-drop}
use borrow.Author.Tests.{le-leb, eqb-true}
use Rattle.chars.specs.Chars.{Character, chars, bytes_of, wide, width_of}
use Rattle.chars.proofs.CharsLaws.{bytes-chars, valid-chars, width_bound}
use Rattle.chars.proofs.CutLaws.{kept_whole}
use Rattle.recording.specs.Refusals.{data_limit}
use Rattle.layout.specs.Wrap.{Line, wrap_lines_of}
use Rattle.layout.proofs.WordLaws.{wrap_ordered}
use Rattle.line.specs.Rest.{word_text, space_len, head_of, unreached, limit_of_line, going, first_head_of, head_len, head_width}
use Rattle.line.specs.Line.{in_line_text}
use Rattle.line.proofs.HeadLaws.{text_le}
use Rattle.line.proofs.LineLaws.{in_line_lem}
use Rattle.line.proofs.RestLaws.{rest_all, rest_start, going_last, going_line, going_step, going_new, gap_in, step_some, word_le}
use Rattle.wrap_lines.specs.WrapBytes.{shown_bytes}

-- ── a word that is not broken
head_all : (m : ℕ) (cs : List Character) → width_of cs ≤ m → head_of m cs ≡ cs
unfolding head_of
head_all m [] h = refl
head_all m (c ∷ cs) h = rw (le-leb (wide c) m (omega arith)) (ap (λ (l : List Character). c ∷ l) (kept_whole (m - wide c) cs (omega arith)))

head_word : (m : ℕ) (d : List ℕ) → 2 * length d ≤ m → head_len m d ≡ length (word_text d)
unfolding head_len first_head_of
head_word m d h =
    ap (λ (cs : List Character). length (bytes_of cs)) (head_all m (chars (word_text d))
    (omega (arith, word_le d, width_bound (chars (word_text d)) (valid-chars (word_text d)), ap length (bytes-chars (word_text d)))))
    ∙ ap length (bytes-chars (word_text d))

-- after a word, where the line goes on, there is whitespace
word_over : (d : List ℕ) → in_line_text (drop (length (word_text d)) d) ≡ true → 1 ≤ space_len (drop (length (word_text d)) d)
unfolding in_line_text word_text space_len
word_over [] i = absurd (false≢true i)
word_over (x ∷ d) i = go (eqb x 0x20) refl (eqb x 0x0A) refl i (word_over d)
  where
    go : (s : Bool) → eqb x 0x20 ≡ s → (t : Bool) → eqb x 0x0A ≡ t → in_line_text (drop (length (cond (s || t) [] (x ∷ word_text d))) (x ∷ d)) ≡ true
        → (in_line_text (drop (length (word_text d)) d) ≡ true → 1 ≤ space_len (drop (length (word_text d)) d)) → 1 ≤ space_len (drop (length (cond (s || t) [] (x ∷ word_text d))) (x ∷ d))
    go true e t f j h = rw e (omega arith)
    go false e true f j h = absurd (false≢true (rw f at j))
    go false e false f j h = h j

gap_after_lem : (w : ℕ) (b : Bool) (d : List ℕ) → (b && ltb 0 w) ≡ false → 2 * length d ≤ unreached → (n k : ℕ) → n ≡ head_len (limit_of_line w b) d → k ≡ space_len (drop n d) → in_line_text (drop (n + k) d)
    ≡ true → 1 ≤ k
unfolding limit_of_line
gap_after_lem w b d u s n zero en ek i =
    let l : n ≡ length (word_text d) = rw u at en ∙ head_word unreached d s in
    let z : n + 0 ≡ n = omega arith in
    omega (arith, ek, ap (λ (x : ℕ). space_len (drop x d)) l, word_over d (sym (ap (λ (x : ℕ). in_line_text (drop x d)) (z ∙ l)) ∙ i))
gap_after_lem w b d u s n (suc k) en ek i = omega arith

-- ── the lines of a walk that has `d` left
record Bound (w : ℕ) (b first : Bool) (at end here : ℕ) (d : List ℕ) (ls : List Line) : Type 0 where
  few : length ls ≤ length d + 1
  shown : at ≤ end → end ≤ here → shown_bytes ls ≤ (here - at) + length d
  short : (b && ltb 0 w) ≡ false → at ≤ end → end ≤ here → (first ≡ false → in_line_text d ≡ true → end < here) → shown_bytes ls + length ls ≤ (here - at) + length d + 1

in_word : (x : ℕ) (d : List ℕ) → eqb x 0x0A ≡ false → in_line_text (x ∷ d) ≡ true
unfolding in_line_text
in_word x d e = rw e

-- a line of the data ends here
bound_line : (w : ℕ) (b first : Bool) (at end here run x : ℕ) (d : List ℕ) → x ≡ 0x0A → ((at : ℕ) → Bound w b true at at at d (going w b true at at at 0 d))
    → Bound w b first at end here (x ∷ d) (going w b first at end here run (x ∷ d))
bound_line w b first at end here run x d e B =
    rw (going_line w b first at end here run x d e, rest_start w b (here + 1) d)
    (record {
      few = omega (arith, (B (here + 1)).few);
      shown = λ p q. omega (arith, (B (here + 1)).shown (omega arith) (omega arith));
      short = λ u p q g. omega (arith, (B (here + 1)).short u (omega arith) (omega arith) (λ f. absurd (false≢true (sym f))));
    })

-- a head is next, of n bytes and k bytes 20
module _ (w : ℕ) (b : Bool) (d : List ℕ) (s : 2 * length d ≤ unreached) (i : in_line_text d ≡ true) where
  abbrev n : ℕ
  n = head_len (limit_of_line w b) d

  abbrev k : ℕ
  k = space_len (drop n d)

  abbrev wider : ℕ
  wider = head_width (limit_of_line w b) d

  some : 1 ≤ n + k
  some = step_some (limit_of_line w b) d (in_line_lem d i)

  inside : n + k ≤ length d
  inside = omega (arith, gap_in (limit_of_line w b) d, text_le d)

  module _ (B : (at here run : ℕ) → Bound w b false at (here + n) (here + n + k) (drop (n + k) d) (going w b false at (here + n) (here + n + k) run (drop (n + k) d))) where
    -- it goes on the line
    bound_join : (first : Bool) (at end here run : ℕ) → (first || leb (run + wider) w) ≡ true → Bound w b first at end here d (going w b first at end here run d)
    bound_join first at end here run f =
        let A = B at here (run + wider + k) in
        rw (going_step w b at end here run d n wider k s (in_line_lem d i) refl refl refl first f)
        (record {
          few = omega (arith, A.few, some, inside, length-drop (n + k) d);
          shown = λ p q. omega (arith, A.shown (omega arith) (omega arith), inside, length-drop (n + k) d);
          short = λ u p q g. omega (arith, A.short u (omega arith) (omega arith) (λ z j. omega (arith, gap_after_lem w b d u s n k refl refl j)), inside, length-drop (n + k) d);
        })

    -- it starts a line
    bound_new : (at end here run : ℕ) → leb (run + wider) w ≡ false → Bound w b false at end here d (going w b false at end here run d)
    bound_new at end here run f =
        let A = B here here (0 + wider + k) in
        rw (going_new w b at end here run d n wider k s (in_line_lem d i) refl refl refl f, rest_start w b here d, going_step w b here here here 0 d n wider k s (in_line_lem d i) refl refl refl true refl)
        (record {
          few = omega (arith, A.few, some, inside, length-drop (n + k) d);
          shown = λ p q. omega (arith, A.shown (omega arith) (omega arith), inside, length-drop (n + k) d);
          short = λ u p q g. omega (arith, A.short u (omega arith) (omega arith) (λ z j. omega (arith, gap_after_lem w b d u s n k refl refl j)), g refl i, inside, length-drop (n + k) d);
        })

    bound_head : (first : Bool) (at end here run : ℕ) → Bound w b first at end here d (going w b first at end here run d)
    bound_head true at end here run = bound_join true at end here run refl
    bound_head false at end here run = go (leb (run + wider) w) refl
      where
        go : (t : Bool) → leb (run + wider) w ≡ t → Bound w b false at end here d (going w b false at end here run d)
        go true f = bound_join false at end here run f
        go false f = bound_new at end here run f

abbrev BoundTo : ℕ → Bool → ℕ → Type 0
BoundTo w b m = (d : List ℕ) → length d ≤ m → 2 * length d ≤ unreached → (first : Bool) (at end here run : ℕ) → Bound w b first at end here d (going w b first at end here run d)

bound_one : (w : ℕ) (b : Bool) (m : ℕ) → ((m' : ℕ) → m ≡ suc m' → BoundTo w b m') → BoundTo w b m
bound_one w b m B [] h s first at end here run = rw (going_last w b first at end here run) (record { few = omega arith; shown = λ p q. omega arith; short = λ u p q g. omega arith })
bound_one w b m B (x ∷ d) h s first at end here run = go (eqb x 0x0A) refl
  where
    A : BoundTo w b (m - 1)
    A = B (m - 1) (omega (arith, h))

    go : (t : Bool) → eqb x 0x0A ≡ t → Bound w b first at end here (x ∷ d) (going w b first at end here run (x ∷ d))
    go true e = bound_line w b first at end here run x d (eqb-true x 0x0A e) (λ a. A d (omega (arith, h)) (omega (arith, s)) true a a a 0)
    go false e =
        let i : in_line_text (x ∷ d) ≡ true = in_word x d e in
        let j : ℕ = n w b (x ∷ d) s i + k w b (x ∷ d) s i in
        let l : length (drop j (x ∷ d)) ≡ suc (length d) - j = length-drop j (x ∷ d) in
        bound_head w b (x ∷ d) s i
        (λ a o r. A (drop j (x ∷ d)) (omega (arith, l, h, some w b (x ∷ d) s i)) (omega (arith, l, s)) false a (o + n w b (x ∷ d) s i) (o + n w b (x ∷ d) s i + k w b (x ∷ d) s i) r)
        first at end here run

bound : (w : ℕ) (b : Bool) (m : ℕ) → BoundTo w b m
bound w b zero = bound_one w b zero (λ m e. absurd (omega (arith, e)))
bound w b (suc m) = bound_one w b (suc m) (λ m' e. subst (BoundTo w b) (omega (arith, e)) (bound w b m))

-- ── all lines
module _ (w : ℕ) (b : Bool) (d : List ℕ) (h : length d ≤ data_limit) where
  whole : Bound w b true 0 0 0 d (wrap_lines_of w b d)
  whole = rw (← rest_all w b d, rest_start w b 0 d) (bound w b (length d) d (omega arith) (omega (arith, h)) true 0 0 0 0)

  -- at most one line a byte and one more
  pub lines_few : length (wrap_lines_of w b d) ≤ length d + 1
  lines_few = whole.few

  pub shown_few : shown_bytes (wrap_lines_of w b d) ≤ length d
  shown_few = omega (arith, whole.shown (omega arith) (omega arith))

  -- without breaking, the lines joined by 0A are at most as long as the data
  pub joined_short : (b && ltb 0 w) ≡ false → shown_bytes (wrap_lines_of w b d) + (length (wrap_lines_of w b d) - 1) ≤ length d
  joined_short u = omega (arith, (wrap_ordered w b d).1, whole.short u (omega arith) (omega arith) (λ f. absurd (false≢true (sym f))))
