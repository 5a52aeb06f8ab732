-- The starts while they are written (`Filled` of buffer): a 0A adds one number (`starts_newline`), any other byte none (`starts_other`), nor does a block without 0A (`starts_block`).
-- And the whole index: its 0 and the starts (`whole_over`), or what is new behind a front that is there (`front_over`).
use Prim.Native.Nat.{ℕ, zero, suc, ◌+◌, ◌*◌, ◌/◌, ◌≤◌, ◌<◌}
use native.Mathlib.Omega.{arith}
use native.Mathlib.Numerals.{add-one}
use Rattle.std.proofs.Math.Nat.{mul-zero, mul-suc}
use mathlib.Core.Bool.{Bool, true, false, cond}
use mathlib.Core.Path.{◌≡◌, refl, sym, ap, ◌∙◌}
use mathlib.Core.List.{List, [], ◌∷◌, ◌++◌}
use lib.Dec.{eqb}
use lib.ListN.{length, take, drop, get_or, set, length-drop, length-set, take-append-drop, drop_of_length-le}
use lib.Seq.{drop-cons, drop-drop, length-take-le}
use borrow.Author.Tests.{eq-eqb, ne_eqb, ltb-false}
use Rattle.std.specs.List.{list_any}
use Rattle.newlines.proofs.BreakLaws.{any_break}
use Rattle.buffer.specs.Place.{over, over_at}
use Rattle.buffer.proofs.Laws.{put_over}
use Rattle.std.specs.Simd.{first_chunks}
use Rattle.newlines.specs.Newlines.{to_break}
use Rattle.line_index.specs.Starts.{starts_from, line_starts}
use Rattle.line_index.proofs.StartLaws.{starts_append}

-- ── what is still to come
-- from a place on: n bytes, and what stands behind them
starts_part : (n at : ℕ) (d : List ℕ) → n ≤ length (drop at d) → starts_from at (drop at d) ≡ starts_from at (take n (drop at d)) ++ starts_from (at + n) (drop (at + n) d)
starts_part n at d h =
    ap (λ (x : List ℕ). starts_from at x) (sym (take-append-drop n (drop at d)))
    ∙ starts_append at (take n (drop at d)) (drop n (drop at d))
    ∙ (λ i. starts_from at (take n (drop at d)) ++ starts_from (at + length-take-le n (drop at d) h i) (drop-drop n at d i))

-- nothing is left
pub starts_over : (at i : ℕ) (d : List ℕ) → length d ≤ i → starts_from at (drop i d) ≡ []
unfolding starts_from
starts_over at i d h = rw (drop_of_length-le d {i = i} h)

module _ (at i : ℕ) (d : List ℕ) (m : i < length d) where
  part_next : drop i d ≡ get_or d i 0 ∷ drop (i + 1) d
  part_next = rw (add-one, drop-cons d i 0 m)

  -- a 0A opens a line, any other byte none
  pub starts_newline : get_or d i 0 ≡ 0x0A → starts_from (at + i) (drop i d) ≡ (at + i + 1) ∷ starts_from (at + (i + 1)) (drop (i + 1) d)
  unfolding starts_from
  starts_newline z =
      let e : suc (at + i) ≡ at + i + 1 = omega arith in
      let f : suc (at + i) ≡ at + (i + 1) = omega arith in
      ap (λ (x : List ℕ). starts_from (at + i) x) part_next ∙ rw (eq-eqb _ _ z) (λ j. e j ∷ starts_from (f j) (drop (i + 1) d))

  pub starts_other : (get_or d i 0 ≡ 0x0A → ⊥) → starts_from (at + i) (drop i d) ≡ starts_from (at + (i + 1)) (drop (i + 1) d)
  unfolding starts_from
  starts_other z =
      let f : suc (at + i) ≡ at + (i + 1) = omega arith in
      ap (λ (x : List ℕ). starts_from (at + i) x) part_next ∙ rw (ne_eqb _ _ z) (λ j. starts_from (f j) (drop (i + 1) d))

-- bytes before the next 0A are passed
starts_past : (n at : ℕ) (d : List ℕ) → n ≤ to_break d → starts_from at d ≡ starts_from (at + n) (drop n d)
unfolding starts_from to_break
starts_past zero at d h = ap (λ (k : ℕ). starts_from k d) (omega arith)
starts_past (suc n) at [] h = refl
starts_past (suc n) at (b ∷ d) h = go (eqb b 0x0A) h (λ g. starts_past n (suc at) d g)
  where
    go : (t : Bool) → suc n ≤ cond t 0 (suc (to_break d)) → (n ≤ to_break d → starts_from (suc at) d ≡ starts_from (suc at + n) (drop n d))
        → cond t (suc at ∷ starts_from (suc at) d) (starts_from (suc at) d) ≡ starts_from (at + suc n) (drop n d)
    go true g f = absurd (omega arith)
    go false g f = f (omega arith) ∙ ap (λ (k : ℕ). starts_from k (drop n d)) (omega arith)

starts_block : (n at : ℕ) (d : List ℕ) → n ≤ to_break (drop at d) → starts_from at (drop at d) ≡ starts_from (at + n) (drop (at + n) d)
starts_block n at d h = starts_past n at (drop at d) h ∙ ap (λ (x : List ℕ). starts_from (at + n) x) (drop-drop n at d)

-- ── the data block by block, from `from` on: block j of n bytes, of k
chunk_is : (n k j : ℕ) (d : List ℕ) → j < k → get_or (first_chunks n k d) j [] ≡ take n (drop (n * j) d)
chunk_is n zero j d h = absurd (omega arith)
chunk_is n (suc k) zero d h = ap (λ (m : ℕ). take n (drop m d)) (sym (mul-zero n))
chunk_is n (suc k) (suc j) d h =
    let e : n + n * j ≡ n * suc j = omega (arith, mul-suc n j) in
    chunk_is n k j (drop n d) (omega arith) ∙ ap (λ (l : List ℕ). take n l) (drop-drop (n * j) n d ∙ ap (λ (m : ℕ). drop m d) e)

-- and where what stands in s from `from` on is cut into blocks of 16, with `rest` behind them
module _ (from : ℕ) (s x : List ℕ) (w : x ≡ drop from s) (bs : List (List ℕ)) (rest : List ℕ) (e : bs ≡ first_chunks 16 (length x / 16) x) (long : length bs ≡ length x / 16)
    (f : rest ≡ drop (length x / 16 * 16) x) where
  pub block_is : (j : ℕ) → j < length bs → (at : ℕ) → at ≡ from + 16 * j → get_or bs j [] ≡ take 16 (drop at s)
  block_is j h at q =
      ap (λ (l : List (List ℕ)). get_or l j []) e ∙ chunk_is 16 (length x / 16) j x (omega (arith, long))
      ∙ ap (λ (l : List ℕ). take 16 l) (ap (λ (l : List ℕ). drop (16 * j) l) w ∙ drop-drop (16 * j) from s ∙ ap (λ (n : ℕ). drop n s) (sym q))

  pub block_whole : (j : ℕ) → j < length bs → (at : ℕ) → at ≡ from + 16 * j → 16 ≤ length (drop at s)
  block_whole j h at q = omega (arith, long, ap length w, length-drop from s, length-drop at s, q)

  pub rest_is : (at : ℕ) → at ≡ from + 16 * length bs → rest ≡ drop at s
  rest_is at q =
      let m : from + length x / 16 * 16 ≡ at = omega (arith, long, q) in
      f ∙ ap (λ (l : List ℕ). drop (length x / 16 * 16) l) w ∙ drop-drop (length x / 16 * 16) from s ∙ ap (λ (n : ℕ). drop n s) m

  pub rest_bound : (at : ℕ) → at ≡ from + 16 * length bs → from ≤ length s → at ≤ length s
  rest_bound at q h = omega (arith, long, ap length w, length-drop from s, q, h)

-- such a block b, which stands at `at`: the starts behind its 0A come before those behind it, and there are none where it has no 0A
module _ (at : ℕ) (s b : List ℕ) (is : b ≡ take 16 (drop at s)) (whole : 16 ≤ length (drop at s)) where
  pub block_bound : at + length b ≤ length s
  block_bound = omega (arith, ap length is, length-take-le 16 (drop at s) whole, length-drop at s, whole)

  pub block_starts : starts_from at (drop at s) ≡ starts_from at b ++ starts_from (at + 16) (drop (at + 16) s)
  block_starts = starts_part 16 at s whole ∙ ap (λ (x : List ℕ). starts_from at x ++ starts_from (at + 16) (drop (at + 16) s)) (sym is)

  pub block_none : list_any (λ (x : ℕ). eqb x 0x0A) b ≡ false → starts_from at (drop at s) ≡ starts_from (at + 16) (drop (at + 16) s)
  block_none h = starts_block 16 at s (ltb-false (to_break (drop at s)) 16 (sym (any_break 16 (drop at s) whole) ∙ ap (λ (x : List ℕ). list_any (λ (y : ℕ). eqb y 0x0A) x) (sym is) ∙ h))

-- ── the whole index: its 0, then the starts
module _ (d ix : List ℕ) (h : length (line_starts d) ≤ length ix) where
  pub first_room : 0 < length ix
  unfolding line_starts
  first_room = omega (arith, h)

  pub rest_room : 1 + length (starts_from 0 (drop 0 d)) ≤ length (set ix 0 0)
  unfolding line_starts
  rest_room = omega (arith, h, length-set ix 0 0)

  pub whole_over : over_at 1 (starts_from 0 (drop 0 d)) (set ix 0 0) ≡ over (line_starts d) ix
  unfolding line_starts over over_at
  whole_over = go ix first_room
    where
      go : (l : List ℕ) → 0 < length l → take 1 (set l 0 0) ++ (starts_from 0 d ++ drop (length (starts_from 0 d)) (drop 1 (set l 0 0))) ≡ (0 ∷ starts_from 0 d) ++ drop (suc (length (starts_from 0 d))) l
      go [] g = absurd (omega arith)
      go (x ∷ l) g = refl

pub whole_count : (d : List ℕ) → 1 + length (starts_from 0 (drop 0 d)) ≡ length (line_starts d)
unfolding line_starts
whole_count d = omega arith

-- after a front that is there already
pub front_over : (front new old : List ℕ) → take (length front) old ≡ front → over_at (length front) new old ≡ over (front ++ new) old
unfolding over
front_over front new old h =
    let e : old ≡ over front old = sym (take-append-drop (length front) old) ∙ ap (λ (x : List ℕ). x ++ drop (length front) old) h in
    ap (λ (x : List ℕ). over_at (length front) new x) e ∙ put_over front new old
