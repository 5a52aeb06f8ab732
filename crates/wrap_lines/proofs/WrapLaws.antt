-- The lines counted and the line list written, one line further.
-- The idea: what is done, and the lines from `at` on, make all lines of the data (`rest_lines` at 0 is `wrap_lines_of`).
use Prim.Native.Nat.{ℕ, ◌+◌, ◌-◌, ◌*◌, ◌/◌, ◌≤◌, ◌<◌}
use native.Mathlib.Omega.{arith}
use native.Mathlib.Numerals.{add-one, add-two}
use mathlib.Core.Bool.{Bool}
use mathlib.Core.Path.{◌≡◌, refl, sym, ap, ◌∙◌}
use mathlib.Core.List.{List, [], ◌∷◌, ◌++◌}
use Rattle.std.specs.Prelude.{Some, None}
use lib.ListN.{length, drop, set, length-append}
use borrow.Author.Tests.{lt-ltb, le-ltb}
use Rattle.buffer.specs.Place.{over, over_at}
use Rattle.buffer.proofs.Laws.{stores}
use Rattle.buffer.proofs.FillLaws.{Filled, fill_start, fill_room, fill_more, fill_end}
use Rattle.recording.specs.Refusals.{data_limit}
use Rattle.recording.specs.Outcome.{refused, done, over_limit, no_room, refusal_of, settle}
use Rattle.layout.specs.Wrap.{Line, line_of, line_width, line_numbers, wrap_lines_of}
use Rattle.line.specs.Rest.{rest_lines}
use Rattle.line.specs.Line.{following}
use Rattle.line.specs.declared.Next.{Next}
use Rattle.line.proofs.RestLaws.{rest_all}
use Rattle.wrap_lines.specs.WrapBytes.{line_size, shown_bytes, wrap_result, wrap_bytes_outcome}

-- three stores from k on
pub three_stores : (l : List ℕ) (k a b c : ℕ) → k + 3 ≤ length l → set (set (set l k a) (k + 1) b) (k + 2) c ≡ over_at k (a ∷ b ∷ c ∷ []) l
three_stores l k a b c h = rw (add-one, add-two) (stores (a ∷ b ∷ c ∷ []) l k h)

-- ── how many numbers, how many bytes
pub numbers_length : (d : List ℕ) (ls : List Line) → length (line_numbers d ls) ≡ length ls * line_size
numbers_length d [] = refl
numbers_length d (l ∷ ls) = omega (arith, numbers_length d ls)

-- ── one line of those that are left
module _ (w : ℕ) (b : Bool) (d : List ℕ) (at : ℕ) (r : Next) (e : rest_lines w b at (drop at d) ≡ line_of at r.end ∷ following w b d r) where
  on : (n : ℕ) → r.next ≡ Some n → rest_lines w b at (drop at d) ≡ line_of at r.end ∷ rest_lines w b n (drop n d)
  on n m = e ∙ rw m

  end : r.next ≡ None → rest_lines w b at (drop at d) ≡ line_of at r.end ∷ []
  end m = e ∙ rw m

  numbers_one : r.width ≡ line_width d (line_of at r.end) → line_numbers d (rest_lines w b at (drop at d)) ≡ (at ∷ r.end ∷ r.width ∷ []) ++ line_numbers d (following w b d r)
  numbers_one v = ap (line_numbers d) e ∙ ap (λ (n : ℕ). at ∷ r.end ∷ n ∷ line_numbers d (following w b d r)) (sym v)

-- ── counting
pub record Counted (w : ℕ) (b : Bool) (d : List ℕ) (count bytes at : ℕ) : Type 0 where
  pub within : at ≤ length d
  pub few : count ≤ at
  pub shown : bytes ≤ at
  -- the lines that are left give the rest
  pub lines : count + length (rest_lines w b at (drop at d)) ≡ length (wrap_lines_of w b d)
  pub total : bytes + shown_bytes (rest_lines w b at (drop at d)) ≡ shown_bytes (wrap_lines_of w b d)

pub count_start : (w : ℕ) (b : Bool) (d : List ℕ) → Counted w b d 0 0 0
count_start w b d = record { within = omega arith; few = omega arith; shown = omega arith; lines = omega (arith, ap length (rest_all w b d)); total = omega (arith, ap shown_bytes (rest_all w b d)) }

module _ (w : ℕ) (b : Bool) (d : List ℕ) (count bytes at : ℕ) (S : Counted w b d count bytes at) (r : Next) (e : rest_lines w b at (drop at d) ≡ line_of at r.end ∷ following w b d r) where
  pub count_on : (n : ℕ) → r.next ≡ Some n → at ≤ r.end → (n ≤ length d) × (at < n) × (r.end ≤ n) → Counted w b d (count + 1) (bytes + (r.end - at)) n
  count_on n m p q =
      let k = on w b d at r e n m in
      record {
        within = q.0;
        few = omega (arith, S.few, q);
        shown = omega (arith, S.shown, q);
        lines = omega (arith, S.lines, ap length k);
        total = omega (arith, S.total, ap shown_bytes k);
      }

  pub count_last : r.next ≡ None → (count + 1 ≡ length (wrap_lines_of w b d)) × (bytes + (r.end - at) ≡ shown_bytes (wrap_lines_of w b d))
  count_last m = let k = end w b d at r e m in (omega (arith, S.lines, ap length k), omega (arith, S.total, ap shown_bytes k))

-- ── writing: the numbers of the lines that are left are still to come
pub record Written (w : ℕ) (b : Bool) (d old lines : List ℕ) (k at : ℕ) : Type 0 where
  pub filled : Filled (line_numbers d (wrap_lines_of w b d)) (line_numbers d (rest_lines w b at (drop at d))) old lines 0 k
  pub within : at ≤ length d

pub start : (w : ℕ) (b : Bool) (d old : List ℕ) → Written w b d old old 0 0
start w b d old =
    record { filled = fill_start (line_numbers d (wrap_lines_of w b d)) (line_numbers d (rest_lines w b 0 (drop 0 d))) old 0 (ap (line_numbers d) (rest_all w b d)); within = omega arith }

module _ (w : ℕ) (b : Bool) (d old lines : List ℕ) (k at : ℕ) (S : Written w b d old lines k at) (r : Next) (e : rest_lines w b at (drop at d) ≡ line_of at r.end ∷ following w b d r)
    (v : r.width ≡ line_width d (line_of at r.end)) where
  abbrev all : List ℕ
  all = line_numbers d (wrap_lines_of w b d)

  abbrev rest : List ℕ
  rest = line_numbers d (rest_lines w b at (drop at d))

  abbrev one : List ℕ
  one = at ∷ r.end ∷ r.width ∷ []

  -- there is room for one more
  pub room : length all ≤ length old → k + line_size ≤ length lines
  room h =
      let n = length-append one (line_numbers d (following w b d r)) in
      omega (arith, fill_room all rest old lines 0 k S.filled (omega arith), ap length (numbers_one w b d at r e v), n)

  -- it is put
  more : (lines' : List ℕ) (k' : ℕ) → k' ≡ k + line_size → lines' ≡ over_at k one lines → length lines' ≡ length lines → Filled all (line_numbers d (following w b d r)) old lines' 0 k'
  more lines' k' p q l = fill_more all rest old lines 0 k S.filled (omega arith) one (line_numbers d (following w b d r)) lines' k' (numbers_one w b d at r e v) q l p

  pub next : (lines' : List ℕ) (k' : ℕ) → k' ≡ k + line_size → lines' ≡ over_at k one lines → length lines' ≡ length lines → (n : ℕ) → r.next ≡ Some n → n ≤ length d → Written w b d old lines' k' n
  next lines' k' p q l n m h = record { filled = rw m at (more lines' k' p q l); within = h }

  whole : (lines' : List ℕ) (k' : ℕ) → k' ≡ k + line_size → lines' ≡ over_at k one lines → length lines' ≡ length lines → r.next ≡ None → (lines' ≡ over_at 0 all old) × (k' ≡ 0 + length all)
  whole lines' k' p q l m = fill_end all (line_numbers d (following w b d r)) old lines' 0 k' (more lines' k' p q l) (rw m)

  pub last : (lines' : List ℕ) (k' : ℕ) → k' ≡ k + line_size → lines' ≡ over_at k one lines → length lines' ≡ length lines → r.next ≡ None
      → (lines' ≡ over all old) × (k' / line_size ≡ length (wrap_lines_of w b d))
  unfolding over_at
  last lines' k' p q l m =
      let f = whole lines' k' p q l m in
      (f.0, omega (arith, f.1, numbers_length d (wrap_lines_of w b d)))

-- ── the outcome: refusal 1, refusal 24, or the lines
module _ (w : ℕ) (b : Bool) (d : List ℕ) (room : ℕ) where
  pub outcome_long : data_limit < length d → wrap_bytes_outcome w b d room ≡ refused 1
  unfolding wrap_bytes_outcome settle refusal_of
  outcome_long h = simp (lt-ltb data_limit (length d) h)

  module _ (h : length d ≤ data_limit) where
    pub outcome_short : room < length (line_numbers d (wrap_lines_of w b d)) → wrap_bytes_outcome w b d room ≡ refused 24
    unfolding wrap_bytes_outcome settle refusal_of over_limit no_room
    outcome_short k = simp (le-ltb data_limit (length d) h, lt-ltb room (length (line_numbers d (wrap_lines_of w b d))) k)

    pub outcome_done : length (line_numbers d (wrap_lines_of w b d)) ≤ room → wrap_bytes_outcome w b d room ≡ done (wrap_result w b d)
    unfolding wrap_bytes_outcome settle refusal_of over_limit no_room
    outcome_done k = simp (le-ltb data_limit (length d) h, le-ltb room (length (line_numbers d (wrap_lines_of w b d))) k)
