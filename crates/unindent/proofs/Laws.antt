-- The lines as the code goes through them, from one that is not empty to the next (`to_next`): what of the edit comes up to there (`plan_pass`, `plan_last`), the prefix (`plan_off`),
-- and which of the lines are refused (`begin_pass`, `begin_last`). A prefix without 0A is held against the data, and not against the line (`begins_line`).
use mathlib.Core.Path.{◌≡◌, refl, sym, ap, ◌∙◌}
use mathlib.Core.Bool.{Bool, true, false, cond, ◌&&◌, not, false≢true, ◌||◌, or-false, or_assoc}
use mathlib.Core.List.{List, [], ◌∷◌, ◌++◌}
use Prim.Native.Nat.{ℕ, zero, suc, ◌+◌, ◌≤◌, ◌<◌}
use native.Mathlib.Omega.{arith}
use lib.Dec.{eqb}
use lib.ListN.{length, take, drop, length-drop, get_or}
use native.Mathlib.Numerals.{add-one}
use Rattle.std.specs.Cmp.Lexicographic.{pointwise}
use lib.Seq.{drop-drop}
use borrow.Author.Tests.{eqb-true}
use Rattle.recording.specs.Recording.{Bytes, Item}
use Rattle.recording.specs.Edit.{Op, keep, skip, front, back, entries_only, edit}
use Rattle.recording.proofs.EditLaws.{front_with_back, kept_more, skipped_more, skip_none}
use Rattle.recording.proofs.Lists.{and_left, and_right, or_left, or_right}
use Rattle.layout.specs.Wrap.{onto_first, split_lines}
use Rattle.layout.specs.Unindent.{has_newline_in, begins_with, all_begin}
use Rattle.layout.proofs.LineLaws.{some_lines, lines_at, later_lines_lem}
use Rattle.layout.proofs.UnindentLaws.{byte_ops, begins_long}
use Rattle.newlines.specs.Newlines.{to_break}
use Rattle.indent.specs.Lines.{to_next}
use Rattle.indent.proofs.Laws.{next_past}

-- how many bytes of the next byte's line are still to go; `start`: it is the first of its line
abbrev pub due : ℕ → Bool → ℕ
due n start = cond start n 0

-- ── the plan
-- a byte that no prefix begins at stays
plan_step : (n : ℕ) (start : Bool) (b : ℕ) (d : Bytes) → (start && not (eqb b 0x0A)) ≡ false → byte_ops n (due n start) (b ∷ d) ≡ keep 1 ∷ byte_ops n (due n (eqb b 0x0A)) d
plan_step n false b d h = refl
plan_step n true b d h = go n (eqb b 0x0A) refl h
  where
    go : (k : ℕ) (t : Bool) → eqb b 0x0A ≡ t → not t ≡ false → byte_ops n k (b ∷ d) ≡ keep 1 ∷ byte_ops n (due n t) d
    go k false e g = absurd (false≢true (sym g))
    go zero true e g = rw e
    go (suc k) true e g = rw e

-- before the next byte nothing is kept
none_kept : (n k : ℕ) (d : Bytes) (is : List Item) → edit (keep 0 ∷ byte_ops n k d) is ≡ edit (byte_ops n k d) is
none_kept n k [] is = front_with_back 0 is
none_kept n zero (b ∷ d) is = kept_more 0 1 (byte_ops n (cond (eqb b 0x0A) n 0) d) is
none_kept n (suc k) (b ∷ d) is = go (eqb b 0x0A)
  where
    go : (t : Bool) → edit (keep 0 ∷ cond t (keep 1 ∷ byte_ops n n d) (skip 1 ∷ byte_ops n k d)) is ≡ edit (cond t (keep 1 ∷ byte_ops n n d) (skip 1 ∷ byte_ops n k d)) is
    go true = kept_more 0 1 (byte_ops n n d) is
    go false = sym (skip_none (skip 1 ∷ byte_ops n k d) is) ∙ skipped_more 0 1 (byte_ops n k d) is

-- up to the next line that is not empty all bytes stay
pub plan_pass : (n : ℕ) (start : Bool) (d : Bytes) (is : List Item) → to_next start d < length d
    → edit (byte_ops n (due n start) d) is ≡ edit (keep (to_next start d) ∷ byte_ops n n (drop (to_next start d) d)) is
unfolding to_next
plan_pass n start [] is h = absurd (omega arith)
plan_pass n start (b ∷ d) is h = go (start && not (eqb b 0x0A)) refl h (λ g. plan_pass n (eqb b 0x0A) d (back 1 is) g)
  where
    m : ℕ
    m = to_next (eqb b 0x0A) d

    first : (s : Bool) → (s && not (eqb b 0x0A)) ≡ true → due n s ≡ n
    first true e = refl
    first false e = absurd (false≢true e)

    go : (t : Bool) → (start && not (eqb b 0x0A)) ≡ t → cond t 0 (suc m) < suc (length d)
        → (m < length d → edit (byte_ops n (due n (eqb b 0x0A)) d) (back 1 is) ≡ edit (keep m ∷ byte_ops n n (drop m d)) (back 1 is))
        → edit (byte_ops n (due n start) (b ∷ d)) is ≡ edit (keep (cond t 0 (suc m)) ∷ byte_ops n n (drop (cond t 0 (suc m)) (b ∷ d))) is
    go true e g f = ap (λ (k : ℕ). edit (byte_ops n k (b ∷ d)) is) (first start e) ∙ sym (none_kept n n (b ∷ d) is)
    go false e g f =
        let z : 1 + m ≡ suc m = omega arith in
        ap (λ (ops : List Op). edit ops is) (plan_step n start b d e) ∙ ap (λ (l : List Item). front 1 is ++ l) (f (omega arith)) ∙ kept_more 1 m (byte_ops n n (drop m d)) is
        ∙ ap (λ (k : ℕ). edit (keep k ∷ byte_ops n n (drop m d)) is) z

-- after the last such line all of them
pub plan_last : (n : ℕ) (start : Bool) (d : Bytes) (is : List Item) → length d ≤ to_next start d → edit (byte_ops n (due n start) d) is ≡ is
unfolding to_next
plan_last n start [] is h = refl
plan_last n start (b ∷ d) is h = go (start && not (eqb b 0x0A)) refl h (λ g. plan_last n (eqb b 0x0A) d (back 1 is) g)
  where
    m : ℕ
    m = to_next (eqb b 0x0A) d

    go : (t : Bool) → (start && not (eqb b 0x0A)) ≡ t → suc (length d) ≤ cond t 0 (suc m) → (length d ≤ m → edit (byte_ops n (due n (eqb b 0x0A)) d) (back 1 is) ≡ back 1 is)
        → edit (byte_ops n (due n start) (b ∷ d)) is ≡ is
    go true e g f = absurd (omega arith)
    go false e g f = ap (λ (ops : List Op). edit ops is) (plan_step n start b d e) ∙ ap (λ (l : List Item). front 1 is ++ l) (f (omega arith)) ∙ front_with_back 1 is

-- the bytes that are due go, where no 0A is among them
pub plan_off : (n k : ℕ) (d : Bytes) (is : List Item) → k ≤ to_break d → edit (byte_ops n k d) is ≡ edit (skip k ∷ byte_ops n 0 (drop k d)) is
unfolding to_break
plan_off n zero d is h = sym (skip_none (byte_ops n 0 d) is ∙ none_kept n 0 d is)
plan_off n (suc k) [] is h = absurd (omega arith)
plan_off n (suc k) (b ∷ d) is h = go (eqb b 0x0A) h (λ g. plan_off n k d (back 1 is) g)
  where
    go : (t : Bool) → suc k ≤ cond t 0 (suc (to_break d)) → (k ≤ to_break d → edit (byte_ops n k d) (back 1 is) ≡ edit (skip k ∷ byte_ops n 0 (drop k d)) (back 1 is))
        → edit (cond t (keep 1 ∷ byte_ops n n d) (skip 1 ∷ byte_ops n k d)) is ≡ edit (skip (suc k) ∷ byte_ops n 0 (drop k d)) is
    go true g f = absurd (omega arith)
    go false g f =
        let z : 1 + k ≡ suc k = omega arith in
        ap (λ (l : List Item). entries_only (front 1 is) ++ l) (f (omega arith)) ∙ skipped_more 1 k (byte_ops n 0 (drop k d)) is ∙ ap (λ (j : ℕ). edit (skip j ∷ byte_ops n 0 (drop k d)) is) z

-- ── the first line of a text, and whether it begins with the prefix
abbrev first_one_of : List Bytes → Bytes
first_one_of [] = []
first_one_of (l ∷ ls) = l

first_onto : (b : ℕ) (ls : List Bytes) → first_one_of (onto_first b ls) ≡ b ∷ first_one_of ls
first_onto b [] = refl
first_onto b (l ∷ ls) = refl

pub begins_line : (p d : Bytes) → has_newline_in p ≡ false → begins_with p (first_one_of (split_lines d)) ≡ begins_with p d
begins_line [] d h = refl
begins_line (q ∷ p) [] h = refl
begins_line (q ∷ p) (b ∷ d) h = go (eqb b 0x0A) refl (begins_line p d (or_right (eqb q 0x0A) (has_newline_in p) h))
  where
    go : (t : Bool) → eqb b 0x0A ≡ t → begins_with p (first_one_of (split_lines d)) ≡ begins_with p d
        → begins_with (q ∷ p) (first_one_of (cond t ([] ∷ split_lines d) (onto_first b (split_lines d)))) ≡ (eqb q b && begins_with p d)
    go true e f = apart (eqb q b) refl
      where
        -- q is no 0A, and b is one
        apart : (t : Bool) → eqb q b ≡ t → false ≡ (t && begins_with p d)
        apart true g = absurd (false≢true (sym (or_left (eqb q 0x0A) (has_newline_in p) h) ∙ ap (λ (x : ℕ). eqb x 0x0A) (eqb-true q b g) ∙ e))
        apart false g = refl
    go false e f = ap (λ (l : Bytes). begins_with (q ∷ p) l) (first_onto b (split_lines d)) ∙ ap (λ (x : Bool). eqb q b && x) f

-- no 0A is among the bytes with which a text begins, if the prefix has none
pub begins_break : (p d : Bytes) → has_newline_in p ≡ false → begins_with p d ≡ true → length p ≤ to_break d
unfolding to_break
begins_break [] d h g = omega arith
begins_break (q ∷ p) [] h g = absurd (false≢true g)
begins_break (q ∷ p) (b ∷ d) h g =
    let e : eqb b 0x0A ≡ false = ap (λ (x : ℕ). eqb x 0x0A) (sym (eqb-true q b (and_left (eqb q b) (begins_with p d) g))) ∙ or_left (eqb q 0x0A) (has_newline_in p) h in
    rw e (omega (arith, begins_break p d (or_right (eqb q 0x0A) (has_newline_in p) h) (and_right (eqb q b) (begins_with p d) g)))

-- ── which lines are refused
-- inside of a line the bytes before its 0A do not count
pub lines_behind : (n : ℕ) (d : Bytes) → n ≤ to_break d → drop 1 (split_lines d) ≡ drop 1 (split_lines (drop n d))
unfolding to_break
lines_behind zero d h = refl
lines_behind (suc n) [] h = absurd (omega arith)
lines_behind (suc n) (b ∷ d) h = go (eqb b 0x0A) refl h (λ g. lines_behind n d g)
  where
    go : (t : Bool) → eqb b 0x0A ≡ t → suc n ≤ cond t 0 (suc (to_break d)) → (n ≤ to_break d → drop 1 (split_lines d) ≡ drop 1 (split_lines (drop n d)))
        → drop 1 (split_lines (b ∷ d)) ≡ drop 1 (split_lines (drop n d))
    go true e g f = absurd (omega arith)
    go false e g f = later_lines_lem b d e ∙ f (omega arith)

begin_step : (p : Bytes) (start : Bool) (b : ℕ) (d : Bytes) → (start && not (eqb b 0x0A)) ≡ false → all_begin p (lines_at start (split_lines (b ∷ d))) ≡ all_begin p (lines_at (eqb b 0x0A) (split_lines d))
begin_step p start b d h = go start (eqb b 0x0A) refl h
  where
    go : (s t : Bool) → eqb b 0x0A ≡ t → (s && not t) ≡ false → all_begin p (lines_at s (split_lines (b ∷ d))) ≡ all_begin p (lines_at t (split_lines d))
    go true true e g = rw e
    go true false e g = absurd (false≢true (sym g))
    go false true e g = rw e
    go false false e g = ap (all_begin p) (later_lines_lem b d e)

begin_here : (p : Bytes) (b : ℕ) (d : Bytes) → has_newline_in p ≡ false → eqb b 0x0A ≡ false → all_begin p (split_lines (b ∷ d)) ≡ (begins_with p (b ∷ d) && all_begin p (drop 1 (split_lines (b ∷ d))))
begin_here p b d h e =
    ap (all_begin p) z ∙ go (split_lines d) (some_lines d)
    ∙ (λ i. (ap (λ (ls : List Bytes). begins_with p (first_one_of ls)) (sym z) ∙ begins_line p (b ∷ d) h) i && all_begin p (drop 1 (sym z i)))
  where
    z : split_lines (b ∷ d) ≡ onto_first b (split_lines d)
    z = rw e

    go : (ls : List Bytes) → 0 < length ls → all_begin p (onto_first b ls) ≡ (begins_with p (first_one_of (onto_first b ls)) && all_begin p (drop 1 (onto_first b ls)))
    go [] g = absurd (omega arith)
    go (l ∷ ls) g = refl

-- the next line that is not empty, and those after it
pub begin_pass : (p : Bytes) (start : Bool) (d : Bytes) → has_newline_in p ≡ false → to_next start d < length d
    → all_begin p (lines_at start (split_lines d)) ≡ (begins_with p (drop (to_next start d) d) && all_begin p (drop 1 (split_lines (drop (to_next start d) d))))
unfolding to_next
begin_pass p start [] h g = absurd (omega arith)
begin_pass p start (b ∷ d) h g = go (start && not (eqb b 0x0A)) refl g (λ k. begin_pass p (eqb b 0x0A) d h k)
  where
    m : ℕ
    m = to_next (eqb b 0x0A) d

    at : ℕ → Bool
    at n = begins_with p (drop n (b ∷ d)) && all_begin p (drop 1 (split_lines (drop n (b ∷ d))))

    first : (s t : Bool) → eqb b 0x0A ≡ t → (s && not t) ≡ true → all_begin p (lines_at s (split_lines (b ∷ d))) ≡ at 0
    first true false e k = begin_here p b d h e
    first true true e k = absurd (false≢true k)
    first false t e k = absurd (false≢true k)

    go : (t : Bool) → (start && not (eqb b 0x0A)) ≡ t → cond t 0 (suc m) < suc (length d)
        → (m < length d → all_begin p (lines_at (eqb b 0x0A) (split_lines d)) ≡ (begins_with p (drop m d) && all_begin p (drop 1 (split_lines (drop m d)))))
        → all_begin p (lines_at start (split_lines (b ∷ d))) ≡ at (cond t 0 (suc m))
    go true e k f = first start (eqb b 0x0A) refl e
    go false e k f = begin_step p start b d e ∙ f (omega arith)

pub begin_last : (p : Bytes) (start : Bool) (d : Bytes) → length d ≤ to_next start d → all_begin p (lines_at start (split_lines d)) ≡ true
unfolding to_next
begin_last p true [] h = refl
begin_last p false [] h = refl
begin_last p start (b ∷ d) h = go (start && not (eqb b 0x0A)) refl h (λ k. begin_last p (eqb b 0x0A) d k)
  where
    go : (t : Bool) → (start && not (eqb b 0x0A)) ≡ t → suc (length d) ≤ cond t 0 (suc (to_next (eqb b 0x0A) d))
        → (length d ≤ to_next (eqb b 0x0A) d → all_begin p (lines_at (eqb b 0x0A) (split_lines d)) ≡ true) → all_begin p (lines_at start (split_lines (b ∷ d))) ≡ true
    go true e k f = absurd (omega arith)
    go false e k f = begin_step p start b d e ∙ f (omega arith)

-- ── one byte more
pub newline_next : (j : ℕ) (d : Bytes) → j < length d → has_newline_in (take (j + 1) d) ≡ (has_newline_in (take j d) || eqb (get_or d j 0) 0x0A)
newline_next j d h = rw add-one (go j d h)
  where
    go : (j : ℕ) (d : Bytes) → j < length d → has_newline_in (take (suc j) d) ≡ (has_newline_in (take j d) || eqb (get_or d j 0) 0x0A)
    go j [] h = absurd (omega arith)
    go zero (b ∷ d) h = or-false (eqb b 0x0A)
    go (suc j) (b ∷ d) h = ap (λ (t : Bool). eqb b 0x0A || t) (go j d (omega arith)) ∙ sym (or_assoc (eqb b 0x0A) (has_newline_in (take j d)) (eqb (get_or d j 0) 0x0A))

-- ── what `==` compares
pub begins_is : (p d : Bytes) → pointwise eqb p (take (length p) d) ≡ begins_with p d
begins_is [] d = refl
begins_is (b ∷ p) [] = refl
begins_is (b ∷ p) (c ∷ d) = ap (λ (t : Bool). eqb b c && t) (begins_is p d)

-- ── at the first byte of a line that is not empty; `from` is a place before it
module _ (p d : Bytes) (one_line : has_newline_in p ≡ false) (from : ℕ) (start : Bool) (at : ℕ) (next : at ≡ from + to_next start (drop from d)) (more : at < length d) where
  pub ahead : to_next start (drop from d) < length (drop from d)
  ahead = omega (arith, next, more, length-drop from d)

  pub here : drop (to_next start (drop from d)) (drop from d) ≡ drop at d
  here = drop-drop (to_next start (drop from d)) from d ∙ ap (λ (n : ℕ). drop n d) (sym next)

  pub judged : all_begin p (lines_at start (split_lines (drop from d))) ≡ (begins_with p (drop at d) && all_begin p (drop 1 (split_lines (drop at d))))
  judged = begin_pass p start (drop from d) one_line ahead ∙ ap (λ (x : Bytes). begins_with p x && all_begin p (drop 1 (split_lines x))) here

  -- it begins with the prefix
  module _ (b : begins_with p (drop at d) ≡ true) where
    pub no_break : length p ≤ to_break (drop at d)
    no_break = begins_break p (drop at d) one_line b

    pub inside : at + length p ≤ length d
    inside = omega (arith, more, begins_long p (drop at d) b, length-drop at d)

    pub later : all_begin p (lines_at start (split_lines (drop from d))) ≡ all_begin p (lines_at false (split_lines (drop (at + length p) d)))
    later =
        judged ∙ ap (λ (t : Bool). t && all_begin p (drop 1 (split_lines (drop at d)))) b
        ∙ ap (all_begin p) (lines_behind (length p) (drop at d) no_break ∙ ap (λ (x : Bytes). drop 1 (split_lines x)) (drop-drop (length p) at d))

-- the next line begins further on, also if the prefix is empty
pub moves : (n at : ℕ) (d : Bytes) → at < length d → at < (at + n) + to_next false (drop (at + n) d)
moves zero at d more =
    let z : at + 0 ≡ at = omega arith in
    let e : to_next false (drop (at + 0) d) ≡ to_next false (drop at d) = ap (λ (n : ℕ). to_next false (drop n d)) z in
    omega (arith, e, next_past at d more)
moves (suc n) at d more = omega arith

-- a text that is shorter than the prefix does not begin with it
pub begins_short : (p l : Bytes) → length l < length p → begins_with p l ≡ false
begins_short p l h = elim (begins_with p l) as (λ t. begins_with p l ≡ t → t ≡ false) [ true ↦ λ e. absurd (omega (arith, h, begins_long p l e)) | false ↦ λ e. refl ] refl
