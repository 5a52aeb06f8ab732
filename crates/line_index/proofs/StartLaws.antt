-- The starts and ends of lines: what an append adds (`starts_append`), and where an offset stands among them (`start_within`, `start_beyond`).
-- So the place of an offset is there, and no other is (`place_line`, `place_start`, `place_end`, `place_unique`).
use Prim.Native.Nat.{ℕ, zero, suc, ◌+◌, ◌-◌, ◌≤◌, ◌<◌}
use native.Mathlib.Omega.{arith}
use native.Mathlib.Numerals.{add-one}
use mathlib.Core.Bool.{Bool, true, false, cond}
use mathlib.Core.Path.{◌≡◌, refl, sym, ap, ◌∙◌}
use mathlib.Core.List.{List, [], ◌∷◌, ◌++◌}
use lib.Dec.{leb, ltb, eqb}
use borrow.Author.Tests.{ltb-true, ltb-false, eqb-true, le-leb, leb-true}
use Rattle.std.specs.List.Sorted.{IsPartitionedBy}
use Rattle.std.proofs.lemmas.Grind.{get_or_default_zero}
use lib.ListN.{length, take, drop, get_or, length-append, length-drop, take-append-drop, get_or-append}
use lib.Seq.{length-take-le, get_or-append-add, drop-cons}
use Rattle.newlines.specs.Newlines.{newlines}
use Rattle.line_index.specs.Starts.{starts_from, line_starts, ends_from, line_ends, line_span, line_of_offset, place_for}

-- ── the byte at a place, of a text of which b ∷ bs is left there
module _ (at b : ℕ) (bs w : List ℕ) (e : drop at w ≡ b ∷ bs) where
  pub left_more : at < length w
  left_more = omega (arith, ap length e, length-drop at w)

  left_is : get_or w at 0 ∷ drop (suc at) w ≡ b ∷ bs
  left_is = sym (drop-cons w at 0 left_more) ∙ e

  pub left_byte : get_or w at 0 ≡ b
  left_byte = ap (λ (x : List ℕ). get_or x 0 0) left_is

  pub left_next : drop (suc at) w ≡ bs
  left_next = ap (λ (x : List ℕ). drop 1 x) left_is

-- as many starts as there are 0A
pub count_starts : (at : ℕ) (d : List ℕ) → length (starts_from at d) ≡ newlines d
unfolding starts_from
count_starts at [] = refl
count_starts at (b ∷ d) = go (eqb b 0x0A) (count_starts (suc at) d)
  where
    go : (t : Bool) → length (starts_from (suc at) d) ≡ newlines d → length (cond t (suc at ∷ starts_from (suc at) d) (starts_from (suc at) d)) ≡ cond t 1 0 + newlines d
    go true h = omega arith
    go false h = omega arith

-- ── an append only adds, from its own place on
pub starts_append : (at : ℕ) (a b : List ℕ) → starts_from at (a ++ b) ≡ starts_from at a ++ starts_from (at + length a) b
unfolding starts_from
starts_append at [] b = ap (λ (n : ℕ). starts_from n b) (omega arith)
starts_append at (x ∷ a) b = go (eqb x 0x0A) (starts_append (suc at) a b ∙ ap (λ (n : ℕ). starts_from (suc at) a ++ starts_from n b) (omega arith))
  where
    go : (t : Bool) → starts_from (suc at) (a ++ b) ≡ starts_from (suc at) a ++ starts_from (at + length (x ∷ a)) b
        → cond t (suc at ∷ starts_from (suc at) (a ++ b)) (starts_from (suc at) (a ++ b)) ≡ cond t (suc at ∷ starts_from (suc at) a) (starts_from (suc at) a) ++ starts_from (at + length (x ∷ a)) b
    go true h = ap (λ (l : List ℕ). suc at ∷ l) h
    go false h = h

-- EXTENDING IS BUILDING, for any earlier length within the data
pub extend_is_build : (n : ℕ) (d : List ℕ) → n ≤ length d → line_starts d ≡ line_starts (take n d) ++ starts_from n (drop n d)
unfolding line_starts
extend_is_build n d h =
    ap (λ (l : List ℕ). 0 ∷ l)
    (ap (λ (l : List ℕ). starts_from 0 l) (sym (take-append-drop n d)) ∙ starts_append 0 (take n d) (drop n d)
    ∙ ap (λ (k : ℕ). starts_from 0 (take n d) ++ starts_from k (drop n d)) (omega (arith, length-take-le n d h)))

-- ── each start is past the place and within the data
starts_bound : (at : ℕ) (d : List ℕ) (i : ℕ) → i < length (starts_from at d) → (at < get_or (starts_from at d) i 0) × (get_or (starts_from at d) i 0 ≤ at + length d)
unfolding starts_from
starts_bound at [] i h = absurd (omega arith)
starts_bound at (x ∷ d) i h = go (λ j g. starts_bound (suc at) d j g) (eqb x 0x0A) i h
  where
    Rest : Type 0
    Rest = (j : ℕ) → j < length (starts_from (suc at) d) → (suc at < get_or (starts_from (suc at) d) j 0) × (get_or (starts_from (suc at) d) j 0 ≤ suc at + length d)

    go : Rest → (t : Bool) (j : ℕ) → j < length (cond t (suc at ∷ starts_from (suc at) d) (starts_from (suc at) d))
        → (at < get_or (cond t (suc at ∷ starts_from (suc at) d) (starts_from (suc at) d)) j 0) × (get_or (cond t (suc at ∷ starts_from (suc at) d) (starts_from (suc at) d)) j 0 ≤ at + length (x ∷ d))
    go r true zero g = (omega arith, omega arith)
    go r true (suc j) g = (omega (arith, (r j (omega arith)).0), omega (arith, (r j (omega arith)).1))
    go r false j g = (omega (arith, (r j g).0), omega (arith, (r j g).1))

start_le : (d : List ℕ) (i : ℕ) → i < length (line_starts d) → get_or (line_starts d) i 0 ≤ length d
unfolding line_starts
start_le d zero h = omega arith
start_le d (suc i) h = omega (arith, (starts_bound 0 d i (omega arith)).1)

-- ── an offset among the starts: those up to its line are not past it, those after are
module _ (d : List ℕ) (o : ℕ) (h : o ≤ length d) where
  k_is : length (line_starts (take o d)) ≡ suc (line_of_offset d o)
  unfolding line_starts line_of_offset
  k_is = ap suc (count_starts 0 (take o d))

  line_there : line_of_offset d o < length (line_starts d)
  line_there = omega (arith, k_is, ap length (extend_is_build o d h), length-append (line_starts (take o d)) (starts_from o (drop o d)))

  pub start_within : (i : ℕ) → i ≤ line_of_offset d o → get_or (line_starts d) i 0 ≤ o
  start_within i g =
      let e : get_or (line_starts d) i 0 ≡ get_or (line_starts (take o d)) i 0
      = ap (λ (l : List ℕ). get_or l i 0) (extend_is_build o d h) ∙ get_or-append (line_starts (take o d)) (starts_from o (drop o d)) 0 i (omega (arith, k_is)) in
      omega (arith, e, start_le (take o d) i (omega (arith, k_is)), length-take-le o d h)

  start_beyond : (i : ℕ) → line_of_offset d o < i → i < length (line_starts d) → o < get_or (line_starts d) i 0
  start_beyond i g l =
      let a : List ℕ = line_starts (take o d) in
      let b : List ℕ = starts_from o (drop o d) in
      let n : ℕ = i - length a in
      let ei : i ≡ length a + n = omega (arith, k_is) in
      let e : get_or (line_starts d) i 0 ≡ get_or b n 0 = (λ t. get_or (extend_is_build o d h t) (ei t) 0) ∙ get_or-append-add a b n 0 in
      omega (arith, e, (starts_bound o (drop o d) n (omega (arith, ei, ap length (extend_is_build o d h), length-append a b))).0)

  -- what a search ends at is the line
  pub halved : (i : ℕ) → i < length (line_starts d) → get_or (line_starts d) i 0 ≤ o → (i + 1 < length (line_starts d) → o < get_or (line_starts d) (i + 1) 0) → i ≡ line_of_offset d o
  halved i l p q =
      elim (ltb i (line_of_offset d o)) as (λ t. ltb i (line_of_offset d o) ≡ t → i ≡ line_of_offset d o) [
        | true ↦ λ e. absurd (less (ltb-true _ _ e))
        | false ↦ λ e.
            elim (ltb (line_of_offset d o) i) as (λ t. ltb (line_of_offset d o) i ≡ t → i ≡ line_of_offset d o)
            [ true ↦ λ f. absurd (omega (arith, p, start_beyond i (ltb-true _ _ f) l)) | false ↦ λ f. omega (arith, ltb-false i (line_of_offset d o) e, ltb-false (line_of_offset d o) i f) ] refl
      ] refl
    where
      less : i < line_of_offset d o → ⊥
      less g = omega (arith, start_within (i + 1) (omega arith), q (omega (arith, line_there)))

  -- the starts not past the offset come before those that are
  pub starts_parted : IsPartitionedBy (λ (n : ℕ). leb n o) (line_starts d)
  starts_parted i j e l m t =
      let f : get_or (line_starts d) j e ≡ get_or (line_starts d) j 0 = get_or_default_zero (line_starts d) j e m in
      let g : get_or (line_starts d) i e ≡ get_or (line_starts d) i 0 = get_or_default_zero (line_starts d) i e (omega (arith, l, m)) in
      rw g (le-leb _ o (start_within i (not_past i j l m (omega (arith, f, leb-true _ _ t)))))
    where
      not_past : (i j : ℕ) → i ≤ j → j < length (line_starts d) → get_or (line_starts d) j 0 ≤ o → i ≤ line_of_offset d o
      not_past i j l m t =
          elim (ltb (line_of_offset d o) j) as (λ b. ltb (line_of_offset d o) j ≡ b → i ≤ line_of_offset d o)
          [ true ↦ λ f. absurd (omega (arith, t, start_beyond j (ltb-true _ _ f) m)) | false ↦ λ f. omega (arith, l, ltb-false (line_of_offset d o) j f) ] refl

-- ── ends: one before the next start, and the data's end
pub ends_length : (at : ℕ) (d : List ℕ) → length (ends_from at d) ≡ suc (length (starts_from at d))
unfolding starts_from ends_from
ends_length at [] = refl
ends_length at (x ∷ d) = go (eqb x 0x0A) (ends_length (suc at) d)
  where
    go : (t : Bool) → length (ends_from (suc at) d) ≡ suc (length (starts_from (suc at) d))
        → length (cond t (at ∷ ends_from (suc at) d) (ends_from (suc at) d)) ≡ suc (length (cond t (suc at ∷ starts_from (suc at) d) (starts_from (suc at) d)))
    go true h = ap suc h
    go false h = h

ends_starts : (at : ℕ) (d : List ℕ) (i : ℕ) → i < length (starts_from at d) → get_or (starts_from at d) i 0 ≡ suc (get_or (ends_from at d) i 0)
unfolding starts_from ends_from
ends_starts at [] i h = absurd (omega arith)
ends_starts at (x ∷ d) i h = go (λ i h. ends_starts (suc at) d i h) (eqb x 0x0A) i h
  where
    go : ((i : ℕ) → i < length (starts_from (suc at) d) → get_or (starts_from (suc at) d) i 0 ≡ suc (get_or (ends_from (suc at) d) i 0))
        → (t : Bool) (i : ℕ) → i < length (cond t (suc at ∷ starts_from (suc at) d) (starts_from (suc at) d))
        → get_or (cond t (suc at ∷ starts_from (suc at) d) (starts_from (suc at) d)) i 0 ≡ suc (get_or (cond t (at ∷ ends_from (suc at) d) (ends_from (suc at) d)) i 0)
    go r true zero g = refl
    go r true (suc i) g = r i (omega arith)
    go r false i g = r i g

ends_last : (at : ℕ) (d : List ℕ) → get_or (ends_from at d) (length (starts_from at d)) 0 ≡ at + length d
unfolding starts_from ends_from
ends_last at [] = omega arith
ends_last at (x ∷ d) = go (eqb x 0x0A) (ends_last (suc at) d ∙ omega arith)
  where
    go : (t : Bool) → get_or (ends_from (suc at) d) (length (starts_from (suc at) d)) 0 ≡ at + length (x ∷ d)
        → get_or (cond t (at ∷ ends_from (suc at) d) (ends_from (suc at) d)) (length (cond t (suc at ∷ starts_from (suc at) d) (starts_from (suc at) d))) 0 ≡ at + length (x ∷ d)
    go true h = h
    go false h = h

-- a 0A stands at each end but the last
ends_newline : (w : List ℕ) (at : ℕ) (d : List ℕ) → drop at w ≡ d → (i : ℕ) → i < length (starts_from at d) → get_or w (get_or (ends_from at d) i 0) 0 ≡ 0x0A
unfolding starts_from ends_from
ends_newline w at [] e i h = absurd (omega arith)
ends_newline w at (x ∷ d) e i h = go (λ j g. ends_newline w (suc at) d (left_next at x d w e) j g) (eqb x 0x0A) refl i h
  where
    go : ((j : ℕ) → j < length (starts_from (suc at) d) → get_or w (get_or (ends_from (suc at) d) j 0) 0 ≡ 0x0A) → (t : Bool) → eqb x 0x0A ≡ t
        → (j : ℕ) → j < length (cond t (suc at ∷ starts_from (suc at) d) (starts_from (suc at) d)) → get_or w (get_or (cond t (at ∷ ends_from (suc at) d) (ends_from (suc at) d)) j 0) 0 ≡ 0x0A
    go r true q zero g = left_byte at x d w e ∙ eqb-true x 0x0A q
    go r true q (suc j) g = r j (omega arith)
    go r false q j g = r j g

module _ (d : List ℕ) (n : ℕ) where
  pub end_newline : n + 1 < length (line_starts d) → get_or d (line_span d n).end 0 ≡ 0x0A
  unfolding line_starts line_ends line_span
  end_newline h = ends_newline d 0 d refl n (omega arith)

  pub end_inner : n + 1 < length (line_starts d) → get_or (line_starts d) (n + 1) 0 ≡ suc (line_span d n).end
  unfolding line_starts line_ends line_span
  end_inner h = rw add-one (ends_starts 0 d n (omega arith))

  pub end_last : n + 1 ≡ length (line_starts d) → (line_span d n).end ≡ length d
  unfolding line_starts line_ends line_span
  end_last h =
      let e : n ≡ length (starts_from 0 d) = omega arith in
      ap (λ (k : ℕ). get_or (ends_from 0 d) k 0) e ∙ ends_last 0 d ∙ omega arith

  pub first_is : (line_span d n).first ≡ get_or (line_starts d) n 0
  unfolding line_span
  first_is = refl

  pub end_le : n < length (line_starts d) → (line_span d n).end ≤ length d
  end_le h =
      elim (ltb (n + 1) (length (line_starts d))) as (λ t. ltb (n + 1) (length (line_starts d)) ≡ t → (line_span d n).end ≤ length d) [
        | true ↦ λ e. omega (arith, end_inner (ltb-true _ _ e), start_le d (n + 1) (ltb-true _ _ e))
        | false ↦ λ e. omega (arith, end_last (omega (arith, ltb-false (n + 1) (length (line_starts d)) e, h)))
      ] refl

-- ── PLACE AND LINE ANSWER EACH OTHER
module _ (d : List ℕ) (o : ℕ) (h : o ≤ length d) where
  -- the place of an offset: a line that is there, whose first byte and the column are the offset, which is not past its end
  pub place_line : (place_for d o).line < length (line_starts d)
  unfolding place_for
  place_line = line_there d o h

  pub place_start : (line_span d (place_for d o).line).first + (place_for d o).column ≡ o
  unfolding place_for
  place_start = omega (arith, first_is d (line_of_offset d o), start_within d o h (line_of_offset d o) (omega arith))

  pub place_end : o ≤ (line_span d (place_for d o).line).end
  unfolding place_for
  place_end =
      let n : ℕ = line_of_offset d o in
      elim (ltb (n + 1) (length (line_starts d))) as (λ t. ltb (n + 1) (length (line_starts d)) ≡ t → o ≤ (line_span d n).end) [
        | true ↦ λ e. omega (arith, end_inner d n (ltb-true _ _ e), start_beyond d o h (n + 1) (omega arith) (ltb-true _ _ e))
        | false ↦ λ e. omega (arith, end_last d n (omega (arith, ltb-false (n + 1) (length (line_starts d)) e, line_there d o h)))
      ] refl

-- and only that place: a line that is there, and a column not past its end, is the place of the offset that it makes
pub place_only : (d : List ℕ) (n c : ℕ) → n < length (line_starts d) → (line_span d n).first + c ≤ (line_span d n).end → place_for d ((line_span d n).first + c) ≡ record { line = n; column = c }
unfolding place_for
place_only d n c h g =
    let o : ℕ = (line_span d n).first + c in
    let e : n ≡ line_of_offset d o = halved d o (omega (arith, g, end_le d n h)) n h (omega (arith, first_is d n)) (λ l. omega (arith, g, end_inner d n l)) in
    let z : o - (line_span d n).first ≡ c = omega arith in
    let f : o - (line_span d (line_of_offset d o)).first ≡ c = ap (λ (k : ℕ). o - (line_span d k).first) (sym e) ∙ z in
    λ i. record { line = sym e i; column = f i }

-- every offset up to the data's length has one line and column
pub place_unique : (d : List ℕ) (o n c : ℕ) → n < length (line_starts d) → (line_span d n).first + c ≡ o → o ≤ (line_span d n).end → place_for d o ≡ record { line = n; column = c }
place_unique d o n c h e g = ap (λ (k : ℕ). place_for d k) (sym e) ∙ place_only d n c h (omega (arith, e, g))
