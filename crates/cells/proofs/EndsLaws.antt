-- The ends of the cells: what is known where some of them are behind (`Ahead`), and that the cells are the data, all of it.
-- The idea: ends that never fall and end at the data's end cut the data into neighbouring parts.
use Prim.Native.Nat.{ℕ, zero, suc, ◌+◌, ◌-◌, ◌≤◌, ◌<◌}
use native.Mathlib.Omega.{arith}
use native.Mathlib.Numerals.{add-one}
use mathlib.Core.Bool.{Bool, true, false, ◌&&◌, ◌||◌, not}
use mathlib.Core.Path.{◌≡◌, refl, sym, ap, ◌∙◌}
use mathlib.Core.List.{List, [], ◌∷◌, ◌++◌, flatten}
use Rattle.std.specs.Prelude.{Some, unwrap_or, slice_get}
use Rattle.std.specs.List.{IsAllAdjacentAnswer}
use Rattle.std.specs.Ordering.{nat_cmp, is_le, is_some_and}
use Rattle.std.proofs.lemmas.List.Sorted.{non_decreasing_from_is_sorted}
use lib.Dec.{leb, ltb, eqb}
use lib.ListN.{length, take, drop, get_or, take-append-drop, drop_of_length-le}
use lib.Seq.{drop-drop, drop-cons}
use borrow.Author.Tests.{leb-true, lt-leb, le-leb, eqb-true, ltb-false}
use Rattle.buffer.specs.Place.{part}
use Rattle.recording.specs.Recording.{Bytes}
use Rattle.recording.proofs.Lists.{and_left, and_right, or_left, or_right, not_false}
use Rattle.cells.specs.Cells.{parts_from, parts, cell_limit, never_fall, last_end, wrong_ends_of}

-- ── whether ends fall, told by neighbours, and the last of them by its place
rises : (from : ℕ) (ends : List ℕ) → never_fall from ends ≡ true → (k : ℕ) → k + 1 < length ends → get_or ends k 0 ≤ get_or ends (k + 1) 0
rises from [] h k l = absurd (omega arith)
rises from (a ∷ []) h k l = absurd (omega arith)
rises from (a ∷ b ∷ ends) h zero l = leb-true a b (and_left (leb a b) (never_fall b ends) (and_right (leb from a) (never_fall a (b ∷ ends)) h))
rises from (a ∷ b ∷ ends) h (suc k) l = rw add-one (rw add-one at (rises a (b ∷ ends) (and_right (leb from a) (never_fall a (b ∷ ends)) h) k (omega arith)))

in_order : (from : ℕ) (ends : List ℕ) → (0 < length ends → from ≤ get_or ends 0 0) → ((k : ℕ) → k + 1 < length ends → get_or ends k 0 ≤ get_or ends (k + 1) 0) → never_fall from ends ≡ true
in_order from [] up h = refl
in_order from (a ∷ ends) up h = rw (le-leb from a (up (omega arith))) (in_order a ends (λ l. h 0 (omega arith)) (λ k l. rw add-one (rw add-one at (h (suc k) (omega arith)))))

pub sorted_is : (ends : List ℕ) (r : Bool) → IsAllAdjacentAnswer (λ x y b. is_some_and is_le (Some (nat_cmp x y)) ≡ b) ends r → r ≡ never_fall 0 ends
sorted_is ends true h = sym (in_order 0 ends (λ l. omega arith) (λ k l. (non_decreasing_from_is_sorted ends true h) k (k + 1) 0 (omega arith) l))
sorted_is ends false h = go (never_fall 0 ends) refl
  where
    go : (t : Bool) → never_fall 0 ends ≡ t → false ≡ t
    go true z =
        let w = non_decreasing_from_is_sorted ends false h in
        absurd (omega (arith, w.2 0, rises 0 ends z w.0 w.1))
    go false z = refl

last_from : (from : ℕ) (ends : List ℕ) → last_end from ends ≡ unwrap_or (slice_get (from ∷ ends) (length ends)) 0
last_from from [] = refl
last_from from (a ∷ ends) = last_from a ends

pub last_is : (ends : List ℕ) → last_end 0 ends ≡ unwrap_or (slice_get ends (length ends - 1)) 0
last_is [] = refl
last_is (a ∷ ends) = let e : length (a ∷ ends) - 1 ≡ length ends = omega arith in rw e (last_from a ends)

-- ── the test of all ends, and what it says
module _ (ends : List ℕ) (n : ℕ) where
  pub few : wrong_ends_of ends n ≡ false → length ends ≤ 64
  unfolding wrong_ends_of
  few h = ltb-false 64 (length ends) (or_left (ltb cell_limit (length ends)) (not (never_fall 0 ends)) (or_left (ltb cell_limit (length ends) || not (never_fall 0 ends)) (not (eqb (last_end 0 ends) n)) h))

  pub rising : wrong_ends_of ends n ≡ false → never_fall 0 ends ≡ true
  unfolding wrong_ends_of
  rising h =
      not_false (never_fall 0 ends)
      (or_right (ltb cell_limit (length ends)) (not (never_fall 0 ends)) (or_left (ltb cell_limit (length ends) || not (never_fall 0 ends)) (not (eqb (last_end 0 ends) n)) h))

  pub reaching : wrong_ends_of ends n ≡ false → last_end 0 ends ≡ n
  unfolding wrong_ends_of
  reaching h =
      eqb-true (last_end 0 ends) n (not_false (eqb (last_end 0 ends) n) (or_right (ltb cell_limit (length ends) || not (never_fall 0 ends)) (not (eqb (last_end 0 ends) n)) h))

-- the last is not below the first
pub last_above : (from : ℕ) (ends : List ℕ) → never_fall from ends ≡ true → from ≤ last_end from ends
last_above from [] h = omega arith
last_above from (e ∷ es) h =
    let up : from ≤ e = leb-true from e (and_left (leb from e) (never_fall e es) h) in
    omega (arith, up, last_above e es (and_right (leb from e) (never_fall e es) h))

-- ── k of the ends are behind, and `last` is the last of them
module _ (ends : List ℕ) (k last : ℕ) (more : k < length ends) where
  -- the end that comes next
  abbrev end : ℕ
  end = get_or ends k 0

  left : drop k ends ≡ end ∷ drop (k + 1) ends
  left = drop-cons ends k 0 more ∙ rw add-one

  pub never_next : last ≤ end → never_fall last (drop k ends) ≡ never_fall end (drop (k + 1) ends)
  never_next h = rw left (rw (le-leb last end h))

  pub never_falls : end < last → never_fall last (drop k ends) ≡ false
  never_falls h = rw left (rw (lt-leb last end h))

  pub last_next : last_end last (drop k ends) ≡ last_end end (drop (k + 1) ends)
  last_next = rw left

  pub parts_next : (d : Bytes) → parts_from last (drop k ends) d ≡ part last end d ∷ parts_from end (drop (k + 1) ends) d
  parts_next d = rw left

pub none_left : (ends : List ℕ) (k : ℕ) → length ends ≤ k → drop k ends ≡ []
none_left ends k h = drop_of_length-le ends {i = k} h

pub record Ahead (ends : List ℕ) (n from k : ℕ) : Type 0 where
  pub within : k ≤ length ends
  pub never : never_fall from (drop k ends) ≡ true
  pub last : last_end from (drop k ends) ≡ n

pub ahead_start : (ends : List ℕ) (n : ℕ) → wrong_ends_of ends n ≡ false → Ahead ends n 0 0
ahead_start ends n h = record { within = omega arith; never = rising ends n h; last = reaching ends n h }

module _ (ends : List ℕ) (n from k : ℕ) (A : Ahead ends n from k) (more : k < length ends) where
  shown : (leb from (get_or ends k 0) && never_fall (get_or ends k 0) (drop (k + 1) ends)) ≡ true
  shown = rw (left ends k from more) at A.never

  pub end_above : from ≤ get_or ends k 0
  end_above = leb-true from (get_or ends k 0) (and_left (leb from (get_or ends k 0)) (never_fall (get_or ends k 0) (drop (k + 1) ends)) shown)

  pub ahead_next : Ahead ends n (get_or ends k 0) (k + 1)
  ahead_next =
      record {
        within = omega (arith, more);
        never = and_right (leb from (get_or ends k 0)) (never_fall (get_or ends k 0) (drop (k + 1) ends)) shown;
        last = sym (last_next ends k from more) ∙ A.last;
      }

  pub end_within : get_or ends k 0 ≤ n
  end_within = omega (arith, last_above (get_or ends k 0) (drop (k + 1) ends) ahead_next.never, ahead_next.last)

-- ── the cells are the data
cells_from : (from : ℕ) (ends : List ℕ) (d : Bytes) → never_fall from ends ≡ true → last_end from ends ≡ length d → flatten (parts_from from ends d) ≡ drop from d
unfolding flatten
cells_from from [] d h l = sym (drop_of_length-le d {i = from} (omega (arith, l)))
cells_from from (e ∷ es) d h l =
    let up : from ≤ e = leb-true from e (and_left (leb from e) (never_fall e es) h) in
    let s : from + (e - from) ≡ e = omega (arith, up) in
    let r : drop e d ≡ drop (e - from) (drop from d) = ap (λ (n : ℕ). drop n d) (sym s) ∙ sym (drop-drop (e - from) from d) in
    ap (λ (x : Bytes). take (e - from) (drop from d) ++ x) (cells_from e es d (and_right (leb from e) (never_fall e es) h) l ∙ r) ∙ take-append-drop (e - from) (drop from d)

pub cells_whole : (ends : List ℕ) (d : Bytes) → never_fall 0 ends ≡ true → last_end 0 ends ≡ length d → flatten (parts ends d) ≡ d
unfolding parts
cells_whole ends d h l = cells_from 0 ends d h l
