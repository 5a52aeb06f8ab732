-- What the code keeps of a cell is what the truncating call keeps of it: bytes, width and length. The ellipsis is measured once; a cell by two cuts that go on from each other.
-- The idea: with the ellipsis measured the plan is `plan_end`, whose bytes and width `truncate` joins to the call's result.
use Prim.Native.Nat.{ℕ, ◌+◌, ◌-◌, ◌≤◌}
use native.Mathlib.Omega.{arith}
use mathlib.Core.Bool.{Bool, true, false, cond}
use mathlib.Core.Path.{◌≡◌, refl, sym, ap, ◌∙◌}
use mathlib.Core.List.{List, [], ◌∷◌, ◌++◌}
use lib.Dec.{ltb}
use lib.ListN.{length, take, drop, length-append}
use borrow.Author.Tests.{lt-ltb, le-ltb, ltb-true, ltb-false}
use Rattle.chars.specs.Chars.{text_width_of}
use Rattle.chars.specs.Cut.{truncate_end_pos_of, truncate_end_width}
use Rattle.chars.proofs.FitLaws.{within-max, pos_within, kept_length, two_cuts, fits_whole, reaches_end, passes-max}
use Rattle.chars.proofs.NarrowLaws.{width_short}
use Rattle.recording.specs.Recording.{Bytes}
use Rattle.truncate_plan.specs.declared.Plan.{Plan}
use Rattle.truncate_plan.specs.Plan.{plan_end}
use Rattle.truncate.specs.Planned.{finished_end}
use Rattle.truncate.proofs.PlanLaws.{end_number, end_uncut}
use Rattle.truncate.proofs.HeldLaws.{end_result}
use Rattle.cells.specs.declared.Mark.{Mark}
use Rattle.cells.specs.Cells.{bare, cell_text, cell_width, joined}
use Rattle.cells.specs.Measured.{mark_of, plan_with}

-- ── the ellipsis
-- what is kept of it fits beside the room: if it is cut, it leaves none
pub mark_fits : (m : ℕ) (e : Bytes) → (m - text_width_of e) + truncate_end_width m e ≤ m
mark_fits m e = go (ltb m (text_width_of e)) refl
  where
    go : (t : Bool) → ltb m (text_width_of e) ≡ t → (m - text_width_of e) + truncate_end_width m e ≤ m
    go true z = omega (arith, ltb-true m (text_width_of e) z, within-max m e)
    go false z = let s = ltb-false m (text_width_of e) z in omega (arith, s, (fits_whole m e s).1)

pub mark_bounds : (m : ℕ) (e : Bytes) (k : Mark) → k ≡ mark_of m e → (k.room + k.width ≤ m) × (k.kept ≤ length e)
unfolding mark_of
mark_bounds m e k h = rw h (mark_fits m e, pos_within m e)

-- ── a cell that is no longer than the width
pub cell_short : (k : Mark) (m w : ℕ) (cell : Bytes) → length cell ≤ m → w ≡ text_width_of cell → (record { cut = false; content = length cell; ellipsis = 0; width = w } ≡ plan_with k m cell) × (w ≤ m)
unfolding plan_with
cell_short k m w cell h e =
    let s : text_width_of cell ≤ m = omega (arith, h, width_short cell) in
    (rw (le-ltb m (text_width_of cell) s, e), omega (arith, e, s))

-- ── any other: the first cut, to the room, ends at p; the second, of the rest to what is left of the width, ends q bytes on
module _ (k : Mark) (m : ℕ) (cell rest : Bytes) (p w q v : ℕ) (fits : k.room + k.width ≤ m) (ep : p ≡ truncate_end_pos_of k.room cell) (ew : w ≡ truncate_end_width k.room cell)
    (er : rest ≡ drop p cell) (eq : q ≡ truncate_end_pos_of (m - w) rest) (ev : v ≡ truncate_end_width (m - w) rest) where
  both : (p + q ≡ truncate_end_pos_of m cell) × (w + v ≡ truncate_end_width m cell)
  both = two_cuts k.room m cell rest p w q v (omega (arith, fits)) ep ew er eq ev

  pub cell_whole : p + q ≡ length cell → record { cut = false; content = length cell; ellipsis = 0; width = w + v } ≡ plan_with k m cell
  unfolding plan_with
  cell_whole h =
      let s : text_width_of cell ≤ m = reaches_end m cell (sym both.0 ∙ h) in
      let x : w + v ≡ text_width_of cell = both.1 ∙ (fits_whole m cell s).1 in
      rw (le-ltb m (text_width_of cell) s, x)

  pub cell_cut : (p + q ≡ length cell → ⊥) → record { cut = true; content = p; ellipsis = k.kept; width = w + k.width } ≡ plan_with k m cell
  unfolding plan_with
  cell_cut h = rw (lt-ltb m (text_width_of cell) (passes-max m cell (λ z. h (both.0 ∙ z))), ep, ew)

-- ── its plan is that of the truncating call
pub plan_with_lem : (m : ℕ) (e cell : Bytes) → plan_with (mark_of m e) m cell ≡ plan_end m cell e
unfolding plan_with mark_of plan_end
plan_with_lem m e cell = refl

-- a cell is cut or it is not: what is true of both ways, of the bytes and the plan
module _ (m : ℕ) (e cell : Bytes) where
  abbrev room : ℕ
  room = m - text_width_of e

  abbrev cut : Plan
  cut = record { cut = true; content = truncate_end_pos_of room cell; ellipsis = truncate_end_pos_of m e; width = truncate_end_width room cell + truncate_end_width m e }

  abbrev whole : Plan
  whole = record { cut = false; content = length cell; ellipsis = 0; width = text_width_of cell }

  pub each_way : (P : Bytes → Plan → Type 0) → P (take (truncate_end_pos_of room cell) cell ++ take (truncate_end_pos_of m e) e) cut → P cell whole
      → P (finished_end (plan_with (mark_of m e) m cell) cell e) (plan_with (mark_of m e) m cell)
  unfolding finished_end plan_with mark_of
  each_way P a b = go (ltb m (text_width_of cell))
    where
      go : (t : Bool) → P (cond (cond t cut whole).cut (take (cond t cut whole).content cell ++ take (cond t cut whole).ellipsis e) cell) (cond t cut whole)
      go true = a
      go false = b

  by_plan : length (finished_end (plan_with (mark_of m e) m cell) cell e) ≡ (plan_with (mark_of m e) m cell).content + (plan_with (mark_of m e) m cell).ellipsis
  by_plan =
      each_way (λ t p. length t ≡ p.content + p.ellipsis)
      (omega (arith, length-append (take (truncate_end_pos_of room cell) cell) (take (truncate_end_pos_of m e) e), kept_length room cell, kept_length m e)) (omega arith)

module _ (m : ℕ) (e cell : Bytes) (p : Plan) (q : p ≡ plan_with (mark_of m e) m cell) where
  pub text_is : finished_end p cell e ≡ cell_text m e cell
  unfolding cell_text
  text_is = sym (end_result p cell [] [] e [] [] m (q ∙ plan_with_lem m e cell))

  pub width_is : p.width ≡ cell_width m e cell
  unfolding cell_width
  width_is = sym (end_number m (bare cell) (bare e) p (q ∙ plan_with_lem m e cell))

  -- one that does not cut keeps all
  pub uncut : p.cut ≡ false → p.content ≡ length cell
  uncut z = (end_uncut m cell e p (q ∙ plan_with_lem m e cell) z).0

  -- how long it is
  pub text_length : length (finished_end p cell e) ≡ p.content + p.ellipsis
  text_length = ap (λ (x : Plan). length (finished_end x cell e)) q ∙ by_plan m e cell ∙ sym (ap (λ (x : Plan). x.content + x.ellipsis) q)

-- ── all cells: how long they are joined is the sum of what is kept of each
abbrev pub length_with : Mark → ℕ → List Bytes → ℕ
length_with k m [] = 0
length_with k m (cell ∷ cells) = ((plan_with k m cell).content + (plan_with k m cell).ellipsis) + length_with k m cells

pub joined_length : (m : ℕ) (e : Bytes) (cells : List Bytes) → length_with (mark_of m e) m cells ≡ length (joined m e cells)
joined_length m e [] = refl
joined_length m e (c ∷ cs) =
    let p : Plan = plan_with (mark_of m e) m c in
    let t : length (cell_text m e c) ≡ p.content + p.ellipsis = sym (ap length (text_is m e c p refl)) ∙ text_length m e c p refl in
    omega (arith, t, joined_length m e cs, length-append (cell_text m e c) (joined m e cs))
