-- A cell by itself: `write_truncated_end` on it leaves its text and returns its width; which is at most the width asked for, and of a well-formed cell the width of its text.
-- The idea: without entries a call leaves data alone (`bare_left`), and what comes after well-formed bytes does not change how they are read (`width_join`).
use Prim.Native.Nat.{ℕ, ◌+◌, ◌-◌, ◌≤◌}
use native.Mathlib.Omega.{arith}
use mathlib.Core.Bool.{Bool, true, false, cond}
use mathlib.Core.Path.{◌≡◌, refl, sym, ap, ◌∙◌}
use mathlib.Core.List.{List, [], ◌∷◌, ◌++◌}
use lib.Dec.{ltb}
use lib.ListN.{length, take}
use borrow.Author.Tests.{le-ltb, ltb-false}
use Rattle.chars.specs.Chars.{Character, chars, text_width_of, well_formed_of}
use Rattle.chars.specs.Cut.{truncate_end_pos_of, truncate_end_width}
use Rattle.chars.proofs.FitLaws.{within-max}
use Rattle.chars.proofs.JoinLaws.{chars-append, width_join, formed_join, kept_wide, kept_formed}
use Rattle.recording.specs.Recording.{Bytes, encode, strip}
use Rattle.recording.specs.Refusals.{data_limit, refuse_if, recording_fault}
use Rattle.recording.specs.Outcome.{over_limit, no_room, refusal_of, settle}
use Rattle.layout.specs.Layout.{result_items, lines_left, number, result_of, second_fault, own_fault, faults_of, outcome}
use Rattle.layout.proofs.StripLaws.{bare_left}
use Rattle.truncate_plan.specs.declared.Plan.{Plan}
use Rattle.cells.specs.Cells.{bare, cutting, cell_text, cell_width, joined}
use Rattle.cells.specs.Measured.{mark_of, plan_with}
use Rattle.cells.specs.Shown.{CutAlone, WidthTrue, ReadAlone}
use Rattle.cells.proofs.PlanLaws.{mark_fits, each_way, text_is, width_is}

-- ── data without entries is refused for its length alone
pub bare_fault : (d : Bytes) → recording_fault (bare d) ≡ refuse_if (ltb data_limit (length d)) 1
unfolding recording_fault
bare_fault d = go (ltb data_limit (length d)) refl
  where
    go : (t : Bool) → ltb data_limit (length d) ≡ t → recording_fault (bare d) ≡ refuse_if t 1
    go true h = rw h
    go false h = rw h

pub bare_fine : (d : Bytes) → length d ≤ data_limit → recording_fault (bare d) ≡ 0
bare_fine d h = bare_fault d ∙ rw (le-ltb data_limit (length d) h)

-- ── the call by itself, in any buffers that take its result
left_alone : (m : ℕ) (e cell : Bytes) → encode (result_items (cutting m e) (bare cell)) ≡ bare (cell_text m e cell)
unfolding cell_text strip
left_alone m e cell = bare_left (cutting m e) (bare cell) refl

pub cut_alone : (m : ℕ) (e cell : Bytes) → length e ≤ data_limit → length cell ≤ data_limit → length (cell_text m e cell) ≤ data_limit → CutAlone m e cell (cell_text m e cell) (cell_width m e cell)
unfolding outcome settle refusal_of faults_of result_of over_limit no_room second_fault own_fault lines_left cell_width
cut_alone m e cell g a b = λ o c. rw (
  left_alone m e cell,
  bare_fine e g,
  bare_fine cell a,
  le-ltb data_limit (length (cell_text m e cell)) b,
  le-ltb o.data_bytes (length (cell_text m e cell)) c,
  le-ltb o.entry_numbers 0 (omega arith),
  le-ltb o.text 0 (omega arith),
  le-ltb o.lines 0 (omega arith),
)

-- ── its width
pub cell_narrow : (m : ℕ) (e cell : Bytes) → cell_width m e cell ≤ m
unfolding cell_width number
cell_narrow m e cell = go (ltb m (text_width_of cell)) refl
  where
    go : (t : Bool) → ltb m (text_width_of cell) ≡ t → cond t (truncate_end_width (m - text_width_of e) cell + truncate_end_width m e) (text_width_of cell) ≤ m
    go true z = omega (arith, mark_fits m e, within-max (m - text_width_of e) cell)
    go false z = ltb-false m (text_width_of cell) z

-- of a well-formed cell it is that of its text
pub width_true : WidthTrue
width_true m e cell h =
    let a : ℕ = truncate_end_pos_of (m - text_width_of e) cell in
    let b : ℕ = truncate_end_pos_of m e in
    let p : Plan = plan_with (mark_of m e) m cell in
    ap text_width_of (sym (text_is m e cell p refl))
    ∙ each_way m e cell (λ t q. text_width_of t ≡ q.width)
    (omega (arith, width_join (take a cell) (take b e) (kept_formed (m - text_width_of e) cell h), kept_wide (m - text_width_of e) cell, kept_wide m e)) refl ∙ width_is m e cell p refl

-- ── joined, each is read as by itself
text_formed : (m : ℕ) (e cell : Bytes) → well_formed_of e ≡ true → well_formed_of cell ≡ true → well_formed_of (cell_text m e cell) ≡ true
text_formed m e cell g h =
    let a : ℕ = truncate_end_pos_of (m - text_width_of e) cell in
    let b : ℕ = truncate_end_pos_of m e in
    ap well_formed_of (sym (text_is m e cell (plan_with (mark_of m e) m cell) refl))
    ∙ each_way m e cell (λ t q. well_formed_of t ≡ true) (formed_join (take a cell) (take b e) (kept_formed (m - text_width_of e) cell h) (kept_formed m e g)) h

pub read_alone : ReadAlone
read_alone m e [] g h = unfold chars in refl
read_alone m e (c ∷ cs) g h =
    chars-append (cell_text m e c) (joined m e cs) (text_formed m e c g h.0) ∙ ap (λ (x : List Character). chars (cell_text m e c) ++ x) (read_alone m e cs g h.1)
