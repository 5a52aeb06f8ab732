-- How many data bytes a wrapped content has: those that the lines show and a 0A between neighbours.
-- The idea: the lines are in order and within the data, so that each keep of the plan is as long as its line.
use Prim.Native.Nat.{ℕ, suc, ◌+◌, ◌-◌, ◌≤◌, ◌<◌}
use native.Mathlib.Omega.{arith}
use mathlib.Core.Bool.{Bool, true, false, cond}
use mathlib.Core.Path.{◌≡◌, refl, sym, ap, ◌∙◌}
use mathlib.Core.List.{List, [], ◌∷◌}
use lib.Dec.{eqb}
use lib.ListN.{length, take, drop, length-append, length-drop}
use lib.Seq.{length-take-le}
use Rattle.recording.specs.Lists.{AllOf}
use Rattle.recording.specs.Edit.{edit_data}
use Rattle.recording.proofs.Lists.{all_append}
use Rattle.layout.specs.Wrap.{onto_first, split_lines, Word, Line, whole_len, group_lines, wrapped_line, lines_from, wrap_lines_of}
use Rattle.layout.specs.Layout.{wrap_ops, wrapped_lines, single_ops}
use Rattle.layout.proofs.StepLaws.{Ordered}
use Rattle.layout.proofs.WordLaws.{shown_whole, wholes, wholes_fitted, wrap_ordered}
use Rattle.wrap_lines.specs.WrapBytes.{shown_bytes}
use Rattle.wrap.specs.Plan.{joined_len_of}

-- ── no line ends past the data
abbrev Before : ℕ → Line → Type 0
Before n l = l.end ≤ n

group_ends : (n at : ℕ) (gs : List (List Word)) → at + wholes gs ≤ n → AllOf (Before n) (group_lines at gs)
group_ends n at [] h = tt
group_ends n at (g ∷ gs) h = (omega (arith, shown_whole g), group_ends n (at + whole_len g) gs (omega arith))

-- the length of the lines, a 0A after each
abbrev lines_len : List (List ℕ) → ℕ
lines_len [] = 0
lines_len (l ∷ ls) = suc (length l) + lines_len ls

len_onto : (x : ℕ) (ls : List (List ℕ)) → 0 < length ls → lines_len (onto_first x ls) ≡ suc (lines_len ls)
len_onto x [] h = absurd (omega arith)
len_onto x (l ∷ ls) h = omega arith

len_split : (d : List ℕ) → (lines_len (split_lines d) ≡ suc (length d)) × (0 < length (split_lines d))
len_split [] = (refl, omega arith)
len_split (x ∷ d) = go (eqb x 0x0A) (len_split d)
  where
    some : (ls : List (List ℕ)) → 0 < length (onto_first x ls)
    some [] = omega arith
    some (l ∷ ls) = omega arith

    go : (t : Bool) → (lines_len (split_lines d) ≡ suc (length d)) × (0 < length (split_lines d))
        → (lines_len (cond t ([] ∷ split_lines d) (onto_first x (split_lines d))) ≡ suc (suc (length d))) × (0 < length (cond t ([] ∷ split_lines d) (onto_first x (split_lines d))))
    go true h = (omega (arith, h.0), omega arith)
    go false h = (len_onto x (split_lines d) h.1 ∙ ap suc h.0, some (split_lines d))

from_ends : (w : ℕ) (b : Bool) (n at : ℕ) (ls : List (List ℕ)) → at + lines_len ls ≤ suc n → AllOf (Before n) (lines_from w b at ls)
from_ends w b n at [] h = tt
from_ends w b n at (l ∷ ls) h =
    all_append (Before n) (group_lines at (wrapped_line w b l)) (lines_from w b (suc (at + length l)) ls)
    (group_ends n at (wrapped_line w b l) (omega (arith, wholes_fitted w b l)))
    (from_ends w b n (suc (at + length l)) ls (omega arith))

line_ends_lem : (w : ℕ) (b : Bool) (d : List ℕ) → AllOf (Before (length d)) (wrap_lines_of w b d)
unfolding wrap_lines_of
line_ends_lem w b d = from_ends w b (length d) 0 (split_lines d) (omega (arith, (len_split d).0))

-- ── the data of the plan
-- a line's keep is as long as the line, and what is left starts at its end
keeps : (n at : ℕ) (l : Line) (d : List ℕ) → at + length d ≡ n → at ≤ l.first → l.first ≤ l.end → l.end ≤ n
    → (length (take (l.end - l.first) (drop (l.first - at) d)) ≡ l.end - l.first) × (l.end + length (drop (l.end - l.first) (drop (l.first - at) d)) ≡ n)
keeps n at l d e p q h = (
  length-take-le (l.end - l.first) (drop (l.first - at) d) (omega (arith, length-drop (l.first - at) d)),
  omega (arith, length-drop (l.first - at) d, length-drop (l.end - l.first) (drop (l.first - at) d)),
)

plan_data : (n at : ℕ) (l : Line) (ls : List Line) (d : List ℕ) → at + length d ≡ n → Ordered at (l ∷ ls) → AllOf (Before n) (l ∷ ls)
    → length (edit_data (wrap_ops n at (l ∷ ls)) d) ≡ shown_bytes (l ∷ ls) + length ls
plan_data n at l [] d e o h =
    let k = keeps n at l d e o.0 o.1 h.0 in
    let line : List ℕ = take (l.end - l.first) (drop (l.first - at) d) in
    let rest : List ℕ = drop (l.end - l.first) (drop (l.first - at) d) in
    omega (arith, k.0, k.1, length-append line (drop (n - l.end) rest), length-drop (n - l.end) rest)
plan_data n at l (m ∷ ms) d e o h =
    let k = keeps n at l d e o.0 o.1 h.0 in
    let line : List ℕ = take (l.end - l.first) (drop (l.first - at) d) in
    let rest : List ℕ = drop (l.end - l.first) (drop (l.first - at) d) in
    omega (arith, k.0, length-append line (0x0A ∷ edit_data (wrap_ops n l.end (m ∷ ms)) rest), plan_data n l.end m ms rest k.1 o.2 h.1)

lines_data : (n : ℕ) (ls : List Line) (d : List ℕ) → length d ≡ n → 0 < length ls → Ordered 0 ls → AllOf (Before n) ls → length (edit_data (wrap_ops n 0 ls) d) ≡ joined_len_of ls
lines_data n [] d e s o h = absurd (omega arith)
lines_data n (l ∷ ls) d e s o h = omega (arith, plan_data n 0 l ls d (omega (arith, e)) o h)

pub data_size : (w : ℕ) (b : Bool) (d : List ℕ) → joined_len_of (wrap_lines_of w b d) ≡ length (edit_data (single_ops (wrapped_lines w b) d) d)
data_size w b d = let o = wrap_ordered w b d in sym (lines_data (length d) (wrap_lines_of w b d) d refl o.1 o.0 (line_ends_lem w b d))
