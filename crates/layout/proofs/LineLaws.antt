-- The lines of a text: there is always one (`some_lines`), and bytes without 0A come before the first of them (`split_onto`).
use Prim.Native.Nat.{ℕ, ◌<◌}
use native.Mathlib.Omega.{arith}
use mathlib.Core.Bool.{Bool, true, false, cond}
use mathlib.Core.Path.{◌≡◌, refl, sym, ap, ◌∙◌}
use mathlib.Core.List.{List, [], ◌∷◌, ◌++◌, append_assoc}
use lib.Dec.{eqb}
use lib.ListN.{length, drop}
use Rattle.recording.specs.Recording.{Bytes}
use Rattle.recording.proofs.Lists.{or_left, or_right}
use Rattle.layout.specs.Unindent.{has_newline_in}
use Rattle.layout.specs.Wrap.{onto_first, split_lines}

some_onto : (b : ℕ) (ls : List Bytes) → 0 < length (onto_first b ls)
some_onto b [] = omega arith
some_onto b (l ∷ ls) = omega arith

pub some_lines : (d : Bytes) → 0 < length (split_lines d)
some_lines [] = omega arith
some_lines (b ∷ d) = go (eqb b 0x0A)
  where
    go : (t : Bool) → 0 < length (cond t ([] ∷ split_lines d) (onto_first b (split_lines d)))
    go true = omega arith
    go false = some_onto b (split_lines d)

-- ── the lines that begin from a place on: all, or, if the place is inside of a line, those after the first
abbrev pub lines_at : Bool → List Bytes → List Bytes
lines_at true ls = ls
lines_at false ls = drop 1 ls

-- one byte more of a line
pub later_lines_lem : (b : ℕ) (d : Bytes) → eqb b 0x0A ≡ false → drop 1 (split_lines (b ∷ d)) ≡ drop 1 (split_lines d)
later_lines_lem b d e = rw e (go (split_lines d) (some_lines d))
  where
    go : (ls : List Bytes) → 0 < length ls → drop 1 (onto_first b ls) ≡ drop 1 ls
    go [] z = absurd (omega arith)
    go (l ∷ ls) z = refl

-- ── a line before the first of some lines
abbrev pub before_first : Bytes → List Bytes → List Bytes
before_first line [] = line ∷ []
before_first line (l ∷ ls) = (line ++ l) ∷ ls

pub nil_first : (ls : List Bytes) → 0 < length ls → before_first [] ls ≡ ls
nil_first [] h = absurd (omega arith)
nil_first (l ∷ ls) h = refl

-- a byte goes to the line before
pub first_onto : (p : Bytes) (b : ℕ) (ls : List Bytes) → before_first p (onto_first b ls) ≡ before_first (p ++ (b ∷ [])) ls
first_onto p b [] = refl
first_onto p b (l ∷ ls) = ap (λ (x : Bytes). x ∷ ls) (sym (append_assoc p (b ∷ []) l))

onto_before : (b : ℕ) (p : Bytes) (ls : List Bytes) → onto_first b (before_first p ls) ≡ before_first (b ∷ p) ls
onto_before b p [] = refl
onto_before b p (l ∷ ls) = refl

pub split_onto : (p d : Bytes) → has_newline_in p ≡ false → split_lines (p ++ d) ≡ before_first p (split_lines d)
split_onto [] d h = sym (nil_first (split_lines d) (some_lines d))
split_onto (b ∷ p) d h =
    rw (or_left (eqb b 0x0A) (has_newline_in p) h) (ap (λ (ls : List Bytes). onto_first b ls) (split_onto p d (or_right (eqb b 0x0A) (has_newline_in p) h)) ∙ onto_before b p (split_lines d))
