-- How many lines an input has and how many cells a line, counted byte by byte: a 0A ends a line and a comma begins a cell, and any other byte is one more of the line or cell it stands in.
use Prim.Native.Nat.{ℕ, suc, ◌+◌, ◌-◌, ◌≤◌, ◌<◌}
use native.Mathlib.Omega.{arith}
use native.Mathlib.Numerals.{add-one}
use mathlib.Core.Bool.{Bool, true, false, cond, ◌&&◌, false≢true}
use mathlib.Core.Path.{◌≡◌, refl, sym, ap, ◌∙◌}
use mathlib.Core.List.{List, [], ◌∷◌}
use lib.Dec.{eqb}
use lib.ListN.{length, drop, get_or, drop_of_length-le}
use lib.Seq.{drop-cons}
use borrow.Author.Tests.{eqb-true, eq-eqb, ne_eqb}
use Rattle.std.specs.List.{ends_with}
use Rattle.newlines.specs.Newlines.{newlines}
use Rattle.recording.specs.Recording.{Bytes}
use Rattle.layout.specs.Wrap.{onto_first}
use Rattle.sheet.specs.Sheet.{SheetLine, sheet_line, onto_line, sheet_lines}
use Rattle.tally.specs.Tally.{texts_of, lines_of, split_at, cells_of}
use Rattle.tally.proofs.InputLaws.{first_line}

-- ── lines
pub lines_some : (s : Bytes) → 1 ≤ length (lines_of s)
lines_some s = omega (arith, ap length (first_line s).lines)

onto_count : (b : ℕ) (ls : List SheetLine) → 1 ≤ length (texts_of ls) → length (texts_of (onto_line b ls)) ≡ length (texts_of ls)
onto_count b [] h = absurd (omega arith)
onto_count b (l ∷ ls) h = refl

sheet_some : (b : ℕ) (s : Bytes) → 1 ≤ length (texts_of (sheet_lines (b ∷ s)))
unfolding lines_of
sheet_some b s = lines_some (b ∷ s)

count_from : (b : ℕ) (s : Bytes) → length (texts_of (sheet_lines (b ∷ s))) ≡ newlines (b ∷ s) + cond (eqb (get_or (b ∷ s) (length s) 0) 0x0A) 0 1
count_from b [] = go (eqb b 0x0A)
  where
    go : (t : Bool) → length (texts_of (cond t (sheet_line [] true ∷ []) (onto_line b []))) ≡ cond t 1 0 + 0 + cond t 0 1
    go true = refl
    go false = refl
count_from b (c ∷ s) = go (eqb b 0x0A) (count_from c s) (sheet_some c s)
  where
    go : (t : Bool) → length (texts_of (sheet_lines (c ∷ s))) ≡ newlines (c ∷ s) + cond (eqb (get_or (c ∷ s) (length s) 0) 0x0A) 0 1 → 1 ≤ length (texts_of (sheet_lines (c ∷ s)))
        → length (texts_of (cond t (sheet_line [] true ∷ sheet_lines (c ∷ s)) (onto_line b (sheet_lines (c ∷ s))))) ≡ cond t 1 0 + newlines (c ∷ s) + cond (eqb (get_or (c ∷ s) (length s) 0) 0x0A) 0 1
    go true ih h = omega (arith, ih)
    go false ih h = omega (arith, ih, onto_count b (sheet_lines (c ∷ s)) h)

-- one for each 0A, and one more if the last byte is none
lines_count : (s : Bytes) → 1 ≤ length s → length (lines_of s) ≡ newlines s + cond (eqb (get_or s (length s - 1) 0) 0x0A) 0 1
unfolding lines_of
lines_count [] h = absurd (omega arith)
lines_count (b ∷ s) h = let e : length (b ∷ s) - 1 ≡ length s = omega arith in rw e (count_from b s)

-- by whether it ends with a 0A
turned : (x : ℕ) → (eqb 0x0A x && true) ≡ eqb x 0x0A
turned x = go (eqb x 0x0A) refl
  where
    go : (t : Bool) → eqb x 0x0A ≡ t → (eqb 0x0A x && true) ≡ t
    go true e = rw (eq-eqb 0x0A x (sym (eqb-true x 0x0A e)))
    go false e = rw (ne_eqb 0x0A x (λ z. false≢true (sym e ∙ eq-eqb x 0x0A (sym z))))

ends : (b : ℕ) (s : Bytes) → ends_with eqb (b ∷ s) (0x0A ∷ []) ≡ eqb (get_or (b ∷ s) (length s) 0) 0x0A
ends b [] = turned b
ends b (c ∷ s) = let n : suc (length (c ∷ s)) - 1 ≡ suc (length s) = omega arith in rw n (let m : suc (length s) - 1 ≡ length s = omega arith in rw m at (ends c s))

pub all_ended : (s : Bytes) → ends_with eqb s (0x0A ∷ []) ≡ true → newlines s ≡ length (lines_of s)
all_ended [] e = absurd (false≢true e)
all_ended (b ∷ s) e = let n : length (b ∷ s) - 1 ≡ length s = omega arith in omega (arith, rw (n, sym (ends b s) ∙ e) at (lines_count (b ∷ s) (omega arith)))

pub last_open : (s : Bytes) → ends_with eqb s (0x0A ∷ []) ≡ false → newlines s + 1 ≡ length (lines_of s)
last_open [] e = unfold lines_of in refl
last_open (b ∷ s) e = let n : length (b ∷ s) - 1 ≡ length s = omega arith in omega (arith, rw (n, sym (ends b s) ∙ e) at (lines_count (b ∷ s) (omega arith)))

-- ── cells
first_count : (b : ℕ) (cs : List Bytes) → 1 ≤ length cs → length (onto_first b cs) ≡ length cs
first_count b [] h = absurd (omega arith)
first_count b (c ∷ cs) h = refl

split_some : (c : ℕ) (l : Bytes) → 1 ≤ length (split_at c l)
split_some c [] = omega arith
split_some c (b ∷ l) = go (eqb b c) (split_some c l)
  where
    go : (t : Bool) → 1 ≤ length (split_at c l) → 1 ≤ length (cond t ([] ∷ split_at c l) (onto_first b (split_at c l)))
    go true h = omega arith
    go false h = omega (arith, h, first_count b (split_at c l) h)

-- one more after a comma
comma_count : (b : ℕ) (l : Bytes) → length (cells_of (b ∷ l)) ≡ cond (eqb b 0x2C) 1 0 + length (cells_of l)
unfolding cells_of
comma_count b l = go (eqb b 0x2C)
  where
    go : (t : Bool) → length (cond t ([] ∷ split_at 0x2C l) (onto_first b (split_at 0x2C l))) ≡ cond t 1 0 + length (split_at 0x2C l)
    go true = omega arith
    go false = omega (arith, first_count b (split_at 0x2C l) (split_some 0x2C l))

pub count_next : (i : ℕ) (l : Bytes) → i < length l → length (cells_of (drop i l)) ≡ cond (eqb (get_or l i 0) 0x2C) 1 0 + length (cells_of (drop (i + 1) l))
count_next i l h = rw (add-one, drop-cons l i 0 h) (comma_count (get_or l i 0) (drop (suc i) l))

none_count : length (cells_of []) ≡ 1
unfolding cells_of
none_count = refl

pub count_end : (i : ℕ) (l : Bytes) → length l ≤ i → length (cells_of (drop i l)) ≡ 1
count_end i l h = rw (drop_of_length-le l {i = i} h) none_count
