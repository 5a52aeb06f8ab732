-- The lines of an input and the cells of a line: there is a first line, none holds a 0A, none is longer than what it is a part of, and rows that are ended by 0A read as themselves.
use Prim.Native.Nat.{ℕ, suc, ◌≤◌}
use native.Mathlib.Omega.{arith}
use mathlib.Core.Bool.{Bool, true, false, cond}
use mathlib.Core.Path.{◌≡◌, refl, ap, ◌∙◌}
use mathlib.Core.List.{List, [], ◌∷◌, ◌++◌}
use lib.Dec.{eqb}
use lib.ListN.{length, length-append}
use Rattle.recording.specs.Lists.{AllOf}
use Rattle.recording.specs.Recording.{Bytes, is_nil}
use Rattle.recording.proofs.Lists.{or_left, or_right}
use Rattle.sheet.specs.Sheet.{SheetLine, sheet_line, onto_line, sheet_lines, has}
use Rattle.layout.specs.Wrap.{onto_first}
use Rattle.tally.specs.Tally.{texts_of, lines_of, split_at, cells_of, ended}
use Rattle.tally.proofs.RowLaws.{Whole}

-- ── no 0A
whole_onto : (b : ℕ) (ls : List SheetLine) → eqb b 0x0A ≡ false → AllOf Whole (texts_of ls) → AllOf Whole (texts_of (onto_line b ls))
whole_onto b [] e h = (rw e, tt)
whole_onto b (l ∷ ls) e h = (rw e h.0, h.1)

whole_sheet : (s : Bytes) → AllOf Whole (texts_of (sheet_lines s))
whole_sheet [] = tt
whole_sheet (b ∷ s) = go (eqb b 0x0A) refl (whole_sheet s)
  where
    go : (t : Bool) → eqb b 0x0A ≡ t → AllOf Whole (texts_of (sheet_lines s)) → AllOf Whole (texts_of (cond t (sheet_line [] true ∷ sheet_lines s) (onto_line b (sheet_lines s))))
    go true e h = (refl, h)
    go false e h = whole_onto b (sheet_lines s) e h

pub whole_lines : (s : Bytes) → AllOf Whole (lines_of s)
unfolding lines_of
whole_lines [] = (refl, tt)
whole_lines (b ∷ s) = whole_sheet (b ∷ s)

whole_first : (b : ℕ) (cs : List Bytes) → eqb b 0x0A ≡ false → AllOf Whole cs → AllOf Whole (onto_first b cs)
whole_first b [] e h = (rw e, tt)
whole_first b (c ∷ cs) e h = (rw e h.0, h.1)

whole_split : (c : ℕ) (l : Bytes) → Whole l → AllOf Whole (split_at c l)
whole_split c [] h = (refl, tt)
whole_split c (b ∷ l) h = go (eqb b c) (whole_split c l (or_right (eqb b 0x0A) (has 0x0A l) h))
  where
    go : (t : Bool) → AllOf Whole (split_at c l) → AllOf Whole (cond t ([] ∷ split_at c l) (onto_first b (split_at c l)))
    go true ih = (refl, ih)
    go false ih = whole_first b (split_at c l) (or_left (eqb b 0x0A) (has 0x0A l) h) ih

pub whole_cells : (l : Bytes) → Whole l → AllOf Whole (cells_of l)
unfolding cells_of
whole_cells l h = whole_split 0x2C l h

-- ── lengths
abbrev Short : ℕ → List Bytes → Type 0
Short n ls = AllOf (λ l. length l ≤ n) ls

pub shorter : (m n : ℕ) (ls : List Bytes) → m ≤ n → Short m ls → Short n ls
shorter m n [] h p = tt
shorter m n (l ∷ ls) h p = (omega (arith, h, p.0), shorter m n ls h p.1)

short_onto : (b n : ℕ) (ls : List SheetLine) → Short n (texts_of ls) → Short (suc n) (texts_of (onto_line b ls))
short_onto b n [] h = (omega arith, tt)
short_onto b n (l ∷ ls) h = (omega (arith, h.0), shorter n (suc n) (texts_of ls) (omega arith) h.1)

short_sheet : (s : Bytes) → Short (length s) (texts_of (sheet_lines s))
short_sheet [] = tt
short_sheet (b ∷ s) = go (eqb b 0x0A) (short_sheet s)
  where
    go : (t : Bool) → Short (length s) (texts_of (sheet_lines s)) → Short (suc (length s)) (texts_of (cond t (sheet_line [] true ∷ sheet_lines s) (onto_line b (sheet_lines s))))
    go true h = (omega arith, shorter (length s) (suc (length s)) (texts_of (sheet_lines s)) (omega arith) h)
    go false h = short_onto b (length s) (sheet_lines s) h

pub short_lines : (s : Bytes) → Short (length s) (lines_of s)
unfolding lines_of
short_lines [] = (omega arith, tt)
short_lines (b ∷ s) = short_sheet (b ∷ s)

short_first : (b n : ℕ) (cs : List Bytes) → Short n cs → Short (suc n) (onto_first b cs)
short_first b n [] h = (omega arith, tt)
short_first b n (c ∷ cs) h = (omega (arith, h.0), shorter n (suc n) cs (omega arith) h.1)

short_split : (c : ℕ) (l : Bytes) → Short (length l) (split_at c l)
short_split c [] = (omega arith, tt)
short_split c (b ∷ l) = go (eqb b c) (short_split c l)
  where
    go : (t : Bool) → Short (length l) (split_at c l) → Short (suc (length l)) (cond t ([] ∷ split_at c l) (onto_first b (split_at c l)))
    go true h = (omega arith, shorter (length l) (suc (length l)) (split_at c l) (omega arith) h)
    go false h = short_first b (length l) (split_at c l) h

pub short_cells : (l : Bytes) → Short (length l) (cells_of l)
unfolding cells_of
short_cells l = short_split 0x2C l

-- ── there is a first line
pub record First (ls : List Bytes) : Type 0 where
  pub names : Bytes
  pub values : List Bytes
  pub lines : ls ≡ names ∷ values

first_onto : (b : ℕ) (ls : List SheetLine) → First (texts_of (onto_line b ls))
first_onto b [] = record { names = b ∷ []; values = []; lines = refl }
first_onto b (l ∷ ls) = record { names = b ∷ l.text; values = texts_of ls; lines = refl }

pub first_line : (s : Bytes) → First (lines_of s)
unfolding lines_of
first_line [] = record { names = []; values = []; lines = refl }
first_line (b ∷ s) = go (eqb b 0x0A)
  where
    go : (t : Bool) → First (texts_of (cond t (sheet_line [] true ∷ sheet_lines s) (onto_line b (sheet_lines s))))
    go true = record { names = []; values = texts_of (sheet_lines s); lines = refl }
    go false = first_onto b (sheet_lines s)

-- ── rows that hold no 0A, each ended by one, read as themselves
line_first : (r rest : Bytes) → Whole r → sheet_lines (r ++ (0x0A ∷ rest)) ≡ sheet_line r true ∷ sheet_lines rest
line_first [] rest h = refl
line_first (b ∷ r) rest h =
    rw (or_left (eqb b 0x0A) (has 0x0A r) h) (ap (λ (ls : List SheetLine). onto_line b ls) (line_first r rest (or_right (eqb b 0x0A) (has 0x0A r) h)))

texts_ended : (rs : List Bytes) → AllOf Whole rs → texts_of (sheet_lines (ended rs)) ≡ rs
texts_ended [] h = refl
texts_ended (r ∷ rs) h = ap (λ (ls : List SheetLine). texts_of ls) (line_first r (ended rs) h.0) ∙ ap (λ (l : List Bytes). r ∷ l) (texts_ended rs h.1)

not-nil : (r rest : Bytes) → is_nil (r ++ (0x0A ∷ rest)) ≡ false
not-nil [] rest = refl
not-nil (b ∷ r) rest = refl

pub lines_ended : (r : Bytes) (rs : List Bytes) → AllOf Whole (r ∷ rs) → lines_of (ended (r ∷ rs)) ≡ r ∷ rs
unfolding lines_of
lines_ended r rs h = ap (λ (t : Bool). cond t ([] ∷ []) (texts_of (sheet_lines (ended (r ∷ rs))))) (not-nil r (ended rs)) ∙ texts_ended (r ∷ rs) h

-- each is a part of the whole
pub ended_long : (rs : List Bytes) → Short (length (ended rs)) rs
ended_long [] = tt
ended_long (r ∷ rs) =
    let n = length-append r (0x0A ∷ ended rs) in
    (omega (arith, n), shorter (length (ended rs)) (length (ended (r ∷ rs))) rs (omega (arith, n)) (ended_long rs))

pub ended_join : (xs bs : List Bytes) → ended (xs ++ bs) ≡ ended xs ++ ended bs
ended_join [] bs = refl
ended_join (a ∷ xs) bs = ap (λ (l : Bytes). a ++ (0x0A ∷ l)) (ended_join xs bs) ∙ go a
  where
    go : (x : Bytes) → x ++ (0x0A ∷ (ended xs ++ ended bs)) ≡ (x ++ (0x0A ∷ ended xs)) ++ ended bs
    go [] = refl
    go (b ∷ x) = ap (λ (l : Bytes). b ∷ l) (go x)
