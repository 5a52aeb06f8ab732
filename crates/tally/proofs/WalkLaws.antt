-- A line walked cell by cell beside its columns: what is passed and what is left are the whole, and a row with its 0A is made of each cell with the byte after it.
-- The idea: with a comma set in front of the line, every cell comes after a comma, so there is no first case.
use Prim.Native.Nat.{ℕ, suc, ◌+◌, ◌-◌, ◌≤◌, ◌<◌}
use native.Mathlib.Omega.{arith}
use native.Mathlib.Numerals.{add-one}
use mathlib.Core.Bool.{Bool, true, false, cond}
use mathlib.Core.Path.{◌≡◌, refl, sym, ap, ◌∙◌}
use mathlib.Core.List.{List, [], ◌∷◌, ◌++◌, append-nil, append_assoc}
use lib.Dec.{ltb, eqb}
use lib.ListN.{length, take, drop, get_or, length-drop}
use lib.Seq.{drop-cons, drop-drop}
use borrow.Author.Tests.{ltb-true, ltb-false}
use Rattle.buffer.specs.Place.{part}
use Rattle.recording.specs.Recording.{Bytes}
use Rattle.layout.specs.Wrap.{onto_first}
use Rattle.sheet.specs.Sheet.{up_to}
use Rattle.sheet.proofs.SheetLaws.{up_to_take}
use Rattle.tally.specs.Tally.{split_at, cells_of, Column, columns_of, laid_cell_of, row_from_cells, row_of, any_bad}
use Rattle.tally.specs.Code.{gap_after, line_of}
use Rattle.tally.proofs.ColumnLaws.{column_in, columns_in, columns_next, columns_end}
use Rattle.tally.proofs.RowLaws.{first_column}

-- ── the cells after the comma at the front
abbrev pub more_cells : Bytes → List Bytes
more_cells [] = []
more_cells (b ∷ s) = split_at 0x2C s

-- the cells of a line from the place `from` on, which is that after a comma
abbrev pub cells_left : Bytes → ℕ → List Bytes
cells_left line from = more_cells (drop from (0x2C ∷ line))

pub all_cells_lem : (line : Bytes) → cells_left line 0 ≡ cells_of line
unfolding cells_of
all_cells_lem line = refl

split_next : (s : Bytes) → split_at 0x2C s ≡ up_to 0x2C s ∷ more_cells (drop (length (up_to 0x2C s)) s)
split_next [] = refl
split_next (b ∷ s) = go (eqb b 0x2C) (split_next s)
  where
    go : (t : Bool) → split_at 0x2C s ≡ up_to 0x2C s ∷ more_cells (drop (length (up_to 0x2C s)) s)
        → cond t ([] ∷ split_at 0x2C s) (onto_first b (split_at 0x2C s)) ≡ cond t [] (b ∷ up_to 0x2C s) ∷ more_cells (drop (length (cond t [] (b ∷ up_to 0x2C s))) (b ∷ s))
    go true ih = refl
    go false ih = ap (onto_first b) ih

more_at : (l : Bytes) (n : ℕ) → n < length l → more_cells (drop n l) ≡ split_at 0x2C (drop (suc n) l)
more_at l n h = rw (drop-cons l n 0 h)

-- the cell there, which ends at e, and those after it
pub cells_next : (line : Bytes) (from e : ℕ) → from ≤ length line → e ≡ from + length (up_to 0x2C (drop from line)) → cells_left line from ≡ part from e line ∷ cells_left line (e + 1)
cells_next line from e h q =
    let u : Bytes = up_to 0x2C (drop from line) in
    let n : e - from ≡ length u = omega (arith, q) in
    let cell : u ≡ part from e line = sym (ap (λ (m : ℕ). take m (drop from line)) n ∙ up_to_take 0x2C (drop from line)) in
    let more : drop (length u) (drop from line) ≡ drop (e + 1) (0x2C ∷ line) = drop-drop (length u) from line ∙ ap (λ (m : ℕ). drop m line) (sym q) ∙ sym (rw add-one) in
    more_at (0x2C ∷ line) from (omega (arith, h)) ∙ split_next (drop from line) ∙ (λ i. cell i ∷ more_cells (more i))

-- there is none behind the line
none_left : (s : Bytes) → length s ≡ 0 → more_cells s ≡ []
none_left [] h = refl
none_left (b ∷ s) h = absurd (omega (arith, h))

pub cells_end : (line : Bytes) (from : ℕ) → length line < from → cells_left line from ≡ []
cells_end line from h = none_left (drop from (0x2C ∷ line)) (omega (arith, length-drop from (0x2C ∷ line), h))

some_cells : (s : Bytes) → 1 ≤ length (more_cells s) → 1 ≤ length s
some_cells [] h = absurd (omega arith)
some_cells (b ∷ s) h = omega arith

-- ── a row with its 0A, from the columns and the cells left
abbrev pub ended_from : List Column → List Bytes → Bytes
ended_from [] ds = []
ended_from (c ∷ cs) [] = []
ended_from (c ∷ []) (d ∷ ds) = laid_cell_of c d ++ (0x0A ∷ [])
ended_from (c ∷ k ∷ cs) (d ∷ ds) = laid_cell_of c d ++ (0x20 ∷ ended_from (k ∷ cs) ds)

row_ended : (cs : List Column) (ds : List Bytes) → 1 ≤ length cs → length ds ≡ length cs → row_from_cells cs ds ++ (0x0A ∷ []) ≡ ended_from cs ds
row_ended [] ds h m = absurd (omega arith)
row_ended (c ∷ []) [] h m = absurd (omega (arith, m))
row_ended (c ∷ k ∷ cs) [] h m = absurd (omega (arith, m))
row_ended (c ∷ []) (d ∷ ds) h m = refl
row_ended (c ∷ k ∷ cs) (d ∷ ds) h m =
    append_assoc (laid_cell_of c d) (0x20 ∷ row_from_cells (k ∷ cs) ds) (0x0A ∷ []) ∙ ap (λ (l : Bytes). laid_cell_of c d ++ (0x20 ∷ l)) (row_ended (k ∷ cs) ds (omega arith) (omega (arith, m)))

-- the byte after the first cell, which the columns left decide
abbrev pub gap_before : List Column → ℕ
gap_before [] = 0x0A
gap_before (c ∷ cs) = 0x20

ended_next : (c : Column) (cs : List Column) (d : Bytes) (ds : List Bytes) → ended_from (c ∷ cs) (d ∷ ds) ≡ (laid_cell_of c d ++ (gap_before cs ∷ [])) ++ ended_from cs ds
ended_next c [] d ds = sym (append-nil (laid_cell_of c d ++ (0x0A ∷ [])))
ended_next c (k ∷ cs) d ds = sym (append_assoc (laid_cell_of c d) (0x20 ∷ []) (ended_from (k ∷ cs) ds))

pub gap_by : (ps : List (List ℕ)) (i : ℕ) → gap_after i (length ps) ≡ gap_before (columns_in (drop (i + 1) ps))
unfolding gap_after
gap_by ps i = go (ltb (i + 1) (length ps)) refl
  where
    go : (t : Bool) → ltb (i + 1) (length ps) ≡ t → cond t 0x20 0x0A ≡ gap_before (columns_in (drop (i + 1) ps))
    go true e = ap gap_before (sym (columns_next ps (i + 1) (ltb-true (i + 1) (length ps) e)))
    go false e = ap gap_before (sym (columns_end ps (i + 1) (ltb-false (i + 1) (length ps) e)))

-- ── a walk has come to the column i and to the cell at `from`
pub record Walk (ps : List (List ℕ)) (line : Bytes) (from i : ℕ) : Type 0 where
  pub good : any_bad (columns_in (drop i ps)) ≡ false
  pub many : length (cells_left line from) ≡ length (columns_in (drop i ps))
  pub inside : from ≤ length line + 1
  pub within : i ≤ length ps

-- the rest of the row
abbrev pub row_left : List (List ℕ) → Bytes → ℕ → ℕ → Bytes
row_left ps line from i = ended_from (columns_in (drop i ps)) (cells_left line from)

-- ns are all numbers, and ps the same two by two
module _ (ns : List ℕ) (ps : List (List ℕ)) (are : columns_in ps ≡ columns_of ns) (line : Bytes) where
  pub walk_first : any_bad (columns_of ns) ≡ false → length (cells_of line) ≡ length (columns_of ns) → Walk ps line 0 0
  unfolding cells_of
  walk_first g m = record { good = ap any_bad are ∙ g; many = m ∙ ap length (sym are); inside = omega arith; within = omega arith }

  pub row_first : 1 ≤ length (columns_of ns) → length (cells_of line) ≡ length (columns_of ns) → row_left ps line 0 0 ≡ line_of ns line
  unfolding cells_of row_of
  row_first h m = ap (λ (cs : List Column). ended_from cs (cells_left line 0)) are ∙ sym (row_ended (columns_of ns) (cells_of line) h m)

-- no columns left: nothing is left of the row, and no cell
pub row_last : (ps : List (List ℕ)) (line : Bytes) (from i : ℕ) → length ps ≤ i → row_left ps line from i ≡ []
row_last ps line from i h = ap (λ (cs : List Column). ended_from cs (cells_left line from)) (columns_end ps i h)

pub walk_last : (ps : List (List ℕ)) (line : Bytes) (from i : ℕ) → Walk ps line from i → length ps ≤ i → length (cells_left line from) ≡ 0
walk_last ps line from i w h = omega (arith, w.many, ap length (columns_end ps i h))

-- ── one cell further
module _ (ps : List (List ℕ)) (line : Bytes) (from i : ℕ) (w : Walk ps line from i) (more : i < length ps) where
  abbrev pub here : Column
  here = column_in (get_or ps i [])

  left : columns_in (drop i ps) ≡ here ∷ columns_in (drop (i + 1) ps)
  left = columns_next ps i more

  pub there : from ≤ length line
  there = omega (arith, w.many, ap length left, some_cells (drop from (0x2C ∷ line)) (omega (arith, w.many, ap length left)), length-drop from (0x2C ∷ line))

  columns : (1 ≤ here.width) × (here.width ≤ 80) × (any_bad (columns_in (drop (i + 1) ps)) ≡ false)
  columns = first_column here (columns_in (drop (i + 1) ps)) (rw left at w.good)

  pub wide : (1 ≤ here.width) × (here.width ≤ 80)
  wide = (columns.0, columns.1)

  module _ (e : ℕ) (q : e ≡ from + length (up_to 0x2C (drop from line))) where
    cells : cells_left line from ≡ part from e line ∷ cells_left line (e + 1)
    cells = cells_next line from e there q

    pub walk_next : e ≤ length line → Walk ps line (e + 1) (i + 1)
    walk_next h = record { good = columns.2; many = omega (arith, w.many, ap length cells, ap length left); inside = omega (arith, h); within = omega (arith, more) }

    pub row_next : row_left ps line from i ≡ (laid_cell_of here (part from e line) ++ (gap_before (columns_in (drop (i + 1) ps)) ∷ [])) ++ row_left ps line (e + 1) (i + 1)
    row_next = (λ j. ended_from (left j) (cells j)) ∙ ended_next here (columns_in (drop (i + 1) ps)) (part from e line) (cells_left line (e + 1))
