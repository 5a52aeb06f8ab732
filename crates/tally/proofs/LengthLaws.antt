-- How long the row of a line is, found cell by cell: what is added up and what the cells left take are the whole.
use Prim.Native.Nat.{ℕ, ◌+◌, ◌*◌, ◌≤◌, ◌<◌}
use native.Mathlib.Omega.{arith}
use mathlib.Core.Bool.{true, false}
use mathlib.Core.Path.{◌≡◌, refl, sym, ap, ◌∙◌}
use mathlib.Core.List.{List, [], ◌∷◌, ◌++◌}
use lib.ListN.{length, drop, get_or, length-append}
use Rattle.chars.proofs.NarrowLaws.{width_short}
use Rattle.controls.specs.Controls.{is_clean_text}
use Rattle.cells.specs.Cells.{cell_text}
use Rattle.buffer.specs.Place.{part}
use Rattle.buffer.proofs.Laws.{length_part}
use Rattle.recording.specs.Recording.{Bytes}
use Rattle.sheet.specs.Sheet.{up_to}
use Rattle.tally.specs.Tally.{cells_of, columns_of, tilde, laid_cell_of, wrong_columns_of}
use Rattle.tally.specs.Code.{laid_len, cells_clean, line_of}
use Rattle.tally.proofs.CellLaws.{laid_length}
use Rattle.tally.proofs.ColumnLaws.{column_in, columns_in, how_many}
use Rattle.tally.proofs.FaultLaws.{right_columns}
use Rattle.tally.proofs.WalkLaws.{gap_before, cells_left, all_cells_lem, cells_next, Walk, row_left, walk_first, row_first, row_last, walk_last, here, there, walk_next, row_next}

pub few_columns : (ns : List ℕ) (ps : List (List ℕ)) → columns_in ps ≡ columns_of ns → wrong_columns_of ns ≡ false → length ps ≤ 12
few_columns ns ps are h = let c = right_columns ns h in omega (arith, c.few, how_many ps, ap length are)

-- a cell that is laid out has a byte: none has length 0
pub laid_some : (w : ℕ) (d : Bytes) → 1 ≤ w → 1 ≤ laid_len w d
unfolding laid_len
laid_some w d h = omega (arith, h, width_short (cell_text w tilde d))

-- ── the loop: `bytes` are added up before the cell at `from`, whose column is the one at i; ps are the numbers ns two by two
pub record Measured (ns : List ℕ) (ps : List (List ℕ)) (line : Bytes) (bytes from i : ℕ) : Type 0 where
  pub walk : Walk ps line from i
  pub rest : bytes + length (row_left ps line from i) ≡ length (line_of ns line)
  -- none so far is turned away, so the others decide
  pub clean : cells_clean (cells_of line) ≡ cells_clean (cells_left line from)
  pub small : bytes ≤ from + 82 * i

pub measured_first : (ns : List ℕ) (ps : List (List ℕ)) (line : Bytes) → columns_in ps ≡ columns_of ns → wrong_columns_of ns ≡ false → length (cells_of line) ≡ length (columns_of ns) → Measured ns ps line 0 0 0
measured_first ns ps line are h m =
    let c = right_columns ns h in
    record { walk = walk_first ns ps are line c.good m; rest = omega (arith, ap length (row_first ns ps are line c.some m)); clean = ap cells_clean (sym (all_cells_lem line)); small = omega arith }

empty : (ds : List Bytes) → length ds ≡ 0 → ds ≡ []
empty [] h = refl
empty (d ∷ ds) h = absurd (omega (arith, h))

pub measured_last : (ns : List ℕ) (ps : List (List ℕ)) (line : Bytes) (bytes from i : ℕ) → Measured ns ps line bytes from i → length ps ≤ i
    → (cells_clean (cells_of line) ≡ true) × (bytes ≡ length (line_of ns line))
measured_last ns ps line bytes from i m h =
    let none : cells_left line from ≡ [] = empty (cells_left line from) (walk_last ps line from i m.walk h) in
    (m.clean ∙ ap cells_clean none, omega (arith, m.rest, ap length (row_last ps line from i h)))

module _ (ns : List ℕ) (ps : List (List ℕ)) (line : Bytes) (bytes from i : ℕ) (m : Measured ns ps line bytes from i) (more : i < length ps) (e : ℕ)
    (q : e ≡ from + length (up_to 0x2C (drop from line))) where
  abbrev cell : Bytes
  cell = part from e line

  cells : cells_left line from ≡ cell ∷ cells_left line (e + 1)
  cells = cells_next line from e (there ps line from i m.walk more) q

  pub turned_away : is_clean_text cell ≡ false → cells_clean (cells_of line) ≡ false
  turned_away z = m.clean ∙ ap cells_clean cells ∙ rw z

  pub measured_next : is_clean_text cell ≡ true → (n : ℕ) → n ≡ laid_len (column_in (get_or ps i [])).width cell → n ≤ length cell + 81 → e ≤ length line → from ≤ e
      → Measured ns ps line (bytes + (n + 1)) (e + 1) (i + 1)
  measured_next t n f s h o =
      let c = here ps line from i m.walk more in
      let g = gap_before (columns_in (drop (i + 1) ps)) in
      record {
        walk = walk_next ps line from i m.walk more e q h;
        rest =
            omega (arith, m.rest, f, laid_length c cell, ap length (row_next ps line from i m.walk more e q), length-append (laid_cell_of c cell ++ (g ∷ [])) (row_left ps line (e + 1) (i + 1)), length-append (laid_cell_of c cell) (g ∷ []));
        clean = m.clean ∙ ap cells_clean cells ∙ rw t;
        small = omega (arith, m.small, s, o, length_part from e line h);
      }
