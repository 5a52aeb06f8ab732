-- The column called `boards` and its cell in a line, found cell by cell: the cells left decide.
use Prim.Native.Nat.{ℕ, suc, ◌+◌, ◌-◌, ◌≤◌, ◌<◌}
use native.Mathlib.Omega.{arith}
use mathlib.Core.Bool.{Bool, true, false, cond, ◌&&◌, not}
use mathlib.Core.Path.{◌≡◌, refl, sym, ap, ◌∙◌}
use mathlib.Core.List.{List, [], ◌∷◌}
use lib.Dec.{leb}
use lib.ListN.{length, drop, get_or}
use borrow.Author.Tests.{lt-ltb, le-ltb, lt-leb, le-leb}
use Rattle.std.specs.Prelude.{Some, None, MatchOption}
use Rattle.buffer.specs.Place.{part}
use Rattle.recording.specs.Lists.{same}
use Rattle.recording.specs.Recording.{Bytes}
use Rattle.recording.specs.Refusals.{refuse_if}
use Rattle.sheet.specs.Sheet.{up_to, value_from, is_decimal, decimal_of}
use Rattle.tally.specs.Tally.{cells_of, boards_name, boards_at_text, boards_cell, is_boards, boards_in_text, boards_fault}
use Rattle.tally.proofs.WalkLaws.{cells_left, all_cells_lem, cells_next, cells_end}

-- ── the column: k cells are passed before the one at `from`, and none of them is the name
pub record Searched (names : Bytes) (k from : ℕ) : Type 0 where
  pub whole : k + boards_at_text (cells_left names from) ≡ boards_at_text (cells_of names)
  pub inside : from ≤ length names + 1
  pub few : k ≤ from

pub searched_first : (names : Bytes) → Searched names 0 0
searched_first names = record { whole = omega (arith, ap boards_at_text (all_cells_lem names)); inside = omega arith; few = omega arith }

pub searched_last : (names : Bytes) (k from : ℕ) → Searched names k from → length names < from → k ≡ boards_at_text (cells_of names)
searched_last names k from s h = omega (arith, s.whole, ap boards_at_text (cells_end names from h))

module _ (names : Bytes) (k from : ℕ) (s : Searched names k from) (more : from ≤ length names) (e : ℕ) (q : e ≡ from + length (up_to 0x2C (drop from names))) (t : Bool)
    (f : t ≡ same (part from e names) boards_name) where
  next : boards_at_text (cells_left names from) ≡ cond t 0 (suc (boards_at_text (cells_left names (e + 1))))
  next = ap boards_at_text (cells_next names from e more q) ∙ ap (λ (b : Bool). cond b 0 (suc (boards_at_text (cells_left names (e + 1))))) (sym f)

  pub name_found : t ≡ true → k ≡ boards_at_text (cells_of names)
  name_found z = omega (arith, s.whole, next ∙ ap (λ (b : Bool). cond b 0 (suc (boards_at_text (cells_left names (e + 1))))) z)

  pub searched_next : t ≡ false → e ≤ length names → from ≤ e → Searched names (k + 1) (e + 1)
  searched_next z h o =
      record { whole = omega (arith, s.whole, next ∙ ap (λ (b : Bool). cond b 0 (suc (boards_at_text (cells_left names (e + 1))))) z); inside = omega (arith, h); few = omega (arith, s.few, o) }

-- ── a number up to 65,535 in the cell k, which is there
boards_read : (k : ℕ) (l : Bytes) → k < length (cells_of l)
    → MatchOption (decimal_of (boards_cell k l)) (boards_fault k l ≡ 41) (λ n. (65535 < n → boards_fault k l ≡ 41) × (n ≤ 65535 → (boards_fault k l ≡ 0) × (n ≡ boards_in_text k l)))
unfolding boards_fault boards_in_text is_boards decimal_of
boards_read k l h = rw (lt-ltb k (length (cells_of l)) h) (go (is_decimal (boards_cell k l)))
  where
    v : ℕ
    v = value_from 0 (boards_cell k l)

    go : (d : Bool)
        → MatchOption (cond d (Some v) None) (refuse_if (not (d && leb v 65535)) 41 ≡ 41)
        (λ n. (65535 < n → refuse_if (not (d && leb v 65535)) 41 ≡ 41) × (n ≤ 65535 → (refuse_if (not (d && leb v 65535)) 41 ≡ 0) × (n ≡ v)))
    go true = (λ g. rw (lt-leb v 65535 g), λ g. (rw (le-leb v 65535 g), refl))
    go false = refl

-- ── the cell: i of k cells are passed before the one at `from`
pub record Passed (line : Bytes) (k from i : ℕ) : Type 0 where
  pub cell : boards_cell k line ≡ get_or (cells_left line from) (k - i) []
  pub many : length (cells_of line) ≡ i + length (cells_left line from)
  pub inside : from ≤ length line
  pub within : i ≤ k

pub passed_first : (line : Bytes) (k : ℕ) → Passed line k 0 0
unfolding boards_cell
passed_first line k =
    let z : k - 0 ≡ k = omega arith in
    record { cell = rw z (ap (λ (ds : List Bytes). get_or ds k []) (sym (all_cells_lem line))); many = omega (arith, ap length (all_cells_lem line)); inside = omega arith; within = omega arith }

module _ (line : Bytes) (k from i : ℕ) (p : Passed line k from i) (e : ℕ) (q : e ≡ from + length (up_to 0x2C (drop from line))) where
  cells : cells_left line from ≡ part from e line ∷ cells_left line (e + 1)
  cells = cells_next line from e p.inside q

  -- the line ends before the cell k
  pub no_cell : i < k → e ≡ length line → (boards_fault k line ≡ 0) × (0 ≡ boards_in_text k line)
  unfolding boards_fault boards_in_text
  no_cell h z =
      let t = le-ltb k (length (cells_of line)) (omega (arith, p.many, ap length cells, ap length (cells_end line (e + 1) (omega (arith, z))), h)) in
      (rw t, rw t)

  pub passed_next : i < k → e < length line → Passed line k (e + 1) (i + 1)
  passed_next h o =
      let s : k - i ≡ suc (k - (i + 1)) = omega (arith, h) in
      record {
        cell = p.cell ∙ ap (λ (ds : List Bytes). get_or ds (k - i) []) cells ∙ ap (λ (n : ℕ). get_or (part from e line ∷ cells_left line (e + 1)) n []) s;
        many = omega (arith, p.many, ap length cells);
        inside = omega (arith, o);
        within = omega (arith, h);
      }

  -- this is the cell
  module _ (h : k ≤ i) where
    is_there : k < length (cells_of line)
    is_there = omega (arith, p.many, ap length cells, p.within, h)

    the_cell : boards_cell k line ≡ part from e line
    the_cell =
        let z : k - i ≡ 0 = omega (arith, h) in
        p.cell ∙ ap (λ (ds : List Bytes). get_or ds (k - i) []) cells ∙ ap (λ (n : ℕ). get_or (part from e line ∷ cells_left line (e + 1)) n []) z

    pub read_none : decimal_of (part from e line) ≡ None → boards_fault k line ≡ 41
    read_none z = rw (ap decimal_of the_cell ∙ z) at (boards_read k line is_there)

    pub read_some : (n : ℕ) → decimal_of (part from e line) ≡ Some n → (65535 < n → boards_fault k line ≡ 41) × (n ≤ 65535 → (boards_fault k line ≡ 0) × (n ≡ boards_in_text k line))
    read_some n z = rw (ap decimal_of the_cell ∙ z) at (boards_read k line is_there)
