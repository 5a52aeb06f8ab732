-- What is counted and the cells still to come are together all; the cell that is under way is in both.
use Prim.Native.Nat.{◌+◌, ◌≤◌}
use mathlib.Core.Path.{◌≡◌}
use lib.ListN.{length, drop}
use Rattle.tally.specs.Tally.{cells_of}
use Rattle.tally.proofs.cell_count.Given as goal

abbrev pub invariant-loop-b : goal.invariant-loop-b
invariant-loop-b l = (l.n ≤ l.b-index + 1) × (l.n + length (cells_of (drop l.b-index l.line)) ≡ length (cells_of l.line) + 1)
