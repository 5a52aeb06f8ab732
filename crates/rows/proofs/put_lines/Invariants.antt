-- The rows so far stand from `at` on, and the numbers that are left give the rest (`Filled`).
use Rattle.std.proofs.Common.{◌+◌, ◌*◌, ◌≤◌, drop}
use Rattle.buffer.proofs.FillLaws.{Filled}
use Rattle.rows.proofs.RowLaws.{rows_in}
use Rattle.rows.proofs.put_lines.Given as goal

abbrev pub invariant-loop-line : goal.invariant-loop-line
invariant-loop-line l = record { filled : Filled (rows_in l.row 0 l.rows) (rows_in l.row l.line (drop l.line l.rows)) l.initial.out l.out l.at l.end; room : l.end ≤ l.at + 55 * l.line }
