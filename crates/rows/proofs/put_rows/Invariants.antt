-- The rows so far stand from `start` on, and the lines from p on give the rest (`Filled`).
use Rattle.std.proofs.Common.{◌+◌, ◌-◌, ◌*◌, ◌≤◌, length, drop}
use Rattle.buffer.proofs.FillLaws.{Filled}
use Rattle.sheet.specs.Sheet.{sheet_lines}
use Rattle.rows.specs.Rows.{rows_from}
use Rattle.rows.proofs.put_rows.Given as goal

abbrev pub invariant-loop-p : goal.invariant-loop-p
invariant-loop-p l = record {
  filled : Filled (rows_from 0 (sheet_lines l.sheet)) (rows_from l.row (sheet_lines (drop l.p l.sheet))) l.initial.out l.out l.start l.at;
  within : l.p ≤ length l.sheet + 1;
  count : l.row ≤ l.p;
  room : l.at ≤ l.start + 28 * l.p;
}

abbrev pub decreases-loop-p : goal.decreases-loop-p
decreases-loop-p l = length l.sheet + 1 - l.p
