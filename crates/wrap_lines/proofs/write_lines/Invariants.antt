-- The numbers written, and those of the lines from `at` on, are the numbers of all lines (`Written`).
use Rattle.std.proofs.Common.{◌-◌, length}
use Rattle.wrap_lines.proofs.WrapLaws as laws
use Rattle.wrap_lines.proofs.write_lines.Given as goal

abbrev pub invariant-loop-next : goal.invariant-loop-next
invariant-loop-next l = laws.Written l.width l.break_words l.«data» l.initial.lines l.lines l.k l.at

abbrev pub decreases-loop-next : goal.decreases-loop-next
decreases-loop-next l = length l.«data» - l.at
