-- The lines counted, and those from `at` on, are all lines (`Counted`).
use Rattle.std.proofs.Common.{◌-◌, length}
use Rattle.wrap_lines.proofs.WrapLaws as laws
use Rattle.wrap_lines.proofs.count_lines.Given as goal

abbrev pub invariant-loop-next : goal.invariant-loop-next
invariant-loop-next l = laws.Counted l.width l.break_words l.«data» l.count l.bytes l.at

abbrev pub decreases-loop-next : goal.decreases-loop-next
decreases-loop-next l = length l.«data» - l.at
