-- The loop: `i` is where a character ends, at first a place near `end`, and one character further in each turn.
use Rattle.std.proofs.Common.{◌-◌, ◌≤◌, drop}
use Rattle.chars.specs.Chars.{Seam}
use Rattle.char_runs.proofs.whole_end.Given as goal

abbrev pub invariant-loop-i : goal.invariant-loop-i
invariant-loop-i l = record { from : l.at ≤ l.i; to : l.i ≤ l.end; seam : Seam (drop l.at l.s) (l.i - l.at) }

abbrev pub decreases-loop-i : goal.decreases-loop-i
decreases-loop-i l = l.end - l.i
