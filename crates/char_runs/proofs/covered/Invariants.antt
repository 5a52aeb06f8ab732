-- Whole characters without a 0A so far, and their width (`Plain`): first visible ASCII bytes (`plain-visible`), then one character further in each turn.
use Rattle.std.proofs.Common.{◌-◌}
use Rattle.char_runs.proofs.RunLaws.{Plain}
use Rattle.char_runs.proofs.covered.Given as goal

abbrev pub invariant-loop-i : goal.invariant-loop-i
invariant-loop-i l = Plain l.s l.at l.end l.i l.width

abbrev pub decreases-loop-i : goal.decreases-loop-i
decreases-loop-i l = l.end - l.i
