-- Line by line: `Counted` says that n lines are counted, and that the lines of what is left give the rest of the count.
use Prim.Native.Nat.{◌-◌}
use lib.ListN.{length}
use Rattle.indent.proofs.Laws.{Counted}
use Rattle.indent.proofs.filled_lines.Given as goal

abbrev pub invariant-loop-at : goal.invariant-loop-at
invariant-loop-at l = Counted l.content l.n l.at

abbrev pub decreases-loop-at : goal.decreases-loop-at
decreases-loop-at l = length l.content - l.at
