-- The names so far are not the one, so the cells left decide (`Searched`).
use Prim.Native.Nat.{◌+◌, ◌-◌}
use lib.ListN.{length}
use Rattle.tally.proofs.BoardsLaws.{Searched}
use Rattle.tally.proofs.boards_at.Given as goal

abbrev pub invariant-loop-from : goal.invariant-loop-from
invariant-loop-from l = Searched l.names l.k l.from

abbrev pub decreases-loop-from : goal.decreases-loop-from
decreases-loop-from l = (length l.names + 1) - l.from
