-- Invariant: the size so far and what the tabs from here on add are the size of the result (`Measured`). Where it passes the limit, so does the whole.
use Prim.Native.Nat.{◌-◌}
use lib.ListN.{length}
use Rattle.tabs.proofs.RecordLaws.{Measured}
use Rattle.tabs.proofs.expanded_len.Given as goal

abbrev pub invariant-loop-p : goal.invariant-loop-p
invariant-loop-p l = Measured l.stop l.content l.size l.p

abbrev pub decreases-loop-p : goal.decreases-loop-p
decreases-loop-p l = length l.content - l.p.at
