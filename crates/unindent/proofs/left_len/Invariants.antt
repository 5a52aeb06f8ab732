-- The loop over the lines that are not empty keeps `Scan` (`proofs/Scan.antt`): a line without the prefix is a refusal, at the end there is none and the size is that of the result.
use Prim.Native.Nat.{◌-◌}
use lib.ListN.{length}
use Rattle.unindent.proofs.Scan.{Scan}
use Rattle.unindent.proofs.left_len.Given as goal

abbrev pub invariant-loop-at : goal.invariant-loop-at
invariant-loop-at l = Scan l.prefix l.content l.size l.at

abbrev pub decreases-loop-at : goal.decreases-loop-at
decreases-loop-at l = length l.content - l.at
