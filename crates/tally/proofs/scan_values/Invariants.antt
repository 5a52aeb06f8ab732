-- The lines so far are fine, so the lines left decide; what they come to is added up (`Scanning`).
use Prim.Native.Nat.{◌+◌, ◌-◌}
use lib.ListN.{length}
use Rattle.tally.proofs.ScanLaws.{Scanning}
use Rattle.tally.proofs.scan_values.Given as goal

abbrev pub invariant-loop-at : goal.invariant-loop-at
invariant-loop-at l = Scanning l.columns l.k l.input l.from l.bytes l.boards l.at

abbrev pub decreases-loop-at : goal.decreases-loop-at
decreases-loop-at l = (length l.input + 1) - l.at
