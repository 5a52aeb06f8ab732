-- From the last digit to the first (`SoFar`).
use Rattle.sheet.proofs.DecimalLaws.{SoFar}
use Rattle.sheet.proofs.put_decimal.Given as goal

abbrev pub invariant-loop-m : goal.invariant-loop-m
invariant-loop-m l = SoFar l.at l.n l.initial.out l.out l.i l.m

abbrev pub decreases-loop-m : goal.decreases-loop-m
decreases-loop-m l = l.m
