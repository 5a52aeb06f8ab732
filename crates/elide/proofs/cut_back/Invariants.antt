-- The width so far and what the rest of the width keeps of the characters before `at`, from the last one back, make the cut (`SoFar`).
use Rattle.elide.proofs.BackLaws.{SoFar}
use Rattle.elide.proofs.cut_back.Given as goal

abbrev pub invariant-loop-at : goal.invariant-loop-at
invariant-loop-at l = SoFar l.s l.max l.at l.left

abbrev pub decreases-loop-at : goal.decreases-loop-at
decreases-loop-at l = l.at
