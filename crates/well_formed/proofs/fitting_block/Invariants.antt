-- While nothing bad was found, the places so far fit.
use Rattle.std.proofs.Common.{◌≡◌, false, ◌+◌}
use Rattle.well_formed.specs.Blocks.{Fitting}
use Rattle.well_formed.proofs.fitting_block.Given as goal

abbrev pub invariant-loop-i : goal.invariant-loop-i
invariant-loop-i l = l.bad ≡ false → Fitting (l.from + 3) (l.from + 3 + l.i) l.s
