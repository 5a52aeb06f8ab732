-- The places so far fit.
use Rattle.std.proofs.Common.{◌-◌, ◌≤◌, length}
use Rattle.well_formed.specs.Blocks.{Fitting}
use Rattle.well_formed.proofs.blocks_end.Given as goal

abbrev pub invariant-loop-at : goal.invariant-loop-at
invariant-loop-at l = record { three : 3 ≤ l.at; within : l.at ≤ length l.s; fit : Fitting 0 l.at l.s }

abbrev pub decreases-loop-at : goal.decreases-loop-at
decreases-loop-at l = length l.s - l.at
