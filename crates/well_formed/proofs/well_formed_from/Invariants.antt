-- Every character so far is well-formed, so those from the place on decide.
use Rattle.std.proofs.Common.{length, ◌-◌, ◌≡◌, ◌≤◌, drop}
use Rattle.chars.specs.Chars.{chars, all_ok}
use Rattle.well_formed.proofs.well_formed_from.Given as goal

abbrev pub invariant-loop-at : goal.invariant-loop-at
invariant-loop-at l = (l.at ≤ length l.s) × (all_ok (chars (drop l.at l.s)) ≡ all_ok (chars (drop l.from l.s)))

abbrev pub decreases-loop-at : goal.decreases-loop-at
decreases-loop-at l = length l.s - l.at
