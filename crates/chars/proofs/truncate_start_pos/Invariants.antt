-- The cut is `truncate_start_pos_of`: what is left at each place has the longest ending within max that the whole text has; the first ending that is narrow enough is that one.
use Rattle.std.proofs.Common.{length, drop, ◌-◌, ◌≡◌, ◌≤◌}
use Rattle.chars.specs.Chars.{chars, width_of}
use Rattle.chars.proofs.CutLaws.{longest}
use Rattle.chars.proofs.truncate_start_pos.Given as goal

abbrev pub invariant-loop-left : goal.invariant-loop-left
invariant-loop-left l =
    record { within : l.at ≤ length l.s; here : l.left ≡ width_of (chars (drop l.at l.s)); same : longest l.max (chars (drop l.at l.s)) ≡ longest l.max (chars l.s) }

abbrev pub decreases-loop-left : goal.decreases-loop-left
decreases-loop-left l = length l.s - l.at
