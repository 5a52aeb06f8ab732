-- The sum is `text_width_of`: at each place, the sum so far and the width of the characters from there on make it.
use Rattle.std.proofs.Common.{length, drop, ◌+◌, ◌-◌, ◌*◌, ◌≡◌, ◌≤◌}
use Rattle.chars.specs.Chars.{chars, width_of, text_width_of}
use Rattle.chars.proofs.display_width.Given as goal

abbrev pub invariant-loop-at : goal.invariant-loop-at
invariant-loop-at l = (l.at ≤ length l.s) × (l.sum ≤ 2 * l.at) × (l.sum + width_of (chars (drop l.at l.s)) ≡ text_width_of l.s)

abbrev pub decreases-loop-at : goal.decreases-loop-at
decreases-loop-at l = length l.s - l.at
