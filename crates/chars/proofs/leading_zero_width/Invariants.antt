-- The place is `zero_width_len_of`: at each place, the bytes so far and those of the leading zero-width characters from there on make it.
use Rattle.std.proofs.Common.{length, drop, ◌+◌, ◌-◌, ◌≡◌, ◌≤◌}
use Rattle.chars.specs.Chars.{chars, bytes_of}
use Rattle.chars.specs.Cut.{leading_zero_width_of, zero_width_len_of}
use Rattle.chars.proofs.leading_zero_width.Given as goal

abbrev pub invariant-loop-at : goal.invariant-loop-at
invariant-loop-at l = (l.at ≤ length l.s) × (l.at + length (bytes_of (leading_zero_width_of (chars (drop l.at l.s)))) ≡ zero_width_len_of l.s)

abbrev pub decreases-loop-at : goal.decreases-loop-at
decreases-loop-at l = length l.s - l.at
