-- The cut is `truncate_end_pos_of`: at each place, the bytes and the width so far and those of what the rest of the width keeps from there on make it.
use Rattle.std.proofs.Common.{length, drop, ◌+◌, ◌-◌, ◌*◌, ◌≡◌, ◌≤◌}
use Rattle.chars.specs.Chars.{chars, bytes_of, width_of}
use Rattle.chars.specs.Cut.{kept_within, truncate_end_pos_of, truncate_end_width}
use Rattle.chars.proofs.cut_end.Given as goal

abbrev pub invariant-loop-at : goal.invariant-loop-at
invariant-loop-at l =
    record {
      within : l.at ≤ length l.s;
      room : l.left ≤ l.max;
      small : l.max - l.left ≤ 2 * l.at;
      bytes : l.at + length (bytes_of (kept_within l.left (chars (drop l.at l.s)))) ≡ truncate_end_pos_of l.max l.s;
      columns : l.max - l.left + width_of (kept_within l.left (chars (drop l.at l.s))) ≡ truncate_end_width l.max l.s;
    }

abbrev pub decreases-loop-at : goal.decreases-loop-at
decreases-loop-at l = length l.s - l.at
