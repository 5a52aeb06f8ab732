-- Every byte passed on the way back trails.
use Rattle.std.proofs.Common.{ℕ, ◌<◌, ◌≤◌, get_or}
use Rattle.chars.specs.Utf8.{Trails}
use Rattle.elide.proofs.start_before.Given as goal

abbrev pub invariant-loop-i : goal.invariant-loop-i
invariant-loop-i l = (j : ℕ) → l.i ≤ j → j < l.at → Trails (get_or l.s j 0)
