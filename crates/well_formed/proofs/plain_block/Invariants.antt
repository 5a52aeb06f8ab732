-- No byte so far is above `highest`.
use Rattle.std.proofs.Common.{ℕ, ◌+◌, ◌≤◌, ◌<◌, get_or}
use Rattle.well_formed.proofs.plain_block.Given as goal

abbrev pub invariant-loop-b : goal.invariant-loop-b
invariant-loop-b l = (i : ℕ) → l.at ≤ i → i < l.at + l.b-index → get_or l.s i 0 ≤ l.highest
