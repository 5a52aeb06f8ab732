-- The outer loop keeps a line under way (`Words`), the inner one the search for a cut (`Search`): `left` is left of the room, and so much of the width to break at.
use Rattle.std.proofs.Common.{◌-◌, ◌≤◌, length}
use Rattle.line.specs.Rest.{word_text}
use Rattle.line.proofs.LineLaws as laws
use Rattle.line.proofs.LoopLaws as loops
use Rattle.line.proofs.next_line.Given as goal

abbrev pub invariant-loop-c : goal.invariant-loop-c
invariant-loop-c l = record { search : laws.Search l.word l.limit l.i (l.limit - (l.room - l.left)); left_room : l.left ≤ l.room; room_limit : l.room ≤ l.limit }

abbrev pub decreases-loop-c : goal.decreases-loop-c
decreases-loop-c l = length (word_text l.word) - l.i

abbrev pub invariant-words : goal.invariant-words
invariant-words l = loops.Words l.«data» l.at l.width l.break_words l.word l.gap l.run l.first l.going

abbrev pub decreases-words : goal.decreases-words
decreases-words l = length l.word
