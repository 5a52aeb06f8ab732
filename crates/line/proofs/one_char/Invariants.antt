-- What is passed, and the zero-width characters from there on, is the whole head.
use Rattle.std.proofs.Common.{◌≡◌, ◌+◌, ◌-◌, ◌≤◌, length, drop}
use Rattle.chars.specs.Cut.{zero_width_len_of}
use Rattle.line.specs.Rest.{word_text}
use Rattle.line.specs.Line.{one_head}
use Rattle.line.proofs.one_char.Given as goal

abbrev pub invariant-loop-c : goal.invariant-loop-c
invariant-loop-c l = record { first : l.first.len ≤ l.at; within : l.at ≤ length (word_text l.word); head : l.at + zero_width_len_of (drop l.at (word_text l.word)) ≡ (one_head l.word).len }

abbrev pub decreases-loop-c : goal.decreases-loop-c
decreases-loop-c l = length (word_text l.word) - l.at
