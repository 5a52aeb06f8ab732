-- So far it is said whether a 0A is among what is passed.
use mathlib.Core.Path.{◌≡◌}
use lib.ListN.{take}
use Rattle.newlines.specs.Newlines.{has_break_in}
use Rattle.newlines.proofs.has_break.Given as goal

abbrev pub invariant-loop-byte : goal.invariant-loop-byte
invariant-loop-byte l = l.found ≡ has_break_in (take l.byte-index l.block)
