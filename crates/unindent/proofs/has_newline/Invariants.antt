-- So far it is said whether a 0A is among what is passed.
use mathlib.Core.Path.{◌≡◌}
use lib.ListN.{take}
use Rattle.layout.specs.Unindent.{has_newline_in}
use Rattle.unindent.proofs.has_newline.Given as goal

abbrev pub invariant-loop-b : goal.invariant-loop-b
invariant-loop-b l = l.found ≡ has_newline_in (take l.b-index l.s)
