-- The numbers from here on say what all say (`stand_behind_in`).
use mathlib.Core.Path.{◌≡◌}
use lib.ListN.{drop}
use Rattle.line_index.specs.Code.{stand_behind_in}
use Rattle.line_index.proofs.stand_behind.Given as goal

abbrev pub invariant-loop-start : goal.invariant-loop-start
invariant-loop-start l = stand_behind_in l.s l.last (drop l.start-index l.starts) ≡ stand_behind_in l.s 0 l.starts
