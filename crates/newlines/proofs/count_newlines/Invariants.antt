-- What is counted, what is in the blocks still to come and what is behind them are together all.
use Prim.Native.Nat.{◌+◌}
use mathlib.Core.Path.{◌≡◌}
use lib.ListN.{drop}
use Rattle.newlines.specs.Newlines.{newlines}
use Rattle.newlines.proofs.CountLaws.{newlines_in}
use Rattle.newlines.proofs.count_newlines.Given as goal

abbrev pub invariant-loop-block : goal.invariant-loop-block
invariant-loop-block l = l.n + newlines_in (drop l.block-index l.blocks) + newlines l.rest ≡ newlines (drop l.from l.s)
