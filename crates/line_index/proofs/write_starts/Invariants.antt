-- What is in the list and what is still to come are together all (`Filled`); a block without 0A adds nothing (`starts_block`), any other what its bytes add (`starts_part`).
use Prim.Native.Nat.{◌+◌, ◌*◌}
use mathlib.Core.Path.{◌≡◌}
use lib.ListN.{drop}
use Rattle.buffer.proofs.FillLaws.{Filled}
use Rattle.line_index.specs.Starts.{starts_from}
use Rattle.line_index.proofs.write_starts.Given as goal

abbrev pub invariant-loop-block : goal.invariant-loop-block
invariant-loop-block l =
    (l.at ≡ l.from + 16 * l.block-index) × Filled (starts_from l.from (drop l.from l.s)) (starts_from l.at (drop l.at l.s)) l.initial.index l.index l.first l.k
