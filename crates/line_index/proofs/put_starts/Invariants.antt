-- What is in the list and what is still to come are together all (`Filled`); a 0A adds one number, any other byte none.
use Prim.Native.Nat.{◌+◌}
use lib.ListN.{drop}
use Rattle.buffer.proofs.FillLaws.{Filled}
use Rattle.line_index.specs.Starts.{starts_from}
use Rattle.line_index.proofs.put_starts.Given as goal

abbrev pub invariant-loop-i : goal.invariant-loop-i
invariant-loop-i l = Filled (starts_from l.at l.part) (starts_from (l.at + l.i) (drop l.i l.part)) l.initial.index l.index l.k l.n
