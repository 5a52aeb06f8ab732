-- The rows so far and those of the lines left are the whole (`RowsState`).
use Prim.Native.Nat.{◌+◌, ◌-◌}
use lib.ListN.{length}
use Rattle.tally.proofs.PutLaws.{RowsState}
use Rattle.tally.proofs.put_rows.Given as goal

abbrev pub invariant-loop-from : goal.invariant-loop-from
invariant-loop-from l = RowsState l.columns l.input l.fn.out l.out l.end l.from

abbrev pub decreases-loop-from : goal.decreases-loop-from
decreases-loop-from l = (length l.input + 1) - l.from
