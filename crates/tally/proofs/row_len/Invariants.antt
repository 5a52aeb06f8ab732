-- The lengths of the cells so far and what the cells left take are the row (`Measured`).
use Rattle.tally.proofs.LengthLaws.{Measured}
use Rattle.tally.proofs.row_len.Given as goal

abbrev pub invariant-loop-width : goal.invariant-loop-width
invariant-loop-width l = Measured l.columns l.width-items l.line l.bytes l.from l.width-index
