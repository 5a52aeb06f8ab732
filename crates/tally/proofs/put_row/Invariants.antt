-- The row so far and what the columns and cells left give are the whole (`RowState`); a turn puts one cell and the byte after it.
use Rattle.tally.proofs.PutLaws.{RowState}
use Rattle.tally.proofs.put_row.Given as goal

abbrev pub invariant-loop-i : goal.invariant-loop-i
invariant-loop-i l = RowState l.columns l.pairs l.line l.fn.out l.at l.out l.end l.from l.i
