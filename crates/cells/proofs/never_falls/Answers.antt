-- Ends that stand in order are those of which none is below the one before it.
use Rattle.cells.proofs.EndsLaws.{sorted_is}
use Rattle.cells.proofs.never_falls.Goals as goal

pub returns : goal.returns
returns c = sorted_is _ _ c.is_sorted.ensures.cases
