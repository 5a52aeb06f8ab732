-- What is kept of the cells so far, and the joined cells from `from` on, are as long as all (`Summed`).
use Rattle.cells.proofs.PutLaws.{Summed}
use Rattle.cells.proofs.Page.joined_len.Given as goal

abbrev pub invariant-loop-end : goal.invariant-loop-end
invariant-loop-end l = Summed l.self.max_width l.self.ellipsis.now l.self.ends.now l.self.content.now l.total l.from l.end-index
