-- What is written and what comes from `from` on are at every turn the whole, in the data buffer and in the list (`Written`).
use Rattle.cells.proofs.PutLaws.{Written}
use Rattle.cells.proofs.Page.put.Given as goal

abbrev pub invariant-loop-k : goal.invariant-loop-k
invariant-loop-k l = Written l.self.max_width l.self.ellipsis.now l.self.ends.now l.self.content.now l.initial.bytes l.initial.cells l.bytes l.cells l.at l.from l.k
