-- The cells so far are passed, so the cell k is among the cells left, or there is none (`Passed`).
use Rattle.tally.proofs.BoardsLaws.{Passed}
use Rattle.tally.proofs.boards_in.Given as goal

abbrev pub invariant-loop : goal.invariant-loop
invariant-loop l = Passed l.line l.k l.from l.counter
