-- The digits so far have the value n.
use Rattle.sheet.proofs.SheetLaws.{Digits}
use Rattle.sheet.proofs.digits.Given as goal

abbrev pub invariant-loop-b : goal.invariant-loop-b
invariant-loop-b l = Digits l.s l.b-index l.n
