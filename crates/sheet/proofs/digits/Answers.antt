-- A value that passes 32 bits is found at the product or at the sum (`too_large`).
use Rattle.std.proofs.Common.{arith}
use Rattle.sheet.proofs.SheetLaws.{too_large}
use Rattle.sheet.proofs.digits.Goals as goal

pub returns-in_err-checked_mul : goal.returns-in_err-checked_mul
returns-in_err-checked_mul c = rw c.from_residual.ensures (too_large c.args.s.now c.loop-b.b-index c.loop-b.n c.loop-b.invariant c.loop-b-test.true (grind arith))

pub returns-in_err-n : goal.returns-in_err-n
returns-in_err-n c = rw c.from_residual-in_err-n.ensures (too_large c.args.s.now c.loop-b.b-index c.loop-b.n c.loop-b.invariant c.loop-b-test.true (grind arith))
