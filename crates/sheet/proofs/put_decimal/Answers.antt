-- Each turn writes one digit more (`one_written`), and the last one stands at the first place (`last_written`).
use Rattle.std.proofs.Common.{arith}
use Rattle.sheet.proofs.DecimalLaws.{none_written, some_left, one_written, last_written}
use Rattle.sheet.proofs.put_decimal.Goals as goal

pub loop-m-init : goal.loop-m-init
loop-m-init c = rw c.decimal_len.ensures.value (none_written c.args.at c.args.n c.args.out.now)

pub overflow_sub-i : goal.overflow_sub-i
overflow_sub-i c = omega (arith, some_left _ _ _ _ _ _ c.loop-m.invariant c.requires c.loop-m-test.true (omega arith))

pub loop-m-preserved : goal.loop-m-preserved
loop-m-preserved c = one_written _ _ _ _ _ _ c.loop-m.invariant c.requires c.loop-m-test.true (omega arith)

pub returns : goal.returns
returns c = (omega (arith, c.decimal_len.ensures.value), last_written _ _ _ _ _ _ c.loop-m.invariant c.requires c.loop-m-test.false)
