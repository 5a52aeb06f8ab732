-- A character of width 0 is one of them (`zero_more`), and the first other one ends them (`zero_none`).
use Rattle.std.proofs.Common.{arith}
use Rattle.chars.proofs.FoldLaws.{zero_more, zero_none}
use Rattle.chars.proofs.leading_zero_width.Goals as goal

pub returns-then-c-ne0-clause-value : goal.returns-then-c-ne0-clause-value
returns-then-c-ne0-clause-value c =
    let e = c.seen_at-c.ensures.len_value in
    let n = zero_none c.args.s.now c.loop-at.at _ _ c.loop-at-test.true e.0 e.1 c.if-c-ne0.true in
    grind (arith, n)

pub loop-at-preserved : goal.loop-at-preserved
loop-at-preserved c =
    let e = c.seen_at-c.ensures.len_value in
    let n = zero_more c.args.s.now c.loop-at.at _ _ c.loop-at-test.true e.0 e.1 c.if-c-ne0.false in
    (omega arith, omega (arith, n))
