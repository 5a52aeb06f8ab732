-- The sum goes on by the width of the next character (`width_next`).
use Rattle.std.proofs.Common.{arith}
use Rattle.chars.proofs.FoldLaws.{width_next}
use Rattle.chars.proofs.display_width.Goals as goal

pub loop-at-preserved : goal.loop-at-preserved
loop-at-preserved c =
    let e = c.seen_at-c.ensures.len_value in
    let n = width_next c.args.s.now c.loop-at.at _ _ c.loop-at-test.true e.0 e.1 in
    (omega arith, omega arith, omega (arith, n))
