-- Before the first block all is still to come (`blocks_all`).
use native.Mathlib.Omega.{arith}
use Rattle.newlines.proofs.CountLaws.{blocks_all}
use Rattle.newlines.proofs.count_newlines.Goals as goal

pub loop-block-init : goal.loop-block-init
loop-block-init c = omega (arith, blocks_all 64 _ c.args.from c.args.s.now _ _ c.as_chunks.ensures.front c.as_chunks.ensures.back)
