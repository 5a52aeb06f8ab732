-- Each entry adds its raw sequence, of at most 65,536 bytes (`raws_next`), and there are at most 4,096 (`raws_small`).
use native.Mathlib.Omega.{arith}
use Rattle.share.proofs.SizeLaws.{raws_next, raws_small, raws_last}
use Rattle.share.proofs.raw_size.Goals as goal

pub overflow_add-size : goal.overflow_add-size
overflow_add-size c = omega (arith, raws_small _ _ _ _ (raws_next _ _ _ _ c.loop-e.invariant _ _ c.in-Some.ensures.steps c.requires.1) c.requires.0, c.raw_len-size.ensures)

pub loop-e-preserved : goal.loop-e-preserved
loop-e-preserved c = rw c.raw_len-size.ensures (raws_next _ _ _ _ c.loop-e.invariant _ _ c.in-Some.ensures.steps c.requires.1)

pub returns : goal.returns
returns c = (raws_last _ _ _ _ c.loop-e.invariant c.in-None.ensures.steps.0, raws_small _ _ _ _ c.loop-e.invariant c.requires.0)
