-- The text is well-formed up to the last boundary before the places that fit (`passed_back`).
use Rattle.std.proofs.Common.{arith, length, refl, ◌+◌, ◌-◌, ◌≡◌}
use Rattle.chars.specs.Chars.{well_formed_of}
use Rattle.well_formed.specs.Blocks.{Fitting}
use Rattle.well_formed.proofs.BlockLaws.{fitting_join, passed_back}
use Rattle.well_formed.proofs.blocks_end.Goals as goal

pub returns-then-n-lt35-clause-s_value : goal.returns-then-n-lt35-clause-s_value
unfolding well_formed_of
returns-then-n-lt35-clause-s_value c = refl

pub returns-then-not-block_fits-clause-s_value : goal.returns-then-not-block_fits-clause-s_value
returns-then-not-block_fits-clause-s_value c =
    let b = c.last_boundary.ensures in
    passed_back c.args.s.now c.loop-at.at (c.loop-at.at - 3) _ (omega arith) c.loop-at.invariant.within c.loop-at.invariant.fit b.ends_at b.lower_bound.1

pub returns-then-not-block_fits-2-clause-s_value : goal.returns-then-not-block_fits-2-clause-s_value
returns-then-not-block_fits-2-clause-s_value c =
    let b = c.last_boundary-then-not-block_fits-2.ensures in
    passed_back c.args.s.now c.loop-at.at (c.loop-at.at - 3) _ (omega arith) c.loop-at.invariant.within c.loop-at.invariant.fit b.ends_at b.lower_bound.1

pub returns-clause-s_value : goal.returns-clause-s_value
returns-clause-s_value c =
    let n = length c.args.s.now in
    let b = c.last_boundary-2.ensures in
    let k : n - 32 + 32 ≡ n = omega arith in
    let fit : Fitting 0 n c.args.s.now = rw k at (fitting_join c.args.s.now 0 c.loop-at.at (n - 32) (n - 32 + 32) c.loop-at.invariant.fit (c.block_fits-2.ensures c.if-not-block_fits-2.false) (omega arith)) in
    passed_back c.args.s.now n (n - 3) _ (omega arith) (omega arith) fit b.ends_at b.lower_bound.1
