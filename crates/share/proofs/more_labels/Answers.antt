-- One entry more (`gathered_next`), above the limit (`gathered_over`), and all of them (`gathered_all`).
use native.Mathlib.Omega.{arith}
use mathlib.Core.Path.{refl}
use Rattle.recording.proofs.CheckLaws.{entries_quarter}
use Rattle.share.proofs.FirstLaws.{gathered_none, entry-inside, entry-fits, gathered_over, gathered_next, gathered_all}
use Rattle.share.proofs.more_labels.Goals as goal

pub loop-e-init : goal.loop-e-init
loop-e-init c = rw c.into_iter-e-iterator.ensures.into_iter_gives (rw c.of-e-items.ensures (gathered_none _ _ _ _ _ _ c.requires.0 c.requires.4))

pub add_first-f-requires-clause-text_len_bound : goal.add_first-f-requires-clause-text_len_bound
add_first-f-requires-clause-text_len_bound c =
    (c.requires.1, c.requires.2, (entry-inside _ _ _ _ _ _ _ _ _ _ c.loop-e.invariant _ _ c.in-Some.ensures.steps).0)

pub add_first-f-requires-clause-end_in_bounds : goal.add_first-f-requires-clause-end_in_bounds
add_first-f-requires-clause-end_in_bounds c =
    let i = c.loop-e.invariant in
    (omega (arith, entry-fits _ _ _ _ _ _ _ _ _ _ i _ _ c.in-Some.ensures.steps c.args.more.entries.now refl), i.quads, i.low)

pub returns-then-f-gt65536 : goal.returns-then-f-gt65536
returns-then-f-gt65536 c =
    let a = c.add_first-f.ensures in
    let i = c.loop-e.invariant in
    let g = gathered_over _ _ _ _ _ _ _ _ _ _ i _ _ c.in-Some.ensures.steps _ _ _ a.size_value a.end_value a.firsts_after (omega arith) in
    record {
      counts = g.0;
      end_in_bounds = (omega (arith, entry-fits _ _ _ _ _ _ _ _ _ _ i _ _ c.in-Some.ensures.steps c.args.more.entries.now refl, a.end_value), omega (arith, i.low, a.end_value));
      serve = g.1;
    }

pub loop-e-preserved : goal.loop-e-preserved
loop-e-preserved c =
    let a = c.add_first-f.ensures in
    gathered_next _ _ _ _ _ _ _ _ _ _ c.loop-e.invariant _ _ c.in-Some.ensures.steps _ _ _ a.size_value a.end_value a.firsts_after (omega arith)

pub returns : goal.returns
returns c =
    let i = c.loop-e.invariant in
    let g = gathered_all _ _ _ _ _ _ _ _ _ _ i c.in-None.ensures.steps.0 in
    record { counts = g.0; end_in_bounds = (omega (arith, i.few, entries_quarter c.args.more.entries.now), omega (arith, i.low)); serve = g.1 }
