-- `pass_entries`: `Passing` is the loop's invariant; a turn passes an entry (`passing_next`), and where none is left the walk is behind them (`passed`).
use native.Mathlib.Omega.{arith}
use Prim.Native.Nat.{◌+◌, ◌≤◌}
use lib.ListN.{length}
use Rattle.readers.proofs.EntryLaws.{passing_first, whole, may_open, passing_next, passed}
use Rattle.readers.proofs.pass_entries.Goals as goal

pub place_at-p-requires : goal.place_at-p-requires
place_at-p-requires c = c.requires.ready.within

pub loop-p-init : goal.loop-p-init
loop-p-init c = passing_first _ _ _ _ _ _ c.requires c.place_at-p.ensures

pub entry_at-e-requires : goal.entry_at-e-requires
entry_at-e-requires c =
    let entire : c.loop-p.c.k + 4 ≤ length c.args.content.entries.now = whole _ _ _ _ _ _ _ c.loop-p.invariant c.loop-p-test.true in
    entire

pub opened-o-requires : goal.opened-o-requires
opened-o-requires c = may_open _ _ _ _ _ _ _ c.loop-p.invariant c.loop-p-test.true _ c.entry_at-e.ensures (omega (arith, c.well_formed))

pub behind_entry-c-requires : goal.behind_entry-c-requires
behind_entry-c-requires c =
    let entire : c.loop-p.c.k + 4 ≤ length c.args.content.entries.now = whole _ _ _ _ _ _ _ c.loop-p.invariant c.loop-p-test.true in
    omega (arith, entire, c.well_formed)

pub place_at-p-requires-in-loop-p : goal.place_at-p-requires-in-loop-p
place_at-p-requires-in-loop-p c =
    let entire : c.loop-p.c.k + 4 ≤ length c.args.content.entries.now = whole _ _ _ _ _ _ _ c.loop-p.invariant c.loop-p-test.true in
    omega (arith, entire, c.behind_entry-c.ensures.1)

pub loop-p-smaller : goal.loop-p-smaller
loop-p-smaller c =
    let entire : c.loop-p.c.k + 4 ≤ length c.args.content.entries.now = whole _ _ _ _ _ _ _ c.loop-p.invariant c.loop-p-test.true in
    omega (arith, entire, c.behind_entry-c.ensures.1)

pub loop-p-preserved : goal.loop-p-preserved
loop-p-preserved c =
    let o = c.opened-o.ensures in
    let b = c.behind_entry-c.ensures in
    passing_next _ _ _ _ _ _ _ c.loop-p.invariant c.loop-p-test.true _ c.entry_at-e.ensures _ b.0 b.1 _ o.opened o.depth_bound c.place_at-p-in-loop-p.ensures

pub returns : goal.returns
returns c = passed _ _ _ _ _ _ _ c.loop-p.invariant c.loop-p-test.false
