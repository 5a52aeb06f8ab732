-- `put_entries`: `Putting` is the loop's invariant; a turn writes an entry, unless it goes, and passes it (`putting_next`), and where none is left all are written (`written`) and passed (`passed`).
use native.Mathlib.Omega.{arith}
use Prim.Native.Nat.{◌+◌, ◌≤◌}
use lib.ListN.{length}
use Rattle.readers.proofs.EntryLaws.{whole, ok, may_open, passed, putting_first, may_put, putting_next, long, written}
use Rattle.readers.proofs.put_entries.Goals as goal

pub place_at-p-requires : goal.place_at-p-requires
place_at-p-requires c = c.requires.arrived.ready.within

pub loop-p-init : goal.loop-p-init
loop-p-init c = let pre = c.requires in putting_first _ _ _ _ _ _ _ _ pre.arrived pre.entries_fit c.place_at-p.ensures

pub entry_at-e-requires : goal.entry_at-e-requires
entry_at-e-requires c =
    let entire : c.loop-p.c.k + 4 ≤ length c.args.content.entries.now = whole _ _ _ _ _ _ _ c.loop-p.invariant.passing c.loop-p-test.true in
    entire

pub drops-goes-requires : goal.drops-goes-requires
drops-goes-requires c = (ok _ _ _ _ _ _ _ c.loop-p.invariant.passing c.loop-p-test.true _ c.entry_at-e.ensures).0

pub put_unless-c-requires : goal.put_unless-c-requires
put_unless-c-requires c = let q = may_put _ _ _ _ _ _ _ _ _ _ _ c.loop-p.invariant c.loop-p-test.true _ c.entry_at-e.ensures _ c.drops-goes.ensures (omega (arith, c.well_formed)) in record { len_value = q.0; d_le_data_limit = q.1.0; e_in_bounds = q.1.1 }

pub opened-o-requires : goal.opened-o-requires
opened-o-requires c =
    may_open _ _ _ _ _ _ _ c.loop-p.invariant.passing c.loop-p-test.true _ c.entry_at-e.ensures
    (omega (arith, c.well_formed))

pub place_at-p-requires-in-loop-p : goal.place_at-p-requires-in-loop-p
place_at-p-requires-in-loop-p c =
    let entire : c.loop-p.c.k + 4 ≤ length c.args.content.entries.now = whole _ _ _ _ _ _ _ c.loop-p.invariant.passing c.loop-p-test.true in
    omega (arith, entire, c.put_unless-c.ensures.1)

pub loop-p-smaller : goal.loop-p-smaller
loop-p-smaller c =
    let entire : c.loop-p.c.k + 4 ≤ length c.args.content.entries.now = whole _ _ _ _ _ _ _ c.loop-p.invariant.passing c.loop-p-test.true in
    omega (arith, entire, c.put_unless-c.ensures.1)

pub loop-p-preserved : goal.loop-p-preserved
loop-p-preserved c =
    let r = c.put_unless-c.ensures in
    let o = c.opened-o.ensures in
    putting_next _ _ _ _ _ _ _ _ _ _ _ c.loop-p.invariant c.loop-p-test.true _ c.entry_at-e.ensures _ c.drops-goes.ensures
    _ _ _ _ r.0 r.1 r.2 o.opened o.depth_bound c.place_at-p-in-loop-p.ensures

pub shape_of-numbers : goal.shape_of-numbers
shape_of-numbers c = (long _ _ _ _ _ _ _ _ _ _ _ c.loop-p.invariant).0

pub shape_of-texts : goal.shape_of-texts
shape_of-texts c = (long _ _ _ _ _ _ _ _ _ _ _ c.loop-p.invariant).1

pub returns : goal.returns
returns c =
    let s = c.loop-p.invariant in
    record {
      passed = passed _ _ _ _ _ _ _ s.passing c.loop-p-test.false;
      entries_written = written _ _ _ _ _ _ _ _ _ _ _ s c.loop-p-test.false;
    }
