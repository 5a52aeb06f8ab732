-- What is in the list and what is still to come are together all (`Filled`); a 0A adds one number, any other byte none.
use native.Mathlib.Omega.{arith}
use Prim.Native.Nat.{◌+◌, ◌<◌}
use mathlib.Core.Path.{◌≡◌, ap}
use lib.ListN.{length}
use Rattle.line_index.specs.Starts.{starts_from}
use Rattle.buffer.proofs.FillLaws.{fill_start, fill_room, fill_kept, fill_stored, fill_end}
use Rattle.line_index.proofs.WriteLaws.{starts_newline, starts_other, starts_over}
use Rattle.line_index.proofs.put_starts.Goals as goal
use Rattle.line_index.proofs.put_starts.Goals.{Then-b-eq10, then-b-eq10, else-b-eq10}

-- where a 0A is found there is a number more to come, so there is room for it
room : (c : Then-b-eq10) → c.loop-i.n < length c.loop-i.index
room c =
    let a = c.args in
    omega (
      arith,
      fill_room _ _ _ _ _ _ c.loop-i.invariant c.requires.part_in_bounds,
      ap length (starts_newline a.at c.loop-i.i a.part.now c.loop-i-test.true c.if-b-eq10.true),
    )

pub loop-i-init : goal.loop-i-init
loop-i-init c =
    let a = c.args in
    let e : a.at + 0 ≡ a.at = omega arith in
    fill_start _ _ a.index.now a.k (ap (λ n. starts_from n a.part.now) e)

pub offset_bounds-index-n : goal.offset_bounds-index-n
offset_bounds-index-n c = omega (arith, room c, c.well_formed)

pub bounds-index-n : goal.bounds-index-n
bounds-index-n c = room c

pub overflow_add-n : goal.overflow_add-n
overflow_add-n c = omega (arith, room c, c.well_formed)

pub loop-i-preserved : goal.loop-i-preserved
loop-i-preserved c =
    let a = c.args in
    let l = c.loop-i in
    let more : l.i < length a.part.now = c.loop-i-test.true in
    elim c.if-b-eq10.branch [
      | then-b-eq10 w ↦ fill_stored _ _ _ _ _ _ l.invariant c.requires.part_in_bounds _ _ _ _ (starts_newline a.at l.i a.part.now more w.if-b-eq10.true) w.index-is w.n-is
      | else-b-eq10 w ↦ fill_kept _ _ _ _ _ _ l.invariant _ _ _ (starts_other a.at l.i a.part.now more w.if-b-eq10.false) w.index-is w.n-is
    ]

pub returns : goal.returns
returns c =
    let l = c.loop-i in
    let e = fill_end _ _ _ _ _ _ l.invariant (starts_over (c.args.at + l.i) l.i c.args.part.now c.loop-i-test.false) in
    record { index_after = e.0; value = e.1 }
