-- Fewer than four numbers are no entry (`entries_few`), four begin with the position (`entries_next`).
use native.Mathlib.Omega.{arith}
use lib.ListN.{drop, length-drop}
use Rattle.recording.proofs.EntryLaws.{entries_few, entries_next}
use Rattle.writer.specs.Write.{place_for}
use Rattle.writer.proofs.place_at.Goals as goal

pub returns-then-entries-k-lt4 : goal.returns-then-entries-k-lt4
unfolding place_for
returns-then-entries-k-lt4 c =
    let a = c.args in
    rw (entries_few (drop a.k a.entries.now) (omega (arith, length-drop a.k a.entries.now, c.if-entries-k-lt4.true)))

pub returns : goal.returns
unfolding place_for
returns c =
    let a = c.args in
    rw (entries_next a.entries.now a.k (omega (arith, c.if-entries-k-lt4.false, c.requires)))
