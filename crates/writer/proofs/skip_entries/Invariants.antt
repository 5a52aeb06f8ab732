-- `skip_entries`: as `keep_entries`, with the entries alone written (`entries_only`).
use Rattle.writer.proofs.Carry.{State}
use Rattle.writer.specs.Write.{out}
use Rattle.recording.specs.Edit.{entries_only}
use lib.ListN.{length}
use Prim.Native.Nat.{◌-◌}
use Rattle.writer.proofs.skip_entries.Given as goal

abbrev pub invariant-loop-p : goal.invariant-loop-p
invariant-loop-p l = State entries_only l.content.bytes.now l.content.entries.now l.content.text.now l.n (out l.bytes l.initial.numbers l.initial.texts l.initial.c) l.initial.c (out l.bytes l.numbers l.texts l.c) l.c l.p

abbrev pub decreases-loop-p : goal.decreases-loop-p
decreases-loop-p l = length l.content.entries.now - l.c.k
