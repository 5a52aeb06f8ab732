-- `keep_entries`: the loop's state is `State` of Carry with all items written; a turn is `step`, the end is `finish`.
use Rattle.writer.proofs.Carry.{same, State}
use Rattle.writer.specs.Write.{out}
use lib.ListN.{length}
use Prim.Native.Nat.{◌-◌}
use Rattle.writer.proofs.keep_entries.Given as goal

abbrev pub invariant-loop-p : goal.invariant-loop-p
invariant-loop-p l = State same l.content.bytes.now l.content.entries.now l.content.text.now l.n (out l.initial.bytes l.initial.numbers l.initial.texts l.initial.c) l.initial.c (out l.bytes l.numbers l.texts l.c) l.c l.p

abbrev pub decreases-loop-p : goal.decreases-loop-p
decreases-loop-p l = length l.content.entries.now - l.c.k
