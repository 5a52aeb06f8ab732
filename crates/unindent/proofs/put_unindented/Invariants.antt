-- The loop over the lines that have the prefix keeps `State` (`proofs/Loop.antt`): what is written, and that the plan for what is left gives the rest.
use Prim.Native.Nat.{◌-◌}
use lib.ListN.{length}
use Rattle.writer.specs.Write.{out, blank}
use Rattle.unindent.proofs.Loop.{State}
use Rattle.unindent.proofs.put_unindented.Given as goal

abbrev pub invariant-loop-p : goal.invariant-loop-p
invariant-loop-p l =
    State l.prefix l.content.bytes.now l.content.entries.now l.content.text.now (blank l.initial.bytes l.initial.numbers l.initial.texts)
    (out l.bytes l.numbers l.texts l.c) l.c l.p

abbrev pub decreases-loop-p : goal.decreases-loop-p
decreases-loop-p l = length l.content.bytes.now - l.p
