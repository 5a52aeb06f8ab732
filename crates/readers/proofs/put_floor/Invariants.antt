-- `Written` (PutLaws), at the head of each turn: what is written and what is to come are together what the floor is left.
use Prim.Native.Nat.{◌-◌}
use lib.ListN.{length}
use Rattle.writer.specs.Write.{out, blank}
use Rattle.readers.proofs.PutLaws.{Written}
use Rattle.readers.proofs.put_floor.Given as goal

abbrev pub invariant-loop-w : goal.invariant-loop-w
invariant-loop-w l =
    Written l.label l.content.bytes.now l.content.entries.now l.content.text.now l.w l.run (blank l.fn.bytes l.fn.numbers l.fn.texts) (out l.bytes l.numbers l.texts l.w.c)

abbrev pub decreases-loop-w : goal.decreases-loop-w
decreases-loop-w l = length l.content.bytes.now - l.w.c.at
