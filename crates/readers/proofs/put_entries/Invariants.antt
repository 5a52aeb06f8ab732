-- `put_entries`: `Putting` is the loop's invariant; a turn writes an entry, unless it goes, and passes it (`putting_next`), and where none is left all are written (`written`) and passed (`passed`).
use Prim.Native.Nat.{◌-◌}
use lib.ListN.{length}
use Rattle.readers.proofs.EntryLaws.{Putting}
use Rattle.readers.proofs.put_entries.Given as goal

abbrev pub invariant-loop-p : goal.invariant-loop-p
invariant-loop-p l = Putting l.label l.content.bytes.now l.content.entries.now l.content.text.now (record { c = l.initial.c; o = l.initial.o }) (record { c = l.c; o = l.o }) l.p l.initial.numbers l.initial.texts l.numbers l.texts

abbrev pub decreases-loop-p : goal.decreases-loop-p
decreases-loop-p l = length l.content.entries.now - l.c.k
