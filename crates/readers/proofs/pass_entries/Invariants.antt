-- `pass_entries`: `Passing` is the loop's invariant; a turn passes an entry (`passing_next`), and where none is left the walk is behind them (`passed`).
use Prim.Native.Nat.{◌-◌}
use lib.ListN.{length}
use Rattle.readers.proofs.EntryLaws.{Passing}
use Rattle.readers.proofs.pass_entries.Given as goal

abbrev pub invariant-loop-p : goal.invariant-loop-p
invariant-loop-p l = Passing l.label l.content.bytes.now l.content.entries.now l.content.text.now (record { c = l.initial.c; o = l.initial.o }) (record { c = l.c; o = l.o }) l.p

abbrev pub decreases-loop-p : goal.decreases-loop-p
decreases-loop-p l = length l.content.entries.now - l.c.k
