-- The loop over the fill's entries keeps `State` (`proofs/Loop.antt`): what is done, and that the pieces of what is left, repeated, are the rest. At count 0 nothing is written.
use Prim.Native.Nat.{◌-◌}
use lib.ListN.{length}
use Rattle.writer.specs.Write.{out}
use Rattle.pad.proofs.Loop.{State}
use Rattle.pad.proofs.put_padding.Given as goal

abbrev pub invariant-loop-p : goal.invariant-loop-p
invariant-loop-p l = State l.n l.fill.bytes.now l.fill.entries.now l.fill.text.now (out l.initial.bytes l.initial.numbers l.initial.texts l.initial.f) (out l.bytes l.numbers l.texts l.f) l.f l.p

abbrev pub decreases-loop-p : goal.decreases-loop-p
decreases-loop-p l = length l.fill.entries.now - l.f.k
