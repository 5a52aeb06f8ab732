-- The loop over the lines that get a prefix keeps `State` (`proofs/Loop.antt`): what is done, and that the plan for what is left gives the rest.
use Prim.Native.Nat.{◌-◌}
use lib.ListN.{length}
use Rattle.recording.specs.Recording.{items}
use Rattle.recording.specs.Read.{recording_of}
use Rattle.writer.specs.Write.{out, blank}
use Rattle.indent.proofs.Loop.{State}
use Rattle.indent.proofs.put_indented.Given as goal

abbrev pub invariant-loop-p : goal.invariant-loop-p
invariant-loop-p l =
    State (items (recording_of l.prefix)) l.content.bytes.now l.content.entries.now l.content.text.now (blank l.initial.bytes l.initial.numbers l.initial.texts)
    (out l.bytes l.numbers l.texts l.c) l.c l.p

abbrev pub decreases-loop-p : goal.decreases-loop-p
decreases-loop-p l = length l.content.bytes.now - l.p
