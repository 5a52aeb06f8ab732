-- What is left decides (`Reading`).
use lib.ListN.{drop}
use Rattle.recording.specs.Recording.{entries_of}
use Rattle.recording.specs.Read.{entries_left}
use Rattle.open_label.proofs.UnderLaws.{Reading}
use Rattle.open_label.proofs.any_under.Given as goal

abbrev pub invariant-loop-e : goal.invariant-loop-e
invariant-loop-e l =
    Reading l.label l.content.bytes.now l.content.text.now l.end l.fn.from.c.at (entries_of (drop l.fn.from.c.k l.content.entries.now)) l.fn.from.o l.at (entries_left l.e-iterator) l.o
