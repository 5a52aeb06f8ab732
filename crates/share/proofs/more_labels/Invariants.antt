-- `Gathered` says what is counted and kept of the entries that were read.
use Rattle.recording.specs.Recording.{entries_of}
use Rattle.recording.specs.Read.{entries_left}
use Rattle.share.proofs.FirstLaws.{Gathered}
use Rattle.share.proofs.more_labels.Given as goal

abbrev pub invariant-loop-e : goal.invariant-loop-e
invariant-loop-e l = Gathered l.those.text.now (entries_of l.those.entries.now) l.more.text.now (entries_of l.more.entries.now) l.size l.yielded (entries_left l.e-iterator) l.firsts l.f.end l.f.size
