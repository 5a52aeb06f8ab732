-- `Passed` says that no entry that was read is a push of the label.
use Rattle.recording.specs.Recording.{entries_of}
use Rattle.recording.specs.Read.{entries_left}
use Rattle.share.proofs.Laws.{Passed}
use Rattle.share.proofs.place_label.Given as goal

abbrev pub invariant-loop-e : goal.invariant-loop-e
invariant-loop-e l = Passed l.label l.texts (entries_of l.numbers) (entries_left l.e-iterator)
