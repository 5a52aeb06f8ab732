-- `Seen` says that the entries that were read have no fault, and how long their texts are.
use Rattle.recording.specs.Recording.{entries_of}
use Rattle.recording.specs.Read.{entries_left}
use Rattle.recording.proofs.CheckLaws.{Seen}
use Rattle.recording_check.proofs.check_entries.Given as goal

abbrev pub invariant-loop-e : goal.invariant-loop-e
invariant-loop-e l = Seen l.content.bytes.now l.content.text.now (entries_of l.content.entries.now) (entries_left l.e-iterator) l.at l.size
