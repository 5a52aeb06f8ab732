-- As for `place_label`, and how far the texts of the entries that were read reach (`New`).
use Rattle.recording.specs.Recording.{entries_of}
use Rattle.recording.specs.Read.{entries_left}
use Rattle.share.proofs.PlacedLaws.{New}
use Rattle.share.proofs.place_in_result.Given as goal

abbrev pub invariant-loop-entry : goal.invariant-loop-entry
invariant-loop-entry l = New l.label l.texts (entries_of l.numbers) l.yielded (entries_left l.entry-iterator) l.top
