-- What is counted and what the entries left give is the whole (`Scanning`).
use Rattle.recording.specs.Recording.{entries_of}
use Rattle.recording.specs.Read.{entries_left}
use Rattle.open_label.proofs.ScanLaws.{Scanning}
use Rattle.open_label.proofs.scan.Given as goal

abbrev pub invariant-loop-e : goal.invariant-loop-e
invariant-loop-e l =
    Scanning l.label l.content.bytes.now l.content.text.now (entries_of l.content.entries.now) (entries_left l.e-iterator) l.o l.n
