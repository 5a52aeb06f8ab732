-- `Raws` has the sum of the entries that were read.
use Rattle.recording.specs.Recording.{entries_of}
use Rattle.recording.specs.Read.{entries_left}
use Rattle.share.proofs.SizeLaws.{Raws}
use Rattle.share.proofs.raw_size.Given as goal

abbrev pub invariant-loop-e : goal.invariant-loop-e
invariant-loop-e l = Raws l.content.text.now (entries_of l.content.entries.now) (entries_left l.e-iterator) l.size
