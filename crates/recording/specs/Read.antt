-- A recording that is read: what stands behind its slices, and which of its entries are left when they are read one after another.
use Rattle.std.specs.Prelude.{List}
use Rattle.recording.specs.declared.Entry.{Entry}
use Rattle.recording.specs.declared.Entries.{Entries}
use Rattle.recording.specs.declared.Recording as Lent
use Rattle.recording.specs.Recording.{Recording, recording, entries_of}

abbrev pub recording_of : Lent.Recording → Recording
recording_of r = recording r.bytes.now r.entries.now r.text.now

abbrev pub entries_left : Entries → List Entry
entries_left s = entries_of s.numbers.now
