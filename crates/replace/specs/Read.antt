-- Which of the records behind numbers are left when they are read one after another.
use Rattle.std.specs.Prelude.{List}
use Rattle.layout.specs.declared.Replacement.{Replacement}
use Rattle.replace.specs.declared.Records.{Records}
use Rattle.replace.specs.Records.{records_of}

abbrev pub records_left : Records → List Replacement
records_left s = records_of s.numbers.now
