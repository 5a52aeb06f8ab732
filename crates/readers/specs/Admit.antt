-- What the checks of a recording and a label tell: the sizes of what each reader is left.
use Rattle.std.specs.Prelude.{◌≡◌, length, Result, Ok, Err}
use Rattle.recording.specs.declared.Refusal.{Refusal}
use Rattle.recording.specs.Recording.{Bytes, Recording, items, text_of}
use Rattle.open_label.specs.Open.{ScanTold}
use Rattle.readers.specs.declared.Sizes.{Sizes}

-- what is known of the recording q once it is admitted
unfoldable pub AdmittedTold : Bytes → Recording → Result Sizes Refusal → Type 0
AdmittedTold l q (Err f) = Unit {0}
AdmittedTold l q (Ok z) = (z.office ≡ length (text_of (items q))) × ScanTold l q (Ok z.floor)
