-- Two recordings with other prices, of other byte lengths, are alike (`alike`), so the floor reads the same of them (`they_agree`). The idea: the derivation, character for character.
use mathlib.Core.Path.{refl}
use Rattle.chars.specs.Utf8.{table37, row_of, tail_len, complete}
use Rattle.chars.specs.Width.{ranges, char_width_of}
use Rattle.chars.specs.Chars.{char_at, chars, well_formed_of}
use Rattle.recording.specs.Recording.{items}
use Rattle.recording.specs.Coloured.{coloured}
use Rattle.recording.specs.Refusals.{bad_shape_of, entry_fault, recording_fault}
use Rattle.recording.specs.Outcome.{Room}
use Rattle.recording.specs.Pins.{x}
use Rattle.view.specs.View.{hidden}
use Rattle.view.specs.Alike.{none, bytes, pushes, pops, raws, raws_under, end, entries, kept, replaced, Alike}
use Rattle.view.specs.Theorem.{Agree}
use Rattle.view.specs.Pins.{one, other}
use Rattle.view.proofs.AlikeLaws.{floors_agree}

-- the push and the raw sequence; `e` against `é`; the wide characters, with their entries; 0A against 0A; the pop and the raw sequence at the data's end
pub alike : Alike x one other
unfolding table37 row_of tail_len complete ranges char_width_of char_at chars items coloured hidden
alike =
    record {
      same_replaced = refl;
      corresponding =
          entries (pushes (raws_under refl none))
          (replaced refl none (replaced refl (pushes (pops none)) (kept (bytes none) (entries (pops (raws none)) end))));
    }

pub they_agree : (o : Room) → Agree x o one other
unfolding table37 row_of tail_len complete char_at chars well_formed_of bad_shape_of entry_fault recording_fault
they_agree o = floors_agree x one other refl refl alike o
