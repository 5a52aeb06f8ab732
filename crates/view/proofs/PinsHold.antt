-- The rows that pin the definitions hold: one theorem over all of them, computed.
use mathlib.Core.Path.{◌≡◌, refl}
use Rattle.chars.specs.Utf8.{table37, row_of, tail_len, complete}
use Rattle.chars.specs.Width.{ranges, char_width_of}
use Rattle.chars.specs.Chars.{char_at, chars, well_formed_of}
use Rattle.recording.specs.Recording.{items, pushed_in, start_in, encode}
use Rattle.recording.specs.Coloured.{coloured, balanced}
use Rattle.recording.specs.Refusals.{bad_shape_of, entry_fault, recording_fault}
use Rattle.recording.specs.Outcome.{over_limit, no_room, refusal_of, settle}
use Rattle.view.specs.View.{hidden, floor_items, view_fault, view_faults, office_outcome, floor_outcome}
use Rattle.view.specs.Pins.{pins, all_left_of, all_expected}

pub pins_hold : all_left_of pins ≡ all_expected pins
unfolding pins table37 row_of tail_len complete ranges char_width_of char_at chars well_formed_of items pushed_in start_in encode coloured balanced bad_shape_of entry_fault recording_fault over_limit no_room refusal_of settle hidden floor_items view_fault view_faults office_outcome floor_outcome
pins_hold = refl
