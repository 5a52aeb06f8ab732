-- The rows that pin where a push has its text hold, all of them computed.
use mathlib.Core.Path.{◌≡◌, refl}
use Rattle.chars.specs.Utf8.{table37, row_of, tail_len, complete}
use Rattle.chars.specs.Chars.{char_at, chars, well_formed_of}
use Rattle.chars.specs.Width.{ranges, char_width_of}
use Rattle.recording.specs.Recording.{pushed_in, start_in}
use Rattle.recording.specs.Refusals.{bad_shape_of, entry_fault, recording_fault}
use Rattle.recording.specs.Outcome.{over_limit, no_room, refusal_of, settle}
use Rattle.recorder.specs.Recorder.{with_entry, with_label, lengths_fault, add_faults, pushed}
use Rattle.recorder.specs.Pins.{pins, all_left_of, all_expected}

pub pins_hold : all_left_of pins ≡ all_expected pins
unfolding pins table37 row_of tail_len complete ranges char_width_of char_at chars well_formed_of pushed_in start_in bad_shape_of entry_fault recording_fault over_limit no_room refusal_of settle with_entry with_label lengths_fault add_faults pushed
pins_hold = refl
