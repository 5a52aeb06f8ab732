-- The rows that pin the definitions hold: one theorem over all of them, computed.
use mathlib.Core.Path.{◌≡◌, refl}
use Rattle.buffer.specs.Place.{over}
use Rattle.recording.specs.Refusals.{bad_shape_of, entry_fault, recording_fault}
use Rattle.recording.specs.Outcome.{over_limit, no_room, refusal_of, settle, lent_after, returned, replied}
use Rattle.line_index.specs.Starts.{starts_from, line_starts, ends_from, line_ends, line_span, line_of_offset, place_for}
use Rattle.line_index.specs.Index.{short_fault, index_fault, extend_fault, line_fault, place_fault, index_result, build_outcome, extend_outcome, line_replied, place_replied}
use Rattle.line_index.specs.Pins.{pins, all_got, all_expected}

pub pins_hold : all_got pins ≡ all_expected pins
unfolding pins over bad_shape_of entry_fault recording_fault over_limit no_room refusal_of settle lent_after returned replied starts_from line_starts ends_from line_ends line_span line_of_offset place_for short_fault index_fault extend_fault line_fault place_fault index_result build_outcome extend_outcome line_replied place_replied
pins_hold = refl
