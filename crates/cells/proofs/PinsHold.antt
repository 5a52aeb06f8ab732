-- The rows that pin Q-9 hold, computed. (9 at the limit is a law over any page, `Turned`: a million bytes are not computed.)
use mathlib.Core.Path.{◌≡◌, refl}
use Rattle.buffer.specs.Place.{over}
use Rattle.chars.specs.Utf8.{table37, row_of, tail_len, complete}
use Rattle.chars.specs.Width.{ranges, char_width_of}
use Rattle.chars.specs.Chars.{char_at, chars, text_width_of}
use Rattle.chars.specs.Cut.{truncate_end_pos_of, truncate_end_width}
use Rattle.recording.specs.Recording.{items}
use Rattle.recording.specs.Refusals.{recording_fault}
use Rattle.recording.specs.Outcome.{over_limit, no_room, refusal_of, settle, lent_after, returned}
use Rattle.layout.specs.Layout.{result_items, number}
use Rattle.cells.specs.Cells.{parts, cell_text, cell_width, wrong_ends_of, cells_faults, cells_result, cells_outcome}
use Rattle.cells.specs.Pins.{pins, all_got, all_expected}

pub pins_hold : all_got pins ≡ all_expected pins
unfolding pins cells_outcome cells_result cells_faults wrong_ends_of parts cell_text cell_width result_items number items truncate_end_pos_of truncate_end_width text_width_of chars char_at tail_len complete row_of table37 char_width_of ranges settle refusal_of over_limit no_room recording_fault lent_after returned over
pins_hold = refl
