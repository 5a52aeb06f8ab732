-- The rows that pin Q-10 hold, computed. (Lines by the thousand and bytes by the million are laws over any input of that size: `Turned`, `lines_over`, `lines_at_limit`.)
use Prim.Native.Nat.{ℕ}
use mathlib.Core.Bool.{Bool, true, false, ◌||◌}
use mathlib.Core.Path.{◌≡◌, refl}
use mathlib.Core.List.{List, [], ◌∷◌}
use lib.ListN.{length}
use Rattle.chars.specs.Utf8.{table37, row_of as row_of_lead, tail_len, complete}
use Rattle.chars.specs.Width.{ranges, char_width_of}
use Rattle.chars.specs.Chars.{char_at, chars, text_width_of, well_formed_of}
use Rattle.chars.specs.Cut.{truncate_end_pos_of, truncate_end_width}
use Rattle.controls.specs.Controls.{is_clean_text}
use Rattle.recording.specs.Recording.{Bytes, items}
use Rattle.recording.specs.Refusals.{recording_fault}
use Rattle.recording.specs.Outcome.{over_limit, no_room, refusal_of, settle}
use Rattle.layout.specs.Layout.{fill_count_of, result_items}
use Rattle.cells.specs.Cells.{cell_text}
use Rattle.sheet.specs.Sheet.{is_decimal}
use Rattle.sheet.specs.Decimal.{decimal}
use Rattle.tally.specs.Tally.{lines_of, cells_of, boards_name, boards_cell, is_boards, boards_in_text, wrong_columns_of, shape_fault, cell_fault, count_fault, boards_fault, names_fault, values_fault, tally_fault, tilde, space, laid_cell_of, row_of, last_row, sheet, tally_faults, tally_result, tally_outcome}
use Rattle.tally.specs.Pins.{pins, all_got, all_expected}

pub pins_hold : all_got pins ≡ all_expected pins
unfolding pins tally_outcome tally_result tally_faults sheet last_row row_of laid_cell_of space tilde cell_text tally_fault values_fault names_fault boards_fault count_fault cell_fault shape_fault wrong_columns_of boards_in_text is_boards boards_cell boards_name cells_of lines_of decimal is_decimal result_items fill_count_of items truncate_end_pos_of truncate_end_width text_width_of is_clean_text well_formed_of chars char_at tail_len complete row_of_lead table37 char_width_of ranges settle refusal_of over_limit no_room recording_fault
pins_hold = refl

-- 39: over 4,096 lines, whatever they hold; 4,096 are none too many
or_true : (b : Bool) → (b || true) ≡ true
or_true true = refl
or_true false = refl

pub lines_over : (ns : List ℕ) (ls : List Bytes) → length ls ≡ 4097 → shape_fault ns ls ≡ 39
unfolding shape_fault
lines_over ns ls h = rw (h, or_true (wrong_columns_of ns))

pub lines_at_limit : (ls : List Bytes) → length ls ≡ 4096 → shape_fault (1 ∷ 0 ∷ []) ls ≡ 0
unfolding shape_fault wrong_columns_of
lines_at_limit ls h = rw h
