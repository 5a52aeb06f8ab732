-- The rows that pin the definitions hold: one theorem over all of them, computed. Rows of a million bytes are laws over any data of that length.
use mathlib.Core.Path.{◌≡◌, refl}
use mathlib.Core.Bool.{true, false, false≢true}
use mathlib.Core.List.{[]}
use lib.ListN.{length}
use Rattle.chars.specs.Utf8.{table37, row_of, tail_len, complete}
use Rattle.chars.specs.Width.{ranges, char_width_of}
use Rattle.chars.specs.Chars.{char_at, chars, text_width_of, well_formed_of}
use Rattle.chars.specs.Cut.{truncate_end_pos_of, truncate_end_width, truncate_start_pos_of, truncate_start_width, zero_width_len_of}
use Rattle.recording.specs.Recording.{Bytes, recording, items, pushed_in, start_in, encode, strip}
use Rattle.recording.specs.Coloured.{coloured, balanced, none_inside_recording}
use Rattle.recording.specs.Refusals.{bad_shape_of, entry_fault, recording_fault}
use Rattle.recording.specs.Outcome.{Room, refused, over_limit, no_room, refusal_of, settle}
use Rattle.layout.specs.Wrap.{split_words_at_width, first_fit_of, wrapped_line, wrap_lines_of}
use Rattle.layout.specs.Layout.{wrap, trimmed_start_pos, fill_count_of, result_items, lines_left, number, result_of, second_fault, own_fault, faults_of, outcome, refusal, after}
use Rattle.layout.specs.Plain.{step, told_of_job}
use Rattle.layout.specs.Unindent.{prefix_fault}
use Rattle.layout.specs.Theorem.{Proper, Demand3}
use Rattle.layout.proofs.Demand3.{demand3}
use Rattle.layout.specs.Pins.{pins, asked, due, c16, ticket}

pub pins_hold : asked pins ≡ due pins
unfolding pins table37 row_of tail_len complete ranges char_width_of char_at chars text_width_of well_formed_of truncate_end_pos_of truncate_end_width truncate_start_pos_of truncate_start_width zero_width_len_of items pushed_in start_in encode bad_shape_of entry_fault recording_fault over_limit no_room refusal_of settle split_words_at_width first_fit_of wrapped_line wrap_lines_of trimmed_start_pos fill_count_of result_items lines_left number result_of second_fault prefix_fault own_fault faults_of outcome refusal after step told_of_job coloured strip
pins_hold = refl

-- 1: one byte over the limit, and no fault at it
pub data_over : (d : Bytes) (o : Room) → length d ≡ 1048577 → outcome (record { job = wrap 9 false; room = o }) (recording d [] []) ≡ refused 1
unfolding outcome settle refusal_of faults_of recording_fault
data_over d o h = rw h

pub data_at_limit : (d : Bytes) → length d ≡ 1048576 → recording_fault (recording d [] []) ≡ 0
unfolding recording_fault
data_at_limit d h = rw h

-- 9: a result's data, likewise
pub result_over : (d : Bytes) → length d ≡ 1048577 → over_limit (recording d [] []) ≡ 9
unfolding over_limit
result_over d h = rw h

pub result_at_limit : (d : Bytes) → length d ≡ 1048576 → over_limit (recording d [] []) ≡ 0
unfolding over_limit
result_at_limit d h = rw h

-- ── the theorem is not empty: the list of calls has what it asks, and so what it gives
ticket_balanced : balanced c16 ≡ true
unfolding balanced items
ticket_balanced = refl

ticket_proper : Proper ticket c16
unfolding balanced none_inside_recording items
ticket_proper = (λ e. (λ h. refl, λ h. refl), (λ e. tt, (λ e. (λ h. refl, λ h. absurd (false≢true h)), (λ e. (λ h. refl, λ h. absurd (false≢true h)), tt))))

pub ticket_commutes : Demand3 ticket c16
ticket_commutes = demand3 ticket c16 ticket_balanced ticket_proper
