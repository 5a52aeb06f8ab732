-- The rows that pin module 6 hold: one theorem over all of them, computed; the rows at the data limit are laws over any text of that length.
use mathlib.Core.Path.{◌≡◌, refl}
use mathlib.Core.List.{[]}
use Prim.Native.Nat.{ℕ}
use lib.ListN.{length}
use Rattle.chars.specs.Utf8.{table37, row_of, tail_len, complete}
use Rattle.chars.specs.Width.{ranges, char_width_of}
use Rattle.chars.specs.Chars.{char_at, chars, text_width_of, well_formed_of}
use Rattle.chars.specs.Cut.{zero_width_len_of}
use Rattle.recording.specs.Recording.{Bytes}
use Rattle.recording.specs.Outcome.{refused, over_limit, no_room, refusal_of, settle}
use Rattle.elide.specs.Elide.{fit_at_end, fit_at_start, trimmed, elide_end_of, elide_start_of, complete_newline_of, plain_faults, elide_end_outcome, elide_start_outcome, complete_newline_outcome}
use Rattle.elide.specs.Pins.{c15, pins, asked, due}

pub pins_hold : asked pins ≡ due pins
unfolding c15 pins table37 row_of tail_len complete ranges char_width_of char_at chars text_width_of well_formed_of zero_width_len_of over_limit no_room refusal_of settle fit_at_end fit_at_start trimmed elide_end_of elide_start_of complete_newline_of plain_faults elide_end_outcome elide_start_outcome complete_newline_outcome
pins_hold = refl

-- 1: a text one byte over the limit; an ellipsis, where the text is not
pub text_over : (n m : ℕ) (s e : Bytes) → length s ≡ 1048577 → elide_end_outcome n s e m ≡ refused 1
unfolding elide_end_outcome settle refusal_of plain_faults
text_over n m s e h = rw h

pub ellipsis_over : (n m : ℕ) (e : Bytes) → length e ≡ 1048577 → elide_start_outcome n [] e m ≡ refused 1
unfolding elide_start_outcome settle refusal_of plain_faults
ellipsis_over n m e h = rw h
