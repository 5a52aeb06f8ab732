-- C1 to C16 and the rows that pin the definitions, one table: each question's reply is what its row expects.
-- C1 to C16 are computed here, the rows beside them in `layout` and `elide`.
use mathlib.Core.Path.{◌≡◌, refl, ap, ◌∙◌, sym}
use mathlib.Core.List.{List, [], ◌∷◌, ◌++◌}
use Rattle.chars.specs.Utf8.{table37, row_of, tail_len, complete}
use Rattle.chars.specs.Width.{ranges, char_width_of}
use Rattle.chars.specs.Chars.{char_at, chars, text_width_of, well_formed_of}
use Rattle.chars.specs.Cut.{truncate_end_pos_of, truncate_end_width, truncate_start_pos_of, truncate_start_width, zero_width_len_of}
use Rattle.recording.specs.Recording.{items, pushed_in, start_in, encode}
use Rattle.recording.specs.Refusals.{bad_shape_of, entry_fault, recording_fault}
use Rattle.recording.specs.Outcome.{Outcome, over_limit, no_room, refusal_of, settle}
use Rattle.layout.specs.Wrap.{split_words_at_width, first_fit_of, wrapped_line, wrap_lines_of}
use Rattle.layout.specs.Unindent.{prefix_fault}
use Rattle.layout.specs.Layout.{trimmed_start_pos, fill_count_of, result_items, lines_left, number, result_of, second_fault, own_fault, faults_of, outcome}
use Rattle.layout.specs.Pins as layout_pins
use Rattle.layout.proofs.PinsHold as layout_hold
use Rattle.elide.specs.Elide.{fit_at_end, fit_at_start, trimmed, elide_end_of, elide_start_of, complete_newline_of, plain_faults, elide_end_outcome, elide_start_outcome, complete_newline_outcome}
use Rattle.elide.specs.Pins.{c15}
use Rattle.elide.specs.Pins as plain_pins
use Rattle.elide.proofs.PinsHold as plain_hold
use Rattle.cases.specs.Table.{Case, layout_case, plain_case, Reply, of_layout, of_plain, asked, due, layout_cases, plain_cases, table}

asked_append : (xs ys : List Case) → asked (xs ++ ys) ≡ asked xs ++ asked ys
asked_append [] ys = refl
asked_append (layout_case r ∷ xs) ys = ap (λ (l : List Reply). of_layout (layout_pins.reply r.question) ∷ l) (asked_append xs ys)
asked_append (plain_case r ∷ xs) ys = ap (λ (l : List Reply). of_plain (plain_pins.reply r.question) ∷ l) (asked_append xs ys)

due_append : (xs ys : List Case) → due (xs ++ ys) ≡ due xs ++ due ys
due_append [] ys = refl
due_append (layout_case r ∷ xs) ys = ap (λ (l : List Reply). of_layout r.expected ∷ l) (due_append xs ys)
due_append (plain_case r ∷ xs) ys = ap (λ (l : List Reply). of_plain r.expected ∷ l) (due_append xs ys)

-- the rows of one kind
abbrev of_layouts : List layout_pins.Reply → List Reply
of_layouts [] = []
of_layouts (a ∷ as') = of_layout a ∷ of_layouts as'

abbrev of_plains : List Outcome → List Reply
of_plains [] = []
of_plains (a ∷ as') = of_plain a ∷ of_plains as'

layout_asked : (rs : List layout_pins.Row) → asked (layout_cases rs) ≡ of_layouts (layout_pins.asked rs)
layout_asked [] = refl
layout_asked (r ∷ rs) = ap (λ (l : List Reply). of_layout (layout_pins.reply r.question) ∷ l) (layout_asked rs)

layout_due : (rs : List layout_pins.Row) → due (layout_cases rs) ≡ of_layouts (layout_pins.due rs)
layout_due [] = refl
layout_due (r ∷ rs) = ap (λ (l : List Reply). of_layout r.expected ∷ l) (layout_due rs)

plain_asked : (rs : List plain_pins.Row) → asked (plain_cases rs) ≡ of_plains (plain_pins.asked rs)
plain_asked [] = refl
plain_asked (r ∷ rs) = ap (λ (l : List Reply). of_plain (plain_pins.reply r.question) ∷ l) (plain_asked rs)

plain_due : (rs : List plain_pins.Row) → due (plain_cases rs) ≡ of_plains (plain_pins.due rs)
plain_due [] = refl
plain_due (r ∷ rs) = ap (λ (l : List Reply). of_plain r.expected ∷ l) (plain_due rs)

-- C1 to C16
pub document_cases : asked table ≡ due table
unfolding table c15 table37 row_of tail_len complete ranges char_width_of char_at chars text_width_of well_formed_of truncate_end_pos_of truncate_end_width truncate_start_pos_of truncate_start_width zero_width_len_of items pushed_in start_in encode bad_shape_of entry_fault recording_fault over_limit no_room refusal_of settle split_words_at_width first_fit_of wrapped_line wrap_lines_of trimmed_start_pos fill_count_of result_items lines_left number result_of second_fault prefix_fault own_fault faults_of outcome fit_at_end fit_at_start trimmed elide_end_of elide_start_of complete_newline_of plain_faults elide_end_outcome elide_start_outcome complete_newline_outcome
document_cases = refl

-- the whole table
pub cases : asked (table ++ (layout_cases layout_pins.pins ++ plain_cases plain_pins.pins)) ≡ due (table ++ (layout_cases layout_pins.pins ++ plain_cases plain_pins.pins))
cases =
    let l : asked (layout_cases layout_pins.pins) ≡ due (layout_cases layout_pins.pins) = layout_asked layout_pins.pins ∙ ap of_layouts layout_hold.pins_hold ∙ sym (layout_due layout_pins.pins) in
    let p : asked (plain_cases plain_pins.pins) ≡ due (plain_cases plain_pins.pins) = plain_asked plain_pins.pins ∙ ap of_plains plain_hold.pins_hold ∙ sym (plain_due plain_pins.pins) in
    asked_append table (layout_cases layout_pins.pins ++ plain_cases plain_pins.pins)
    ∙ ap (λ (x : List Reply). asked table ++ x) (asked_append (layout_cases layout_pins.pins) (plain_cases plain_pins.pins))
    ∙ (λ i. document_cases i ++ (l i ++ p i))
    ∙ ap (λ (x : List Reply). due table ++ x) (sym (due_append (layout_cases layout_pins.pins) (plain_cases plain_pins.pins)))
    ∙ sym (due_append table (layout_cases layout_pins.pins ++ plain_cases plain_pins.pins))
