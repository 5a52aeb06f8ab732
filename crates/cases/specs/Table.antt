-- Document 01's cases C1 to C16 as one table.
use Rattle.std.specs.Prelude.{true, false, List, [], ◌∷◌}
use Rattle.recording.specs.Recording.{recording}
use Rattle.recording.specs.Outcome.{Outcome, done}
use Rattle.layout.specs.Layout.{truncate_start, truncate_end, pad_end, pad_centered, indent, wrap, replace}
use Rattle.layout.specs.Pins.{lines_of, width_of, call, lines, numbers, outcome_of, row, line, roomy, replacement}
use Rattle.layout.specs.Pins as layout_pins
use Rattle.elide.specs.Pins.{c15}
use Rattle.elide.specs.Pins as plain_pins

-- ── a case asks of the layout or of the plain-text calls
pub data Case : Type 0 where
  layout_case : layout_pins.Row → Case
  plain_case : plain_pins.Row → Case

pub data Reply : Type 0 where
  of_layout : layout_pins.Reply → Reply
  of_plain : Outcome → Reply

abbrev pub asked : List Case → List Reply
asked [] = []
asked (layout_case r ∷ cs) = of_layout (layout_pins.reply r.question) ∷ asked cs
asked (plain_case r ∷ cs) = of_plain (plain_pins.reply r.question) ∷ asked cs

abbrev pub due : List Case → List Reply
due [] = []
due (layout_case r ∷ cs) = of_layout r.expected ∷ due cs
due (plain_case r ∷ cs) = of_plain r.expected ∷ due cs

-- ── rows that pin what C1 to C16 leave open, beside them
abbrev pub layout_cases : List layout_pins.Row → List Case
layout_cases [] = []
layout_cases (r ∷ rs) = layout_case r ∷ layout_cases rs

abbrev pub plain_cases : List plain_pins.Row → List Case
plain_cases [] = []
plain_cases (r ∷ rs) = plain_case r ∷ plain_cases rs

unfoldable pub table : List Case
table =
    -- C1
    layout_case (row (lines_of 5 false (0x6F ∷ 0x61 ∷ 0x6B ∷ 0x20 ∷ 0x31 ∷ 0x32 ∷ 0x20 ∷ 0x66 ∷ 0x74 ∷ 0x20 ∷ 0x62 ∷ [])) (lines (line 0 3 3 ∷ line 4 9 5 ∷ line 10 11 1 ∷ []))) ∷
    -- C2
    layout_case (row (lines_of 5 false []) (lines (line 0 0 0 ∷ []))) ∷
    -- C3
    layout_case (row (lines_of 5 false (0x61 ∷ 0x62 ∷ 0x0A ∷ [])) (lines (line 0 2 2 ∷ line 3 3 0 ∷ []))) ∷
    -- C4
    layout_case (row (lines_of 2 false (0x20 ∷ 0x20 ∷ 0x20 ∷ 0x61 ∷ 0x62 ∷ [])) (lines (line 0 0 0 ∷ line 3 5 2 ∷ []))) ∷
    -- C5, break 1
    layout_case (row (lines_of 2 true (0x61 ∷ 0x62 ∷ 0x63 ∷ 0x64 ∷ 0x65 ∷ [])) (lines (line 0 2 2 ∷ line 2 4 2 ∷ line 4 5 1 ∷ []))) ∷
    -- C5, break 0
    layout_case (row (lines_of 2 false (0x61 ∷ 0x62 ∷ 0x63 ∷ 0x64 ∷ 0x65 ∷ [])) (lines (line 0 5 5 ∷ []))) ∷
    -- C6
    layout_case (row (lines_of 0 true (0x61 ∷ 0x62 ∷ 0x20 ∷ 0x63 ∷ [])) (lines (line 0 2 2 ∷ line 3 4 1 ∷ []))) ∷
    -- C7
    layout_case (row (lines_of 1 true (0xE6 ∷ 0x9C ∷ 0xA8 ∷ 0x61 ∷ [])) (lines (line 0 3 2 ∷ line 3 4 1 ∷ []))) ∷
    -- C8
    layout_case (row (width_of (0xE6 ∷ 0x9C ∷ 0x41 ∷ [])) (numbers (2 ∷ []))) ∷
    -- C9
    layout_case (row (call (truncate_end 4 (recording (0x2E ∷ 0x2E ∷ []) [] [])) roomy (recording (0x73 ∷ 0x70 ∷ 0x72 ∷ 0x75 ∷ 0x63 ∷ 0x65 ∷ []) [] []))
    (outcome_of (done (record { recording = recording (0x73 ∷ 0x70 ∷ 0x2E ∷ 0x2E ∷ []) [] []; lines = []; number = 4 })))) ∷
    -- C10
    layout_case (row (call (truncate_start 4 (recording (0x2E ∷ 0x2E ∷ []) [] [])) roomy (recording (0x73 ∷ 0x70 ∷ 0x72 ∷ 0x75 ∷ 0x63 ∷ 0x65 ∷ []) [] []))
    (outcome_of (done (record { recording = recording (0x2E ∷ 0x2E ∷ 0x63 ∷ 0x65 ∷ []) [] []; lines = []; number = 4 })))) ∷
    -- C11
    layout_case (row (call (truncate_end 1 (recording (0x2E ∷ 0x2E ∷ []) [] [])) roomy (recording (0x73 ∷ 0x70 ∷ 0x72 ∷ 0x75 ∷ 0x63 ∷ 0x65 ∷ []) [] []))
    (outcome_of (done (record { recording = recording (0x2E ∷ []) [] []; lines = []; number = 1 })))) ∷
    -- C12
    layout_case (row (call (pad_centered 6 (recording (0x2E ∷ []) [] [])) roomy (recording (0x66 ∷ 0x69 ∷ 0x72 ∷ []) [] []))
    (outcome_of (done (record { recording = recording (0x2E ∷ 0x66 ∷ 0x69 ∷ 0x72 ∷ 0x2E ∷ 0x2E ∷ []) [] []; lines = []; number = 0 })))) ∷
    -- C13
    layout_case (row (call (indent (recording (0x3E ∷ 0x20 ∷ []) [] [])) roomy (recording (0x61 ∷ 0x0A ∷ 0x0A ∷ 0x62 ∷ []) [] []))
    (outcome_of (done (record { recording = recording (0x3E ∷ 0x20 ∷ 0x61 ∷ 0x0A ∷ 0x0A ∷ 0x3E ∷ 0x20 ∷ 0x62 ∷ []) [] []; lines = []; number = 0 })))) ∷
    -- C14
    layout_case (row (call (replace (replacement 1 3 0 1 ∷ replacement 6 6 1 2 ∷ []) (0x58 ∷ 0x59 ∷ [])) roomy (recording (0x61 ∷ 0x62 ∷ 0x63 ∷ 0x64 ∷ 0x65 ∷ 0x66 ∷ []) [] []))
    (outcome_of (done (record { recording = recording (0x61 ∷ 0x58 ∷ 0x64 ∷ 0x65 ∷ 0x66 ∷ 0x59 ∷ []) [] []; lines = []; number = 0 })))) ∷
    -- C15
    plain_case c15 ∷
    -- C16: the 0A at 2 has no label, the pop is at 2
    layout_case (row (call (wrap 2 false) roomy (recording (0x61 ∷ 0x62 ∷ 0x20 ∷ 0x63 ∷ 0x64 ∷ []) (0 ∷ 0 ∷ 0 ∷ 1 ∷ 2 ∷ 1 ∷ 0 ∷ 0 ∷ []) (0x4C ∷ [])))
    (outcome_of (done (record { recording = recording (0x61 ∷ 0x62 ∷ 0x0A ∷ 0x63 ∷ 0x64 ∷ []) (0 ∷ 0 ∷ 0 ∷ 1 ∷ 2 ∷ 1 ∷ 0 ∷ 0 ∷ []) (0x4C ∷ []); lines = (0 ∷ 2 ∷ 2 ∷ 3 ∷ 5 ∷ 2 ∷ []); number = 2 })))) ∷
    -- outside demand 3: fill `ab` with an entry at 1, twice, gives `aabb`
    layout_case (row (call (pad_end 2 (recording (0x61 ∷ 0x62 ∷ []) (1 ∷ 2 ∷ 0 ∷ 1 ∷ []) (0x1B ∷ []))) roomy (recording [] [] []))
    (outcome_of (done (record { recording = recording (0x61 ∷ 0x61 ∷ 0x62 ∷ 0x62 ∷ []) (2 ∷ 2 ∷ 0 ∷ 1 ∷ []) (0x1B ∷ []); lines = []; number = 0 })))) ∷
    []
