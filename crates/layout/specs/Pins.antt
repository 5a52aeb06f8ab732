-- Rows that pin the definitions where the document's cases C1 to C16 leave them open: edges of tables, clauses of rules, every refusal and their order.
-- `proofs/PinsHold.antt` computes them all. The crate `cases` sets them beside C1 to C16.
use Rattle.std.specs.Prelude.{ℕ, zero, suc, Bool, true, false, List, [], ◌∷◌}
use Rattle.chars.specs.Width.{char_width_of}
use Rattle.chars.specs.Chars.{text_width_of}
use Rattle.recording.specs.Recording.{Bytes, Recording, recording, strip}
use Rattle.recording.specs.Coloured.{Coloured, coloured}
use Rattle.recording.specs.Pins.{under}
use Rattle.recording.specs.Outcome.{Room, Outcome, refused, done}
use Rattle.layout.specs.declared.Replacement.{Replacement}
use Rattle.layout.specs.Wrap.{Line, line_numbers, wrap_lines_of}
use Rattle.layout.specs.Layout.{Job, truncate_start, truncate_end, pad_start, pad_end, pad_centered, indent, unindent, wrap, replace, expand_tabs, outcome, Call, refusal, after, run}
use Rattle.layout.specs.Plain.{told, steps}
use Rattle.layout.specs.Theorem.{again}

-- ── what a row asks, and what it expects
pub data Question : Type 0 where
  lines_of : ℕ → Bool → Bytes → Question
  width_of : Bytes → Question
  char_widths : List ℕ → Question
  call : Job → Room → Recording → Question
  -- of a list of calls: each one's refusal, the coloured bytes of what is left and of the plain steps, and the data left by stripping first
  refusals_of coloured_run coloured_steps stripped_run : List Call → Recording → Question

pub data Reply : Type 0 where
  lines : List (List ℕ) → Reply
  numbers : List ℕ → Reply
  outcome_of : Outcome → Reply
  colours : List Coloured → Reply

abbrev each_width : List ℕ → List ℕ
each_width [] = []
each_width (c ∷ cs) = char_width_of c ∷ each_width cs

abbrev each_refusal : List Call → Recording → List ℕ
each_refusal [] r = []
each_refusal (c ∷ cs) r = refusal c r ∷ each_refusal cs (after c r)

-- the numbers of each line by themselves
abbrev each_line : Bytes → List Line → List (List ℕ)
each_line d [] = []
each_line d (l ∷ ls) = line_numbers d (l ∷ []) ∷ each_line d ls

abbrev pub reply : Question → Reply
reply (lines_of w b d) = lines (each_line d (wrap_lines_of w b d))
reply (width_of d) = numbers (text_width_of d ∷ [])
reply (char_widths cs) = numbers (each_width cs)
reply (call j o r) = outcome_of (outcome (record { job = j; room = o }) r)
reply (refusals_of cs r) = numbers (each_refusal cs r)
reply (coloured_run cs r) = colours (coloured (run cs r))
reply (coloured_steps cs r) = colours (steps (told cs r) (coloured r))
reply (stripped_run cs r) = numbers (run (again cs r) (strip r)).data_bytes

pub record Row : Type 0 where
  pub question : Question
  pub expected : Reply

abbrev pub row : Question → Reply → Row
row q a = record { question = q; expected = a }

abbrev pub asked : List Row → List Reply
asked [] = []
asked (r ∷ rs) = reply r.question ∷ asked rs

abbrev pub due : List Row → List Reply
due [] = []
due (r ∷ rs) = r.expected ∷ due rs

-- ── short names
abbrev pub room : ℕ → ℕ → ℕ → ℕ → Room
room d e t l = record { data_bytes = d; entry_numbers = e; text = t; lines = l }

-- a line of the line list: first byte, end, width
abbrev pub line : ℕ → ℕ → ℕ → List ℕ
line a e w = a ∷ e ∷ w ∷ []

abbrev pub roomy : Room
roomy = room 100 100 100 100

abbrev pub replacement : ℕ → ℕ → ℕ → ℕ → Replacement
replacement a e f t = record { start = a; end = e; from = f; to = t }

-- n times the same number
abbrev pub fill : ℕ → ℕ → List ℕ
fill zero b = []
fill (suc n) b = b ∷ fill n b

-- n pops at 0
abbrev pub fill4 : ℕ → List ℕ
fill4 zero = []
fill4 (suc n) = 0 ∷ 1 ∷ 0 ∷ 0 ∷ fill4 n

-- ── a list of calls on C16's content, `ab cd` with `ab` labelled x: the first is refused 21, the others are not
abbrev pub c16 : Recording
c16 = recording (0x61 ∷ 0x62 ∷ 0x20 ∷ 0x63 ∷ 0x64 ∷ []) (0 ∷ 0 ∷ 0 ∷ 1 ∷ 2 ∷ 1 ∷ 0 ∷ 0 ∷ []) (0x78 ∷ [])

-- a text of one byte and one of two, each with a label over all of it
abbrev pub labelled1 : ℕ → ℕ → Recording
labelled1 b l = recording (b ∷ []) (0 ∷ 0 ∷ 0 ∷ 1 ∷ 1 ∷ 1 ∷ 0 ∷ 0 ∷ []) (l ∷ [])

abbrev pub labelled2 : ℕ → ℕ → ℕ → Recording
labelled2 a b l = recording (a ∷ b ∷ []) (0 ∷ 0 ∷ 0 ∷ 1 ∷ 2 ∷ 1 ∷ 0 ∷ 0 ∷ []) (l ∷ [])

-- `ab` with the label f over `b` alone, and `.` under a label f that stays open
abbrev pub inside : Recording
inside = recording (0x61 ∷ 0x62 ∷ []) (1 ∷ 0 ∷ 0 ∷ 1 ∷ 2 ∷ 1 ∷ 0 ∷ 0 ∷ []) (0x66 ∷ [])

abbrev pub unclosed : Recording
unclosed = recording (0x2E ∷ []) (0 ∷ 0 ∷ 0 ∷ 1 ∷ []) (0x66 ∷ [])

-- pad at the end into 3 data bytes; wrap at 2; indent by `> ` labelled p; truncate at the end to 3 by `.` labelled e
abbrev pub ticket : List Call
ticket =
    record { job = pad_end 9 (labelled1 0x2E 0x66); room = room 3 100 100 100 } ∷ record { job = wrap 2 false; room = roomy }
    ∷ record { job = indent (labelled2 0x3E 0x20 0x70); room = roomy } ∷ record { job = truncate_end 3 (labelled1 0x2E 0x65); room = roomy } ∷ []

abbrev pub ticket_colours : List Coloured
ticket_colours = under 0x3E ((0x78 ∷ []) ∷ (0x70 ∷ []) ∷ []) ∷ under 0x20 ((0x78 ∷ []) ∷ (0x70 ∷ []) ∷ []) ∷ under 0x2E ((0x65 ∷ []) ∷ []) ∷ []

-- `ab`, a tab and `c`, with the label x over `b` and the tab
abbrev pub tabbed_row : Recording
tabbed_row = recording (0x61 ∷ 0x62 ∷ 0x09 ∷ 0x63 ∷ []) (1 ∷ 0 ∷ 0 ∷ 1 ∷ 3 ∷ 1 ∷ 0 ∷ 0 ∷ []) (0x78 ∷ [])

abbrev pub tabbed_colours : List Coloured
tabbed_colours = under 0x61 [] ∷ under 0x62 ((0x78 ∷ []) ∷ []) ∷ under 0x20 ((0x78 ∷ []) ∷ []) ∷ under 0x20 ((0x78 ∷ []) ∷ []) ∷ under 0x63 [] ∷ []

-- indent by `> ` labelled p, and take it off
abbrev pub marks : Call
marks = record { job = indent (labelled2 0x3E 0x20 0x70); room = roomy }

abbrev pub unmarks : Call
unmarks = record { job = unindent (labelled2 0x3E 0x20 0x70); room = roomy }

unfoldable pub pins : List Row
pins =
    -- U+0000 to U+001F: both ends, and one past each
    row (char_widths (0x0 ∷ 0x1F ∷ 0x20 ∷ [])) (numbers (0 ∷ 0 ∷ 1 ∷ [])) ∷
    -- U+007F to U+009F: both ends, and one past each
    row (char_widths (0x7E ∷ 0x7F ∷ 0x9F ∷ 0xA0 ∷ [])) (numbers (1 ∷ 0 ∷ 0 ∷ 1 ∷ [])) ∷
    -- U+0300 to U+036F: both ends, and one past each
    row (char_widths (0x2FF ∷ 0x300 ∷ 0x36F ∷ 0x370 ∷ [])) (numbers (1 ∷ 0 ∷ 0 ∷ 1 ∷ [])) ∷
    -- U+200B to U+200F: both ends, and one past each
    row (char_widths (0x200A ∷ 0x200B ∷ 0x200F ∷ 0x2010 ∷ [])) (numbers (1 ∷ 0 ∷ 0 ∷ 1 ∷ [])) ∷
    -- U+20D0 to U+20F0: both ends, and one past each
    row (char_widths (0x20CF ∷ 0x20D0 ∷ 0x20F0 ∷ 0x20F1 ∷ [])) (numbers (1 ∷ 0 ∷ 0 ∷ 1 ∷ [])) ∷
    -- U+FE00 to U+FE0F: both ends, and one past each
    row (char_widths (0xFDFF ∷ 0xFE00 ∷ 0xFE0F ∷ 0xFE10 ∷ [])) (numbers (1 ∷ 0 ∷ 0 ∷ 1 ∷ [])) ∷
    -- U+FE20 to U+FE2F: both ends, and one past each
    row (char_widths (0xFE1F ∷ 0xFE20 ∷ 0xFE2F ∷ 0xFE30 ∷ [])) (numbers (1 ∷ 0 ∷ 0 ∷ 2 ∷ [])) ∷
    -- U+1100 to U+115F: both ends, and one past each
    row (char_widths (0x10FF ∷ 0x1100 ∷ 0x115F ∷ 0x1160 ∷ [])) (numbers (1 ∷ 2 ∷ 2 ∷ 1 ∷ [])) ∷
    -- U+2E80 to U+303E: both ends, and one past each
    row (char_widths (0x2E7F ∷ 0x2E80 ∷ 0x303E ∷ 0x303F ∷ [])) (numbers (1 ∷ 2 ∷ 2 ∷ 1 ∷ [])) ∷
    -- U+3041 to U+33FF: both ends, and one past each
    row (char_widths (0x3040 ∷ 0x3041 ∷ 0x33FF ∷ 0x3400 ∷ [])) (numbers (1 ∷ 2 ∷ 2 ∷ 2 ∷ [])) ∷
    -- U+3400 to U+4DBF: both ends, and one past each
    row (char_widths (0x33FF ∷ 0x3400 ∷ 0x4DBF ∷ 0x4DC0 ∷ [])) (numbers (2 ∷ 2 ∷ 2 ∷ 1 ∷ [])) ∷
    -- U+4E00 to U+A4CF: both ends, and one past each
    row (char_widths (0x4DFF ∷ 0x4E00 ∷ 0xA4CF ∷ 0xA4D0 ∷ [])) (numbers (1 ∷ 2 ∷ 2 ∷ 1 ∷ [])) ∷
    -- U+AC00 to U+D7A3: both ends, and one past each
    row (char_widths (0xABFF ∷ 0xAC00 ∷ 0xD7A3 ∷ 0xD7A4 ∷ [])) (numbers (1 ∷ 2 ∷ 2 ∷ 1 ∷ [])) ∷
    -- U+F900 to U+FAFF: both ends, and one past each
    row (char_widths (0xF8FF ∷ 0xF900 ∷ 0xFAFF ∷ 0xFB00 ∷ [])) (numbers (1 ∷ 2 ∷ 2 ∷ 1 ∷ [])) ∷
    -- U+FE30 to U+FE6F: both ends, and one past each
    row (char_widths (0xFE2F ∷ 0xFE30 ∷ 0xFE6F ∷ 0xFE70 ∷ [])) (numbers (0 ∷ 2 ∷ 2 ∷ 1 ∷ [])) ∷
    -- U+FF00 to U+FF60: both ends, and one past each
    row (char_widths (0xFEFF ∷ 0xFF00 ∷ 0xFF60 ∷ 0xFF61 ∷ [])) (numbers (1 ∷ 2 ∷ 2 ∷ 1 ∷ [])) ∷
    -- U+FFE0 to U+FFE6: both ends, and one past each
    row (char_widths (0xFFDF ∷ 0xFFE0 ∷ 0xFFE6 ∷ 0xFFE7 ∷ [])) (numbers (1 ∷ 2 ∷ 2 ∷ 1 ∷ [])) ∷
    -- U+20000 to U+2FFFD: both ends, and one past each
    row (char_widths (0x1FFFF ∷ 0x20000 ∷ 0x2FFFD ∷ 0x2FFFE ∷ [])) (numbers (1 ∷ 2 ∷ 2 ∷ 1 ∷ [])) ∷
    -- U+30000 to U+3FFFD: both ends, and one past each
    row (char_widths (0x2FFFF ∷ 0x30000 ∷ 0x3FFFD ∷ 0x3FFFE ∷ [])) (numbers (1 ∷ 2 ∷ 2 ∷ 1 ∷ [])) ∷
    -- U+1F600 to U+1F64F: both ends, and one past each
    row (char_widths (0x1F5FF ∷ 0x1F600 ∷ 0x1F64F ∷ 0x1F650 ∷ [])) (numbers (1 ∷ 2 ∷ 2 ∷ 1 ∷ [])) ∷
    -- U+1F680 to U+1F6C5: both ends, and one past each
    row (char_widths (0x1F67F ∷ 0x1F680 ∷ 0x1F6C5 ∷ 0x1F6C6 ∷ [])) (numbers (1 ∷ 2 ∷ 2 ∷ 1 ∷ [])) ∷
    -- width, a wide character
    row (width_of (0xE6 ∷ 0x9C ∷ 0xA8 ∷ [])) (numbers (2 ∷ [])) ∷
    -- width, a combining mark
    row (width_of (0xCC ∷ 0x81 ∷ [])) (numbers (0 ∷ [])) ∷
    -- width, E0 80: three ill-formed bytes
    row (width_of (0xE0 ∷ 0x80 ∷ 0x80 ∷ [])) (numbers (3 ∷ [])) ∷
    -- width, ED A0: a surrogate, three
    row (width_of (0xED ∷ 0xA0 ∷ 0x80 ∷ [])) (numbers (3 ∷ [])) ∷
    -- width, F0 80: four
    row (width_of (0xF0 ∷ 0x80 ∷ 0x80 ∷ 0x80 ∷ [])) (numbers (4 ∷ [])) ∷
    -- width, F4 90: four
    row (width_of (0xF4 ∷ 0x90 ∷ 0x80 ∷ 0x80 ∷ [])) (numbers (4 ∷ [])) ∷
    -- width, C0 AF: two
    row (width_of (0xC0 ∷ 0xAF ∷ [])) (numbers (2 ∷ [])) ∷
    -- width, F5 leads nothing
    row (width_of (0xF5 ∷ 0x80 ∷ [])) (numbers (2 ∷ [])) ∷
    -- width, cut short: one maximal subpart
    row (width_of (0xE6 ∷ 0x9C ∷ [])) (numbers (1 ∷ [])) ∷
    -- width, U+FFFD itself
    row (width_of (0xEF ∷ 0xBF ∷ 0xBD ∷ [])) (numbers (1 ∷ [])) ∷
    -- wrap: whitespace does not count in the fit test of its own word
    row (lines_of 5 false (0x31 ∷ 0x32 ∷ 0x20 ∷ 0x66 ∷ 0x74 ∷ 0x20 ∷ 0x62 ∷ [])) (lines (line 0 5 5 ∷ line 6 7 1 ∷ [])) ∷
    -- wrap: a tab is no separator
    row (lines_of 2 false (0x61 ∷ 0x09 ∷ 0x62 ∷ 0x20 ∷ 0x63 ∷ [])) (lines (line 0 3 2 ∷ line 4 5 1 ∷ [])) ∷
    -- wrap: a carriage return is no separator
    row (lines_of 9 false (0x61 ∷ 0x0D ∷ 0x0A ∷ 0x62 ∷ [])) (lines (line 0 2 1 ∷ line 3 4 1 ∷ [])) ∷
    -- wrap: breaking, place 0: one character and the zero-width ones after it
    row (lines_of 1 true (0xE6 ∷ 0x9C ∷ 0xA8 ∷ 0xCC ∷ 0x81 ∷ 0x61 ∷ [])) (lines (line 0 5 2 ∷ line 5 6 1 ∷ [])) ∷
    -- wrap: breaking: a zero-width character before a wide one is a head by itself
    row (lines_of 1 true (0xCC ∷ 0x81 ∷ 0xE6 ∷ 0x9C ∷ 0xA8 ∷ [])) (lines (line 0 2 0 ∷ line 2 5 2 ∷ [])) ∷
    -- wrap: breaking: a head is never empty
    row (lines_of 1 true (0xE6 ∷ 0x9C ∷ 0xA8 ∷ [])) (lines (line 0 3 2 ∷ [])) ∷
    -- wrap: breaking: the last head keeps the whitespace
    row (lines_of 2 true (0x61 ∷ 0x62 ∷ 0x63 ∷ 0x20 ∷ 0x64 ∷ [])) (lines (line 0 2 2 ∷ line 2 3 1 ∷ line 4 5 1 ∷ [])) ∷
    -- wrap: width 0 does not break
    row (lines_of 0 true (0x61 ∷ 0x62 ∷ 0x63 ∷ [])) (lines (line 0 3 3 ∷ [])) ∷
    -- wrap: spaces only: one empty line
    row (lines_of 3 false (0x20 ∷ 0x20 ∷ 0x20 ∷ 0x20 ∷ [])) (lines (line 0 0 0 ∷ [])) ∷
    -- wrap: trailing spaces are not shown
    row (lines_of 3 false (0x61 ∷ 0x62 ∷ 0x20 ∷ 0x20 ∷ [])) (lines (line 0 2 2 ∷ [])) ∷
    -- wrap: 0A at both ends
    row (lines_of 3 false (0x0A ∷ 0x61 ∷ 0x62 ∷ 0x0A ∷ [])) (lines (line 0 0 0 ∷ line 1 3 2 ∷ line 4 4 0 ∷ [])) ∷
    -- wrap: a cut-off sequence at the end of a line is one column
    row (lines_of 4 false (0x61 ∷ 0xE6 ∷ 0x9C ∷ 0x20 ∷ 0x62 ∷ 0x62 ∷ 0x62 ∷ [])) (lines (line 0 3 2 ∷ line 4 7 3 ∷ [])) ∷
    -- wrap: a zero-width character at the end of a line takes no column
    row (lines_of 2 false (0x61 ∷ 0xCC ∷ 0x81 ∷ 0x20 ∷ 0x62 ∷ 0x63 ∷ [])) (lines (line 0 3 1 ∷ line 4 6 2 ∷ [])) ∷
    -- wrap: whitespace between words counts in the width of a line, that after the last word does not
    row (lines_of 6 false (0x61 ∷ 0x20 ∷ 0x20 ∷ 0x20 ∷ 0x62 ∷ 0x20 ∷ 0x20 ∷ [])) (lines (line 0 5 5 ∷ [])) ∷
    -- wrap: breaking: ill-formed bytes, each with its own width
    row (lines_of 1 true (0xE6 ∷ 0x9C ∷ 0x61 ∷ 0x80 ∷ [])) (lines (line 0 2 1 ∷ line 2 3 1 ∷ line 3 4 1 ∷ [])) ∷
    -- wrap: a lone word may be wider than the width
    row (lines_of 3 false (0xE6 ∷ 0x9C ∷ 0xA8 ∷ 0xE6 ∷ 0x9C ∷ 0xA8 ∷ 0x20 ∷ 0x61 ∷ [])) (lines (line 0 6 4 ∷ line 7 8 1 ∷ [])) ∷
    -- width, a face
    row (width_of (0xF0 ∷ 0x9F ∷ 0x98 ∷ 0x80 ∷ [])) (numbers (2 ∷ [])) ∷
    -- width, a face without its last byte: one maximal subpart, one column
    row (width_of (0xF0 ∷ 0x9F ∷ 0x98 ∷ [])) (numbers (1 ∷ [])) ∷
    -- wrap: two faces and the space between them are five columns
    row (lines_of 4 false (0xF0 ∷ 0x9F ∷ 0x98 ∷ 0x80 ∷ 0x20 ∷ 0xF0 ∷ 0x9F ∷ 0x98 ∷ 0x80 ∷ [])) (lines (line 0 4 2 ∷ line 5 9 2 ∷ [])) ∷
    -- wrap: breaking at width 1: a face is one head, two columns wide
    row (lines_of 1 true (0xF0 ∷ 0x9F ∷ 0x98 ∷ 0x80 ∷ 0xF0 ∷ 0x9F ∷ 0x98 ∷ 0x80 ∷ [])) (lines (line 0 4 2 ∷ line 4 8 2 ∷ [])) ∷
    -- wrap: breaking at width 1: a face without its last byte
    row (lines_of 1 true (0xF0 ∷ 0x9F ∷ 0x98 ∷ 0x61 ∷ [])) (lines (line 0 3 1 ∷ line 3 4 1 ∷ [])) ∷
    -- end cutter: of two faces one is kept, and its label ends where it ended
    row (call (truncate_end 3 (recording (0x2E ∷ []) [] [])) roomy
    (recording (0xF0 ∷ 0x9F ∷ 0x98 ∷ 0x80 ∷ 0xF0 ∷ 0x9F ∷ 0x98 ∷ 0x80 ∷ []) (0 ∷ 0 ∷ 0 ∷ 1 ∷ 4 ∷ 1 ∷ 0 ∷ 0 ∷ []) (0x78 ∷ [])))
    (outcome_of (done (record { recording = recording (0xF0 ∷ 0x9F ∷ 0x98 ∷ 0x80 ∷ 0x2E ∷ []) (0 ∷ 0 ∷ 0 ∷ 1 ∷ 4 ∷ 1 ∷ 0 ∷ 0 ∷ []) (0x78 ∷ []); lines = []; number = 3 }))) ∷
    -- start cutter: a face that does not fit goes whole
    row (call (truncate_start 2 (recording (0x2E ∷ []) [] [])) roomy (recording (0x61 ∷ 0xF0 ∷ 0x9F ∷ 0x98 ∷ 0x80 ∷ []) [] []))
    (outcome_of (done (record { recording = recording (0x2E ∷ []) [] []; lines = []; number = 1 }))) ∷
    -- end cutter: a face without its last byte is kept as one column
    row (call (truncate_end 1 (recording [] [] [])) roomy (recording (0xF0 ∷ 0x9F ∷ 0x98 ∷ 0x61 ∷ []) [] []))
    (outcome_of (done (record { recording = recording (0xF0 ∷ 0x9F ∷ 0x98 ∷ []) [] []; lines = []; number = 1 }))) ∷
    -- padding: a truck is two columns of the width asked for
    row (call (pad_centered 5 (recording (0x2E ∷ []) [] [])) roomy (recording (0xF0 ∷ 0x9F ∷ 0x9A ∷ 0x9A ∷ []) [] []))
    (outcome_of (done (record { recording = recording (0x2E ∷ 0xF0 ∷ 0x9F ∷ 0x9A ∷ 0x9A ∷ 0x2E ∷ 0x2E ∷ []) [] []; lines = []; number = 0 }))) ∷
    -- start cutter: leading zero-width characters are removed also when nothing was cut
    row (call (truncate_start 4 (recording [] [] [])) roomy (recording (0xCC ∷ 0x81 ∷ 0x61 ∷ []) [] []))
    (outcome_of (done (record { recording = recording (0x61 ∷ []) [] []; lines = []; number = 1 }))) ∷
    -- start cutter: and from what was cut
    row (call (truncate_start 1 (recording [] [] [])) roomy (recording (0x61 ∷ 0xCC ∷ 0x81 ∷ 0x62 ∷ []) [] []))
    (outcome_of (done (record { recording = recording (0x62 ∷ []) [] []; lines = []; number = 1 }))) ∷
    -- end cutter: zero-width characters before the cut stay
    row (call (truncate_end 0 (recording [] [] [])) roomy (recording (0xCC ∷ 0x81 ∷ 0x61 ∷ []) [] []))
    (outcome_of (done (record { recording = recording (0xCC ∷ 0x81 ∷ []) [] []; lines = []; number = 0 }))) ∷
    -- end cutter: not cut, no ellipsis and none of its entries, the width of the content
    row (call (truncate_end 4 (recording (0x2E ∷ []) (0 ∷ 2 ∷ 0 ∷ 1 ∷ []) (0x1B ∷ []))) roomy (recording (0x61 ∷ 0x62 ∷ []) [] []))
    (outcome_of (done (record { recording = recording (0x61 ∷ 0x62 ∷ []) [] []; lines = []; number = 2 }))) ∷
    -- end cutter: the ellipsis is cut to max, the content to 0
    row (call (truncate_end 2 (recording (0x2E ∷ 0x2E ∷ 0x2E ∷ []) [] [])) roomy (recording (0x61 ∷ 0x62 ∷ 0x63 ∷ []) [] []))
    (outcome_of (done (record { recording = recording (0x2E ∷ 0x2E ∷ []) [] []; lines = []; number = 2 }))) ∷
    -- start cutter: an ellipsis keeps its tail
    row (call (truncate_start 2 (recording (0x78 ∷ 0x79 ∷ 0x7A ∷ []) [] [])) roomy (recording (0x61 ∷ 0x62 ∷ 0x63 ∷ []) [] []))
    (outcome_of (done (record { recording = recording (0x79 ∷ 0x7A ∷ []) [] []; lines = []; number = 2 }))) ∷
    -- start cutter: a wide character that does not fit goes whole
    row (call (truncate_start 2 (recording (0x2E ∷ []) [] [])) roomy (recording (0xE6 ∷ 0x9C ∷ 0xA8 ∷ 0xE6 ∷ 0x9C ∷ 0xA8 ∷ []) [] []))
    (outcome_of (done (record { recording = recording (0x2E ∷ []) [] []; lines = []; number = 1 }))) ∷
    -- centred padding with count 1: all of it on the right, entries too
    row (call (pad_centered 3 (recording (0x2E ∷ []) (0 ∷ 0 ∷ 0 ∷ 1 ∷ 1 ∷ 1 ∷ 0 ∷ 0 ∷ []) (0x66 ∷ []))) roomy (recording (0x61 ∷ 0x62 ∷ []) [] []))
    (outcome_of (done (record { recording = recording (0x61 ∷ 0x62 ∷ 0x2E ∷ []) (2 ∷ 0 ∷ 0 ∷ 1 ∷ 3 ∷ 1 ∷ 0 ∷ 0 ∷ []) (0x66 ∷ []); lines = []; number = 0 }))) ∷
    -- padding with count 0: no entry of the fill
    row (call (pad_start 2 (recording (0x2E ∷ []) (0 ∷ 0 ∷ 0 ∷ 1 ∷ 1 ∷ 1 ∷ 0 ∷ 0 ∷ []) (0x66 ∷ []))) roomy (recording (0x61 ∷ 0x62 ∷ []) [] []))
    (outcome_of (done (record { recording = recording (0x61 ∷ 0x62 ∷ []) [] []; lines = []; number = 0 }))) ∷
    -- padding: a fill of two pieces, twice, each piece before the next
    row (call (pad_start 4 (recording (0x61 ∷ 0x62 ∷ []) (1 ∷ 2 ∷ 0 ∷ 1 ∷ []) (0x1B ∷ []))) roomy (recording (0x66 ∷ 0x69 ∷ []) [] []))
    (outcome_of (done (record { recording = recording (0x61 ∷ 0x61 ∷ 0x62 ∷ 0x62 ∷ 0x66 ∷ 0x69 ∷ []) (2 ∷ 2 ∷ 0 ∷ 1 ∷ []) (0x1B ∷ []); lines = []; number = 0 }))) ∷
    -- padding: a wide fill counts by its times, not by its width
    row (call (pad_end 2 (recording (0xE6 ∷ 0x9C ∷ 0xA8 ∷ []) [] [])) roomy (recording [] [] []))
    (outcome_of (done (record { recording = recording (0xE6 ∷ 0x9C ∷ 0xA8 ∷ 0xE6 ∷ 0x9C ∷ 0xA8 ∷ []) [] []; lines = []; number = 0 }))) ∷
    -- indent: the last line without 0A, an empty line, nothing after the last 0A
    row (call (indent (recording (0x3E ∷ 0x20 ∷ []) [] [])) roomy (recording (0x61 ∷ 0x0A ∷ 0x0A ∷ 0x62 ∷ 0x0A ∷ []) [] []))
    (outcome_of (done (record { recording = recording (0x3E ∷ 0x20 ∷ 0x61 ∷ 0x0A ∷ 0x0A ∷ 0x3E ∷ 0x20 ∷ 0x62 ∷ 0x0A ∷ []) [] []; lines = []; number = 0 }))) ∷
    -- indent: a line of spaces is not empty
    row (call (indent (recording (0x3E ∷ []) [] [])) roomy (recording (0x20 ∷ 0x0A ∷ []) [] []))
    (outcome_of (done (record { recording = recording (0x3E ∷ 0x20 ∷ 0x0A ∷ []) [] []; lines = []; number = 0 }))) ∷
    -- indent: entries at the line start come before the prefix
    row (call (indent (recording (0x3E ∷ 0x20 ∷ []) [] [])) roomy
    (recording (0x61 ∷ 0x0A ∷ 0x62 ∷ 0x0A ∷ []) (0 ∷ 0 ∷ 0 ∷ 1 ∷ 2 ∷ 1 ∷ 0 ∷ 0 ∷ 2 ∷ 2 ∷ 1 ∷ 2 ∷ []) (0x4C ∷ 0x07 ∷ 0x07 ∷ [])))
    (outcome_of (done (record {
      recording = recording (0x3E ∷ 0x20 ∷ 0x61 ∷ 0x0A ∷ 0x3E ∷ 0x20 ∷ 0x62 ∷ 0x0A ∷ []) (0 ∷ 0 ∷ 0 ∷ 1 ∷ 4 ∷ 1 ∷ 0 ∷ 0 ∷ 4 ∷ 2 ∷ 1 ∷ 2 ∷ [])
          (0x4C ∷ 0x07 ∷ 0x07 ∷ []);
      lines = [];
      number = 0;
    }))) ∷
    -- unindent: C13 back; an empty line stays, the last line has no 0A
    row (call (unindent (recording (0x3E ∷ 0x20 ∷ []) [] [])) roomy (recording (0x3E ∷ 0x20 ∷ 0x61 ∷ 0x0A ∷ 0x0A ∷ 0x3E ∷ 0x20 ∷ 0x62 ∷ []) [] []))
    (outcome_of (done (record { recording = recording (0x61 ∷ 0x0A ∷ 0x0A ∷ 0x62 ∷ []) [] []; lines = []; number = 0 }))) ∷
    -- unindent: a line that is exactly the prefix is left empty
    row (call (unindent (recording (0x3E ∷ 0x20 ∷ []) [] [])) roomy (recording (0x3E ∷ 0x20 ∷ 0x0A ∷ 0x3E ∷ 0x20 ∷ 0x61 ∷ 0x0A ∷ 0x3E ∷ 0x20 ∷ []) [] []))
    (outcome_of (done (record { recording = recording (0x0A ∷ 0x61 ∷ 0x0A ∷ []) [] []; lines = []; number = 0 }))) ∷
    -- unindent: the prefix goes once, also where it comes again
    row (call (unindent (recording (0x61 ∷ 0x61 ∷ []) [] [])) roomy (recording (0x61 ∷ 0x61 ∷ 0x61 ∷ 0x61 ∷ 0x0A ∷ 0x61 ∷ 0x61 ∷ 0x0A ∷ 0x61 ∷ 0x61 ∷ 0x61 ∷ []) [] []))
    (outcome_of (done (record { recording = recording (0x61 ∷ 0x61 ∷ 0x0A ∷ 0x0A ∷ 0x61 ∷ []) [] []; lines = []; number = 0 }))) ∷
    -- unindent: an empty prefix takes nothing out, and its entries are not written
    row (call (unindent (recording [] (0 ∷ 0 ∷ 0 ∷ 1 ∷ []) (0x78 ∷ []))) roomy (recording (0x61 ∷ 0x0A ∷ 0x0A ∷ 0x62 ∷ []) (1 ∷ 2 ∷ 0 ∷ 1 ∷ []) (0x1B ∷ [])))
    (outcome_of (done (record { recording = recording (0x61 ∷ 0x0A ∷ 0x0A ∷ 0x62 ∷ []) (1 ∷ 2 ∷ 0 ∷ 1 ∷ []) (0x1B ∷ []); lines = []; number = 0 }))) ∷
    -- unindent: nothing but 0A, and nothing at all
    row (call (unindent (recording (0x3E ∷ 0x20 ∷ []) [] [])) roomy (recording (0x0A ∷ 0x0A ∷ []) [] []))
    (outcome_of (done (record { recording = recording (0x0A ∷ 0x0A ∷ []) [] []; lines = []; number = 0 }))) ∷
    -- unindent: no data
    row (call (unindent (recording (0x3E ∷ 0x20 ∷ []) [] [])) roomy (recording [] (0 ∷ 2 ∷ 0 ∷ 1 ∷ []) (0x1B ∷ [])))
    (outcome_of (done (record { recording = recording [] (0 ∷ 2 ∷ 0 ∷ 1 ∷ []) (0x1B ∷ []); lines = []; number = 0 }))) ∷
    -- unindent: entries at the first byte, inside the prefix, at its end and behind it stay in order; the label x, pushed twice, has one part
    row (call (unindent (recording (0x3E ∷ 0x20 ∷ []) [] [])) roomy
    (recording (0x3E ∷ 0x20 ∷ 0x61 ∷ 0x0A ∷ 0x3E ∷ 0x20 ∷ 0x62 ∷ [])
    (0 ∷ 0 ∷ 0 ∷ 1 ∷ 1 ∷ 2 ∷ 1 ∷ 1 ∷ 2 ∷ 1 ∷ 0 ∷ 0 ∷ 3 ∷ 0 ∷ 2 ∷ 1 ∷ 4 ∷ 1 ∷ 0 ∷ 0 ∷ 5 ∷ 0 ∷ 0 ∷ 1 ∷ 6 ∷ 1 ∷ 0 ∷ 0 ∷ []) (0x78 ∷ 0x79 ∷ 0x7A ∷ [])))
    (outcome_of (done (record {
      recording = recording (0x61 ∷ 0x0A ∷ 0x62 ∷ []) (0 ∷ 0 ∷ 0 ∷ 1 ∷ 0 ∷ 2 ∷ 1 ∷ 1 ∷ 0 ∷ 1 ∷ 0 ∷ 0 ∷ 1 ∷ 0 ∷ 2 ∷ 1 ∷ 2 ∷ 1 ∷ 0 ∷ 0 ∷ 2 ∷ 0 ∷ 0 ∷ 1 ∷ 2 ∷ 1 ∷ 0 ∷ 0 ∷ [])
          (0x78 ∷ 0x79 ∷ 0x7A ∷ []);
      lines = [];
      number = 0;
    }))) ∷
    -- unindent: the prefix's labels and raw sequences play no part
    row (call (unindent (recording (0x3E ∷ 0x20 ∷ []) (0 ∷ 0 ∷ 0 ∷ 1 ∷ 1 ∷ 2 ∷ 1 ∷ 1 ∷ 2 ∷ 1 ∷ 0 ∷ 0 ∷ []) (0x78 ∷ 0x1B ∷ []))) roomy
    (recording (0x3E ∷ 0x20 ∷ 0x61 ∷ []) (0 ∷ 0 ∷ 0 ∷ 1 ∷ 3 ∷ 1 ∷ 0 ∷ 0 ∷ []) (0x79 ∷ [])))
    (outcome_of (done (record { recording = recording (0x61 ∷ []) (0 ∷ 0 ∷ 0 ∷ 1 ∷ 1 ∷ 1 ∷ 0 ∷ 0 ∷ []) (0x79 ∷ []); lines = []; number = 0 }))) ∷
    -- unindent: bytes are compared, not characters
    row (call (unindent (recording (0xE6 ∷ []) [] [])) roomy (recording (0xE6 ∷ 0x9C ∷ 0xA8 ∷ []) [] []))
    (outcome_of (done (record { recording = recording (0x9C ∷ 0xA8 ∷ []) [] []; lines = []; number = 0 }))) ∷
    -- unindent: each buffer exactly full
    row (call (unindent (recording (0x3E ∷ 0x20 ∷ []) [] [])) (room 1 4 1 0) (recording (0x3E ∷ 0x20 ∷ 0x61 ∷ []) (3 ∷ 0 ∷ 0 ∷ 1 ∷ []) (0x78 ∷ [])))
    (outcome_of (done (record { recording = recording (0x61 ∷ []) (1 ∷ 0 ∷ 0 ∷ 1 ∷ []) (0x78 ∷ []); lines = []; number = 0 }))) ∷
    -- wrap: an entry in dropped white space comes after the 0A
    row (call (wrap 2 false) roomy (recording (0x61 ∷ 0x62 ∷ 0x20 ∷ 0x20 ∷ 0x63 ∷ 0x64 ∷ []) (3 ∷ 2 ∷ 0 ∷ 1 ∷ []) (0x1B ∷ [])))
    (outcome_of (done (record { recording = recording (0x61 ∷ 0x62 ∷ 0x0A ∷ 0x63 ∷ 0x64 ∷ []) (3 ∷ 2 ∷ 0 ∷ 1 ∷ []) (0x1B ∷ []); lines = (0 ∷ 2 ∷ 2 ∷ 4 ∷ 6 ∷ 2 ∷ []); number = 2 }))) ∷
    -- wrap: empty data writes no byte and leaves its entries and one line
    row (call (wrap 2 false) roomy (recording [] (0 ∷ 2 ∷ 0 ∷ 1 ∷ []) (0x1B ∷ [])))
    (outcome_of (done (record { recording = recording [] (0 ∷ 2 ∷ 0 ∷ 1 ∷ []) (0x1B ∷ []); lines = (0 ∷ 0 ∷ 0 ∷ []); number = 1 }))) ∷
    -- replace: entries at start before the new bytes, later ones after; records at one place in list order
    row (call (replace (replacement 1 1 0 1 ∷ replacement 1 2 1 2 ∷ []) (0x58 ∷ 0x59 ∷ [])) roomy
    (recording (0x61 ∷ 0x62 ∷ 0x63 ∷ []) (1 ∷ 0 ∷ 0 ∷ 1 ∷ 2 ∷ 1 ∷ 0 ∷ 0 ∷ []) (0x4C ∷ [])))
    (outcome_of (done (record { recording = recording (0x61 ∷ 0x58 ∷ 0x59 ∷ 0x63 ∷ []) (1 ∷ 0 ∷ 0 ∷ 1 ∷ 3 ∷ 1 ∷ 0 ∷ 0 ∷ []) (0x4C ∷ []); lines = []; number = 0 }))) ∷
    -- tabs: to the next stop
    row (call (expand_tabs 4) roomy (recording (0x61 ∷ 0x09 ∷ 0x62 ∷ []) [] []))
    (outcome_of (done (record { recording = recording (0x61 ∷ 0x20 ∷ 0x20 ∷ 0x20 ∷ 0x62 ∷ []) [] []; lines = []; number = 0 }))) ∷
    -- tabs: at a stop a whole stop, before one a single space
    row (call (expand_tabs 2) roomy (recording (0x61 ∷ 0x62 ∷ 0x09 ∷ 0x63 ∷ 0x09 ∷ 0x64 ∷ []) [] []))
    (outcome_of (done (record { recording = recording (0x61 ∷ 0x62 ∷ 0x20 ∷ 0x20 ∷ 0x63 ∷ 0x20 ∷ 0x64 ∷ []) [] []; lines = []; number = 0 }))) ∷
    -- tabs: one after another, the spaces count
    row (call (expand_tabs 4) roomy (recording (0x09 ∷ 0x61 ∷ 0x09 ∷ 0x09 ∷ []) [] []))
    (outcome_of (done (record { recording = recording (0x20 ∷ 0x20 ∷ 0x20 ∷ 0x20 ∷ 0x61 ∷ 0x20 ∷ 0x20 ∷ 0x20 ∷ 0x20 ∷ 0x20 ∷ 0x20 ∷ 0x20 ∷ []) [] []; lines = []; number = 0 }))) ∷
    -- tabs: a stop at every column
    row (call (expand_tabs 1) roomy (recording (0x09 ∷ 0x09 ∷ 0x61 ∷ []) [] []))
    (outcome_of (done (record { recording = recording (0x20 ∷ 0x20 ∷ 0x61 ∷ []) [] []; lines = []; number = 0 }))) ∷
    -- tabs: the column starts anew after 0A
    row (call (expand_tabs 4) roomy (recording (0x61 ∷ 0x62 ∷ 0x63 ∷ 0x0A ∷ 0x09 ∷ 0x64 ∷ 0x09 ∷ []) [] []))
    (outcome_of (done (record { recording = recording (0x61 ∷ 0x62 ∷ 0x63 ∷ 0x0A ∷ 0x20 ∷ 0x20 ∷ 0x20 ∷ 0x20 ∷ 0x64 ∷ 0x20 ∷ 0x20 ∷ 0x20 ∷ []) [] []; lines = []; number = 0 }))) ∷
    -- tabs: a wide character is two columns, a zero-width one none
    row (call (expand_tabs 4) roomy (recording (0xE6 ∷ 0x9C ∷ 0xA8 ∷ 0x09 ∷ 0x61 ∷ 0xCC ∷ 0x81 ∷ 0x09 ∷ []) [] []))
    (outcome_of (done (record { recording = recording (0xE6 ∷ 0x9C ∷ 0xA8 ∷ 0x20 ∷ 0x20 ∷ 0x61 ∷ 0xCC ∷ 0x81 ∷ 0x20 ∷ 0x20 ∷ 0x20 ∷ []) [] []; lines = []; number = 0 }))) ∷
    -- tabs: a cut-off sequence is one column, also between tabs
    row (call (expand_tabs 4) roomy (recording (0xE6 ∷ 0x9C ∷ 0x09 ∷ 0x80 ∷ 0x09 ∷ 0xA8 ∷ []) [] []))
    (outcome_of (done (record { recording = recording (0xE6 ∷ 0x9C ∷ 0x20 ∷ 0x20 ∷ 0x20 ∷ 0x80 ∷ 0x20 ∷ 0x20 ∷ 0x20 ∷ 0xA8 ∷ []) [] []; lines = []; number = 0 }))) ∷
    -- tabs: entries at the tab come before its spaces, those behind it after them
    row (call (expand_tabs 4) roomy (recording (0x61 ∷ 0x09 ∷ 0x62 ∷ []) (1 ∷ 0 ∷ 0 ∷ 1 ∷ 2 ∷ 1 ∷ 0 ∷ 0 ∷ []) (0x78 ∷ [])))
    (outcome_of (done (record { recording = recording (0x61 ∷ 0x20 ∷ 0x20 ∷ 0x20 ∷ 0x62 ∷ []) (1 ∷ 0 ∷ 0 ∷ 1 ∷ 4 ∷ 1 ∷ 0 ∷ 0 ∷ []) (0x78 ∷ []); lines = []; number = 0 }))) ∷
    -- tabs: a label that closes and one that opens at the tab
    row (call (expand_tabs 4) roomy (recording (0x61 ∷ 0x09 ∷ 0x62 ∷ []) (0 ∷ 0 ∷ 0 ∷ 1 ∷ 1 ∷ 1 ∷ 0 ∷ 0 ∷ 1 ∷ 0 ∷ 1 ∷ 1 ∷ 3 ∷ 1 ∷ 0 ∷ 0 ∷ []) (0x78 ∷ 0x79 ∷ [])))
    (outcome_of (done (record { recording = recording (0x61 ∷ 0x20 ∷ 0x20 ∷ 0x20 ∷ 0x62 ∷ []) (0 ∷ 0 ∷ 0 ∷ 1 ∷ 1 ∷ 1 ∷ 0 ∷ 0 ∷ 1 ∷ 0 ∷ 1 ∷ 1 ∷ 5 ∷ 1 ∷ 0 ∷ 0 ∷ []) (0x78 ∷ 0x79 ∷ []); lines = []; number = 0 }))) ∷
    -- tabs: no tab, nothing changes
    row (call (expand_tabs 8) roomy (recording (0x61 ∷ 0x0A ∷ 0x62 ∷ []) (1 ∷ 2 ∷ 0 ∷ 1 ∷ []) (0x1B ∷ [])))
    (outcome_of (done (record { recording = recording (0x61 ∷ 0x0A ∷ 0x62 ∷ []) (1 ∷ 2 ∷ 0 ∷ 1 ∷ []) (0x1B ∷ []); lines = []; number = 0 }))) ∷
    -- tabs: 64 columns
    row (call (expand_tabs 64) roomy (recording (0x61 ∷ 0x09 ∷ []) [] []))
    (outcome_of (done (record { recording = recording (0x61 ∷ fill 63 0x20) [] []; lines = []; number = 0 }))) ∷
    -- texts are copied in entry order from 0, unused text goes
    row (call (wrap 9 false) roomy (recording [] (0 ∷ 0 ∷ 2 ∷ 1 ∷ 0 ∷ 0 ∷ 1 ∷ 1 ∷ []) (0x78 ∷ 0x79 ∷ 0x7A ∷ [])))
    (outcome_of (done (record { recording = recording [] (0 ∷ 0 ∷ 0 ∷ 1 ∷ 0 ∷ 0 ∷ 1 ∷ 1 ∷ []) (0x7A ∷ 0x79 ∷ []); lines = (0 ∷ 0 ∷ 0 ∷ []); number = 1 }))) ∷
    -- 2: entry numbers not a multiple of 4
    row (call (wrap 9 false) roomy (recording [] (0 ∷ 1 ∷ 0 ∷ []) [])) (outcome_of (refused 2)) ∷
    -- 2: entry numbers over 16,384
    row (call (wrap 9 false) roomy (recording [] (fill 16388 1) [])) (outcome_of (refused 2)) ∷
    -- 5: text over 65,536
    row (call (wrap 9 false) roomy (recording [] [] (fill 65537 0x61))) (outcome_of (refused 5)) ∷
    -- 3: kind over 2
    row (call (wrap 9 false) roomy (recording [] (0 ∷ 3 ∷ 0 ∷ 0 ∷ []) [])) (outcome_of (refused 3)) ∷
    -- 3: a pop with a start
    row (call (wrap 9 false) roomy (recording [] (0 ∷ 1 ∷ 1 ∷ 0 ∷ []) (0x78 ∷ []))) (outcome_of (refused 3)) ∷
    -- 3: a pop with a length
    row (call (wrap 9 false) roomy (recording [] (0 ∷ 1 ∷ 0 ∷ 1 ∷ []) (0x78 ∷ []))) (outcome_of (refused 3)) ∷
    -- 3: an empty raw sequence
    row (call (wrap 9 false) roomy (recording [] (0 ∷ 2 ∷ 0 ∷ 0 ∷ []) [])) (outcome_of (refused 3)) ∷
    -- 4: a position beyond the data
    row (call (wrap 9 false) roomy (recording (0x61 ∷ []) (2 ∷ 1 ∷ 0 ∷ 0 ∷ []) [])) (outcome_of (refused 4)) ∷
    -- 4: a position that falls
    row (call (wrap 9 false) roomy (recording (0x61 ∷ []) (1 ∷ 1 ∷ 0 ∷ 0 ∷ 0 ∷ 1 ∷ 0 ∷ 0 ∷ []) [])) (outcome_of (refused 4)) ∷
    -- 5: a part that passes the text's end
    row (call (wrap 9 false) roomy (recording [] (0 ∷ 0 ∷ 1 ∷ 1 ∷ []) (0x78 ∷ []))) (outcome_of (refused 5)) ∷
    -- 6: an ill-formed label
    row (call (wrap 9 false) roomy (recording [] (0 ∷ 0 ∷ 0 ∷ 1 ∷ []) (0xFF ∷ []))) (outcome_of (refused 6)) ∷
    -- an empty label at the text's end is no fault
    row (call (wrap 9 false) roomy (recording [] (0 ∷ 0 ∷ 1 ∷ 0 ∷ []) (0x78 ∷ [])))
    (outcome_of (done (record { recording = recording [] (0 ∷ 0 ∷ 0 ∷ 0 ∷ []) []; lines = (0 ∷ 0 ∷ 0 ∷ []); number = 1 }))) ∷
    -- 8: start > end
    row (call (replace (replacement 2 1 0 0 ∷ []) (0x58 ∷ [])) roomy (recording (0x61 ∷ 0x62 ∷ 0x63 ∷ []) [] [])) (outcome_of (refused 8)) ∷
    -- 8: end beyond the data
    row (call (replace (replacement 0 4 0 0 ∷ []) (0x58 ∷ [])) roomy (recording (0x61 ∷ 0x62 ∷ 0x63 ∷ []) [] [])) (outcome_of (refused 8)) ∷
    -- 8: start below the previous end
    row (call (replace (replacement 0 2 0 0 ∷ replacement 1 3 0 0 ∷ []) (0x58 ∷ [])) roomy (recording (0x61 ∷ 0x62 ∷ 0x63 ∷ []) [] [])) (outcome_of (refused 8)) ∷
    -- 8: from > to
    row (call (replace (replacement 0 1 1 0 ∷ []) (0x58 ∷ [])) roomy (recording (0x61 ∷ 0x62 ∷ 0x63 ∷ []) [] [])) (outcome_of (refused 8)) ∷
    -- 8: to beyond its text
    row (call (replace (replacement 0 1 0 2 ∷ []) (0x58 ∷ [])) roomy (recording (0x61 ∷ 0x62 ∷ 0x63 ∷ []) [] [])) (outcome_of (refused 8)) ∷
    -- 31: a stop of 0, and over 64
    row (call (expand_tabs 0) roomy (recording (0x61 ∷ []) [] [])) (outcome_of (refused 31)) ∷
    row (call (expand_tabs 65) roomy (recording (0x61 ∷ []) [] [])) (outcome_of (refused 31)) ∷
    -- 32: the prefix has a 0A, also where the data begins with it
    row (call (unindent (recording (0x3E ∷ 0x0A ∷ []) [] [])) roomy (recording (0x3E ∷ 0x0A ∷ 0x61 ∷ []) [] [])) (outcome_of (refused 32)) ∷
    -- 33: a line does not begin with the prefix; the last one; one that is shorter; one whose prefix would go on in the next line
    row (call (unindent (recording (0x3E ∷ 0x20 ∷ []) [] [])) roomy (recording (0x61 ∷ 0x0A ∷ 0x3E ∷ 0x20 ∷ 0x62 ∷ []) [] [])) (outcome_of (refused 33)) ∷
    row (call (unindent (recording (0x3E ∷ 0x20 ∷ []) [] [])) roomy (recording (0x3E ∷ 0x20 ∷ 0x61 ∷ 0x0A ∷ 0x3E ∷ 0x62 ∷ []) [] [])) (outcome_of (refused 33)) ∷
    row (call (unindent (recording (0x3E ∷ 0x20 ∷ []) [] [])) roomy (recording (0x3E ∷ 0x20 ∷ 0x61 ∷ 0x0A ∷ 0x3E ∷ []) [] [])) (outcome_of (refused 33)) ∷
    row (call (unindent (recording (0x3E ∷ 0x3E ∷ []) [] [])) roomy (recording (0x3E ∷ 0x0A ∷ 0x3E ∷ []) [] [])) (outcome_of (refused 33)) ∷
    -- 9: result entries over their limit
    row (call (truncate_end 0 (recording [] (fill4 4096) [])) roomy (recording (0x61 ∷ []) (fill4 1) [])) (outcome_of (refused 9)) ∷
    -- 9: result text over its limit: parts that overlap count each
    row (call (wrap 9 false) roomy (recording [] (0 ∷ 2 ∷ 0 ∷ 65536 ∷ 0 ∷ 2 ∷ 0 ∷ 1 ∷ []) (fill 65536 0x61))) (outcome_of (refused 9)) ∷
    -- 21: data buffer
    row (call (wrap 9 false) (room 0 4 1 3) (recording (0x61 ∷ []) (0 ∷ 0 ∷ 0 ∷ 1 ∷ []) (0x78 ∷ []))) (outcome_of (refused 21)) ∷
    -- 22: entry buffer
    row (call (wrap 9 false) (room 1 3 1 3) (recording (0x61 ∷ []) (0 ∷ 0 ∷ 0 ∷ 1 ∷ []) (0x78 ∷ []))) (outcome_of (refused 22)) ∷
    -- 23: text buffer
    row (call (wrap 9 false) (room 1 4 0 3) (recording (0x61 ∷ []) (0 ∷ 0 ∷ 0 ∷ 1 ∷ []) (0x78 ∷ []))) (outcome_of (refused 23)) ∷
    -- 24: line list, three numbers a line
    row (call (wrap 9 false) (room 1 4 1 2) (recording (0x61 ∷ []) (0 ∷ 0 ∷ 0 ∷ 1 ∷ []) (0x78 ∷ []))) (outcome_of (refused 24)) ∷
    -- each buffer exactly full
    row (call (wrap 9 false) (room 1 4 1 3) (recording (0x61 ∷ []) (0 ∷ 0 ∷ 0 ∷ 1 ∷ []) (0x78 ∷ [])))
    (outcome_of (done (record { recording = recording (0x61 ∷ []) (0 ∷ 0 ∷ 0 ∷ 1 ∷ []) (0x78 ∷ []); lines = (0 ∷ 1 ∷ 1 ∷ []); number = 1 }))) ∷
    -- 21: before 22, 23 and 24
    row (call (wrap 9 false) (room 0 0 0 0) (recording (0x61 ∷ []) (0 ∷ 0 ∷ 0 ∷ 1 ∷ []) (0x78 ∷ []))) (outcome_of (refused 21)) ∷
    -- 3: 3 before 4, in one entry
    row (call (wrap 9 false) roomy (recording [] (1 ∷ 3 ∷ 0 ∷ 0 ∷ []) [])) (outcome_of (refused 3)) ∷
    -- 4: 4 before 5
    row (call (wrap 9 false) roomy (recording [] (1 ∷ 0 ∷ 1 ∷ 1 ∷ []) [])) (outcome_of (refused 4)) ∷
    -- 5: 5 before 6
    row (call (wrap 9 false) roomy (recording [] (0 ∷ 0 ∷ 0 ∷ 2 ∷ []) (0xFF ∷ []))) (outcome_of (refused 5)) ∷
    -- 6: an entry's 6 before the next one's 3
    row (call (wrap 9 false) roomy (recording [] (0 ∷ 0 ∷ 0 ∷ 1 ∷ 0 ∷ 3 ∷ 0 ∷ 0 ∷ []) (0xFF ∷ []))) (outcome_of (refused 6)) ∷
    -- 2: 2 before 5 for length
    row (call (wrap 9 false) roomy (recording [] (1 ∷ []) (fill 65537 0x61))) (outcome_of (refused 2)) ∷
    -- 4: the content before the second recording
    row (call (indent (recording [] (0 ∷ []) [])) roomy (recording [] (1 ∷ 1 ∷ 0 ∷ 0 ∷ []) [])) (outcome_of (refused 4)) ∷
    -- 6: the second recording, though nothing of it would be written
    row (call (pad_start 0 (recording [] (0 ∷ 0 ∷ 0 ∷ 1 ∷ []) (0xFF ∷ []))) roomy (recording (0x61 ∷ 0x62 ∷ []) [] [])) (outcome_of (refused 6)) ∷
    -- 8: 8 before 9
    row (call (replace (replacement 1 0 0 0 ∷ []) (0x58 ∷ [])) roomy (recording [] (0 ∷ 2 ∷ 0 ∷ 65536 ∷ 0 ∷ 2 ∷ 0 ∷ 1 ∷ []) (fill 65536 0x61))) (outcome_of (refused 8)) ∷
    -- 6: the content before 31
    row (call (expand_tabs 0) roomy (recording [] (0 ∷ 0 ∷ 0 ∷ 1 ∷ []) (0xFF ∷ []))) (outcome_of (refused 6)) ∷
    -- 31: 31 before 9
    row (call (expand_tabs 65) roomy (recording [] (0 ∷ 2 ∷ 0 ∷ 65536 ∷ 0 ∷ 2 ∷ 0 ∷ 1 ∷ []) (fill 65536 0x61))) (outcome_of (refused 31)) ∷
    -- 31: 31 before 21
    row (call (expand_tabs 0) (room 0 0 0 0) (recording (0x61 ∷ []) [] [])) (outcome_of (refused 31)) ∷
    -- 32: 32 before 33
    row (call (unindent (recording (0x0A ∷ []) [] [])) roomy (recording (0x61 ∷ []) [] [])) (outcome_of (refused 32)) ∷
    -- 6: the content before 32, and the prefix before it too
    row (call (unindent (recording (0x0A ∷ []) [] [])) roomy (recording [] (0 ∷ 0 ∷ 0 ∷ 1 ∷ []) (0xFF ∷ []))) (outcome_of (refused 6)) ∷
    row (call (unindent (recording (0x0A ∷ []) (0 ∷ 0 ∷ 0 ∷ 1 ∷ []) (0xFF ∷ []))) roomy (recording (0x61 ∷ []) [] [])) (outcome_of (refused 6)) ∷
    -- 6: the prefix before 33
    row (call (unindent (recording (0x3E ∷ []) (0 ∷ 0 ∷ 0 ∷ 1 ∷ []) (0xFF ∷ []))) roomy (recording (0x61 ∷ []) [] [])) (outcome_of (refused 6)) ∷
    -- 33: 33 before 9
    row (call (unindent (recording (0x3E ∷ []) [] [])) roomy (recording (0x61 ∷ []) (0 ∷ 2 ∷ 0 ∷ 65536 ∷ 0 ∷ 2 ∷ 0 ∷ 1 ∷ []) (fill 65536 0x61))) (outcome_of (refused 33)) ∷
    -- 33: 33 before 21; then 21
    row (call (unindent (recording (0x3E ∷ 0x20 ∷ []) [] [])) (room 0 0 0 0) (recording (0x61 ∷ []) [] [])) (outcome_of (refused 33)) ∷
    row (call (unindent (recording (0x3E ∷ 0x20 ∷ []) [] [])) (room 0 0 0 0) (recording (0x3E ∷ 0x20 ∷ 0x61 ∷ []) [] [])) (outcome_of (refused 21)) ∷
    -- 9: 9 before 21
    row (call (truncate_end 0 (recording [] (fill4 4096) [])) (room 0 0 0 0) (recording (0x61 ∷ []) (fill4 1) [])) (outcome_of (refused 9)) ∷
    -- equal labels share the part of the first push, empty ones too; a raw sequence keeps its own; the text is exactly full
    row (call (replace [] []) (room 1 24 3 0) (recording (0x61 ∷ []) (0 ∷ 0 ∷ 0 ∷ 1 ∷ 0 ∷ 2 ∷ 1 ∷ 1 ∷ 0 ∷ 0 ∷ 2 ∷ 1 ∷ 1 ∷ 0 ∷ 3 ∷ 1 ∷ 1 ∷ 0 ∷ 0 ∷ 0 ∷ 1 ∷ 0 ∷ 4 ∷ 0 ∷ []) (0x78 ∷ 0x78 ∷ 0x79 ∷ 0x78 ∷ []))) (outcome_of (done (record { recording = recording (0x61 ∷ []) (0 ∷ 0 ∷ 0 ∷ 1 ∷ 0 ∷ 2 ∷ 1 ∷ 1 ∷ 0 ∷ 0 ∷ 2 ∷ 1 ∷ 1 ∷ 0 ∷ 0 ∷ 1 ∷ 1 ∷ 0 ∷ 3 ∷ 0 ∷ 1 ∷ 0 ∷ 3 ∷ 0 ∷ []) (0x78 ∷ 0x78 ∷ 0x79 ∷ []); lines = []; number = 0 }))) ∷
    -- 23: one byte less
    row (call (replace [] []) (room 1 24 2 0) (recording (0x61 ∷ []) (0 ∷ 0 ∷ 0 ∷ 1 ∷ 0 ∷ 2 ∷ 1 ∷ 1 ∷ 0 ∷ 0 ∷ 2 ∷ 1 ∷ 1 ∷ 0 ∷ 3 ∷ 1 ∷ 1 ∷ 0 ∷ 0 ∷ 0 ∷ 1 ∷ 0 ∷ 4 ∷ 0 ∷ []) (0x78 ∷ 0x78 ∷ 0x79 ∷ 0x78 ∷ []))) (outcome_of (refused 23)) ∷
    -- a label of the second recording that the content has: at its first push, which the fill has
    row (call (pad_start 2 (recording (0x2D ∷ []) (0 ∷ 0 ∷ 0 ∷ 1 ∷ 1 ∷ 1 ∷ 0 ∷ 0 ∷ []) (0x79 ∷ []))) (room 2 20 2 0) (recording (0x61 ∷ []) (0 ∷ 0 ∷ 0 ∷ 1 ∷ 0 ∷ 0 ∷ 1 ∷ 1 ∷ 1 ∷ 1 ∷ 0 ∷ 0 ∷ []) (0x78 ∷ 0x79 ∷ [])))
    (outcome_of (done (record { recording = recording (0x2D ∷ 0x61 ∷ []) (0 ∷ 0 ∷ 0 ∷ 1 ∷ 1 ∷ 1 ∷ 0 ∷ 0 ∷ 1 ∷ 0 ∷ 1 ∷ 1 ∷ 1 ∷ 0 ∷ 0 ∷ 1 ∷ 2 ∷ 1 ∷ 0 ∷ 0 ∷ []) (0x79 ∷ 0x78 ∷ []); lines = []; number = 0 }))) ∷
    -- C16: the 0A at 2 has no label
    row (coloured_run (record { job = wrap 2 false; room = roomy } ∷ []) c16)
    (colours (under 0x61 ((0x78 ∷ []) ∷ []) ∷ under 0x62 ((0x78 ∷ []) ∷ []) ∷ under 0x0A [] ∷ under 0x63 [] ∷ under 0x64 [] ∷ [])) ∷
    -- the list of calls: refusals, what is left in colour, what the plain steps make, and what stripping first leaves
    row (refusals_of ticket c16) (numbers (21 ∷ 0 ∷ 0 ∷ 0 ∷ [])) ∷
    row (coloured_run ticket c16) (colours ticket_colours) ∷
    row (coloured_steps ticket c16) (colours ticket_colours) ∷
    row (stripped_run ticket c16) (numbers (0x3E ∷ 0x20 ∷ 0x2E ∷ [])) ∷
    -- tabs: the spaces carry the tab's labels, in what is left as in the plain step
    row (coloured_run (record { job = expand_tabs 4; room = roomy } ∷ []) tabbed_row) (colours tabbed_colours) ∷
    row (coloured_steps (record { job = expand_tabs 4; room = roomy } ∷ []) tabbed_row) (colours tabbed_colours) ∷
    row (stripped_run (record { job = expand_tabs 4; room = roomy } ∷ []) tabbed_row) (numbers (0x61 ∷ 0x62 ∷ 0x20 ∷ 0x20 ∷ 0x63 ∷ [])) ∷
    -- unindent: there and back. The prefix, labelled p, comes under the line's labels and goes again; the coloured bytes are the content's, its entries those of the prefix too
    row (refusals_of (marks ∷ unmarks ∷ []) c16) (numbers (0 ∷ 0 ∷ [])) ∷
    row (coloured_run (marks ∷ unmarks ∷ []) c16) (colours (coloured c16)) ∷
    row (coloured_steps (marks ∷ unmarks ∷ []) c16) (colours (coloured c16)) ∷
    row (stripped_run (marks ∷ unmarks ∷ []) c16) (numbers c16.data_bytes) ∷
    -- a prefix whose label stays open may be taken off: nothing of it is written
    row (coloured_run (record { job = unindent unclosed; room = roomy } ∷ []) (recording (0x2E ∷ 0x61 ∷ []) [] [])) (colours (under 0x61 [] ∷ [])) ∷
    row (coloured_steps (record { job = unindent unclosed; room = roomy } ∷ []) (recording (0x2E ∷ 0x61 ∷ []) [] [])) (colours (under 0x61 [] ∷ [])) ∷
    -- the other way round: the data comes back, but not where a line was exactly the prefix, since an empty line gets none
    row (stripped_run (unmarks ∷ marks ∷ []) (recording (0x3E ∷ 0x20 ∷ 0x61 ∷ []) [] [])) (numbers (0x3E ∷ 0x20 ∷ 0x61 ∷ [])) ∷
    row (refusals_of (unmarks ∷ marks ∷ []) (recording (0x3E ∷ 0x20 ∷ 0x0A ∷ 0x3E ∷ 0x20 ∷ 0x61 ∷ []) [] [])) (numbers (0 ∷ 0 ∷ [])) ∷
    row (stripped_run (unmarks ∷ marks ∷ []) (recording (0x3E ∷ 0x20 ∷ 0x0A ∷ 0x3E ∷ 0x20 ∷ 0x61 ∷ []) [] [])) (numbers (0x0A ∷ 0x3E ∷ 0x20 ∷ 0x61 ∷ [])) ∷
    -- the theorem's hypotheses are needed. A fill with an entry inside, twice: piece by piece it is `aabb`, and the plain step would make `abab`
    row (coloured_run (record { job = pad_end 2 inside; room = roomy } ∷ []) (recording [] [] []))
    (colours (under 0x61 [] ∷ under 0x61 [] ∷ under 0x62 ((0x66 ∷ []) ∷ []) ∷ under 0x62 ((0x66 ∷ []) ∷ []) ∷ [])) ∷
    row (coloured_steps (record { job = pad_end 2 inside; room = roomy } ∷ []) (recording [] [] []))
    (colours (under 0x61 [] ∷ under 0x62 ((0x66 ∷ []) ∷ []) ∷ under 0x61 [] ∷ under 0x62 ((0x66 ∷ []) ∷ []) ∷ [])) ∷
    -- an ellipsis whose label stays open: what follows it is under that label, and in the plain step it is not
    row (coloured_run (record { job = truncate_start 2 unclosed; room = roomy } ∷ []) c16) (colours (under 0x2E ((0x66 ∷ []) ∷ []) ∷ under 0x64 ((0x66 ∷ []) ∷ []) ∷ [])) ∷
    row (coloured_steps (record { job = truncate_start 2 unclosed; room = roomy } ∷ []) c16) (colours (under 0x2E ((0x66 ∷ []) ∷ []) ∷ under 0x64 [] ∷ [])) ∷
    []
