-- What `wrap_bytes` leaves and returns: the lines of the data, or refusal 1 or 24.
use Rattle.std.specs.Prelude.{ℕ, ◌+◌, ◌-◌, Bool, List, [], ◌∷◌, ltb, length}
use Rattle.recording.specs.Refusals.{data_limit, refuse_if}
use Rattle.recording.specs.Outcome.{Result, Faults, Outcome, settle, no_recording, line_room}
use Rattle.layout.specs.Wrap.{Line, line_of, line_numbers, wrap_lines_of}
use Rattle.wrap_lines.specs.declared.Lines.{Lines}

-- how many numbers a line takes in the line list
abbrev pub line_size : ℕ
line_size = length (line_numbers [] (line_of 0 0 ∷ []))

-- how many bytes of the data the lines show
abbrev pub shown_bytes : List Line → ℕ
shown_bytes [] = 0
shown_bytes (l ∷ ls) = (l.end - l.first) + shown_bytes ls

unfoldable pub lines_of : List Line → Lines
lines_of ls = record { count = length ls; bytes = shown_bytes ls }

abbrev pub wrap_faults : List ℕ → Faults
wrap_faults d = record { lengths = 0; content = refuse_if (ltb data_limit (length d)) 1; second = 0; added = 0; plain = 0; own = 0 }

abbrev pub wrap_result : ℕ → Bool → List ℕ → Result
wrap_result w b d = record { recording = no_recording; lines = line_numbers d (wrap_lines_of w b d); number = length (wrap_lines_of w b d) }

-- THE OUTCOME of the call, for a line list of `room` numbers
unfoldable pub wrap_bytes_outcome : ℕ → Bool → List ℕ → ℕ → Outcome
wrap_bytes_outcome w b d room = settle (wrap_faults d) (line_room room) (wrap_result w b d)
