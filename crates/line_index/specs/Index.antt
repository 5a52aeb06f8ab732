-- Q-7: what the four calls leave and return. 36 and 37 are their own refusals, after the recording's checks.
use Rattle.std.specs.Prelude.{ℕ, ◌||◌, not, List, [], ◌∷◌, leb, ltb, length, take}
use Rattle.recording.specs.Lists.{same}
use Rattle.recording.specs.Recording.{Bytes, Recording}
use Rattle.recording.specs.Refusals.{first_of, refuse_if}
use Rattle.recording.specs.Outcome.{Result, content_faults, Outcome, settle, no_recording, line_room, nothing_left_of, Replied, replied}
use Rattle.line_index.specs.Starts.{line_starts, line_span, place_for}

-- ── 36
-- the list is too short for the index of d
unfoldable pub short_fault : Bytes → ℕ → ℕ
short_fault d room = refuse_if (ltb room (length (line_starts d))) 36

-- the list, lent as an index, is not that of d
unfoldable pub index_fault : Bytes → List ℕ → ℕ
index_fault d ix = refuse_if (not (same ix (line_starts d))) 36

-- for extending: there are not so many numbers or bytes, the first numbers are not the index of the earlier bytes, or the list is too short
unfoldable pub extend_fault : Bytes → ℕ → List ℕ → ℕ → ℕ
unfolding short_fault index_fault
extend_fault d earlier ix used =
    first_of (refuse_if (ltb (length ix) used || ltb (length d) earlier) 36 ∷ index_fault (take earlier d) (take used ix) ∷ short_fault d (length ix) ∷ [])

-- ── then 37
-- the line is not there
unfoldable pub line_fault : Bytes → List ℕ → ℕ → ℕ
unfolding index_fault
line_fault d ix n = first_of (index_fault d ix ∷ refuse_if (leb (length (line_starts d)) n) 37 ∷ [])

-- the offset is not there
unfoldable pub place_fault : Bytes → List ℕ → ℕ → ℕ
unfolding index_fault
place_fault d ix o = first_of (index_fault d ix ∷ refuse_if (ltb (length d) o) 37 ∷ [])

-- ── the index of d in a list of `room` numbers; the number is how many lines there are
unfoldable pub index_result : Bytes → Result
unfolding line_starts
index_result d = record { recording = no_recording; lines = line_starts d; number = length (line_starts d) }

-- `build_line_index`
unfoldable pub build_outcome : Recording → ℕ → Outcome
build_outcome r room = settle (content_faults r (short_fault r.data_bytes room)) (line_room room) (index_result r.data_bytes)

-- `extend_line_index`: the first `used` numbers of ix are the index of the first `earlier` data bytes
unfoldable pub extend_outcome : Recording → ℕ → List ℕ → ℕ → Outcome
extend_outcome r earlier ix used = settle (content_faults r (extend_fault r.data_bytes earlier ix used)) (line_room (length ix)) (index_result r.data_bytes)

-- ── questions; nothing is lent for a result
-- `line_at`: first byte and end
unfoldable pub line_replied : Recording → List ℕ → ℕ → Replied
line_replied r ix n =
    replied (settle (content_faults r (line_fault r.data_bytes ix n)) (line_room 0) nothing_left_of) (line_span r.data_bytes n).first (line_span r.data_bytes n).end

-- `place_of`: line and byte column
unfoldable pub place_replied : Recording → List ℕ → ℕ → Replied
place_replied r ix o =
    replied (settle (content_faults r (place_fault r.data_bytes ix o)) (line_room 0) nothing_left_of) (place_for r.data_bytes o).line (place_for r.data_bytes o).column
