-- Q-9: a whole page of cells in one call: one data buffer with a list of part ends, one width, end truncation, one ellipsis, no entries.
use Rattle.std.specs.Prelude.{ℕ, ◌+◌, Bool, true, ◌&&◌, ◌||◌, not, List, [], ◌∷◌, ◌++◌, leb, ltb, eqb, length}
use Rattle.buffer.specs.Place.{part}
use Rattle.recording.specs.Recording.{Bytes, Recording, recording, data_of}
use Rattle.recording.specs.Refusals.{refuse_if, recording_fault}
use Rattle.recording.specs.Outcome.{Room, Result, Faults, Outcome, settle, Lent}
use Rattle.layout.specs.Layout.{Job, truncate_end, result_items, number}

-- data without entries
abbrev pub bare : Bytes → Recording
bare d = recording d [] []

-- ── the cells: each runs from the end before it, at first from `from`, up to its own
abbrev pub parts_from : ℕ → List ℕ → Bytes → List Bytes
parts_from from [] d = []
parts_from from (end ∷ ends) d = part from end d ∷ parts_from end ends d

unfoldable pub parts : List ℕ → Bytes → List Bytes
parts ends d = parts_from 0 ends d

-- ── a cell by itself, cut to the width m with the ellipsis e: the bytes that `write_truncated_end` leaves of it, and the width that it returns
abbrev pub cutting : ℕ → Bytes → Job
cutting m e = truncate_end m (bare e)

unfoldable pub cell_text : ℕ → Bytes → Bytes → Bytes
cell_text m e cell = data_of (result_items (cutting m e) (bare cell))

unfoldable pub cell_width : ℕ → Bytes → Bytes → ℕ
cell_width m e cell = number (cutting m e) (bare cell)

-- ── the cells' results joined
abbrev pub joined : ℕ → Bytes → List Bytes → Bytes
joined m e [] = []
joined m e (cell ∷ cells) = cell_text m e cell ++ joined m e cells

-- two numbers a cell: its end in the result, and its width; the cells before these have left `at` bytes
abbrev pub cell_numbers : ℕ → Bytes → ℕ → List Bytes → List ℕ
cell_numbers m e at [] = []
cell_numbers m e at (cell ∷ cells) = (at + length (cell_text m e cell)) ∷ cell_width m e cell ∷ cell_numbers m e (at + length (cell_text m e cell)) cells

-- ── 38: over 64 cells, part ends that fall, a last end (0 without cells) that is not the data's length
abbrev pub cell_limit : ℕ
cell_limit = 64

abbrev pub never_fall : ℕ → List ℕ → Bool
never_fall from [] = true
never_fall from (end ∷ ends) = leb from end && never_fall end ends

abbrev pub last_end : ℕ → List ℕ → ℕ
last_end from [] = from
last_end from (end ∷ ends) = last_end end ends

unfoldable pub wrong_ends_of : List ℕ → ℕ → Bool
wrong_ends_of ends n = ltb cell_limit (length ends) || not (never_fall 0 ends) || not (eqb (last_end 0 ends) n)

-- ── the call: 1 of the data, 1 of the ellipsis, then 38
unfoldable pub cells_faults : List ℕ → Bytes → Bytes → Faults
cells_faults ends e d =
    record { lengths = 0; content = recording_fault (bare d); second = recording_fault (bare e); added = 0; plain = 0; own = refuse_if (wrong_ends_of ends (length d)) 38 }

-- the joined result, the list, and the count of cells
unfoldable pub cells_result : ℕ → List ℕ → Bytes → Bytes → Result
cells_result m ends e d = record { recording = bare (joined m e (parts ends d)); lines = cell_numbers m e 0 (parts ends d); number = length ends }

-- THE OUTCOME of the call: 9, 21 and 24 are those of the joined result and of its list
unfoldable pub cells_outcome : ℕ → List ℕ → Bytes → Bytes → Room → Outcome
cells_outcome m ends e d o = settle (cells_faults ends e d) o (cells_result m ends e d)

-- what the call is lent to write: a data buffer and a list of numbers
abbrev pub lent_cells : Bytes → List ℕ → Lent
lent_cells bytes cells = record { data_bytes = bytes; entry_numbers = []; text = []; lines = cells }
