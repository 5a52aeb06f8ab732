-- Refusals 9 and 21 to 24 from sizes alone, for code that knows a result's lengths before it writes.
use Rattle.std.specs.Prelude.{ℕ, ◌||◌, [], ◌∷◌, ltb}
use Rattle.recording.specs.Refusals.{data_limit, entry_limit, text_limit, first_of, refuse_if}
use Rattle.recording.specs.Outcome.{Room}
use Rattle.writer.specs.declared.Lengths.{Lengths}

-- the lengths of a result (data bytes, entry numbers, text bytes, line numbers) against the limits and the room: `over_limit`, then `no_room`
unfoldable pub sizes_fault : ℕ → ℕ → ℕ → ℕ → Room → ℕ
sizes_fault d e t l o =
    first_of (refuse_if (ltb data_limit d || ltb entry_limit e || ltb text_limit t) 9
    ∷ first_of (refuse_if (ltb o.data_bytes d) 21 ∷ refuse_if (ltb o.entry_numbers e) 22 ∷ refuse_if (ltb o.text t) 23 ∷ refuse_if (ltb o.lines l) 24 ∷ []) ∷ [])

abbrev pub room_of_state : ℕ → ℕ → ℕ → ℕ → Room
room_of_state d e t l = record { data_bytes = d; entry_numbers = e; text = t; lines = l }

-- the room that lent buffers of these lengths have
abbrev pub room_of_lengths : Lengths → Room
room_of_lengths s = room_of_state s.bytes s.numbers s.texts s.lines
