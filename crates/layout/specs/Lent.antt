-- A layout call on lent buffers: what it was lent, with and without a line list, and what it promises.
use Rattle.recording.specs.Outcome.{Answer}
use Rattle.std.specs.Prelude.{List, [], ℕ, take}
use Rattle.recording.specs.Recording.{Recording, recording}
use Rattle.recording.specs.Outcome.{Lent, room_in, Promised}
use Rattle.layout.specs.Layout.{Job, Call, outcome}

-- three buffers, and a line list beside them
abbrev pub lent_lined : List ℕ → List ℕ → List ℕ → List ℕ → Lent
lent_lined od oe ot ol = record { data_bytes = od; entry_numbers = oe; text = ot; lines = ol }

-- three buffers
abbrev pub lent_of : List ℕ → List ℕ → List ℕ → Lent
lent_of od oe ot = lent_lined od oe ot []

-- the recording at the front of the buffers, by its lengths
abbrev pub front_of : ℕ → ℕ → ℕ → Lent → Recording
front_of d e t b = recording (take d b.data_bytes) (take e b.entry_numbers) (take t b.text)

-- the call with the room that the buffers have
abbrev pub call_in : Job → Lent → Call
call_in j b = record { job = j; room = room_in b }

-- WHAT A LAYOUT CALL PROMISES: of the job j on the content r in the buffers b, which are then b', with the answer a
abbrev pub Leaves : Job → Recording → Lent → Lent → Answer → Type 0
Leaves j r b b' a = Promised (outcome (call_in j b) r) b b' a
