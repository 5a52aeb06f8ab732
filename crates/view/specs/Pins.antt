-- Rows that pin what each reader is left, clause by clause of Q-6; `proofs/PinsHold.antt` computes them all. And two recordings that are alike (`proofs/Twins.antt`).
use Rattle.std.specs.Prelude.{ℕ, List, [], ◌∷◌}
use Rattle.recording.specs.Recording.{Bytes, Recording, recording}
use Rattle.recording.specs.Outcome.{Outcome, refused, done}
use Rattle.recording.specs.Pins.{x}
use Rattle.recorder.specs.Recorder.{leaves}
use Rattle.layout.specs.Pins.{room, roomy}
use Rattle.view.specs.View.{office_outcome, floor_outcome}

-- ── a row: what a reader is left, and what is expected
pub record Row : Type 0 where
  pub left : Outcome
  pub expected : Outcome

abbrev pub row : Outcome → Outcome → Row
row o e = record { left = o; expected = e }

abbrev pub all_left_of : List Row → List Outcome
all_left_of [] = []
all_left_of (r ∷ rs) = r.left ∷ all_left_of rs

abbrev pub all_expected : List Row → List Outcome
all_expected [] = []
all_expected (r ∷ rs) = r.expected ∷ all_expected rs

-- ── short names: a text that has the labels x and y at 0 and 1, the raw sequences q and r at 2 and 3
abbrev pub xyqr : Bytes
xyqr = 0x78 ∷ 0x79 ∷ 0x71 ∷ 0x72 ∷ []

abbrev pub content : Bytes → List ℕ → Recording
content d e = recording d e xyqr

-- the floor for x, in ample buffers; what is left
abbrev pub read : Bytes → List ℕ → Outcome
read d e = floor_outcome x roomy (content d e)

abbrev pub gives : Bytes → List ℕ → Bytes → Outcome
gives d e t = done (leaves (recording d e t))

unfoldable pub pins : List Row
pins =
    -- a wide character under the label: two stars
    row (read (0xE6 ∷ 0x9C ∷ 0xA8 ∷ []) (0 ∷ 0 ∷ 0 ∷ 1 ∷ 3 ∷ 1 ∷ 0 ∷ 0 ∷ []))
    (gives (0x2A ∷ 0x2A ∷ []) (0 ∷ 0 ∷ 0 ∷ 1 ∷ 2 ∷ 1 ∷ 0 ∷ 0 ∷ []) (0x78 ∷ [])) ∷
    -- a combining mark under the label is gone, what stands beside it stays
    row (read (0x61 ∷ 0xCC ∷ 0x81 ∷ 0x62 ∷ []) (1 ∷ 0 ∷ 0 ∷ 1 ∷ 3 ∷ 1 ∷ 0 ∷ 0 ∷ []))
    (gives (0x61 ∷ 0x62 ∷ []) (1 ∷ 0 ∷ 0 ∷ 1 ∷ 1 ∷ 1 ∷ 0 ∷ 0 ∷ []) (0x78 ∷ [])) ∷
    -- and two ill-formed bytes that it stood between meet: they are one character for whoever reads the floor's data
    row (read (0xC3 ∷ 0xCC ∷ 0x81 ∷ 0xA9 ∷ []) (1 ∷ 0 ∷ 0 ∷ 1 ∷ 3 ∷ 1 ∷ 0 ∷ 0 ∷ [])) (gives (0xC3 ∷ 0xA9 ∷ []) (1 ∷ 0 ∷ 0 ∷ 1 ∷ 1 ∷ 1 ∷ 0 ∷ 0 ∷ []) (0x78 ∷ [])) ∷
    -- only the last byte is under the label: stars under the first byte's labels, which is y, and x opens after them
    row (read (0xE6 ∷ 0x9C ∷ 0xA8 ∷ []) (0 ∷ 0 ∷ 1 ∷ 1 ∷ 2 ∷ 0 ∷ 0 ∷ 1 ∷ 3 ∷ 1 ∷ 0 ∷ 0 ∷ 3 ∷ 1 ∷ 0 ∷ 0 ∷ []))
    (gives (0x2A ∷ 0x2A ∷ []) (0 ∷ 0 ∷ 0 ∷ 1 ∷ 2 ∷ 0 ∷ 1 ∷ 1 ∷ 2 ∷ 1 ∷ 0 ∷ 0 ∷ 2 ∷ 1 ∷ 0 ∷ 0 ∷ []) (0x79 ∷ 0x78 ∷ [])) ∷
    -- only the first byte is under the label: the pop inside comes after the stars
    row (read (0xE6 ∷ 0x9C ∷ 0xA8 ∷ 0x61 ∷ []) (0 ∷ 0 ∷ 0 ∷ 1 ∷ 1 ∷ 1 ∷ 0 ∷ 0 ∷ []))
    (gives (0x2A ∷ 0x2A ∷ 0x61 ∷ []) (0 ∷ 0 ∷ 0 ∷ 1 ∷ 2 ∷ 1 ∷ 0 ∷ 0 ∷ []) (0x78 ∷ [])) ∷
    -- entries inside a replaced character, and a raw sequence inside one that stays
    row (read (0xE6 ∷ 0x9C ∷ 0xA8 ∷ 0xC3 ∷ 0xA9 ∷ []) (0 ∷ 0 ∷ 0 ∷ 1 ∷ 1 ∷ 0 ∷ 1 ∷ 1 ∷ 2 ∷ 1 ∷ 0 ∷ 0 ∷ 3 ∷ 1 ∷ 0 ∷ 0 ∷ 4 ∷ 2 ∷ 2 ∷ 1 ∷ []))
    (gives (0x2A ∷ 0x2A ∷ 0xC3 ∷ 0xA9 ∷ []) (0 ∷ 0 ∷ 0 ∷ 1 ∷ 2 ∷ 0 ∷ 1 ∷ 1 ∷ 2 ∷ 1 ∷ 0 ∷ 0 ∷ 2 ∷ 1 ∷ 0 ∷ 0 ∷ 3 ∷ 2 ∷ 2 ∷ 1 ∷ []) (0x78 ∷ 0x79 ∷ 0x71 ∷ [])) ∷
    -- raw sequences at one place before and after the push, and at one place before and after the pop: those between push and pop are dropped
    row (read (0x31 ∷ []) (0 ∷ 2 ∷ 2 ∷ 1 ∷ 0 ∷ 0 ∷ 0 ∷ 1 ∷ 0 ∷ 2 ∷ 3 ∷ 1 ∷ 1 ∷ 2 ∷ 3 ∷ 1 ∷ 1 ∷ 1 ∷ 0 ∷ 0 ∷ 1 ∷ 2 ∷ 2 ∷ 1 ∷ []))
    (gives (0x2A ∷ []) (0 ∷ 2 ∷ 0 ∷ 1 ∷ 0 ∷ 0 ∷ 1 ∷ 1 ∷ 1 ∷ 1 ∷ 0 ∷ 0 ∷ 1 ∷ 2 ∷ 2 ∷ 1 ∷ []) (0x71 ∷ 0x78 ∷ 0x71 ∷ [])) ∷
    -- the byte at a raw sequence's position does not decide: it is under no label here, the raw sequence before the pop is
    row (read (0xE6 ∷ 0x9C ∷ 0xA8 ∷ []) (0 ∷ 0 ∷ 0 ∷ 1 ∷ 2 ∷ 2 ∷ 2 ∷ 1 ∷ 2 ∷ 1 ∷ 0 ∷ 0 ∷ 2 ∷ 2 ∷ 3 ∷ 1 ∷ []))
    (gives (0x2A ∷ 0x2A ∷ []) (0 ∷ 0 ∷ 0 ∷ 1 ∷ 2 ∷ 1 ∷ 0 ∷ 0 ∷ 2 ∷ 2 ∷ 1 ∷ 1 ∷ []) (0x78 ∷ 0x72 ∷ [])) ∷
    -- nor does it matter that no byte is under the label at all
    row (read (0x31 ∷ []) (0 ∷ 0 ∷ 0 ∷ 1 ∷ 0 ∷ 2 ∷ 2 ∷ 1 ∷ 0 ∷ 1 ∷ 0 ∷ 0 ∷ []))
    (gives (0x31 ∷ []) (0 ∷ 0 ∷ 0 ∷ 1 ∷ 0 ∷ 1 ∷ 0 ∷ 0 ∷ []) (0x78 ∷ [])) ∷
    -- 0A under the label stays; a tab is a character of width 0
    row (read (0x31 ∷ 0x0A ∷ 0x09 ∷ 0x32 ∷ []) (0 ∷ 0 ∷ 0 ∷ 1 ∷ 4 ∷ 1 ∷ 0 ∷ 0 ∷ []))
    (gives (0x2A ∷ 0x0A ∷ 0x2A ∷ []) (0 ∷ 0 ∷ 0 ∷ 1 ∷ 3 ∷ 1 ∷ 0 ∷ 0 ∷ []) (0x78 ∷ [])) ∷
    -- ill-formed bytes: FF is one character; E6 9C without its third byte is one; E0 80 are two
    row (read (0xFF ∷ 0xE6 ∷ 0x9C ∷ 0xE0 ∷ 0x80 ∷ 0x41 ∷ []) (0 ∷ 0 ∷ 0 ∷ 1 ∷ 5 ∷ 1 ∷ 0 ∷ 0 ∷ []))
    (gives (0x2A ∷ 0x2A ∷ 0x2A ∷ 0x2A ∷ 0x41 ∷ []) (0 ∷ 0 ∷ 0 ∷ 1 ∷ 4 ∷ 1 ∷ 0 ∷ 0 ∷ []) (0x78 ∷ [])) ∷
    -- x inside y: y alone hides nothing
    row (read (0x31 ∷ 0x32 ∷ 0x33 ∷ []) (0 ∷ 0 ∷ 1 ∷ 1 ∷ 1 ∷ 0 ∷ 0 ∷ 1 ∷ 2 ∷ 1 ∷ 0 ∷ 0 ∷ 3 ∷ 1 ∷ 0 ∷ 0 ∷ []))
    (gives (0x31 ∷ 0x2A ∷ 0x33 ∷ []) (0 ∷ 0 ∷ 0 ∷ 1 ∷ 1 ∷ 0 ∷ 1 ∷ 1 ∷ 2 ∷ 1 ∷ 0 ∷ 0 ∷ 3 ∷ 1 ∷ 0 ∷ 0 ∷ []) (0x79 ∷ 0x78 ∷ [])) ∷
    -- y inside x: what is under y is under x too
    row (read (0x31 ∷ 0x32 ∷ 0x33 ∷ []) (0 ∷ 0 ∷ 0 ∷ 1 ∷ 1 ∷ 0 ∷ 1 ∷ 1 ∷ 2 ∷ 1 ∷ 0 ∷ 0 ∷ 3 ∷ 1 ∷ 0 ∷ 0 ∷ []))
    (gives (0x2A ∷ 0x2A ∷ 0x2A ∷ []) (0 ∷ 0 ∷ 0 ∷ 1 ∷ 1 ∷ 0 ∷ 1 ∷ 1 ∷ 2 ∷ 1 ∷ 0 ∷ 0 ∷ 3 ∷ 1 ∷ 0 ∷ 0 ∷ []) (0x78 ∷ 0x79 ∷ [])) ∷
    -- the same label twice, with one part: after one pop it is still open, also for a raw sequence
    row (read (0x31 ∷ 0x32 ∷ 0x33 ∷ []) (0 ∷ 0 ∷ 0 ∷ 1 ∷ 0 ∷ 0 ∷ 0 ∷ 1 ∷ 1 ∷ 1 ∷ 0 ∷ 0 ∷ 1 ∷ 2 ∷ 2 ∷ 1 ∷ 2 ∷ 1 ∷ 0 ∷ 0 ∷ 2 ∷ 2 ∷ 3 ∷ 1 ∷ []))
    (gives (0x2A ∷ 0x2A ∷ 0x33 ∷ []) (0 ∷ 0 ∷ 0 ∷ 1 ∷ 0 ∷ 0 ∷ 0 ∷ 1 ∷ 1 ∷ 1 ∷ 0 ∷ 0 ∷ 2 ∷ 1 ∷ 0 ∷ 0 ∷ 2 ∷ 2 ∷ 1 ∷ 1 ∷ []) (0x78 ∷ 0x72 ∷ [])) ∷
    -- the label xy is not the label x, nor the other way round
    row (read (0x31 ∷ []) (0 ∷ 0 ∷ 0 ∷ 2 ∷ 1 ∷ 1 ∷ 0 ∷ 0 ∷ [])) (gives (0x31 ∷ []) (0 ∷ 0 ∷ 0 ∷ 2 ∷ 1 ∷ 1 ∷ 0 ∷ 0 ∷ []) (0x78 ∷ 0x79 ∷ [])) ∷
    row (floor_outcome (0x78 ∷ 0x79 ∷ []) roomy (content (0x31 ∷ []) (0 ∷ 0 ∷ 0 ∷ 1 ∷ 1 ∷ 1 ∷ 0 ∷ 0 ∷ []))) (gives (0x31 ∷ []) (0 ∷ 0 ∷ 0 ∷ 1 ∷ 1 ∷ 1 ∷ 0 ∷ 0 ∷ []) (0x78 ∷ [])) ∷
    -- the office reads what replay leaves
    row (office_outcome x roomy (content (0xE6 ∷ 0x9C ∷ 0xA8 ∷ []) (0 ∷ 0 ∷ 0 ∷ 1 ∷ 1 ∷ 2 ∷ 3 ∷ 1 ∷ 3 ∷ 1 ∷ 0 ∷ 0 ∷ [])))
    (gives (0xE6 ∷ 0x9C ∷ 0xA8 ∷ []) (0 ∷ 0 ∷ 0 ∷ 1 ∷ 1 ∷ 2 ∷ 1 ∷ 1 ∷ 3 ∷ 1 ∷ 0 ∷ 0 ∷ []) (0x78 ∷ 0x72 ∷ [])) ∷
    -- 35: the label is open at the data's end, or a pop has nothing to close; for both readers
    row (read (0x31 ∷ []) (0 ∷ 0 ∷ 0 ∷ 1 ∷ [])) (refused 35) ∷ row (read (0x31 ∷ []) (0 ∷ 1 ∷ 0 ∷ 0 ∷ [])) (refused 35) ∷
    row (office_outcome x roomy (content (0x31 ∷ []) (0 ∷ 0 ∷ 0 ∷ 1 ∷ []))) (refused 35) ∷
    -- 34: the label is empty or ill-formed; before 35, after the content's checks
    row (floor_outcome [] roomy (content [] [])) (refused 34) ∷ row (office_outcome [] roomy (content [] [])) (refused 34) ∷
    row (floor_outcome (0xE6 ∷ 0x9C ∷ []) roomy (content (0x31 ∷ []) (0 ∷ 0 ∷ 0 ∷ 1 ∷ []))) (refused 34) ∷
    row (floor_outcome [] roomy (content [] (0 ∷ []))) (refused 2) ∷ row (office_outcome [] roomy (content [] (0 ∷ 1 ∷ 1 ∷ 0 ∷ []))) (refused 3) ∷
    -- 21 to 23 by the lengths of what the floor is left, not of the content; 34 and 35 before them
    row (floor_outcome x (room 2 8 1 0) (content (0xE6 ∷ 0x9C ∷ 0xA8 ∷ []) (0 ∷ 0 ∷ 0 ∷ 1 ∷ 0 ∷ 2 ∷ 2 ∷ 1 ∷ 3 ∷ 1 ∷ 0 ∷ 0 ∷ [])))
    (gives (0x2A ∷ 0x2A ∷ []) (0 ∷ 0 ∷ 0 ∷ 1 ∷ 2 ∷ 1 ∷ 0 ∷ 0 ∷ []) (0x78 ∷ [])) ∷
    row (floor_outcome x (room 1 8 1 0) (content (0xE6 ∷ 0x9C ∷ 0xA8 ∷ []) (0 ∷ 0 ∷ 0 ∷ 1 ∷ 0 ∷ 2 ∷ 2 ∷ 1 ∷ 3 ∷ 1 ∷ 0 ∷ 0 ∷ []))) (refused 21) ∷
    row (floor_outcome x (room 2 7 1 0) (content (0xE6 ∷ 0x9C ∷ 0xA8 ∷ []) (0 ∷ 0 ∷ 0 ∷ 1 ∷ 0 ∷ 2 ∷ 2 ∷ 1 ∷ 3 ∷ 1 ∷ 0 ∷ 0 ∷ []))) (refused 22) ∷
    row (floor_outcome x (room 2 8 0 0) (content (0xE6 ∷ 0x9C ∷ 0xA8 ∷ []) (0 ∷ 0 ∷ 0 ∷ 1 ∷ 0 ∷ 2 ∷ 2 ∷ 1 ∷ 3 ∷ 1 ∷ 0 ∷ 0 ∷ []))) (refused 23) ∷
    row (office_outcome x (room 2 8 1 0) (content (0xE6 ∷ 0x9C ∷ 0xA8 ∷ []) (0 ∷ 0 ∷ 0 ∷ 1 ∷ 0 ∷ 2 ∷ 2 ∷ 1 ∷ 3 ∷ 1 ∷ 0 ∷ 0 ∷ []))) (refused 21) ∷
    row (floor_outcome x (room 0 0 0 0) (content (0x31 ∷ []) (0 ∷ 0 ∷ 0 ∷ 1 ∷ []))) (refused 35) ∷ []

-- ── two recordings that are alike: `e` and a wide character of three bytes against `é` (two bytes) and one of four; another raw sequence under the label; entries inside the wide character
-- at its second and third byte, and both at its fourth; the same raw sequence outside
abbrev pub one : Recording
one = content (0x65 ∷ 0xE6 ∷ 0x9C ∷ 0xA8 ∷ 0x0A ∷ []) (0 ∷ 0 ∷ 0 ∷ 1 ∷ 0 ∷ 2 ∷ 2 ∷ 1 ∷ 2 ∷ 0 ∷ 1 ∷ 1 ∷ 3 ∷ 1 ∷ 0 ∷ 0 ∷ 5 ∷ 1 ∷ 0 ∷ 0 ∷ 5 ∷ 2 ∷ 2 ∷ 1 ∷ [])

abbrev pub other : Recording
other = content (0xC3 ∷ 0xA9 ∷ 0xF0 ∷ 0xA0 ∷ 0x80 ∷ 0x80 ∷ 0x0A ∷ []) (0 ∷ 0 ∷ 0 ∷ 1 ∷ 0 ∷ 2 ∷ 2 ∷ 2 ∷ 5 ∷ 0 ∷ 1 ∷ 1 ∷ 5 ∷ 1 ∷ 0 ∷ 0 ∷ 7 ∷ 1 ∷ 0 ∷ 0 ∷ 7 ∷ 2 ∷ 2 ∷ 1 ∷ [])
