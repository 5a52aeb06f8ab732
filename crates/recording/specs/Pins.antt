-- Rows that pin coloured bytes and balance (document 01, "The recording"), the order of refusals and what lent buffers hold, computed by `proofs/PinsHold.antt`.
use Rattle.std.specs.Prelude.{ℕ, zero, suc, Bool, true, false, List, [], ◌∷◌}
use Rattle.recording.specs.Recording.{Bytes, Recording, recording}
use Rattle.recording.specs.Coloured.{Coloured, coloured, balanced}
use Rattle.recording.specs.Outcome.{Room, refusal_of, Lent, lent_after, refused, done}

-- a byte with its labels
abbrev pub under : ℕ → List Bytes → Coloured
under b ls = record { val = b; labels = ls }

pub record Row : Type 0 where
  pub content : Recording
  pub colours : List Coloured
  pub balance : Bool

abbrev pub row : Recording → List Coloured → Bool → Row
row r cs b = record { content = r; colours = cs; balance = b }

abbrev pub colours_of : List Row → List (List Coloured)
colours_of [] = []
colours_of (r ∷ rs) = coloured r.content ∷ colours_of rs

abbrev pub colours_due : List Row → List (List Coloured)
colours_due [] = []
colours_due (r ∷ rs) = r.colours ∷ colours_due rs

abbrev pub balances_of : List Row → List Bool
balances_of [] = []
balances_of (r ∷ rs) = balanced r.content ∷ balances_of rs

abbrev pub balances_due : List Row → List Bool
balances_due [] = []
balances_due (r ∷ rs) = r.balance ∷ balances_due rs

-- the labels x and y, and a text that has both
abbrev pub x : Bytes
x = 0x78 ∷ []

abbrev pub y : Bytes
y = 0x79 ∷ []

abbrev pub xy : Bytes
xy = 0x78 ∷ 0x79 ∷ []

unfoldable pub pins : List Row
pins =
    -- x over all, y inside it: outermost first
    row (recording (0x61 ∷ 0x62 ∷ 0x63 ∷ []) (0 ∷ 0 ∷ 0 ∷ 1 ∷ 1 ∷ 0 ∷ 1 ∷ 1 ∷ 2 ∷ 1 ∷ 0 ∷ 0 ∷ 3 ∷ 1 ∷ 0 ∷ 0 ∷ []) xy)
    (under 0x61 (x ∷ []) ∷ under 0x62 (x ∷ y ∷ []) ∷ under 0x63 (x ∷ []) ∷ []) true ∷
    -- a pop closes the last label that is open, not the first
    row (recording (0x61 ∷ []) (0 ∷ 0 ∷ 0 ∷ 1 ∷ 0 ∷ 0 ∷ 1 ∷ 1 ∷ 0 ∷ 1 ∷ 0 ∷ 0 ∷ []) xy) (under 0x61 (x ∷ []) ∷ []) false ∷
    -- a raw sequence opens nothing and closes nothing
    row (recording (0x61 ∷ 0x62 ∷ []) (0 ∷ 0 ∷ 0 ∷ 1 ∷ 1 ∷ 2 ∷ 1 ∷ 1 ∷ 2 ∷ 1 ∷ 0 ∷ 0 ∷ []) xy) (under 0x61 (x ∷ []) ∷ under 0x62 (x ∷ []) ∷ []) true ∷
    -- entries at a byte's place come before it
    row (recording (0x61 ∷ 0x62 ∷ []) (1 ∷ 0 ∷ 0 ∷ 1 ∷ 2 ∷ 1 ∷ 0 ∷ 0 ∷ []) x) (under 0x61 [] ∷ under 0x62 (x ∷ []) ∷ []) true ∷
    -- a pop with nothing open closes nothing, and is not balanced
    row (recording (0x61 ∷ []) (0 ∷ 1 ∷ 0 ∷ 0 ∷ 0 ∷ 0 ∷ 0 ∷ 1 ∷ []) x) (under 0x61 (x ∷ []) ∷ []) false ∷
    -- an empty label is a label
    row (recording (0x61 ∷ []) (0 ∷ 0 ∷ 0 ∷ 0 ∷ 1 ∷ 1 ∷ 0 ∷ 0 ∷ []) []) (under 0x61 ([] ∷ []) ∷ []) true ∷ []

-- ── the order of refusals: a call with these faults, in a room of n of everything, whose result has m entry numbers and one byte of data, text and line list
abbrev zeros : ℕ → List ℕ
zeros zero = []
zeros (suc n) = 0 ∷ zeros n

abbrev judged : ℕ → ℕ → ℕ → ℕ → ℕ → ℕ → Room → ℕ → ℕ
judged a b c d e f o m =
    refusal_of (record { lengths = a; content = b; second = c; added = d; plain = e; own = f }) o
    (record { recording = recording (0 ∷ []) (zeros m) (0 ∷ []); lines = 0 ∷ []; number = 0 })

abbrev room_by : ℕ → ℕ → ℕ → ℕ → Room
room_by d e t l = record { data_bytes = d; entry_numbers = e; text = t; lines = l }

-- all at once, and then without the first, the first two, ..: 10, the content, the second recording, what is added, plain text, the call's own, 9, 21 to 24, none
unfoldable pub order_of : List ℕ
order_of =
    judged 10 1 2 6 7 8 (room_by 0 0 0 0) 16385 ∷ judged 0 1 2 6 7 8 (room_by 0 0 0 0) 16385 ∷ judged 0 0 2 6 7 8 (room_by 0 0 0 0) 16385 ∷ judged 0 0 0 6 7 8 (room_by 0 0 0 0) 16385
    ∷ judged 0 0 0 0 7 8 (room_by 0 0 0 0) 16385 ∷ judged 0 0 0 0 0 8 (room_by 0 0 0 0) 16385 ∷ judged 0 0 0 0 0 0 (room_by 0 0 0 0) 16385 ∷ judged 0 0 0 0 0 0 (room_by 0 0 0 0) 4
    ∷ judged 0 0 0 0 0 0 (room_by 1 3 0 0) 4 ∷ judged 0 0 0 0 0 0 (room_by 1 4 0 0) 4 ∷ judged 0 0 0 0 0 0 (room_by 1 4 1 0) 4 ∷ judged 0 0 0 0 0 0 (room_by 1 4 1 1) 4 ∷ []

abbrev pub order_due : List ℕ
order_due = 10 ∷ 1 ∷ 2 ∷ 6 ∷ 7 ∷ 8 ∷ 9 ∷ 21 ∷ 22 ∷ 23 ∷ 24 ∷ 0 ∷ []

-- ── what the buffers hold after a refused call, and after one that is done: each holds two numbers, and the result has one
abbrev pub held : Lent
held = record { data_bytes = 1 ∷ 2 ∷ []; entry_numbers = 3 ∷ 4 ∷ []; text = 5 ∷ 6 ∷ []; lines = 7 ∷ 8 ∷ [] }

unfoldable pub after_of : List Lent
after_of = lent_after (refused 21) held ∷ lent_after (done (record { recording = recording (11 ∷ []) (12 ∷ []) (13 ∷ []); lines = 14 ∷ []; number = 0 })) held ∷ []

abbrev pub after_due : List Lent
after_due = held ∷ record { data_bytes = 11 ∷ 2 ∷ []; entry_numbers = 12 ∷ 4 ∷ []; text = 13 ∷ 6 ∷ []; lines = 14 ∷ 8 ∷ [] } ∷ []
