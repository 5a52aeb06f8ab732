-- Rows that pin the definitions of Q-9, clause by clause; `proofs/PinsHold.antt` computes them all.
-- What comes back is numbers: the refusal, the length, the count of cells, and then what the data buffer and the list hold, which held 99 everywhere.
use Rattle.std.specs.Prelude.{ℕ, List, [], ◌∷◌, ◌++◌, replicate}
use Rattle.recording.specs.Recording.{Bytes}
use Rattle.recording.specs.Outcome.{Outcome, Lent, room_in, lent_after, returned}
use Rattle.cells.specs.Cells.{cells_outcome, lent_cells}

-- ── a row: what comes back, and what is expected
pub record Row : Type 0 where
  pub got : List ℕ
  pub expected : List ℕ

abbrev row : List ℕ → List ℕ → Row
row g e = record { got = g; expected = e }

abbrev pub all_got : List Row → List (List ℕ)
all_got [] = []
all_got (r ∷ rs) = r.got ∷ all_got rs

abbrev pub all_expected : List Row → List (List ℕ)
all_expected [] = []
all_expected (r ∷ rs) = r.expected ∷ all_expected rs

-- ── short names
abbrev told : Outcome → Lent → List ℕ
told u b = (returned u).refusal ∷ (returned u).data_bytes ∷ (returned u).number ∷ ((lent_after u b).data_bytes ++ (lent_after u b).lines)

abbrev lent : ℕ → ℕ → Lent
lent bytes numbers = lent_cells (replicate bytes 99) (replicate numbers 99)

-- width, part ends, ellipsis, data, and how many places the data buffer and the list have
abbrev page : ℕ → List ℕ → Bytes → Bytes → ℕ → ℕ → List ℕ
page m ends e d bytes numbers = told (cells_outcome m ends e d (room_in (lent bytes numbers))) (lent bytes numbers)

abbrev turned : ℕ → ℕ → List ℕ
turned n places = n ∷ 0 ∷ 0 ∷ replicate places 99

-- "~"
abbrev tilde : Bytes
tilde = 0x7E ∷ []

-- "abcdef", in two cells of three; cut to 2 each leaves one letter and the ellipsis
abbrev six : Bytes
six = 0x61 ∷ 0x62 ∷ 0x63 ∷ 0x64 ∷ 0x65 ∷ 0x66 ∷ []

abbrev halves : List ℕ
halves = 3 ∷ 6 ∷ []

-- one character of three bytes, two columns wide
abbrev wood : Bytes
wood = 0xE6 ∷ 0x9C ∷ 0xA8 ∷ []

unfoldable pub pins : List Row
pins =
    -- three cells of which one is cut; ends are ends in the result, and what is beyond is untouched
    row (page 3 (2 ∷ 6 ∷ 8 ∷ []) tilde (0x61 ∷ 0x62 ∷ 0x61 ∷ 0x62 ∷ 0x63 ∷ 0x64 ∷ 0x78 ∷ 0x79 ∷ []) 8 7)
    (0 ∷ 7 ∷ 3 ∷ 0x61 ∷ 0x62 ∷ 0x61 ∷ 0x62 ∷ 0x7E ∷ 0x78 ∷ 0x79 ∷ 99 ∷ 2 ∷ 2 ∷ 5 ∷ 3 ∷ 7 ∷ 2 ∷ 99 ∷ []) ∷
    -- no cells and no data
    row (page 3 [] tilde [] 1 1) (0 ∷ 0 ∷ 0 ∷ 99 ∷ 99 ∷ []) ∷
    -- empty cells, first, between and last: ends may be equal
    row (page 3 (0 ∷ 1 ∷ 1 ∷ 2 ∷ 2 ∷ []) tilde (0x61 ∷ 0x62 ∷ []) 2 10) (0 ∷ 2 ∷ 5 ∷ 0x61 ∷ 0x62 ∷ 0 ∷ 0 ∷ 1 ∷ 1 ∷ 1 ∷ 0 ∷ 2 ∷ 1 ∷ 2 ∷ 0 ∷ []) ∷
    -- each cell is cut by itself: what the first does not use is not left for the second
    row (page 2 (1 ∷ 4 ∷ []) tilde (0x61 ∷ 0x62 ∷ 0x63 ∷ 0x64 ∷ []) 3 4) (0 ∷ 3 ∷ 2 ∷ 0x61 ∷ 0x62 ∷ 0x7E ∷ 1 ∷ 1 ∷ 3 ∷ 2 ∷ []) ∷
    -- a character across a part end is two ill-formed ones
    row (page 1 (1 ∷ 3 ∷ []) tilde wood 2 4) (0 ∷ 2 ∷ 2 ∷ 0xE6 ∷ 0x7E ∷ 1 ∷ 1 ∷ 2 ∷ 1 ∷ []) ∷
    -- a wide character at width 1: the ellipsis alone
    row (page 1 (3 ∷ []) tilde wood 1 2) (0 ∷ 1 ∷ 1 ∷ 0x7E ∷ 1 ∷ 1 ∷ []) ∷
    -- at width 0 a combining mark at the front stays, and of a letter nothing
    row (page 0 (2 ∷ 3 ∷ []) tilde (0xCC ∷ 0x81 ∷ 0x61 ∷ []) 2 4) (0 ∷ 2 ∷ 2 ∷ 0xCC ∷ 0x81 ∷ 2 ∷ 0 ∷ 2 ∷ 0 ∷ []) ∷
    -- combining marks stay with what is kept, at the cut too
    row (page 2 (5 ∷ []) tilde (0x65 ∷ 0xCC ∷ 0x81 ∷ 0x62 ∷ 0x63 ∷ []) 4 2) (0 ∷ 4 ∷ 1 ∷ 0x65 ∷ 0xCC ∷ 0x81 ∷ 0x7E ∷ 4 ∷ 2 ∷ []) ∷
    -- an ellipsis wider than the width is cut; one of no bytes
    row (page 1 (3 ∷ []) (0x61 ∷ 0x62 ∷ []) (0x78 ∷ 0x79 ∷ 0x7A ∷ []) 1 2) (0 ∷ 1 ∷ 1 ∷ 0x61 ∷ 1 ∷ 1 ∷ []) ∷
    row (page 1 (3 ∷ []) [] (0x78 ∷ 0x79 ∷ 0x7A ∷ []) 1 2) (0 ∷ 1 ∷ 1 ∷ 0x78 ∷ 1 ∷ 1 ∷ []) ∷
    -- the width listed is the sum of the widths kept, though the bytes left join to one character of width 2
    row (page 3 (6 ∷ []) (0x9C ∷ 0xA8 ∷ []) (0xE6 ∷ 0x78 ∷ 0x79 ∷ 0x7A ∷ 0x61 ∷ 0x62 ∷ []) 3 2) (0 ∷ 3 ∷ 1 ∷ 0xE6 ∷ 0x9C ∷ 0xA8 ∷ 3 ∷ 3 ∷ []) ∷
    -- 38: no cells, but data; an end that falls; a last end before the data's end, and past it
    row (page 3 [] tilde (0x61 ∷ []) 1 0) (turned 38 1) ∷
    row (page 3 (4 ∷ 3 ∷ 6 ∷ []) tilde six 6 6) (turned 38 12) ∷
    row (page 3 (3 ∷ 5 ∷ []) tilde six 6 4) (turned 38 10) ∷
    row (page 3 (3 ∷ 7 ∷ []) tilde six 6 4) (turned 38 10) ∷
    -- 64 cells, and 65: 38
    row (page 3 (replicate 63 0 ++ (1 ∷ [])) tilde (0x61 ∷ []) 1 128) (0 ∷ 1 ∷ 64 ∷ 0x61 ∷ (replicate 126 0 ++ (1 ∷ 1 ∷ []))) ∷
    row (page 3 (replicate 64 0 ++ (1 ∷ [])) tilde (0x61 ∷ []) 1 130) (turned 38 131) ∷
    -- exactly full; 21: a byte short; 24: a number short, two a cell; 21 before 24; 38 before both
    row (page 2 halves tilde six 4 4) (0 ∷ 4 ∷ 2 ∷ 0x61 ∷ 0x7E ∷ 0x64 ∷ 0x7E ∷ 2 ∷ 2 ∷ 4 ∷ 2 ∷ []) ∷
    row (page 2 halves tilde six 3 4) (turned 21 7) ∷
    row (page 2 halves tilde six 4 3) (turned 24 7) ∷
    row (page 2 halves tilde six 3 3) (turned 21 6) ∷
    row (page 2 (3 ∷ 5 ∷ []) tilde six 3 3) (turned 38 6) ∷
    []
