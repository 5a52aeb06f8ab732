-- Rows that pin where a recorder's push has its text (document 02, Q-8), computed by `proofs/PinsHold.antt`.
use Rattle.std.specs.Prelude.{ℕ, List, [], ◌∷◌}
use Rattle.recording.specs.Recording.{Bytes, recording}
use Rattle.recording.specs.Outcome.{Outcome, refused, done}
use Rattle.recorder.specs.Recorder.{lent_of, leaves, pushed}

pub record Row : Type 0 where
  pub left : Outcome
  pub expected : Outcome

abbrev pub row : Outcome → Outcome → Row
row a b = record { left = a; expected = b }

abbrev pub all_left_of : List Row → List Outcome
all_left_of [] = []
all_left_of (r ∷ rs) = r.left ∷ all_left_of rs

abbrev pub all_expected : List Row → List Outcome
all_expected [] = []
all_expected (r ∷ rs) = r.expected ∷ all_expected rs

-- a label pushed onto a recording without data: n entry numbers and m text bytes of the buffers are used
abbrev pub onto : List ℕ → ℕ → Bytes → ℕ → Bytes → Outcome
onto ns n ts m l = pushed l (lent_of [] ns ts) 0 n m

abbrev pub gives : List ℕ → Bytes → Outcome
gives e t = done (leaves (recording [] e t))

unfoldable pub pins : List Row
pins =
    -- the label x twice in the text: the first push's part, and nothing comes to the text, of which no byte is free
    row (onto (0 ∷ 0 ∷ 0 ∷ 1 ∷ 0 ∷ 0 ∷ 1 ∷ 1 ∷ 9 ∷ 9 ∷ 9 ∷ 9 ∷ []) 8 (0x78 ∷ 0x78 ∷ []) 2 (0x78 ∷ []))
    (gives (0 ∷ 0 ∷ 0 ∷ 1 ∷ 0 ∷ 0 ∷ 1 ∷ 1 ∷ 0 ∷ 0 ∷ 0 ∷ 1 ∷ []) (0x78 ∷ 0x78 ∷ [])) ∷
    -- the first in entry order, wherever it stands in the text
    row (onto (0 ∷ 0 ∷ 1 ∷ 1 ∷ 0 ∷ 0 ∷ 0 ∷ 1 ∷ 9 ∷ 9 ∷ 9 ∷ 9 ∷ []) 8 (0x78 ∷ 0x78 ∷ []) 2 (0x78 ∷ []))
    (gives (0 ∷ 0 ∷ 1 ∷ 1 ∷ 0 ∷ 0 ∷ 0 ∷ 1 ∷ 0 ∷ 0 ∷ 1 ∷ 1 ∷ []) (0x78 ∷ 0x78 ∷ [])) ∷
    -- 23: another label, with no byte free
    row (onto (0 ∷ 0 ∷ 0 ∷ 1 ∷ 0 ∷ 0 ∷ 1 ∷ 1 ∷ 9 ∷ 9 ∷ 9 ∷ 9 ∷ []) 8 (0x78 ∷ 0x78 ∷ []) 2 (0x79 ∷ [])) (refused 23) ∷
    -- a raw sequence x is no push of x
    row (onto (0 ∷ 2 ∷ 0 ∷ 1 ∷ 9 ∷ 9 ∷ 9 ∷ 9 ∷ []) 4 (0x78 ∷ 0 ∷ []) 1 (0x78 ∷ [])) (gives (0 ∷ 2 ∷ 0 ∷ 1 ∷ 0 ∷ 0 ∷ 1 ∷ 1 ∷ []) (0x78 ∷ 0x78 ∷ [])) ∷
    -- nor is a part of a label, or bytes of the text that no push has
    row (onto (0 ∷ 0 ∷ 0 ∷ 2 ∷ 9 ∷ 9 ∷ 9 ∷ 9 ∷ []) 4 (0x78 ∷ 0x79 ∷ 0x79 ∷ 0 ∷ []) 3 (0x79 ∷ [])) (gives (0 ∷ 0 ∷ 0 ∷ 2 ∷ 0 ∷ 0 ∷ 3 ∷ 1 ∷ []) (0x78 ∷ 0x79 ∷ 0x79 ∷ 0x79 ∷ [])) ∷
    -- parts that overlap: xy from 0, yx from 1
    row (onto (0 ∷ 0 ∷ 0 ∷ 2 ∷ 0 ∷ 0 ∷ 1 ∷ 2 ∷ 9 ∷ 9 ∷ 9 ∷ 9 ∷ []) 8 (0x78 ∷ 0x79 ∷ 0x78 ∷ []) 3 (0x79 ∷ 0x78 ∷ []))
    (gives (0 ∷ 0 ∷ 0 ∷ 2 ∷ 0 ∷ 0 ∷ 1 ∷ 2 ∷ 0 ∷ 0 ∷ 1 ∷ 2 ∷ []) (0x78 ∷ 0x79 ∷ 0x78 ∷ [])) ∷
    -- an empty label: at the first empty one, or at the text's end
    row (onto (0 ∷ 0 ∷ 1 ∷ 0 ∷ 0 ∷ 2 ∷ 0 ∷ 2 ∷ 9 ∷ 9 ∷ 9 ∷ 9 ∷ []) 8 (0x78 ∷ 0x79 ∷ []) 2 []) (gives (0 ∷ 0 ∷ 1 ∷ 0 ∷ 0 ∷ 2 ∷ 0 ∷ 2 ∷ 0 ∷ 0 ∷ 1 ∷ 0 ∷ []) (0x78 ∷ 0x79 ∷ [])) ∷
    row (onto (0 ∷ 2 ∷ 0 ∷ 2 ∷ 9 ∷ 9 ∷ 9 ∷ 9 ∷ []) 4 (0x78 ∷ 0x79 ∷ []) 2 []) (gives (0 ∷ 2 ∷ 0 ∷ 2 ∷ 0 ∷ 0 ∷ 2 ∷ 0 ∷ []) (0x78 ∷ 0x79 ∷ [])) ∷
    []
