-- Rows that pin module 6: C15 of document 01, each clause of the rules, each refusal. `proofs/PinsHold.antt` computes them all.
use Rattle.std.specs.Prelude.{ℕ, List, [], ◌∷◌}
use Rattle.recording.specs.Recording.{Bytes}
use Rattle.recording.specs.Outcome.{Outcome, refused, done}
use Rattle.elide.specs.Elide.{elide_end_outcome, elide_start_outcome, complete_newline_outcome, plain_result}

-- a call with the length of its buffer, the text, the ellipsis and max
pub data Question : Type 0 where
  end start : ℕ → Bytes → Bytes → ℕ → Question
  newline : ℕ → Bytes → Question

abbrev pub reply : Question → Outcome
reply (end n s e m) = elide_end_outcome n s e m
reply (start n s e m) = elide_start_outcome n s e m
reply (newline n s) = complete_newline_outcome n s

pub record Row : Type 0 where
  pub question : Question
  pub expected : Outcome

abbrev pub row : Question → Outcome → Row
row q a = record { question = q; expected = a }

abbrev pub asked : List Row → List Outcome
asked [] = []
asked (r ∷ rs) = reply r.question ∷ asked rs

abbrev pub due : List Row → List Outcome
due [] = []
due (r ∷ rs) = r.expected ∷ due rs

abbrev leaves : Bytes → ℕ → Outcome
leaves s w = done (plain_result s w)

-- `spruce`, `..`; 木, U+0301, which has width 0
abbrev spruce : Bytes
spruce = 0x73 ∷ 0x70 ∷ 0x72 ∷ 0x75 ∷ 0x63 ∷ 0x65 ∷ []

abbrev dots : Bytes
dots = 0x2E ∷ 0x2E ∷ []

unfoldable pub c15 : Row
c15 = row (end 100 spruce dots 4) (leaves (0x73 ∷ 0x70 ∷ 0x2E ∷ 0x2E ∷ []) 4)

unfoldable pub pins : List Row
unfolding c15
pins =
    c15
    ∷ row (start 100 spruce dots 4) (leaves (0x2E ∷ 0x2E ∷ 0x63 ∷ 0x65 ∷ []) 4)
    -- nothing cut: at max, and above
    ∷ row (end 100 spruce dots 6) (leaves spruce 6)
    ∷ row (start 100 spruce dots 4294967295) (leaves spruce 6)
    -- nothing cut: a leading zero-width character stays
    ∷ row (start 100 (0xCC ∷ 0x81 ∷ 0x61 ∷ []) dots 1) (leaves (0xCC ∷ 0x81 ∷ 0x61 ∷ []) 1)
    -- an ellipsis wider than max comes back alone, cut at the same side
    ∷ row (end 100 spruce (0x61 ∷ 0x62 ∷ 0x63 ∷ []) 2) (leaves (0x61 ∷ 0x62 ∷ []) 2)
    ∷ row (start 100 spruce (0x61 ∷ 0x62 ∷ 0x63 ∷ []) 2) (leaves (0x62 ∷ 0x63 ∷ []) 2)
    ∷ row (start 100 spruce (0x61 ∷ 0x62 ∷ 0xCC ∷ 0x81 ∷ 0x63 ∷ []) 1) (leaves (0x63 ∷ []) 1)
    ∷ row (end 100 spruce (0x61 ∷ 0xCC ∷ 0x81 ∷ 0x63 ∷ []) 1) (leaves (0x61 ∷ 0xCC ∷ 0x81 ∷ []) 1)
    -- max 0
    ∷ row (end 100 spruce dots 0) (leaves [] 0)
    ∷ row (end 100 spruce [] 0) (leaves [] 0)
    ∷ row (start 100 spruce (0xCC ∷ 0x81 ∷ []) 0) (leaves (0xCC ∷ 0x81 ∷ []) 0)
    -- zero-width characters at the cut: before it they stay, after it they go
    ∷ row (end 100 (0x61 ∷ 0xCC ∷ 0x81 ∷ 0x62 ∷ 0x63 ∷ []) (0x2E ∷ []) 2) (leaves (0x61 ∷ 0xCC ∷ 0x81 ∷ 0x2E ∷ []) 2)
    ∷ row (start 100 (0x61 ∷ 0x62 ∷ 0xCC ∷ 0x81 ∷ 0x63 ∷ []) (0x2E ∷ []) 2) (leaves (0x2E ∷ 0x63 ∷ []) 2)
    -- an ellipsis that is not cut keeps its leading zero-width characters
    ∷ row (start 100 spruce (0xCC ∷ 0x81 ∷ 0x2E ∷ []) 2) (leaves (0xCC ∷ 0x81 ∷ 0x2E ∷ 0x65 ∷ []) 2)
    -- a wide character leaves whole: the result is narrower than max
    ∷ row (end 100 (0xE6 ∷ 0x9C ∷ 0xA8 ∷ 0xE6 ∷ 0x9C ∷ 0xA8 ∷ []) (0x2E ∷ []) 2) (leaves (0x2E ∷ []) 1)
    ∷ row (start 100 (0xE6 ∷ 0x9C ∷ 0xA8 ∷ 0xE6 ∷ 0x9C ∷ 0xA8 ∷ []) (0x2E ∷ []) 3) (leaves (0x2E ∷ 0xE6 ∷ 0x9C ∷ 0xA8 ∷ []) 3)
    -- the text cut to max has room for the ellipsis already: nothing more leaves
    ∷ row (end 100 (0x61 ∷ 0xE6 ∷ 0x9C ∷ 0xA8 ∷ []) (0x2E ∷ []) 2) (leaves (0x61 ∷ 0x2E ∷ []) 2)
    -- 7: text, ellipsis, though nothing is cut; a buffer of no bytes is no reason before it
    ∷ row (end 100 (0xFF ∷ []) dots 4) (refused 7)
    ∷ row (start 0 spruce (0xE6 ∷ 0x9C ∷ []) 9) (refused 7)
    -- 21: one byte short, and just enough
    ∷ row (end 3 spruce dots 4) (refused 21)
    ∷ row (end 4 spruce dots 4) (leaves (0x73 ∷ 0x70 ∷ 0x2E ∷ 0x2E ∷ []) 4)
    ∷ row (start 3 spruce dots 4) (refused 21)
    -- the newline: none, one, there already; 7 and 21
    ∷ row (newline 0 []) (leaves [] 0)
    ∷ row (newline 3 (0x61 ∷ 0x62 ∷ [])) (leaves (0x61 ∷ 0x62 ∷ 0x0A ∷ []) 0)
    ∷ row (newline 2 (0x61 ∷ 0x0A ∷ [])) (leaves (0x61 ∷ 0x0A ∷ []) 0)
    ∷ row (newline 2 (0x0A ∷ 0x61 ∷ [])) (refused 21)
    ∷ row (newline 9 (0x61 ∷ 0xC3 ∷ [])) (refused 7)
    ∷ []
