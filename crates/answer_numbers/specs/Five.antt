-- How an answer and a reply cross the boundary: their numbers in a row, five and three.
use Rattle.std.specs.Prelude.{ℕ, List, [], ◌∷◌}
use Rattle.recording.specs.Outcome.{Returned, Replied}

unfoldable pub five : Returned → List ℕ
five r = r.refusal ∷ r.data_bytes ∷ r.entry_numbers ∷ r.text ∷ r.number ∷ []

unfoldable pub three : Replied → List ℕ
three r = r.refusal ∷ r.first ∷ r.second ∷ []
