-- What a check tells: document 01's number of the refusal that it found, 0 for none, and then the length of the entries' texts.
use Rattle.std.specs.Prelude.{ℕ, ◌≤◌, ◌≡◌, [], ◌∷◌, length, Result, Ok, Err, IfOk}
use Rattle.recording.specs.declared.Refusal.{Refusal}
use Rattle.recording.specs.declared.TextSizes.{TextSizes}
use Rattle.recording.specs.Recording.{Recording, items, text_of}
use Rattle.recording.specs.Refusals.{number_of_refusal, first_of, recording_fault}

abbrev pub fault_of : {T : Type 0} → Result T Refusal → ℕ
fault_of (Err f) = number_of_refusal f
fault_of (Ok n) = 0

-- where nothing is refused, the number is n
abbrev pub Counted : Result ℕ Refusal → ℕ → Type 0
Counted r n = IfOk r (λ m. m ≡ n)

-- and not above b
abbrev pub Within : Result ℕ Refusal → ℕ → Type 0
Within r b = IfOk r (λ m. m ≤ b)

-- ── of a content r and a second recording q: the first fault of the two, and then the lengths of their texts, neither above 4,096 texts of 65,536 bytes
abbrev pub BothChecked : Result TextSizes Refusal → Recording → Recording → Type 0
BothChecked (Err f) r q = number_of_refusal f ≡ first_of (recording_fault r ∷ recording_fault q ∷ [])
BothChecked (Ok n) r q =
    (recording_fault r ≡ 0) × ((recording_fault q ≡ 0) × ((n.content ≡ length (text_of (items r))) × ((n.second ≡ length (text_of (items q)))
    × ((n.content ≤ 268435456) × (n.second ≤ 268435456)))))
