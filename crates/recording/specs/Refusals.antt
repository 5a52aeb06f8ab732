-- Refusals (document 01, "Refusals that come from the input" and "from the state"): the number of each cause, the limits, and the faults 1 to 6 of a recording.
use Rattle.std.specs.Prelude.{ℕ, zero, suc, ◌+◌, ◌%◌, Bool, true, false, cond, ◌&&◌, ◌||◌, not, List, [], ◌∷◌, ltb, eqb, length}
use Rattle.chars.specs.Chars.{well_formed_of}
use Rattle.recording.specs.declared.Entry.{Entry}
use Rattle.recording.specs.declared.Refusal.{Refusal}
use Rattle.recording.specs.declared.Refusal.TheVariants.{DataTooLong, EntryNumbers, EntryShape, EntryPosition, TextPart, LabelIllFormed, TextIllFormed, ReplacementRange}
use Rattle.recording.specs.declared.Refusal.TheVariants.{ResultOverLimit, LengthOverBuffer, DataBufferTooShort, EntryBufferTooShort, TextBufferTooShort, LineListTooShort}
use Rattle.recording.specs.declared.Refusal.TheVariants.{TabStop, PrefixNewline, PrefixMissing, ViewLabel, ContentUnbalanced, LineIndex, NoSuchPlace, CellEnds, TallyShape, TallyCell, TallyLine}
use Rattle.recording.specs.declared.Refusal.TheVariants.{SetsDiffer, CallNumbers, AnswerListTooShort}
use Rattle.recording.specs.Recording.{Bytes, Recording, entries_of, part_of}

-- document 01's number of each refusal
abbrev pub number_of_refusal : Refusal → ℕ
number_of_refusal DataTooLong = 1
number_of_refusal EntryNumbers = 2
number_of_refusal EntryShape = 3
number_of_refusal EntryPosition = 4
number_of_refusal TextPart = 5
number_of_refusal LabelIllFormed = 6
number_of_refusal TextIllFormed = 7
number_of_refusal ReplacementRange = 8
number_of_refusal ResultOverLimit = 9
number_of_refusal LengthOverBuffer = 10
number_of_refusal DataBufferTooShort = 21
number_of_refusal EntryBufferTooShort = 22
number_of_refusal TextBufferTooShort = 23
number_of_refusal LineListTooShort = 24
-- document 02's, each of one call
number_of_refusal TabStop = 31
number_of_refusal PrefixNewline = 32
number_of_refusal PrefixMissing = 33
number_of_refusal ViewLabel = 34
number_of_refusal ContentUnbalanced = 35
number_of_refusal LineIndex = 36
number_of_refusal NoSuchPlace = 37
number_of_refusal CellEnds = 38
number_of_refusal TallyShape = 39
number_of_refusal TallyCell = 40
number_of_refusal TallyLine = 41
-- of a list of calls
number_of_refusal SetsDiffer = 61
number_of_refusal CallNumbers = 62
number_of_refusal AnswerListTooShort = 63

-- ── the limits of a recording: data bytes, entry numbers, text bytes
abbrev pub data_limit : ℕ
data_limit = 1048576

abbrev pub entry_limit : ℕ
entry_limit = 16384

abbrev pub text_limit : ℕ
text_limit = 65536

-- ── tests in order: the first that is not 0
abbrev pub first_of : List ℕ → ℕ
first_of [] = 0
first_of (n ∷ ns) = cond (eqb n 0) (first_of ns) n

abbrev pub refuse_if : Bool → ℕ → ℕ
refuse_if b n = cond b n 0

-- ── the faults of a recording
-- 3: a kind over 2, a pop whose start or length is not 0, an empty raw sequence
unfoldable pub bad_shape_of : ℕ → ℕ → ℕ → Bool
bad_shape_of zero s n = false
bad_shape_of (suc zero) s n = not (eqb s 0 && eqb n 0)
bad_shape_of (suc (suc zero)) s n = eqb n 0
bad_shape_of (suc (suc (suc k))) s n = true

-- an entry's faults, in order; `at` is the position of the entry before (0 for the first)
unfoldable pub entry_fault : ℕ → Bytes → Bytes → Entry → ℕ
entry_fault at d t e =
    first_of (refuse_if (bad_shape_of e.kind e.start e.len) 3 ∷ refuse_if (ltb e.position at || ltb (length d) e.position) 4
    ∷ refuse_if (ltb (length t) (e.start + e.len)) 5 ∷ refuse_if (eqb e.kind 0 && not (well_formed_of (part_of t e))) 6 ∷ [])

-- entry by entry
abbrev pub entries_fault : ℕ → Bytes → Bytes → List Entry → ℕ
entries_fault at d t [] = 0
entries_fault at d t (e ∷ es) = first_of (entry_fault at d t e ∷ entries_fault e.position d t es ∷ [])

-- 1, 2, 5 for length, then entry by entry
unfoldable pub recording_fault : Recording → ℕ
recording_fault r =
    first_of (refuse_if (ltb data_limit (length r.data_bytes)) 1 ∷ refuse_if (not (eqb (length r.entry_numbers % 4) 0) || ltb entry_limit (length r.entry_numbers)) 2
    ∷ refuse_if (ltb text_limit (length r.text)) 5 ∷ entries_fault 0 r.data_bytes r.text (entries_of r.entry_numbers) ∷ [])
