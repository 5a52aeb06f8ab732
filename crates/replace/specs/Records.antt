-- Replacement records as four numbers each, and the scan over them: refusal 8 of all records, and how many data bytes the result has so far.
use Rattle.std.specs.Prelude.{ℕ, suc, ◌+◌, ◌-◌, cond, List, [], ◌∷◌, ltb, Result, Ok, Err}
use Rattle.recording.specs.declared.Refusal.{Refusal}
use Rattle.recording.specs.declared.Refusal.TheVariants.{ReplacementRange}
use Rattle.recording.specs.Refusals.{data_limit}
use Rattle.layout.specs.declared.Replacement.{Replacement}
use Rattle.layout.specs.Layout.{bad_record_of}
use Rattle.replace.specs.declared.Scan.{Scan}

abbrev pub replacement : ℕ → ℕ → ℕ → ℕ → Replacement
replacement s e f t = record { start = s; end = e; from = f; to = t }

-- the records behind the numbers; a rest of fewer than four is none
abbrev pub records_of : List ℕ → List Replacement
records_of [] = []
records_of (s ∷ []) = []
records_of (s ∷ e ∷ []) = []
records_of (s ∷ e ∷ f ∷ []) = []
records_of (s ∷ e ∷ f ∷ t ∷ ns) = replacement s e f t ∷ records_of ns

-- a size, or one above the limit of data if it passes that: the number of records is free, so that an exact sum has no bound
unfoldable pub capped : ℕ → ℕ
capped n = cond (ltb data_limit n) (suc data_limit) n

-- ── the scan
abbrev pub scan : ℕ → ℕ → Scan
scan a n = record { at = a; size = n }

-- one record more, for n data bytes and a replacement text of t: a bad one is refused; a good one leaves its end,
-- and the size of the result up to there grows by what is kept before its start and by what comes in
unfoldable pub check_step : ℕ → ℕ → Replacement → Scan → Result Scan Refusal
check_step n t x s = cond (bad_record_of s.at n t x) (Err ReplacementRange) (Ok (scan x.end (capped (capped (s.size + (x.start - s.at)) + (x.to - x.from)))))

-- what follows on a scan, nothing on a refusal
abbrev pub and_then : Result Scan Refusal → (Scan → Result Scan Refusal) → Result Scan Refusal
and_then (Err f) next = Err f
and_then (Ok s) next = next s

abbrev pub check_all : ℕ → ℕ → List Replacement → Scan → Result Scan Refusal
check_all n t [] s = Ok s
check_all n t (x ∷ xs) s = and_then (check_step n t x s) (λ v. check_all n t xs v)
