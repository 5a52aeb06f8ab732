-- Demand 3: layout and colour commute. One theorem over the whole list of calls, refused ones among them, in three parts; `proofs/Demand3.antt` proves it.
use Rattle.std.specs.Prelude.{ℕ, Bool, true, false, cond, ◌≡◌, List, [], ◌∷◌, ◌++◌, ◌≢◌, eqb}
use Rattle.recording.specs.Recording.{Recording, strip}
use Rattle.recording.specs.Coloured.{coloured, balanced, none_inside_recording}
use Rattle.recording.specs.Outcome.{Room}
use Rattle.layout.specs.Layout.{Kind, truncated_start, truncated_end, padded_start, padded_end, padded_centered, indented_lines, unindented_lines, Job, with_second, alone}
use Rattle.layout.specs.Layout.{wrap, Call, refusal, after, run}
use Rattle.layout.specs.Plain.{steps, told}

-- ── what is asked
-- whether a call writes its second recording: taking the indent off compares with its bytes alone
abbrev pub writes : Kind → Bool
writes truncated_start = true
writes truncated_end = true
writes padded_start = true
writes padded_end = true
writes padded_centered = true
writes indented_lines = true
writes unindented_lines = false

-- whether a call repeats its second recording piece by piece: a fill
abbrev pub repeats : Kind → Bool
repeats truncated_start = false
repeats truncated_end = false
repeats padded_start = true
repeats padded_end = true
repeats padded_centered = true
repeats indented_lines = false
repeats unindented_lines = false

-- an ellipsis, fill or prefix that is written is balanced, and no entry is inside the data of a fill
abbrev pub SecondOk : Job → Type 0
SecondOk (with_second k m q) = (writes k ≡ true → balanced q ≡ true) × (repeats k ≡ true → none_inside_recording q ≡ true)
SecondOk (alone s) = Unit {0}

-- of the calls that are not refused
abbrev pub Proper : List Call → Recording → Type 0
Proper [] r = Unit {0}
Proper (c ∷ cs) r = (refusal c r ≡ 0 → SecondOk c.job) × Proper cs (after c r)

-- ── stripping first: every second recording stripped, the calls not refused made again in buffers of the same lengths
abbrev pub stripped_job : Job → Job
stripped_job (with_second k m q) = with_second k m (strip q)
stripped_job (alone s) = alone s

abbrev pub stripped : Call → Call
stripped c = record { job = stripped_job c.job; room = c.room }

abbrev pub again : List Call → Recording → List Call
again [] r = []
again (c ∷ cs) r = cond (eqb (refusal c r) 0) (stripped c ∷ again cs (after c r)) (again cs (after c r))

abbrev pub NoneRefused : List Call → Recording → Type 0
NoneRefused [] r = Unit {0}
NoneRefused (c ∷ cs) r = (refusal c r ≡ 0) × NoneRefused cs (after c r)

abbrev pub AllRefused : List Call → Recording → Type 0
AllRefused [] r = Unit {0}
AllRefused (c ∷ cs) r = (refusal c r ≢ 0) × AllRefused cs (after c r)

abbrev pub wrap_call : ℕ → Bool → Room → Call
wrap_call w b o = record { job = wrap w b; room = o }

-- ── the three parts
pub record Demand3 (calls : List Call) (r : Recording) : Type 0 where
  -- plain steps: the coloured bytes at the end are those that the steps make of the first content's
  pub colours : coloured (run calls r) ≡ steps (told calls r) (coloured r)
  -- stripping first, none is refused the second time, and the data bytes at the end are those of stripping last
  pub accepted : NoneRefused (again calls r) (strip r)
  pub same : (run (again calls r) (strip r)).data_bytes ≡ (strip (run calls r)).data_bytes
  -- wrapping twice: after a wrap not refused and then only refused calls, a wrap of the same width and breaking changes no coloured byte
  pub twice : (pre mid post : List Call) (w : ℕ) (b : Bool) (o o' : Room) → calls ≡ pre ++ (wrap_call w b o ∷ mid ++ (wrap_call w b o' ∷ post))
      → refusal (wrap_call w b o) (run pre r) ≡ 0 → AllRefused mid (after (wrap_call w b o) (run pre r))
      → coloured (after (wrap_call w b o') (run (pre ++ (wrap_call w b o ∷ mid)) r)) ≡ coloured (run (pre ++ (wrap_call w b o ∷ mid)) r)

-- for every list of layout calls and every balanced first content
abbrev pub Theorem : Type 0
Theorem = (calls : List Call) (r : Recording) → balanced r ≡ true → Proper calls r → Demand3 calls r
