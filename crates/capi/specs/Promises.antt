-- What a C name promises, whose answer crosses the boundary as five numbers in a row.
use Rattle.std.specs.Prelude.{ℕ, ◌≡◌, List}
use Rattle.recording.specs.Recording.{Recording}
use Rattle.recording.specs.Outcome.{Outcome, Lent, lent_after, returned}
use Rattle.layout.specs.Layout.{Job, outcome}
use Rattle.layout.specs.Lent.{call_in}
use Rattle.call_lists.specs.Runs.{Given, Buffers, run_fault, returned_run, left_run, LaidOut}
use Rattle.answer_numbers.specs.Five.{five}

-- the promise of a call with this outcome, its answer as numbers in `res`
abbrev pub PromisedNumbers : Outcome → Lent → Lent → List ℕ → Type 0
PromisedNumbers x before after res = (res ≡ five (returned x)) × (after ≡ lent_after x before)

-- that of a layout call
abbrev pub LeavesNumbers : Job → Recording → Lent → Lent → List ℕ → Type 0
LeavesNumbers j r b b' res = PromisedNumbers (outcome (call_in j b) r) b b' res

-- that of a list of layout calls; not written out in proofs, since it is large
unfoldable pub RunsNumbers : Given → Buffers → Buffers → List ℕ → Type 0
RunsNumbers g b b' res = (res ≡ five (returned_run g b)) × ((b' ≡ left_run g b) × (run_fault g b ≡ 0 → LaidOut g b b' (returned_run g b)))
