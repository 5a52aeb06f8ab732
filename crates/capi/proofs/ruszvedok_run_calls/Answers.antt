-- What `run_calls` promises of its answer is promised of the five numbers that it is.
use Prim.Native.Nat.{ℕ}
use mathlib.Core.Path.{◌≡◌, ◌∙◌, ap, subst}
use mathlib.Core.List.{List}
use Rattle.recording.specs.Outcome.{Answer, Returned, answer_of}
use Rattle.call_lists.specs.Runs.{Given, Buffers, LaidOut, RunsCalls}
use Rattle.answer_numbers.specs.Five.{five}
use Rattle.capi.specs.Promises.{RunsNumbers}
use Rattle.capi.proofs.ruszvedok_run_calls.Goals as goal

-- the promise with five numbers, from the promise with the answer that they are
as-numbers : (g : Given) (b b' : Buffers) (a : Answer) (res : List ℕ) → res ≡ five (answer_of a) → RunsCalls g b b' a → RunsNumbers g b b' res
unfolding RunsNumbers
as-numbers g b b' a res e p =
    (e ∙ ap five p.0, (p.1.0, λ f. subst (λ (n : Returned). LaidOut g b b' n) p.0 (p.1.1 f)))

pub returns : goal.returns
returns c = as-numbers _ _ _ _ _ c.store.ensures c.run_calls.ensures
