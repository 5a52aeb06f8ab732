-- A fault of the next entry is the first of all; without one the loop goes on (`goes`).
use Rattle.recording.proofs.CheckLaws.{seen_last, seen_small, goes}
use native.Mathlib.Omega.{arith}
use Rattle.recording_check.proofs.check_entries.Goals as goal

pub overflow_add-size : goal.overflow_add-size
overflow_add-size c =
    let k = c.check_entry.ensures in
    omega (
      arith,
      seen_small _ _ _ _ _ _ (goes _ _ _ _ _ _ _ _ c.loop-e.invariant c.in-Some.ensures.steps _ k.result_value _ c.in_ok-size.was k.counted c.requires.2) c.requires.1,
    )

pub loop-e-preserved : goal.loop-e-preserved
loop-e-preserved c =
    let k = c.check_entry.ensures in
    goes _ _ _ _ _ _ _ _ c.loop-e.invariant c.in-Some.ensures.steps _ k.result_value _ c.in_ok-size.was k.counted c.requires.2

pub returns-clause-counted : goal.returns-clause-counted
returns-clause-counted c = (seen_last _ _ _ _ _ _ c.loop-e.invariant c.in-None.ensures.steps.0).1

pub returns-clause-within : goal.returns-clause-within
returns-clause-within c = seen_small _ _ _ _ _ _ c.loop-e.invariant c.requires.1
