-- A buffer that is written run by run: what it holds after each run.
use Rattle.std.specs.Prelude.{ℕ, ◌+◌, ◌≤◌, ◌≡◌, length, take, drop}
use mathlib.Core.List.{List, [], ◌∷◌, ◌++◌, flatten}
use Rattle.buffer.specs.Place.{over}

-- the buffer holds the finished result up to `at`, and beyond it what it held before
pub record HoldsUpTo {T : Type 0} (at : ℕ) (finished former buffer : List T) : Type 0 where
  pub within : at ≤ length finished
  pub holds : buffer ≡ over (take at finished) former

-- the run is what comes next in the finished result
abbrev pub NextIn : {T : Type 0} → List T → ℕ → List T → Type 0
NextIn finished at run = run ≡ take (length run) (drop at finished)

-- WHAT WRITING A RUN PROMISES, from `at` up to `to`, in a buffer that was `old` and is `new`: whatever finished result the run comes next in and whatever the buffer held at first,
-- if it held that result up to `at`, it now holds it up to `to`
unfoldable pub RunHeld : {T : Type 0} → ℕ → ℕ → List T → List T → List T → Type 0
RunHeld {T} at to run old new = (finished former : List T) → HoldsUpTo at finished former old → NextIn finished at run → HoldsUpTo to finished former new

-- buffers that calls leave one after another from `old` to `new`, each call with the promise of a run that begins where the one before ended
unfoldable pub RunsHeld : ℕ → List (List ℕ) → List ℕ → List ℕ → Type 0
RunsHeld at [] old new = new ≡ old
RunsHeld at (x ∷ xs) old new = (next : List ℕ) × RunHeld at (at + length x) x old next × RunsHeld (at + length x) xs next new

-- AFTER EACH RUN, whatever their number: some are done and the rest is to come, all of them are the finished result, and `former` is the buffer at first
unfoldable pub AfterEachRun : Type 0
AfterEachRun = (done rest : List (List ℕ)) (former buffer : List ℕ) → RunsHeld 0 done former buffer → HoldsUpTo (length (flatten done)) (flatten (done ++ rest)) former buffer
