-- All calls fit: the first that does not ends the loop. Invariant: those left fit exactly if all do.
use Rattle.requests.proofs.RequestLaws.{rest}
use Rattle.requests.specs.Requests.{requests_of, all_fit_in}
use lib.ListN.{length}
use mathlib.Core.Path.{◌≡◌}
use Prim.Native.Nat.{◌/◌, ◌-◌, ◌≤◌}
use Rattle.requests.proofs.all_fit.Given as goal

abbrev pub invariant-loop-k : goal.invariant-loop-k
invariant-loop-k l = (l.k ≤ length l.calls / 8) × (all_fit_in l.p l.q (rest (length l.calls / 8) l.k l.calls) ≡ all_fit_in l.p l.q (requests_of (length l.calls / 8) l.calls))

abbrev pub decreases-loop-k : goal.decreases-loop-k
decreases-loop-k l = length l.calls / 8 - l.k
