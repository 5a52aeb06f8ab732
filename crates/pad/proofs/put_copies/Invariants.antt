-- A loop of copies: after i of them the buffer is the old one with the piece i times from `at` on, and one copy more is `repeated_next`.
use Prim.Native.Nat.{◌+◌, ◌≤◌}
use mathlib.Core.Path.{◌≡◌}
use lib.ListN.{length}
use Rattle.buffer.specs.Place.{over_at, part}
use Rattle.pad.specs.Padding.{repeated}
use Rattle.pad.proofs.put_copies.Given as goal

abbrev pub invariant-loop : goal.invariant-loop
invariant-loop l = (l.counter ≤ l.n) × (length l.out ≡ length l.initial.out) × (l.d ≡ l.at + length (repeated l.counter (part l.a l.b l.from))) × (l.out ≡ over_at l.at (repeated l.counter (part l.a l.b l.from)) l.initial.out)
