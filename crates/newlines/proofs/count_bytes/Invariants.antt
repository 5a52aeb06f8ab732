-- So far the number is the count of what is passed.
use Prim.Native.Nat.{◌≤◌}
use mathlib.Core.Path.{◌≡◌}
use lib.ListN.{take}
use Rattle.newlines.specs.Newlines.{newlines}
use Rattle.newlines.proofs.count_bytes.Given as goal

abbrev pub invariant-loop-b : goal.invariant-loop-b
invariant-loop-b l = (l.n ≤ l.b-index) × (l.n ≡ newlines (take l.b-index l.s))
