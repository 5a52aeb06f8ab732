-- So far the number is the count of what is passed.
use Prim.Native.Nat.{◌≤◌}
use mathlib.Core.Path.{◌≡◌}
use lib.ListN.{take}
use Rattle.tabs.specs.Tabs.{tab_count_of}
use Rattle.tabs.proofs.tab_count.Given as goal

abbrev pub invariant-loop-b : goal.invariant-loop-b
invariant-loop-b l = (l.n ≤ l.b-index) × (l.n ≡ tab_count_of (take l.b-index l.s))
