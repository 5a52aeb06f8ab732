-- The tabs from here on are those from the start on (`Onward`).
use Prim.Native.Nat.{◌-◌}
use lib.ListN.{length}
use Rattle.tabs.specs.Tabs.{Onward}
use Rattle.tabs.proofs.next_tab.Given as goal

abbrev pub invariant-loop-p : goal.invariant-loop-p
invariant-loop-p l = Onward l.s l.fn.from.at l.fn.from.column l.p

abbrev pub decreases-loop-p : goal.decreases-loop-p
decreases-loop-p l = length l.s - l.p.at
