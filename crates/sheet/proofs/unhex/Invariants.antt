-- The buffer holds the bytes of the first k pairs, and what it held from k on.
use Rattle.std.proofs.Common.{◌≡◌, ◌++◌, take, drop}
use Rattle.sheet.specs.Sheet.{from_pairs}
use Rattle.sheet.proofs.unhex.Given as goal

abbrev pub invariant-loop-k : goal.invariant-loop-k
invariant-loop-k l = l.out ≡ take l.k (from_pairs l.s) ++ drop l.k l.initial.out
