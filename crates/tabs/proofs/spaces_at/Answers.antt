-- By `some_spaces`: a remainder is below the stop.
use native.Mathlib.Omega.{arith}
use native.Mathlib.Nat.{mod-lt}
use Rattle.layout.proofs.TabLaws.{some_spaces}
use mathlib.Core.Path.{refl}
use Rattle.tabs.proofs.spaces_at.Goals as goal

pub overflow_sub-result : goal.overflow_sub-result
overflow_sub-result c = omega (arith, mod-lt c.args.column c.requires)

pub returns : goal.returns
returns c = let b = some_spaces c.args.stop c.args.column c.requires in (refl, b.0, b.1)
