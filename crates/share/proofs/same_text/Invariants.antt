-- From i on the texts are equal.
use Rattle.std.proofs.Common.{◌≡◌, drop}
use Rattle.share.proofs.same_text.Given as goal

abbrev pub invariant-loop-i : goal.invariant-loop-i
invariant-loop-i l = drop l.i l.a ≡ drop l.i l.b
