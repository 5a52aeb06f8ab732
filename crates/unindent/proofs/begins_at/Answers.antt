-- Where there are as many bytes as the prefix has, what `==` compares is what its bytes ask, one after another (`begins_is`); where there are not, it is not there (`begins_short`).
use native.Mathlib.Omega.{arith}
use borrow.Author.Tests.{lt-leb}
use Prim.Native.Nat.{ℕ, ◌+◌, ◌-◌}
use mathlib.Core.Path.{◌≡◌, sym, ap, ◌∙◌}
use lib.Dec.{eqb}
use lib.ListN.{length, take, drop, length-drop}
use Rattle.std.specs.Cmp.Lexicographic.{pointwise}
use Rattle.unindent.proofs.Laws.{begins_is, begins_short}
use Rattle.unindent.proofs.begins_at.Goals as goal

pub returns-then-prefix-content : goal.returns-then-prefix-content
returns-then-prefix-content c =
    let a = c.args in
    let n : a.at + length a.prefix.now - a.at ≡ length a.prefix.now = omega arith in
    c.eq.ensures ∙ ap (λ (m : ℕ). pointwise eqb a.prefix.now (take m (drop a.at a.content.now))) n ∙ begins_is a.prefix.now (drop a.at a.content.now)

pub returns-else-prefix-content : goal.returns-else-prefix-content
returns-else-prefix-content c =
    let a = c.args in
    lt-leb (length a.prefix.now) (length a.content.now - a.at) (omega (arith, c.if-prefix-content.false))
    ∙ sym (begins_short a.prefix.now (drop a.at a.content.now) (omega (arith, c.if-prefix-content.false, length-drop a.at a.content.now)))
