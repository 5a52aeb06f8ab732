-- At most one a byte; otherwise as many as there are 0A (`count_starts`).
use native.Mathlib.Omega.{arith}
use Prim.Native.Nat.{ℕ}
use mathlib.Core.Path.{sym, ap, ◌∙◌}
use lib.ListN.{length, drop, length-drop}
use lib.Dec.{leb}
use borrow.Author.Tests.{le-leb}
use Rattle.newlines.proofs.CountLaws.{count_few}
use Rattle.line_index.specs.Starts.{starts_from}
use Rattle.line_index.proofs.StartLaws.{count_starts}
use Rattle.line_index.proofs.starts_fit.Goals as goal

pub returns-then-s-from : goal.returns-then-s-from
returns-then-s-from c =
    let a = c.args in
    let d = drop a.from a.s.now in
    le-leb _ a.room c.if-s-from.true ∙ sym (le-leb (length (starts_from a.from d)) a.room (omega (arith, count_starts a.from d, count_few d, length-drop a.from a.s.now, c.if-s-from.true)))

pub returns-else-s-from : goal.returns-else-s-from
returns-else-s-from c =
    let a = c.args in
    let d = drop a.from a.s.now in
    ap (λ (n : ℕ). leb n a.room) (c.count_newlines.ensures.0 ∙ sym (count_starts a.from d))
