-- A cell is passed, or the line ends before the cell k; in the end it is the one at `from` (`BoardsLaws`).
use native.Mathlib.Omega.{arith}
use borrow.Author.Rules.{rules}
use Prim.Native.Nat.{◌≤◌}
use mathlib.Core.Path.{◌≡◌, sym, ◌∙◌}
use Rattle.std.specs.Prelude.{Some, None}
use Rattle.std.proofs.lemmas.Result.{err_from_is_err_and}
use Rattle.recording.specs.declared.Refusal.TheVariants.{TallyLine}
use Rattle.tally.proofs.BoardsLaws.{passed_first, no_cell, passed_next, read_none, read_some}
use Rattle.tally.proofs.boards_in.Goals as goal

pub loop-init : goal.loop-init
loop-init c = passed_first _ _

pub returns-then-e-line : goal.returns-then-e-line
returns-then-e-line c =
    let z = no_cell _ _ _ _ c.loop.invariant c.find-e.result c.find-e.ensures.value (omega (arith, c.loop-test.true)) c.if-e-line.true in
    (z.0, z.1, omega arith)

pub loop-preserved : goal.loop-preserved
loop-preserved c =
    let f = c.find-e in
    passed_next _ _ _ _ c.loop.invariant f.result f.ensures.value (omega (arith, c.loop-test.true)) (omega (arith, f.ensures.lower_bound.1, c.if-e-line.false))

pub returns-in_err-n : goal.returns-in_err-n
returns-in_err-n c =
    let p = err_from_is_err_and c.from_residual.result c.from_residual.ensures.1 in
    let none : c.decimal_in.result ≡ None = grind arith in
    let line : c.in_err-n.field-0.0 ≡ TallyLine = grind arith in
    rw (p.1, p.2) (read_none _ _ _ _ c.loop.invariant c.find-e-2.result c.find-e-2.ensures.value (omega (arith, c.loop-test.false)) (sym c.decimal_in.ensures ∙ none), line)

pub returns-then-n-gt-BOARDS_LIMIT : goal.returns-then-n-gt-BOARDS_LIMIT
returns-then-n-gt-BOARDS_LIMIT c =
    let some : c.decimal_in.result ≡ Some c.in_ok-n.n = grind arith in
    ((read_some _ _ _ _ c.loop.invariant c.find-e-2.result c.find-e-2.ensures.value (omega (arith, c.loop-test.false)) _ (sym c.decimal_in.ensures ∙ some)).0 c.if-n-gt-BOARDS_LIMIT.true, search rules)

pub returns : goal.returns
returns c =
    let some : c.decimal_in.result ≡ Some c.in_ok-n.n = grind arith in
    let few : c.in_ok-n.n ≤ 65535 = omega (arith, c.if-n-gt-BOARDS_LIMIT.false) in
    let r = (read_some _ _ _ _ c.loop.invariant c.find-e-2.result c.find-e-2.ensures.value (omega (arith, c.loop-test.false)) _ (sym c.decimal_in.ensures ∙ some)).1 few in
    (r.0, r.1, few)
