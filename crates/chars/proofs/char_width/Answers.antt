-- Each turn asks one row (`asked_next`); after the last one what is known of all of them is the width (`asked_end`).
use mathlib.Core.Path.{sym, ◌∙◌}
use native.Mathlib.Omega.{arith}
use Rattle.chars.proofs.RowLaws.{rows, asked_next, asked_end}
use Rattle.chars.proofs.char_width.Goals as goal

pub loop-first-preserved : goal.loop-first-preserved
loop-first-preserved c =
    let l = c.loop-first in (
      sym (asked_next 0 rows l.first-index c.args.code (0, 0, 0) l.zero c.loop-first-test.true) ∙ l.invariant.0,
      sym (asked_next 2 rows l.first-index c.args.code (0, 0, 0) l.wide c.loop-first-test.true) ∙ l.invariant.1,
    )

pub returns-then-zero-clause-value : goal.returns-then-zero-clause-value
returns-then-zero-clause-value c =
    let l = c.loop-first in
    let e = asked_end l.first-index c.args.code l.zero l.wide (omega (arith, c.loop-first-test.false)) l.invariant.0 l.invariant.1 in
    rw c.if-zero.true at e

pub returns-then-wide-clause-value : goal.returns-then-wide-clause-value
returns-then-wide-clause-value c =
    let l = c.loop-first in
    let e = asked_end l.first-index c.args.code l.zero l.wide (omega (arith, c.loop-first-test.false)) l.invariant.0 l.invariant.1 in
    rw (c.if-zero.false, c.if-wide.true) at e

pub returns-else-wide-clause-value : goal.returns-else-wide-clause-value
returns-else-wide-clause-value c =
    let l = c.loop-first in
    let e = asked_end l.first-index c.args.code l.zero l.wide (omega (arith, c.loop-first-test.false)) l.invariant.0 l.invariant.1 in
    rw (c.if-zero.false, c.if-wide.false) at e
