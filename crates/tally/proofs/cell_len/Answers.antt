-- A cell that is not turned away is well-formed, and of such a one the plan gives what is kept and what is missing to the width (`CellLaws`).
use native.Mathlib.Omega.{arith}
use mathlib.Core.Path.{sym, ◌∙◌}
use Rattle.controls.proofs.ControlLaws.{clean_text, clean_formed}
use Rattle.tally.specs.Tally.{tilde}
use Rattle.tally.proofs.CellLaws.{plan_narrow, plan_laid}
use Rattle.tally.proofs.cell_len.Goals as goal

pub overflow_sub-result : goal.overflow_sub-result
unfolding tilde
overflow_sub-result c =
    let clean = sym c.is_clean.ensures ∙ c.if-not-is_clean.false in
    plan_narrow c.args.width c.args.cell.now (clean_formed _ (clean_text _ clean)) c.plan_cell-p.result c.plan_cell-p.ensures.value

pub returns : goal.returns
unfolding tilde
returns c =
    let clean = sym c.is_clean.ensures ∙ c.if-not-is_clean.false in
    let p = c.plan_cell-p in
    let kept = p.ensures.content_in_bounds in
    (clean, sym (plan_laid c.args.width c.args.cell.now (clean_formed _ (clean_text _ clean)) p.result p.ensures.value), omega (arith, kept.0, kept.1, c.requires.1))
