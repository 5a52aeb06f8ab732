-- The first push that is found is the one (`found`), and another entry changes nothing (`passed_one`).
use mathlib.Core.Path.{sym, ◌∙◌}
use Rattle.share.proofs.Laws.{found, passed_one, passed_all}
use Rattle.share.proofs.place_label.Goals as goal

pub returns-then-is_push : goal.returns-then-is_push
returns-then-is_push c =
    let f = found _ _ _ _ c.loop-e.invariant _ _ c.in-Some.ensures.steps (sym c.is_push.ensures ∙ c.if-is_push.true) in
    record { start_value = f.0; add_value = f.1 }

pub loop-e-preserved : goal.loop-e-preserved
loop-e-preserved c = passed_one _ _ _ _ c.loop-e.invariant _ _ c.in-Some.ensures.steps (sym c.is_push.ensures ∙ c.if-is_push.false)

pub returns : goal.returns
returns c =
    let f = passed_all _ _ _ _ c.loop-e.invariant c.in-None.ensures.steps.0 in
    record { start_value = f.0; add_value = f.1 }
