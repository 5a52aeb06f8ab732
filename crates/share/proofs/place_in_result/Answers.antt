-- As for `place_label`; an entry that starts below `top` is no first push of the label (`old_next`).
use native.Mathlib.Omega.{arith}
use mathlib.Core.Path.{sym, ◌∙◌}
use Rattle.share.proofs.Laws.{found, passed_all}
use Rattle.share.proofs.PlacedLaws.{new_first, new_next, old_next}
use Rattle.share.proofs.place_in_result.Goals as goal

pub loop-entry-init : goal.loop-entry-init
loop-entry-init c = rw c.into_iter-entry-iterator.ensures.into_iter_gives (rw c.of-entry-items.ensures (new_first _ _ _ c.requires.numbers_value))

pub returns-then-is_push : goal.returns-then-is_push
returns-then-is_push c =
    let f = found _ _ _ _ c.loop-entry.invariant.passed _ _ c.in-Some.ensures.steps (sym c.is_push.ensures ∙ c.if-is_push.true) in
    record { start_value = f.0; add_value = f.1 }

pub loop-entry-preserved-then-top-start : goal.loop-entry-preserved-then-top-start
loop-entry-preserved-then-top-start c = new_next _ _ _ _ _ _ c.loop-entry.invariant _ _ c.in-Some.ensures.steps (omega arith) (sym c.is_push.ensures ∙ c.if-is_push.false)

pub loop-entry-preserved : goal.loop-entry-preserved
loop-entry-preserved c = old_next _ _ _ _ _ _ c.loop-entry.invariant _ _ c.in-Some.ensures.steps (omega arith)

pub returns : goal.returns
returns c =
    let f = passed_all _ _ _ _ c.loop-entry.invariant.passed c.in-None.ensures.steps.0 in
    record { start_value = f.0; add_value = f.1 }
