-- The names so far are not the one; the cell at `from` is it, or the others decide (`BoardsLaws`).
use native.Mathlib.Omega.{arith}
use Rattle.tally.specs.Tally.{boards_name}
use Rattle.tally.proofs.BoardsLaws.{searched_first, searched_last, name_found, searched_next}
use Rattle.tally.proofs.boards_at.Goals as goal

pub loop-from-init : goal.loop-from-init
loop-from-init c = searched_first _

pub returns-then-same_text : goal.returns-then-same_text
unfolding boards_name
returns-then-same_text c =
    let f = c.find-e in
    name_found _ _ _ c.loop-from.invariant (omega (arith, c.loop-from-test.true)) f.result f.ensures.value c.same_text.result c.same_text.ensures c.if-same_text.true

pub overflow_add-k : goal.overflow_add-k
overflow_add-k c = omega (arith, c.loop-from.invariant.few, c.loop-from.invariant.inside, c.requires)

pub loop-from-preserved : goal.loop-from-preserved
unfolding boards_name
loop-from-preserved c =
    let f = c.find-e in
    searched_next _ _ _ c.loop-from.invariant (omega (arith, c.loop-from-test.true)) f.result f.ensures.value c.same_text.result c.same_text.ensures c.if-same_text.false f.ensures.lower_bound.1 f.ensures.lower_bound.0

pub returns : goal.returns
returns c = searched_last _ _ _ c.loop-from.invariant (omega (arith, c.loop-from-test.false))
