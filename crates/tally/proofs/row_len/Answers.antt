-- A cell that is turned away turns the row away, and any other adds what it takes and the byte after it (`LengthLaws`).
use native.Mathlib.Omega.{arith}
use Rattle.std.proofs.lemmas.Result.{err_from_is_err_and}
use Rattle.tally.proofs.ColumnLaws.{columns_are}
use Rattle.tally.proofs.LengthLaws.{few_columns, measured_first, measured_last, turned_away, measured_next}
use Rattle.tally.proofs.WalkLaws.{there, wide}
use Rattle.tally.proofs.row_len.Goals as goal

pub loop-width-init : goal.loop-width-init
loop-width-init c = measured_first _ _ _ (columns_are _ _ c.as_chunks.ensures.front) c.requires.columns_value.0 c.requires.line_len

pub find-e-requires : goal.find-e-requires
find-e-requires c = there _ _ _ _ c.loop-width.invariant.walk c.loop-width-test.true

pub cell_len-requires : goal.cell_len-requires
cell_len-requires c = wide _ _ _ _ c.loop-width.invariant.walk c.loop-width-test.true

pub returns-in_err-n : goal.returns-in_err-n
returns-in_err-n c =
    let p = err_from_is_err_and c.from_residual.result c.from_residual.ensures.1 in
    let f = c.find-e in
    let n = c.in_err-n.ensures in
    rw (p.1, p.2) (turned_away _ _ _ _ _ _ c.loop-width.invariant c.loop-width-test.true f.result f.ensures.value n.0, n.1)

pub overflow_add-bytes-in-loop-width : goal.overflow_add-bytes-in-loop-width
overflow_add-bytes-in-loop-width c =
    let m = c.loop-width.invariant in
    omega (arith, m.small, m.walk.inside, m.walk.within, c.in_ok-n.ensures.2, few_columns _ _ (columns_are _ _ c.as_chunks.ensures.front) c.requires.columns_value.0, c.requires.columns_value.1)

pub loop-width-preserved : goal.loop-width-preserved
loop-width-preserved c =
    let f = c.find-e in
    let n = c.in_ok-n.ensures in
    measured_next _ _ _ _ _ _ c.loop-width.invariant c.loop-width-test.true f.result f.ensures.value n.0 c.in_ok-n.n n.1 n.2 f.ensures.lower_bound.1 f.ensures.lower_bound.0

pub returns : goal.returns
returns c =
    let m = c.loop-width.invariant in
    let l = measured_last _ _ _ _ _ _ m (omega (arith, c.loop-width-test.false)) in
    (l.0, l.1, omega (arith, m.small, m.walk.inside, m.walk.within, few_columns _ _ (columns_are _ _ c.as_chunks.ensures.front) c.requires.columns_value.0))
