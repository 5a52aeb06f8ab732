-- What is kept is one run or two; the second is put where the first one ended (`put_cut`).
use native.Mathlib.Omega.{arith}
use borrow.Author.Tests.{not-false}
use Rattle.cells.proofs.PutLaws.{put_cut}
use Rattle.cells.proofs.put_cell.Goals as goal

pub returns : goal.returns
returns c =
    let a = c.args in
    let k = c.put-end.ensures in
    let l = c.put.ensures in
    put_cut a.p a.cell.now a.ellipsis.now a.at _ _ _ _ _ (not-false _ c.if-not-p.false) c.requires.plan_in_bounds.0 c.requires.plan_in_bounds.1 (omega (arith, c.requires.ellipsis_in_bounds)) k.0 k.1 l.0 l.1
