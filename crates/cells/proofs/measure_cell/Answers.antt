-- A cell longer than the width: the two cuts are together the cut to the width (`two_cuts`), which reaches the end of a cell that fits, and of no other.
use mathlib.Core.Path.{◌∙◌}
use borrow.Author.Rules.{part_to_end}
use Rattle.cells.proofs.PlanLaws.{cell_whole, cell_cut}
use Rattle.cells.proofs.measure_cell.Goals as goal

pub returns-then-at-more-clause-value : goal.returns-then-at-more-clause-value
returns-then-at-more-clause-value c =
    let x = c.args in
    let k = c.cut_end-k in
    let r = c.cut_end-more.ensures.pos_value in
    c.keep_whole-then-at-more.ensures
    ∙ cell_whole x.m x.max x.cell.now _ _ _ _ _ c.requires k.ensures.pos_value.0 k.ensures.pos_value.1 (part_to_end x.cell.now k.result.pos) r.0 r.1 c.if-at-more.true

pub returns-clause-value : goal.returns-clause-value
returns-clause-value c =
    let x = c.args in
    let k = c.cut_end-k in
    let r = c.cut_end-more.ensures.pos_value in
    cell_cut x.m x.max x.cell.now _ _ _ _ _ c.requires k.ensures.pos_value.0 k.ensures.pos_value.1 (part_to_end x.cell.now k.result.pos) r.0 r.1 c.if-at-more.false
