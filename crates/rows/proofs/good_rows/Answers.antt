-- The rows of the line list's numbers are the rows of the lines (`rows_lines`).
use Rattle.std.proofs.Common.{ap, ◌∙◌}
use Rattle.sheet.specs.Sheet.{data_of}
use Rattle.layout.specs.Wrap.{wrap_lines_of}
use Rattle.rows.specs.Rows.{number_rows}
use Rattle.rows.proofs.RowLaws.{rows_lines, same_row}
use Rattle.rows.proofs.good_rows.Goals as goal

pub returns-clause-value : goal.returns-clause-value
returns-clause-value c =
    let x = c.args in
    let p = c.put_lines in
    let d = data_of x.task.hex.now in
    let e = ap (number_rows x.row 0) c.list_lines-n.ensures.value ∙ rows_lines d x.row 0 (wrap_lines_of x.task.width x.task.breaks d) in
    same_row x.at x.out.now _ _ p.result _ e p.ensures.value.0 p.ensures.value.1
