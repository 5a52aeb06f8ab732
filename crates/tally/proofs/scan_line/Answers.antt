-- The number of cells decides first, then the cells, then the boards (`ScanLaws`).
use Rattle.std.proofs.lemmas.Result.{err_from_is_err_and}
use Rattle.tally.proofs.ScanLaws.{count_right, count-refused, cell_refused, boards_refused, line_fine}
use Rattle.tally.proofs.scan_line.Goals as goal

pub returns-then-cell_count-columns-clause-result_value : goal.returns-then-cell_count-columns-clause-result_value
returns-then-cell_count-columns-clause-result_value c =
    let x = c.args in
    count-refused x.columns.now x.line.now x.k c.cell_count.result c.cell_count.ensures (λ z. c.if-cell_count-columns.true z)

pub row_len-requires-clause-line_len : goal.row_len-requires-clause-line_len
row_len-requires-clause-line_len c = count_right c.args.columns.now c.args.line.now c.cell_count.result c.cell_count.ensures c.if-cell_count-columns.false

pub returns-in_err-bytes-clause-result_value : goal.returns-in_err-bytes-clause-result_value
returns-in_err-bytes-clause-result_value c =
    let x = c.args in
    let p = err_from_is_err_and c.from_residual.result c.from_residual.ensures.1 in
    let right = count_right x.columns.now x.line.now c.cell_count.result c.cell_count.ensures c.if-cell_count-columns.false in
    rw (p.1, p.2) (cell_refused x.columns.now x.line.now x.k right c.in_err-bytes.ensures.0 _ c.in_err-bytes.ensures.1)

pub returns-in_err-boards-clause-result_value : goal.returns-in_err-boards-clause-result_value
returns-in_err-boards-clause-result_value c =
    let x = c.args in
    let r = c.from_residual-in_err-boards in
    let p = err_from_is_err_and r.result r.ensures.1 in
    let right = count_right x.columns.now x.line.now c.cell_count.result c.cell_count.ensures c.if-cell_count-columns.false in
    rw (p.1, p.2) (boards_refused x.columns.now x.line.now x.k right c.in_ok-bytes.ensures.0 c.in_err-boards.ensures.0 _ c.in_err-boards.ensures.1)

pub returns-clause-result_value : goal.returns-clause-result_value
returns-clause-result_value c =
    let x = c.args in
    let right = count_right x.columns.now x.line.now c.cell_count.result c.cell_count.ensures c.if-cell_count-columns.false in
    line_fine x.columns.now x.line.now x.k right c.in_ok-bytes.ensures.0 c.in_ok-boards.ensures.0
