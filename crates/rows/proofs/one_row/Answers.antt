-- A right line that is ended gives the rows of what it says, any other the bad row.
use Rattle.std.proofs.Common.{◌≡◌, Bool, sym, ap, ◌∙◌}
use Rattle.sheet.specs.Sheet.{sheet_line}
use Rattle.rows.specs.Rows.{bad_row, rows_of}
use Rattle.rows.proofs.RowLaws.{same_row, row_says, row_open, row_wrong}
use Rattle.rows.proofs.one_row.Goals as goal
use Rattle.rows.proofs.one_row.Goals.{in_default-via-in-Some+else-ended, in_default-via-in_default}

pub returns-in-Some-clause-value : goal.returns-in-Some-clause-value
returns-in-Some-clause-value c =
    let x = c.args in
    let t = c.in-Some in
    let g = c.good_rows in
    let e = row_says x.row x.text.now t.task t.ensures.0 t.ensures.1 ∙ ap (λ (b : Bool). rows_of x.row (sheet_line x.text.now b)) (sym c.if-ended.true) in
    same_row x.at x.out.now _ _ g.result _ e g.ensures.value.0 g.ensures.value.1

pub returns-in_default-clause-value : goal.returns-in_default-clause-value
returns-in_default-clause-value c =
    let x = c.args in
    let p = c.put_bad in
    let e : bad_row x.row ≡ rows_of x.row (sheet_line x.text.now x.ended) = elim c.in_default.branch [
      | in_default-via-in-Some+else-ended w ↦ row_open x.row x.text.now x.ended w.if-ended.false
      | in_default-via-in_default w ↦ row_wrong x.row x.text.now x.ended w.in_default.ensures
    ] in
    same_row x.at x.out.now _ _ p.result _ e p.ensures.value.0 p.ensures.value.1
