-- The fields, one after another, as `good_line` asks for them.
use Rattle.std.proofs.Common.{refl, sym}
use Rattle.rows.proofs.RowLaws.{bad_width, bad_break, bad_data, all_good, says}
use Rattle.rows.proofs.task_in.Goals as goal

pub returns-in_err-width : goal.returns-in_err-width
returns-in_err-width c = rw c.from_residual.ensures (bad_width c.args.text.now (rw c.first_field.ensures at c.in_err-width.ensures))

pub returns-in_err-breaks : goal.returns-in_err-breaks
returns-in_err-breaks c =
    let t = c.args.text.now in
    rw c.from_residual-in_err-breaks.ensures (bad_break t c.in_ok-width.width (rw c.first_field.ensures at c.in_ok-width.ensures) (rw (c.first_field-2.ensures, c.after_space-rest.ensures) at c.in_err-breaks.ensures))

pub returns-then-not-is_data : goal.returns-then-not-is_data
returns-then-not-is_data c =
    let t = c.args.text.now in
    bad_data t c.in_ok-width.width (rw c.first_field.ensures at c.in_ok-width.ensures) c.in_ok-breaks.breaks (rw (c.first_field-2.ensures, c.after_space-rest.ensures) at c.in_ok-breaks.ensures)
    (rw (c.after_space-hex.ensures, c.after_space-rest.ensures) at (sym c.if-not-is_data.ensures))

pub returns : goal.returns
returns c =
    let t = c.args.text.now in
    let width = rw c.first_field.ensures at c.in_ok-width.ensures in
    let breaks = rw (c.first_field-2.ensures, c.after_space-rest.ensures) at c.in_ok-breaks.ensures in
    let right = rw (c.after_space-hex.ensures, c.after_space-rest.ensures) at (sym c.if-not-is_data.ensures) in
    let hex = rw c.after_space-rest.ensures at c.after_space-hex.ensures in
    (all_good t c.in_ok-width.width width c.in_ok-breaks.breaks breaks right, says t c.in_ok-width.width width c.in_ok-breaks.breaks breaks (record { width = c.in_ok-width.width; breaks = c.in_ok-breaks.breaks; hex = c.after_space-hex.result }) refl refl hex right)
