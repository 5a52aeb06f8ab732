-- A fault of the input is the outcome; without one the text and what it misses are what is settled.
use Rattle.std.proofs.Common.{[], length, ◌++◌, refl}
use Rattle.std.proofs.lemmas.Result.{err_from_is_err_and}
use Rattle.elide.specs.Elide.{complete_newline_of, complete_newline_outcome, plain_room, lent}
use Rattle.elide.proofs.CallLaws.{input_refused, settled}
use Rattle.elide.proofs.complete_newline.Goals as goal

pub returns-in_err-check : goal.returns-in_err-check
unfolding complete_newline_outcome
returns-in_err-check c =
    let x = c.args in
    let p = err_from_is_err_and c.from_residual.result c.from_residual.ensures.1 in
    rw (p.1, p.2) (input_refused x.text.now [] (plain_room (length x.out.now)) _ c.in_err-check.field-0.0 (lent x.out.now) c.in_err-check.ensures)

pub returns : goal.returns
unfolding complete_newline_outcome complete_newline_of
returns c =
    let x = c.args in
    settled x.text.now [] (plain_room (length x.out.now)) (x.text.now ++ c.missing.result.now) (complete_newline_of x.text.now) 0 0 (lent x.out.now) (lent c.write_parts.new.out) c.write_parts.result
    c.in_ok-check.ensures (rw c.missing.ensures) refl c.write_parts.ensures
