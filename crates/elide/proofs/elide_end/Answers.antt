-- A fault of the input is the outcome; without one the parts are what is settled.
use Rattle.std.proofs.Common.{length, ◌++◌}
use Rattle.std.proofs.lemmas.Result.{err_from_is_err_and}
use Rattle.elide.specs.Elide.{elide_end_of, elide_end_outcome, plain_room, lent}
use Rattle.elide.proofs.CallLaws.{input_refused, settled}
use Rattle.elide.proofs.elide_end.Goals as goal

pub returns-in_err-check : goal.returns-in_err-check
unfolding elide_end_outcome
returns-in_err-check c =
    let x = c.args in
    let p = err_from_is_err_and c.from_residual.result c.from_residual.ensures.1 in
    rw (p.1, p.2) (input_refused x.text.now x.ellipsis.now (plain_room (length x.out.now)) _ c.in_err-check.field-0.0 (lent x.out.now) c.in_err-check.ensures)

pub returns : goal.returns
unfolding elide_end_outcome
returns c =
    let x = c.args in
    let p = c.parts_end in
    settled x.text.now x.ellipsis.now (plain_room (length x.out.now)) (p.result.first.now ++ p.result.second.now) (elide_end_of x.max_width x.text.now x.ellipsis.now).text
    p.result.width (elide_end_of x.max_width x.text.now x.ellipsis.now).columns (lent x.out.now) (lent c.write_parts.new.out) c.write_parts.result c.in_ok-check.ensures (rw c.from.ensures at p.ensures.0) (rw c.from.ensures at p.ensures.1) c.write_parts.ensures
