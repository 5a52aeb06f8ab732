-- Each return is one law of `CallLaws` at its place.
use mathlib.Core.Path.{sym, ◌∙◌}
use Rattle.std.proofs.lemmas.Result.{err_from_is_err_and}
use Rattle.cells.proofs.CallLaws.{long_refused, ends_refused, sizes_refused, has_room, written}
use Rattle.cells.proofs.write_truncated_cells.Goals as goal

pub returns-then-content-gt-DATA_LIMIT-clause-promised : goal.returns-then-content-gt-DATA_LIMIT-clause-promised
returns-then-content-gt-DATA_LIMIT-clause-promised c = long_refused _ _ _ _ _ _ c.then-content-gt-DATA_LIMIT.either

pub returns-then-wrong_ends-clause-promised : goal.returns-then-wrong_ends-clause-promised
returns-then-wrong_ends-clause-promised c =
    ends_refused _ _ _ _ _ _ c.if-content-gt-DATA_LIMIT.false c.if-ellipsis-gt-DATA_LIMIT.false (sym c.wrong_ends.ensures ∙ c.if-wrong_ends.true)

pub returns-in_err-settle-clause-promised : goal.returns-in_err-settle-clause-promised
returns-in_err-settle-clause-promised c =
    let p = err_from_is_err_and c.from_residual.result c.from_residual.ensures.1 in
    rw (p.1, p.2)
    (sizes_refused _ _ _ _ _ _ c.if-content-gt-DATA_LIMIT.false c.if-ellipsis-gt-DATA_LIMIT.false (sym c.wrong_ends.ensures ∙ c.if-wrong_ends.false) _ c.settle.ensures _ c.in_err-settle.was)

pub put-end-requires : goal.put-end-requires
put-end-requires c =
    has_room _ _ _ _ _ _ c.if-content-gt-DATA_LIMIT.false c.if-ellipsis-gt-DATA_LIMIT.false (sym c.wrong_ends.ensures ∙ c.if-wrong_ends.false) _ c.settle.ensures c.in_ok-settle.was

pub returns : goal.returns
returns c =
    let e = c.put-end.ensures in
    let p = written _ _ _ _ _ _ c.if-content-gt-DATA_LIMIT.false c.if-ellipsis-gt-DATA_LIMIT.false (sym c.wrong_ends.ensures ∙ c.if-wrong_ends.false) _ c.settle.ensures c.in_ok-settle.was
    _ _ _ e.value e.bytes_after e.cells_after in
    record { promised = p.0; left_in_order = p.1 }
