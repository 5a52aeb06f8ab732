-- A refusal of the next record is that of all (`scan_refused`); without one the scan goes on (`scan_next`).
use Rattle.std.proofs.lemmas.Result.{err_from_is_err_and}
use Rattle.replace.proofs.RecordLaws.{scan_next, scan_refused}
use Rattle.replace.proofs.check_records.Goals as goal

pub returns-in_err-s : goal.returns-in_err-s
returns-in_err-s c =
    let p = err_from_is_err_and c.from_residual.result c.from_residual.ensures.1 in
    rw (p.1, p.2) (scan_refused _ _ _ _ _ _ _ _ _ c.in-Some.ensures.steps c.check_record.ensures c.in_err-s.was c.loop-x.invariant)

pub loop-x-preserved : goal.loop-x-preserved
loop-x-preserved c = scan_next _ _ _ _ _ _ _ _ _ c.in-Some.ensures.steps c.check_record.ensures c.in_ok-s.was c.loop-x.invariant
