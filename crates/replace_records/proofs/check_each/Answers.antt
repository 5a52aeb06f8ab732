-- A refusal of the next record is that of all (`scan_refused`); without one the scan goes on (`scan_next`), and at the end none is left.
use Rattle.std.proofs.lemmas.Result.{err_from_is_err_and}
use Rattle.std.proofs.Common.{arith}
use mathlib.Core.Path.{sym, ap, ◌∙◌}
use mathlib.Core.List.{List}
use Rattle.layout.specs.declared.Replacement.{Replacement}
use Rattle.replace.specs.Records.{check_all}
use Rattle.replace.proofs.RecordLaws.{scan_next, scan_refused}
use Rattle.replace_records.proofs.Laws.{one_more, none_left}
use Rattle.replace_records.proofs.check_each.Goals as goal

pub returns-in_err-s : goal.returns-in_err-s
returns-in_err-s c =
    let p = err_from_is_err_and c.from_residual.result c.from_residual.ensures.1 in
    rw (p.1, p.2) (scan_refused _ _ _ _ _ _ _ _ _ (one_more c.args.records.now c.loop-x.x-index (omega arith)) c.check_record.ensures c.in_err-s.was c.loop-x.invariant)

pub loop-x-preserved : goal.loop-x-preserved
loop-x-preserved c = scan_next _ _ _ _ _ _ _ _ _ (one_more c.args.records.now c.loop-x.x-index (omega arith)) c.check_record.ensures c.in_ok-s.was c.loop-x.invariant

pub returns : goal.returns
returns c =
    let a = c.args in
    sym (ap (λ (ys : List Replacement). check_all a.n a.t ys c.loop-x.s) (none_left a.records.now c.loop-x.x-index (omega arith))) ∙ c.loop-x.invariant
