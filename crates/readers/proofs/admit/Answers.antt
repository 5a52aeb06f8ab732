-- The content is checked, then the label, then the balance, and the first fault is told (AdmitLaws).
use mathlib.Core.Path.{sym, ◌∙◌}
use lib.ListN.{length}
use borrow.Author.Tests.{ltb-false}
use Rattle.std.proofs.lemmas.Result.{err_from_is_err_and}
use Rattle.recording.specs.Read.{recording_of}
use Rattle.recording.proofs.FaultLaws.{no_fault}
use Rattle.writer.proofs.Steps.{sound}
use Rattle.readers.proofs.AdmitLaws.{content-refused, label_empty, label_refused, content_unbalanced, all_fine}
use Rattle.readers.proofs.admit.Goals as goal
use Rattle.readers.proofs.admit.Goals.{then-label-eq0-via-then-label-eq0, then-label-eq0-via-else-label-eq0+then-not-is_well_formed}

pub returns-in_err-office : goal.returns-in_err-office
returns-in_err-office c =
    let p = err_from_is_err_and c.from_residual.result c.from_residual.ensures.1 in
    let f = content-refused c.args.label.now (recording_of c.args.content) c.in_err-office.field-0.0 c.in_err-office.ensures.result_value in
    rw (p.1, p.2) (record { result_value = f.0; admitted_told = f.1 })

pub returns-then-label-eq0 : goal.returns-then-label-eq0
returns-then-label-eq0 c =
    let l = c.args.label.now in
    let q = recording_of c.args.content in
    let fine = sym c.in_ok-office.ensures.result_value in
    elim c.then-label-eq0.branch [
      | then-label-eq0-via-then-label-eq0 w ↦ let f = label_empty l q fine w.if-label-eq0.true in record { result_value = f.0; admitted_told = f.1 }
      | then-label-eq0-via-else-label-eq0+then-not-is_well_formed w ↦
          let f = label_refused l q fine (sym w.is_well_formed.ensures ∙ w.if-not-is_well_formed.true) in record { result_value = f.0; admitted_told = f.1 }
    ]

pub scan-requires : goal.scan-requires
scan-requires c =
    let a = c.args.content in
    let fine = sym c.in_ok-office.ensures.result_value in
    let n = no_fault (recording_of a) fine in
    record {
      sound = sound a.bytes.now a.entries.now a.text.now fine;
      entries_len_bound = (ltb-false 16384 (length a.entries.now) n.entry_numbers, ltb-false 65536 (length a.text.now) n.text);
    }

pub returns-in_err-floor : goal.returns-in_err-floor
returns-in_err-floor c =
    let p = err_from_is_err_and c.from_residual-in_err-floor.result c.from_residual-in_err-floor.ensures.1 in
    let f = content_unbalanced c.args.label.now (recording_of c.args.content) (sym c.in_ok-office.ensures.result_value) c.if-label-eq0.false (sym c.is_well_formed.ensures ∙ c.if-not-is_well_formed.false)
    c.scan.result c.scan.ensures.result_value c.in_err-floor.field-0.0 c.in_err-floor.was in
    rw (p.1, p.2) (record { result_value = f.0; admitted_told = f.1 })

pub returns : goal.returns
returns c =
    let f = all_fine c.args.label.now (recording_of c.args.content) (sym c.in_ok-office.ensures.result_value) c.if-label-eq0.false (sym c.is_well_formed.ensures ∙ c.if-not-is_well_formed.false)
    c.scan.result c.scan.ensures.result_value _ c.in_ok-floor.was c.scan.ensures.scan_told _ c.in_ok-office.ensures.counted in
    record { result_value = f.0; admitted_told = f.1 }
