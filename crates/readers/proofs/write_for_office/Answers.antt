-- `write_for_office` stops at what `admit` refuses, and else keeps the promise of `put_whole`: only the sizes are left to be judged (AdmitLaws).
use Rattle.std.proofs.lemmas.Result.{err_from_is_err_and}
use Rattle.recording.specs.Read.{recording_of}
use Rattle.recorder.specs.Recorder.{lent_of}
use Rattle.readers.proofs.AdmitLaws.{refused_office, passed, office_size, office_kept}
use Rattle.readers.proofs.write_for_office.Goals as goal

pub returns-in_err-sizes : goal.returns-in_err-sizes
returns-in_err-sizes c =
    let content = recording_of c.args.content in
    let p = err_from_is_err_and c.from_residual.result c.from_residual.ensures.1 in
    rw (p.1, p.2) (let a = c.args in
    refused_office a.label.now content c.admit.result c.admit.ensures.result_value c.in_err-sizes.field-0.0 c.in_err-sizes.was (lent_of a.bytes.now a.numbers.now a.texts.now))

pub put_whole-requires : goal.put_whole-requires
put_whole-requires c =
    let content = recording_of c.args.content in
    let l = c.args.label.now in
    let r = c.admit in (
      passed l content r.result r.ensures.result_value c.in_ok-sizes.sizes c.in_ok-sizes.was,
      office_size l content r.result r.ensures.result_value c.in_ok-sizes.sizes c.in_ok-sizes.was r.ensures.admitted_told,
    )

pub returns : goal.returns
returns c =
    let content = recording_of c.args.content in
    let a = c.args in
    let r = c.admit in
    office_kept a.label.now content r.result r.ensures.result_value c.in_ok-sizes.sizes c.in_ok-sizes.was (lent_of a.bytes.now a.numbers.now a.texts.now) (lent_of _ _ _)
    c.put_whole.result c.put_whole.ensures
