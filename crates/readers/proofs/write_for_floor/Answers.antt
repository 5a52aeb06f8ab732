-- `write_for_floor` stops at what `admit` refuses; where the label is not pushed it keeps the promise of `put_whole`, and else that of `put_starred` (AdmitLaws).
use Rattle.std.proofs.lemmas.Result.{err_from_is_err_and}
use Rattle.recording.specs.Read.{recording_of}
use borrow.Author.Tests.{not-true}
use Rattle.recorder.specs.Recorder.{lent_of}
use Rattle.readers.proofs.AdmitLaws.{refused_floor, passed, office_size, scan_told, floor_kept, absent_kept}
use Rattle.readers.proofs.write_for_floor.Goals as goal

pub returns-in_err-sizes : goal.returns-in_err-sizes
returns-in_err-sizes c =
    let content = recording_of c.args.content in
    let p = err_from_is_err_and c.from_residual.result c.from_residual.ensures.1 in
    rw (p.1, p.2) (let a = c.args in
    refused_floor a.label.now content c.admit.result c.admit.ensures.result_value c.in_err-sizes.field-0.0 c.in_err-sizes.was (lent_of a.bytes.now a.numbers.now a.texts.now))

pub put_whole-requires : goal.put_whole-requires
put_whole-requires c =
    let content = recording_of c.args.content in
    let l = c.args.label.now in
    let r = c.admit in (
      passed l content r.result r.ensures.result_value c.in_ok-sizes.sizes c.in_ok-sizes.was,
      office_size l content r.result r.ensures.result_value c.in_ok-sizes.sizes c.in_ok-sizes.was r.ensures.admitted_told,
    )

pub returns-then-not-sizes : goal.returns-then-not-sizes
returns-then-not-sizes c =
    let content = recording_of c.args.content in
    let a = c.args in
    let r = c.admit in
    absent_kept a.label.now content r.result r.ensures.result_value c.in_ok-sizes.sizes c.in_ok-sizes.was r.ensures.admitted_told (not-true _ c.if-not-sizes.true)
    (lent_of a.bytes.now a.numbers.now a.texts.now) (lent_of _ _ _) c.put_whole.result c.put_whole.ensures

pub put_starred-requires : goal.put_starred-requires
put_starred-requires c =
    let content = recording_of c.args.content in
    let l = c.args.label.now in
    let r = c.admit in record {
      text_value = (passed l content r.result r.ensures.result_value c.in_ok-sizes.sizes c.in_ok-sizes.was, office_size l content r.result r.ensures.result_value c.in_ok-sizes.sizes c.in_ok-sizes.was r.ensures.admitted_told);
      scan_told = scan_told l content r.result r.ensures.result_value c.in_ok-sizes.sizes c.in_ok-sizes.was r.ensures.admitted_told;
    }

pub returns : goal.returns
returns c =
    let content = recording_of c.args.content in
    let a = c.args in
    let r = c.admit in
    floor_kept a.label.now content r.result r.ensures.result_value c.in_ok-sizes.sizes c.in_ok-sizes.was
    (lent_of a.bytes.now a.numbers.now a.texts.now) (lent_of _ _ _) c.put_starred.result c.put_starred.ensures
