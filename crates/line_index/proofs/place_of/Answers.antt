-- Each return is one law of `CallLaws`; where the search ends is the line (`place_found`).
use mathlib.Core.Path.{sym, ◌∙◌}
use Rattle.recording.specs.Read.{recording_of}
use Rattle.std.proofs.lemmas.Result.{err_from_is_err_and}
use Rattle.line_index.proofs.CallLaws as calls
use Rattle.line_index.proofs.place_of.Goals as goal

pub returns-in_err-check : goal.returns-in_err-check
returns-in_err-check c =
    let a = c.args in
    let p = err_from_is_err_and c.from_residual.result c.from_residual.ensures.1 in
    rw (p.1, p.2) (calls.place-content (recording_of a.content) a.index.now a.offset c.in_err-check.field-0.0 (sym c.in_err-check.ensures.result_value))

pub returns-then-not-is_index : goal.returns-then-not-is_index
returns-then-not-is_index c =
    calls.place_wrong (recording_of c.args.content) c.args.index.now c.args.offset (sym c.in_ok-check.ensures.result_value) (sym c.is_index.ensures ∙ c.if-not-is_index.true)

pub returns-then-content-offset : goal.returns-then-content-offset
returns-then-content-offset c =
    calls.place_missing (recording_of c.args.content) c.args.index.now c.args.offset (sym c.in_ok-check.ensures.result_value) (sym c.is_index.ensures ∙ c.if-not-is_index.false) c.if-content-offset.true

pub find_line-line-requires : goal.find_line-line-requires
find_line-line-requires c =
    let r = recording_of c.args.content in
    let fine = sym c.in_ok-check.ensures.result_value in
    let same = sym c.is_index.ensures ∙ c.if-not-is_index.false in
    let first = calls.first_within r c.args.index.now c.args.offset fine same in
    record { index_parted = calls.index_parted r c.args.index.now c.args.offset fine same c.if-content-offset.false; index_nonzero = first.0; index_bound = first.1 }

pub overflow_sub-result : goal.overflow_sub-result
overflow_sub-result c = c.find_line-line.ensures.1

pub returns : goal.returns
returns c =
    let f = c.find_line-line.ensures in
    calls.place_found (recording_of c.args.content) c.args.index.now c.args.offset (sym c.in_ok-check.ensures.result_value) (sym c.is_index.ensures ∙ c.if-not-is_index.false) c.if-content-offset.false
    _ f.0 f.1 f.2
