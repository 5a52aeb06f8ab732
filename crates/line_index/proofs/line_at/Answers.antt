-- Each return is one law of `CallLaws`.
use mathlib.Core.Path.{sym, ◌∙◌}
use Rattle.recording.specs.Read.{recording_of}
use Rattle.std.proofs.lemmas.Result.{err_from_is_err_and}
use Rattle.line_index.proofs.CallLaws as calls
use Rattle.line_index.proofs.line_at.Goals as goal

pub returns-in_err-check : goal.returns-in_err-check
returns-in_err-check c =
    let a = c.args in
    let p = err_from_is_err_and c.from_residual.result c.from_residual.ensures.1 in
    rw (p.1, p.2) (calls.line_content (recording_of a.content) a.index.now a.n c.in_err-check.field-0.0 (sym c.in_err-check.ensures.result_value))

pub returns-then-not-is_index : goal.returns-then-not-is_index
returns-then-not-is_index c =
    calls.line_wrong (recording_of c.args.content) c.args.index.now c.args.n (sym c.in_ok-check.ensures.result_value) (sym c.is_index.ensures ∙ c.if-not-is_index.true)

pub returns-then-index-n : goal.returns-then-index-n
returns-then-index-n c =
    calls.line_missing (recording_of c.args.content) c.args.index.now c.args.n (sym c.in_ok-check.ensures.result_value) (sym c.is_index.ensures ∙ c.if-not-is_index.false) c.if-index-n.true

pub end_of-requires-clause-index_value : goal.end_of-requires-clause-index_value
end_of-requires-clause-index_value c = calls.index_is c.args.content.bytes.now c.args.index.now (sym c.is_index.ensures ∙ c.if-not-is_index.false)

pub returns : goal.returns
returns c =
    calls.line_found (recording_of c.args.content) c.args.index.now c.args.n (sym c.in_ok-check.ensures.result_value) (sym c.is_index.ensures ∙ c.if-not-is_index.false)
    c.if-index-n.false _ c.end_of.ensures
