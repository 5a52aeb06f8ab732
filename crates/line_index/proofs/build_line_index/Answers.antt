-- Each return is one law of `CallLaws`.
use mathlib.Core.Path.{sym, ◌∙◌}
use lib.ListN.{length}
use borrow.Author.Tests.{ltb-false}
use Rattle.recording.proofs.FaultLaws.{no_fault}
use Rattle.recording.specs.Read.{recording_of}
use Rattle.std.proofs.lemmas.Result.{err_from_is_err_and}
use Rattle.line_index.proofs.CallLaws as calls
use Rattle.line_index.proofs.build_line_index.Goals as goal
use Rattle.line_index.proofs.build_line_index.Goals.{then-index-eq0-via-then-index-eq0, then-index-eq0-via-else-index-eq0+then-not-starts_fit}

pub returns-in_err-check : goal.returns-in_err-check
returns-in_err-check c =
    let p = err_from_is_err_and c.from_residual.result c.from_residual.ensures.1 in
    rw (p.1, p.2) (calls.build_content (recording_of c.args.content) c.args.index.now c.in_err-check.field-0.0 (sym c.in_err-check.ensures.result_value))

pub returns-then-index-eq0 : goal.returns-then-index-eq0
returns-then-index-eq0 c =
    let d = c.args.content.bytes.now in
    let n = length c.args.index.now in
    let short = calls.build_short (recording_of c.args.content) c.args.index.now (sym c.in_ok-check.ensures.result_value) in
    elim c.then-index-eq0.branch [
      | then-index-eq0-via-then-index-eq0 w ↦ short (calls.room_none d n w.if-index-eq0.true)
      | then-index-eq0-via-else-index-eq0+then-not-starts_fit w ↦ short (calls.room_short d n (sym w.starts_fit.ensures ∙ w.if-not-starts_fit.true))
    ]

pub write_index-count-requires : goal.write_index-count-requires
write_index-count-requires c =
    record {
      s_len_bound = ltb-false _ _ (no_fault (recording_of c.args.content) (sym c.in_ok-check.ensures.result_value)).data_bytes;
      s_in_bounds = calls.room_enough c.args.content.bytes.now (length c.args.index.now) c.if-index-eq0.false (sym c.starts_fit.ensures ∙ c.if-not-starts_fit.false);
    }

pub returns : goal.returns
returns c =
    let e = c.write_index-count.ensures in
    calls.build_done (recording_of c.args.content) c.args.index.now (sym c.in_ok-check.ensures.result_value)
    (calls.room_enough c.args.content.bytes.now (length c.args.index.now) c.if-index-eq0.false (sym c.starts_fit.ensures ∙ c.if-not-starts_fit.false)) _ _ e.value e.index_after
