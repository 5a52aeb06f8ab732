-- Each return is one law of `CallLaws`.
use mathlib.Core.Path.{sym, ◌∙◌}
use lib.ListN.{length, drop}
use Prim.Native.Nat.{◌-◌}
use borrow.Author.Tests.{ltb-false, leb-true, leb-false}
use Rattle.line_index.specs.Starts.{starts_from}
use Rattle.recording.proofs.FaultLaws.{no_fault}
use Rattle.recording.specs.Read.{recording_of}
use Rattle.std.proofs.lemmas.Result.{err_from_is_err_and}
use Rattle.line_index.proofs.CallLaws as calls
use Rattle.line_index.proofs.extend_line_index.Goals as goal
use Rattle.line_index.proofs.extend_line_index.Goals.{then-index-used-via-then-index-used, then-index-used-via-else-index-used+then-content-earlier}
use Rattle.line_index.proofs.extend_line_index.Goals.{then-index-used-via-else-index-used+else-content-earlier+then-not-is_index}
use Rattle.line_index.proofs.extend_line_index.Goals.{then-index-used-via-else-index-used+else-content-earlier+else-not-is_index+then-not-starts_fit}

pub returns-in_err-check : goal.returns-in_err-check
returns-in_err-check c =
    let a = c.args in
    let p = err_from_is_err_and c.from_residual.result c.from_residual.ensures.1 in
    rw (p.1, p.2) (calls.extend_content (recording_of a.content) a.index.now a.earlier a.used c.in_err-check.field-0.0 (sym c.in_err-check.ensures.result_value))

pub returns-then-index-used : goal.returns-then-index-used
returns-then-index-used c =
    let a = c.args in
    let r = recording_of a.content in
    let ix = a.index.now in
    let new = length (starts_from a.earlier (drop a.earlier a.content.bytes.now)) in
    let fine = sym c.in_ok-check.ensures.result_value in
    elim c.then-index-used.branch [
      | then-index-used-via-then-index-used w ↦ calls.extend_used r ix a.earlier a.used fine w.if-index-used.true
      | then-index-used-via-else-index-used+then-content-earlier w ↦ calls.extend_earlier r ix a.earlier a.used fine w.if-index-used.false w.if-content-earlier.true
      | then-index-used-via-else-index-used+else-content-earlier+then-not-is_index w ↦
          calls.extend_wrong r ix a.earlier a.used fine w.if-index-used.false w.if-content-earlier.false (sym w.is_index.ensures ∙ w.if-not-is_index.true)
      | then-index-used-via-else-index-used+else-content-earlier+else-not-is_index+then-not-starts_fit w ↦
          calls.extend_short r ix a.earlier a.used fine w.if-index-used.false w.if-content-earlier.false (sym w.is_index.ensures ∙ w.if-not-is_index.false)
          (leb-false new (length ix - a.used) (sym w.starts_fit.ensures ∙ w.if-not-starts_fit.true))
    ]

pub write_starts-count-requires : goal.write_starts-count-requires
write_starts-count-requires c =
    let a = c.args in
    let fine = sym c.in_ok-check.ensures.result_value in
    record {
      from_in_bounds = (c.if-content-earlier.false, ltb-false _ _ (no_fault (recording_of a.content) fine).data_bytes);
      s_in_bounds = calls.extend_fits (recording_of a.content) a.index.now a.earlier a.used fine c.if-index-used.false c.if-content-earlier.false (sym c.is_index.ensures ∙ c.if-not-is_index.false)
          (leb-true _ _ (sym c.starts_fit.ensures ∙ c.if-not-starts_fit.false));
    }

pub returns : goal.returns
returns c =
    let a = c.args in
    let e = c.write_starts-count.ensures in
    calls.extend_done (recording_of a.content) a.index.now a.earlier a.used (sym c.in_ok-check.ensures.result_value) c.if-index-used.false c.if-content-earlier.false
    (sym c.is_index.ensures ∙ c.if-not-is_index.false) (leb-true _ _ (sym c.starts_fit.ensures ∙ c.if-not-starts_fit.false)) _ _ e.value e.index_after
