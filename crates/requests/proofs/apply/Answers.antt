-- What each kind's call leaves and answers is what the job of that kind does, with the line list as it was where the call has none (`unlined`).
use native.Mathlib.Omega.{arith}
use mathlib.Core.Bool.{true, false}
use mathlib.Core.Path.{refl}
use Rattle.recording.specs.Recording.{Recording}
use Rattle.recording.specs.Read.{recording_of}
use Rattle.replace.specs.Records.{records_of}
use Rattle.layout.specs.Layout.{truncate_start, truncate_end, pad_start, pad_end, pad_centered, indent, unindent, wrap, replace, expand_tabs, lines_left}
use Rattle.requests.specs.Requests.{job_of}
use Rattle.requests.proofs.ApplyLaws.{unlined, lined, job_start, job_end, job_pad_start, job_pad_end, job_pad_centered, job_indent, job_wrap, job_wrap_breaking, job_replace, job_tabs, job_unindent}
use Rattle.requests.proofs.apply.Goals as goal

pub returns-in-0 : goal.returns-in-0
unfolding lines_left
returns-in-0 c =
    let a = c.args in
    let second : Recording = recording_of a.second in
    unlined (job_of a.kind a.width second) (truncate_start a.width second) (recording_of a.content) a.bytes.now a.numbers.now a.texts.now a.lines.now _ _ _
    c.write_truncated_start.result (job_start a.kind a.width second c.in-0.is) refl c.write_truncated_start.ensures

pub returns-in-1 : goal.returns-in-1
unfolding lines_left
returns-in-1 c =
    let a = c.args in
    let second : Recording = recording_of a.second in
    unlined (job_of a.kind a.width second) (truncate_end a.width second) (recording_of a.content) a.bytes.now a.numbers.now a.texts.now a.lines.now _ _ _
    c.write_truncated_end.result (job_end a.kind a.width second c.in-1.is) refl c.write_truncated_end.ensures

pub returns-in-2 : goal.returns-in-2
unfolding lines_left
returns-in-2 c =
    let a = c.args in
    let second : Recording = recording_of a.second in
    unlined (job_of a.kind a.width second) (pad_start a.width second) (recording_of a.content) a.bytes.now a.numbers.now a.texts.now a.lines.now _ _ _
    c.write_padded_start.result (job_pad_start a.kind a.width second c.in-2.is) refl c.write_padded_start.ensures

pub returns-in-3 : goal.returns-in-3
unfolding lines_left
returns-in-3 c =
    let a = c.args in
    let second : Recording = recording_of a.second in
    unlined (job_of a.kind a.width second) (pad_end a.width second) (recording_of a.content) a.bytes.now a.numbers.now a.texts.now a.lines.now _ _ _
    c.write_padded_end.result (job_pad_end a.kind a.width second c.in-3.is) refl c.write_padded_end.ensures

pub returns-in-4 : goal.returns-in-4
unfolding lines_left
returns-in-4 c =
    let a = c.args in
    let second : Recording = recording_of a.second in
    unlined (job_of a.kind a.width second) (pad_centered a.width second) (recording_of a.content) a.bytes.now a.numbers.now a.texts.now a.lines.now _ _ _
    c.write_padded_centered.result (job_pad_centered a.kind a.width second c.in-4.is) refl c.write_padded_centered.ensures

pub returns-in-5 : goal.returns-in-5
unfolding lines_left
returns-in-5 c =
    let a = c.args in
    let second : Recording = recording_of a.second in
    unlined (job_of a.kind a.width second) (indent second) (recording_of a.content) a.bytes.now a.numbers.now a.texts.now a.lines.now _ _ _
    c.write_indented.result (job_indent a.kind a.width second c.in-5.is) refl c.write_indented.ensures

pub returns-in-8 : goal.returns-in-8
unfolding lines_left
returns-in-8 c =
    let a = c.args in
    let second : Recording = recording_of a.second in
    unlined (job_of a.kind a.width second) (replace (records_of a.second.entries.now) a.second.bytes.now) (recording_of a.content) a.bytes.now a.numbers.now a.texts.now a.lines.now _ _ _
    c.write_replaced_flat.result (job_replace a.kind a.width second c.in-8.is) refl c.write_replaced_flat.ensures

pub returns-in-9 : goal.returns-in-9
unfolding lines_left
returns-in-9 c =
    let a = c.args in
    let second : Recording = recording_of a.second in
    unlined (job_of a.kind a.width second) (expand_tabs a.width) (recording_of a.content) a.bytes.now a.numbers.now a.texts.now a.lines.now _ _ _
    c.write_tabs_expanded.result (job_tabs a.kind a.width second c.in-9.is) refl c.write_tabs_expanded.ensures

pub returns-in_default : goal.returns-in_default
unfolding lines_left
returns-in_default c =
    let a = c.args in
    let second : Recording = recording_of a.second in
    unlined (job_of a.kind a.width second) (unindent second) (recording_of a.content) a.bytes.now a.numbers.now a.texts.now a.lines.now _ _ _
    c.write_unindented.result (job_unindent a.kind a.width second (omega (arith, c.in_default))) refl c.write_unindented.ensures

pub returns-in-6 : goal.returns-in-6
returns-in-6 c =
    let a = c.args in
    lined (job_of a.kind a.width (recording_of a.second)) (wrap a.width false) (recording_of a.content) a.bytes.now a.numbers.now a.texts.now a.lines.now _ _ _ _
    c.write_wrapped.result (job_wrap a.kind a.width (recording_of a.second) c.in-6.is) c.write_wrapped.ensures

pub returns-in-7 : goal.returns-in-7
returns-in-7 c =
    let a = c.args in
    lined (job_of a.kind a.width (recording_of a.second)) (wrap a.width true) (recording_of a.content) a.bytes.now a.numbers.now a.texts.now a.lines.now _ _ _ _
    c.write_wrapped-in-7.result (job_wrap_breaking a.kind a.width (recording_of a.second) c.in-7.is) c.write_wrapped-in-7.ensures
