-- The promise of `run_calls`: what its parts promise, put together by `proofs/PromiseLaws.antt`.
use Rattle.std.proofs.lemmas.Result.{err_from_is_err_and}
use Rattle.call_lists.proofs.PromiseLaws.{input_fault_lem, is_room, accepted, refuses, finishes}
use Rattle.call_lists.specs.Runs.{Given, given, Buffers, buffers, run_fault}
use Rattle.layout.specs.Lent.{lent_of}
use Rattle.recording.specs.Check.{fault_of}
use mathlib.Core.Path.{◌≡◌, refl}
use Rattle.runs.proofs.run_calls.Goals as goal

pub returns-in_err-check_input : goal.returns-in_err-check_input
returns-in_err-check_input c =
    let given-of : Given = let a = c.args in given a.calls.now a.pool.now a.pool_numbers.now a.data_len a.entries_len a.text_len in
    let lent-of : Buffers = let a = c.args in
    buffers (lent_of a.bytes.now a.numbers.now a.texts.now) (lent_of a.other_bytes.now a.other_numbers.now a.other_texts.now) a.lines.now a.answers.now in
    let fault : fault_of c.check_input.result ≡ run_fault given-of lent-of = input_fault_lem given-of lent-of c.too_long-long.result c.alike-same.result c.check_input.result
    c.too_long-long.ensures c.alike-same.ensures c.check_input.ensures in
    let p = err_from_is_err_and c.from_residual.result c.from_residual.ensures.1 in
    rw (p.1, p.2) (refuses given-of lent-of c.in_err-check_input.field-0.0 c.check_input.result c.in_err-check_input.was fault)

pub run_all-end-requires : goal.run_all-end-requires
run_all-end-requires c =
    let given-of : Given = let a = c.args in given a.calls.now a.pool.now a.pool_numbers.now a.data_len a.entries_len a.text_len in
    let lent-of : Buffers = let a = c.args in
    buffers (lent_of a.bytes.now a.numbers.now a.texts.now) (lent_of a.other_bytes.now a.other_numbers.now a.other_texts.now) a.lines.now a.answers.now in
    let fault : fault_of c.check_input.result ≡ run_fault given-of lent-of = input_fault_lem given-of lent-of c.too_long-long.result c.alike-same.result c.check_input.result
    c.too_long-long.ensures c.alike-same.ensures c.check_input.ensures in
    let none : run_fault given-of lent-of ≡ 0 = is_room (run_fault given-of lent-of) c.check_input.result c.in_ok-check_input.was fault in
    let k = accepted given-of lent-of none in
    record {
      made_value = (refl, k.room);
      calls_value = k.fit;
      sound = k.sound;
    }

pub bring_back-requires : goal.bring_back-requires
bring_back-requires c = c.run_all-end.ensures.sound

pub returns : goal.returns
returns c =
    let given-of : Given = let a = c.args in given a.calls.now a.pool.now a.pool_numbers.now a.data_len a.entries_len a.text_len in
    let lent-of : Buffers = let a = c.args in
    buffers (lent_of a.bytes.now a.numbers.now a.texts.now) (lent_of a.other_bytes.now a.other_numbers.now a.other_texts.now) a.lines.now a.answers.now in
    let fault : fault_of c.check_input.result ≡ run_fault given-of lent-of = input_fault_lem given-of lent-of c.too_long-long.result c.alike-same.result c.check_input.result
    c.too_long-long.ensures c.alike-same.ensures c.check_input.ensures in
    let none : run_fault given-of lent-of ≡ 0 = is_room (run_fault given-of lent-of) c.check_input.result c.in_ok-check_input.was fault in
    finishes given-of lent-of none c.run_all-end.result _ _ _ _ _ _ _ _ _ _ _ _ c.run_all-end.ensures c.bring_back.ensures
