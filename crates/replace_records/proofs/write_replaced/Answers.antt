-- The promise of `replace`: each refusal is found in its order, and what is sized and written is the call's edit of the content (`AloneLaws` of `outcomes`).
-- The call's own part is what the scan of the records says (`CallLaws`).
use Rattle.std.proofs.lemmas.Result.{err_from_is_err_and}
use native.Mathlib.Omega.{arith}
use mathlib.Core.Path.{refl}
use lib.ListN.{length}
use Rattle.buffer.specs.Place.{over}
use Rattle.recording.specs.Outcome.{room_in}
use Rattle.share.proofs.SizeLaws.{own_less}
use Rattle.layout.specs.Layout.{replaced_parts, number}
use Rattle.layout.specs.Lent.{lent_of}
use Rattle.outcomes.proofs.AloneLaws.{content-refused, content_fine, own_refused, sizes_refused, has_room, written}
use Rattle.replace.proofs.CallLaws.{some_bad, none_bad, within, settled}
use Rattle.replace_records.proofs.write_replaced.Goals as goal

pub returns-in_err-size : goal.returns-in_err-size
returns-in_err-size c =
    let p = err_from_is_err_and c.from_residual.result c.from_residual.ensures.1 in
    let a = c.args in
    let r = a.content in
    let x = a.records.now in
    let j = replaced_parts x a.new.now in
    let l = lent_of a.bytes.now a.numbers.now a.texts.now in
    let k = c.check in
    rw (p.1, p.2) (content-refused j r.bytes.now r.entries.now r.text.now l k.result k.ensures.result_value _ c.in_err-size.was)

pub returns-in_err-s : goal.returns-in_err-s
returns-in_err-s c =
    let p = err_from_is_err_and c.from_residual-in_err-s.result c.from_residual-in_err-s.ensures.1 in
    let a = c.args in
    let r = a.content in
    let x = a.records.now in
    let j = replaced_parts x a.new.now in
    let l = lent_of a.bytes.now a.numbers.now a.texts.now in
    let k = c.check in
    let f = content_fine j r.bytes.now r.entries.now r.text.now l k.result k.ensures.result_value k.ensures.counted k.ensures.within c.in_ok-size.size c.in_ok-size.was in
    let h = c.check_each in
    rw (p.1, p.2) (own_refused j r.bytes.now r.entries.now r.text.now l f.passed _ (some_bad r.bytes.now a.new.now x h.result h.ensures _ c.in_err-s.was))

pub own_size-shared-requires : goal.own_size-shared-requires
own_size-shared-requires c =
    let a = c.args in
    let r = a.content in
    let x = a.records.now in
    let j = replaced_parts x a.new.now in
    let l = lent_of a.bytes.now a.numbers.now a.texts.now in
    let k = c.check in
    let f = content_fine j r.bytes.now r.entries.now r.text.now l k.result k.ensures.result_value k.ensures.counted k.ensures.within c.in_ok-size.size c.in_ok-size.was in
    record {
      entries_len_bound = (f.entries_short, f.own_short, f.parts);
      entries_bound = omega (arith, own_less r.bytes.now r.entries.now r.text.now f.passed, f.text_size_lem);
    }

pub overflow_sub-content : goal.overflow_sub-content
overflow_sub-content c =
    let a = c.args in
    let r = a.content in
    let x = a.records.now in
    let h = c.check_each in
    within r.bytes.now a.new.now x h.result h.ensures c.in_ok-s.s c.in_ok-s.was

pub returns-in_err-settle : goal.returns-in_err-settle
returns-in_err-settle c =
    let p = err_from_is_err_and c.from_residual-in_err-settle.result c.from_residual-in_err-settle.ensures.1 in
    let a = c.args in
    let r = a.content in
    let x = a.records.now in
    let j = replaced_parts x a.new.now in
    let l = lent_of a.bytes.now a.numbers.now a.texts.now in
    let k = c.check in
    let f = content_fine j r.bytes.now r.entries.now r.text.now l k.result k.ensures.result_value k.ensures.counted k.ensures.within c.in_ok-size.size c.in_ok-size.was in
    let h = c.check_each in
    let g = none_bad r.bytes.now a.new.now x h.result h.ensures c.in_ok-s.s c.in_ok-s.was in
    let s = settled r.bytes.now a.new.now x h.result h.ensures c.in_ok-s.s c.in_ok-s.was _ (length r.entries.now) _ (room_in l) c.capped_add.ensures c.settle.result c.settle.ensures in
    rw (p.1, p.2) (sizes_refused j r.bytes.now r.entries.now r.text.now l f.passed g _ _ 0 refl c.own_size-shared.ensures refl c.settle.result s _ c.in_err-settle.was)

pub write_each-c-requires : goal.write_each-c-requires
write_each-c-requires c =
    let a = c.args in
    let r = a.content in
    let x = a.records.now in
    let j = replaced_parts x a.new.now in
    let l = lent_of a.bytes.now a.numbers.now a.texts.now in
    let k = c.check in
    let f = content_fine j r.bytes.now r.entries.now r.text.now l k.result k.ensures.result_value k.ensures.counted k.ensures.within c.in_ok-size.size c.in_ok-size.was in
    let h = c.check_each in
    let g = none_bad r.bytes.now a.new.now x h.result h.ensures c.in_ok-s.s c.in_ok-s.was in
    let s = settled r.bytes.now a.new.now x h.result h.ensures c.in_ok-s.s c.in_ok-s.was _ (length r.entries.now) _ (room_in l) c.capped_add.ensures c.settle.result c.settle.ensures in
    record { sound = f.whole; records_value = g; fits = has_room j r.bytes.now r.entries.now r.text.now l f.passed g _ _ 0 refl c.own_size-shared.ensures refl c.settle.result s c.in_ok-settle.was }

pub returns : goal.returns
unfolding number over
returns c =
    let a = c.args in
    let r = a.content in
    let x = a.records.now in
    let j = replaced_parts x a.new.now in
    let l = lent_of a.bytes.now a.numbers.now a.texts.now in
    let k = c.check in
    let f = content_fine j r.bytes.now r.entries.now r.text.now l k.result k.ensures.result_value k.ensures.counted k.ensures.within c.in_ok-size.size c.in_ok-size.was in
    let h = c.check_each in
    let g = none_bad r.bytes.now a.new.now x h.result h.ensures c.in_ok-s.s c.in_ok-s.was in
    let s = settled r.bytes.now a.new.now x h.result h.ensures c.in_ok-s.s c.in_ok-s.was _ (length r.entries.now) _ (room_in l) c.capped_add.ensures c.settle.result c.settle.ensures in
    written j r.bytes.now r.entries.now r.text.now l f.passed g _ _ 0 refl c.own_size-shared.ensures refl c.settle.result s c.in_ok-settle.was 0 _ _ _ _ c.write_each-c.result refl c.write_each-c.ensures refl
