-- The promise of `expand_tabs`: each refusal is found in its order, and what is sized and written is the call's edit of the content (`AloneLaws` of `outcomes`).
use Rattle.std.proofs.lemmas.Result.{err_from_is_err_and}
use native.Mathlib.Omega.{arith}
use mathlib.Core.Path.{refl, sym, ◌∙◌}
use Rattle.recording.proofs.CheckLaws.{refused-number, fine_zero}
use Rattle.buffer.specs.Place.{over}
use Rattle.share.proofs.SizeLaws.{own_less}
use Rattle.layout.specs.Layout.{tabs_expanded, number}
use Rattle.layout.specs.Lent.{lent_of}
use Rattle.outcomes.proofs.AloneLaws.{content-refused, content_fine, own_refused, sizes_refused, has_room, written}
use Rattle.tabs.proofs.RecordLaws.{stop_in}
use Rattle.tabs.proofs.write_tabs_expanded.Goals as goal

pub returns-in_err-size : goal.returns-in_err-size
returns-in_err-size c =
    let p = err_from_is_err_and c.from_residual.result c.from_residual.ensures.1 in
    let a = c.args in
    let r = a.content in
    let j = tabs_expanded a.stop in
    let l = lent_of a.bytes.now a.numbers.now a.texts.now in
    let k = c.check in
    rw (p.1, p.2) (content-refused j r.bytes.now r.entries.now r.text.now l k.result k.ensures.result_value _ c.in_err-size.was)

pub returns-in_err-check_stop : goal.returns-in_err-check_stop
returns-in_err-check_stop c =
    let p = err_from_is_err_and c.from_residual-in_err-check_stop.result c.from_residual-in_err-check_stop.ensures.1 in
    let a = c.args in
    let r = a.content in
    let j = tabs_expanded a.stop in
    let l = lent_of a.bytes.now a.numbers.now a.texts.now in
    let k = c.check in
    let f = content_fine j r.bytes.now r.entries.now r.text.now l k.result k.ensures.result_value k.ensures.counted k.ensures.within c.in_ok-size.size c.in_ok-size.was in
    rw (p.1, p.2) (own_refused j r.bytes.now r.entries.now r.text.now l f.passed _ (sym c.check_stop.ensures ∙ refused-number c.check_stop.result _ c.in_err-check_stop.was))

pub own_size-shared-requires : goal.own_size-shared-requires
own_size-shared-requires c =
    let a = c.args in
    let r = a.content in
    let j = tabs_expanded a.stop in
    let l = lent_of a.bytes.now a.numbers.now a.texts.now in
    let k = c.check in
    let f = content_fine j r.bytes.now r.entries.now r.text.now l k.result k.ensures.result_value k.ensures.counted k.ensures.within c.in_ok-size.size c.in_ok-size.was in
    record {
      entries_len_bound = (f.entries_short, f.own_short, f.parts);
      entries_bound = omega (arith, own_less r.bytes.now r.entries.now r.text.now f.passed, f.text_size_lem);
    }

pub settle_expanded-requires : goal.settle_expanded-requires
settle_expanded-requires c =
    let a = c.args in
    let r = a.content in
    let j = tabs_expanded a.stop in
    let l = lent_of a.bytes.now a.numbers.now a.texts.now in
    let k = c.check in
    let f = content_fine j r.bytes.now r.entries.now r.text.now l k.result k.ensures.result_value k.ensures.counted k.ensures.within c.in_ok-size.size c.in_ok-size.was in
    let b = stop_in a.stop (sym c.check_stop.ensures ∙ fine_zero c.check_stop.result tt c.in_ok-check_stop.was) in
    (b.0, b.1, f.whole.short)

pub returns-in_err-settle_expanded : goal.returns-in_err-settle_expanded
returns-in_err-settle_expanded c =
    let p = err_from_is_err_and c.from_residual-in_err-settle_expanded.result c.from_residual-in_err-settle_expanded.ensures.1 in
    let a = c.args in
    let r = a.content in
    let j = tabs_expanded a.stop in
    let l = lent_of a.bytes.now a.numbers.now a.texts.now in
    let k = c.check in
    let f = content_fine j r.bytes.now r.entries.now r.text.now l k.result k.ensures.result_value k.ensures.counted k.ensures.within c.in_ok-size.size c.in_ok-size.was in
    let g = sym c.check_stop.ensures ∙ fine_zero c.check_stop.result tt c.in_ok-check_stop.was in
    let b = stop_in a.stop g in
    rw (p.1, p.2) (sizes_refused j r.bytes.now r.entries.now r.text.now l f.passed g _ _ 0 refl c.own_size-shared.ensures refl c.settle_expanded.result c.settle_expanded.ensures _ c.in_err-settle_expanded.was)

pub put_expanded-c-requires : goal.put_expanded-c-requires
put_expanded-c-requires c =
    let a = c.args in
    let r = a.content in
    let j = tabs_expanded a.stop in
    let l = lent_of a.bytes.now a.numbers.now a.texts.now in
    let k = c.check in
    let f = content_fine j r.bytes.now r.entries.now r.text.now l k.result k.ensures.result_value k.ensures.counted k.ensures.within c.in_ok-size.size c.in_ok-size.was in
    let g = sym c.check_stop.ensures ∙ fine_zero c.check_stop.result tt c.in_ok-check_stop.was in
    let b = stop_in a.stop g in
    record { sound = f.whole; le_stop = b; fits = has_room j r.bytes.now r.entries.now r.text.now l f.passed g _ _ 0 refl c.own_size-shared.ensures refl c.settle_expanded.result c.settle_expanded.ensures c.in_ok-settle_expanded.was }

pub returns : goal.returns
unfolding number over
returns c =
    let a = c.args in
    let r = a.content in
    let j = tabs_expanded a.stop in
    let l = lent_of a.bytes.now a.numbers.now a.texts.now in
    let k = c.check in
    let f = content_fine j r.bytes.now r.entries.now r.text.now l k.result k.ensures.result_value k.ensures.counted k.ensures.within c.in_ok-size.size c.in_ok-size.was in
    let g = sym c.check_stop.ensures ∙ fine_zero c.check_stop.result tt c.in_ok-check_stop.was in
    let b = stop_in a.stop g in
    written j r.bytes.now r.entries.now r.text.now l f.passed g _ _ 0 refl c.own_size-shared.ensures refl c.settle_expanded.result c.settle_expanded.ensures c.in_ok-settle_expanded.was 0 _ _ _ _ c.put_expanded-c.result refl c.put_expanded-c.ensures refl
