-- The promise of `wrap`: each refusal is found in its order, and what is sized and written is the call's edit of the content, with its lines (`AloneLaws` of `outcomes`).
-- The call's own part: the settled size of the data is that of the lines joined by 0A (`data_size`), and settled sizes have room for the lines (`within`).
use Rattle.std.proofs.lemmas.Result.{err_from_is_err_and}
use native.Mathlib.Omega.{arith}
use mathlib.Core.Path.{refl, sym, ap, ◌∙◌}
use mathlib.Core.List.{List}
use Prim.Native.Nat.{ℕ}
use Rattle.recording.specs.Outcome.{Lent}
use Rattle.share.proofs.SizeLaws.{own_less}
use Rattle.recording.specs.Check.{fault_of}
use Rattle.layout.specs.Layout.{Single, wrapped_lines, number, result_items}
use Rattle.layout.specs.Lent.{lent_lined}
use Rattle.outcomes.proofs.SecondLaws.{Fine}
use Rattle.outcomes.proofs.AloneLaws.{content-refused, content_fine, sizes_refused, has_room, written}
use Rattle.wrap.proofs.SizeLaws.{data_size}
use Rattle.writer.proofs.Sizes.{within}
use Rattle.wrap.proofs.write_wrapped.Goals as goal

pub returns-in_err-size : goal.returns-in_err-size
returns-in_err-size c =
    let call : Single = wrapped_lines c.args.width c.args.break_words in
    let ds : List ℕ = c.args.content.bytes.now in
    let ns : List ℕ = c.args.content.entries.now in
    let ts : List ℕ = c.args.content.text.now in
    let lent : Lent = lent_lined c.args.bytes.now c.args.numbers.now c.args.texts.now c.args.lines.now in
    let p = err_from_is_err_and c.from_residual.result c.from_residual.ensures.1 in
    rw (p.1, p.2) (content-refused call ds ns ts lent c.check.result c.check.ensures.result_value c.in_err-size.field-0.0 c.in_err-size.was)

pub own_size-shared-requires : goal.own_size-shared-requires
own_size-shared-requires c =
    let call : Single = wrapped_lines c.args.width c.args.break_words in
    let ds : List ℕ = c.args.content.bytes.now in
    let ns : List ℕ = c.args.content.entries.now in
    let ts : List ℕ = c.args.content.text.now in
    let lent : Lent = lent_lined c.args.bytes.now c.args.numbers.now c.args.texts.now c.args.lines.now in
    let size : ℕ = c.in_ok-size.size in
    let fine : Fine ds ns ts size = let k = c.check in
    content_fine call ds ns ts lent k.result k.ensures.result_value k.ensures.counted k.ensures.within size c.in_ok-size.was in
    let f = fine in
    record {
      entries_len_bound = (f.entries_short, f.own_short, f.parts);
      entries_bound = omega (arith, own_less ds ns ts f.passed, f.text_size_lem);
    }

pub settle_wrapped-requires : goal.settle_wrapped-requires
settle_wrapped-requires c =
    let call : Single = wrapped_lines c.args.width c.args.break_words in
    let ds : List ℕ = c.args.content.bytes.now in
    let ns : List ℕ = c.args.content.entries.now in
    let ts : List ℕ = c.args.content.text.now in
    let lent : Lent = lent_lined c.args.bytes.now c.args.numbers.now c.args.texts.now c.args.lines.now in
    let size : ℕ = c.in_ok-size.size in
    let fine : Fine ds ns ts size = let k = c.check in
    content_fine call ds ns ts lent k.result k.ensures.result_value k.ensures.counted k.ensures.within size c.in_ok-size.was in
    fine.data_short

pub returns-in_err-settle_wrapped : goal.returns-in_err-settle_wrapped
returns-in_err-settle_wrapped c =
    let call : Single = wrapped_lines c.args.width c.args.break_words in
    let ds : List ℕ = c.args.content.bytes.now in
    let ns : List ℕ = c.args.content.entries.now in
    let ts : List ℕ = c.args.content.text.now in
    let lent : Lent = lent_lined c.args.bytes.now c.args.numbers.now c.args.texts.now c.args.lines.now in
    let size : ℕ = c.in_ok-size.size in
    let fine : Fine ds ns ts size = let k = c.check in
    content_fine call ds ns ts lent k.result k.ensures.result_value k.ensures.counted k.ensures.within size c.in_ok-size.was in
    let p = err_from_is_err_and c.from_residual-in_err-settle_wrapped.result c.from_residual-in_err-settle_wrapped.ensures.1 in
    rw (p.1, p.2) (sizes_refused call ds ns ts lent fine.passed refl _ _ _ (data_size _ _ _) c.own_size-shared.ensures refl
    c.settle_wrapped.result c.settle_wrapped.ensures
    c.in_err-settle_wrapped.field-0.0 c.in_err-settle_wrapped.was)

pub put_wrapped-w-requires : goal.put_wrapped-w-requires
unfolding result_items
put_wrapped-w-requires c =
    let call : Single = wrapped_lines c.args.width c.args.break_words in
    let ds : List ℕ = c.args.content.bytes.now in
    let ns : List ℕ = c.args.content.entries.now in
    let ts : List ℕ = c.args.content.text.now in
    let lent : Lent = lent_lined c.args.bytes.now c.args.numbers.now c.args.texts.now c.args.lines.now in
    let size : ℕ = c.in_ok-size.size in
    let fine : Fine ds ns ts size = let k = c.check in
    content_fine call ds ns ts lent k.result k.ensures.result_value k.ensures.counted k.ensures.within size c.in_ok-size.was in
    let q = c.in_ok-settle_wrapped.was in
    let room = has_room call ds ns ts lent fine.passed refl _ _ _ (data_size _ _ _) c.own_size-shared.ensures refl
    c.settle_wrapped.result c.settle_wrapped.ensures q in
    record {
      sound = fine.whole;
      fits = room;
      content_in_bounds = (within _ _ _ _ _ (sym c.settle_wrapped.ensures ∙ ap fault_of q)).line_room_lem;
    }

pub returns : goal.returns
unfolding number result_items
returns c =
    let call : Single = wrapped_lines c.args.width c.args.break_words in
    let ds : List ℕ = c.args.content.bytes.now in
    let ns : List ℕ = c.args.content.entries.now in
    let ts : List ℕ = c.args.content.text.now in
    let lent : Lent = lent_lined c.args.bytes.now c.args.numbers.now c.args.texts.now c.args.lines.now in
    let size : ℕ = c.in_ok-size.size in
    let fine : Fine ds ns ts size = let k = c.check in
    content_fine call ds ns ts lent k.result k.ensures.result_value k.ensures.counted k.ensures.within size c.in_ok-size.was in
    let w = c.put_wrapped-w in
    written call ds ns ts lent fine.passed refl _ _ _ (data_size _ _ _) c.own_size-shared.ensures refl c.settle_wrapped.result
    c.settle_wrapped.ensures c.in_ok-settle_wrapped.was
    w.result.count _ _ _ _ w.result.cursor (sym w.ensures.lines_after.1) w.ensures.cursor_after w.ensures.lines_after.0
