-- The promise of `unindent`: each refusal is found in its order, and what is sized and written is the call's result (`proofs/Sizes.antt`).
use Rattle.std.proofs.lemmas.Result.{err_from_is_err_and}
use mathlib.Core.Path.{◌≡◌, refl, sym, ◌∙◌}
use mathlib.Core.List.{List}
use Prim.Native.Nat.{ℕ}
use Rattle.recording.specs.declared.Refusal.TheVariants.{PrefixNewline}
use Rattle.recording.specs.declared.Recording as Lent
use Rattle.recording.specs.Recording.{Bytes, Recording}
use Rattle.recording.proofs.CheckLaws.{refused-number, fine_zero, fine_count}
use Rattle.layout.specs.Layout.{unindent, number, unindented_lines}
use Rattle.outcomes.proofs.SecondLaws.{Given, content, second, both_refused, both_fine, own_refused, sizes_refused, has_room, written}
use Rattle.share.proofs.SizeLaws.{own_less}
use Rattle.unindent.proofs.Sizes.{newline_refused, unindented_measured}
use Rattle.unindent.proofs.write_unindented.Goals as goal

-- the call returns no number
number_of_refusal : (p c : Recording) → number (unindent p) c ≡ 0
unfolding number
number_of_refusal p c = refl

-- what the call was given
abbrev given : Lent.Recording → Lent.Recording → Bytes → List ℕ → Bytes → Given
given r f od oe ot =
    record {
      kind = unindented_lines;
      width = 0;
      ds = r.bytes.now;
      ns = r.entries.now;
      ts = r.text.now;
      fs = f.bytes.now;
      gs = f.entries.now;
      us = f.text.now;
      od = od;
      oe = oe;
      ot = ot;
    }

pub returns-in_err-sizes : goal.returns-in_err-sizes
returns-in_err-sizes c =
    let a = c.args in
    let p = err_from_is_err_and c.from_residual.result c.from_residual.ensures.1 in
    rw (p.1, p.2)
    (both_refused (given a.content a.prefix a.bytes.now a.numbers.now a.texts.now) c.check_both.result c.check_both.ensures _ c.in_err-sizes.was)

pub returns-then-has_newline : goal.returns-then-has_newline
returns-then-has_newline c =
    let a = c.args in
    let x = given a.content a.prefix a.bytes.now a.numbers.now a.texts.now in
    let n = c.in_ok-sizes.sizes in
    let f = both_fine x c.check_both.result c.check_both.ensures n c.in_ok-sizes.was in
    own_refused x n f PrefixNewline (newline_refused x.fs x.ds (sym c.has_newline.ensures ∙ c.if-has_newline.true))

pub left_len-requires : goal.left_len-requires
left_len-requires c =
    let a = c.args in
    let x = given a.content a.prefix a.bytes.now a.numbers.now a.texts.now in
    let n = c.in_ok-sizes.sizes in
    let f = both_fine x c.check_both.result c.check_both.ensures n c.in_ok-sizes.was in
    (f.0.data_short, sym c.has_newline.ensures ∙ c.if-has_newline.false)

pub returns-in_err-size : goal.returns-in_err-size
returns-in_err-size c =
    let p = err_from_is_err_and c.from_residual-in_err-size.result c.from_residual-in_err-size.ensures.1 in
    let a = c.args in
    let x = given a.content a.prefix a.bytes.now a.numbers.now a.texts.now in
    let n = c.in_ok-sizes.sizes in
    let f = both_fine x c.check_both.result c.check_both.ensures n c.in_ok-sizes.was in
    let r = c.left_len in
    rw (p.1, p.2) (own_refused x n f _ (sym r.ensures.result_value ∙ refused-number r.result _ c.in_err-size.was))

pub own_size-shared-requires : goal.own_size-shared-requires
own_size-shared-requires c =
    let a = c.args in
    let x = given a.content a.prefix a.bytes.now a.numbers.now a.texts.now in
    let n = c.in_ok-sizes.sizes in
    let f = both_fine x c.check_both.result c.check_both.ensures n c.in_ok-sizes.was in
    record {
      entries_len_bound = (f.0.entries_short, f.0.own_short, f.0.parts);
      entries_bound = rw f.0.text_size_lem (own_less x.ds x.ns x.ts f.0.passed);
    }

pub returns-in_err-settle : goal.returns-in_err-settle
returns-in_err-settle c =
    let p = err_from_is_err_and c.from_residual-in_err-settle.result c.from_residual-in_err-settle.ensures.1 in
    let a = c.args in
    let x = given a.content a.prefix a.bytes.now a.numbers.now a.texts.now in
    let n = c.in_ok-sizes.sizes in
    let f = both_fine x c.check_both.result c.check_both.ensures n c.in_ok-sizes.was in
    let r = c.left_len in
    let k = c.in_ok-size.size in
    let z = sym r.ensures.result_value ∙ fine_zero r.result k c.in_ok-size.was in
    let m = unindented_measured x n f k refl z (fine_count r.result k _ c.in_ok-size.was r.ensures.counted) c.own_size-shared.result c.own_size-shared.ensures in
    rw (p.1, p.2) (sizes_refused x n f _ _ _ _ _ m c.settle.result c.settle.ensures _ c.in_err-settle.was)

pub put_unindented-c-requires : goal.put_unindented-c-requires
put_unindented-c-requires c =
    let a = c.args in
    let x = given a.content a.prefix a.bytes.now a.numbers.now a.texts.now in
    let n = c.in_ok-sizes.sizes in
    let f = both_fine x c.check_both.result c.check_both.ensures n c.in_ok-sizes.was in
    let r = c.left_len in
    let k = c.in_ok-size.size in
    let z = sym r.ensures.result_value ∙ fine_zero r.result k c.in_ok-size.was in
    let m = unindented_measured x n f k refl z (fine_count r.result k _ c.in_ok-size.was r.ensures.counted) c.own_size-shared.result c.own_size-shared.ensures in
    record {
      sound = (f.0.whole, z);
      fits = has_room x n f _ _ _ _ _ m c.settle.result c.settle.ensures c.in_ok-settle.was;
    }

pub returns : goal.returns
returns c =
    let a = c.args in
    let x = given a.content a.prefix a.bytes.now a.numbers.now a.texts.now in
    let n = c.in_ok-sizes.sizes in
    let f = both_fine x c.check_both.result c.check_both.ensures n c.in_ok-sizes.was in
    let r = c.left_len in
    let k = c.in_ok-size.size in
    let z = sym r.ensures.result_value ∙ fine_zero r.result k c.in_ok-size.was in
    let m = unindented_measured x n f k refl z (fine_count r.result k _ c.in_ok-size.was r.ensures.counted) c.own_size-shared.result c.own_size-shared.ensures in
    written x n f _ _ _ _ _ m c.settle.result c.settle.ensures c.in_ok-settle.was 0 _ _ _ c.put_unindented-c.result (number_of_refusal (second x) (content x)) c.put_unindented-c.ensures
