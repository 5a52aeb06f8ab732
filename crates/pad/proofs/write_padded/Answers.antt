-- The promise of the padding calls, by side: each refusal is found in its order, and what is counted, sized and written is the call's result (`proofs/Sizes.antt`).
use Rattle.std.proofs.lemmas.Result.{err_from_is_err_and}
use native.Mathlib.Omega.{arith}
use mathlib.Core.Path.{◌≡◌, refl}
use mathlib.Core.List.{List}
use Prim.Native.Nat.{ℕ, ◌+◌, ◌*◌, ◌≤◌}
use native.Mathlib.Nat.{mul-le-mul}
use lib.ListN.{length}
use Rattle.recording.specs.declared.TextSizes.{TextSizes}
use Rattle.recording.specs.declared.Recording as Lent
use Rattle.recording.specs.Recording.{Bytes, Recording}
use Rattle.layout.specs.Layout.{with_second, number}
use Rattle.outcomes.proofs.SecondLaws.{Given, content, second, BothFine, both_refused, both_fine, texts_less, sizes_refused, has_room, written}
use Rattle.pad.specs.declared.Side.{Side}
use Rattle.pad.specs.declared.Side.TheVariants.{Start, End, Centered}
use Rattle.pad.specs.Padding.{kind_of}
use Rattle.pad.proofs.Sizes.{padded_measured}
use Rattle.pad.proofs.write_padded.Goals as goal

-- no padding call returns a number
number_of_refusal : (s : Side) (m : ℕ) (f c : Recording) → number (with_second (kind_of s) m f) c ≡ 0
unfolding kind_of number
number_of_refusal Start m f c = refl
number_of_refusal End m f c = refl
number_of_refusal Centered m f c = refl

-- what the call was given
abbrev given : Side → ℕ → Lent.Recording → Lent.Recording → Bytes → List ℕ → Bytes → Given
given s m r f od oe ot =
    record {
      kind = kind_of s;
      width = m;
      ds = r.bytes.now;
      ns = r.entries.now;
      ts = r.text.now;
      fs = f.bytes.now;
      gs = f.entries.now;
      us = f.text.now;
      od = od;
      oe = oe;
      ot = ot;
    }

-- once the content x and the fill are checked and it is known how often the fill comes (`count`), and on how many sides (`times`): the products are exact
module _ (x : Given) (n : TextSizes) (f : BothFine x n) (count times : ℕ) where
  bytes_fit : count ≤ 4294967295 → length x.ds + count * length x.fs ≤ 4503599627370496
  bytes_fit h = omega (arith, mul-le-mul h f.1.data_short, f.0.data_short)

  entries_fit : times ≤ 2 → length x.ns + times * length x.gs ≤ 49152
  entries_fit h = omega (arith, mul-le-mul h f.1.entries_short, f.0.entries_short)

  texts_fit : times ≤ 2 → n.content + times * n.second ≤ 805306368
  texts_fit h = omega (arith, mul-le-mul h f.1.text_short, f.0.text_short)

pub returns-in_err-sizes : goal.returns-in_err-sizes
returns-in_err-sizes c =
    let a = c.args in
    let p = err_from_is_err_and c.from_residual.result c.from_residual.ensures.1 in
    rw (p.1, p.2)
    (both_refused (given a.side a.min_width a.content a.fill a.bytes.now a.numbers.now a.texts.now) c.check_both.result c.check_both.ensures _ c.in_err-sizes.was)

pub text_size-shared-requires : goal.text_size-shared-requires
text_size-shared-requires c =
    let a = c.args in
    let x = given a.side a.min_width a.content a.fill a.bytes.now a.numbers.now a.texts.now in
    let f = both_fine x c.check_both.result c.check_both.ensures c.in_ok-sizes.sizes c.in_ok-sizes.was in
    record {
      entries_len_bound = (f.0.entries_short, f.0.own_short, f.0.parts);
      second_len_bound = (f.1.entries_short, f.1.own_short, f.1.parts, omega (arith, c.once_if.ensures.1, c.once_if-2.ensures.1));
      n_bound = texts_less x c.in_ok-sizes.sizes (c.once_if.result + c.once_if-2.result) f;
    }

pub overflow_mul-count : goal.overflow_mul-count
overflow_mul-count c =
    let a = c.args in
    let x = given a.side a.min_width a.content a.fill a.bytes.now a.numbers.now a.texts.now in
    let f = both_fine x c.check_both.result c.check_both.ensures c.in_ok-sizes.sizes c.in_ok-sizes.was in
    omega (arith, bytes_fit x c.in_ok-sizes.sizes f c.fill_count-count.result 0 c.fill_count-count.ensures.upper_bound)

pub overflow_add-content : goal.overflow_add-content
overflow_add-content c =
    let a = c.args in
    let x = given a.side a.min_width a.content a.fill a.bytes.now a.numbers.now a.texts.now in
    let f = both_fine x c.check_both.result c.check_both.ensures c.in_ok-sizes.sizes c.in_ok-sizes.was in
    omega (arith, bytes_fit x c.in_ok-sizes.sizes f c.fill_count-count.result 0 c.fill_count-count.ensures.upper_bound)

pub returns-in_err-settle : goal.returns-in_err-settle
returns-in_err-settle c =
    let p = err_from_is_err_and c.from_residual-in_err-settle.result c.from_residual-in_err-settle.ensures.1 in
    let a = c.args in
    let x = given a.side a.min_width a.content a.fill a.bytes.now a.numbers.now a.texts.now in
    let f = both_fine x c.check_both.result c.check_both.ensures c.in_ok-sizes.sizes c.in_ok-sizes.was in
    let l = c.left_count-left in
    let m = padded_measured x c.in_ok-sizes.sizes f c.fill_count-count.result l.result l.ensures.1 (c.once_if.result + c.once_if-2.result)
    (λ i. c.once_if.ensures.0 i + c.once_if-2.ensures.0 i) a.side refl c.fill_count-count.ensures.value l.ensures.0 c.text_size-shared.result c.text_size-shared.ensures in
    rw (p.1, p.2) (sizes_refused x c.in_ok-sizes.sizes f _ _ _ _ _ m c.settle.result c.settle.ensures _ c.in_err-settle.was)

pub put_padded-c-requires : goal.put_padded-c-requires
put_padded-c-requires c =
    let a = c.args in
    let x = given a.side a.min_width a.content a.fill a.bytes.now a.numbers.now a.texts.now in
    let f = both_fine x c.check_both.result c.check_both.ensures c.in_ok-sizes.sizes c.in_ok-sizes.was in
    let l = c.left_count-left in
    let m = padded_measured x c.in_ok-sizes.sizes f c.fill_count-count.result l.result l.ensures.1 (c.once_if.result + c.once_if-2.result)
    (λ i. c.once_if.ensures.0 i + c.once_if-2.ensures.0 i) a.side refl c.fill_count-count.ensures.value l.ensures.0 c.text_size-shared.result c.text_size-shared.ensures in
    record {
      sound = (f.0.whole, f.1.whole);
      fits = has_room x c.in_ok-sizes.sizes f _ _ _ _ _ m c.settle.result c.settle.ensures c.in_ok-settle.was;
    }

pub returns : goal.returns
returns c =
    let a = c.args in
    let x = given a.side a.min_width a.content a.fill a.bytes.now a.numbers.now a.texts.now in
    let f = both_fine x c.check_both.result c.check_both.ensures c.in_ok-sizes.sizes c.in_ok-sizes.was in
    let l = c.left_count-left in
    let m = padded_measured x c.in_ok-sizes.sizes f c.fill_count-count.result l.result l.ensures.1 (c.once_if.result + c.once_if-2.result)
    (λ i. c.once_if.ensures.0 i + c.once_if-2.ensures.0 i) a.side refl c.fill_count-count.ensures.value l.ensures.0 c.text_size-shared.result c.text_size-shared.ensures in
    written x c.in_ok-sizes.sizes f _ _ _ _ _ m c.settle.result c.settle.ensures c.in_ok-settle.was
    0 _ _ _ c.put_padded-c.result (number_of_refusal a.side x.width (second x) (content x)) c.put_padded-c.ensures
