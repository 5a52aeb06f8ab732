-- The promise of `indent`: each refusal is found in its order, and what is counted, sized and written is the call's result (`proofs/Sizes.antt`).
use Rattle.std.proofs.lemmas.Result.{err_from_is_err_and}
use native.Mathlib.Omega.{arith}
use native.Mathlib.Nat.{mul-le-mul}
use mathlib.Core.Path.{◌≡◌, refl}
use mathlib.Core.List.{List}
use Prim.Native.Nat.{ℕ, ◌+◌, ◌*◌, ◌≤◌}
use lib.ListN.{length}
use Rattle.recording.specs.declared.TextSizes.{TextSizes}
use Rattle.recording.specs.declared.Recording as Lent
use Rattle.recording.specs.Recording.{Bytes, Recording}
use Rattle.layout.specs.Layout.{indent, number, indented_lines}
use Rattle.outcomes.proofs.SecondLaws.{Given, content, second, BothFine, both_refused, both_fine, texts_less, sizes_refused, has_room, written}
use Rattle.indent.proofs.Sizes.{indented_measured}
use Rattle.indent.proofs.write_indented.Goals as goal

-- the call returns no number
number_of_refusal : (p c : Recording) → number (indent p) c ≡ 0
unfolding number
number_of_refusal p c = refl

-- what the call was given
abbrev given : Lent.Recording → Lent.Recording → Bytes → List ℕ → Bytes → Given
given r f od oe ot =
    record {
      kind = indented_lines;
      width = 0;
      ds = r.bytes.now;
      ns = r.entries.now;
      ts = r.text.now;
      fs = f.bytes.now;
      gs = f.entries.now;
      us = f.text.now;
      od = od;
      oe = oe;
      ot = ot;
    }

-- once the content x and the prefix are checked and the lines are counted: there are no more than bytes, so the products are exact
module _ (x : Given) (n : TextSizes) (f : BothFine x n) (count : ℕ) (within : count ≤ length x.ds) where
  few : count ≤ 1048576
  few = omega (arith, within, f.0.data_short)

  bytes_fit : length x.ds + count * length x.fs ≤ 1099512676352
  bytes_fit = omega (arith, mul-le-mul few f.1.data_short, f.0.data_short)

  entries_fit : length x.ns + count * length x.gs ≤ 17179885568
  entries_fit = omega (arith, mul-le-mul few f.1.entries_short, f.0.entries_short)

  texts_fit : n.content + count * n.second ≤ 281475245146112
  texts_fit = omega (arith, mul-le-mul few f.1.text_short, f.0.text_short)

pub returns-in_err-sizes : goal.returns-in_err-sizes
returns-in_err-sizes c =
    let a = c.args in
    let p = err_from_is_err_and c.from_residual.result c.from_residual.ensures.1 in
    rw (p.1, p.2)
    (both_refused (given a.content a.prefix a.bytes.now a.numbers.now a.texts.now) c.check_both.result c.check_both.ensures _ c.in_err-sizes.was)

pub overflow_mul-count : goal.overflow_mul-count
overflow_mul-count c =
    let a = c.args in
    let x = given a.content a.prefix a.bytes.now a.numbers.now a.texts.now in
    let n = c.in_ok-sizes.sizes in
    let f = both_fine x c.check_both.result c.check_both.ensures n c.in_ok-sizes.was in
    let l = c.filled_lines-count in
    omega (arith, texts_fit x n f l.result l.ensures.1)

pub overflow_add-sizes : goal.overflow_add-sizes
overflow_add-sizes c =
    let a = c.args in
    let x = given a.content a.prefix a.bytes.now a.numbers.now a.texts.now in
    let n = c.in_ok-sizes.sizes in
    let f = both_fine x c.check_both.result c.check_both.ensures n c.in_ok-sizes.was in
    let l = c.filled_lines-count in
    omega (arith, texts_fit x n f l.result l.ensures.1)

pub text_size-shared-requires : goal.text_size-shared-requires
text_size-shared-requires c =
    let a = c.args in
    let x = given a.content a.prefix a.bytes.now a.numbers.now a.texts.now in
    let n = c.in_ok-sizes.sizes in
    let f = both_fine x c.check_both.result c.check_both.ensures n c.in_ok-sizes.was in
    let l = c.filled_lines-count in
    record {
      entries_len_bound = (f.0.entries_short, f.0.own_short, f.0.parts);
      second_len_bound = (f.1.entries_short, f.1.own_short, f.1.parts, few x n f l.result l.ensures.1);
      n_bound = texts_less x n l.result f;
    }

pub overflow_mul-count-2 : goal.overflow_mul-count-2
overflow_mul-count-2 c =
    let a = c.args in
    let x = given a.content a.prefix a.bytes.now a.numbers.now a.texts.now in
    let n = c.in_ok-sizes.sizes in
    let f = both_fine x c.check_both.result c.check_both.ensures n c.in_ok-sizes.was in
    let l = c.filled_lines-count in
    omega (arith, bytes_fit x n f l.result l.ensures.1)

pub overflow_add-content : goal.overflow_add-content
overflow_add-content c =
    let a = c.args in
    let x = given a.content a.prefix a.bytes.now a.numbers.now a.texts.now in
    let n = c.in_ok-sizes.sizes in
    let f = both_fine x c.check_both.result c.check_both.ensures n c.in_ok-sizes.was in
    let l = c.filled_lines-count in
    omega (arith, bytes_fit x n f l.result l.ensures.1)

pub overflow_mul-count-3 : goal.overflow_mul-count-3
overflow_mul-count-3 c =
    let a = c.args in
    let x = given a.content a.prefix a.bytes.now a.numbers.now a.texts.now in
    let n = c.in_ok-sizes.sizes in
    let f = both_fine x c.check_both.result c.check_both.ensures n c.in_ok-sizes.was in
    let l = c.filled_lines-count in
    omega (arith, entries_fit x n f l.result l.ensures.1)

pub overflow_add-content-2 : goal.overflow_add-content-2
overflow_add-content-2 c =
    let a = c.args in
    let x = given a.content a.prefix a.bytes.now a.numbers.now a.texts.now in
    let n = c.in_ok-sizes.sizes in
    let f = both_fine x c.check_both.result c.check_both.ensures n c.in_ok-sizes.was in
    let l = c.filled_lines-count in
    omega (arith, entries_fit x n f l.result l.ensures.1)

pub returns-in_err-settle : goal.returns-in_err-settle
returns-in_err-settle c =
    let p = err_from_is_err_and c.from_residual-in_err-settle.result c.from_residual-in_err-settle.ensures.1 in
    let a = c.args in
    let x = given a.content a.prefix a.bytes.now a.numbers.now a.texts.now in
    let n = c.in_ok-sizes.sizes in
    let f = both_fine x c.check_both.result c.check_both.ensures n c.in_ok-sizes.was in
    let l = c.filled_lines-count in
    let m = indented_measured x n f l.result l.ensures.0 refl c.text_size-shared.result c.text_size-shared.ensures in
    rw (p.1, p.2) (sizes_refused x n f _ _ _ _ _ m c.settle.result c.settle.ensures _ c.in_err-settle.was)

pub put_indented-c-requires : goal.put_indented-c-requires
put_indented-c-requires c =
    let a = c.args in
    let x = given a.content a.prefix a.bytes.now a.numbers.now a.texts.now in
    let n = c.in_ok-sizes.sizes in
    let f = both_fine x c.check_both.result c.check_both.ensures n c.in_ok-sizes.was in
    let l = c.filled_lines-count in
    let m = indented_measured x n f l.result l.ensures.0 refl c.text_size-shared.result c.text_size-shared.ensures in
    record {
      sound = (f.0.whole, f.1.whole);
      fits = has_room x n f _ _ _ _ _ m c.settle.result c.settle.ensures c.in_ok-settle.was;
    }

pub returns : goal.returns
returns c =
    let a = c.args in
    let x = given a.content a.prefix a.bytes.now a.numbers.now a.texts.now in
    let n = c.in_ok-sizes.sizes in
    let f = both_fine x c.check_both.result c.check_both.ensures n c.in_ok-sizes.was in
    let l = c.filled_lines-count in
    let m = indented_measured x n f l.result l.ensures.0 refl c.text_size-shared.result c.text_size-shared.ensures in
    written x n f _ _ _ _ _ m c.settle.result c.settle.ensures c.in_ok-settle.was 0 _ _ _ c.put_indented-c.result (number_of_refusal (second x) (content x)) c.put_indented-c.ensures
