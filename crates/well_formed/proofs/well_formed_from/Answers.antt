-- The next character is well-formed or ends the loop (`ok_next`); at the end there is none.
use Rattle.std.proofs.Common.{◌<◌, true, sym, ap, arith, get_or}
use mathlib.Core.Path.{◌∙◌}
use Rattle.chars.specs.Chars.{all_ok}
use Rattle.chars.specs.declared.Read.{Read}
use Rattle.chars.proofs.CharsLaws.{chars_end}
use Rattle.chars.proofs.FoldLaws.{ascii_len, ascii_ok, ok_next}
use Rattle.well_formed.proofs.well_formed_from.Goals as goal

pub loop-at-preserved-then-is_ascii : goal.loop-at-preserved-then-is_ascii
loop-at-preserved-then-is_ascii c =
    let s = c.args.s.now in
    let at = c.loop-at.at in
    let ascii : get_or s at 0 < 128 = grind arith in
    let n = ok_next s at 1 c.loop-at-test.true (sym (ascii_len s at ascii)) true (ascii_ok s at ascii) in
    (omega arith, sym n ∙ c.loop-at.invariant.1)

pub returns-then-not-c : goal.returns-then-not-c
returns-then-not-c c =
    let e = c.read_char-c.ensures.value in
    let n = ok_next c.args.s.now c.loop-at.at _ c.loop-at-test.true (ap (λ (r : Read). r.len) e) c.read_char-c.result.ok (sym (ap (λ (r : Read). r.ok) e)) in
    grind (arith, n)

pub loop-at-preserved : goal.loop-at-preserved
loop-at-preserved c =
    let e = c.read_char-c.ensures.value in
    let n = ok_next c.args.s.now c.loop-at.at _ c.loop-at-test.true (ap (λ (r : Read). r.len) e) c.read_char-c.result.ok (sym (ap (λ (r : Read). r.ok) e)) in
    grind (arith, n)

pub returns : goal.returns
returns c = sym (ap all_ok (chars_end c.args.s.now c.loop-at.at c.loop-at-test.false)) ∙ c.loop-at.invariant.1
