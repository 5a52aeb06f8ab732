-- The next character is clean or ends the loop (`clean_read`); at the end there is none.
use Rattle.std.proofs.Common.{arith}
use mathlib.Core.Path.{sym, ap, ◌∙◌}
use Rattle.chars.proofs.CharsLaws.{chars_end}
use Rattle.controls.specs.Controls.{all_clean}
use Rattle.controls.proofs.ControlLaws.{clean_read, clean_printable}
use Rattle.controls.proofs.clean_from.Goals as goal

pub loop-at-preserved-then-is_printable : goal.loop-at-preserved-then-is_printable
loop-at-preserved-then-is_printable c =
    let n = clean_printable c.args.s.now c.loop-at.at c.loop-at-test.true (sym c.is_printable.ensures ∙ c.if-is_printable.true) in
    (omega arith, sym n ∙ c.loop-at.invariant.1)

pub returns-then-not-c : goal.returns-then-not-c
returns-then-not-c c =
    let n = clean_read c.args.s.now c.loop-at.at c.read_char-c.result c.loop-at-test.true c.read_char-c.ensures.value in
    grind (arith, n)

pub loop-at-preserved : goal.loop-at-preserved
loop-at-preserved c =
    let n = clean_read c.args.s.now c.loop-at.at c.read_char-c.result c.loop-at-test.true c.read_char-c.ensures.value in
    grind (arith, n)

pub returns : goal.returns
returns c = sym (ap all_clean (chars_end c.args.s.now c.loop-at.at c.loop-at-test.false)) ∙ c.loop-at.invariant.1
