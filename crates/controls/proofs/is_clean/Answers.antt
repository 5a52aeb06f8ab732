-- Printable ASCII is clean, so the characters from the place on decide (`clean_run`); at the end there are none.
use Rattle.std.proofs.Common.{arith}
use mathlib.Core.Path.{◌∙◌}
use Rattle.chars.proofs.CharsLaws.{chars_end}
use Rattle.controls.proofs.ControlLaws.{clean_run}
use Rattle.controls.proofs.is_clean.Goals as goal

pub returns-then-at-s : goal.returns-then-at-s
returns-then-at-s c =
    let n = clean_run _ c.args.s.now c.printable_len-at.ensures.upper_bound c.printable_len-at.ensures.printable in
    grind (arith, n, chars_end c.args.s.now c.printable_len-at.result)

pub returns-else-at-s : goal.returns-else-at-s
returns-else-at-s c = c.clean_from.ensures ∙ clean_run _ c.args.s.now c.printable_len-at.ensures.upper_bound c.printable_len-at.ensures.printable
