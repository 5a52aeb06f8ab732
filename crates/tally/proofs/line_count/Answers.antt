-- As many as 0A, and one more if the last line lacks it, as it does where there are no bytes.
use native.Mathlib.Omega.{arith}
use mathlib.Core.Path.{sym, ◌∙◌}
use Rattle.tally.proofs.CountLaws.{all_ended, last_open}
use Rattle.tally.proofs.line_count.Goals as goal

pub returns-then-ends_with : goal.returns-then-ends_with
returns-then-ends_with c = c.count_newlines-n.ensures.0 ∙ all_ended c.args.input.now (sym c.if-ends_with.ensures.value)

pub returns-else-ends_with : goal.returns-else-ends_with
returns-else-ends_with c = omega (arith, c.count_newlines-n.ensures.0, last_open c.args.input.now (sym c.if-ends_with.ensures.value))
