-- Every byte was asked; that one of them is 0A is that the next 0A is among them (`any_block`).
use mathlib.Core.Path.{ap, ◌∙◌}
use Rattle.std.proofs.Common.{rules}
use Rattle.std.proofs.lemmas.List.{take_all}
use Rattle.newlines.specs.Newlines.{has_break_in}
use Rattle.newlines.proofs.BreakLaws.{any_block}
use Rattle.newlines.proofs.has_break.Goals as goal

pub returns-clause-place : goal.returns-clause-place
returns-clause-place c =
    let l = c.loop-byte in
    l.invariant ∙ ap has_break_in (take_all l.byte-index c.args.block.now (search rules)) ∙ any_block c.args.block.now (search rules)
