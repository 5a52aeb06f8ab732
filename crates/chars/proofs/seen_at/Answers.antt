-- A printable ASCII byte is a character of one byte and width 1 (`plain`).
use mathlib.Core.Path.{sym, ◌∙◌}
use Rattle.chars.proofs.RangeLaws.{bounds}
use Rattle.chars.proofs.FoldLaws.{plain}
use Rattle.chars.proofs.seen_at.Goals as goal

pub returns-then-inside-clause-len_value : goal.returns-then-inside-clause-len_value
returns-then-inside-clause-len_value c =
    let b = bounds 0x20 0x7E _ (sym c.inside.ensures ∙ c.if-inside.true) in
    let p = plain c.args.s.now c.args.at b.0 b.1 in
    (sym p.0, sym p.1)
