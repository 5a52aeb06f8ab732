-- What is handed back is the ending without its leading zero-width characters, so its length says where it begins.
use native.Mathlib.Omega.{arith}
use borrow.Author.Rules.{part_to_end}
use mathlib.Core.Path.{ap, ◌∙◌}
use lib.ListN.{length, drop, length-drop}
use Rattle.chars.specs.Cut.{zero_width_len_of}
use Rattle.truncate_plan.proofs.MeasureLaws.{zero_width_within}
use Rattle.truncate_plan.proofs.trimmed_from.Goals as goal

pub returns-clause-value : goal.returns-clause-value
returns-clause-value c =
    let s = c.args.s.now in
    let d = drop c.args.start s in
    let rest = rw (part_to_end s c.args.start) at c.trim_start_zero_width_chars.ensures in
    omega (arith, ap length rest ∙ length-drop (zero_width_len_of d) d, length-drop c.args.start s, zero_width_within d)
