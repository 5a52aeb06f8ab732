-- As many bytes as the run has, or as it has stars.
use mathlib.Core.Path.{sym}
use Rattle.readers.proofs.FloorLaws.{length-copied, length-starred}
use Rattle.readers.proofs.run_len.Goals as goal

pub returns-then-run : goal.returns-then-run
returns-then-run c = sym (length-copied c.args.content.now c.args.at c.args.run c.if-run.true c.requires.1)

pub returns-else-run : goal.returns-else-run
returns-else-run c = sym (length-starred c.args.content.now c.args.at c.args.run c.if-run.false)
