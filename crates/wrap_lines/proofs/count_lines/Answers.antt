-- All lines are still to come at the start.
use Rattle.wrap_lines.proofs.WrapLaws as laws
use Rattle.wrap_lines.proofs.count_lines.Goals as goal

pub loop-next-init : goal.loop-next-init
loop-next-init c = laws.count_start _ _ _
