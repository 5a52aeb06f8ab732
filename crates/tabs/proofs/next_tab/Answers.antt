-- A character that is no tab changes nothing (`onward_then`); the loop stops at a 09 or at the end.
use Rattle.tabs.proofs.RecordLaws.{onward_then}
use Rattle.tabs.proofs.next_tab.Goals as goal

pub loop-p-preserved : goal.loop-p-preserved
loop-p-preserved c = onward_then c.args.s.now c.args.from.at c.args.from.column c.loop-p.p c.pass-p.result c.loop-p.invariant c.pass-p.ensures.onward
