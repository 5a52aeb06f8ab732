-- An entry that is no raw sequence stays (`kept_told`), a raw sequence goes if the label is open (`dropped_told`).
use borrow.Author.Tests.{ne_eqb}
use Rattle.open_label.proofs.OpenLaws.{kept_told, dropped_told}
use Rattle.open_label.proofs.drops.Goals as goal

pub returns-then-e-eq2 : goal.returns-then-e-eq2
returns-then-e-eq2 c = dropped_told c.args.e c.args.o c.requires c.if-e-eq2.true

pub returns-else-e-eq2 : goal.returns-else-e-eq2
returns-else-e-eq2 c = rw (ne_eqb _ _ c.if-e-eq2.false) (kept_told c.args.e c.args.o c.requires c.if-e-eq2.false)
