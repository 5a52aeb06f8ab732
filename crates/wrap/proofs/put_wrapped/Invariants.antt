-- Each turn lists one line and writes it with a 0A, the last one with the entries behind it (`State`, `step`, `finish`; `Written`, `next`, `last`).
use Rattle.wrap_lines.proofs.WrapLaws as lists
use Rattle.wrap.proofs.PlanLaws as laws
use Rattle.writer.specs.Write.{out, blank}
use lib.ListN.{length}
use Prim.Native.Nat.{◌-◌}
use Rattle.wrap.proofs.put_wrapped.Given as goal

abbrev pub invariant-loop-next : goal.invariant-loop-next
invariant-loop-next l = laws.State l.content.bytes.now l.content.entries.now l.content.text.now l.width l.break_words (blank l.initial.bytes l.initial.numbers l.initial.texts) (out l.bytes l.numbers l.texts l.c) l.c l.at × lists.Written l.width l.break_words l.content.bytes.now l.initial.lines l.lines l.k l.at

abbrev pub decreases-loop-next : goal.decreases-loop-next
decreases-loop-next l = length l.content.bytes.now - l.at
