-- Before each record: what is written and what is to come are the result (`State` of `replace`).
use lib.ListN.{drop}
use Rattle.writer.specs.Write.{out, blank}
use Rattle.replace.proofs.PlanLaws.{State}
use Rattle.replace_records.proofs.write_each.Given as goal

abbrev pub invariant-loop-x : goal.invariant-loop-x
invariant-loop-x l =
    State l.content.bytes.now l.content.entries.now l.content.text.now l.new l.records (drop l.x-index l.records)
    (blank l.initial.bytes l.initial.numbers l.initial.texts) (out l.bytes l.numbers l.texts l.c) l.c
