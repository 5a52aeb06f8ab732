-- `write_records` writes the whole result. Invariant: `PlanLaws.State`, what is written and what is to come are the result.
use Rattle.writer.specs.Write.{out, blank}
use Rattle.replace.specs.Records.{records_of}
use Rattle.replace.specs.Read.{records_left}
use Rattle.replace.proofs.PlanLaws.{State}
use Rattle.replace.proofs.write_records.Given as goal

abbrev pub invariant-loop-record : goal.invariant-loop-record
invariant-loop-record l =
    State l.content.bytes.now l.content.entries.now l.content.text.now l.new (records_of l.records) (records_left l.record-iterator)
    (blank l.initial.bytes l.initial.numbers l.initial.texts) (out l.bytes l.numbers l.texts l.c) l.c
