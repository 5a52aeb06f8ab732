-- Invariant: what is written, and what the tabs from here on make of the rest of the content, are the result (`State` of replace's laws).
use Prim.Native.Nat.{◌-◌}
use lib.ListN.{length}
use Rattle.layout.specs.Tabs.{spaces}
use Rattle.writer.specs.Write.{out, blank}
use Rattle.replace.proofs.PlanLaws.{State}
use Rattle.tabs.specs.Tabs.{tabs_from, place}
use Rattle.tabs.proofs.RecordLaws.{AtTab}
use Rattle.tabs.proofs.put_expanded.Given as goal

abbrev pub invariant-loop-p : goal.invariant-loop-p
invariant-loop-p l =
    AtTab l.content.bytes.now l.p
    × State l.content.bytes.now l.content.entries.now l.content.text.now (spaces 64) (tabs_from l.stop l.content.bytes.now (place 0 0)) (tabs_from l.stop l.content.bytes.now l.p)
    (blank l.initial.bytes l.initial.numbers l.initial.texts) (out l.bytes l.numbers l.texts l.c) l.c

abbrev pub decreases-loop-p : goal.decreases-loop-p
decreases-loop-p l = length l.content.bytes.now - l.p.at
