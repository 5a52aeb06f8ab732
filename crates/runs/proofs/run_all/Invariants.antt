-- All calls lead where the definition leads. Invariant: `RunLaws.Running`, what is left of the list leads there from the state as it stands.
use Rattle.call_lists.proofs.RunLaws.{Running, Same}
use Rattle.call_lists.specs.Runs.{state}
use Rattle.layout.specs.Lent.{lent_of}
use mathlib.Core.List.{[]}
use Rattle.runs.proofs.run_all.Given as goal

abbrev pub invariant-loop-k : goal.invariant-loop-k
invariant-loop-k l = Running l.pool l.pool_numbers l.calls (state l.initial.held (lent_of l.initial.bytes l.initial.numbers l.initial.texts) (lent_of l.initial.other_bytes l.initial.other_numbers l.initial.other_texts) l.initial.lines []) l.initial.answers
    l.held l.k (lent_of l.bytes l.numbers l.texts) (lent_of l.other_bytes l.other_numbers l.other_texts) l.lines l.answers
    × Same l.initial.bytes l.initial.numbers l.initial.texts l.initial.other_bytes l.initial.other_numbers l.initial.other_texts l.initial.lines l.bytes l.numbers l.texts l.other_bytes l.other_numbers l.other_texts l.lines
