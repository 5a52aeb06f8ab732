-- Each test that fails says that the list is another; where all hold it is the index (`AskLaws`).
use native.Mathlib.Omega.{arith}
use Prim.Native.Nat.{ℕ, ◌-◌}
use mathlib.Core.Bool.{false≢true}
use mathlib.Core.Path.{sym, ap, ◌∙◌}
use mathlib.Core.List.{List}
use lib.ListN.{length, take, drop, length-drop}
use borrow.Author.Tests.{ne_eqb}
use Rattle.newlines.specs.Newlines.{newlines}
use Rattle.line_index.specs.Code.{stand_behind_in}
use lib.Dec.{eqb}
use Rattle.std.proofs.lemmas.List.{take_rest}
use Rattle.line_index.proofs.AskLaws.{ask_none, ask_first, ask_behind, ask_count}
use Rattle.line_index.proofs.is_index.Goals as goal
use Rattle.line_index.proofs.is_index.Goals.{then-first-eq0, else-first-eq0}

pub returns-in-empty : goal.returns-in-empty
returns-in-empty c = ask_none c.args.s.now c.args.index.now (omega arith)

pub returns-then-stand_behind : goal.returns-then-stand_behind
returns-then-stand_behind c =
    let s = c.args.s.now in
    let ix = c.args.index.now in
    elim c.if-first-eq0.branch [
      | then-first-eq0 w ↦
          ap (λ (n : ℕ). eqb n (length (take (length ix - 1) (drop 1 ix)))) c.count_newlines.ensures.0 ∙ ap (λ (n : ℕ). eqb (newlines s) n) (ap length (take_rest ix 1) ∙ length-drop 1 ix)
          ∙ ask_count s ix (omega arith) w.if-first-eq0.true (ap (λ (l : List ℕ). stand_behind_in s 0 l) (sym (take_rest ix 1)) ∙ sym w.stand_behind.ensures ∙ sym w.value-is ∙ c.if-stand_behind.true)
      | else-first-eq0 w ↦ absurd (false≢true (sym (ne_eqb _ _ w.if-first-eq0.false) ∙ sym w.value-is ∙ c.if-stand_behind.true))
    ]

pub returns-else-stand_behind : goal.returns-else-stand_behind
returns-else-stand_behind c =
    let s = c.args.s.now in
    let ix = c.args.index.now in
    c.if-stand_behind.false ∙ elim c.if-first-eq0.branch [
      | then-first-eq0 w ↦ ask_behind s ix (ap (λ (l : List ℕ). stand_behind_in s 0 l) (sym (take_rest ix 1)) ∙ sym w.stand_behind.ensures ∙ sym w.value-is ∙ c.if-stand_behind.false)
      | else-first-eq0 w ↦ ask_first s ix w.if-first-eq0.false
    ]
