-- A number left over decides first, then how many columns there are, then whether one of them is bad (`ColumnLaws`).
use borrow.Author.Rules.{rules}
use borrow.Author.Tests.{tests}
use mathlib.Core.Path.{ap, ◌∙◌}
use Rattle.std.proofs.lemmas.Iterator.{YieldsList-from_slice}
use Rattle.std.proofs.lemmas.Iterator.Search.{any_from_yields_List}
use Rattle.tally.specs.Tally.{bad_column_of, any_bad}
use Rattle.tally.proofs.ColumnLaws.{column_in, columns_are, any_pair, wrong_odd, wrong_count, wrong_any}
use Rattle.tally.proofs.wrong_columns.Goals as goal
use Rattle.tally.proofs.wrong_columns.Goals.{then-not-is_empty, else-not-is_empty}

pub returns-then-not-contains : goal.returns-then-not-contains
returns-then-not-contains c =
    c.if-not-contains.true ∙ elim c.if-not-is_empty.branch [
      | then-not-is_empty w ↦ wrong_odd _ (λ z. search rules)
      | else-not-is_empty w ↦ wrong_count _ (search rules) (search rules)
    ]

pub returns-else-not-contains : goal.returns-else-not-contains
returns-else-not-contains c =
    let ps = c.as_chunks.result.0.now in
    let a = any_from_yields_List (λ p. bad_column_of (column_in p)) _ _ c.any.result c.any.ensures.ran (YieldsList-from_slice ps c.iter.ensures.rest) (λ x b q k. search (rules, tests)) in
    a ∙ any_pair ps ∙ ap any_bad (columns_are _ ps c.as_chunks.ensures.front) ∙ elim c.if-not-is_empty.branch [
      | then-not-is_empty w ↦ search rules
      | else-not-is_empty w ↦ wrong_any _ (search rules) (search rules)
    ]
