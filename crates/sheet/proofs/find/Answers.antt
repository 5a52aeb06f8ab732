-- The iterator takes the bytes up to the first c (`YieldsList-from_take_while`), and so many they are (`up_to_length`).
use Rattle.std.proofs.Common.{◌≡◌, ◌∙◌, ℕ, Bool, not, eqb, drop, arith, rules, tests}
use Rattle.std.specs.List.{prefix_len}
use Rattle.std.proofs.lemmas.List.{take_rest}
use Rattle.std.proofs.lemmas.List.Folds.{length-prefix_len}
use Rattle.std.proofs.lemmas.Iterator.{YieldsList-from_slice}
use Rattle.std.proofs.lemmas.Iterator.Consumers.{count_from_yields_List}
use Rattle.std.proofs.lemmas.Iterator.Search.{YieldsList-from_take_while}
use Rattle.sheet.proofs.SheetLaws.{up_to_length}
use Rattle.sheet.proofs.find.Goals as goal

pub returns-clause-value : goal.returns-clause-value
returns-clause-value c =
    let s = drop c.args.at c.args.s.now in
    let other : ℕ → Bool = λ b. not (eqb b c.args.c) in
    let rest = take_rest c.args.s.now c.args.at in
    let count : c.count.result ≡ prefix_len other s = count_from_yields_List c.take_while.result _ c.count.ensures.ran
    (YieldsList-from_take_while _ other (YieldsList-from_slice s (cc)) c.take_while.ensures.closure c.take_while.ensures.done (λ x b q k. search (rules, tests)))
    ∙ length-prefix_len other s in
    omega (arith, count, up_to_length c.args.c s)
