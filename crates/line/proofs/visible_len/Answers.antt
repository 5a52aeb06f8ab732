-- The iterator gives the visible bytes of the front (`YieldsList-from_take_while`), and so many they are (`visible_front`).
use Rattle.std.proofs.Common.{◌≡◌, ◌∙◌, take, arith, rules, tests}
use Rattle.std.specs.List.{prefix_len}
use Rattle.std.proofs.lemmas.List.Sums.{prefix_len-le-length}
use Rattle.std.proofs.lemmas.List.Folds.{length-prefix_len}
use Rattle.std.proofs.lemmas.Iterator.{YieldsList-from_slice}
use Rattle.std.proofs.lemmas.Iterator.Consumers.{count_from_yields_List}
use Rattle.std.proofs.lemmas.Iterator.Search.{YieldsList-from_take_while}
use Rattle.line.specs.Line.{visible, visible_len_of}
use Rattle.line.proofs.VisibleLaws.{visible_front}
use Rattle.line.proofs.visible_len.Goals as goal

pub returns : goal.returns
unfolding visible_len_of
returns c =
    let s = c.args.s.now in
    let n = c.min-end.result in
    let count : c.count.result ≡ prefix_len visible (take n s) = count_from_yields_List c.take_while.result _ c.count.ensures.ran
    (YieldsList-from_take_while _ visible (YieldsList-from_slice (take n s) (grind arith)) c.take_while.ensures.closure c.take_while.ensures.done (λ x b q k. search (rules, tests)))
    ∙ length-prefix_len visible (take n s) in
    omega (arith, count, visible_front n s, prefix_len-le-length visible s, c.min-end.ensures)
