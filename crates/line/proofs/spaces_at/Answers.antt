-- The iterator gives the bytes 20 at n (`YieldsList-from_take_while`), and so many they are (`length-prefix_len`).
use Rattle.std.proofs.Common.{◌≡◌, ◌∙◌, drop, length-drop, arith, rules, tests}
use Rattle.std.specs.List.{prefix_len}
use Rattle.std.proofs.lemmas.List.{take_rest}
use Rattle.std.proofs.lemmas.List.Sums.{prefix_len-le-length}
use Rattle.std.proofs.lemmas.List.Folds.{length-prefix_len}
use Rattle.std.proofs.lemmas.Iterator.{YieldsList-from_slice}
use Rattle.std.proofs.lemmas.Iterator.Consumers.{count_from_yields_List}
use Rattle.std.proofs.lemmas.Iterator.Search.{YieldsList-from_take_while}
use Rattle.line.specs.Rest.{space, space_len}
use Rattle.line.proofs.spaces_at.Goals as goal

pub returns : goal.returns
unfolding space_len
returns c =
    let s = c.args.s.now in
    let n = c.args.n in
    let rest = take_rest s n in
    let count : c.count.result ≡ prefix_len space (drop n s) = count_from_yields_List c.take_while.result _ c.count.ensures.ran
    (YieldsList-from_take_while _ space (YieldsList-from_slice (drop n s) (cc)) c.take_while.ensures.closure c.take_while.ensures.done (λ x b q k. search (rules, tests)))
    ∙ length-prefix_len space (drop n s) in
    (count, omega (arith, count, prefix_len-le-length space (drop n s), length-drop n s))
