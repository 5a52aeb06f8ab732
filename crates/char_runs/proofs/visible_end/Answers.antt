-- The iterator takes the visible bytes (`YieldsList-from_take_while`), as many as `visible_from` asks for.
use Rattle.std.proofs.Common.{◌≡◌, ◌∙◌, rules, tests}
use Rattle.std.specs.List.{prefix_len}
use Rattle.std.proofs.lemmas.List.Folds.{length-prefix_len}
use Rattle.std.proofs.lemmas.Iterator.{YieldsList-from_slice}
use Rattle.std.proofs.lemmas.Iterator.Consumers.{count_from_yields_List}
use Rattle.std.proofs.lemmas.Iterator.Search.{YieldsList-from_take_while}
use Rattle.buffer.specs.Place.{part}
use Rattle.char_runs.proofs.RunLaws.{visible, visible_from}
use Rattle.char_runs.proofs.visible_end.Goals as goal

pub returns : goal.returns
unfolding visible
returns c =
    let s = part c.args.at c.args.end c.args.s.now in
    let count : c.count.result ≡ prefix_len visible s = count_from_yields_List c.take_while.result _ c.count.ensures.ran
    (YieldsList-from_take_while _ visible (YieldsList-from_slice s (cc)) c.take_while.ensures.closure c.take_while.ensures.done (λ x b q k. search (rules, tests)))
    ∙ length-prefix_len visible s in
    visible_from c.args.s.now c.args.at c.args.end c.count.result c.requires.0 c.requires.1 count
