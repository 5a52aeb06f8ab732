-- Each byte that the search passes is a character of width 1 and no tab (`printable_found`).
use Rattle.std.proofs.Common.{rules, ◌≤◌, ◌<◌}
use Rattle.std.proofs.lemmas.Iterator.{IsFirst-from_position, YieldsList-from_slice}
use Rattle.std.proofs.lemmas.List.{take_rest}
use borrow.Author.Tests.{tests}
use mathlib.Core.Path.{◌∙◌}
use lib.ListN.{drop}
use Rattle.tabs.proofs.RecordLaws.{printable_found}
use Rattle.tabs.proofs.pass_printable.Goals as goal

pub returns : goal.returns
returns c =
    let a = c.args in
    let e = IsFirst-from_position _ _ _ (λ b. Unit {0}) (λ b. (0x20 ≤ b) × (b < 0x7F)) c.position.ensures.ran
    (YieldsList-from_slice (drop a.p.at a.s.now) (c.iter.ensures.rest ∙ take_rest a.s.now a.p.at)) (λ x q k. tt) (λ x q k. search (rules, tests)) in
    rw c.unwrap_or-n.ensures (printable_found a.s.now a.p.at a.p.column c.position.result c.requires.0 c.requires.2 e)
