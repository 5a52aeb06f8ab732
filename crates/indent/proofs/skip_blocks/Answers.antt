-- Each block that the search passes has no 0A (`blocks_passed`): the place and what is still to go add up to the same (`break_past`).
use Rattle.std.proofs.Common.{rules, arith}
use Rattle.std.proofs.lemmas.Iterator.{IsFirst-from_position, YieldsList-from_slice}
use Rattle.std.proofs.lemmas.List.{take_rest}
use Rattle.std.specs.List.{list_any}
use borrow.Author.Tests.{tests}
use Prim.Native.Nat.{ℕ, ◌-◌, ◌*◌}
use mathlib.Core.Bool.{false}
use mathlib.Core.Path.{◌≡◌, ap}
use mathlib.Core.List.{List}
use lib.Dec.{eqb}
use lib.ListN.{length, drop, take, length-drop}
use Rattle.newlines.specs.Newlines.{to_break}
use Rattle.newlines.proofs.BreakLaws.{break_past}
use Rattle.indent.proofs.Laws.{blocks_passed}
use Rattle.indent.proofs.skip_blocks.Goals as goal

pub returns : goal.returns
returns c =
    let a = c.args in
    let d : List ℕ = take (length a.s.now - a.from) (drop a.from a.s.now) in
    let q : d ≡ drop a.from a.s.now = take_rest a.s.now a.from in
    let e = IsFirst-from_position _ _ _ (λ b. Unit {0}) (λ b. list_any (λ x. eqb x 0x0A) b ≡ false) c.position.ensures.ran
    (YieldsList-from_slice c.as_chunks.result.0.now c.iter.ensures.rest) (λ x q k. tt) (λ x q k. search (rules, tests)) in
    let p = blocks_passed d c.as_chunks.result.0.now c.position.result c.as_chunks.ensures.front c.as_chunks.ensures.front_len e in
    let z = ap (λ (k : ℕ). 16 * k) c.unwrap_or-n.ensures in
    record {
      s_value = omega (arith, break_past (16 * c.unwrap_or-n.result) a.from a.s.now (omega (arith, p.0, z, ap to_break q)));
      lower_bound = (omega arith, omega (arith, p.1, z, c.requires, ap length q, length-drop a.from a.s.now));
    }
