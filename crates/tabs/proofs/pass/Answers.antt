-- By its length and width (`char_passed`): a character from 20 on, a 0A, and any other control, which has no width.
use native.Mathlib.Omega.{arith}
use Prim.Native.Nat.{◌+◌}
use mathlib.Core.Path.{sym}
use lib.ListN.{get_or}
use borrow.Author.Tests.{eq-eqb, ne_eqb}
use Rattle.chars.proofs.FoldLaws.{control}
use Rattle.tabs.proofs.RecordLaws.{char_passed}
use Rattle.tabs.proofs.pass.Goals as goal

pub returns-then-b-ge32 : goal.returns-then-b-ge32
returns-then-b-ge32 c =
    let a = c.args in
    let p = c.requires in
    let k = c.seen_at-c in
    char_passed a.s.now a.p.at a.p.column k.result.len (a.p.column + k.result.width) p.0 p.3 k.ensures.len_value.0
    (rw (ne_eqb (get_or a.s.now a.p.at 0) 0x0A (λ z. omega (arith, z, c.if-b-ge32.true)), k.ensures.len_value.1)) (omega (arith, p.2, k.ensures.le_len.0, k.ensures.le_len.2))

pub returns-then-b-eq10 : goal.returns-then-b-eq10
returns-then-b-eq10 c =
    let a = c.args in
    let p = c.requires in
    char_passed a.s.now a.p.at a.p.column 1 0 p.0 p.3 (sym (control a.s.now a.p.at (omega (arith, c.if-b-ge32.false))).0) (rw (eq-eqb _ 0x0A c.if-b-eq10.true)) (omega arith)

pub returns : goal.returns
returns c =
    let a = c.args in
    let p = c.requires in
    let k = control a.s.now a.p.at (omega (arith, c.if-b-ge32.false)) in
    char_passed a.s.now a.p.at a.p.column 1 a.p.column p.0 p.3 (sym k.0) (rw (ne_eqb _ 0x0A c.if-b-eq10.false, k.1) (omega arith)) (omega (arith, p.2))
