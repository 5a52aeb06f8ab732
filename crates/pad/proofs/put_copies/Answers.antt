-- A loop of copies: after i of them the buffer is the old one with the piece i times from `at` on, and one copy more is `repeated_next`.
use native.Mathlib.Omega.{arith}
use borrow.Author.Rules.{rules}
use Rattle.pad.proofs.Laws.{repeated_long, repeated-zero}
use Prim.Native.Nat.{ℕ, ◌+◌}
use mathlib.Core.Path.{◌≡◌, ap, ◌∙◌}
use lib.ListN.{length}
use Rattle.buffer.proofs.Laws.{length_part}
use Rattle.buffer.specs.Place.{over_at, part}
use Rattle.pad.specs.Padding.{repeated}
use Rattle.pad.proofs.Laws.{repeated_next, repeated-within, repeated_first}
use Rattle.pad.proofs.put_copies.Goals as goal

pub loop-init : goal.loop-init
loop-init c =
    let a = c.args in
    (search rules, search rules, omega (arith, repeated-zero (part a.a a.b a.from.now)), repeated_first _ _ _)

pub put-d-requires : goal.put-d-requires
put-d-requires c =
    let l = c.loop in
    let a = c.args in
    let w = repeated-within l.counter a.n (part a.a a.b a.from.now) c.loop-test.true in
    (search rules, search rules, omega (arith, w, l.invariant.1, l.invariant.2, c.requires.2, length_part a.a a.b a.from.now c.requires.1))

pub loop-preserved : goal.loop-preserved
loop-preserved c =
    let l = c.loop in
    let a = c.args in
    let p = part a.a a.b a.from.now in (
      search rules,
      search rules,
      omega (arith, c.put-d.ensures.0, l.invariant.2, repeated_long l.counter p, length_part a.a a.b a.from.now c.requires.1),
      c.put-d.ensures.1 ∙ (λ j. over_at (l.invariant.2 j) p (l.invariant.3 j)) ∙ repeated_next a.at l.counter p a.out.now (omega (arith, c.requires.2)),
    )

pub returns : goal.returns
returns c =
    let l = c.loop in
    let a = c.args in
    let p = part a.a a.b a.from.now in
    let e : l.counter ≡ a.n = omega arith in
    (l.invariant.2 ∙ ap (λ (m : ℕ). a.at + length (repeated m p)) e, l.invariant.3 ∙ ap (λ (m : ℕ). over_at a.at (repeated m p) a.out.now) e)
