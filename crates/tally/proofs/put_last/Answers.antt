-- The pieces one after another (`then_put`, `last_pieces`).
use native.Mathlib.Omega.{arith}
use Prim.Native.Nat.{ℕ, ◌+◌, ◌≤◌}
use mathlib.Core.Path.{◌≡◌, ap, ◌∙◌}
use mathlib.Core.List.{List, [], ◌∷◌, ◌++◌}
use lib.ListN.{length, length-append}
use Rattle.buffer.specs.Place.{over_at}
use Rattle.buffer.proofs.Laws.{then_put}
use Rattle.sheet.specs.Decimal.{decimal}
use Rattle.tally.proofs.LastLaws.{last_pieces, last_length}
use Rattle.tally.proofs.put_last.Goals as goal

pub put_decimal-a-requires : goal.put_decimal-a-requires
put_decimal-a-requires c = omega (arith, c.requires, last_length c.args.n c.args.sum)

pub put_byte_times-b-requires : goal.put_byte_times-b-requires
put_byte_times-b-requires c =
    let p = c.put_decimal-a in
    omega (arith, c.requires, last_length c.args.n c.args.sum, p.ensures.0, p.auto.out)

pub put_decimal-c-requires : goal.put_decimal-c-requires
put_decimal-c-requires c =
    let p = c.put_decimal-a in
    let q = c.put_byte_times-b in
    omega (arith, c.requires, last_length c.args.n c.args.sum, p.ensures.0, p.auto.out, q.ensures.0, q.auto.out)

pub put_byte_times-requires : goal.put_byte_times-requires
put_byte_times-requires c =
    let p = c.put_decimal-a in
    let q = c.put_byte_times-b in
    let r = c.put_decimal-c in
    omega (arith, c.requires, last_length c.args.n c.args.sum, p.ensures.0, p.auto.out, q.ensures.0, q.auto.out, r.ensures.0, r.auto.out)

pub returns : goal.returns
returns c =
    let a = c.args in
    let p = c.put_decimal-a in
    let q = c.put_byte_times-b in
    let r = c.put_decimal-c in
    let t = c.put_byte_times in
    let x = decimal a.n in
    let y = x ++ (0x20 ∷ []) in
    let z = y ++ decimal a.sum in
    let o = a.out.now in
    let h : a.at ≤ length o = omega (arith, c.requires) in
    let f = then_put a.at x (0x20 ∷ []) o _ _ p.result h p.ensures.1 p.ensures.0 q.ensures.1 in
    let m : q.result ≡ a.at + length y = omega (arith, p.ensures.0, q.ensures.0, length-append x (0x20 ∷ [])) in
    let g = then_put a.at y (decimal a.sum) o _ _ q.result h f m r.ensures.1 in
    let n : r.result ≡ a.at + length z = omega (arith, m, r.ensures.0, length-append y (decimal a.sum)) in
    let e = then_put a.at z (0x0A ∷ []) o _ _ r.result h g n t.ensures.1 in (
      omega (arith, last_length a.n a.sum, p.ensures.0, q.ensures.0, r.ensures.0, t.ensures.0),
      e ∙ ap (λ (l : List ℕ). over_at a.at l o) (last_pieces a.n a.sum),
    )
