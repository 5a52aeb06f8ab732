-- By the length of the piece: none is nothing however often (`piece_none`), one byte is the loop of stores (`piece_one`), any other the loop of copies.
use native.Mathlib.Omega.{arith}
use Prim.Native.Nat.{ℕ, ◌+◌}
use mathlib.Core.Path.{sym, ap, ◌∙◌}
use mathlib.Core.List.{List}
use lib.ListN.{length, get_or}
use Rattle.buffer.specs.Place.{over_at}
use Rattle.pad.specs.Padding.{repeated}
use Rattle.pad.proofs.Laws.{piece_none, piece_one, repeated-byte, length-single}
use Rattle.pad.proofs.put_piece.Goals as goal

pub returns-then-a-b : goal.returns-then-a-b
returns-then-a-b c = let a = c.args in piece_none a.a a.b a.n a.at a.from.now a.out.now c.if-a-b.true

pub put_byte_times-requires : goal.put_byte_times-requires
put_byte_times-requires c =
    let a = c.args in
    let e = piece_one a.a a.b a.from.now c.if-a-b-2.true c.requires.1 in
    omega (arith, c.requires.2, ap (λ (l : List ℕ). length (repeated a.n l)) e, length-single a.n (get_or a.from.now a.a 0))

pub returns-then-a-b-2 : goal.returns-then-a-b-2
returns-then-a-b-2 c =
    let a = c.args in
    let e = piece_one a.a a.b a.from.now c.if-a-b-2.true c.requires.1 in
    let r = c.put_byte_times.ensures in (
      r.0 ∙ ap (λ (m : ℕ). a.at + m) (sym (length-single a.n _)) ∙ ap (λ (l : List ℕ). a.at + length (repeated a.n l)) (sym e),
      r.1 ∙ ap (λ (l : List ℕ). over_at a.at l a.out.now) (sym (repeated-byte a.n _)) ∙ ap (λ (l : List ℕ). over_at a.at (repeated a.n l) a.out.now) (sym e),
    )
