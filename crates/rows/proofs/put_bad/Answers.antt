-- The number, then the fixed bytes.
use Rattle.std.proofs.Common.{List, ℕ, [], ◌∷◌, length-append, arith}
use Rattle.buffer.proofs.Laws.{then_put}
use Rattle.sheet.specs.Decimal.{field}
use Rattle.rows.specs.Rows.{bad_row}
use Rattle.rows.proofs.put_bad.Goals as goal

pub returns-clause-value : goal.returns-clause-value
unfolding bad_row
returns-clause-value c =
    let x = c.args in
    let f = c.put_field-e in
    let p = c.put in
    let t : List ℕ = 0x21 ∷ 0x20 ∷ 0x30 ∷ 0x20 ∷ 0x30 ∷ 0x0A ∷ [] in
    (omega (arith, f.ensures.value.0, p.ensures.0, length-append (field x.row 0x20) t), then_put x.at (field x.row 0x20) t x.out.now _ _ f.result (omega arith) f.ensures.value.1 f.ensures.value.0 p.ensures.1)
