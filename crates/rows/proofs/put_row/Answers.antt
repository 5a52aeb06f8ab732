-- Five numbers, each put where the one before it ended.
use Rattle.std.proofs.Common.{◌++◌, get_or, length-append, arith}
use Rattle.buffer.proofs.Laws.{then_put}
use Rattle.sheet.specs.Decimal.{field}
use Rattle.rows.specs.Rows.{row_text}
use Rattle.rows.proofs.put_row.Goals as goal

pub returns-clause-value : goal.returns-clause-value
unfolding row_text
returns-clause-value c =
    let x = c.args in
    let f₁ = c.put_field-b in
    let f₂ = c.put_field-c in
    let f₃ = c.put_field-d in
    let f₄ = c.put_field-e in
    let f₅ = c.put_field in
    let t₁ = field x.row 0x20 in
    let t₂ = field x.line 0x20 in
    let t₃ = field (get_or x.numbers.now 0 0) 0x20 in
    let t₄ = field (get_or x.numbers.now 1 0) 0x20 in
    let t₅ = field (get_or x.numbers.now 2 0) 0x0A in
    let g₄ = then_put f₃.result t₄ t₅ _ _ _ f₄.result (omega (arith, f₁.ensures.upper_bound, f₂.ensures.upper_bound, f₃.ensures.upper_bound, f₁.auto.out, f₂.auto.out, f₃.auto.out)) f₄.ensures.value.1 f₄.ensures.value.0 f₅.ensures.value.1 in
    let g₃ = then_put f₂.result t₃ (t₄ ++ t₅) _ _ _ f₃.result (omega (arith, f₁.ensures.upper_bound, f₂.ensures.upper_bound, f₁.auto.out, f₂.auto.out)) f₃.ensures.value.1 f₃.ensures.value.0 g₄ in
    let g₂ = then_put f₁.result t₂ (t₃ ++ (t₄ ++ t₅)) _ _ _ f₂.result (omega (arith, f₁.ensures.upper_bound, f₁.auto.out)) f₂.ensures.value.1 f₂.ensures.value.0 g₃ in
    let g₁ = then_put x.at t₁ (t₂ ++ (t₃ ++ (t₄ ++ t₅))) x.out.now _ _ f₁.result (omega arith) f₁.ensures.value.1 f₁.ensures.value.0 g₂ in (
      omega (
        arith,
        length-append t₁ (t₂ ++ (t₃ ++ (t₄ ++ t₅))),
        length-append t₂ (t₃ ++ (t₄ ++ t₅)),
        length-append t₃ (t₄ ++ t₅),
        length-append t₄ t₅,
        f₁.ensures.value.0,
        f₂.ensures.value.0,
        f₃.ensures.value.0,
        f₄.ensures.value.0,
        f₅.ensures.value.0,
      ),
      g₁,
    )
