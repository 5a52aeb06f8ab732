-- The digits, then the byte after them.
use Rattle.std.proofs.Common.{[], ◌∷◌, length-append, arith}
use Rattle.buffer.proofs.Laws.{then_put, one_store}
use Rattle.sheet.specs.Decimal.{decimal}
use Rattle.sheet.proofs.DecimalLaws.{decimal_short}
use Rattle.rows.proofs.put_field.Goals as goal

pub put_decimal-e-requires : goal.put_decimal-e-requires
put_decimal-e-requires c = omega (arith, decimal_short c.args.n)

pub bounds-out-e : goal.bounds-out-e
bounds-out-e c = omega (arith, c.put_decimal-e.ensures.0, c.put_decimal-e.auto.out, decimal_short c.args.n)

pub overflow_add-result : goal.overflow_add-result
overflow_add-result c = omega (arith, c.put_decimal-e.ensures.0, decimal_short c.args.n)

pub returns : goal.returns
returns c =
    let p = c.put_decimal-e in
    let x = c.args in
    let short = decimal_short x.n in
    let stored = one_store p.new.out p.result x.c (omega (arith, p.ensures.0, p.auto.out, short)) in
    record {
      value = (omega (arith, p.ensures.0, length-append (decimal x.n) (x.c ∷ [])), then_put x.at (decimal x.n) (x.c ∷ []) x.out.now p.new.out _ p.result (omega arith) p.ensures.1 p.ensures.0 stored);
      upper_bound = omega (arith, p.ensures.0, short);
    }
