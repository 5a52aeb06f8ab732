-- Where the longest result that there can be has room (`most_bytes`), so has this one (`smaller_fits`).
use native.Mathlib.Omega.{arith}
use mathlib.Core.Path.{sym, ◌∙◌}
use Rattle.writer.proofs.Sizes.{smaller_fits}
use Rattle.cells.proofs.PutLaws.{most_bytes, product_small, no_fault}
use Rattle.cells.proofs.Page.settle.Goals as goal

pub overflow_mul-longest : goal.overflow_mul-longest
overflow_mul-longest c = let s = c.args.self in omega (arith, product_small _ _ _ _ s.in_order _ s.measured s.ellipsis_short)

pub overflow_add-longest : goal.overflow_add-longest
overflow_add-longest c = let s = c.args.self in omega (arith, product_small _ _ _ _ s.in_order _ s.measured s.ellipsis_short, s.content_short)

pub returns-then-is_ok : goal.returns-then-is_ok
returns-then-is_ok c =
    let s = c.args.self in
    let h = sym c.settle.ensures ∙ no_fault _ (sym c.is_ok.ensures.value ∙ c.if-is_ok.true) in
    sym (smaller_fits _ _ _ _ _ _ _ h (most_bytes _ _ _ _ s.in_order _ s.measured) (omega arith))
