-- With the last line all numbers are written.
use Rattle.wrap_lines.proofs.WrapLaws as laws
use Rattle.wrap_lines.proofs.write_lines.Goals as goal

pub returns : goal.returns
returns c =
    let l = c.next_line-l in
    let s = c.set_line-k in
    let p = laws.last _ _ _ _ _ _ _ c.loop-next.invariant l.result l.ensures.data_value l.ensures.width_value.0 _ s.result s.ensures.0 s.ensures.1 s.auto.lines c.in_default.is in
    record { lines_after = p.0; value = p.1 }
