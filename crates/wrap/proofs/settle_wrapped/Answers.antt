-- Where the largest result has room, so has this one (`smaller_fits`); else the sizes that are counted are settled.
use native.Mathlib.Omega.{arith}
use mathlib.Core.Path.{sym, ap, ◌∙◌}
use Prim.Native.Nat.{◌+◌, ◌-◌, ◌*◌}
use Rattle.layout.specs.Wrap.{wrap_lines_of}
use Rattle.writer.specs.Sizes.{sizes_fault, room_of_lengths}
use Rattle.writer.proofs.Sizes.{smaller_fits, granted}
use Rattle.wrap_lines.specs.declared.Lines.{Lines}
use Rattle.wrap_lines.specs.WrapBytes.{line_size, lines_of}
use Rattle.wrap_lines.proofs.WrapLaws.{numbers_length}
use Rattle.wrap_lines.proofs.BoundLaws.{lines_few}
use Rattle.wrap.proofs.settle_wrapped.Goals as goal

pub returns-then-is_ok : goal.returns-then-is_ok
returns-then-is_ok c =
    let a = c.args in
    let ls = wrap_lines_of a.width a.break_words a.content.now in
    let z = sym c.settle.ensures ∙ granted c.settle.result (sym c.if-is_ok.ensures.value) in
    sym (smaller_fits _ _ _ _ _ _ _ z c.most_bytes.ensures
    (omega (
      arith,
      numbers_length a.content.now ls,
      lines_few a.width a.break_words a.content.now c.requires,
      c.numbers_of.ensures,
    )))

pub returns : goal.returns
unfolding lines_of
returns c =
    let a = c.args in
    let e = c.count_lines-found.ensures.value in
    let d = ap (λ (x : Lines). x.bytes + (x.count - 1)) e in
    let l = c.numbers_of-2.ensures ∙ ap (λ (x : Lines). x.count * line_size) e ∙ sym (numbers_length a.content.now (wrap_lines_of a.width a.break_words a.content.now)) in
    c.settle-2.ensures ∙ (λ i. sizes_fault (d i) a.e a.t (l i) (room_of_lengths a.room))
