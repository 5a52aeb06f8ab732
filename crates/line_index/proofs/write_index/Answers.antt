-- The 0, then the starts after it (`whole_over`).
use mathlib.Core.Path.{◌∙◌}
use Rattle.line_index.proofs.WriteLaws.{first_room, rest_room, whole_over, whole_count}
use Rattle.line_index.proofs.write_index.Goals as goal

pub bounds-index-0 : goal.bounds-index-0
bounds-index-0 c = first_room c.args.s.now c.args.index.now c.requires.s_in_bounds

pub write_starts-requires-clause-s_in_bounds : goal.write_starts-requires-clause-s_in_bounds
write_starts-requires-clause-s_in_bounds c = rest_room c.args.s.now c.args.index.now c.requires.s_in_bounds

pub returns : goal.returns
returns c =
    let a = c.args in
    let e = c.write_starts.ensures in
    record { index_after = e.index_after ∙ whole_over a.s.now a.index.now c.requires.s_in_bounds; value = e.value ∙ whole_count a.s.now }
