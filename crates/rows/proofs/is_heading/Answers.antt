-- `==` on slices tells whether the lists are equal.
use Rattle.std.proofs.lemmas.Bool.Decides.{Decides-eqb}
use Rattle.std.proofs.lemmas.Slice.Eq.{slice_eq-Decides}
use Rattle.rows.specs.Rows.{sheet_heading}
use Rattle.rows.proofs.is_heading.Goals as goal

pub returns : goal.returns
unfolding sheet_heading
returns c = rw (← c.as_slice.ensures) (slice_eq-Decides Decides-eqb _ _ _ c.eq.ensures)
