-- What the code knows of the ellipsis once it is measured, and what it then keeps of a cell. `proofs/PlanLaws.antt` joins it to the truncating call's plan and to the definitions.
use Rattle.std.specs.Prelude.{ℕ, ◌+◌, ◌-◌, true, false, cond, ltb, length}
use Rattle.chars.specs.Chars.{text_width_of}
use Rattle.chars.specs.Cut.{truncate_end_pos_of, truncate_end_width}
use Rattle.recording.specs.Recording.{Bytes}
use Rattle.truncate_plan.specs.declared.Plan.{Plan}
use Rattle.cells.specs.declared.Mark.{Mark}

-- an ellipsis behind cells that are cut to the width m
unfoldable pub mark_of : ℕ → Bytes → Mark
mark_of m e = record { room = m - text_width_of e; kept = truncate_end_pos_of m e; width = truncate_end_width m e }

-- what is kept of a cell: `plan_end`, with the ellipsis measured
unfoldable pub plan_with : Mark → ℕ → Bytes → Plan
plan_with k m cell =
    cond (ltb m (text_width_of cell))
    (record { cut = true; content = truncate_end_pos_of k.room cell; ellipsis = k.kept; width = truncate_end_width k.room cell + k.width })
    (record { cut = false; content = length cell; ellipsis = 0; width = text_width_of cell })
