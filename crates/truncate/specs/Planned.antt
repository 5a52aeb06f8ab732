-- The items that a truncating call writes by its plan (`truncate_plan`), and the runs of its data. `proofs/PlanLaws.antt`: these are `result_items`, and the plan's width is `number`.
use Rattle.std.specs.Prelude.{ℕ, cond, List, ◌++◌, take, drop}
use Rattle.recording.specs.Recording.{Recording, Item, items}
use Rattle.recording.specs.Edit.{edit}
use Rattle.layout.specs.Layout.{cut_end_of, cut_start_of}
use Rattle.truncate_plan.specs.declared.Plan.{Plan}

-- not cut, the ellipsis is not written, its entries included
unfoldable pub end_items : Plan → Recording → Recording → List Item
end_items p r e =
    cond p.cut (edit (cut_end_of p.content r.data_bytes) (items r) ++ edit (cut_end_of p.ellipsis e.data_bytes) (items e)) (items r)

unfoldable pub start_items : Plan → Recording → Recording → List Item
start_items p r e =
    cond p.cut (edit (cut_start_of p.ellipsis) (items e) ++ edit (cut_start_of p.content) (items r)) (edit (cut_start_of p.content) (items r))

-- the data of the finished result, run by run; `proofs/HeldLaws.antt`: it is that of the items, and of the call's result
unfoldable pub finished_end : Plan → List ℕ → List ℕ → List ℕ
finished_end p content ellipsis = cond p.cut (take p.content content ++ take p.ellipsis ellipsis) content

unfoldable pub finished_start : Plan → List ℕ → List ℕ → List ℕ
finished_start p content ellipsis = cond p.cut (drop p.ellipsis ellipsis ++ drop p.content content) (drop p.content content)
