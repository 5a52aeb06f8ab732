-- `put_whole` stops at the refusal of the sizes, or leaves the encoded items (LeftLaws); the sizes are the content's (`whole_sized`).
use Rattle.std.proofs.lemmas.Result.{err_from_is_err_and}
use Prim.Native.Nat.{ℕ, ◌-◌}
use mathlib.Core.List.{List}
use mathlib.Core.Path.{◌≡◌, refl, ◌∙◌}
use Rattle.recording.specs.Edit.{front}
use lib.ListN.{length}
use Rattle.recording.specs.Recording.{recording, items}
use Rattle.writer.specs.declared.Cursor.{Cursor}
use Rattle.writer.specs.Write.{out, left}
use Rattle.writer.proofs.Steps.{sound, front_start, ready_start, keep_all}
use Rattle.recorder.proofs.LeftLaws.{whole_sized, left_refused, left_room, left_settled}
use Rattle.recorder.proofs.put_whole.Goals as goal

-- the place that is written from, in the content and in the buffers
abbrev begin : Cursor
begin = record { at = 0; k = 0; d = 0; e = 0; t = 0 }

-- all items of the recording are those before its data's end
all-items : (ds ns ts : List ℕ) → front (length ds - 0) (left ds ns ts begin) ≡ items (recording ds ns ts)
all-items ds ns ts = front_start ds ns ts begin refl refl (length ds) ∙ keep_all ds ns ts

pub returns-in_err-settle : goal.returns-in_err-settle
returns-in_err-settle c =
    let p = err_from_is_err_and c.from_residual.result c.from_residual.ensures.1 in
    rw (p.1, p.2) (left_refused _ _ _ _ _ _ _ (whole_sized _ _ _ _ _ c.requires.0 c.own_size.ensures) c.settle.result c.settle.ensures _ c.in_err-settle.was)

pub keep_entries-c-requires-clause-ready : goal.keep_entries-c-requires-clause-ready
keep_entries-c-requires-clause-ready c = ready_start _ _ _ begin refl refl (sound _ _ _ c.requires.0)

pub keep_entries-c-requires-clause-fits : goal.keep_entries-c-requires-clause-fits
unfolding out
keep_entries-c-requires-clause-fits c =
    rw (all-items _ _ _) (left_room _ _ _ _ _ _ _ (whole_sized _ _ _ _ _ c.requires.0 c.own_size.ensures) c.settle.result c.settle.ensures c.in_ok-settle.was)

pub returns : goal.returns
unfolding out
returns c =
    left_settled _ _ _ _ _ _ _ (whole_sized _ _ _ _ _ c.requires.0 c.own_size.ensures) c.settle.result c.settle.ensures c.in_ok-settle.was _ _ _ c.keep_entries-c.result
    (rw (all-items _ _ _) at c.keep_entries-c.ensures.result_after)
