-- `settle_floor` by the content's length, which the floor's data does not pass (`floor_roomy`); where that has no room, by the length that `floor_len` measures.
use mathlib.Core.Bool.{true, false≢true}
use mathlib.Core.Path.{◌≡◌, refl, sym, ap, ◌∙◌}
use Rattle.std.specs.Prelude.{Result, Ok, Err}
use Rattle.std.specs.Result.{is_ok}
use Rattle.recording.specs.declared.Refusal.{Refusal}
use Rattle.recording.specs.Check.{fault_of}
use Prim.Native.Nat.{ℕ}
use Rattle.recording.specs.Read.{recording_of}
use Rattle.writer.specs.Sizes.{sizes_fault, room_of_lengths}
use Rattle.readers.proofs.SizedLaws.{floor_roomy}
use Rattle.readers.proofs.settle_floor.Goals as goal

ok_zero : (v : Result Unit Refusal) → is_ok v ≡ true → fault_of v ≡ 0
ok_zero (Err f) h = absurd (false≢true h)
ok_zero (Ok u) h = refl

pub returns-then-is_ok : goal.returns-then-is_ok
returns-then-is_ok c =
    let a = c.args in
    floor_roomy a.label.now (recording_of a.content) a.numbers a.texts (room_of_lengths a.room) (sym (ok_zero _ (sym c.is_ok.ensures.value ∙ c.if-is_ok.true)) ∙ c.settle.ensures)

pub returns : goal.returns
returns c =
    let a = c.args in
    c.settle-2.ensures ∙ ap (λ (d : ℕ). sizes_fault d a.numbers a.texts 0 (room_of_lengths a.room)) c.floor_len-bytes.ensures
