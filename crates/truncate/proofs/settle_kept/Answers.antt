-- What both checks say bounds the sizes, and the text's size that is counted settles the call as its own does (`same_verdict`).
use native.Mathlib.Omega.{arith}
use mathlib.Core.Path.{◌∙◌}
use Rattle.std.proofs.Math.Nat.{mul-le-mul}
use Rattle.recording.specs.Read.{recording_of}
use Rattle.writer.proofs.Sizes.{same_verdict}
use Rattle.writer.specs.Sizes.{room_of_lengths}
use Rattle.truncate.proofs.CallLaws.{content_fine, second_fine, texts_within}
use Rattle.truncate.proofs.settle_kept.Goals as goal

pub text_size-texts-requires : goal.text_size-texts-requires
text_size-texts-requires c =
    let a = c.args in
    let r = recording_of a.content in
    let e = recording_of a.ellipsis in
    let f = content_fine a.sizes r e c.requires.checked in
    let g = second_fine a.sizes r e c.requires.checked in
    record {
      entries_len_bound = (f.entries_short, f.own_short, f.parts);
      second_len_bound = (g.entries_short, g.own_short, g.parts, omega arith);
      n_bound = texts_within a.sizes r e c.requires.checked a.times;
    }

pub overflow_mul-times-2 : goal.overflow_mul-times-2
overflow_mul-times-2 c =
    let a = c.args in
    let g = second_fine a.sizes (recording_of a.content) (recording_of a.ellipsis) c.requires.checked in
    omega (arith, mul-le-mul c.requires.times_bound g.entries_short)

pub overflow_add-content : goal.overflow_add-content
overflow_add-content c =
    let a = c.args in
    let f = content_fine a.sizes (recording_of a.content) (recording_of a.ellipsis) c.requires.checked in
    let g = second_fine a.sizes (recording_of a.content) (recording_of a.ellipsis) c.requires.checked in
    omega (arith, f.entries_short, mul-le-mul c.requires.times_bound g.entries_short)

pub returns : goal.returns
returns c = c.settle.ensures ∙ same_verdict _ _ _ _ _ (room_of_lengths c.args.room) c.text_size-texts.ensures
