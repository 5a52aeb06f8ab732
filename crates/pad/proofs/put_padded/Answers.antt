-- Three steps, one after another: what each needs and what all write, by `room_before`, `room_content`, `room_behind`, `all_three`.
use mathlib.Core.Path.{◌∙◌}
use Rattle.writer.specs.Write.{out}
use Rattle.pad.proofs.Sizes.{room_before, room_content, room_behind, all_three}
use Rattle.pad.proofs.put_padded.Goals as goal

-- ── the places on the way: after the fill before the content, after the content, after the fill behind it
-- ── what is asked on the way
pub put_padding-a-requires : goal.put_padding-a-requires
unfolding out
put_padding-a-requires c =
    let z = c.requires in
    record {
      sound = z.sound.1;
      fits = room_before _ _ _ _ _ z.fits;
    }

pub put_recording-b-requires : goal.put_recording-b-requires
unfolding out
put_recording-b-requires c =
    record {
      sound = c.requires.sound.0;
      fits = room_content _ _ _ _ _ c.requires.fits _ c.put_padding-a.ensures;
    }

pub put_padding-requires : goal.put_padding-requires
unfolding out
put_padding-requires c =
    record {
      sound = c.requires.sound.1;
      fits = room_behind _ _ _ _ _ c.requires.fits _ c.put_padding-a.ensures _ c.put_recording-b.ensures.result_after;
    }

pub shape_of-bytes : goal.shape_of-bytes
shape_of-bytes c = c.put_padding.auto.bytes ∙ c.put_recording-b.auto.bytes ∙ c.put_padding-a.auto.bytes

pub returns : goal.returns
unfolding out
returns c = all_three _ _ _ _ _ c.requires.fits _ c.put_padding-a.ensures _ c.put_recording-b.ensures.result_after _ c.put_padding.ensures
