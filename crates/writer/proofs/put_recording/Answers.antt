-- `put_recording`: a `keep` of the whole content from its start (`front_start`, `keep_all`), so one run (`added_held`).
use native.Mathlib.Omega.{arith}
use Rattle.writer.proofs.Steps.{front_start, ready_start, keep_all}
use Rattle.writer.proofs.HeldLaws.{added_held}
use Rattle.writer.specs.Write.{out, add}
use Rattle.recording.specs.Recording.{Item, recording, items}
use Rattle.recording.proofs.ItemsLaws.{data_items}
use Rattle.buffer.specs.LendsOn.{LendsOn, own_arrays, acts, touches, loops, calls, called}
use lib.ListN.{length}
use mathlib.Core.Path.{refl, ap, ◌∙◌}
use mathlib.Core.List.{List, [], ◌∷◌}
use Rattle.writer.proofs.put_recording.Code.Mir as code
use Rattle.writer.proofs.put_recording.Goals as goal

pub keep-r-requires : goal.keep-r-requires
unfolding out
keep-r-requires c =
    let s = c.args in
    let e = front_start s.content.bytes.now s.content.entries.now s.content.text.now (record { at = 0; k = 0; d = s.c.d; e = s.c.e; t = s.c.t }) refl refl (length s.content.bytes.now)
    ∙ keep_all s.content.bytes.now s.content.entries.now s.content.text.now in record {
      ready = ready_start _ _ _ _ refl refl c.requires.sound;
      at_le_n = (omega arith, omega arith);
      fits = rw e c.requires.fits;
    }

pub returns : goal.returns
unfolding out
returns c =
    let s = c.args in
    let e = front_start s.content.bytes.now s.content.entries.now s.content.text.now (record { at = 0; k = 0; d = s.c.d; e = s.c.e; t = s.c.t }) refl refl (length s.content.bytes.now)
    ∙ keep_all s.content.bytes.now s.content.entries.now s.content.text.now in
    let r = recording s.content.bytes.now s.content.entries.now s.content.text.now in
    let o = out s.bytes.now s.numbers.now s.texts.now s.c in
    let w = c.keep-r.ensures.result_after ∙ ap (λ (x : List Item). add x o) e in
    record {
      result_after = w;
      at_value = (refl, refl, added_held (items r) s.content.bytes.now o _ w (data_items r));
    }

-- the bytes go by one `keep`
pub put-recording-lends-on : LendsOn code.function [] 0 ("writer::keep" ∷ [])
unfolding own_arrays acts touches loops calls called
put-recording-lends-on = refl
