-- `skip`: where no entry is left up to the byte n, nothing is written (`front-plain`); else `skip_entries` promises the same.
use native.Mathlib.Omega.{arith}
use Prim.Native.Nat.{◌<◌}
use mathlib.Core.Path.{refl, sym, ap, ◌∙◌}
use mathlib.Core.List.{List, [], ◌∷◌}
use lib.ListN.{drop}
use Rattle.buffer.specs.Place.{part}
use Rattle.buffer.specs.LendsOn.{LendsOn, own_arrays, acts, touches, loops, calls, called}
use Rattle.recording.specs.Recording.{Item, entries_of}
use Rattle.recording.specs.Edit.{entries_only}
use Rattle.writer.specs.Write.{out, add, place_for}
use Rattle.writer.proofs.Carry.{front-plain, back-plain, add-nil, only_none}
use Rattle.writer.proofs.skip.Code.Mir as code
use Rattle.writer.proofs.skip.Goals as goal

pub place_at-requires : goal.place_at-requires
place_at-requires c = c.requires.ready.within

pub returns-then-n-place_at : goal.returns-then-n-place_at
unfolding out
returns-then-n-place_at c =
    let a = c.args in
    let later : a.n < place_for (entries_of (drop a.from.k a.content.entries.now)) = omega (arith, c.if-n-place_at.true, c.place_at.ensures) in
    let e = front-plain a.content.bytes.now a.content.entries.now a.content.text.now a.n a.from c.requires.ready c.requires.at_le_n.0 c.requires.at_le_n.1 later in
    let k = back-plain a.content.bytes.now a.content.entries.now a.content.text.now a.n a.from c.requires.ready c.requires.at_le_n.0 c.requires.at_le_n.1 later _ refl refl in
    let o = out a.bytes.now a.numbers.now a.texts.now a.from in
    record {
      result_after = add-nil o ∙ ap (λ (is : List Item). add is o) (sym (ap entries_only e ∙ only_none (part a.from.at a.n a.content.bytes.now)));
      result_value = k.0;
      ready_2 = (k.1, refl);
    }

-- no bytes go
pub skip-lends-on : LendsOn code.function [] 0 ("writer::place_at" ∷ "writer::skip_entries" ∷ [])
unfolding own_arrays acts touches loops calls called
skip-lends-on = refl
