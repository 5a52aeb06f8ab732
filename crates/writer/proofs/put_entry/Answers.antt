-- `put_entry`: the numbers and the bytes that it writes are those of the entry as an item behind what is written (`entry-written`, `text_written`).
use native.Mathlib.Omega.{arith}
use borrow.Author.Rules.{rules}
use Rattle.writer.proofs.Laws.{lent_placed, add_short, add-length, entry-written, text_written}
use mathlib.Core.Path.{refl, ap, ◌∙◌}
use mathlib.Core.List.{List, [], ◌∷◌}
use Prim.Native.Nat.{ℕ}
use Rattle.buffer.specs.Place.{over_at}
use Rattle.buffer.specs.LendsOn.{LendsOn, own_arrays, acts, touches, loops, calls, called}
use Rattle.writer.proofs.put_entry.Code.Mir as code
use Rattle.writer.proofs.put_entry.Goals as goal

pub place_of-p-requires : goal.place_of-p-requires
place_of-p-requires c =
    record {
      texts_len_bound = search rules;
      numbers_value = lent_placed c.args.c.e c.args.numbers.now c.requires.numbers_value;
    }

pub overflow_add-start : goal.overflow_add-start
overflow_add-start c =
    let pre = c.requires in
    let a = c.args in
    let q = c.place_of-p.ensures in
    omega (arith, add_short a.c.d _ _ a.c a.text.now a.numbers.now a.texts.now a.e pre.len_value pre.len_in_bounds q.0 q.1, pre.len_in_bounds, c.well_formed)

pub put-t-requires : goal.put-t-requires
put-t-requires c =
    let pre = c.requires in
    let a = c.args in
    let q = c.place_of-p.ensures in
    let s = add_short a.c.d _ _ a.c a.text.now a.numbers.now a.texts.now a.e pre.len_value pre.len_in_bounds q.0 q.1 in
    let m = add-length a.c.d _ _ a.c a.text.now a.numbers.now a.texts.now a.e pre.len_value pre.len_in_bounds q.0 q.1 in
    (omega arith, omega (arith, s, pre.len_in_bounds), omega (arith, s, m, pre.e_in_bounds.1))

pub returns : goal.returns
returns c =
    let pre = c.requires in
    let a = c.args in
    let q = c.place_of-p.ensures in
    let p = c.put-t.ensures in
    let m = add-length a.c.d _ _ a.c a.text.now a.numbers.now a.texts.now a.e pre.len_value pre.len_in_bounds q.0 q.1 in record {
      at_value = (refl, refl, refl, refl, omega (arith, p.0, m));
      numbers_after = c.set_entry.ensures ∙ ap (λ (l : List ℕ). over_at a.c.e l a.numbers.now) (entry-written a.c.d _ _ a.c a.text.now a.numbers.now a.texts.now a.e pre.len_value pre.len_in_bounds q.0 q.1);
      texts_after = p.1 ∙ ap (λ (l : List ℕ). over_at a.c.t l a.texts.now) (text_written a.c.d _ _ a.c a.text.now a.numbers.now a.texts.now a.e pre.len_value pre.len_in_bounds q.0 q.1);
    }

-- the text buffer is lent to one `put` of what the entry adds, before that as a shared part to be searched; neither the content nor the data buffer is lent at all
pub put-entry-lends-on : LendsOn code.function [] 0 ("writer::place_of" ∷ "share::set_entry" ∷ "buffer::put" ∷ [])
unfolding own_arrays acts touches loops calls called
put-entry-lends-on = refl
