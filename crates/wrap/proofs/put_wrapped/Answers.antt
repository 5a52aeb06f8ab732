-- Each turn lists one line and writes it with a 0A, the last one with the entries behind it (`State`, `step`, `finish`; `Written`, `next`, `last`).
use native.Mathlib.Omega.{arith}
use Rattle.wrap_lines.proofs.WrapLaws as lists
use Rattle.wrap.proofs.PlanLaws as laws
use Rattle.writer.proofs.Carry.{bytes_wrote}
use Rattle.writer.specs.Write.{out}
use Rattle.wrap.proofs.PlanLaws.{at_some}
use mathlib.Core.Path.{refl, ◌∙◌}
use mathlib.Core.List.{[], ◌∷◌}
use Rattle.wrap.proofs.put_wrapped.Goals as goal

pub loop-next-init : goal.loop-next-init
unfolding out
loop-next-init c = (laws.state_first _ _ _ _ _ _ _ refl refl c.requires.sound, lists.start _ _ _ _)

pub next_line-l-requires : goal.next_line-l-requires
next_line-l-requires c =
    c.loop-next.invariant.0.within

pub overflow_cast-at : goal.overflow_cast-at
overflow_cast-at c = omega (arith, c.loop-next.invariant.0.within, c.requires.sound.short)

pub overflow_cast-l : goal.overflow_cast-l
overflow_cast-l c = omega (arith, c.next_line-l.ensures.at_le_end.1, c.requires.sound.short)

pub overflow_cast-l-in-loop-next : goal.overflow_cast-l-in-loop-next
overflow_cast-l-in-loop-next c =
    let e = c.next_line-l.ensures in
    omega (arith, e.at_le_end.1, e.width_value.1, c.requires.sound.short)

pub set_line-k-requires : goal.set_line-k-requires
set_line-k-requires c =
    let n = c.next_line-l in
    lists.room _ _ _ _ _ _ _ c.loop-next.invariant.1 n.result n.ensures.data_value n.ensures.width_value.0 c.requires.content_in_bounds

pub put_line-c-requires : goal.put_line-c-requires
put_line-c-requires c =
    let S = c.loop-next.invariant.0 in
    let n = c.next_line-l in
    record {
      ready = S.ready;
      at_le_first = (S.here, n.ensures.at_le_end.0, n.ensures.at_le_end.1);
      fits = laws.room_line _ _ _ _ _ _ _ _ _ S c.requires.fits n.result n.ensures.data_value;
    }

pub put_newline-c-requires : goal.put_newline-c-requires
unfolding out
put_newline-c-requires c =
    let n = c.next_line-l in
    let l = c.put_line-c.ensures in
    let f = laws.room_newline _ _ _ _ _ _ _ _ _ c.loop-next.invariant.0 c.requires.fits n.result n.ensures.data_value _ _ l.result_after l.result_value l.ready_2.0 l.ready_2.1 _ c.in-Some.is in
    omega (arith, f.data_bytes)

pub loop-next-smaller : goal.loop-next-smaller
loop-next-smaller c =
    let n = c.next_line-l in
    omega (arith, at_some _ c.in-Some.is n.ensures.at_le_end.2)

pub loop-next-preserved : goal.loop-next-preserved
loop-next-preserved c =
    let S = c.loop-next.invariant in
    let n = c.next_line-l in
    let l = c.put_line-c.ensures in
    let w = c.put_newline-c.ensures in
    let s = c.set_line-k in
    let f = at_some _ c.in-Some.is n.ensures.at_le_end.2 in
    let v = bytes_wrote _ _ _ _ (0x0A ∷ []) _ _ w.bytes_after w.at_value.2 w.at_value.3 w.at_value.4 in (
      laws.step _ _ _ _ _ _ _ _ _ S.0 c.requires.fits n.result n.ensures.data_value _ _ l.result_after l.result_value l.ready_2.0 l.ready_2.1 _ c.in-Some.is _ _ v w.at_value.0 w.at_value.1 f.2 f.0,
      lists.next _ _ _ _ _ _ _ S.1 n.result n.ensures.data_value n.ensures.width_value.0 _ _ s.ensures.0 s.ensures.1 s.auto.lines _ c.in-Some.is f.0,
    )

pub skip-requires : goal.skip-requires
skip-requires c =
    let n = c.next_line-l in
    let l = c.put_line-c.ensures in
    let f = laws.room_behind _ _ _ _ _ _ _ _ _ c.loop-next.invariant.0 c.requires.fits n.result n.ensures.data_value _ _ l.result_after l.result_value l.ready_2.0 l.ready_2.1 c.in_default.is in
    record {
      ready = l.ready_2.0;
      at_le_n = (omega (arith, l.ready_2.1, n.ensures.at_le_end.1), omega arith);
      fits = f;
    }

pub shape_of-bytes : goal.shape_of-bytes
unfolding out
shape_of-bytes c =
    let g = laws.long_now _ _ _ _ _ _ _ _ _ c.loop-next.invariant.0 c.requires.fits in
    c.skip.auto.bytes ∙ c.put_line-c.auto.bytes ∙ g.data_bytes

pub shape_of-numbers : goal.shape_of-numbers
unfolding out
shape_of-numbers c =
    let g = laws.long_now _ _ _ _ _ _ _ _ _ c.loop-next.invariant.0 c.requires.fits in
    c.skip.auto.numbers ∙ c.put_line-c.auto.numbers ∙ g.entry_numbers

pub shape_of-texts : goal.shape_of-texts
unfolding out
shape_of-texts c =
    let g = laws.long_now _ _ _ _ _ _ _ _ _ c.loop-next.invariant.0 c.requires.fits in
    c.skip.auto.texts ∙ c.put_line-c.auto.texts ∙ g.text

pub shape_of-lines : goal.shape_of-lines
shape_of-lines c = c.set_line-k.auto.lines ∙ c.loop-next.invariant.1.filled.long

pub returns : goal.returns
returns c =
    let S = c.loop-next.invariant in
    let n = c.next_line-l in
    let l = c.put_line-c.ensures in
    let s = c.set_line-k in
    record {
      cursor_after = laws.finish _ _ _ _ _ _ _ _ _ S.0 c.requires.fits n.result n.ensures.data_value _ _ l.result_after l.result_value l.ready_2.0 l.ready_2.1 c.in_default.is _
          c.skip.ensures.result_after;
      lines_after = lists.last _ _ _ _ _ _ _ S.1 n.result n.ensures.data_value n.ensures.width_value.0 _ s.result s.ensures.0 s.ensures.1 s.auto.lines c.in_default.is;
    }
