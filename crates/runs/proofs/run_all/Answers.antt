-- All calls lead where the definition leads. Invariant: `RunLaws.Running`, what is left of the list leads there from the state as it stands.
use native.Mathlib.Omega.{arith}
use Rattle.call_lists.proofs.RunLaws.{starts, head_fits, again, ran}
use Rattle.call_lists.specs.Runs.{State, state}
use Rattle.layout.specs.Lent.{lent_of}
use Rattle.recording.specs.Outcome.{Lent}
use mathlib.Core.List.{[]}
use mathlib.Core.Path.{refl, ◌∙◌}
use Rattle.runs.proofs.run_all.Goals as goal

pub loop-k-init : goal.loop-k-init
loop-k-init c =
    let first : Lent = lent_of c.args.bytes.now c.args.numbers.now c.args.texts.now in
    let other : Lent = lent_of c.args.other_bytes.now c.args.other_numbers.now c.args.other_texts.now in
    let p = c.requires in (
      starts c.args.pool.now c.args.pool_numbers.now c.args.calls.now c.args.s first other c.args.lines.now c.args.answers.now
          p.calls_value p.sound p.made_value.0,
      record { bytes = refl; numbers = refl; texts = refl; other_bytes = refl; other_numbers = refl; other_texts = refl; lines = refl },
    )

pub overflow_mul-k : goal.overflow_mul-k
overflow_mul-k c = omega (arith, c.loop-k-test.true, c.well_formed)

pub turn-a-requires : goal.turn-a-requires
turn-a-requires c =
    let first : Lent = lent_of c.args.bytes.now c.args.numbers.now c.args.texts.now in
    let other : Lent = lent_of c.args.other_bytes.now c.args.other_numbers.now c.args.other_texts.now in
    let at-start : State = state c.args.s first other c.args.lines.now [] in
    let l = c.loop-k in
    record {
      i_in_bounds = omega (arith, c.loop-k-test.true);
      calls_value = head_fits c.args.pool.now c.args.pool_numbers.now c.args.calls.now at-start c.args.answers.now
          l.held l.k l.bytes l.numbers l.texts l.other_bytes l.other_numbers l.other_texts l.lines l.answers l.invariant.0 c.loop-k-test.true;
      sound = l.invariant.0.sound;
    }

pub overflow_mul-k-in-loop-k : goal.overflow_mul-k-in-loop-k
overflow_mul-k-in-loop-k c = omega (arith, c.loop-k-test.true, c.well_formed)

pub put_answer-requires : goal.put_answer-requires
put_answer-requires c = omega (arith, c.loop-k-test.true, c.requires.made_value.1, c.loop-k.invariant.0.long)

pub moved-held-requires : goal.moved-held-requires
moved-held-requires c = omega (arith, c.loop-k-test.true, c.loop-k.invariant.0.made, c.well_formed)

pub loop-k-preserved : goal.loop-k-preserved
loop-k-preserved c =
    let first : Lent = lent_of c.args.bytes.now c.args.numbers.now c.args.texts.now in
    let other : Lent = lent_of c.args.other_bytes.now c.args.other_numbers.now c.args.other_texts.now in
    let at-start : State = state c.args.s first other c.args.lines.now [] in
    let l = c.loop-k in
    let w = c.put_answer in
    let k = c.turn-a.auto in
    let v = l.invariant.1 in (
      again c.args.pool.now c.args.pool_numbers.now c.args.calls.now at-start c.args.answers.now
          l.held l.k l.bytes l.numbers l.texts l.other_bytes l.other_numbers l.other_texts l.lines l.answers l.invariant.0
          c.requires.made_value.1 c.loop-k-test.true c.turn-a.result _ _ _ _ _ _ _ _ c.turn-a.ensures w.ensures w.auto.answers c.moved-held.result c.moved-held.ensures,
      record {
        bytes = k.bytes ∙ v.bytes;
        numbers = k.numbers ∙ v.numbers;
        texts = k.texts ∙ v.texts;
        other_bytes = k.other_bytes ∙ v.other_bytes;
        other_numbers = k.other_numbers ∙ v.other_numbers;
        other_texts = k.other_texts ∙ v.other_texts;
        lines = k.lines ∙ v.lines;
      },
    )

pub shape_of-bytes : goal.shape_of-bytes
shape_of-bytes c = c.loop-k.invariant.1.bytes

pub shape_of-numbers : goal.shape_of-numbers
shape_of-numbers c = c.loop-k.invariant.1.numbers

pub shape_of-texts : goal.shape_of-texts
shape_of-texts c = c.loop-k.invariant.1.texts

pub shape_of-other_bytes : goal.shape_of-other_bytes
shape_of-other_bytes c = c.loop-k.invariant.1.other_bytes

pub shape_of-other_numbers : goal.shape_of-other_numbers
shape_of-other_numbers c = c.loop-k.invariant.1.other_numbers

pub shape_of-other_texts : goal.shape_of-other_texts
shape_of-other_texts c = c.loop-k.invariant.1.other_texts

pub shape_of-lines : goal.shape_of-lines
shape_of-lines c = c.loop-k.invariant.1.lines

pub shape_of-answers : goal.shape_of-answers
shape_of-answers c = c.loop-k.invariant.0.long

pub returns : goal.returns
returns c =
    let first : Lent = lent_of c.args.bytes.now c.args.numbers.now c.args.texts.now in
    let other : Lent = lent_of c.args.other_bytes.now c.args.other_numbers.now c.args.other_texts.now in
    let at-start : State = state c.args.s first other c.args.lines.now [] in
    let l = c.loop-k in
    ran c.args.pool.now c.args.pool_numbers.now c.args.calls.now at-start c.args.answers.now
    l.held l.k l.bytes l.numbers l.texts l.other_bytes l.other_numbers l.other_texts l.lines l.answers l.invariant.0 c.requires.made_value.1 c.loop-k-test.false
