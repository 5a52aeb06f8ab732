-- A character that fits is kept (`kept_more`), and the first that does not ends what is kept (`kept_none`).
use Rattle.std.proofs.Common.{arith}
use Rattle.chars.proofs.FoldLaws.{kept_more, kept_none}
use Rattle.chars.proofs.CharsLaws.{chars_end}
use Rattle.chars.proofs.cut_end.Goals as goal
use Rattle.chars.proofs.cut_end.Goals.{else-loop-at-test, then-loop-at-test+then-left-w}

pub loop-at-preserved : goal.loop-at-preserved
loop-at-preserved c =
    let e = c.seen_at-c.ensures.len_value in
    let n = kept_more c.args.s.now c.loop-at.at _ _ c.loop-at-test.true e.0 e.1 c.loop-at.left c.if-left-w.false in
    record { within = omega arith; room = omega arith; small = omega arith; bytes = omega (arith, n.0); columns = omega (arith, n.1) }

pub returns-clause-pos_value : goal.returns-clause-pos_value
returns-clause-pos_value c =
    elim c.loop-at-test.branch [
      | else-loop-at-test w ↦ let n = chars_end c.args.s.now c.loop-at.at w.loop-at-test.false in grind (arith, n)
      | then-loop-at-test+then-left-w w ↦
          let e = w.seen_at-c.ensures.len_value in
          let n = kept_none c.args.s.now c.loop-at.at _ _ w.loop-at-test.true e.0 e.1 c.loop-at.left w.if-left-w.true in
          grind (arith, n)
    ]
