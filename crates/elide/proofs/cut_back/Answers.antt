-- The start, one character further back (`back_on`), and where that stops (`back_stops`, `back_end`).
use Rattle.std.proofs.Common.{◌≡◌, subst, ℕ, arith}
use Rattle.elide.proofs.BackLaws.{SoFar, back_start, back_on, back_stops, back_end}
use Rattle.elide.proofs.cut_back.Goals as goal
use Rattle.elide.proofs.cut_back.Goals.{else-loop-at-test, then-loop-at-test+then-left-w}

pub loop-at-init : goal.loop-at-init
loop-at-init c = back_start c.args.s.now c.args.max

pub loop-at-preserved : goal.loop-at-preserved
loop-at-preserved c =
    let l = c.loop-at in
    let g = c.seen_at in
    back_on c.args.s.now c.args.max l.at l.left c.start_before-p.result c.from-w.result c.requires l.invariant c.loop-at-test.true c.start_before-p.ensures (omega (arith, c.from-w.ensures, g.ensures.len_value.1))
    (omega (arith, c.from-w.ensures, g.ensures.le_len.2)) c.if-left-w.false

pub returns-clause-pos_value : goal.returns-clause-pos_value
returns-clause-pos_value c =
    let s = c.args.s.now in
    let max = c.args.max in
    let l = c.loop-at in
    elim c.loop-at-test.branch [
      | else-loop-at-test w ↦
          let z : l.at ≡ 0 = omega (arith, w.loop-at-test.false) in
          rw z (back_end s max l.left (subst (λ (n : ℕ). SoFar s max n l.left) z l.invariant))
      | then-loop-at-test+then-left-w w ↦ back_stops s max l.at l.left w.start_before-p.result w.from-w.result c.requires l.invariant w.loop-at-test.true w.start_before-p.ensures
          (omega (arith, w.from-w.ensures, w.seen_at.ensures.len_value.1)) w.if-left-w.true
    ]
