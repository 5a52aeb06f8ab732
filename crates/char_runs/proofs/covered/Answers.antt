-- The start is visible ASCII (`visible_plain`), and each turn is one character further (`plain_further`).
use Rattle.std.proofs.Common.{arith}
use Rattle.char_runs.proofs.RunLaws.{visible_plain, plain_further}
use Rattle.char_runs.proofs.covered.Goals as goal

pub loop-i-init : goal.loop-i-init
loop-i-init c =
    let a = c.args in
    let v = c.visible_end-i in
    visible_plain a.s.now a.at a.end v.result v.ensures.0 v.ensures.1 c.requires.1 v.ensures.2

pub loop-i-preserved : goal.loop-i-preserved
loop-i-preserved c =
    let l = c.loop-i in
    let k = c.seen_at-c in
    let a = c.args in
    plain_further a.s.now a.at a.end l.i l.width k.result.len k.result.width (omega arith) (omega arith)
    k.ensures.le_len.0 k.ensures.le_len.2 k.ensures.len_value.0 k.ensures.len_value.1 c.if-s-i-ne10.true l.invariant
