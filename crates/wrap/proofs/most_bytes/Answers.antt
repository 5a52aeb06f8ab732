-- The lines joined by 0A take at most as many bytes as the data if no word is broken (`joined_short`); else a line for each byte and one more (`lines_few`).
use native.Mathlib.Omega.{arith}
use Rattle.wrap_lines.proofs.BoundLaws.{lines_few, shown_few, joined_short}
use Rattle.wrap.proofs.most_bytes.Goals as goal
use Rattle.wrap.proofs.most_bytes.Goals.{else-break_words-via-then-break_words+else-width-ne0, else-break_words-via-else-break_words}

pub returns-then-width-ne0 : goal.returns-then-width-ne0
returns-then-width-ne0 c =
    let a = c.args in
    omega (arith, lines_few a.width a.break_words a.content.now c.requires, shown_few a.width a.break_words a.content.now c.requires)

pub returns-else-break_words : goal.returns-else-break_words
returns-else-break_words c =
    let a = c.args in
    joined_short a.width a.break_words a.content.now c.requires
    (elim c.else-break_words.branch [
      | else-break_words-via-then-break_words+else-width-ne0 w ↦ rw (w.if-break_words.true, w.if-width-ne0.false)
      | else-break_words-via-else-break_words w ↦ rw w.if-break_words.false
    ])
