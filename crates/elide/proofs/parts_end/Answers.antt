-- Each way gives the parts that `PartLaws` says; the text fits if its cut to max, in one piece or in two, reaches its end.
use Rattle.std.proofs.Common.{◌-◌, sym, ◌∙◌, arith}
use borrow.Author.Rules.{part_to_end}
use Rattle.chars.proofs.FitLaws.{two_cuts, fits_whole, reaches_end, passes-max}
use Rattle.elide.proofs.PartLaws.{end_uncut, end_alone, end_both}
use Rattle.elide.proofs.parts_end.Goals as goal

pub returns-then-all-text : goal.returns-then-all-text
returns-then-all-text c =
    let x = c.args in
    let k = c.cut_end-all in
    let fits = reaches_end x.max x.text.now (sym k.ensures.pos_value.0 ∙ c.if-all-text.true) in
    let l = end_uncut x.max x.text.now x.ellipsis.now fits in
    (c.whole.ensures.0 ∙ l.0, c.whole.ensures.1 ∙ k.ensures.pos_value.1 ∙ (fits_whole x.max x.text.now fits).1 ∙ l.1)

pub returns-then-max-mark : goal.returns-then-max-mark
returns-then-max-mark c =
    let x = c.args in
    let k = c.cut_end-k in
    let w = c.whole-then-max-mark in
    let over = passes-max x.max x.text.now (λ e. c.if-all-text.false (c.cut_end-all.ensures.pos_value.0 ∙ e)) in
    let l = end_alone x.max x.text.now x.ellipsis.now over (omega (arith, c.display_width-mark.ensures.value, c.if-max-mark.true)) in
    (w.ensures.0 ∙ (rw (← k.ensures.pos_value.0) at l.0), w.ensures.1 ∙ k.ensures.pos_value.1 ∙ l.1)

pub returns-then-k-more : goal.returns-then-k-more
returns-then-k-more c =
    let x = c.args in
    let k = c.cut_end-k-2 in
    let r = c.cut_end-more in
    let w = c.whole-then-k-more in
    let both = two_cuts (x.max - c.display_width-mark.result) x.max x.text.now _ k.result.pos k.result.width r.result.pos r.result.width (omega arith) k.ensures.pos_value.0 k.ensures.pos_value.1
    (part_to_end x.text.now k.result.pos) r.ensures.pos_value.0 r.ensures.pos_value.1 in
    let fits = reaches_end x.max x.text.now (sym both.0 ∙ c.if-k-more.true) in
    let l = end_uncut x.max x.text.now x.ellipsis.now fits in
    (w.ensures.0 ∙ l.0, w.ensures.1 ∙ both.1 ∙ (fits_whole x.max x.text.now fits).1 ∙ l.1)

pub returns : goal.returns
returns c =
    let x = c.args in
    let k = c.cut_end-k-2 in
    let r = c.cut_end-more in
    let w = c.display_width-mark.ensures.value in
    let both = two_cuts (x.max - c.display_width-mark.result) x.max x.text.now _ k.result.pos k.result.width r.result.pos r.result.width (omega arith) k.ensures.pos_value.0 k.ensures.pos_value.1
    (part_to_end x.text.now k.result.pos) r.ensures.pos_value.0 r.ensures.pos_value.1 in
    let over = passes-max x.max x.text.now (λ e. c.if-k-more.false (both.0 ∙ e)) in
    let l = rw (← w) at (end_both x.max x.text.now x.ellipsis.now over (omega (arith, w, c.if-max-mark.false))) in
    (rw (← k.ensures.pos_value.0) at l.0, rw (← k.ensures.pos_value.1) at l.1)
