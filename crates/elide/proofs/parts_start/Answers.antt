-- Each way gives the parts that `PartLaws` says; the text fits if its cut to max, in one piece or in two, reaches its start.
use Rattle.std.proofs.Common.{◌-◌, sym, ◌∙◌, arith}
use borrow.Author.Rules.{part_to_end}
use Rattle.elide.specs.Elide.{trimmed}
use Rattle.elide.proofs.ElideLaws.{fits_back, reaches_start, passes-back}
use Rattle.elide.proofs.PartLaws.{two_cuts_back, front_well_formed, start_uncut, start_alone, start_both}
use Rattle.elide.proofs.parts_start.Goals as goal

pub returns-then-all-eq0 : goal.returns-then-all-eq0
returns-then-all-eq0 c =
    let x = c.args in
    let k = c.cut_back-all in
    let fits = reaches_start x.max x.text.now (sym k.ensures.pos_value.0 ∙ c.if-all-eq0.true) in
    let l = start_uncut x.max x.text.now x.ellipsis.now fits in
    (c.whole.ensures.0 ∙ l.0, c.whole.ensures.1 ∙ k.ensures.pos_value.1 ∙ (fits_back x.max x.text.now fits).1 ∙ l.1)

pub returns-then-max-mark : goal.returns-then-max-mark
unfolding trimmed
returns-then-max-mark c =
    let x = c.args in
    let k = c.cut_back-k in
    let w = c.whole-then-max-mark in
    let over = passes-back x.max x.text.now (λ e. c.if-all-eq0.false (c.cut_back-all.ensures.pos_value.0 ∙ e)) in
    let l = start_alone x.max x.text.now x.ellipsis.now over (omega (arith, c.display_width-mark.ensures.value, c.if-max-mark.true)) in
    (w.ensures.0 ∙ (rw (c.trim_start_zero_width_chars.ensures, part_to_end x.ellipsis.now k.result.pos) (rw (← k.ensures.pos_value.0) at l.0)), w.ensures.1 ∙ k.ensures.pos_value.1 ∙ l.1)

pub cut_back-more-requires : goal.cut_back-more-requires
cut_back-more-requires c =
    let k = c.cut_back-k-2 in
    front_well_formed _ c.args.text.now k.result.pos c.requires.0 k.ensures.pos_value.0

pub returns-then-more-eq0 : goal.returns-then-more-eq0
returns-then-more-eq0 c =
    let x = c.args in
    let k = c.cut_back-k-2 in
    let r = c.cut_back-more in
    let w = c.whole-then-more-eq0 in
    let both = two_cuts_back (x.max - c.display_width-mark.result) x.max x.text.now k.result.pos k.result.width r.result.pos r.result.width (omega arith) k.ensures.pos_value.0 k.ensures.pos_value.1
    r.ensures.pos_value.0 r.ensures.pos_value.1 in
    let fits = reaches_start x.max x.text.now (sym both.0 ∙ c.if-more-eq0.true) in
    let l = start_uncut x.max x.text.now x.ellipsis.now fits in
    (w.ensures.0 ∙ l.0, w.ensures.1 ∙ both.1 ∙ (fits_back x.max x.text.now fits).1 ∙ l.1)

pub returns : goal.returns
unfolding trimmed
returns c =
    let x = c.args in
    let k = c.cut_back-k-2 in
    let r = c.cut_back-more in
    let w = c.display_width-mark.ensures.value in
    let both = two_cuts_back (x.max - c.display_width-mark.result) x.max x.text.now k.result.pos k.result.width r.result.pos r.result.width (omega arith) k.ensures.pos_value.0 k.ensures.pos_value.1
    r.ensures.pos_value.0 r.ensures.pos_value.1 in
    let over = passes-back x.max x.text.now (λ e. c.if-more-eq0.false (both.0 ∙ e)) in
    let l = rw (← w) at (start_both x.max x.text.now x.ellipsis.now over (omega (arith, w, c.if-max-mark.false))) in
    (rw (c.trim_start_zero_width_chars-2.ensures, part_to_end x.text.now k.result.pos) (rw (← k.ensures.pos_value.0) at l.0), rw (← k.ensures.pos_value.1) at l.1)
