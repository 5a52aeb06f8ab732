-- While too much is left there is a character (`some_left`), and it goes (`longest_next`); what is left then is the longest ending (`longest_whole`).
use Rattle.std.proofs.Common.{arith, length, drop, ◌-◌, ◌≡◌, ◌<◌, sym, ap}
use mathlib.Core.Path.{◌∙◌}
use mathlib.Core.List.{List}
use lib.ListN.{length-drop}
use Rattle.chars.specs.Chars.{Character, chars, bytes_of, width_of}
use Rattle.chars.proofs.CharsLaws.{bytes-chars, valid-chars, width_bound}
use Rattle.chars.proofs.CutLaws.{longest, start_pos_lem, start_width_lem, longest_whole}
use Rattle.chars.proofs.FoldLaws.{width_next, some_left, longest_next}
use Rattle.chars.proofs.truncate_start_pos.Goals as goal

pub seen_at-c-requires : goal.seen_at-c-requires
seen_at-c-requires c = some_left c.args.s.now c.loop-left.at (omega arith)

pub overflow_sub-left : goal.overflow_sub-left
overflow_sub-left c =
    let e = c.seen_at-c.ensures.len_value in
    let n = width_next c.args.s.now c.loop-left.at _ _ (some_left c.args.s.now c.loop-left.at (omega arith)) e.0 e.1 in
    omega (arith, n)

pub loop-left-preserved : goal.loop-left-preserved
loop-left-preserved c =
    let s = c.args.s.now in
    let at = c.loop-left.at in
    let e = c.seen_at-c.ensures.len_value in
    let more : at < length s = some_left s at (omega arith) in
    let n = width_next s at _ _ more e.0 e.1 in
    let k = longest_next _ s at _ more e.0 (rw c.loop-left.invariant.here at c.loop-left-test.true) in
    record { within = omega arith; here = omega (arith, n); same = sym k ∙ c.loop-left.invariant.same }

pub returns-clause-pos_value : goal.returns-clause-pos_value
returns-clause-pos_value c =
    let s = c.args.s.now in
    let at = c.loop-left.at in
    let rest = chars (drop at s) in
    let e : longest c.args.max (chars s) ≡ rest = sym c.loop-left.invariant.same ∙ longest_whole c.args.max rest (omega arith) in
    let bytes : length (bytes_of rest) ≡ length s - at = ap length (bytes-chars (drop at s)) ∙ length-drop at s in
    let kept = ap (λ (cs : List Character). length (bytes_of cs)) e in
    (omega (arith, start_pos_lem c.args.max s), c.loop-left.invariant.here ∙ sym (start_width_lem c.args.max s ∙ ap width_of e))

pub returns-clause-pos_in_bounds : goal.returns-clause-pos_in_bounds
returns-clause-pos_in_bounds c =
    let s = c.args.s.now in
    let at = c.loop-left.at in
    let b = width_bound (chars (drop at s)) (valid-chars (drop at s)) in
    (omega arith, omega arith, omega (arith, b, ap length (bytes-chars (drop at s)), length-drop at s))
