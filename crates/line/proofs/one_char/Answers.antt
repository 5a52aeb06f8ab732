-- What is passed, and the zero-width characters from there on, is the whole head (`one_start`, `zero_more`), at the first other character too (`zero_pass`, `zero_end`).
use Rattle.std.proofs.Common.{◌≡◌, drop, arith}
use Rattle.chars.specs.Cut.{zero_width_len_of}
use Rattle.line.specs.Rest.{word_text}
use Rattle.line.specs.Line.{one_head}
use Rattle.line.proofs.LineLaws as laws
use Rattle.line.proofs.RestLaws.{word_le}
use Rattle.line.proofs.one_char.Goals as goal
use Rattle.line.proofs.one_char.Goals.{in-Some-seen_in_word+then-c-ne0, in_default-seen_in_word}

pub returns-in_default-clause-value : goal.returns-in_default-clause-value
returns-in_default-clause-value c = laws.one_none c.args.word.now c.in_default.ensures.value

pub loop-c-init : goal.loop-c-init
loop-c-init c =
    let e = laws.one_start c.args.word.now c.in-Some.first c.in-Some.ensures.value in
    let n = laws.seen_inside (word_text c.args.word.now) 0 c.in-Some.first c.in-Some.ensures.value in
    record { first = omega arith; within = omega (arith, n); head = e.0 }

pub overflow_add-at : goal.overflow_add-at
overflow_add-at c = omega (arith, word_le c.args.word.now, c.in-Some-seen_in_word.ensures.len_in_bounds)

pub loop-c-smaller : goal.loop-c-smaller
loop-c-smaller c =
    let g = c.in-Some-seen_in_word in
    omega (arith, laws.seen_some (word_text c.args.word.now) c.loop-c.at g.c g.ensures.value, laws.seen_inside (word_text c.args.word.now) c.loop-c.at g.c g.ensures.value)

pub loop-c-preserved : goal.loop-c-preserved
loop-c-preserved c =
    let g = c.in-Some-seen_in_word in
    let n = laws.zero_more (word_text c.args.word.now) c.loop-c.at g.c g.ensures.value c.if-c-ne0.false in
    record { first = omega arith; within = laws.seen_inside (word_text c.args.word.now) c.loop-c.at g.c g.ensures.value; head = omega (arith, n, c.loop-c.invariant.head) }

pub returns-clause-value : goal.returns-clause-value
returns-clause-value c =
    let d = c.args.word.now in
    let first = laws.one_start d c.in-Some.first c.in-Some.ensures.value in
    let none : zero_width_len_of (drop c.loop-c.at (word_text d)) ≡ 0 = elim c.match-seen_in_word-2.branch [
      | in-Some-seen_in_word+then-c-ne0 w ↦ laws.zero_pass (word_text d) c.loop-c.at w.in-Some-seen_in_word.c w.in-Some-seen_in_word.ensures.value w.if-c-ne0.true
      | in_default-seen_in_word w ↦ laws.zero_end (word_text d) c.loop-c.at w.in_default-seen_in_word.ensures.value
    ] in
    let p : c.loop-c.at ≡ (one_head d).len = omega (arith, none, c.loop-c.invariant.head) in
    let q : c.from.result ≡ (one_head d).width = omega (arith, first.1, c.from.ensures) in
    λ i. record { len = p i; width = q i }

pub returns-clause-len_in_bounds : goal.returns-clause-len_in_bounds
returns-clause-len_in_bounds c =
    omega (arith, word_le c.args.word.now, c.from.ensures, c.in-Some.ensures.len_in_bounds.1, c.loop-c.invariant, laws.seen_some (word_text c.args.word.now) 0 c.in-Some.first c.in-Some.ensures.value)
