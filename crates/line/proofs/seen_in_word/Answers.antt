-- A character read in the rest of the data is the character of the word there (`at_char`), and none goes on past the word's end (`seen_inside`).
use Rattle.std.proofs.Common.{◌≡◌, ◌<◌, length, get_or, arith, rules}
use Rattle.line.specs.Rest.{word_text}
use Rattle.line.proofs.LineLaws as laws
use Rattle.line.proofs.seen_in_word.Goals as goal

pub returns-clause-value : goal.returns-clause-value
returns-clause-value c =
    let s = c.args.s.now in
    let more : c.args.i < length s = search rules in
    let is : c.in_ok-b.field-0.now ≡ get_or s c.args.i 0 = search rules in
    laws.at_char s c.args.i c.requires more (λ z. omega (arith, z, is)) (λ z. omega (arith, z, is)) c.seen_at.result c.seen_at.ensures.len_value.0 c.seen_at.ensures.len_value.1

pub returns-clause-len_in_bounds : goal.returns-clause-len_in_bounds
returns-clause-len_in_bounds c =
    (laws.seen_inside (word_text c.args.s.now) c.args.i c.seen_at.result (returns-clause-value c), search rules)
