-- At most one line a byte and one more, so the line list does (`few_lines`, `numbers`).
use Rattle.std.proofs.Common.{◌≡◌, ◌*◌, length, take, ap, ◌∙◌, ℕ, List, rules, tests, arith}
use Rattle.recording.specs.Outcome.{answer_of}
use Rattle.layout.specs.Wrap.{line_numbers, wrap_lines_of}
use Rattle.sheet.specs.Sheet.{data_of}
use Rattle.rows.proofs.RowLaws.{held, few_lines, numbers}
use Rattle.rows.proofs.list_lines.Goals as goal

pub numbers_of-requires : goal.numbers_of-requires
numbers_of-requires c =
    let t = c.args.task in
    let u = c.unhex-n in
    let w = c.wrap_bytes in
    let n : c.map_or-count.result ≡ (answer_of w.result).number = search (rules, tests) in
    let d = take u.result u.new.out in
    let size : length d ≡ u.result = omega arith in
    omega (arith, n, few_lines t.width t.breaks d c.args.work.now.lines w.new.lines w.result w.ensures.data_in_bounds (omega (arith, size, u.ensures.value)) (omega arith) w.ensures.promised, size, u.ensures.value)

pub returns : goal.returns
returns c =
    let t = c.args.task in
    let u = c.unhex-n in
    let w = c.wrap_bytes in
    let n : c.map_or-count.result ≡ (answer_of w.result).number = search (rules, tests) in
    let d = take u.result u.new.out in
    let size : length d ≡ u.result = omega arith in
    let is : d ≡ data_of t.hex.now = held u.result (data_of t.hex.now) _ u.new.out u.ensures.value.0 u.ensures.out_after in
    let few = few_lines t.width t.breaks d c.args.work.now.lines w.new.lines w.result w.ensures.data_in_bounds (omega (arith, size, u.ensures.value)) (omega arith) w.ensures.promised in
    let e : c.numbers_of.result ≡ (answer_of w.result).number * 3 = omega (arith, n, c.numbers_of.ensures) in
    let all = numbers t.width t.breaks d c.args.work.now.lines w.new.lines w.result w.ensures.data_in_bounds (omega (arith, size, u.ensures.value)) (omega arith) w.ensures.promised c.numbers_of.result e in
    record {
      value = all ∙ ap (λ (x : List ℕ). line_numbers x (wrap_lines_of t.width t.breaks x)) is;
      upper_bound = omega (arith, e, few, size, u.ensures.value);
    }
