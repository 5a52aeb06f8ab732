-- The tests in their order (`CallLaws`).
use native.Mathlib.Omega.{arith}
use mathlib.Core.Path.{sym}
use Rattle.tally.proofs.CallLaws.{input_long, columns_wrong, lines_many}
use Rattle.tally.proofs.check_shape.Goals as goal

pub returns-then-input-gt-DATA_LIMIT : goal.returns-then-input-gt-DATA_LIMIT
returns-then-input-gt-DATA_LIMIT c = input_long c.args.columns.now c.args.input.now (omega (arith, c.if-input-gt-DATA_LIMIT.true))

pub returns-then-wrong_columns : goal.returns-then-wrong_columns
returns-then-wrong_columns c = columns_wrong c.args.columns.now c.args.input.now (omega (arith, c.if-input-gt-DATA_LIMIT.false)) (sym c.if-wrong_columns.ensures)

pub returns-then-lines-gt-LINE_LIMIT : goal.returns-then-lines-gt-LINE_LIMIT
returns-then-lines-gt-LINE_LIMIT c =
    lines_many c.args.columns.now c.args.input.now (omega (arith, c.if-input-gt-DATA_LIMIT.false)) (sym c.if-wrong_columns.ensures) (omega (arith, c.line_count-lines.ensures, c.if-lines-gt-LINE_LIMIT.true))

pub returns : goal.returns
returns c =
    record {
      short = omega (arith, c.if-input-gt-DATA_LIMIT.false);
      right = sym c.if-wrong_columns.ensures;
      count = c.line_count-lines.ensures;
      few = omega (arith, c.if-lines-gt-LINE_LIMIT.false);
    }
