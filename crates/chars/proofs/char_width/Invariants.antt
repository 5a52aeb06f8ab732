-- What the rows so far say, together with the rows that are left, is what all of them say.
use Rattle.std.proofs.Common.{◌≡◌, drop}
use mathlib.Core.Bool.{◌||◌}
use Rattle.chars.proofs.RowLaws.{rows, asked}
use Rattle.chars.proofs.char_width.Given as goal

abbrev pub invariant-loop-first : goal.invariant-loop-first
invariant-loop-first l =
    ((l.zero || asked 0 (drop l.first-index rows) l.code) ≡ asked 0 rows l.code)
    × ((l.wide || asked 2 (drop l.first-index rows) l.code) ≡ asked 2 rows l.code)
