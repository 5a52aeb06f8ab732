-- The four bytes from `at` on, missing ones 0, decide the character that starts there (`read_in`).
use Rattle.std.proofs.Common.{◌≡◌, arith}
use mathlib.Core.Path.{ap, ◌∙◌}
use Rattle.chars.specs.Chars.{char_in}
use Rattle.chars.specs.Read.{read_of}
use Rattle.chars.specs.declared.Read.{Read}
use Rattle.chars.proofs.CharsLaws.{char_some, char_four, char_inside}
use Rattle.chars.proofs.ReaderLaws.{read_in}
use Rattle.chars.proofs.read_char.Goals as goal

is_char : (c : goal.After-decode) → c.decode.result ≡ read_of (char_in c.args.at c.args.s.now)
is_char c = c.decode.ensures ∙ ap read_of (read_in c.args.s.now c.args.at _ _ _ c.byte_at-b.ensures c.byte_at-c.ensures c.byte_at-d.ensures)

pub returns-clause-value : goal.returns-clause-value
returns-clause-value c = is_char c

pub returns-clause-le_len : goal.returns-clause-le_len
returns-clause-le_len c =
    let s = c.args.s.now in
    let at = c.args.at in
    let n = ap (λ (r : Read). r.len) (is_char c) in
    (omega (arith, n, char_some s at c.requires), omega (arith, n, char_four s at c.requires), omega (arith, n, char_inside s at c.requires))
