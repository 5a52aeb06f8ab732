-- What comes after the first space, or nothing (`after_from`).
use Rattle.std.proofs.Common.{◌≡◌, length, ◌∙◌, arith}
use borrow.Author.Rules.{part_to_end}
use Rattle.sheet.specs.Sheet.{up_to}
use Rattle.sheet.proofs.SheetLaws.{after_from}
use Rattle.sheet.proofs.after_space.Goals as goal

pub returns : goal.returns
returns c =
    let s = c.args.s.now in
    let e : c.find-e.result ≡ length (up_to 0x20 s) = omega (arith, c.find-e.ensures.value) in
    part_to_end s c.min.result ∙ (rw c.min.ensures (after_from 0x20 s c.find-e.result e))
