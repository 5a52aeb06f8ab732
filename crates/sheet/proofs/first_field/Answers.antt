-- The bytes up to the first space, as many as `find` says.
use Rattle.std.proofs.Common.{length, ◌≡◌, arith}
use Rattle.sheet.specs.Sheet.{up_to}
use Rattle.sheet.proofs.SheetLaws.{up_to_take}
use Rattle.sheet.proofs.first_field.Goals as goal

pub returns : goal.returns
returns c =
    let s = c.args.s.now in
    let e : c.find.result ≡ length (up_to 0x20 s) = omega (arith, c.find.ensures.value) in
    rw e (up_to_take 0x20 s)
