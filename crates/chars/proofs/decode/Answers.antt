-- The tests of the code are those of `decoded`, one after the other.
use Rattle.std.proofs.Common.{arith}
use Rattle.std.proofs.lemmas.Bool.Decides.{nat_tests}
use Rattle.chars.proofs.ReaderLaws.{decoded}
use Rattle.chars.proofs.decode.Goals as goal

pub returns-in_default : goal.returns-in_default
returns-in_default c = let e = decoded c.args.a c.args.b c.args.c c.args.d _ _ _ c.lead_in-lead.ensures in grind (arith, nat_tests)

pub returns-in_default-2 : goal.returns-in_default-2
returns-in_default-2 c = let e = decoded c.args.a c.args.b c.args.c c.args.d _ _ _ c.lead_in-lead.ensures in grind (arith, nat_tests)

pub returns-in-3 : goal.returns-in-3
returns-in-3 c = let e = decoded c.args.a c.args.b c.args.c c.args.d _ _ _ c.lead_in-lead.ensures in grind (arith, nat_tests)

pub returns-in_default-3 : goal.returns-in_default-3
returns-in_default-3 c = let e = decoded c.args.a c.args.b c.args.c c.args.d _ _ _ c.lead_in-lead.ensures in grind (arith, nat_tests)

pub returns-in_default-4 : goal.returns-in_default-4
returns-in_default-4 c = let e = decoded c.args.a c.args.b c.args.c c.args.d _ _ _ c.lead_in-lead.ensures in grind (arith, nat_tests)

pub returns-in-2 : goal.returns-in-2
returns-in-2 c = let e = decoded c.args.a c.args.b c.args.c c.args.d _ _ _ c.lead_in-lead.ensures in grind (arith, nat_tests)

pub returns-in-1 : goal.returns-in-1
returns-in-1 c = let e = decoded c.args.a c.args.b c.args.c c.args.d _ _ _ c.lead_in-lead.ensures in grind (arith, nat_tests)

pub returns-in-0 : goal.returns-in-0
returns-in-0 c = let e = decoded c.args.a c.args.b c.args.c c.args.d _ _ _ c.lead_in-lead.ensures in grind (arith, nat_tests)
