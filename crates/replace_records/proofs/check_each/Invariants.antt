-- The scan of the records that are left, from the state so far, is the scan of all.
use mathlib.Core.Path.{◌≡◌}
use lib.ListN.{drop}
use Rattle.replace.specs.Records.{scan, check_all}
use Rattle.replace_records.proofs.check_each.Given as goal

abbrev pub invariant-loop-x : goal.invariant-loop-x
invariant-loop-x l = check_all l.n l.t (drop l.x-index l.records) l.s ≡ check_all l.n l.t l.records (scan 0 0)
