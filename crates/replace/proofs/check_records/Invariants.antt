-- The scan of the records that are left, from the state so far, is the scan of all.
use mathlib.Core.Path.{◌≡◌}
use Rattle.replace.specs.Records.{records_of, scan, check_all}
use Rattle.replace.specs.Read.{records_left}
use Rattle.replace.proofs.check_records.Given as goal

abbrev pub invariant-loop-x : goal.invariant-loop-x
invariant-loop-x l = check_all l.n l.t (records_left l.x-iterator) l.s ≡ check_all l.n l.t (records_of l.records) (scan 0 0)
