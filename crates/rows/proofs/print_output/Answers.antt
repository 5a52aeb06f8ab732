-- What is written is the front of the buffer, where the output stands.
use Rattle.std.proofs.Common.{subst}
use Rattle.std.proofs.lemmas.Result.{on_ok_weaker}
use Rattle.std.specs.Io.KnownBytes.{Appends}
use Rattle.rows.proofs.RowLaws.{held}
use Rattle.rows.proofs.print_output.Goals as goal

pub returns : goal.returns
returns g c =
    let v = c.write_output-k.ensures.value in
    on_ok_weaker c.write_all.result (λ w. subst (Appends _ _) (held _ _ _ _ v.0 v.1) w) c.write_all.ensures.bytes
