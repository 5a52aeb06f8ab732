-- The call whose numbers start at i: the promise of `apply` for its kind, width and ranges.
use Rattle.requests.proofs.ApplyLaws.{lined}
use Rattle.requests.specs.Requests.{request_in, job_in}
use Rattle.recording.specs.Read.{recording_of}
use mathlib.Core.Path.{sym, ap}
use lib.ListN.{drop}
use Rattle.requests.proofs.make_call.Goals as goal

pub returns : goal.returns
unfolding job_in
returns c =
    let ps = c.args.pool.now in
    let ns = c.args.pool_numbers.now in
    lined (job_in ps ns (request_in (drop c.args.i c.args.calls.now))) (job_in ps ns c.fitting_at-x.result)
    (recording_of c.args.content) c.args.bytes.now c.args.numbers.now c.args.texts.now c.args.lines.now _ _ _ _
    c.apply.result (ap (job_in ps ns) (sym c.fitting_at-x.ensures.value)) c.apply.ensures
