-- What fits has its ranges within the pools (`fit`).
use Rattle.requests.proofs.RequestLaws.{fit}
use Rattle.requests.proofs.fitting_at.Goals as goal

pub returns : goal.returns
returns c =
    record {
      value = c.request_at.ensures;
      from_le_to = fit c.args.p c.args.q _ _ c.request_at.ensures c.requires.calls_value;
    }
