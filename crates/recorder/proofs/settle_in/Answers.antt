-- `settle_in`: lengths that `settle` does not refuse lie in the buffers (`settled_in`).
use Rattle.recorder.proofs.AddLaws.{settled_in}
use Rattle.recorder.proofs.settle_in.Goals as goal

pub returns-clause-room : goal.returns-clause-room
returns-clause-room c = settled_in _ _ _ _ _ c.in_ok-settle.ensures
