-- `put_bytes` is one `put`, which promises the run.
use mathlib.Core.Path.{refl}
use mathlib.Core.List.{[], ◌∷◌}
use Rattle.buffer.specs.LendsOn.{LendsOn, own_arrays, acts, touches, loops, calls, called}
use Rattle.writer.proofs.put_bytes.Code.Mir as code
use Rattle.writer.proofs.put_bytes.Goals as goal

pub returns : goal.returns
returns c =
    let e = c.put-d.ensures in
    record {
      at_value = (refl, refl, e.0, refl, refl);
      bytes_after = e.1;
      run_held = e.2;
    }

-- the run goes by one `put`
pub put-bytes-lends-on : LendsOn code.function [] 0 ("buffer::put" ∷ [])
unfolding own_arrays acts touches loops calls called
put-bytes-lends-on = refl
