-- One copy of the run's bytes, or so many stars.
use native.Mathlib.Omega.{arith}
use mathlib.Core.Path.{refl, sym, ap, ◌∙◌}
use Prim.Native.Nat.{ℕ, ◌+◌}
use mathlib.Core.List.{List}
use Rattle.buffer.specs.Place.{over_at}
use Rattle.readers.proofs.FloorLaws.{bytes-copied, bytes-starred, length-copied, length-starred}
use Rattle.readers.proofs.put_run.Goals as goal

pub put_bytes-r-requires : goal.put_bytes-r-requires
put_bytes-r-requires c =
    let a = c.args in
    (c.requires.0, c.requires.1, omega (arith, c.requires.2, length-copied a.content.now a.c.at a.run c.if-run.true c.requires.1))

pub returns-then-run : goal.returns-then-run
returns-then-run c =
    let a = c.args in
    let t = c.if-run.true in
    let e = c.put_bytes-r.ensures in record {
      at_value = (refl, e.at_value.1, e.at_value.2 ∙ ap (λ (n : ℕ). a.c.d + n) (sym (length-copied a.content.now a.c.at a.run t c.requires.1)), e.at_value.3, e.at_value.4);
      bytes_after = e.bytes_after ∙ ap (λ (x : List ℕ). over_at a.c.d x a.bytes.now) (sym (bytes-copied a.content.now a.c.at a.run t));
    }

pub put_byte_times-d-requires : goal.put_byte_times-d-requires
put_byte_times-d-requires c =
    let a = c.args in
    omega (arith, c.requires.2, length-starred a.content.now a.c.at a.run c.if-run.false)

pub returns : goal.returns
returns c =
    let a = c.args in
    let t = c.if-run.false in
    let e = c.put_byte_times-d.ensures in record {
      at_value = (refl, refl, e.0 ∙ ap (λ (n : ℕ). a.c.d + n) (sym (length-starred a.content.now a.c.at a.run t)), refl, refl);
      bytes_after = e.1 ∙ ap (λ (x : List ℕ). over_at a.c.d x a.bytes.now) (sym (bytes-starred a.content.now a.c.at a.run t));
    }
