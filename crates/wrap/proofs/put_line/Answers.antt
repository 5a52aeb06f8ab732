-- A skip and a keep write the items of one line (`line_items`).
use native.Mathlib.Omega.{arith}
use Rattle.wrap.proofs.PlanLaws as laws
use mathlib.Core.Path.{ap}
use Prim.Native.Nat.{ℕ, ◌-◌}
use Rattle.wrap.proofs.put_line.Goals as goal

pub skip-c-requires : goal.skip-c-requires
skip-c-requires c =
    let p = c.requires in
    record {
      ready = p.ready;
      at_le_n = (p.at_le_first.0, omega (arith, p.at_le_first.1, p.at_le_first.2));
      fits = laws.skip_fits _ _ _ _ p.fits;
    }

pub keep-requires : goal.keep-requires
keep-requires c =
    let a = c.args in
    let p = c.requires in
    let s = c.skip-c in
    let n = ap (λ (x : ℕ). a.end - x) s.ensures.ready_2.1 in
    record {
      ready = s.ensures.ready_2.0;
      at_le_n = (omega (arith, s.ensures.ready_2.1, p.at_le_first.1), p.at_le_first.2);
      fits = laws.keep_fits _ _ _ _ _ _ _ p.fits s.ensures.result_after s.ensures.result_value n;
    }

pub returns : goal.returns
returns c =
    let a = c.args in
    let p = c.requires in
    let s = c.skip-c in
    let k = c.keep in
    let n = ap (λ (x : ℕ). a.end - x) s.ensures.ready_2.1 in record {
      result_after = laws.line_wrote _ _ _ _ _ _ _ p.fits s.ensures.result_after s.ensures.result_value n _ k.ensures.result_after;
      result_value = laws.line_left_lem _ _ _ _ _ _ _ p.fits s.ensures.result_after s.ensures.result_value n _ k.ensures.result_value;
      ready_2 = (k.ensures.ready_2.0, k.ensures.ready_2.1);
    }
