-- What `plan_cell` promises gives the four pieces and their lengths (`CellLaws`); each piece is put where the one before it ended.
use native.Mathlib.Omega.{arith}
use Rattle.tally.specs.Tally.{tilde}
use Rattle.tally.proofs.CellLaws.{plan_narrow, cell_length, laid_put}
use Rattle.tally.proofs.put_cell.Goals as goal

pub overflow_sub-missing : goal.overflow_sub-missing
unfolding tilde
overflow_sub-missing c = plan_narrow c.args.width c.args.cell.now c.requires.1 c.plan_cell-p.result c.plan_cell-p.ensures.value

pub put_byte_times-a-requires : goal.put_byte_times-a-requires
unfolding tilde
put_byte_times-a-requires c =
    let x = c.args in
    let g = c.requires in
    let m = c.plan_cell-p in
    omega (arith, g.2, cell_length x.width x.cell.now g.1 m.result m.ensures.value x.alignment, c.before-left.ensures.upper_bound)

pub put-b-requires : goal.put-b-requires
unfolding tilde
put-b-requires c =
    let x = c.args in
    let g = c.requires in
    let m = c.plan_cell-p in
    let a = c.put_byte_times-a in
    (omega arith, m.ensures.content_in_bounds.0, omega (arith, g.2, cell_length x.width x.cell.now g.1 m.result m.ensures.value x.alignment, c.before-left.ensures.upper_bound, a.ensures.0, a.auto.out))

pub put-c-requires : goal.put-c-requires
unfolding tilde
put-c-requires c =
    let x = c.args in
    let g = c.requires in
    let m = c.plan_cell-p in
    let a = c.put_byte_times-a in
    let b = c.put-b in
    (omega arith, m.ensures.content_in_bounds.1, omega (arith, g.2, cell_length x.width x.cell.now g.1 m.result m.ensures.value x.alignment, c.before-left.ensures.upper_bound, a.ensures.0, a.auto.out, b.ensures.0, b.auto.out))

pub put_byte_times-requires : goal.put_byte_times-requires
unfolding tilde
put_byte_times-requires c =
    let x = c.args in
    let g = c.requires in
    let m = c.plan_cell-p in
    let a = c.put_byte_times-a in
    let b = c.put-b in
    let e = c.put-c in
    omega (arith, g.2, plan_narrow x.width x.cell.now g.1 m.result m.ensures.value, cell_length x.width x.cell.now g.1 m.result m.ensures.value x.alignment, c.before-left.ensures.upper_bound, a.ensures.0, a.auto.out, b.ensures.0, b.auto.out, e.ensures.0, e.auto.out)

pub returns : goal.returns
unfolding tilde
returns c =
    let x = c.args in
    let g = c.requires in
    let m = c.plan_cell-p in
    let kept = m.ensures.content_in_bounds in
    let l = c.before-left in
    let a = c.put_byte_times-a in
    let b = c.put-b in
    let e = c.put-c in
    let z = c.put_byte_times in (
      omega (arith, plan_narrow x.width x.cell.now g.1 m.result m.ensures.value, cell_length x.width x.cell.now g.1 m.result m.ensures.value x.alignment, l.ensures.upper_bound, a.ensures.0, b.ensures.0, e.ensures.0, z.ensures.0),
      laid_put x.width x.cell.now g.1 m.result m.ensures.value kept.0 kept.1 x.alignment x.at l.result a.result b.result e.result x.out.now _ _ _ _ (omega (arith, g.2)) l.ensures.value a.ensures.0 b.ensures.0 e.ensures.0 a.ensures.1 b.ensures.1 e.ensures.1 z.ensures.1,
    )
