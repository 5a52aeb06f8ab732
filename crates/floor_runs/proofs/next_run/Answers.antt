-- Inside a character the run goes as the character goes (`inside`); from a character's start on it is a fresh one (`fresh`).
use native.Mathlib.Omega.{arith}
use Rattle.floor_runs.proofs.RunLaws.{inside, fresh}
use Rattle.floor_runs.proofs.next_run.Goals as goal

pub returns-then-w-last : goal.returns-then-w-last
returns-then-w-last c =
    let a = c.args in
    let x = c.min-end.ensures in
    let y = c.min.ensures in
    let z = c.requires.standing.passed in
    let q = c.place_at.ensures in
    let b = c.requires.at_in_bounds in (
      inside a.label.now a.content.bytes.now _ a.w.o a.w.c.at a.last.until a.last.copy _ _ (omega (arith, c.if-w-last.true, x, y, z, q, b.0)) (omega (arith, x, y)) (omega (arith, y)) b.1,
      omega (arith, x, y, q),
    )

pub fresh_run-requires : goal.fresh_run-requires
fresh_run-requires c =
    let x = c.min-end.ensures in
    let z = c.requires.standing.passed in
    let q = c.place_at.ensures in
    record { standing = c.requires.standing; at_lt_end = (omega (arith, x, z, q, c.requires.at_in_bounds.0), omega (arith, x), omega (arith, x, q)) }

pub returns : goal.returns
returns c =
    let a = c.args in
    let x = c.min-end.ensures in
    let q = c.place_at.ensures in
    let r = c.fresh_run.ensures in
    (fresh a.label.now a.content.bytes.now _ a.w.o a.w.c.at a.last.until a.last.copy _ _ _ (omega (arith, c.if-w-last.false)) (omega (arith, x)) r, omega (arith, r.before, x, q))
