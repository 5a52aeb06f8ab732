-- An empty input is one line without bytes; of any other a line's row is put at the end of what is done (`PutLaws`).
use native.Mathlib.Omega.{arith}
use mathlib.Core.Path.{sym, ap, ◌∙◌}
use lib.ListN.{length}
use Rattle.buffer.specs.Place.{over_at}
use Rattle.recording.specs.Recording.{Bytes}
use Rattle.tally.proofs.PutLaws.{one_line, fit_one, rows_start, rows_finish, fit_here, row_room, rows_again}
use Rattle.tally.proofs.put_rows.Goals as goal

pub put_row-requires : goal.put_row-requires
put_row-requires c =
    let x = c.args in
    (fit_one _ _ c.if-input-eq0.true c.requires.0, omega (arith, ap length (one_line x.columns.now x.input.now c.if-input-eq0.true), c.requires.1))

pub returns-then-input-eq0 : goal.returns-then-input-eq0
returns-then-input-eq0 c =
    let x = c.args in
    let p = c.put_row in
    let e = one_line x.columns.now x.input.now c.if-input-eq0.true in
    (omega (arith, p.ensures.0, ap length e), p.ensures.1 ∙ ap (λ (l : Bytes). over_at 0 l x.out.now) (sym e))

pub loop-from-init : goal.loop-from-init
loop-from-init c = rows_start _ _ _ (λ z. omega (arith, z, c.if-input-eq0.false)) c.requires.0

pub put_row-end-requires : goal.put_row-end-requires
put_row-end-requires c =
    let s = c.loop-from.invariant in
    let more = c.loop-from-test.true in
    let f = c.find-e in
    (fit_here _ _ _ _ _ _ s more f.result f.ensures.value, row_room _ _ _ _ _ _ s more f.result f.ensures.value c.requires.1)

pub loop-from-preserved : goal.loop-from-preserved
loop-from-preserved c =
    let f = c.find-e in
    let p = c.put_row-end in
    rows_again _ _ _ _ _ _ c.loop-from.invariant c.loop-from-test.true f.result f.ensures.value p.result _ p.ensures.0 p.ensures.1 (omega (arith, p.auto.out))

pub returns : goal.returns
returns c = rows_finish _ _ _ _ _ _ c.loop-from.invariant (omega (arith, c.loop-from-test.false))
