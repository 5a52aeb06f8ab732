-- All calls fit: the first that does not ends the loop. Invariant: those left fit exactly if all do.
use native.Mathlib.Omega.{arith}
use borrow.Author.Rules.{rules}
use Rattle.requests.proofs.RequestLaws.{rest_all}
use Rattle.requests.proofs.RequestLaws.{none, one_bad, one_good}
use Rattle.requests.specs.Requests.{all_fit_in}
use lib.ListN.{length}
use mathlib.Core.Path.{sym, ap, ◌∙◌}
use Prim.Native.Nat.{◌/◌}
use Rattle.requests.proofs.all_fit.Goals as goal

pub loop-k-init : goal.loop-k-init
loop-k-init c = (omega arith, ap (all_fit_in c.args.p c.args.q) (rest_all (length c.args.calls.now / 8) c.args.calls.now))

pub returns-then-not-fits : goal.returns-then-not-fits
returns-then-not-fits c =
    let w = c.fits in
    let q = c.request_at in
    let l = c.loop-k in
    let n = length c.args.calls.now / 8 in
    sym (one_bad c.args.p c.args.q n l.k c.args.calls.now c.loop-k-test.true q.result w.result q.ensures w.ensures
    c.if-not-fits.true) ∙ l.invariant.1

pub loop-k-preserved : goal.loop-k-preserved
loop-k-preserved c =
    let w = c.fits in
    let q = c.request_at in
    let l = c.loop-k in
    let n = length c.args.calls.now / 8 in (
      search rules,
      sym (one_good c.args.p c.args.q n l.k c.args.calls.now c.loop-k-test.true q.result w.result q.ensures w.ensures
          (c.if-not-fits.false)) ∙ l.invariant.1,
    )

pub returns : goal.returns
returns c =
    let l = c.loop-k in
    sym (ap (all_fit_in c.args.p c.args.q) (none (length c.args.calls.now / 8) l.k c.args.calls.now c.loop-k-test.false)) ∙ l.invariant.1
