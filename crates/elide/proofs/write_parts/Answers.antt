-- The sizes are settled first; then the two parts stand one after the other over the front of the buffer.
use Rattle.std.proofs.Common.{◌≡◌, ◌++◌, length, length-append, ap, arith}
use Rattle.buffer.specs.Place.{over}
use Rattle.recording.specs.Outcome.{returned, lent_after}
use Rattle.elide.specs.Elide.{lent}
use Rattle.elide.proofs.CallLaws.{over_limit_lem, too_short, has_room, two_puts}
use Rattle.elide.proofs.PartLaws.{whole}
use Rattle.elide.proofs.write_parts.Goals as goal

pub returns-then-n-gt-LIMIT : goal.returns-then-n-gt-LIMIT
unfolding returned lent_after
returns-then-n-gt-LIMIT c =
    let p = c.args.p in
    let e = over_limit_lem (length c.args.out.now) p.width (p.first.now ++ p.second.now) (omega (arith, length-append p.first.now p.second.now, c.if-n-gt-LIMIT.true)) in
    (simp e, simp e)

pub returns-then-out-n : goal.returns-then-out-n
unfolding returned lent_after
returns-then-out-n c =
    let p = c.args.p in
    let n = length-append p.first.now p.second.now in
    let e = too_short (length c.args.out.now) p.width (p.first.now ++ p.second.now) (omega (arith, n, c.if-n-gt-LIMIT.false)) (omega (arith, n, c.if-out-n.true)) in
    (simp e, simp e)

pub returns : goal.returns
unfolding returned lent_after over
returns c =
    let p = c.args.p in
    let one = c.put-at in
    let two = c.put-end in
    let n = length-append p.first.now p.second.now in
    let e = has_room (length c.args.out.now) p.width (p.first.now ++ p.second.now) (omega (arith, n, c.if-n-gt-LIMIT.false)) (omega (arith, n, c.if-out-n.false)) in
    let r : two.result ≡ length (p.first.now ++ p.second.now) = omega (arith, n, one.ensures.0, two.ensures.0) in
    let both = two_puts p.first.now p.second.now c.args.out.now _ _ one.result (rw whole at one.ensures.1) (omega (arith, one.ensures.0)) (rw whole at two.ensures.1) in
    (simp (e, r), simp e (ap lent both))
