-- The raw sequences, the labels of the content, and those of the second recording that the content does not have; each count stops above the limit.
use Prim.Native.Nat.{ℕ, ◌-◌}
use mathlib.Core.Path.{ap}
use mathlib.Core.Logic.{⊎_elim}
use Rattle.share.proofs.FirstLaws.{size_raws, size_alone, size_over, size_both}
use Rattle.share.proofs.exact_size.Goals as goal

pub returns-then-raws-gt65536 : goal.returns-then-raws-gt65536
returns-then-raws-gt65536 c =
    size_raws _ _ _ _ _ _ _ _ (ap (λ (k : ℕ). k - c.args.gone) c.raw_size.ensures.0) c.raw_size-2.ensures.0 c.if-raws-gt65536.true

pub returns-then-n-eq0 : goal.returns-then-n-eq0
returns-then-n-eq0 c =
    let ra = ap (λ (k : ℕ). k - c.args.gone) c.raw_size.ensures.0 in
    let rb = c.raw_size-2.ensures.0 in
    let r = c.more_labels-one.ensures.counts in
    ⊎_elim (size_alone _ _ _ _ _ _ _ _ ra rb _ r) (λ q. size_over _ _ _ _ _ _ _ _ ra rb _ r q.1) c.then-n-eq0.either

pub returns : goal.returns
returns c =
    let one = c.more_labels-one.ensures in
    size_both _ _ _ _ _ _ _ _ (ap (λ (k : ℕ). k - c.args.gone) c.raw_size.ensures.0) c.raw_size-2.ensures.0 _ one.counts c.if-n-eq0.false c.if-one-gt65536.false
    c.more_labels-one.new.firsts _ one.serve _ c.more_labels.ensures.counts
