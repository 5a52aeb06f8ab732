-- One byte more at each turn (`tail_more`); texts that differ in length or in a byte are not equal.
use Rattle.std.proofs.Common.{ℕ, ◌≡◌, ◌-◌, List, length, get_or, arith, rules}
use mathlib.Core.Path.{sym, ap, ◌∙◌}
use Rattle.share.proofs.Laws.{differ, alike, tail_more}
use Rattle.share.proofs.same_text.Goals as goal

pub returns-then-a-b : goal.returns-then-a-b
returns-then-a-b c = sym (differ _ _ (λ e. c.if-a-b.true (ap length e)))

pub loop-i-init : goal.loop-i-init
loop-i-init c = let x = c.args.a.now in let y = c.args.b.now in
    lib.ListN.drop_of_length-le x {i = length x} (omega arith) ∙ sym (lib.ListN.drop_of_length-le y {i = length x} (omega (arith, c.if-a-b.false)))

pub returns-then-a-i : goal.returns-then-a-i
returns-then-a-i c = sym (differ _ _ (λ e. c.if-a-i.true (ap (λ (x : List ℕ). get_or x (c.loop-i.i - 1) 0) e)))

pub loop-i-preserved : goal.loop-i-preserved
loop-i-preserved c = tail_more _ _ _ (search rules) (search rules) c.if-a-b.false c.if-a-i.false c.loop-i.invariant

pub returns : goal.returns
returns c = let z : c.loop-i.i ≡ 0 = omega arith in sym (alike _ _ (rw z at c.loop-i.invariant))
