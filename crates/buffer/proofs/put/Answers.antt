-- `put` lends the part of the buffer from `at` on to the copying leaf; what comes back is the buffer with that part written (`lent_part`), which is one run more (`part_held`).
use native.Mathlib.Omega.{arith}
use borrow.Author.Rules.{rules}
use lib.ListN.{length-take, length-drop}
use mathlib.Core.Path.{refl}
use mathlib.Core.List.{[], ◌∷◌}
use Prim.Native.Nat.{◌+◌, ◌-◌}
use Rattle.buffer.specs.LendsOn.{LendsOn, own_arrays, acts, touches, loops, calls, called}
use Rattle.buffer.specs.Place.{part}
use Rattle.buffer.proofs.Laws.{lent_part}
use Rattle.buffer.proofs.HeldLaws.{part_held}
use Rattle.buffer.proofs.put.Code as code
use Rattle.buffer.proofs.put.Goals as goal

pub returns : goal.returns
returns g c =
    let a = c.args in
    let copied = lent_part a.at (a.at + (a.b - a.a) - a.at) (part a.a a.b a.src.now) a.out.now c.copy_from_slice.new.self (simp (length-take, length-drop) (omega arith)) c.copy_from_slice.ensures.after in
    (search rules, copied, part_held a.at _ a.a a.b a.src.now a.out.now _ (search rules) copied (search rules))

-- a run goes by one copy, to its place
pub put-lends-on : LendsOn code.function [] 0 ("core::slice::edits::slice+T::copy_from_slice" ∷ [])
unfolding own_arrays acts touches loops calls called
put-lends-on = refl
