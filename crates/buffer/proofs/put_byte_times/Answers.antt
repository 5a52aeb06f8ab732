-- At the end the part of the buffer from `at` on is the byte n times; what comes back is the buffer with that part written (`lent_part`), which is one run more (`run_held`).
use native.Mathlib.Omega.{arith}
use borrow.Author.Rules.{rules}
use Prim.Native.Nat.{ℕ, ◌+◌, ◌-◌}
use mathlib.Core.Path.{◌≡◌, sym, ap, ◌∙◌}
use lib.ListN.{length, take, drop, replicate, length-replicate, length-take, length-drop}
use Rattle.std.proofs.lemmas.List.{take_all}
use Rattle.buffer.proofs.Laws.{lent_part}
use Rattle.buffer.proofs.HeldLaws.{run_held}
use Rattle.buffer.proofs.put_byte_times.Goals as goal

pub returns : goal.returns
returns c =
    let a = c.args in
    let l = c.loop-x in
    let k : ℕ = a.at + a.n - a.at in
    let room : length (take k (drop a.at a.out.now)) ≡ a.n = simp (length-take, length-drop) (omega arith) in
    let end : l.x-index ≡ a.n = omega (arith, room) in
    let filled : l.x-items ≡ replicate a.n a.b = sym (take_all l.x-index l.x-items (omega (arith, room))) ∙ l.invariant ∙ ap (λ (m : ℕ). replicate m a.b) end in
    let written = lent_part a.at k (replicate a.n a.b) a.out.now l.x-items (omega (arith, length-replicate a.n a.b)) filled in
    (search rules, written, run_held a.at (a.at + a.n) (replicate a.n a.b) a.out.now _ written (omega (arith, length-replicate a.n a.b)))
