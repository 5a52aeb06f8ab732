-- Two stores are two numbers over the list (`two_stores`).
use native.Mathlib.Omega.{arith}
use Rattle.buffer.proofs.Laws.{two_stores}
use lib.ListN.{length-set}
use Rattle.call_lists.proofs.put_two.Goals as goal

pub bounds-answers-k-2 : goal.bounds-answers-k-2
bounds-answers-k-2 c = simp length-set (omega arith)

pub returns : goal.returns
returns c = two_stores _ _ _ _ c.requires
