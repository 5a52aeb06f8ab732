-- The eight numbers from i on are the first eight of the rest (`request_is`).
use native.Mathlib.Omega.{arith}
use Rattle.requests.proofs.RequestLaws.{request_is}
use Prim.Native.Nat.{◌+◌}
use Rattle.requests.proofs.request_at.Goals as goal

pub overflow_cast-result : goal.overflow_cast-result
overflow_cast-result c = omega (arith, c.shared_slice_known-3-1.given (c.args.i + 2))

pub overflow_cast-result-2 : goal.overflow_cast-result-2
overflow_cast-result-2 c = omega (arith, c.shared_slice_known-4-1.given (c.args.i + 3))

pub overflow_cast-result-3 : goal.overflow_cast-result-3
overflow_cast-result-3 c = omega (arith, c.shared_slice_known-5-1.given (c.args.i + 4))

pub overflow_cast-result-4 : goal.overflow_cast-result-4
overflow_cast-result-4 c = omega (arith, c.shared_slice_known-6-1.given (c.args.i + 5))

pub overflow_cast-result-5 : goal.overflow_cast-result-5
overflow_cast-result-5 c = omega (arith, c.shared_slice_known-7-1.given (c.args.i + 6))

pub overflow_cast-result-6 : goal.overflow_cast-result-6
overflow_cast-result-6 c = omega (arith, c.shared_slice_known-8-1.given (c.args.i + 7))

pub returns : goal.returns
returns c = request_is c.args.calls.now c.args.i
