-- One call on the content where it stands: the promise of `make_call`, by the set (`to_other`, `to_first`).
use native.Mathlib.Omega.{arith}
use Rattle.call_lists.proofs.StateLaws.{to_other, to_first}
use Rattle.requests.specs.Requests.{request_in, job_in}
use Rattle.layout.specs.Lent.{lent_of}
use Rattle.layout.specs.Layout.{Job}
use Rattle.recording.specs.Outcome.{Lent}
use lib.ListN.{drop, length-take}
use Rattle.runs.proofs.turn.Goals as goal

pub slice_bounds-make_call-end-then-s : goal.slice_bounds-make_call-end-then-s
slice_bounds-make_call-end-then-s c = let k = c.requires.sound in simp length-take (omega (arith, k.bytes, k.like_bytes))

pub slice_bounds-make_call-end-then-s-3 : goal.slice_bounds-make_call-end-then-s-3
slice_bounds-make_call-end-then-s-3 c = let k = c.requires.sound in simp length-take (omega (arith, k.numbers, k.like_numbers))

pub slice_bounds-make_call-end-then-s-5 : goal.slice_bounds-make_call-end-then-s-5
slice_bounds-make_call-end-then-s-5 c = let k = c.requires.sound in simp length-take (omega (arith, k.texts, k.like_texts))

pub make_call-requires : goal.make_call-requires
make_call-requires c =
    record {
      i_in_bounds = c.requires.i_in_bounds;
      calls_value = c.requires.calls_value;
    }

pub returns-then-s : goal.returns-then-s
returns-then-s c =
    let job : Job = job_in c.args.pool.now c.args.pool_numbers.now (request_in (drop c.args.i c.args.calls.now)) in
    let first : Lent = lent_of c.args.bytes.now c.args.numbers.now c.args.texts.now in
    let other : Lent = lent_of c.args.other_bytes.now c.args.other_numbers.now c.args.other_texts.now in
    to_other job c.args.s first other _ c.args.lines.now _ c.make_call.result c.if-s.true c.make_call.ensures

pub slice_bounds-make_call-end-3 : goal.slice_bounds-make_call-end-3
slice_bounds-make_call-end-3 c = let k = c.requires.sound in simp length-take (omega (arith, k.bytes, k.like_bytes))

pub slice_bounds-make_call-end-5 : goal.slice_bounds-make_call-end-5
slice_bounds-make_call-end-5 c = let k = c.requires.sound in simp length-take (omega (arith, k.numbers, k.like_numbers))

pub slice_bounds-make_call-end-7 : goal.slice_bounds-make_call-end-7
slice_bounds-make_call-end-7 c = let k = c.requires.sound in simp length-take (omega (arith, k.texts, k.like_texts))

pub make_call-requires-2 : goal.make_call-requires-2
make_call-requires-2 c =
    record {
      i_in_bounds = c.requires.i_in_bounds;
      calls_value = c.requires.calls_value;
    }

pub returns : goal.returns
returns c =
    let job : Job = job_in c.args.pool.now c.args.pool_numbers.now (request_in (drop c.args.i c.args.calls.now)) in
    let first : Lent = lent_of c.args.bytes.now c.args.numbers.now c.args.texts.now in
    let other : Lent = lent_of c.args.other_bytes.now c.args.other_numbers.now c.args.other_texts.now in
    to_first job c.args.s other first _ c.args.lines.now _ c.make_call-2.result c.if-s.false c.make_call-2.ensures
