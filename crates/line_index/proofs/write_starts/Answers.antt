-- What is in the list and what is still to come are together all (`Filled`); a block without 0A adds nothing (`block_none`), any other what its bytes add (`block_starts`).
use native.Mathlib.Omega.{arith}
use Prim.Native.Nat.{ℕ, ◌+◌}
use mathlib.Core.Path.{refl, sym, ap, ◌∙◌}
use mathlib.Core.List.{List, [], append-nil}
use lib.ListN.{length, drop, get_or, length-append, length-drop}
use Rattle.std.proofs.lemmas.List.{take_rest}
use Rattle.buffer.proofs.FillLaws.{fill_start, fill_room, fill_kept, fill_more, fill_end}
use Rattle.line_index.specs.Starts.{starts_from}
use Rattle.line_index.proofs.WriteLaws.{block_is, block_whole, block_bound, block_starts, block_none, rest_is, rest_bound}
use Rattle.line_index.proofs.write_starts.Goals as goal
use Rattle.line_index.proofs.write_starts.Goals.{then-has_break, else-has_break}

pub loop-block-init : goal.loop-block-init
loop-block-init c = (omega arith, fill_start _ _ c.args.index.now c.args.first refl)

pub put_starts-k-requires : goal.put_starts-k-requires
put_starts-k-requires c =
    let s = c.args.s.now in
    let l = c.loop-block in
    let e = c.as_chunks.ensures in
    let is = block_is c.args.from s _ (take_rest s c.args.from) _ _ e.front e.front_len e.back l.block-index c.loop-block-test.true l.at l.invariant.0 in
    let whole = block_whole c.args.from s _ (take_rest s c.args.from) _ _ e.front e.front_len e.back l.block-index c.loop-block-test.true l.at l.invariant.0 in
    let room = fill_room _ _ _ _ _ _ l.invariant.1 c.requires.s_in_bounds in
    record {
      part_bound = omega (arith, block_bound l.at s _ is whole, c.requires.from_in_bounds.1);
      part_in_bounds = omega (arith, room, ap length (block_starts l.at s _ is whole), length-append (starts_from l.at (get_or c.as_chunks.result.0.now l.block-index [])) (starts_from (l.at + 16) (drop (l.at + 16) s)));
    }

pub loop-block-preserved : goal.loop-block-preserved
loop-block-preserved c =
    let s = c.args.s.now in
    let l = c.loop-block in
    let e = c.as_chunks.ensures in
    let is = block_is c.args.from s _ (take_rest s c.args.from) _ _ e.front e.front_len e.back l.block-index c.loop-block-test.true l.at l.invariant.0 in
    let whole = block_whole c.args.from s _ (take_rest s c.args.from) _ _ e.front e.front_len e.back l.block-index c.loop-block-test.true l.at l.invariant.0 in (
      omega (arith, l.invariant.0),
      elim c.if-has_break.branch [
        | then-has_break w ↦
            fill_more _ _ _ _ _ _ l.invariant.1 (omega (arith, c.requires.s_in_bounds)) _ _ _ _ (block_starts l.at s _ is whole) (w.index-is ∙ w.put_starts-k.ensures.index_after)
            (ap length w.index-is ∙ w.put_starts-k.auto.index) (w.k-is ∙ w.put_starts-k.ensures.value)
        | else-has_break w ↦ fill_kept _ _ _ _ _ _ l.invariant.1 _ _ _ (block_none l.at s _ is whole (sym c.has_break.ensures.value ∙ w.if-has_break.false)) w.index-is w.k-is
      ],
    )

pub put_starts-requires : goal.put_starts-requires
put_starts-requires c =
    let s = c.args.s.now in
    let l = c.loop-block in
    let e = c.as_chunks.ensures in
    let is = rest_is c.args.from s _ (take_rest s c.args.from) _ _ e.front e.front_len e.back l.at (omega (arith, l.invariant.0, c.loop-block-test.false)) in
    let room = fill_room _ _ _ _ _ _ l.invariant.1 c.requires.s_in_bounds in
    record { part_bound = omega (arith, ap length is, length-drop l.at s, rest_bound c.args.from s _ (take_rest s c.args.from) _ _ e.front e.front_len e.back l.at (omega (arith, l.invariant.0, c.loop-block-test.false)) c.requires.from_in_bounds.0, c.requires.from_in_bounds.1); part_in_bounds = omega (arith, room, ap (λ (x : List ℕ). length (starts_from l.at x)) is) }

pub returns : goal.returns
returns c =
    let s = c.args.s.now in
    let l = c.loop-block in
    let e = c.as_chunks.ensures in
    let r = c.put_starts in
    let is = rest_is c.args.from s _ (take_rest s c.args.from) _ _ e.front e.front_len e.back l.at (omega (arith, l.invariant.0, c.loop-block-test.false)) in
    let all = ap (λ (x : List ℕ). starts_from l.at x) (sym is) ∙ sym (append-nil (starts_from l.at _)) in
    let S = fill_more _ _ _ _ _ _ l.invariant.1 (omega (arith, c.requires.s_in_bounds)) _ [] _ _ all r.ensures.index_after r.auto.index r.ensures.value in
    let f = fill_end _ [] _ _ _ _ S refl in
    record { index_after = f.0; value = f.1 }
