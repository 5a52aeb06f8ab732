-- A record moves its items from what is to come to what is written (`state_next`), and at the end the rest of the content is to come (`finish`).
use native.Mathlib.Omega.{arith}
use mathlib.Core.Path.{refl, ◌∙◌}
use Rattle.writer.specs.Write.{out}
use Rattle.replace.proofs.PlanLaws.{state_first, long_now, may_turn, state_next, within, room_last, finish}
use Rattle.replace_records.proofs.Laws.{one_more, none_left}
use Rattle.replace_records.proofs.write_each.Goals as goal

pub loop-x-init : goal.loop-x-init
unfolding out
loop-x-init c = state_first _ _ _ _ _ _ _ refl refl c.requires.sound c.requires.records_value

pub write_step-c-requires : goal.write_step-c-requires
write_step-c-requires c =
    let i = c.loop-x.invariant in
    let r = c.requires.fits in
    let e = one_more c.args.records.now c.loop-x.x-index (omega arith) in
    may_turn _ _ _ _ _ _ _ _ _ i r _ _ e

pub loop-x-preserved : goal.loop-x-preserved
loop-x-preserved c =
    let i = c.loop-x.invariant in
    let r = c.requires.fits in
    let e = one_more c.args.records.now c.loop-x.x-index (omega arith) in
    state_next _ _ _ _ _ _ _ _ _ i r _ _ e _ _ c.write_step-c.ensures

pub keep-requires : goal.keep-requires
keep-requires c =
    let i = c.loop-x.invariant in
    let r = c.requires.fits in
    let n = none_left c.args.records.now c.loop-x.x-index (omega arith) in
    record { ready = i.ready; at_le_n = (within _ _ _ _ _ _ _ _ _ i r n, omega arith); fits = room_last _ _ _ _ _ _ _ _ _ i r n }

pub shape_of-bytes : goal.shape_of-bytes
unfolding out
shape_of-bytes c =
    let i = c.loop-x.invariant in
    let r = c.requires.fits in
    let l = long_now _ _ _ _ _ _ _ _ _ i r in
    c.keep.auto.bytes ∙ l.data_bytes

pub shape_of-numbers : goal.shape_of-numbers
unfolding out
shape_of-numbers c =
    let i = c.loop-x.invariant in
    let r = c.requires.fits in
    let l = long_now _ _ _ _ _ _ _ _ _ i r in
    c.keep.auto.numbers ∙ l.entry_numbers

pub shape_of-texts : goal.shape_of-texts
unfolding out
shape_of-texts c =
    let i = c.loop-x.invariant in
    let r = c.requires.fits in
    let l = long_now _ _ _ _ _ _ _ _ _ i r in
    c.keep.auto.texts ∙ l.text

pub returns : goal.returns
returns c =
    let i = c.loop-x.invariant in
    let r = c.requires.fits in
    let n = none_left c.args.records.now c.loop-x.x-index (omega arith) in
    finish _ _ _ _ _ _ _ _ _ i r n _ c.keep.ensures.result_after
