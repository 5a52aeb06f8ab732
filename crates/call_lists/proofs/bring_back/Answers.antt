-- A result in the other set is copied, part by part; one in the first set stays.
use mathlib.Core.Path.{◌∙◌}
use Rattle.recording.specs.Outcome.{Lent}
use Rattle.call_lists.proofs.PromiseLaws.{stays, copied, whole_part}
use Rattle.layout.specs.Lent.{lent_of}
use Rattle.call_lists.proofs.bring_back.Goals as goal

pub returns-then-s : goal.returns-then-s
returns-then-s c =
    let first : Lent = lent_of c.args.bytes.now c.args.numbers.now c.args.texts.now in
    let other : Lent = lent_of c.args.other_bytes.now c.args.other_numbers.now c.args.other_texts.now in
    stays c.args.s first other c.if-s.true

pub returns : goal.returns
returns c =
    copied c.args.s c.args.bytes.now c.args.numbers.now c.args.texts.now c.args.other_bytes.now c.args.other_numbers.now c.args.other_texts.now _ _ _
    c.if-s.false c.put.ensures.1 (c.put-2.ensures.1 ∙ whole_part c.args.s.numbers c.args.other_numbers.now c.args.numbers.now) c.put-3.ensures.1
