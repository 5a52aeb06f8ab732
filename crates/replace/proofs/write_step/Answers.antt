-- `write_step` makes one turn: keep, put_bytes and skip write the three parts of `turn_items`, each in the room that the turn has (`TurnLaws`).
use native.Mathlib.Omega.{arith}
use Rattle.buffer.specs.Place.{part}
use Rattle.buffer.proofs.Laws.{length_part}
use Rattle.replace.proofs.TurnLaws.{is_good, room_keep, room_put, room_skip, ready_skip, turned, bytes_room, part_wrote}
use Rattle.replace.proofs.write_step.Goals as goal

pub keep-a-requires : goal.keep-a-requires
keep-a-requires c =
    let p = c.requires in
    let g = is_good _ _ _ _ _ _ _ p in
    record {
      ready = p.ready;
      at_le_n = (g.low, omega (arith, g.order, g.high));
      fits = room_keep _ _ _ _ _ _ _ p;
    }

pub put_bytes-b-requires : goal.put_bytes-b-requires
put_bytes-b-requires c =
    let a = c.args in
    let p = c.requires in
    let k = c.keep-a in
    let g = is_good _ _ _ _ _ _ _ p in
    let f = room_put _ _ _ _ _ _ _ p _ k.ensures.result_after in
    (g.part, g.within, bytes_room _ _ _ (part a.x.from a.x.to a.new.now) k.result _ (length_part a.x.from a.x.to a.new.now g.within) f)

pub skip-requires : goal.skip-requires
skip-requires c =
    let a = c.args in
    let p = c.requires in
    let k = c.keep-a in
    let b = c.put_bytes-b in
    let g = is_good _ _ _ _ _ _ _ p in
    let w = part_wrote _ _ _ _ a.new.now k.result b.result a.x.from a.x.to g.within b.ensures.bytes_after b.ensures.at_value in
    record {
      ready = ready_skip _ _ _ _ _ _ _ p _ k.ensures.result_after _ w k.result b.result b.ensures.at_value.0 b.ensures.at_value.1 k.ensures.ready_2.1 k.ensures.result_value k.ensures.ready_2.0;
      at_le_n = (omega (arith, b.ensures.at_value.0, k.ensures.ready_2.1, g.order), g.high);
      fits = room_skip _ _ _ _ _ _ _ p _ k.ensures.result_after _ w k.result b.result b.ensures.at_value.0 b.ensures.at_value.1 k.ensures.ready_2.1 k.ensures.result_value;
    }

pub returns : goal.returns
returns c =
    let a = c.args in
    let p = c.requires in
    let k = c.keep-a in
    let b = c.put_bytes-b in
    let g = is_good _ _ _ _ _ _ _ p in
    let w = part_wrote _ _ _ _ a.new.now k.result b.result a.x.from a.x.to g.within b.ensures.bytes_after b.ensures.at_value in
    let s = c.skip.ensures in
    turned _ _ _ _ _ _ _ p _ k.ensures.result_after _ w k.result b.result b.ensures.at_value.0 b.ensures.at_value.1 k.ensures.ready_2.1 k.ensures.result_value _ _ s.result_after s.result_value s.ready_2.0 s.ready_2.1
