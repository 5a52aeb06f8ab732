-- `put_unless`: an entry that goes leaves the buffers as they are (`gone_put`), and what `put_entry` writes is the entry (`kept_put`).
use native.Mathlib.Omega.{arith}
use Rattle.readers.proofs.EntryLaws.{gone_put, kept_put}
use Rattle.readers.proofs.put_unless.Goals as goal

pub returns-then-goes : goal.returns-then-goes
returns-then-goes c = let b = c.behind_entry.ensures in (b.0, b.1, gone_put _ _ _ _ _ _ c.if-goes.true b.2 b.3 b.4)

pub put_entry-requires : goal.put_entry-requires
put_entry-requires c =
    let pre = c.requires in
    let room = pre.e_in_bounds c.if-goes.false in
    record {
      len_value = pre.len_value.0;
      len_in_bounds = pre.len_value.1;
      e_in_bounds = (room.0, room.1);
      d_le_data_limit = (pre.d_le_data_limit.0, room.2, pre.d_le_data_limit.1);
      numbers_value = room.3;
    }

pub returns : goal.returns
returns c =
    let pre = c.requires in
    let r = c.put_entry.ensures in
    (omega (arith, r.at_value.0, pre.len_value.2), r.at_value.1, kept_put _ _ _ _ _ _ _ _ _ c.if-goes.false r.numbers_after r.texts_after r.at_value.2 r.at_value.3 r.at_value.4)
