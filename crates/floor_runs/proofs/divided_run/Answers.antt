-- The character goes on past the run: whether any of its bytes is under the label, also behind the run, decides (`divided_gone`, `divided_kept`).
use native.Mathlib.Omega.{arith}
use Rattle.floor_runs.proofs.RunLaws.{divided_gone, divided_kept}
use Rattle.floor_runs.proofs.divided_run.Goals as goal

pub any_under-requires : goal.any_under-requires
any_under-requires c =
    let s = c.requires.standing in
    let n = c.seen_at-ch.ensures.le_len in
    record { ready = s.arrived.ready; at_lt_end = (omega (arith, n), n.1, s.arrived.depth) }

pub returns-then-any_under : goal.returns-then-any_under
returns-then-any_under c =
    let a = c.args in
    let p = c.requires.at_lt_end in
    let n = c.seen_at-ch.ensures in
    divided_gone a.label.now a.content.bytes.now a.content.entries.now a.content.text.now a.w a.end p.0 p.1 p.2 p.3 _ n.len_value.0 n.le_len.1 _ c.any_under.ensures
    c.if-any_under.true _ n.len_value.1

pub returns : goal.returns
returns c =
    let a = c.args in
    let p = c.requires.at_lt_end in
    let n = c.seen_at-ch.ensures in
    divided_kept a.label.now a.content.bytes.now a.content.entries.now a.content.text.now a.w a.end p.0 p.1 p.2 p.3 _ n.len_value.0 n.le_len.1 _ c.any_under.ensures c.if-any_under.false
