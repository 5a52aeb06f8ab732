-- A byte before the next entry that is under the label ends the loop (`hit`), a turn passes an entry (`step`), and at the end what is open decides (`ends_before`, `ends_none`).
use native.Mathlib.Omega.{arith}
use mathlib.Core.Path.{sym, ap, ◌∙◌}
use lib.ListN.{length, drop, length-drop}
use Rattle.std.proofs.lemmas.List.{take_rest}
use Rattle.recording.specs.Recording.{entries_of}
use Rattle.recording.specs.Read.{entries_left}
use Rattle.recording.proofs.CheckLaws.{entries_quarter}
use Rattle.writer.specs.Write.{left}
use Rattle.open_label.proofs.UnderLaws.{reading_first, ok, hit, ends_before, ends_none, step}
use Rattle.open_label.proofs.any_under.Goals as goal
use Rattle.open_label.proofs.any_under.Goals.{in-None, in-Some+then-end-p}

pub loop-e-init : goal.loop-e-init
loop-e-init c =
    let a = c.args in
    reading_first _ _ _ _ _ _ _ _ c.requires.ready.valid c.requires.at_lt_end.0 (ap entries_left c.into_iter-e-iterator.ensures.into_iter_gives ∙ c.of-e-items.ensures ∙ ap entries_of (take_rest a.content.entries.now a.from.c.k))

pub opened-o-requires : goal.opened-o-requires
opened-o-requires c =
    let a = c.args in
    let e = a.content.entries.now in (
      (ok _ _ _ _ _ _ _ _ _ _ c.loop-e.invariant c.requires.at_lt_end.1 _ _ c.in-Some.ensures.steps).2,
      omega (arith, c.loop-e.invariant.depth, ap length c.in-Some.ensures.steps, c.requires.at_lt_end.2, c.ranges.content, entries_quarter (drop a.from.c.k e), length-drop a.from.c.k e),
    )

pub returns-then-covers : goal.returns-then-covers
unfolding left
returns-then-covers c =
    hit _ _ _ _ _ _ _ _ _ _ c.loop-e.invariant c.requires.at_lt_end.1 _ _ c.in-Some.ensures.steps c.if-end-p.false (sym c.covers.ensures ∙ c.if-covers.true)

pub loop-e-preserved : goal.loop-e-preserved
loop-e-preserved c =
    let o = c.opened-o.ensures in
    step _ _ _ _ _ _ _ _ _ _ c.loop-e.invariant c.requires.at_lt_end.1 _ _ c.in-Some.ensures.steps c.if-end-p.false (sym c.covers.ensures ∙ c.if-covers.false) _ o.opened o.depth_bound

pub returns : goal.returns
unfolding left
returns c =
    let S = c.loop-e.invariant in
    elim c.match-next.branch [
      | in-None w ↦ ends_none _ _ _ _ _ _ _ _ _ _ S c.requires.at_lt_end.1 c.requires.ready.short w.in-None.ensures.steps.0
      | in-Some+then-end-p w ↦ ends_before _ _ _ _ _ _ _ _ _ _ S c.requires.at_lt_end.1 _ _ w.in-Some.ensures.steps w.if-end-p.true
    ]
