-- A turn counts one entry (`goes`), a pop that finds no label open ends the loop (`refused`), and at the end no entry is left (`last_open`, `last_closed`, `last_told`).
use native.Mathlib.Omega.{arith}
use mathlib.Core.Path.{refl, sym, ap, ◌∙◌}
use Rattle.recording.specs.Read.{entries_left}
use Rattle.recording.proofs.CheckLaws.{entries_quarter}
use Rattle.open_label.specs.Open.{ScanTold}
use Rattle.open_label.proofs.ScanLaws.{scan_first, ok, refused, goes, last_open, last_closed, last_told, fault_open, fault_none}
use Rattle.open_label.proofs.scan.Goals as goal

pub loop-e-init : goal.loop-e-init
loop-e-init c =
    scan_first _ _ _ _ _ _ _ c.requires.sound.valid (ap entries_left c.into_iter-e-iterator.ensures.into_iter_gives ∙ c.of-e-items.ensures) refl refl refl refl refl

pub returns-then-unopened : goal.returns-then-unopened
unfolding ScanTold
returns-then-unopened c =
    let a = c.args.content in
    let s = c.loop-e.invariant in
    record {
      result_value = fault_open a.bytes.now a.entries.now a.text.now
          (refused _ _ _ _ _ _ _ s _ _ c.in-Some.ensures.steps c.requires.entries_len_bound.1 (sym c.unopened.ensures ∙ c.if-unopened.true));
      scan_told = tt;
    }

pub opened-behind-requires : goal.opened-behind-requires
opened-behind-requires c =
    let s = c.loop-e.invariant in (
      (ok _ _ _ _ _ _ _ s _ _ c.in-Some.ensures.steps c.requires.entries_len_bound.1).2,
      omega (arith, s.depth, c.requires.entries_len_bound.0, entries_quarter c.args.content.entries.now),
    )

pub counted-n-requires : goal.counted-n-requires
counted-n-requires c =
    let s = c.loop-e.invariant in
    record {
      len_value = (ok _ _ _ _ _ _ _ s _ _ c.in-Some.ensures.steps c.requires.entries_len_bound.1).1;
      entries_bound = (
        omega (arith, s.few, c.requires.entries_len_bound.0, entries_quarter c.args.content.entries.now),
        omega (arith, s.short, c.requires.entries_len_bound.0, entries_quarter c.args.content.entries.now),
      );
    }

pub loop-e-preserved : goal.loop-e-preserved
loop-e-preserved c =
    let o = c.opened-behind.ensures in
    let n = c.counted-n.ensures in
    goes _ _ _ _ _ _ _ c.loop-e.invariant _ _ c.in-Some.ensures.steps c.requires.entries_len_bound.1 (sym c.unopened.ensures ∙ c.if-unopened.false) _ o.opened o.depth_bound _ n.found_value n.counted n.entries_bound_2

pub returns-then-o-ne0 : goal.returns-then-o-ne0
unfolding ScanTold
returns-then-o-ne0 c =
    let a = c.args.content in
    record {
      result_value = fault_open a.bytes.now a.entries.now a.text.now (last_open _ _ a.entries.now _ _ _ _ c.loop-e.invariant c.in-None.ensures.steps.0 c.if-o-ne0.true);
      scan_told = tt;
    }

pub returns : goal.returns
returns c =
    let a = c.args.content in
    let s = c.loop-e.invariant in
    record {
      result_value = fault_none a.bytes.now a.entries.now a.text.now (last_closed _ _ a.entries.now _ _ _ _ s c.in-None.ensures.steps.0 c.if-o-ne0.false);
      scan_told = last_told _ _ a.entries.now _ _ _ _ s c.in-None.ensures.steps.0;
    }
