-- Outside the label whole characters are copied, under it a 0A stays and whole characters become stars; where there is none up to the end, the character there goes on past it.
use native.Mathlib.Omega.{arith}
use mathlib.Core.Path.{sym, subst}
use Rattle.writer.specs.Write.{left}
use Rattle.char_runs.proofs.RunLaws.{no_newline}
use Rattle.floor_runs.specs.declared.Run.{Run}
use Rattle.floor_runs.specs.Runs.{RunOf}
use Rattle.floor_runs.proofs.RunLaws.{copied, newline, starred}
use Rattle.floor_runs.proofs.fresh_run.Goals as goal
use Rattle.floor_runs.proofs.fresh_run.Goals.{then-w-eq0+else-at-m, else-w-eq0+else-content-at-eq10+else-at-s}

pub returns-then-at-m : goal.returns-then-at-m
returns-then-at-m c =
    let a = c.args in
    let d = a.content.bytes.now in
    let p = c.requires.at_lt_end in
    subst (λ (r : Run). RunOf a.label.now d (left d a.content.entries.now a.content.text.now a.w.c) a.w.o a.w.c.at a.w.c.at _ a.end r) (sym c.copied_to.ensures)
    (copied a.label.now d a.content.entries.now a.content.text.now a.w a.end p.0 p.1 p.2 _ c.if-w-eq0.true c.whole_end-m.ensures c.if-at-m.true)

pub returns-then-content-at-eq10 : goal.returns-then-content-at-eq10
returns-then-content-at-eq10 c =
    let a = c.args in
    let d = a.content.bytes.now in
    let p = c.requires.at_lt_end in
    subst (λ (r : Run). RunOf a.label.now d (left d a.content.entries.now a.content.text.now a.w.c) a.w.o a.w.c.at a.w.c.at _ a.end r) (sym c.copied_to-then-content-at-eq10.ensures)
    (newline a.label.now d a.content.entries.now a.content.text.now a.w a.end p.0 p.1 p.2 c.if-content-at-eq10.true)

pub covered-s-requires : goal.covered-s-requires
covered-s-requires c =
    let p = c.requires.at_lt_end in
    (p.0, p.1, c.requires.standing.arrived.ready.short)

pub returns-then-at-s : goal.returns-then-at-s
returns-then-at-s c =
    let a = c.args in
    let p = c.requires.at_lt_end in
    starred a.label.now a.content.bytes.now a.content.entries.now a.content.text.now a.w a.end p.0 p.1 p.2 _ c.if-w-eq0.false c.covered-s.ensures.covered c.if-at-s.true

pub divided_run-requires : goal.divided_run-requires
divided_run-requires c =
    let p = c.requires.at_lt_end in
    record {
      standing = c.requires.standing;
      at_lt_end = (
        p.0,
        p.1,
        p.2,
        elim c.if-w-eq0.branch [
          | then-w-eq0+else-at-m w ↦ w.whole_end-m.ensures.none (omega (arith, w.whole_end-m.ensures.from, w.if-at-m.false))
          | else-w-eq0+else-content-at-eq10+else-at-s w ↦
              w.covered-s.ensures.covered.none (omega (arith, w.covered-s.ensures.covered.from, w.if-at-s.false)) (no_newline _ _ w.if-content-at-eq10.false)
        ],
      );
    }
