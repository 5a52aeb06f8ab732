-- What is counted, and what becomes of the bytes from here on, are together as long as what the floor is left (FloorLaws, `length_run`).
use native.Mathlib.Omega.{arith}
use mathlib.Core.Path.{refl, sym, ap, subst, ◌∙◌}
use mathlib.Core.List.{flatten}
use Prim.Native.Nat.{ℕ, ◌+◌}
use lib.ListN.{length, drop}
use Rattle.writer.specs.declared.Cursor.{Cursor}
use Rattle.floor_runs.specs.declared.Run.{Run}
use Rattle.readers.proofs.FloorLaws.{fs, Going, first_arrived, going_first, arrived_next, going_next, length_run, length_end, floor_short, length_floor}
use Rattle.readers.proofs.floor_len.Goals as goal

pub pass_entries-w-requires : goal.pass_entries-w-requires
pass_entries-w-requires c = first_arrived c.args.label.now c.args.content.bytes.now c.args.content.entries.now c.args.content.text.now c.requires

pub loop-w-init : goal.loop-w-init
loop-w-init c =
    let a = c.args in
    let p = c.pass_entries-w.ensures in
    let g = going_first a.label.now a.content.bytes.now a.content.entries.now a.content.text.now c.pass_entries-w.result p in (
      subst (λ (r : Run). Going a.label.now a.content.bytes.now a.content.entries.now a.content.text.now c.pass_entries-w.result r) (sym c.copied_to-run.ensures) g,
      ap (λ (n : ℕ). 0 + length (flatten (drop n (fs a.label.now a.content.bytes.now a.content.entries.now a.content.text.now)))) p.here ∙ omega arith,
    )

pub next_run-run-requires : goal.next_run-run-requires
next_run-run-requires c =
    let g = c.loop-w.invariant.0 in
    record {
      standing = g.standing;
      at_in_bounds = (c.loop-w-test.true, g.fated.within);
    }

pub run_len-size-requires : goal.run_len-size-requires
run_len-size-requires c =
    let r = c.next_run-run.ensures.0 in
    (omega (arith, r.further), r.before)

pub overflow_add-size : goal.overflow_add-size
overflow_add-size c =
    let behind : Cursor = let w = c.loop-w.w in record { at = c.next_run-run.result.to; k = w.c.k; d = w.c.d; e = w.c.e; t = w.c.t } in
    let a = c.args in
    let r = c.next_run-run.ensures in
    let n = length_run a.label.now a.content.bytes.now a.content.entries.now a.content.text.now c.loop-w.w c.loop-w.run c.loop-w.invariant.0 c.next_run-run.result r.0 r.1 behind refl
    refl in
    let z = floor_short a.label.now a.content.bytes.now a.content.entries.now a.content.text.now in
    omega (arith, n, c.loop-w.invariant.1, c.run_len-size.ensures, z, c.requires.short)

pub pass_entries-w-requires-in-loop-w : goal.pass_entries-w-requires-in-loop-w
pass_entries-w-requires-in-loop-w c =
    let behind : Cursor = let w = c.loop-w.w in record { at = c.next_run-run.result.to; k = w.c.k; d = w.c.d; e = w.c.e; t = w.c.t } in
    let a = c.args in
    let r = c.next_run-run.ensures in
    arrived_next a.label.now a.content.bytes.now a.content.entries.now a.content.text.now c.loop-w.w c.loop-w.run c.loop-w.invariant.0 c.next_run-run.result r.0 r.1
    behind refl refl

pub loop-w-smaller : goal.loop-w-smaller
loop-w-smaller c = omega (arith, c.pass_entries-w-in-loop-w.ensures.here, c.next_run-run.ensures.0.further, c.loop-w-test.true)

pub loop-w-preserved : goal.loop-w-preserved
loop-w-preserved c =
    let behind : Cursor = let w = c.loop-w.w in record { at = c.next_run-run.result.to; k = w.c.k; d = w.c.d; e = w.c.e; t = w.c.t } in
    let a = c.args in
    let r = c.next_run-run.ensures in
    let k = behind in
    let p = c.pass_entries-w-in-loop-w.ensures in
    let n = length_run a.label.now a.content.bytes.now a.content.entries.now a.content.text.now c.loop-w.w c.loop-w.run c.loop-w.invariant.0 c.next_run-run.result r.0 r.1 k
    refl refl in
    let h = ap (λ (m : ℕ). length (flatten (drop m (fs a.label.now a.content.bytes.now a.content.entries.now a.content.text.now)))) p.here in (
      going_next a.label.now a.content.bytes.now a.content.entries.now a.content.text.now c.loop-w.w c.loop-w.run c.loop-w.invariant.0 c.next_run-run.result r.0 r.1 k refl
          refl
          c.pass_entries-w-in-loop-w.result p,
      omega (arith, n, h, c.loop-w.invariant.1, c.run_len-size.ensures),
    )

pub returns : goal.returns
returns c =
    let a = c.args in
    let e = length_end a.label.now a.content.bytes.now a.content.entries.now a.content.text.now c.loop-w.w c.loop-w.run c.loop-w.invariant.0 (omega (arith, c.loop-w-test.false)) in
    omega (arith, e, c.loop-w.invariant.1, length_floor a.label.now a.content.bytes.now a.content.entries.now a.content.text.now)
