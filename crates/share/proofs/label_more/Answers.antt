-- A label that `those` do not have brings what it brings behind the pushes of its own (`some_new`).
use native.Mathlib.Omega.{arith}
use mathlib.Core.Path.{◌≡◌, ap, ◌∙◌}
use Prim.Native.Nat.{ℕ, ◌+◌, ◌-◌}
use lib.ListN.{take, drop, length-take, length-drop}
use Rattle.recording.specs.Recording.{entries_of}
use Rattle.share.proofs.SizeLaws.{some_new, label_most}
use Rattle.share.proofs.label_more.Goals as goal

pub returns : goal.returns
returns c =
    let a = c.args in
    let e = a.e in
    let r = c.place_label-2.ensures.add_value in
    let d : (e.start + e.len) - e.start ≡ e.len = omega arith in
    let own = ap (λ (n : ℕ). take n (drop e.start a.own.now)) d in
    let m = label_most a.those.text.now (entries_of a.those.entries.now) a.own.now (entries_of a.before.now) e c.if-e-ne0.false _ own in
    (r ∙ some_new _ _ _ _ _ c.if-e-ne0.false _ own (λ z. c.if-place_label-eq0.false (c.place_label.ensures.add_value ∙ z)), omega (arith, r, m, length-take ((e.start + e.len) - e.start) (drop e.start a.own.now), length-drop e.start a.own.now))
