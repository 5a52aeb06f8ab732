-- Where the largest result has room, so has this one (`smaller_fits`); else the size that is measured is settled, and its cap does not show (`capped_fault`).
use native.Mathlib.Omega.{arith}
use mathlib.Core.Path.{sym, ap, ◌∙◌}
use Prim.Native.Nat.{ℕ}
use lib.ListN.{length}
use Rattle.chars.specs.Chars.{chars}
use Rattle.recording.specs.Edit.{edit_data}
use Rattle.layout.specs.Tabs.{tab_ops}
use Rattle.writer.specs.Sizes.{sizes_fault, room_of_lengths}
use Rattle.writer.proofs.Sizes.{smaller_fits}
use Rattle.replace.proofs.ScanLaws.{capped_fault}
use Rattle.tabs.proofs.RecordLaws.{size_most, most_small, fine_zero}
use Rattle.tabs.proofs.settle_expanded.Goals as goal

pub overflow_mul-most : goal.overflow_mul-most
overflow_mul-most c =
    let r = c.requires in
    omega (arith, most_small c.args.stop r.0 r.1 c.args.content.bytes.now c.tab_count.result (omega (arith, c.tab_count.ensures.1, r.2)))

pub overflow_add-most : goal.overflow_add-most
overflow_add-most c =
    let r = c.requires in
    omega (arith, most_small c.args.stop r.0 r.1 c.args.content.bytes.now c.tab_count.result (omega (arith, c.tab_count.ensures.1, r.2)), r.2)

pub returns-then-is_ok : goal.returns-then-is_ok
returns-then-is_ok c =
    let a = c.args in
    let r = c.requires in
    let d = a.content.bytes.now in
    let h = sym c.settle.ensures ∙ fine_zero c.settle.result (sym c.is_ok.ensures.value ∙ c.if-is_ok.true) in
    let most = size_most a.stop r.0 r.1 d in
    sym (smaller_fits (length (edit_data (tab_ops a.stop 0 (chars d)) d)) _ (length a.content.entries.now) a.shared 0 0 (room_of_lengths a.room) h (rw (← c.tab_count.ensures.0) at most) (omega arith))

pub returns : goal.returns
returns c =
    let a = c.args in
    let d = a.content.bytes.now in
    c.settle-2.ensures ∙ ap (λ (m : ℕ). sizes_fault m (length a.content.entries.now) a.shared 0 (room_of_lengths a.room)) c.expanded_len-bytes.ensures
    ∙ capped_fault (length (edit_data (tab_ops a.stop 0 (chars d)) d)) (length a.content.entries.now) a.shared 0 (room_of_lengths a.room)
