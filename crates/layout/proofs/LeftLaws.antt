-- What a call leaves is a recording: a call that is not refused leaves nothing that refusals 1 to 6 would refuse (`left_valid`).
-- The idea: every call makes its items from the content's and the second recording's by edits, and those keep what a recording can hold.
use Prim.Native.Nat.{ℕ, zero, suc, ◌-◌, ◌/◌}
use mathlib.Core.Bool.{Bool, true, false, cond}
use mathlib.Core.Path.{◌≡◌}
use mathlib.Core.List.{List, [], ◌∷◌, ◌++◌}
use lib.Dec.{ltb}
use lib.ListN.{length}
use borrow.Author.Tests.{eq-eqb}
use Rattle.chars.specs.Chars.{text_width_of}
use Rattle.chars.specs.Cut.{truncate_end_pos_of, zero_width_len_of}
use Rattle.recording.specs.Edit.{edit}
use Rattle.recording.specs.Recording.{Bytes, Recording, Item, byte, push, pop, raw, byte_items, items}
use Rattle.recording.specs.Refusals.{recording_fault}
use Rattle.recording.proofs.FaultLaws.{Ok, ItemOk, ok_bytes, ok_edit, ok_recording, encoded}
use Rattle.recording.proofs.Lists.{all_append}
use Rattle.layout.specs.Layout.{trimmed_start_pos, cut_end_of, cut_start_of, copies, repeat_pieces, padding, fill_count_of, indent_ops, truncated_start}
use Rattle.layout.specs.Layout.{truncated_end, padded_start, padded_end, padded_centered, indented_lines, unindented_lines, Job, with_second}
use Rattle.layout.specs.Layout.{alone, single_ops, Call, result_items, second_fault, refusal, after, faults_of, result_of}
use Rattle.layout.specs.Unindent.{unindent_ops}
use Rattle.layout.specs.Wrap.{split_lines}
use Rattle.layout.proofs.PutLaws.{puts_indent, puts_unindent, puts_single}
use Rattle.layout.proofs.ListLaws.{after_done, GrantedCall, granted_call}

ok_copies : (n : ℕ) (d : Bytes) → Ok (copies n d)
ok_copies zero d = tt
ok_copies (suc n) d = all_append ItemOk (byte_items d) (copies n d) (ok_bytes d) (ok_copies n d)

ok_repeat : (n : ℕ) (q : Bytes) (is : List Item) → Ok is → Ok (repeat_pieces n q is)
ok_repeat n q [] h = ok_copies n q
ok_repeat n q (byte b ∷ is) h = ok_repeat n (q ++ (b ∷ [])) is h.1
ok_repeat n q (push l ∷ is) h = all_append ItemOk (copies n q) (push l ∷ repeat_pieces n [] is) (ok_copies n q) (h.0, ok_repeat n [] is h.1)
ok_repeat n q (pop ∷ is) h = all_append ItemOk (copies n q) (pop ∷ repeat_pieces n [] is) (ok_copies n q) (tt, ok_repeat n [] is h.1)
ok_repeat n q (raw t ∷ is) h = all_append ItemOk (copies n q) (raw t ∷ repeat_pieces n [] is) (ok_copies n q) (h.0, ok_repeat n [] is h.1)

ok_padding : (n : ℕ) (is : List Item) → Ok is → Ok (padding n is)
ok_padding zero is h = tt
ok_padding (suc n) is h = ok_repeat (suc n) [] is h

ok_cond : (t : Bool) (a b : List Item) → Ok a → Ok b → Ok (cond t a b)
ok_cond true a b h g = h
ok_cond false a b h g = g

ok_result : (j : Job) (r : Recording) → recording_fault r ≡ 0 → second_fault j ≡ 0 → Ok (result_items j r)
unfolding result_items second_fault
ok_result (with_second truncated_start m e) r h g =
    let x : List Item = edit (cut_start_of (trimmed_start_pos m e.data_bytes)) (items e) in
    let y : List Item = edit (cut_start_of (trimmed_start_pos (m - text_width_of e.data_bytes) r.data_bytes)) (items r) in
    ok_cond (ltb m (text_width_of r.data_bytes)) (x ++ y) (edit (cut_start_of (zero_width_len_of r.data_bytes)) (items r))
    (all_append ItemOk x y (ok_edit (cut_start_of (trimmed_start_pos m e.data_bytes)) (items e) tt (ok_recording e g))
    (ok_edit (cut_start_of (trimmed_start_pos (m - text_width_of e.data_bytes) r.data_bytes)) (items r) tt (ok_recording r h)))
    (ok_edit (cut_start_of (zero_width_len_of r.data_bytes)) (items r) tt (ok_recording r h))
ok_result (with_second truncated_end m e) r h g =
    let x : List Item = edit (cut_end_of (truncate_end_pos_of (m - text_width_of e.data_bytes) r.data_bytes) r.data_bytes) (items r) in
    let y : List Item = edit (cut_end_of (truncate_end_pos_of m e.data_bytes) e.data_bytes) (items e) in
    ok_cond (ltb m (text_width_of r.data_bytes)) (x ++ y) (items r)
    (all_append ItemOk x y (ok_edit (cut_end_of (truncate_end_pos_of (m - text_width_of e.data_bytes) r.data_bytes) r.data_bytes) (items r) tt (ok_recording r h))
    (ok_edit (cut_end_of (truncate_end_pos_of m e.data_bytes) e.data_bytes) (items e) tt (ok_recording e g)))
    (ok_recording r h)
ok_result (with_second padded_start m f) r h g = all_append ItemOk (padding (fill_count_of m r.data_bytes) (items f)) (items r)
    (ok_padding (fill_count_of m r.data_bytes) (items f) (ok_recording f g)) (ok_recording r h)
ok_result (with_second padded_end m f) r h g = all_append ItemOk (items r) (padding (fill_count_of m r.data_bytes) (items f)) (ok_recording r h)
    (ok_padding (fill_count_of m r.data_bytes) (items f) (ok_recording f g))
ok_result (with_second padded_centered m f) r h g =
    let n : ℕ = fill_count_of m r.data_bytes in
    all_append ItemOk (padding (n / 2) (items f)) (items r ++ padding (n - n / 2) (items f)) (ok_padding (n / 2) (items f) (ok_recording f g))
    (all_append ItemOk (items r) (padding (n - n / 2) (items f)) (ok_recording r h) (ok_padding (n - n / 2) (items f) (ok_recording f g)))
ok_result (with_second indented_lines m p) r h g = ok_edit (indent_ops (items p) true r.data_bytes) (items r) (puts_indent Ok (items p) true r.data_bytes (ok_recording p g)) (ok_recording r h)
ok_result (with_second unindented_lines m p) r h g =
    let ops = unindent_ops (length p.data_bytes) (split_lines r.data_bytes) in
    ok_edit ops (items r) (puts_unindent Ok (length p.data_bytes) (split_lines r.data_bytes)) (ok_recording r h)
ok_result (alone s) r h g = ok_edit (single_ops s r.data_bytes) (items r) (puts_single Ok ok_bytes s r.data_bytes) (ok_recording r h)

pub left_valid : (c : Call) (r : Recording) → refusal c r ≡ 0 → recording_fault (after c r) ≡ 0
unfolding faults_of result_of
left_valid c r z =
    let G : GrantedCall c r = granted_call c r z in
    rw (after_done c r (eq-eqb (refusal c r) 0 z)) (encoded (result_items c.job r) (ok_result c.job r G.content G.second) G.limit)
