-- What Q-8 asks to be shown of the recorder (`specs/Shown.antt`): `pushed`, `push_refusals`, `replayed_again`.
use Prim.Native.Nat.{ℕ, ◌+◌, ◌-◌, ◌%◌}
use native.Mathlib.Omega.{arith}
use mathlib.Core.Bool.{Bool, cond, not}
use mathlib.Core.Path.{◌≡◌, refl, sym, ap, ◌∙◌}
use mathlib.Core.List.{List, [], ◌∷◌, ◌++◌, append_assoc, append-nil}
use lib.ListN.{length, take, drop, length-append, length-drop, drop_of_length-le}
use lib.Seq.{take-length}
use borrow.Author.Tests.{eqb-true}
use Rattle.chars.specs.Chars.{well_formed_of}
use Rattle.recording.specs.declared.Entry.{Entry}
use Rattle.recording.specs.Recording.{Bytes, Recording, entry, entries_of, numbers_of_ranges, part_of, Item, push, byte_items, item_of, items_from, items, start_in, new_text, push_at, encode}
use Rattle.recording.specs.Refusals.{refuse_if, entry_fault, entries_fault, recording_fault}
use Rattle.recording.specs.Outcome.{over_limit, no_room, settle, Lent, room_in}
use Rattle.recording.proofs.ItemsLaws.{placed_at, encode_again}
use Rattle.recording.proofs.FaultLaws.{first_of-zero, no_entry_fault, no_fault}
use Rattle.recording.proofs.OutcomeLaws.{stops_sizes, is_done, first_on, first_one}
use Rattle.recording.proofs.ShareLaws.{part_more}
use Rattle.recording.proofs.Shown.{no_new}
use Rattle.recorder.specs.Recorder.{leaves, used_of, add_faults, with_entry, with_label, replay_faults, replayed}
use Rattle.recorder.specs.Shown.{Pushed, with_label_before, PushRefusals, Replayed}
use Rattle.recorder.proofs.AddLaws.{new_short}
use Rattle.recorder.proofs.AddClean.{entries_of-snoc}

-- a recording without faults is within the limits
in_limit : (r : Recording) → recording_fault r ≡ 0 → over_limit r ≡ 0
unfolding over_limit
in_limit r h = let f = no_fault r h in rw (f.data_bytes, f.entry_numbers, f.text)

-- ── an entry behind all others, at the data's end
items-snoc : (es : List Entry) (from : ℕ) (d x t n : Bytes) (e : Entry) → entries_fault from d t es ≡ 0 → from + length x ≡ length d → e.position ≡ length d
    → items_from from (t ++ n) x (es ++ (e ∷ [])) ≡ items_from from t x es ++ (item_of e.kind (part_of (t ++ n) e) ∷ [])
items-snoc [] from d x t n e h q p =
    let z : e.position - from ≡ length x = omega (arith, p, q) in
    rw (z, take-length x, drop_of_length-le x {i = length x} (omega arith))
items-snoc (y ∷ es) from d x t n e h q p =
    let a = first_of-zero (entry_fault from d t y) (entries_fault y.position d t es ∷ []) h in
    let g = first_of-zero (entries_fault y.position d t es) [] a.1 in
    let f = no_entry_fault from d t y a.0 in
    let k : y.position + length (drop (y.position - from) x) ≡ length d = omega (arith, f.low, f.high, q, length-drop (y.position - from) x) in
    let m : List Item = byte_items (take (y.position - from) x) in
    rw (part_more y.start y.len t n f.part, items-snoc es y.position d (drop (y.position - from) x) t n e g.0 k p)
    (sym (append_assoc m (item_of y.kind (part_of t y) ∷ items_from y.position t (drop (y.position - from) x) es) (item_of e.kind (part_of (t ++ n) e) ∷ [])))

pub pushed : (l : Bytes) (r : Recording) → recording_fault r ≡ 0 → Pushed l r
unfolding with_label with_entry items
pushed l r h =
    let f = no_fault r h in
    let t : Bytes = r.text in
    let es : List Entry = entries_of r.entry_numbers in
    let n : Bytes = new_text l t es in
    let e : Entry = push_at (length r.data_bytes) t es l in
    let part_is : part_of (t ++ n) e ≡ l = ap (λ (z : Bytes). take (length l) (drop (start_in l t (length t) es) (t ++ z))) (sym (append-nil n)) ∙ placed_at l t es [] in
    record {
      reads =
          ap (items_from 0 (t ++ n) r.data_bytes) (entries_of-snoc r.entry_numbers e (eqb-true (length r.entry_numbers % 4) 0 f.quads))
          ∙ items-snoc es 0 r.data_bytes r.data_bytes t n e f.entries (omega arith) refl
          ∙ ap (λ (z : Bytes). items_from 0 t r.data_bytes es ++ (push z ∷ [])) part_is;
      shared = λ q. ap (λ (b : Bool). t ++ cond b [] l) q ∙ append-nil t;
    }

pub push_refusals : (l : Bytes) (b : Lent) (d e t : ℕ) → PushRefusals l b d e t
unfolding with_label with_label_before with_entry
push_refusals l b d e t =
    let r : Recording = used_of b d e t in
    let es : List Entry = entries_of r.entry_numbers in
    let m : ℕ = length r.data_bytes in
    no_new (leaves (with_label l r)) (leaves (with_label_before l r)) refl
    (length-append r.entry_numbers (numbers_of_ranges (push_at m r.text es l ∷ [])) ∙ sym (length-append r.entry_numbers (numbers_of_ranges (entry m 0 (length r.text) (length l) ∷ []))))
    (omega (arith, length-append r.text (new_text l r.text es), length-append r.text l, new_short l r.text es)) refl
    (add_faults (refuse_if (not (well_formed_of l)) 6) b d e t) (room_in b)

pub replayed_again : (is : List Item) (b : Lent) → Replayed is b
unfolding replayed replay_faults
replayed_again is b h o =
    ap (λ (x : Recording). settle (replay_faults (encode is)) (room_in b) (leaves x)) (encode_again is)
    ∙ is_done (replay_faults (encode is)) (room_in b) (leaves (encode is))
    (stops_sizes (replay_faults (encode is)) (room_in b) (leaves (encode is)) refl h refl refl refl refl
    ∙ first_on (over_limit (encode is)) (no_room (room_in b) (leaves (encode is)) ∷ []) (in_limit (encode is) h) ∙ first_one (no_room (room_in b) (leaves (encode is))) ∙ o)
