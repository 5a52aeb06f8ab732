-- The writing of all records. `State`: what is written and what the records that are left make of the rest of the content are together the whole result; a turn moves its items from one to the other.
use mathlib.Core.Path.{◌≡◌, sym, ap, ◌∙◌}
use mathlib.Core.Bool.{false}
use mathlib.Core.List.{List, [], ◌∷◌, ◌++◌, append_assoc}
use Prim.Native.Nat.{ℕ, ◌-◌, ◌≤◌}
use lib.ListN.{length}
use Rattle.buffer.specs.Place.{part}
use Rattle.recording.specs.Recording.{recording, Item, byte_items, items}
use Rattle.recording.specs.Edit.{front, back, entries_only, edit}
use Rattle.recording.proofs.EditLaws.{front-back, back-back}
use Rattle.writer.specs.declared.Cursor.{Cursor}
use Rattle.writer.specs.Write.{Out, add, Fits, Sound, Ready, left}
use Rattle.writer.proofs.Laws.{Long}
use Rattle.writer.proofs.Progress as progress
use Rattle.writer.proofs.Progress.{Progress, progress_first, progress_same, ready_within, rest_kept}
use Rattle.writer.proofs.Steps.{fits_first, left_start, ready_start}
use Rattle.layout.specs.declared.Replacement.{Replacement}
use Rattle.layout.specs.Layout.{replace_ops, bad_record_of, records_fault}
use Rattle.replace.specs.Turn.{turn_items, turn_left, Turn, Turned}
use Rattle.replace.proofs.RecordLaws.{no_eight}

-- one record of the plan: its turn, and the rest of the plan on what the turn leaves
plan_next : (new : List ℕ) (at : ℕ) (x : Replacement) (xs : List Replacement) (is : List Item)
    → edit (replace_ops new at (x ∷ xs)) is ≡ turn_items new at x is ++ edit (replace_ops new x.end xs) (turn_left at x is)
unfolding turn_items turn_left
plan_next new at x xs is =
    let a : List Item = front (x.start - at) is in
    let p : List Item = byte_items (part x.from x.to new) in
    let b : List Item = entries_only (front (x.end - x.start) (back (x.start - at) is)) in
    let r : List Item = edit (replace_ops new x.end xs) (back (x.end - x.start) (back (x.start - at) is)) in
    rw (front-back (x.start - at) is, back-back (x.start - at) is)
    (sym (append_assoc a (p ++ b) r ∙ ap (λ (l : List Item). a ++ l) (append_assoc p b r)))

pub record State (ds ns ts new : List ℕ) (all rest : List Replacement) (o₀ o : Out) (c : Cursor) : Type 0 where
  -- what is left gives the rest of the result
  pub written : Progress (edit (replace_ops new 0 all) (items (recording ds ns ts))) (edit (replace_ops new c.at rest) (left ds ns ts c)) o₀ o
  pub ready : Ready ds ns ts c
  pub good : records_fault c.at (length ds) (length new) rest ≡ 0

pub state_first : (ds ns ts new : List ℕ) (all : List Replacement) (o : Out) (c : Cursor) → c.at ≡ 0 → c.k ≡ 0 → Sound ds ns ts → records_fault 0 (length ds) (length new) all ≡ 0
    → State ds ns ts new all all o o c
state_first ds ns ts new all o c a k s g =
    record {
      written = progress_first _ _ o (λ j. edit (replace_ops new (a j) all) (left_start ds ns ts c a k j));
      ready = ready_start ds ns ts c a k s;
      good = rw a g;
    }

module _ (ds ns ts new : List ℕ) (all rest : List Replacement) (o₀ o : Out) (c : Cursor) (s : State ds ns ts new all rest o₀ o c)
    (room : Fits (edit (replace_ops new 0 all) (items (recording ds ns ts))) o₀) where
  abbrev to_come_lem : List Item
  to_come_lem = edit (replace_ops new c.at rest) (left ds ns ts c)

  abbrev whole : List Item
  whole = edit (replace_ops new 0 all) (items (recording ds ns ts))

  pub long_now : Long o o₀
  long_now = progress.long_now whole to_come_lem o₀ o s.written room

  room_now : Fits to_come_lem o
  room_now = progress.room_now whole to_come_lem o₀ o s.written room

  module _ (x : Replacement) (xs : List Replacement) (e : rest ≡ x ∷ xs) where
    fault : (bad_record_of c.at (length ds) (length new) x ≡ false) × (records_fault x.end (length ds) (length new) xs ≡ 0)
    fault =
        no_eight (bad_record_of c.at (length ds) (length new) x) (records_fault x.end (length ds) (length new) xs)
        (sym (ap (λ (l : List Replacement). records_fault c.at (length ds) (length new) l) e) ∙ s.good)

    abbrev turn : List Item
    turn = turn_items new c.at x (left ds ns ts c)

    abbrev later : List Item
    later = edit (replace_ops new x.end xs) (turn_left c.at x (left ds ns ts c))

    parted : to_come_lem ≡ turn ++ later
    parted = ap (λ (l : List Replacement). edit (replace_ops new c.at l) (left ds ns ts c)) e ∙ plan_next new c.at x xs (left ds ns ts c)

    pub may_turn : Turn ds ns ts new x c o
    may_turn = record { ready = s.ready; good = fault.0; fits = fits_first turn later to_come_lem o parted room_now }

    pub state_next : (o' : Out) (c' : Cursor) → Turned ds ns ts new x c c' o o' → State ds ns ts new all xs o₀ o' c'
    state_next o' c' t =
        let m = progress.further whole to_come_lem o₀ o s.written room turn later o' parted t.wrote in
        record {
          written = progress_same whole later _ o₀ o' (λ i. edit (replace_ops new (t.here i) xs) (t.behind i)) m;
          ready = t.ready;
          good = rw t.here fault.1;
        }

  -- after the last record the rest of the content
  module _ (none : rest ≡ []) where
    abbrev tail : List Item
    tail = front (length ds - c.at) (left ds ns ts c)

    last_is : to_come_lem ≡ tail
    last_is = ap (λ (l : List Replacement). edit (replace_ops new c.at l) (left ds ns ts c)) none ∙ sym (rest_kept ds ns ts c s.ready)

    pub within : c.at ≤ length ds
    within = ready_within ds ns ts c s.ready

    pub room_last : Fits tail o
    room_last = rw (← last_is) room_now

    pub finish : (o' : Out) → o' ≡ add tail o → o' ≡ add (edit (replace_ops new 0 all) (items (recording ds ns ts))) o₀
    finish o' w = progress.finished whole to_come_lem o₀ o s.written room o' (w ∙ ap (λ (l : List Item). add l o) (sym last_is))
