-- The two readers' outcomes: the office's is replay's where 34 and 35 are not given (`office_replay`); both follow the content's checks (`content_first`, `turned_away`); what the floor is left is a
-- recording, as balanced as the content (`floor_clean`, `balance_stays`). The idea: all that an outcome is made of stands in `view_faults`, and the floor's items are an edit of the content's.
use Prim.Native.Nat.{◌<◌}
use mathlib.Core.Bool.{Bool, true, false, cond}
use mathlib.Core.Path.{◌≡◌, refl, sym, ap, ◌∙◌}
use mathlib.Core.List.{List, [], ◌∷◌, ◌++◌, tail}
use Rattle.chars.specs.Chars.{chars}
use Rattle.recording.specs.Recording.{Bytes, Recording, Item, byte, push, pop, raw, items, encode}
use Rattle.recording.specs.Coloured.{balanced}
use Rattle.recording.specs.Refusals.{recording_fault}
use Rattle.recording.specs.Outcome.{Room, Result, refused, done, settle, Lent, room_in}
use Rattle.recording.proofs.FaultLaws.{ItemOk, Ok, ok_bytes, ok_edit, ok_recording, Granted, granted, encoded}
use Rattle.recording.proofs.OutcomeLaws.{stops_content, stops_own, refused_by, done_only}
use Rattle.recorder.specs.Recorder.{leaves, replay_faults, replayed}
use Rattle.layout.proofs.ListLaws.{balanced-encode}
use Rattle.view.specs.View.{among, floor_ops, drop_raws, hidden, floor_items, floor_of, view_fault, view_faults, office_outcome, floor_outcome}
use Rattle.view.proofs.DropLaws.{puts_floor, drop_balance, floor_balance}

module _ (l : Bytes) (r : Recording) where
  -- ── the office
  pub office_replay : (b : Lent) → view_fault l r ≡ 0 → office_outcome l (room_in b) r ≡ replayed r b
  unfolding office_outcome replayed view_faults replay_faults
  office_replay b h = rw h

  -- ── the content's checks come first, for both readers
  pub content_first : (o : Room) → 0 < recording_fault r → (office_outcome l o r ≡ refused (recording_fault r)) × (floor_outcome l o r ≡ refused (recording_fault r))
  unfolding office_outcome floor_outcome view_faults
  content_first o h = (at (leaves (encode (items r))), at (leaves (floor_of l r)))
    where
      at : (x : Result) → settle (view_faults l r) o x ≡ refused (recording_fault r)
      at x = refused_by (view_faults l r) o x (recording_fault r) h (stops_content (view_faults l r) o x refl h)

  -- ── then 34 and 35, before 9 and 21 to 23
  pub turned_away : (o : Room) → recording_fault r ≡ 0 → 0 < view_fault l r → (office_outcome l o r ≡ refused (view_fault l r)) × (floor_outcome l o r ≡ refused (view_fault l r))
  unfolding office_outcome floor_outcome view_faults
  turned_away o a h = (at (leaves (encode (items r))), at (leaves (floor_of l r)))
    where
      at : (x : Result) → settle (view_faults l r) o x ≡ refused (view_fault l r)
      at x = refused_by (view_faults l r) o x (view_fault l r) h (stops_own (view_faults l r) o x refl a refl refl refl h)

-- ── what the floor is left is a recording without faults
ok_raw : (t : Bool) (x : Bytes) (is : List Item) → ItemOk (raw x) → Ok is → Ok (cond t [] (raw x ∷ []) ++ is)
ok_raw true x is h g = g
ok_raw false x is h g = (h, g)

ok_drop : (l : Bytes) (s : List Bytes) (is : List Item) → Ok is → Ok (drop_raws l s is)
ok_drop l s [] h = tt
ok_drop l s (byte b ∷ is) h = (tt, ok_drop l s is h.1)
ok_drop l s (push k ∷ is) h = (h.0, ok_drop l (k ∷ s) is h.1)
ok_drop l s (pop ∷ is) h = (tt, ok_drop l (tail s) is h.1)
ok_drop l s (raw t ∷ is) h = ok_raw (among l s) t (drop_raws l s is) h.0 (ok_drop l s is h.1)

ok_floor : (l : Bytes) (r : Recording) → recording_fault r ≡ 0 → Ok (floor_items l r)
unfolding floor_items
ok_floor l r h =
    ok_edit (floor_ops (hidden l r) (chars r.data_bytes)) (drop_raws l [] (items r)) (puts_floor Ok ok_bytes (hidden l r) (chars r.data_bytes))
    (ok_drop l [] (items r) (ok_recording r h))

pub floor_clean : (l : Bytes) (o : Room) (r : Recording) (x : Result) → floor_outcome l o r ≡ done x → recording_fault x.recording ≡ 0
unfolding floor_outcome view_faults
floor_clean l o r x e =
    let y : Result = leaves (floor_of l r) in
    let d = done_only (view_faults l r) o y x e in
    let G : Granted (view_faults l r) o y = granted (view_faults l r) o y d.0 in
    ap (λ (z : Result). recording_fault z.recording) (sym d.1) ∙ encoded (floor_items l r) (ok_floor l r G.content) G.limit

-- ── and as balanced as the content
pub balance_stays : (l : Bytes) (r : Recording) → balanced (floor_of l r) ≡ balanced r
unfolding balanced floor_items
balance_stays l r = balanced-encode (floor_items l r) ∙ floor_balance (hidden l r) (chars r.data_bytes) (drop_raws l [] (items r)) ∙ drop_balance l 0 [] (items r)
