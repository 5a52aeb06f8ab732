-- What Q-8 asks to be shown of the recorder; `proofs/Shown.antt` has all of it.
use Rattle.std.specs.Prelude.{ℕ, true, not, ◌≡◌, List, [], ◌∷◌, ◌++◌, length}
use Rattle.chars.specs.Chars.{well_formed_of}
use Rattle.recording.specs.Recording.{Bytes, Recording, entries_of, Item, push, items, pushed_in, encode}
use Rattle.recording.specs.Refusals.{refuse_if, recording_fault}
use Rattle.recording.specs.Outcome.{done, no_room, Lent, room_in}
use Rattle.recording.specs.Shown.{NoNewRefusals}
use Rattle.recorder.specs.Recorder.{leaves, used_of, add_faults, with_entry, with_label, replayed}

-- ── "A recorder push takes the part of the first push with equal text": of a content without faults, whatever its parts look like
pub record Pushed (l : Bytes) (r : Recording) : Type 0 where
  -- what was there stays, and the label is read behind it
  pub reads : items (with_label l r) ≡ items r ++ (push l ∷ [])
  -- where the label was pushed before, nothing comes to the text
  pub shared : pushed_in l r.text (entries_of r.entry_numbers) ≡ true → (with_label l r).text ≡ r.text

-- before: every label at the text's end
unfoldable pub with_label_before : Bytes → Recording → Recording
with_label_before l r = with_entry 0 (length r.text) (length l) l r

-- 9 or 23 is not given where it was not given before
abbrev pub PushRefusals : Bytes → Lent → ℕ → ℕ → ℕ → Type 0
PushRefusals l b d e t =
    NoNewRefusals (add_faults (refuse_if (not (well_formed_of l)) 6) b d e t) (room_in b) (leaves (with_label l (used_of b d e t))) (leaves (with_label_before l (used_of b d e t)))

-- ── replaying what a call left leaves it as it is, wherever there is room for it
abbrev pub Replayed : List Item → Lent → Type 0
Replayed is b = recording_fault (encode is) ≡ 0 → no_room (room_in b) (leaves (encode is)) ≡ 0 → replayed (encode is) b ≡ done (leaves (encode is))
