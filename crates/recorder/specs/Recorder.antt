-- The recorder (document 01, module 1): adding data, a label, a pop or a raw sequence to a recording, and replaying one.
use Rattle.std.specs.Prelude.{ℕ, ◌≤◌, ◌||◌, not, List, [], ◌∷◌, ◌++◌, ltb, eqb, length, take}
use Rattle.chars.specs.Chars.{well_formed_of}
use Rattle.recording.specs.Recording.{Bytes, Recording, recording, entry, entries_of, numbers_of_ranges, Item, items, start_in, new_text, encode}
use Rattle.recording.specs.Refusals.{refuse_if, recording_fault, data_limit, entry_limit, text_limit}
use Rattle.recording.specs.Outcome.{Room, Result, Faults, content_faults, Outcome, settle, Lent, room_in}

-- the three buffers that a call is lent, without a line list
abbrev pub lent_of : Bytes → List ℕ → Bytes → Lent
lent_of d e t = record { data_bytes = d; entry_numbers = e; text = t; lines = [] }

-- a call of this module leaves a recording, no lines, and returns no number of its own
abbrev pub leaves : Recording → Result
leaves q = record { recording = q; lines = []; number = 0 }

-- ── a call that leaves these items, and that nothing but their sizes can refuse
abbrev pub no_faults : Faults
no_faults = record { lengths = 0; content = 0; second = 0; added = 0; plain = 0; own = 0 }

unfoldable pub judged_by_size : Room → List Item → Outcome
judged_by_size o is = settle no_faults o (leaves (encode is))

-- ── replay: the recording written anew, its entries' texts from 0 on
unfoldable pub replay_faults : Recording → Faults
replay_faults r = content_faults r 0

unfoldable pub replayed : Recording → Lent → Outcome
replayed r b = settle (replay_faults r) (room_in b) (leaves (encode (items r)))

-- ── the adding calls: something more at the ends, and all that was there stays where it is
-- data at the data's end
unfoldable pub with_data : Bytes → Recording → Recording
with_data x r = recording (r.data_bytes ++ x) r.entry_numbers r.text

-- one entry at the current end, with a part of n bytes from `start` on; x comes to the text
unfoldable pub with_entry : ℕ → ℕ → ℕ → Bytes → Recording → Recording
with_entry kind start n x r = recording r.data_bytes (r.entry_numbers ++ numbers_of_ranges (entry (length r.data_bytes) kind start n ∷ [])) (r.text ++ x)

-- a label takes the part of the first push with an equal text, and a new one goes to the text's end (document 02, Q-8): a push as in a result
unfoldable pub with_label : Bytes → Recording → Recording
unfolding with_entry
with_label l r = with_entry 0 (start_in l r.text (length r.text) (entries_of r.entry_numbers)) (length l) (new_text l r.text (entries_of r.entry_numbers)) r

-- a pop has 0 and 0
unfoldable pub with_pop : Recording → Recording
unfolding with_entry
with_pop r = with_entry 1 0 0 [] r

-- a raw sequence goes to the text's end
unfoldable pub with_raw : Bytes → Recording → Recording
unfolding with_entry
with_raw x r = with_entry 2 (length r.text) (length x) x r

-- the recording in buffers of which d, e and t numbers are used
abbrev pub used_of : Lent → ℕ → ℕ → ℕ → Recording
used_of b d e t = recording (take d b.data_bytes) (take e b.entry_numbers) (take t b.text)

-- d, e and t numbers of the buffers: they lie in them, and within the limits of a recording
pub record UsedIn (b : Lent) (d e t : ℕ) : Type 0 where
  pub data_bytes : d ≤ length b.data_bytes
  pub entry_numbers : e ≤ length b.entry_numbers
  pub text : t ≤ length b.text
  pub data_limit_lem : d ≤ data_limit
  pub entry_limit_lem : e ≤ entry_limit
  pub text_limit_lem : t ≤ text_limit

-- 10: a length above its buffer
unfoldable pub lengths_fault : Lent → ℕ → ℕ → ℕ → ℕ
lengths_fault b d e t = refuse_if (ltb (length b.data_bytes) d || ltb (length b.entry_numbers) e || ltb (length b.text) t) 10

-- n is the refusal of what is added, 0 for none
unfoldable pub add_faults : ℕ → Lent → ℕ → ℕ → ℕ → Faults
add_faults n b d e t = record { lengths = lengths_fault b d e t; content = recording_fault (used_of b d e t); second = 0; added = n; plain = 0; own = 0 }

unfoldable pub written : Bytes → Lent → ℕ → ℕ → ℕ → Outcome
written x b d e t = settle (add_faults 0 b d e t) (room_in b) (leaves (with_data x (used_of b d e t)))

-- 6: the label that is pushed
unfoldable pub pushed : Bytes → Lent → ℕ → ℕ → ℕ → Outcome
pushed l b d e t = settle (add_faults (refuse_if (not (well_formed_of l)) 6) b d e t) (room_in b) (leaves (with_label l (used_of b d e t)))

unfoldable pub popped : Lent → ℕ → ℕ → ℕ → Outcome
popped b d e t = settle (add_faults 0 b d e t) (room_in b) (leaves (with_pop (used_of b d e t)))

-- 3: a raw sequence without bytes
unfoldable pub raw_added : Bytes → Lent → ℕ → ℕ → ℕ → Outcome
raw_added x b d e t = settle (add_faults (refuse_if (eqb (length x) 0) 3) b d e t) (room_in b) (leaves (with_raw x (used_of b d e t)))
