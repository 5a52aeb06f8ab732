-- What Q-6 asks to be shown: of two recordings that differ only under the label the floor reads the same (`Theorem`); what each reader reads of one recording, in the request's words (`Readers`);
-- and a view after a list of layout calls (`Follows`). `proofs/Shown.antt` has all three.
use Rattle.recording.specs.Outcome.{Answer}
use Rattle.std.specs.Prelude.{◌≤◌, ◌<◌, Bool, true, false, cond, ◌||◌, ◌≡◌, ◌⊎◌, List, [], ◌∷◌, ◌++◌, eqb, length, take, drop, replicate}
use Rattle.chars.specs.Chars.{Character, chars, wide}
use Rattle.newlines.specs.Newlines.{newlines}
use Rattle.recording.specs.Lists.{AllOf, same}
use Rattle.recording.specs.Recording.{Bytes, Recording, Item, byte, push, pop, raw, items, encode}
use Rattle.recording.specs.Coloured.{Coloured, coloured, balanced, values}
use Rattle.recording.specs.Edit.{entries_only, labels_at}
use Rattle.recording.specs.Refusals.{recording_fault}
use Rattle.recording.specs.Outcome.{Room, Result, refused, done, refusal_of, Lent, room_in, returned, read_back_of, answer_of, Promised}
use Rattle.recorder.specs.Recorder.{leaves, replayed}
use Rattle.layout.specs.Layout.{Call, run}
use Rattle.layout.specs.Plain.{with_labels, steps, told}
use Rattle.layout.specs.Lent.{front_of}
use Rattle.layout.specs.Theorem.{Proper, Demand3}
use Rattle.view.specs.View.{among, hides, drop_raws, floor_items, floor_of, view_fault, view_faults, office_outcome, floor_outcome}
use Rattle.view.specs.Alike.{Alike}

-- ── two recordings: "the floor's coloured bytes, entries, numbers and refusals agree", in lent buffers of the lengths o
pub record Agree (l : Bytes) (o : Room) (r q : Recording) : Type 0 where
  -- all of it at once: refused with the same number, or done with the same result
  pub outcomes : floor_outcome l o r ≡ floor_outcome l o q
  -- and one by one
  pub colours : coloured (floor_of l r) ≡ coloured (floor_of l q)
  pub entries : ((floor_of l r).entry_numbers ≡ (floor_of l q).entry_numbers) × ((floor_of l r).text ≡ (floor_of l q).text)
  pub numbers : returned (floor_outcome l o r) ≡ returned (floor_outcome l o q)
  pub refusals : refusal_of (view_faults l r) o (leaves (floor_of l r)) ≡ refusal_of (view_faults l q) o (leaves (floor_of l q))
  -- what is read from the lent buffers up to the lengths returned, whatever they held before
  pub buffers : (b c : Lent) → read_back_of (floor_outcome l o r) b ≡ read_back_of (floor_outcome l o q) c

-- for every label and two accepted recordings that are alike under it
abbrev pub Theorem : Type 0
Theorem = (l : Bytes) (r q : Recording) → recording_fault r ≡ 0 → recording_fault q ≡ 0 → Alike l r q → (o : Room) → Agree l o r q

-- what an answer's lengths say of lent buffers
abbrev pub left_in_lent : Answer → Lent → Recording
left_in_lent a b = front_of (answer_of a).data_bytes (answer_of a).entry_numbers (answer_of a).text b

-- the same of two calls that have kept their promise, "lent buffers of equal lengths": b and c before, b' and c' after, with the answers x and y
abbrev pub Running : Type 0
Running = (l : Bytes) (r q : Recording) → recording_fault r ≡ 0 → recording_fault q ≡ 0 → Alike l r q → (b b' c c' : Lent) (x y : Answer) → room_in b ≡ room_in c
    → Promised (floor_outcome l (room_in b) r) b b' x → Promised (floor_outcome l (room_in c) q) c c' y → (answer_of x ≡ answer_of y) × (left_in_lent x b' ≡ left_in_lent y c')

-- ── one recording
-- the floor's coloured bytes: for each character stars under the labels of its first byte, as many as its width, or its own coloured bytes
abbrev pub floor_coloured : Bytes → List Character → List Coloured → List Coloured
floor_coloured l [] cs = []
floor_coloured l (c ∷ chs) cs =
    let own = take (length c.text) cs in
    cond (hides l c own) (with_labels (labels_at own) (replicate (wide c) 0x2A)) own ++ floor_coloured l chs (drop (length c.text) cs)

-- under the label there are only stars and 0A
abbrev pub Starred : Bytes → Coloured → Type 0
Starred l c = among l c.labels ≡ true → (c.val ≡ 0x2A) ⊎ (c.val ≡ 0x0A)

-- each 0A with its labels
abbrev pub coloured_newlines : List Coloured → List Coloured
coloured_newlines [] = []
coloured_newlines (c ∷ cs) = cond (eqb c.val 0x0A) (c ∷ []) [] ++ coloured_newlines cs

-- the label is pushed somewhere
abbrev pub opens : Bytes → List Item → Bool
opens l [] = false
opens l (byte b ∷ is) = opens l is
opens l (push k ∷ is) = same l k || opens l is
opens l (pop ∷ is) = opens l is
opens l (raw t ∷ is) = opens l is

pub record Readers (l : Bytes) (r : Recording) : Type 0 where
  pub colours : balanced r ≡ true → coloured (floor_of l r) ≡ floor_coloured l (chars r.data_bytes) (coloured r)
  pub starred : balanced r ≡ true → AllOf (Starred l) (coloured (floor_of l r))
  -- "0A stays", each of them, under the labels that it had
  pub newlines_stay : newlines (floor_of l r).data_bytes ≡ newlines r.data_bytes
  pub newlines_labels : balanced r ≡ true → coloured_newlines (coloured (floor_of l r)) ≡ coloured_newlines (coloured r)
  -- no entry is dropped but the raw sequences under the label, and the others keep their order
  pub entries : entries_only (floor_items l r) ≡ entries_only (drop_raws l [] (items r))
  -- where the label is not pushed at all, the floor reads what the office reads
  pub absent : opens l (items r) ≡ false → floor_items l r ≡ items r
  -- what the floor is left is a recording again, as balanced as the content
  pub clean : (o : Room) (x : Result) → floor_outcome l o r ≡ done x → recording_fault x.recording ≡ 0
  pub balance : balanced (floor_of l r) ≡ balanced r
  -- it is never longer than what the office is left
  pub shorter : (length (floor_of l r).data_bytes ≤ length r.data_bytes) × (length (floor_of l r).entry_numbers ≤ length (encode (items r)).entry_numbers)
      × (length (floor_of l r).text ≤ length (encode (items r)).text)
  -- the office reads what replay leaves
  pub office : (b : Lent) → view_fault l r ≡ 0 → office_outcome l (room_in b) r ≡ replayed r b
  -- 34 and 35 "follow the content's checks", for both readers, and come before all others
  pub checks : (o : Room) → 0 < recording_fault r → (office_outcome l o r ≡ refused (recording_fault r)) × (floor_outcome l o r ≡ refused (recording_fault r))
  pub turned : (o : Room) → recording_fault r ≡ 0 → 0 < view_fault l r → (office_outcome l o r ≡ refused (view_fault l r)) × (floor_outcome l o r ≡ refused (view_fault l r))

-- ── after a list of layout calls: demand 3 speaks of the list; the view reads what it leaves, which passes the content's checks and is balanced. A view is no `Job`: it cannot stand inside a list
pub record Follows (l : Bytes) (calls : List Call) (r : Recording) : Type 0 where
  pub demand3 : Demand3 calls r
  pub accepted : recording_fault (run calls r) ≡ 0
  pub balance : balanced (run calls r) ≡ true
  pub colours : coloured (floor_of l (run calls r)) ≡ floor_coloured l (chars (values (steps (told calls r) (coloured r)))) (steps (told calls r) (coloured r))

abbrev pub AfterCalls : Type 0
AfterCalls = (l : Bytes) (calls : List Call) (r : Recording) → recording_fault r ≡ 0 → balanced r ≡ true → Proper calls r → Follows l calls r
