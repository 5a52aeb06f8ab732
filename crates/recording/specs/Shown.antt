-- What Q-8 asks to be shown of every result, clause by clause; `proofs/Shown.antt` has all of it.
use Rattle.std.specs.Prelude.{ℕ, suc, ◌+◌, ◌≤◌, ◌≡◌, ◌⊎◌, List, [], ◌∷◌, length}
use Rattle.recording.specs.declared.Entry.{Entry}
use Rattle.recording.specs.Lists.{AllOf}
use Rattle.recording.specs.Recording.{Recording, entry, entries_of, numbers_of_ranges, part_of, Item, byte, push, pop, raw, data_of, text_of, items, start_in, encode}
use Rattle.recording.specs.Coloured.{coloured, coloured_from}
use Rattle.recording.specs.Outcome.{Room, Result, Faults, refusal_of}

-- ── "equal texts of push entries now share one part, placed at the first push that has it"
-- each push starts where the first push with its text does
abbrev pub AtFirst : Recording → Type 0
AtFirst r = AllOf (λ (e : Entry). e.kind ≡ 0 → e.start ≡ start_in (part_of r.text e) r.text (length r.text) (entries_of r.entry_numbers)) (entries_of r.entry_numbers)

-- so pushes with equal texts have one start
abbrev pub OneStart : Recording → Type 0
OneStart r =
    AllOf (λ (x : Entry). AllOf (λ (y : Entry). x.kind ≡ 0 → y.kind ≡ 0 → part_of r.text x ≡ part_of r.text y → x.start ≡ y.start) (entries_of r.entry_numbers)) (entries_of r.entry_numbers)

-- ── "raw sequences keep their own": any two entries have parts side by side, or they are pushes with one part
abbrev pub Beside : Entry → Entry → Type 0
Beside x y = (x.start + x.len ≤ y.start) ⊎ (y.start + y.len ≤ x.start)

abbrev pub OnePart : Entry → Entry → Type 0
OnePart x y = (x.kind ≡ 0) × (y.kind ≡ 0) × (x.start ≡ y.start) × (x.len ≡ y.len)

-- of each entry and each one behind it
abbrev pub AllPairs : (Entry → Entry → Type 0) → List Entry → Type 0
AllPairs P [] = Unit {0}
AllPairs P (e ∷ es) = AllOf (P e) es × AllPairs P es

abbrev pub Parted : Recording → Type 0
Parted r = AllPairs (λ (x y : Entry). Beside x y ⊎ OnePart x y) (entries_of r.entry_numbers)

-- ── before: document 01's layout, each entry's text after those before it
abbrev pub entries_before : ℕ → ℕ → List Item → List Entry
entries_before at used [] = []
entries_before at used (byte b ∷ is) = entries_before (suc at) used is
entries_before at used (push l ∷ is) = entry at 0 used (length l) ∷ entries_before at (used + length l) is
entries_before at used (pop ∷ is) = entry at 1 0 0 ∷ entries_before at used is
entries_before at used (raw t ∷ is) = entry at 2 used (length t) ∷ entries_before at (used + length t) is

unfoldable pub encode_before : List Item → Recording
encode_before is = record { data_bytes = data_of is; entry_numbers = numbers_of_ranges (entries_before 0 0 is); text = text_of is }

-- ── the length does not depend on the order of the entries: neighbours changed, as often as one likes
pub data Rearranged : List Item → List Item → Type 0 where
  same : {is : List Item} → Rearranged is is
  swapped : {x y : Item} {is : List Item} → Rearranged (x ∷ y ∷ is) (y ∷ x ∷ is)
  behind : {x : Item} {is js : List Item} → Rearranged is js → Rearranged (x ∷ is) (x ∷ js)
  then : {is js ks : List Item} → Rearranged is js → Rearranged js ks → Rearranged is ks

-- ── "refusals 9 and 23 follow": what a call leaves, by both layouts
abbrev pub left : Recording → List ℕ → ℕ → Result
left q ls n = record { recording = q; lines = ls; number = n }

-- neither 9 nor 23 is given where it was not given before, and no other refusal changes: of a call with any faults, in any room, that leaves these items
pub record NoNewRefusals (f : Faults) (o : Room) (now before : Result) : Type 0 where
  pub nine : refusal_of f o now ≡ 9 → refusal_of f o before ≡ 9
  pub no_text : refusal_of f o now ≡ 23 → (refusal_of f o before ≡ 9) ⊎ (refusal_of f o before ≡ 23)
  pub others : (refusal_of f o before ≡ refusal_of f o now) ⊎ ((refusal_of f o before ≡ 9) ⊎ (refusal_of f o before ≡ 23))

-- ── all of it, of any items
pub record Shown (is : List Item) : Type 0 where
  pub at_first : AtFirst (encode is)
  pub one_start : OneStart (encode is)
  pub parted : Parted (encode is)
  -- the text is never longer than before
  pub shorter : length (encode is).text ≤ length (encode_before is).text
  -- its length does not depend on the order
  pub any_order : (js : List Item) → Rearranged is js → length (encode is).text ≡ length (encode js).text
  pub refusals : (f : Faults) (o : Room) (ls : List ℕ) (n : ℕ) → NoNewRefusals f o (left (encode is) ls n) (left (encode_before is) ls n)
  -- reading back gives the items, so coloured bytes and plain steps see nothing of the layout; writing anew what was written leaves it
  pub read_back : items (encode is) ≡ is
  pub colours : coloured (encode is) ≡ coloured_from [] is
  pub again : encode (items (encode is)) ≡ encode is
