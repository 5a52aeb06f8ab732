-- A recording (document 01, "The recording"), read as one list of items in order, and written back.
use Rattle.std.specs.Prelude.{ℕ, zero, suc, ◌-◌, Bool, true, false, cond, ◌&&◌, ◌||◌, List, [], ◌∷◌, ◌++◌, eqb, length, take, drop}
use Rattle.recording.specs.declared.Entry.{Entry}
use Rattle.recording.specs.Lists.{same}

abbrev pub Bytes : Type 0
Bytes = List ℕ

-- data bytes, entries as four numbers each, and the text that the entries' parts lie in
pub record Recording : Type 0 where
  pub data_bytes : Bytes
  pub entry_numbers : List ℕ
  pub text : Bytes

abbrev pub recording : Bytes → List ℕ → Bytes → Recording
recording d e t = record { data_bytes = d; entry_numbers = e; text = t }

-- ── entries
abbrev pub entry : ℕ → ℕ → ℕ → ℕ → Entry
entry p k s n = record { position = p; kind = k; start = s; len = n }

-- the entries behind the numbers; a rest of fewer than four is none (refusal 2)
abbrev pub entries_of : List ℕ → List Entry
entries_of [] = []
entries_of (p ∷ []) = []
entries_of (p ∷ k ∷ []) = []
entries_of (p ∷ k ∷ s ∷ []) = []
entries_of (p ∷ k ∷ s ∷ n ∷ es) = entry p k s n ∷ entries_of es

abbrev pub numbers_of_ranges : List Entry → List ℕ
numbers_of_ranges [] = []
numbers_of_ranges (e ∷ es) = e.position ∷ e.kind ∷ e.start ∷ e.len ∷ numbers_of_ranges es

-- an entry's part of the text
abbrev pub part_of : Bytes → Entry → Bytes
part_of t e = take e.len (drop e.start t)

-- ── items
pub data Item : Type 0 where
  byte : ℕ → Item
  push : Bytes → Item
  pop : Item
  raw : Bytes → Item

-- kind 0 pushes a label, 1 pops one, 2 is a raw sequence
abbrev pub item_of : ℕ → Bytes → Item
item_of zero part = push part
item_of (suc zero) part = pop
item_of (suc (suc k)) part = raw part

abbrev pub byte_items : Bytes → List Item
byte_items [] = []
byte_items (b ∷ bs) = byte b ∷ byte_items bs

-- the data d from the offset `at` on, with the entries that are left: each comes before the byte at its position
abbrev pub items_from : ℕ → Bytes → Bytes → List Entry → List Item
items_from at t d [] = byte_items d
items_from at t d (e ∷ es) = byte_items (take (e.position - at) d) ++ item_of e.kind (part_of t e) ∷ items_from e.position t (drop (e.position - at) d) es

unfoldable pub items : Recording → List Item
items r = items_from 0 r.text r.data_bytes (entries_of r.entry_numbers)

-- ── and back
abbrev pub data_of : List Item → Bytes
data_of [] = []
data_of (byte b ∷ is) = b ∷ data_of is
data_of (push l ∷ is) = data_of is
data_of (pop ∷ is) = data_of is
data_of (raw t ∷ is) = data_of is

-- the texts of all entries, in entry order, one after another
abbrev pub text_of : List Item → Bytes
text_of [] = []
text_of (byte b ∷ is) = text_of is
text_of (push l ∷ is) = l ++ text_of is
text_of (pop ∷ is) = text_of is
text_of (raw t ∷ is) = t ++ text_of is

-- ── a label that was pushed before: equal texts of pushes share one part; `es` are the entries before, t is their text
-- an entry that pushes l: its part is as long as it says, and it is l
abbrev pub is_push_of : Bytes → Bytes → Entry → Bool
is_push_of l t e = eqb e.kind 0 && (eqb e.len (length l) && same (part_of t e) l)

-- one of the entries pushes l
unfoldable pub pushed_in : Bytes → Bytes → List Entry → Bool
pushed_in l t [] = false
pushed_in l t (e ∷ es) = is_push_of l t e || pushed_in l t es

-- where the first push of l has its text; `new` if there is none
unfoldable pub start_in : Bytes → Bytes → ℕ → List Entry → ℕ
start_in l t new [] = new
start_in l t new (e ∷ es) = cond (is_push_of l t e) e.start (start_in l t new es)

-- a push of l, which takes the part of the first push with an equal text; a new text goes to the text's end
abbrev pub push_at : ℕ → Bytes → List Entry → Bytes → Entry
push_at at t es l = entry at 0 (start_in l t (length t) es) (length l)

-- what it brings to the text: nothing, if a push has it
abbrev pub new_text : Bytes → Bytes → List Entry → Bytes
new_text l t es = cond (pushed_in l t es) [] l

-- ── the entries that are written for items, behind `es` with the text t, and what comes to the text
-- each entry at the number of bytes before it; a raw sequence has its text at the text's end, a pop has 0 and 0 there
abbrev pub entries_from : ℕ → Bytes → List Entry → List Item → List Entry
entries_from at t es [] = []
entries_from at t es (byte b ∷ is) = entries_from (suc at) t es is
entries_from at t es (push l ∷ is) = push_at at t es l ∷ entries_from at (t ++ new_text l t es) (es ++ (push_at at t es l ∷ [])) is
entries_from at t es (pop ∷ is) = entry at 1 0 0 ∷ entries_from at t (es ++ (entry at 1 0 0 ∷ [])) is
entries_from at t es (raw x ∷ is) = entry at 2 (length t) (length x) ∷ entries_from at (t ++ x) (es ++ (entry at 2 (length t) (length x) ∷ [])) is

-- and what comes to the text with them
abbrev pub text_from : ℕ → Bytes → List Entry → List Item → Bytes
text_from at t es [] = []
text_from at t es (byte b ∷ is) = text_from (suc at) t es is
text_from at t es (push l ∷ is) = new_text l t es ++ text_from at (t ++ new_text l t es) (es ++ (push_at at t es l ∷ [])) is
text_from at t es (pop ∷ is) = text_from at t (es ++ (entry at 1 0 0 ∷ [])) is
text_from at t es (raw x ∷ is) = x ++ text_from at (t ++ x) (es ++ (entry at 2 (length t) (length x) ∷ [])) is

unfoldable pub encode : List Item → Recording
encode is = record { data_bytes = data_of is; entry_numbers = numbers_of_ranges (entries_from 0 [] [] is); text = text_from 0 [] [] is }

-- stripping keeps the data and drops every entry
unfoldable pub strip : Recording → Recording
strip r = record { data_bytes = r.data_bytes; entry_numbers = []; text = [] }

-- ── pieces: the longest runs of data with no entry inside, in order
abbrev pub is_nil : {A : Type 0} → List A → Bool
is_nil [] = true
is_nil (a ∷ r) = false

abbrev pub non_empty : Bytes → List Bytes
non_empty piece = cond (is_nil piece) [] (piece ∷ [])

-- `piece` has the bytes since the last entry
abbrev pub pieces_from : Bytes → List Item → List Bytes
pieces_from piece [] = non_empty piece
pieces_from piece (byte b ∷ is) = pieces_from (piece ++ (b ∷ [])) is
pieces_from piece (push l ∷ is) = non_empty piece ++ pieces_from [] is
pieces_from piece (pop ∷ is) = non_empty piece ++ pieces_from [] is
pieces_from piece (raw t ∷ is) = non_empty piece ++ pieces_from [] is

unfoldable pub pieces : Recording → List Bytes
pieces r = pieces_from [] (items r)
