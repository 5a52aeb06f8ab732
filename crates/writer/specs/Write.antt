-- Writing a recording into three lent buffers, told by its items: what the buffers hold after some items were put at their ends, and what is left of a content.
use Rattle.std.specs.Prelude.{ℕ, zero, suc, ◌+◌, ◌%◌, ◌≤◌, true, false, ◌≡◌, List, [], ◌∷◌, length, take, drop}
use Rattle.recording.specs.Share.{Inside}
use Rattle.share.specs.Placed.{placed_from}
use Rattle.buffer.specs.Place.{over_at}
use Rattle.recording.specs.declared.Entry.{Entry}
use Rattle.recording.specs.Recording.{Recording, entries_of, numbers_of_ranges, part_of, Item, item_of, items_from, data_of, start_in, new_text, entries_from, text_from}
use Rattle.recording.specs.Refusals.{bad_shape_of, data_limit, text_limit}
use Rattle.writer.specs.declared.Cursor.{Cursor}

-- ── the buffers while they are written: what they hold, and how far each is written
pub record Out : Type 0 where
  pub data_bytes : List ℕ
  pub entry_numbers : List ℕ
  pub text : List ℕ
  pub d : ℕ
  pub e : ℕ
  pub t : ℕ

unfoldable pub out : List ℕ → List ℕ → List ℕ → Cursor → Out
out od oe ot c = record { data_bytes = od; entry_numbers = oe; text = ot; d = c.d; e = c.e; t = c.t }

-- buffers of which nothing is written
abbrev pub blank : List ℕ → List ℕ → List ℕ → Out
blank od oe ot = record { data_bytes = od; entry_numbers = oe; text = ot; d = 0; e = 0; t = 0 }

-- what the buffers hold of a text and of entries
abbrev pub text_in : Out → List ℕ
text_in o = take o.t o.text

abbrev pub entries_in : Out → List Entry
entries_in o = entries_of (take o.e o.entry_numbers)

-- the entry numbers of items that are put at the ends, and what comes to the text: a push takes the part of the first push with an equal text
abbrev pub numbers_at : Out → List Item → List ℕ
numbers_at o is = numbers_of_ranges (entries_from o.d (text_in o) (entries_in o) is)

abbrev pub text_at : Out → List Item → List ℕ
text_at o is = text_from o.d (text_in o) (entries_in o) is

-- items put at the ends, in order; nothing else moves
unfoldable pub add : List Item → Out → Out
add is o =
    record {
      data_bytes = over_at o.d (data_of is) o.data_bytes;
      entry_numbers = over_at o.e (numbers_at o is) o.entry_numbers;
      text = over_at o.t (text_at o is) o.text;
      d = o.d + length (data_of is);
      e = o.e + length (numbers_at o is);
      t = o.t + length (text_at o is);
    }

-- there is room for the items behind what is written, and they stay within the limits of a recording
pub record Fits (is : List Item) (o : Out) : Type 0 where
  pub data_bytes : o.d + length (data_of is) ≤ length o.data_bytes
  pub entry_numbers : o.e + length (numbers_at o is) ≤ length o.entry_numbers
  pub text : o.t + length (text_at o is) ≤ length o.text
  pub data_limit_lem : o.d + length (data_of is) ≤ data_limit
  pub text_limit_lem : o.t + length (text_at o is) ≤ text_limit
  -- whole entries are written
  pub fours : o.e % 4 ≡ 0
  -- and what is written has its parts in the text, each label at its first push
  pub parts : Inside (text_in o) (entries_in o)
  pub placed : placed_from 0 [] (entries_in o) ≡ true

-- one entry put behind d bytes
unfoldable pub numbers_for : ℕ → List ℕ → List ℕ → Cursor → Item → List ℕ
numbers_for d oe ot c x = numbers_of_ranges (entries_from d (take c.t ot) (entries_of (take c.e oe)) (x ∷ []))

unfoldable pub text_for : ℕ → List ℕ → List ℕ → Cursor → Item → List ℕ
text_for d oe ot c x = text_from d (take c.t ot) (entries_of (take c.e oe)) (x ∷ [])

-- ── a content that is read along
-- entries in order from the offset `at` on, in a data of d bytes and a text of t
unfoldable pub Valid : ℕ → ℕ → ℕ → List Entry → Type 0
Valid at d t [] = at ≤ d
Valid at d t (e ∷ es) = (at ≤ e.position) × (bad_shape_of e.kind e.start e.len ≡ false) × (e.start + e.len ≤ t) × Valid e.position d t es

-- a recording whose entries are in order
pub record Sound (ds ns ts : List ℕ) : Type 0 where
  pub valid : Valid 0 (length ds) (length ts) (entries_of ns)
  pub short : length ds ≤ data_limit

-- a cursor in a content, all entries before its place passed
pub record Ready (ds ns ts : List ℕ) (c : Cursor) : Type 0 where
  pub within : c.k ≤ length ns
  pub valid : Valid c.at (length ds) (length ts) (entries_of (drop c.k ns))
  pub short : length ds ≤ data_limit

-- what is left of the content there
unfoldable pub left : List ℕ → List ℕ → List ℕ → Cursor → List Item
left ds ns ts c = items_from c.at ts (drop c.at ds) (entries_of (drop c.k ns))

-- the same of a recording
abbrev pub SoundIn : Recording → Type 0
SoundIn r = Sound r.data_bytes r.entry_numbers r.text

abbrev pub ReadyIn : Recording → Cursor → Type 0
ReadyIn r c = Ready r.data_bytes r.entry_numbers r.text c

abbrev pub left_in : Recording → Cursor → List Item
left_in r c = left r.data_bytes r.entry_numbers r.text c

-- the next entry's position; past every data if there is none
unfoldable pub place_for : List Entry → ℕ
place_for [] = 4294967296
place_for (e ∷ es) = e.position

-- an entry as an item, its part of the text t with it
unfoldable pub item_at : List ℕ → Entry → Item
item_at t e = item_of e.kind (part_of t e)

-- where an entry's text l starts in a result (`entries_from` in one number), and how many of its bytes come to the text: behind the entries es with the text t
unfoldable pub start_for : ℕ → List ℕ → List ℕ → List Entry → ℕ
start_for zero l t es = start_in l t (length t) es
start_for (suc zero) l t es = 0
start_for (suc (suc k)) l t es = length t

unfoldable pub add_for : ℕ → List ℕ → List ℕ → List Entry → ℕ
add_for zero l t es = length (new_text l t es)
add_for (suc zero) l t es = 0
add_for (suc (suc k)) l t es = length l
