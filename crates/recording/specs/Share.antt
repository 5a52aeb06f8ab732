-- Entries whose parts lie in their text; and how long the text of a result is: its raw sequences as often as they are written, and each label that is pushed a single time.
use Rattle.std.specs.Prelude.{ℕ, ◌+◌, ◌*◌, ◌≤◌, Bool, false, cond, ◌||◌, List, [], ◌∷◌, ◌++◌, eqb, length}
use Rattle.recording.specs.declared.Entry.{Entry}
use Rattle.recording.specs.Lists.{same}
use Rattle.recording.specs.Recording.{Bytes, Item, byte, push, pop, raw}

-- all parts lie in the text
unfoldable pub Inside : Bytes → List Entry → Type 0
Inside t [] = Unit {0}
Inside t (e ∷ es) = (e.start + e.len ≤ length t) × Inside t es

-- a number for each item, added up
abbrev pub sum_of : (Item → ℕ) → List Item → ℕ
sum_of m [] = 0
sum_of m (x ∷ is) = m x + sum_of m is

-- the bytes of a raw sequence; 0 of any other item
abbrev pub raw_len_of : Item → ℕ
raw_len_of (byte b) = 0
raw_len_of (push l) = 0
raw_len_of pop = 0
raw_len_of (raw t) = length t

-- an item pushes the label l: 1, or 0
abbrev pub push_of : Bytes → Item → ℕ
push_of l (byte b) = 0
push_of l (push x) = cond (same x l) 1 0
push_of l pop = 0
push_of l (raw t) = 0

-- how often the label l is pushed
abbrev pub times : Bytes → List Item → ℕ
times l is = sum_of (push_of l) is

-- l is one of these labels
abbrev pub member : Bytes → List Bytes → Bool
member l [] = false
member l (x ∷ xs) = same x l || member l xs

-- the labels that are not in `seen`, each a single time
abbrev pub label_len : List Bytes → List Item → ℕ
label_len seen [] = 0
label_len seen (byte b ∷ is) = label_len seen is
label_len seen (push l ∷ is) = cond (member l seen) 0 (length l) + label_len (l ∷ seen) is
label_len seen (pop ∷ is) = label_len seen is
label_len seen (raw t ∷ is) = label_len seen is

-- the text of all entries of a and of those of b, n times written, in whatever order
unfoldable pub shared_size : List Item → ℕ → List Item → ℕ
shared_size a n b = (sum_of raw_len_of a + n * sum_of raw_len_of b) + label_len [] (a ++ cond (eqb n 0) [] b)
