-- An edit of an item list, told by what becomes of its data bytes; the same edit of coloured bytes, and of data alone.
use Rattle.std.specs.Prelude.{ℕ, zero, suc, List, [], ◌∷◌, ◌++◌, take, drop}
use Rattle.recording.specs.Recording.{Bytes, Item, byte, push, pop, raw, data_of}
use Rattle.recording.specs.Coloured.{Coloured, coloured_from}

-- `keep n`: the next n bytes stay; `skip n`: they go; `put p`: p comes in, after the entries at this place. What no step speaks of stays.
pub data Op : Type 0 where
  keep : ℕ → Op
  skip : ℕ → Op
  put : List Item → Op

-- the items before the byte at offset n, the entries at that offset included; and the items from that byte on
abbrev pub front : ℕ → List Item → List Item
front n [] = []
front n (push l ∷ is) = push l ∷ front n is
front n (pop ∷ is) = pop ∷ front n is
front n (raw t ∷ is) = raw t ∷ front n is
front zero (byte b ∷ is) = []
front (suc n) (byte b ∷ is) = byte b ∷ front n is

abbrev pub back : ℕ → List Item → List Item
back n [] = []
back n (push l ∷ is) = back n is
back n (pop ∷ is) = back n is
back n (raw t ∷ is) = back n is
back zero (byte b ∷ is) = byte b ∷ is
back (suc n) (byte b ∷ is) = back n is

abbrev pub entries_only : List Item → List Item
entries_only [] = []
entries_only (byte b ∷ is) = entries_only is
entries_only (push l ∷ is) = push l ∷ entries_only is
entries_only (pop ∷ is) = pop ∷ entries_only is
entries_only (raw t ∷ is) = raw t ∷ entries_only is

-- no entry is dropped
abbrev pub edit : List Op → List Item → List Item
edit [] is = is
edit (keep n ∷ ops) is = front n is ++ edit ops (back n is)
edit (skip n ∷ ops) is = entries_only (front n is) ++ edit ops (back n is)
edit (put p ∷ ops) is = front 0 is ++ (p ++ edit ops (back 0 is))

-- ── on coloured bytes: what is put in stands under the labels of the byte that it comes before, under none at the end
abbrev pub labels_at : List Coloured → List Bytes
labels_at [] = []
labels_at (c ∷ cs) = c.labels

abbrev pub under : List Bytes → List Coloured → List Coloured
under ls [] = []
under ls (c ∷ cs) = record { val = c.val; labels = ls ++ c.labels } ∷ under ls cs

abbrev pub edit_coloured : List Op → List Coloured → List Coloured
edit_coloured [] cs = cs
edit_coloured (keep n ∷ ops) cs = take n cs ++ edit_coloured ops (drop n cs)
edit_coloured (skip n ∷ ops) cs = edit_coloured ops (drop n cs)
edit_coloured (put p ∷ ops) cs = under (labels_at cs) (coloured_from [] p) ++ edit_coloured ops cs

-- ── on data alone
abbrev pub edit_data : List Op → Bytes → Bytes
edit_data [] d = d
edit_data (keep n ∷ ops) d = take n d ++ edit_data ops (drop n d)
edit_data (skip n ∷ ops) d = edit_data ops (drop n d)
edit_data (put p ∷ ops) d = data_of p ++ edit_data ops d
