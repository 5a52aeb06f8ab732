-- Coloured bytes and balance (document 01, "The recording"; "coloured byte" is its term for a data byte with the labels open at it).
use Rattle.std.specs.Prelude.{ℕ, zero, suc, Bool, true, false, ◌&&◌, ◌||◌, eqb, length}
use mathlib.Core.List.{List, [], ◌∷◌, reverse, tail}
use Rattle.recording.specs.declared.Entry.{Entry}
use Rattle.recording.specs.Recording.{Bytes, Recording, entries_of, Item, byte, push, pop, raw, items}

-- a data byte with the labels open at it, outermost first
pub record Coloured : Type 0 where
  pub val : ℕ
  pub labels : List Bytes

-- `stack` has the open labels, innermost first: a push opens its label, a pop closes the last one still open, raw sequences are not part of it
abbrev pub coloured_from : List Bytes → List Item → List Coloured
coloured_from stack [] = []
coloured_from stack (byte b ∷ is) = record { val = b; labels = reverse stack } ∷ coloured_from stack is
coloured_from stack (push l ∷ is) = coloured_from (l ∷ stack) is
coloured_from stack (pop ∷ is) = coloured_from (tail stack) is
coloured_from stack (raw t ∷ is) = coloured_from stack is

unfoldable pub coloured : Recording → List Coloured
coloured r = coloured_from [] (items r)

-- the labels that are open after some items, where those of s are open before them
abbrev pub open_after : List Bytes → List Item → List Bytes
open_after s [] = s
open_after s (byte b ∷ is) = open_after s is
open_after s (push l ∷ is) = open_after (l ∷ s) is
open_after s (pop ∷ is) = open_after (tail s) is
open_after s (raw t ∷ is) = open_after s is

abbrev pub values : List Coloured → Bytes
values [] = []
values (c ∷ cs) = c.val ∷ values cs

-- n labels are open: no pop finds the stack empty, and it ends empty
abbrev pub balanced_from : ℕ → List Item → Bool
balanced_from zero [] = true
balanced_from (suc n) [] = false
balanced_from n (byte b ∷ is) = balanced_from n is
balanced_from n (push l ∷ is) = balanced_from (suc n) is
balanced_from zero (pop ∷ is) = false
balanced_from (suc n) (pop ∷ is) = balanced_from n is
balanced_from n (raw t ∷ is) = balanced_from n is

unfoldable pub balanced : Recording → Bool
balanced r = balanced_from 0 (items r)

-- an entry is inside the data if its position is neither 0 nor the data length
abbrev pub none_inside_of : ℕ → List Entry → Bool
none_inside_of n [] = true
none_inside_of n (e ∷ es) = (eqb e.position 0 || eqb e.position n) && none_inside_of n es

unfoldable pub none_inside_recording : Recording → Bool
none_inside_recording r = none_inside_of (length r.data_bytes) (entries_of r.entry_numbers)
