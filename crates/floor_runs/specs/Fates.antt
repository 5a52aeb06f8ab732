-- What becomes of each data byte when the floor reads (Q-6): the bytes that come in its stead, one list for each byte. And a place on the way along the data, up to which that is decided.
use Rattle.std.specs.Prelude.{ℕ, ◌-◌, ◌≤◌, Bool, true, false, cond, ◌≡◌, List, [], ◌∷◌, ◌++◌, length, take, drop, replicate}
use Rattle.buffer.specs.Place.{part}
use Rattle.chars.specs.Chars.{Character, chars}
use Rattle.recording.specs.Recording.{Bytes, Recording, Item, byte, push, pop, raw, byte_items}
use Rattle.recording.specs.Coloured.{Coloured, coloured}
use Rattle.view.specs.View.{hidden_from, stars, drop_raws}

-- each of these bytes stays
abbrev pub singles : Bytes → List Bytes
singles [] = []
singles (b ∷ d) = (b ∷ []) ∷ singles d

-- a replaced character: stars for its first byte, nothing for those behind it
abbrev pub gone : Character → List Bytes
gone c = stars c ∷ replicate (length c.text - 1) []

-- character for character, where hs says which are replaced
abbrev pub fates_of : List Bool → List Character → List Bytes
fates_of [] cs = []
fates_of (h ∷ hs) [] = []
fates_of (true ∷ hs) (c ∷ cs) = gone c ++ fates_of hs cs
fates_of (false ∷ hs) (c ∷ cs) = singles c.text ++ fates_of hs cs

-- the characters cs, whose coloured bytes are the first of xs
abbrev pub fates_from : Bytes → List Character → List Coloured → List Bytes
fates_from l cs xs = fates_of (hidden_from l cs xs) cs

-- of all of a recording's data
unfoldable pub fates : Bytes → Recording → List Bytes
fates l r = fates_from l (chars r.data_bytes) (coloured r)

-- the items with that in each byte's stead; entries stay
abbrev pub placed : List Bytes → List Item → List Item
placed fs [] = []
placed fs (push k ∷ is) = push k ∷ placed fs is
placed fs (pop ∷ is) = pop ∷ placed fs is
placed fs (raw t ∷ is) = raw t ∷ placed fs is
placed [] (byte b ∷ is) = byte b ∷ placed [] is
placed (f ∷ fs) (byte b ∷ is) = byte_items f ++ placed fs is

-- what is still to be written where the labels s are open and the items `is` are left
abbrev pub to_come : Bytes → List Bytes → List Bytes → List Item → List Item
to_come l fs s is = placed fs (drop_raws l s is)

-- at the place `at` of the data d, with the coloured bytes xs: up to `until` it is decided what becomes of the bytes, they are copied or they are gone; from there on a character starts
pub record Fated (l d : Bytes) (xs : List Coloured) (fs : List Bytes) (at until : ℕ) (copy : Bool) : Type 0 where
  pub order : at ≤ until
  pub within : until ≤ length d
  pub decided : take (until - at) (drop at fs) ≡ cond copy (singles (part at until d)) (replicate (until - at) [])
  pub ahead : drop until fs ≡ fates_from l (chars (drop until d)) (drop until xs)
