-- Q-6: two recordings that differ only in what the floor is not to read. Each part has the request's words above it.
use Rattle.std.specs.Prelude.{ℕ, zero, suc, Bool, true, false, ◌≡◌, length}
use mathlib.Core.List.{List, [], ◌∷◌, tail}
use Rattle.chars.specs.Chars.{Character, chars, wide}
use Rattle.recording.specs.Recording.{Bytes, Recording, Item, byte, push, pop, raw, items}
use Rattle.recording.specs.Coloured.{open_after}
use Rattle.recording.specs.Edit.{front, back, entries_only}
use Rattle.view.specs.View.{among, hidden}

-- ── parts of an item list
-- through the n-th byte, the entries after it left out; and all beyond it
abbrev pub through : ℕ → List Item → List Item
through zero is = []
through (suc n) [] = []
through (suc n) (byte b ∷ is) = byte b ∷ through n is
through (suc n) (push l ∷ is) = push l ∷ through (suc n) is
through (suc n) (pop ∷ is) = pop ∷ through (suc n) is
through (suc n) (raw t ∷ is) = raw t ∷ through (suc n) is

abbrev pub beyond : ℕ → List Item → List Item
beyond zero is = is
beyond (suc n) [] = []
beyond (suc n) (byte b ∷ is) = beyond n is
beyond (suc n) (push l ∷ is) = beyond (suc n) is
beyond (suc n) (pop ∷ is) = beyond (suc n) is
beyond (suc n) (raw t ∷ is) = beyond (suc n) is

-- the items of a character, from its first byte to its last, where `is` starts with its first byte; and what comes after it
abbrev pub of_char : Character → List Item → List Item
of_char c is = through (length c.text) is

abbrev pub after_char : Character → List Item → List Item
after_char c is = beyond (length c.text) is

-- ── "equal entry kinds and labels": one for one, where the labels s are open. Raw sequences under the label may differ; "all other raw sequences are equal in both"
pub data Same (l : Bytes) : List Bytes → List Item → List Item → Type 0 where
  none : {s : List Bytes} → Same l s [] []
  bytes : {s : List Bytes} {b : ℕ} {is js : List Item} → Same l s is js → Same l s (byte b ∷ is) (byte b ∷ js)
  pushes : {s : List Bytes} {k : Bytes} {is js : List Item} → Same l (k ∷ s) is js → Same l s (push k ∷ is) (push k ∷ js)
  pops : {s : List Bytes} {is js : List Item} → Same l (tail s) is js → Same l s (pop ∷ is) (pop ∷ js)
  raws : {s : List Bytes} {t : Bytes} {is js : List Item} → Same l s is js → Same l s (raw t ∷ is) (raw t ∷ js)
  raws_under : {s : List Bytes} {t u : Bytes} {is js : List Item} → among l s ≡ true → Same l s is js → Same l s (raw t ∷ is) (raw u ∷ js)

-- ── character for character: hs says which are replaced, cs and ds are the characters of the two, is and js their items from here on, s has the labels open here
pub data Corresponding (l : Bytes) : List Bytes → List Bool → List Character → List Item → List Character → List Item → Type 0 where
  end : {s : List Bytes} → Corresponding l s [] [] [] [] []
  -- "before .. corresponding characters .. and at the data's end"
  entries : {s : List Bytes} {hs : List Bool} {cs ds : List Character} {is js : List Item}
      → Same l s (front 0 is) (front 0 js)
      → Corresponding l (open_after s (front 0 is)) hs cs (back 0 is) ds (back 0 js)
      → Corresponding l s hs cs is ds js
  -- "at equal bytes inside those not replaced", which are the same character in both (0A against 0A among them)
  kept : {s : List Bytes} {hs : List Bool} {c : Character} {cs ds : List Character} {b : ℕ} {is js : List Item}
      → Same l s (of_char c (byte b ∷ is)) (of_char c (byte b ∷ js))
      → Corresponding l (open_after s (of_char c (byte b ∷ is))) hs cs (after_char c (byte b ∷ is)) ds (after_char c (byte b ∷ js))
      → Corresponding l s (false ∷ hs) (c ∷ cs) (byte b ∷ is) (c ∷ ds) (byte b ∷ js)
  -- "of equal width", and the entries inside, at whatever bytes
  replaced : {s : List Bytes} {hs : List Bool} {c d : Character} {cs ds : List Character} {b e : ℕ} {is js : List Item}
      → wide c ≡ wide d
      → Same l s (entries_only (of_char c (byte b ∷ is))) (entries_only (of_char d (byte e ∷ js)))
      → Corresponding l (open_after s (of_char c (byte b ∷ is))) hs cs (after_char c (byte b ∷ is)) ds (after_char d (byte e ∷ js))
      → Corresponding l s (true ∷ hs) (c ∷ cs) (byte b ∷ is) (d ∷ ds) (byte e ∷ js)

pub record Alike (l : Bytes) (r q : Recording) : Type 0 where
  -- "the same characters replaced in both"
  pub same_replaced : hidden l r ≡ hidden l q
  -- "which differ only under the label .. and in raw sequences there"
  pub corresponding : Corresponding l [] (hidden l r) (chars r.data_bytes) (items r) (chars q.data_bytes) (items q)
