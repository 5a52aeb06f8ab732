-- The floor's coloured bytes are, character for character, stars under the labels of its first byte or its own coloured bytes (`floor_colours`); under the label only stars and 0A are left
-- (`floor_starred`). The idea: the floor's edit of the items is the same edit of the coloured bytes (`edit_law`), which is then read along the characters.
use Prim.Native.Nat.{ℕ, zero, suc, ◌<◌}
use native.Mathlib.Omega.{arith}
use mathlib.Core.Bool.{Bool, true, false, cond, ◌&&◌, not, false≢true}
use mathlib.Core.Path.{◌≡◌, refl, sym, ap, ◌∙◌}
use mathlib.Core.Logic.{inl, inr}
use mathlib.Core.List.{List, [], ◌∷◌, ◌++◌}
use lib.ListN.{length, take, drop, replicate}
use lib.Seq.{take-append_seam, drop-append_seam}
use Rattle.chars.specs.Chars.{Character, chars, bytes_of, wide}
use Rattle.chars.proofs.CharsLaws.{Valid, bytes-chars, valid-chars}
use Rattle.recording.specs.Lists.{AllOf, same}
use Rattle.recording.specs.Recording.{Bytes, Recording, items}
use Rattle.recording.specs.Coloured.{Coloured, coloured_from, coloured, balanced, values}
use Rattle.recording.specs.Edit.{edit, labels_at, edit_coloured}
use Rattle.recording.proofs.EditLaws.{Balanced, edit_law}
use Rattle.recording.proofs.ItemsLaws.{values_of, values-take, values-drop}
use Rattle.recording.proofs.Lists.{all_append, or_left, or_right, not_false, same_equal}
use Rattle.layout.specs.Plain.{with_labels}
use Rattle.layout.proofs.ListLaws.{coloured-encode}
use Rattle.layout.proofs.StepLaws.{bal_bytes, under-bytes}
use Rattle.view.specs.View.{among, any_under_of, hides, hidden_from, hidden, stars, floor_ops, floor_items, floor_of}
use Rattle.view.specs.Theorem.{floor_coloured, Starred}
use Rattle.view.proofs.DropLaws.{puts_floor, drop-coloured, floor_drop}

-- ── a character's own coloured bytes
no_values : (cs : List Coloured) → values cs ≡ [] → cs ≡ []
no_values [] e = refl
no_values (c ∷ cs) e = absurd (omega (arith, ap length e))

labels_take : (n : ℕ) (cs : List Coloured) → 0 < n → labels_at (take n cs) ≡ labels_at cs
labels_take zero cs h = absurd (omega arith)
labels_take (suc n) [] h = refl
labels_take (suc n) (c ∷ cs) h = refl

module _ (c : Character) (chs : List Character) (cs : List Coloured) (e : values cs ≡ bytes_of (c ∷ chs)) where
  pub own_values : values (take (length c.text) cs) ≡ c.text
  own_values = values-take (length c.text) cs ∙ ap (take (length c.text)) e ∙ take-append_seam c.text (bytes_of chs)

  pub rest-values : values (drop (length c.text) cs) ≡ bytes_of chs
  rest-values = values-drop (length c.text) cs ∙ ap (drop (length c.text)) e ∙ drop-append_seam c.text (bytes_of chs)

-- the values of a recording's coloured bytes are those of its characters
pub data_is : (r : Recording) → values (coloured r) ≡ bytes_of (chars r.data_bytes)
data_is r = values_of r ∙ sym (bytes-chars r.data_bytes)

module _ (l : Bytes) where
  -- ── the edit, character for character
  by_characters : (chs : List Character) (cs : List Coloured) → Valid chs → values cs ≡ bytes_of chs → edit_coloured (floor_ops (hidden_from l chs cs) chs) cs ≡ floor_coloured l chs cs
  by_characters [] cs v e = no_values cs e
  by_characters (c ∷ chs) cs v e = go (hides l c own) (by_characters chs after v.1 (rest-values c chs cs e))
    where
      own : List Coloured
      own = take (length c.text) cs

      after : List Coloured
      after = drop (length c.text) cs

      go : (t : Bool) → edit_coloured (floor_ops (hidden_from l chs after) chs) after ≡ floor_coloured l chs after
          → edit_coloured (floor_ops (t ∷ hidden_from l chs after) (c ∷ chs)) cs ≡ cond t (with_labels (labels_at own) (replicate (wide c) 0x2A)) own ++ floor_coloured l chs after
      go true ih =
          let some : 0 < length c.text = omega (arith, ap length v.0.text) in
          rw (under-bytes (labels_at cs) (stars c), labels_take (length c.text) cs some, ih)
      go false ih = rw ih

  pub floor_colours : (r : Recording) → balanced r ≡ true → coloured (floor_of l r) ≡ floor_coloured l (chars r.data_bytes) (coloured r)
  unfolding coloured balanced floor_items hidden
  floor_colours r h =
      let ds : List Character = chars r.data_bytes in
      let ops = floor_ops (hidden l r) ds in
      coloured-encode (floor_items l r)
      ∙ ap (coloured_from []) (floor_drop l (hidden l r) ds (items r))
      ∙ drop-coloured l [] (edit ops (items r))
      ∙ edit_law ops [] (items r) h (puts_floor Balanced bal_bytes (hidden l r) ds)
      ∙ by_characters ds (coloured r) (valid-chars r.data_bytes) (data_is r)

  -- ── under the label only stars and 0A are left
  starred-stars : (ls : List Bytes) (n : ℕ) → AllOf (Starred l) (with_labels ls (replicate n 0x2A))
  starred-stars ls zero = tt
  starred-stars ls (suc n) = (λ u. inl refl, starred-stars ls n)

  -- none of these bytes is under the label
  starred_out : (cs : List Coloured) → any_under_of l cs ≡ false → AllOf (Starred l) cs
  starred_out [] h = tt
  starred_out (c ∷ cs) h =
      (λ u. absurd (false≢true (sym (or_left (among l c.labels) (any_under_of l cs) h) ∙ u)), starred_out cs (or_right (among l c.labels) (any_under_of l cs) h))

  -- they are the one 0A
  starred_newline : (cs : List Coloured) → values cs ≡ 0x0A ∷ [] → AllOf (Starred l) cs
  starred_newline [] e = tt
  starred_newline (c ∷ []) e = (λ u. inr (cc), tt)
  starred_newline (c ∷ d ∷ cs) e = absurd (omega (arith, ap length e))

  starred_own : (c : Character) (cs : List Coloured) → values cs ≡ c.text → hides l c cs ≡ false → AllOf (Starred l) cs
  starred_own c cs e h = go (any_under_of l cs) refl h
    where
      go : (t : Bool) → any_under_of l cs ≡ t → (t && not (same c.text (0x0A ∷ []))) ≡ false → AllOf (Starred l) cs
      go true f g = starred_newline cs (e ∙ same_equal c.text (0x0A ∷ []) (not_false (same c.text (0x0A ∷ [])) g))
      go false f g = starred_out cs f

  starred-chars : (chs : List Character) (cs : List Coloured) → values cs ≡ bytes_of chs → AllOf (Starred l) (floor_coloured l chs cs)
  starred-chars [] cs e = tt
  starred-chars (c ∷ chs) cs e = go (hides l c own) refl (starred-chars chs after (rest-values c chs cs e))
    where
      own : List Coloured
      own = take (length c.text) cs

      after : List Coloured
      after = drop (length c.text) cs

      go : (t : Bool) → hides l c own ≡ t → AllOf (Starred l) (floor_coloured l chs after)
          → AllOf (Starred l) (cond t (with_labels (labels_at own) (replicate (wide c) 0x2A)) own ++ floor_coloured l chs after)
      go true h ih = all_append (Starred l) (with_labels (labels_at own) (replicate (wide c) 0x2A)) (floor_coloured l chs after) (starred-stars (labels_at own) (wide c)) ih
      go false h ih = all_append (Starred l) own (floor_coloured l chs after) (starred_own c own (own_values c chs cs e) h) ih

  pub floor_starred : (r : Recording) → balanced r ≡ true → AllOf (Starred l) (coloured (floor_of l r))
  floor_starred r h = rw (floor_colours r h) (starred-chars (chars r.data_bytes) (coloured r) (data_is r))
