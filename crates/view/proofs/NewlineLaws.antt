-- 0A stays: the floor's data has as many as the content's (`floor_newlines`), each under the labels that it had (`floor_newlines_labels`). And 0A stands against 0A in recordings that are alike
-- (`newlines-face`). The idea: a character is 0A or has none (`sort`), and 0A is not replaced.
use Prim.Native.Nat.{ℕ, zero, suc, ◌+◌}
use native.Mathlib.Omega.{arith}
use mathlib.Core.Bool.{Bool, true, false, cond, not, false≢true}
use mathlib.Core.Path.{◌≡◌, refl, sym, ap, ◌∙◌}
use mathlib.Core.List.{List, [], ◌∷◌, ◌++◌, tail, append_assoc}
use lib.Dec.{eqb}
use lib.ListN.{length, take, drop, replicate, take-append-drop}
use borrow.Author.Tests.{ne_eqb, not-true}
use Rattle.chars.specs.Chars.{Character, chars, bytes_of, wide}
use Rattle.chars.proofs.CharsLaws.{Read, Valid, bytes-chars, valid-chars}
use Rattle.recording.specs.Lists.{same}
use Rattle.recording.specs.Recording.{Bytes, Recording, Item}
use Rattle.recording.specs.Coloured.{Coloured, coloured, balanced, values}
use Rattle.recording.specs.Edit.{labels_at}
use Rattle.recording.proofs.Lists.{and_right}
use Rattle.layout.specs.Plain.{with_labels}
use Rattle.layout.proofs.TabLaws.{Plain, Sort, tab, newline, other, sort}
use Rattle.view.specs.View.{any_under_of, hides, hidden_from, hidden, stars, floor_of}
use Rattle.view.specs.Alike.{Corresponding, end, entries, kept, replaced, Alike}
use Rattle.newlines.specs.Newlines.{newlines}
use Rattle.newlines.proofs.CountLaws.{count-append}
use Rattle.view.specs.Theorem.{floor_coloured, coloured_newlines}
use Rattle.view.proofs.ColourLaws.{own_values, rest-values, data_is, floor_colours}
use Rattle.view.proofs.SizeLaws.{floor_bytes, floor_data}

-- ── a character: it is 0A, or has none
plain-newlines : (d : Bytes) → Plain d → newlines d ≡ 0
plain-newlines [] h = refl
plain-newlines (b ∷ d) h = rw (ne_eqb b 0x0A h.1) (omega (arith, plain-newlines d h.2))

char_newlines : (c : Character) (rest : Bytes) → Read c rest → same c.text (0x0A ∷ []) ≡ false → newlines c.text ≡ 0
char_newlines c rest R h = go (sort c rest R)
  where
    go : Sort c → newlines c.text ≡ 0
    go (tab p e) = ap newlines e
    go (newline p q e) = absurd (false≢true (sym h ∙ ap (λ (t : Bytes). same t (0x0A ∷ [])) e))
    go (other p q k) = plain-newlines c.text k

-- a replaced character is not 0A
hides_no : (l : Bytes) (c : Character) (cs : List Coloured) → hides l c cs ≡ true → same c.text (0x0A ∷ []) ≡ false
hides_no l c cs h = not-true (same c.text (0x0A ∷ [])) (and_right (any_under_of l cs) (not (same c.text (0x0A ∷ []))) h)

-- ── all characters
lines_stars : (n : ℕ) → newlines (replicate n 0x2A) ≡ 0
lines_stars zero = refl
lines_stars (suc n) = omega (arith, lines_stars n)

module _ (l : Bytes) where
  chars-newlines : (chs : List Character) (cs : List Coloured) → Valid chs → newlines (floor_bytes (hidden_from l chs cs) chs) ≡ newlines (bytes_of chs)
  chars-newlines [] cs v = refl
  chars-newlines (c ∷ chs) cs v = go (hides l c own) refl (chars-newlines chs (drop (length c.text) cs) v.1)
    where
      own : List Coloured
      own = take (length c.text) cs

      hs : List Bool
      hs = hidden_from l chs (drop (length c.text) cs)

      rest : Bytes
      rest = floor_bytes hs chs

      go : (t : Bool) → hides l c own ≡ t → newlines rest ≡ newlines (bytes_of chs) → newlines (floor_bytes (t ∷ hs) (c ∷ chs)) ≡ newlines (c.text ++ bytes_of chs)
      go true h ih =
          omega (arith, count-append (stars c) rest, lines_stars (wide c), count-append c.text (bytes_of chs), ih, char_newlines c (bytes_of chs) v.0 (hides_no l c own h))
      go false h ih = omega (arith, count-append c.text rest, count-append c.text (bytes_of chs), ih)

  pub floor_newlines : (r : Recording) → newlines (floor_of l r).data_bytes ≡ newlines r.data_bytes
  unfolding hidden
  floor_newlines r = ap newlines (floor_data l r) ∙ chars-newlines (chars r.data_bytes) (coloured r) (valid-chars r.data_bytes) ∙ ap newlines (bytes-chars r.data_bytes)

-- ── each under its labels
coloured_lines_append : (a b : List Coloured) → coloured_newlines (a ++ b) ≡ coloured_newlines a ++ coloured_newlines b
coloured_lines_append [] b = refl
coloured_lines_append (c ∷ a) b = rw (coloured_lines_append a b) (sym (append_assoc (cond (eqb c.val 0x0A) (c ∷ []) []) (coloured_newlines a) (coloured_newlines b)))

no_lines : (cs : List Coloured) → newlines (values cs) ≡ 0 → coloured_newlines cs ≡ []
no_lines [] h = refl
no_lines (c ∷ cs) h = go (eqb c.val 0x0A) h (λ g. no_lines cs g)
  where
    go : (t : Bool) → cond t 1 0 + newlines (values cs) ≡ 0 → (newlines (values cs) ≡ 0 → coloured_newlines cs ≡ []) → cond t (c ∷ []) [] ++ coloured_newlines cs ≡ []
    go true g f = absurd (omega (arith, g))
    go false g f = f (omega (arith, g))

star_lines : (ls : List Bytes) (n : ℕ) → coloured_newlines (with_labels ls (replicate n 0x2A)) ≡ []
star_lines ls zero = refl
star_lines ls (suc n) = star_lines ls n

module _ (l : Bytes) where
  lines_stay : (chs : List Character) (cs : List Coloured) → Valid chs → values cs ≡ bytes_of chs → coloured_newlines (floor_coloured l chs cs) ≡ coloured_newlines cs
  lines_stay [] cs v e = sym (no_lines cs (ap newlines e))
  lines_stay (c ∷ chs) cs v e = go (hides l c own) refl (lines_stay chs after v.1 (rest-values c chs cs e))
    where
      own : List Coloured
      own = take (length c.text) cs

      after : List Coloured
      after = drop (length c.text) cs

      split : coloured_newlines cs ≡ coloured_newlines own ++ coloured_newlines after
      split = ap coloured_newlines (sym (take-append-drop (length c.text) cs)) ∙ coloured_lines_append own after

      go : (t : Bool) → hides l c own ≡ t → coloured_newlines (floor_coloured l chs after) ≡ coloured_newlines after
          → coloured_newlines (cond t (with_labels (labels_at own) (replicate (wide c) 0x2A)) own ++ floor_coloured l chs after) ≡ coloured_newlines cs
      go true h ih =
          let none : newlines (values own) ≡ 0 = ap newlines (own_values c chs cs e) ∙ char_newlines c (bytes_of chs) v.0 (hides_no l c own h) in
          rw (coloured_lines_append (with_labels (labels_at own) (replicate (wide c) 0x2A)) (floor_coloured l chs after), star_lines (labels_at own) (wide c), ih, split, no_lines own none)
      go false h ih = rw (coloured_lines_append own (floor_coloured l chs after), ih, split)

  pub floor_newlines_labels : (r : Recording) → balanced r ≡ true → coloured_newlines (coloured (floor_of l r)) ≡ coloured_newlines (coloured r)
  floor_newlines_labels r h = ap coloured_newlines (floor_colours l r h) ∙ lines_stay (chars r.data_bytes) (coloured r) (valid-chars r.data_bytes) (data_is r)

-- ── 0A against 0A
abbrev pub are_newlines : List Character → List Bool
are_newlines [] = []
are_newlines (c ∷ cs) = same c.text (0x0A ∷ []) ∷ are_newlines cs

first : List Bool → Bool
first [] = false
first (b ∷ bs) = b

module _ (l : Bytes) where
  face : {s : List Bytes} {hs : List Bool} {cs ds : List Character} {is js : List Item} → Corresponding l s hs cs is ds js
      → (xs ys : List Coloured) → hs ≡ hidden_from l cs xs → hs ≡ hidden_from l ds ys → are_newlines cs ≡ are_newlines ds
  unfolding first
  face end xs ys e f = refl
  face (entries g x) xs ys e f = face x xs ys e f
  face (kept {c = c} g x) xs ys e f =
      ap (λ (bs : List Bool). same c.text (0x0A ∷ []) ∷ bs) (face x (drop (length c.text) xs) (drop (length c.text) ys) (ap tail e) (ap tail f))
  face (replaced {c = c} {d = d} w g x) xs ys e f =
      let p = hides_no l c (take (length c.text) xs) (sym (ap first e)) in
      let q = hides_no l d (take (length d.text) ys) (sym (ap first f)) in
      rw (p, q) (ap (λ (bs : List Bool). false ∷ bs) (face x (drop (length c.text) xs) (drop (length d.text) ys) (ap tail e) (ap tail f)))

  pub newlines-face : (r q : Recording) → Alike l r q → are_newlines (chars r.data_bytes) ≡ are_newlines (chars q.data_bytes)
  unfolding hidden
  newlines-face r q h = face h.corresponding (coloured r) (coloured q) refl h.same_replaced
