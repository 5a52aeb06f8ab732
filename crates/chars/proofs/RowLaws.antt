-- The rows of the const table: `lookup` asks one after another, and over all of them it is `char_width_of`.
-- The code asks all of them, for each width by itself (`asked`). That is the same (`asked_all`), since the rows of width 0 stand before those of width 2.
use Prim.Native.Nat.{ℕ, suc, ◌+◌, ◌≤◌, ◌<◌}
use native.Mathlib.Numerals.{add-one}
use mathlib.Core.Bool.{Bool, true, false, cond, ◌&&◌, ◌||◌}
use mathlib.Core.Path.{◌≡◌, refl, sym, ap, ◌∙◌}
use mathlib.Core.List.{List, [], ◌∷◌, ◌++◌}
use lib.Dec.{eqb}
use lib.ListN.{length, take, drop, get_or}
use lib.Seq.{drop-cons}
use Rattle.std.proofs.lemmas.List.{drop_all}
use Rattle.std.proofs.Math.Bool.{or_assoc, or-false}
use Rattle.chars.specs.Utf8.{within}
use Rattle.chars.specs.Width.{Range, nineteen_ranges, faces_and_trucks, ranges, width_in, char_width_of}

-- first, last and columns of each range
abbrev pub rows_of : List Range → List (ℕ × ℕ × ℕ)
rows_of [] = []
rows_of (r ∷ rs) = (r.first, r.last, r.columns) ∷ rows_of rs

abbrev pub rows : List (ℕ × ℕ × ℕ)
rows = rows_of (nineteen_ranges ++ faces_and_trucks)

abbrev pub lookup : List (ℕ × ℕ × ℕ) → ℕ → ℕ
lookup [] c = 1
lookup (r ∷ rs) c = cond (within r.0 r.1 c) r.2 (lookup rs c)

lookup_rows : (rs : List Range) (c : ℕ) → lookup (rows_of rs) c ≡ width_in rs c
lookup_rows [] c = refl
lookup_rows (r ∷ rs) c = rw (lookup_rows rs c)

pub lookup_all : (c : ℕ) → lookup rows c ≡ char_width_of c
unfolding char_width_of ranges
lookup_all c = lookup_rows (nineteen_ranges ++ faces_and_trucks) c

module _ (l : List (ℕ × ℕ × ℕ)) (k c : ℕ) (d : ℕ × ℕ × ℕ) (h : k < length l) where
  pub row_hit : within (get_or l k d).0 (get_or l k d).1 c ≡ true → lookup (drop k l) c ≡ (get_or l k d).2
  row_hit w = rw (drop-cons l k d h, w)

  pub row_miss : within (get_or l k d).0 (get_or l k d).1 c ≡ false → lookup (drop k l) c ≡ lookup (drop (k + 1) l) c
  row_miss w = rw (drop-cons l k d h, w, add-one)

-- whether a row that has the code point says that it is so wide
abbrev pub asked : ℕ → List (ℕ × ℕ × ℕ) → ℕ → Bool
asked w [] c = false
asked w (r ∷ rs) c = (within r.0 r.1 c && eqb r.2 w) || asked w rs c

-- asking the row k
pub asked_next : (w : ℕ) (l : List (ℕ × ℕ × ℕ)) (k c : ℕ) (d : ℕ × ℕ × ℕ) (found : Bool) → k < length l
    → (found || asked w (drop k l) c) ≡ ((found || (within (get_or l k d).0 (get_or l k d).1 c && eqb (get_or l k d).2 w)) || asked w (drop (k + 1) l) c)
asked_next w l k c d found h = rw (drop-cons l k d h, add-one, or_assoc found (within (get_or l k d).0 (get_or l k d).1 c && eqb (get_or l k d).2 w) (asked w (drop (suc k) l) c))

-- rows of one width
abbrev spans : ℕ → List Range → List (ℕ × ℕ × ℕ)
spans w [] = []
spans w (r ∷ rs) = (r.first, r.last, w) ∷ spans w rs

wide_asked : (rs : List Range) (c : ℕ) → (lookup (spans 2 rs) c ≡ cond (asked 2 (spans 2 rs) c) 2 1) × (asked 0 (spans 2 rs) c ≡ false)
wide_asked [] c = (refl, refl)
wide_asked (r ∷ rs) c = go (within r.first r.last c) (wide_asked rs c)
  where
    go : (t : Bool) → (lookup (spans 2 rs) c ≡ cond (asked 2 (spans 2 rs) c) 2 1) × (asked 0 (spans 2 rs) c ≡ false)
        → (cond t 2 (lookup (spans 2 rs) c) ≡ cond ((t && eqb 2 2) || asked 2 (spans 2 rs) c) 2 1) × (((t && eqb 2 0) || asked 0 (spans 2 rs) c) ≡ false)
    go true k = (refl, k.1)
    go false k = k

-- rows of width 0 before those of width 2
both_asked : (rs ss : List Range) (c : ℕ) → lookup (spans 0 rs ++ spans 2 ss) c ≡ cond (asked 0 (spans 0 rs ++ spans 2 ss) c) 0 (cond (asked 2 (spans 0 rs ++ spans 2 ss) c) 2 1)
both_asked [] ss c = let k = wide_asked ss c in rw (k.1, k.0)
both_asked (r ∷ rs) ss c = go (within r.first r.last c) (spans 0 rs ++ spans 2 ss) (both_asked rs ss c)
  where
    go : (t : Bool) (on : List (ℕ × ℕ × ℕ)) → lookup on c ≡ cond (asked 0 on c) 0 (cond (asked 2 on c) 2 1)
        → cond t 0 (lookup on c) ≡ cond ((t && eqb 0 0) || asked 0 on c) 0 (cond ((t && eqb 0 2) || asked 2 on c) 2 1)
    go true on k = refl
    go false on k = k

asked_all : (c : ℕ) → cond (asked 0 rows c) 0 (cond (asked 2 rows c) 2 1) ≡ char_width_of c
asked_all c = sym (both_asked (take 7 (nineteen_ranges ++ faces_and_trucks)) (drop 7 (nineteen_ranges ++ faces_and_trucks)) c) ∙ lookup_all c

-- every row was asked
pub asked_end : (i c : ℕ) (zero wide : Bool) → length rows ≤ i → (zero || asked 0 (drop i rows) c) ≡ asked 0 rows c → (wide || asked 2 (drop i rows) c) ≡ asked 2 rows c
    → cond zero 0 (cond wide 2 1) ≡ char_width_of c
asked_end i c zero wide h z w =
    let none = drop_all i rows h in
    let z' : zero ≡ asked 0 rows c = sym (or-false zero) ∙ (rw none at z) in
    let w' : wide ≡ asked 2 rows c = sym (or-false wide) ∙ (rw none at w) in
    ap (λ (b : Bool). cond b 0 (cond wide 2 1)) z' ∙ ap (λ (b : Bool). cond (asked 0 rows c) 0 (cond b 2 1)) w' ∙ asked_all c
