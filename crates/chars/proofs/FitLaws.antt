-- A cut at the end goes on from a narrower one, so a text that is cut and asked whether it fits is read once; and a text fits if its cut reaches its end.
-- The idea: what is kept within a width begins with what is kept within a smaller one.
use Prim.Native.Nat.{ℕ, ◌+◌, ◌-◌, ◌≤◌, ◌<◌}
use native.Mathlib.Omega.{arith}
use native.Mathlib.Nat.{lt_of_not-le}
use mathlib.Core.Bool.{Bool, true, false, cond}
use mathlib.Core.Path.{◌≡◌, refl, sym, ap, ◌∙◌}
use mathlib.Core.List.{List, [], ◌∷◌, ◌++◌}
use lib.Dec.{leb}
use lib.ListN.{length, take, drop, length-append, length-take}
use lib.Seq.{take-length, drop-append_seam}
use borrow.Author.Tests.{leb-true, le-leb}
use Rattle.chars.specs.Chars.{Character, chars, bytes_of, wide, width_of, text_width_of}
use Rattle.chars.specs.Cut.{kept_within, truncate_end_pos_of, truncate_end_width}
use Rattle.chars.proofs.CharsLaws.{bytes-chars, bytes-append, width_append, chars_beginning, chars_rest}
use Rattle.chars.proofs.CutLaws.{kept_rest, split_kept, kept_within_lem, kept_whole, kept_end}

-- ── what a cut keeps is within its width, and as long as it says
pub within-max : (m : ℕ) (s : List ℕ) → truncate_end_width m s ≤ m
unfolding truncate_end_width
within-max m s = kept_within_lem m (chars s)

pub kept_length : (m : ℕ) (s : List ℕ) → length (take (truncate_end_pos_of m s) s) ≡ truncate_end_pos_of m s
unfolding truncate_end_pos_of
kept_length m s = ap length (kept_end m s)

pub pos_within : (m : ℕ) (s : List ℕ) → truncate_end_pos_of m s ≤ length s
pos_within m s = omega (arith, kept_length m s, length-take (truncate_end_pos_of m s) s)

-- ── a cut that goes on from a narrower one
pub kept_on : (a m : ℕ) (cs : List Character) → a ≤ m → kept_within m cs ≡ kept_within a cs ++ kept_within (m - width_of (kept_within a cs)) (kept_rest a cs)
kept_on a m [] h = refl
kept_on a m (c ∷ cs) h = go (leb (wide c) a) refl (kept_on (a - wide c) (m - wide c) cs (omega arith))
  where
    go : (t : Bool) → leb (wide c) a ≡ t
        → kept_within (m - wide c) cs ≡ kept_within (a - wide c) cs ++ kept_within ((m - wide c) - width_of (kept_within (a - wide c) cs)) (kept_rest (a - wide c) cs)
        → cond (leb (wide c) m) (c ∷ kept_within (m - wide c) cs) []
        ≡ cond t (c ∷ kept_within (a - wide c) cs) [] ++ kept_within (m - width_of (cond t (c ∷ kept_within (a - wide c) cs) [])) (cond t (kept_rest (a - wide c) cs) (c ∷ cs))
    go true e ih =
        let w : ℕ = width_of (kept_within (a - wide c) cs) in
        let k : (m - wide c) - w ≡ m - (wide c + w) = omega arith in
        simp (le-leb (wide c) m (omega (arith, leb-true (wide c) a e)))
        (ap (λ (l : List Character). c ∷ l) (ih ∙ ap (λ (n : ℕ). kept_within (a - wide c) cs ++ kept_within n (kept_rest (a - wide c) cs)) k))
    go false e ih = let k : m - 0 ≡ m = omega arith in rw k

-- the place and the width of a cut, from those of a narrower one and those of the cut of the rest
cut_on : (a m : ℕ) (s : List ℕ) → a ≤ m
    → (truncate_end_pos_of m s ≡ truncate_end_pos_of a s + truncate_end_pos_of (m - truncate_end_width a s) (drop (truncate_end_pos_of a s) s))
    × (truncate_end_width m s ≡ truncate_end_width a s + truncate_end_width (m - truncate_end_width a s) (drop (truncate_end_pos_of a s) s))
unfolding truncate_end_pos_of truncate_end_width
cut_on a m s h =
    let xs : List Character = kept_within a (chars s) in
    let ys : List Character = kept_rest a (chars s) in
    let e : chars s ≡ xs ++ ys = split_kept a (chars s) in
    let rest : chars (drop (length (bytes_of xs)) s) ≡ ys =
    ap chars (ap (drop (length (bytes_of xs))) (sym (bytes-chars s) ∙ ap bytes_of e ∙ bytes-append xs ys) ∙ drop-append_seam (bytes_of xs) (bytes_of ys)) ∙ chars_rest s xs ys e in
    let k : kept_within m (chars s) ≡ xs ++ kept_within (m - width_of xs) (chars (drop (length (bytes_of xs)) s)) =
    kept_on a m (chars s) h ∙ ap (λ (l : List Character). xs ++ kept_within (m - width_of xs) l) (sym rest) in
    let zs : List Character = kept_within (m - width_of xs) (chars (drop (length (bytes_of xs)) s)) in
    (ap (λ (l : List Character). length (bytes_of l)) k ∙ ap length (bytes-append xs zs) ∙ length-append (bytes_of xs) (bytes_of zs), ap width_of k ∙ width_append xs zs)

-- the same of what code has found: the first cut, to a, ends at p; the second, of the rest, ends q bytes on
pub two_cuts : (a m : ℕ) (s rest : List ℕ) (p w q v : ℕ) → a ≤ m → p ≡ truncate_end_pos_of a s → w ≡ truncate_end_width a s → rest ≡ drop p s
    → q ≡ truncate_end_pos_of (m - w) rest → v ≡ truncate_end_width (m - w) rest → (p + q ≡ truncate_end_pos_of m s) × (w + v ≡ truncate_end_width m s)
two_cuts a m s rest p w q v h e f r g k =
    let c = cut_on a m s h in
    let x : q ≡ truncate_end_pos_of (m - truncate_end_width a s) (drop (truncate_end_pos_of a s) s) = g ∙ λ i. truncate_end_pos_of (m - f i) ((r ∙ ap (λ (j : ℕ). drop j s) e) i) in
    let y : v ≡ truncate_end_width (m - truncate_end_width a s) (drop (truncate_end_pos_of a s) s) = k ∙ λ i. truncate_end_width (m - f i) ((r ∙ ap (λ (j : ℕ). drop j s) e) i) in
    (omega (arith, e, x, c.0), omega (arith, f, y, c.1))

-- ── a text fits if its cut reaches its end
pub fits_whole : (m : ℕ) (s : List ℕ) → text_width_of s ≤ m → (truncate_end_pos_of m s ≡ length s) × (truncate_end_width m s ≡ text_width_of s)
unfolding truncate_end_pos_of truncate_end_width text_width_of
fits_whole m s h = let k = kept_whole m (chars s) h in (ap (λ (l : List Character). length (bytes_of l)) k ∙ ap length (bytes-chars s), ap width_of k)

pub reaches_end : (m : ℕ) (s : List ℕ) → truncate_end_pos_of m s ≡ length s → text_width_of s ≤ m
unfolding text_width_of
reaches_end m s h =
    let whole : s ≡ bytes_of (kept_within m (chars s)) = sym (take-length s) ∙ ap (λ (n : ℕ). take n s) (sym h) ∙ kept_end m s in
    let e : chars s ≡ kept_within m (chars s) = ap chars whole ∙ chars_beginning s (kept_within m (chars s)) (kept_rest m (chars s)) (split_kept m (chars s)) in
    omega (arith, ap width_of e, kept_within_lem m (chars s))

pub passes-max : (m : ℕ) (s : List ℕ) → (truncate_end_pos_of m s ≡ length s → ⊥) → m < text_width_of s
passes-max m s h = lt_of_not-le (λ k. h (fits_whole m s k).0)
