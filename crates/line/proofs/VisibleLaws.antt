-- Visible ASCII bytes at the front of what is left: each is a character of the word there, of width 1, so the search for a cut may start behind them.
-- The idea: the search takes them one by one (`search_more`).
use Prim.Native.Nat.{ℕ, zero, suc, ◌+◌, ◌-◌, ◌≤◌, ◌<◌, min}
use native.Mathlib.Omega.{arith}
use mathlib.Core.Bool.{Bool, true, false, cond, ◌&&◌, false≢true}
use mathlib.Core.Path.{◌≡◌, refl, sym, subst}
use mathlib.Core.List.{List, [], ◌∷◌}
use Rattle.std.specs.Prelude.{Some}
use Rattle.std.specs.List.{prefix_len}
use lib.Dec.{leb}
use lib.ListN.{length, take, drop, get_or}
use borrow.Author.Tests.{leb-true, ne_eqb}
use Rattle.chars.specs.Chars.{chars}
use Rattle.chars.specs.declared.Seen.{Seen}
use Rattle.chars.proofs.FoldLaws.{plain}
use Rattle.line.specs.Rest.{word_text}
use Rattle.line.specs.Line.{seen_of, visible, visible_len_of}
use Rattle.line.proofs.LineLaws.{at_char, Search, search_start, search_more}

abbrev one : Seen
one = record { len = 1; width = 1 }

-- such a byte at a place of the word is the character there
at_visible : (s : List ℕ) (i : ℕ) → i ≤ length (word_text s) → i < length s → 0x21 ≤ get_or s i 0 → get_or s i 0 ≤ 0x7E → Some one ≡ seen_of (chars (drop i (word_text s)))
at_visible s i h more p q =
    let c = plain s i (omega (arith, p)) q in
    at_char s i h more (λ z. omega (arith, z, p)) (λ z. omega (arith, z, p)) one (sym c.0) (sym c.1)

-- ── how many there are
visible_bounds : (x : ℕ) → visible x ≡ true → (0x21 ≤ x) × (x ≤ 0x7E)
visible_bounds x e = go (leb 0x21 x) refl (leb x 0x7E) refl e
  where
    go : (s : Bool) → leb 0x21 x ≡ s → (t : Bool) → leb x 0x7E ≡ t → (s && t) ≡ true → (0x21 ≤ x) × (x ≤ 0x7E)
    go true p true q e = (leb-true 0x21 x p, leb-true x 0x7E q)
    go true p false q e = absurd (false≢true e)
    go false p t q e = absurd (false≢true e)

pub visible_front : (m : ℕ) (s : List ℕ) → prefix_len visible (take m s) ≡ min m (prefix_len visible s)
visible_front zero s = omega arith
visible_front (suc m) [] = omega arith
visible_front (suc m) (x ∷ s) = go (visible x) (visible_front m s)
  where
    go : (t : Bool) → prefix_len visible (take m s) ≡ min m (prefix_len visible s) → cond t (1 + prefix_len visible (take m s)) 0 ≡ min (suc m) (cond t (1 + prefix_len visible s) 0)
    go true h = omega (arith, h)
    go false h = omega arith

-- the byte at a place before their end
visible_at : (s : List ℕ) (i : ℕ) → i < visible_len_of s → (i < length (word_text s)) × (i < length s) × (0x21 ≤ get_or s i 0) × (get_or s i 0 ≤ 0x7E)
unfolding visible_len_of word_text
visible_at [] i h = absurd (omega arith)
visible_at (x ∷ s) i h = go (visible x) refl i h (λ j k. visible_at s j k)
  where
    inner : visible x ≡ true → suc (length (word_text s)) ≡ length (word_text (x ∷ s))
    inner e = let b = visible_bounds x e in rw (ne_eqb x 0x20 (λ z. omega (arith, z, b.0)), ne_eqb x 0x0A (λ z. omega (arith, z, b.0)))

    go : (t : Bool) → visible x ≡ t → (j : ℕ) → j < cond t (1 + visible_len_of s) 0
        → ((n : ℕ) → n < visible_len_of s → (n < length (word_text s)) × (n < length s) × (0x21 ≤ get_or s n 0) × (get_or s n 0 ≤ 0x7E))
        → (j < length (word_text (x ∷ s))) × (j < suc (length s)) × (0x21 ≤ get_or (x ∷ s) j 0) × (get_or (x ∷ s) j 0 ≤ 0x7E)
    go false e j k f = absurd (omega arith)
    go true e zero k f = let b = visible_bounds x e in (omega (arith, inner e), omega arith, b.0, b.1)
    go true e (suc j) k f = let r = f j (omega (arith, k)) in (omega (arith, inner e, r.0), omega (arith, r.1), r.2, r.3)

-- ── the search starts behind them
pub search_visible : (word : List ℕ) (limit n : ℕ) → n ≤ visible_len_of word → n ≤ limit → Search word limit n (limit - n)
search_visible word limit zero h k = subst (λ (x : ℕ). Search word limit 0 x) (omega arith) (search_start word limit)
search_visible word limit (suc n) h k =
    let v = visible_at word n (omega (arith, h)) in
    let S = search_visible word limit n (omega (arith, h)) (omega (arith, k)) in
    let e = at_visible word n (omega (arith, v.0)) v.1 v.2 v.3 in
    let T = search_more word limit n (limit - n) S one e (omega (arith, k)) (omega arith) in
    subst (λ (x : ℕ). Search word limit x (limit - suc n)) (omega arith) (subst (λ (x : ℕ). Search word limit (n + 1) x) (omega (arith, k)) T)
