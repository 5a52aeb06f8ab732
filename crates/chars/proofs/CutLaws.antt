-- Cutting from the last character back keeps the longest ending within the width, which a scan from the front finds, whatever the bytes: so the cut of a recording does not read backwards.
-- The idea: kept endings have falling widths, so the greedy choice on the reversed list stops at the first place whose rest is narrow enough.
use Prim.Native.Nat.{ℕ, ◌+◌, ◌-◌, ◌≤◌, ◌<◌}
use native.Mathlib.Omega.{arith}
use mathlib.Core.Bool.{Bool, true, false, cond}
use mathlib.Core.Path.{◌≡◌, refl, sym, ap, ◌∙◌}
use mathlib.Core.List.{List, [], ◌∷◌, ◌++◌, reverse, reverse-cons, append-nil}
use lib.Dec.{leb}
use lib.ListN.{length, take, drop, length-append}
use lib.Seq.{take-append_seam, drop-append_seam}
use borrow.Author.Tests.{leb-false, leb-true, le-leb, lt-leb}
use Rattle.chars.specs.Chars.{Character, chars, bytes_of, wide, width_of}
use Rattle.chars.specs.Cut.{kept_within, truncate_end_pos_of, truncate_start_pos_of, truncate_start_width}
use Rattle.chars.proofs.CharsLaws.{bytes-chars, bytes-append, width_append}

-- the longest ending of whole characters within m
abbrev pub longest : ℕ → List Character → List Character
longest m [] = []
longest m (c ∷ cs) = cond (leb (width_of (c ∷ cs)) m) (c ∷ cs) (longest m cs)

-- what `kept_within` and `longest` leave
abbrev pub kept_rest : ℕ → List Character → List Character
kept_rest m [] = []
kept_rest m (c ∷ cs) = cond (leb (wide c) m) (kept_rest (m - wide c) cs) (c ∷ cs)

abbrev pub before_longest : ℕ → List Character → List Character
before_longest m [] = []
before_longest m (c ∷ cs) = cond (leb (width_of (c ∷ cs)) m) [] (c ∷ before_longest m cs)

pub split_kept : (m : ℕ) (cs : List Character) → cs ≡ kept_within m cs ++ kept_rest m cs
split_kept m [] = refl
split_kept m (c ∷ cs) = go (leb (wide c) m) (split_kept (m - wide c) cs)
  where
    go : (t : Bool) → cs ≡ kept_within (m - wide c) cs ++ kept_rest (m - wide c) cs
        → c ∷ cs ≡ cond t (c ∷ kept_within (m - wide c) cs) [] ++ cond t (kept_rest (m - wide c) cs) (c ∷ cs)
    go true e = ap (λ (l : List Character). c ∷ l) e
    go false e = refl

pub split_longest : (m : ℕ) (cs : List Character) → cs ≡ before_longest m cs ++ longest m cs
split_longest m [] = refl
split_longest m (c ∷ cs) = go (leb (width_of (c ∷ cs)) m) (split_longest m cs)
  where
    go : (t : Bool) → cs ≡ before_longest m cs ++ longest m cs → c ∷ cs ≡ cond t [] (c ∷ before_longest m cs) ++ cond t (c ∷ cs) (longest m cs)
    go true e = refl
    go false e = ap (λ (l : List Character). c ∷ l) e

-- ── widths stay within
pub kept_within_lem : (m : ℕ) (cs : List Character) → width_of (kept_within m cs) ≤ m
kept_within_lem m [] = omega arith
kept_within_lem m (c ∷ cs) = go (leb (wide c) m) refl (kept_within_lem (m - wide c) cs)
  where
    go : (t : Bool) → leb (wide c) m ≡ t → width_of (kept_within (m - wide c) cs) ≤ m - wide c → width_of (cond t (c ∷ kept_within (m - wide c) cs) []) ≤ m
    go true e h = omega (arith, leb-true (wide c) m e)
    go false e h = omega arith

-- ── the greedy choice from the end
pub kept_whole : (m : ℕ) (cs : List Character) → width_of cs ≤ m → kept_within m cs ≡ cs
kept_whole m [] h = refl
kept_whole m (c ∷ cs) h = rw (le-leb (wide c) m (omega arith), kept_whole (m - wide c) cs (omega arith))

kept_all : (m : ℕ) (xs ys : List Character) → width_of xs ≤ m → kept_within m (xs ++ ys) ≡ xs ++ kept_within (m - width_of xs) ys
kept_all m [] ys h = let e : m - 0 ≡ m = omega arith in rw e
kept_all m (x ∷ xs) ys h =
    let e : (m - wide x) - width_of xs ≡ m - (wide x + width_of xs) = omega arith in
    rw (le-leb (wide x) m (omega arith), ← e) (ap (λ (l : List Character). x ∷ l) (kept_all (m - wide x) xs ys (omega arith)))

kept_part : (m : ℕ) (xs ys : List Character) → m < width_of xs → kept_within m (xs ++ ys) ≡ kept_within m xs
kept_part m [] ys h = absurd (omega arith)
kept_part m (x ∷ xs) ys h = go (leb (wide x) m) refl (λ k. kept_part (m - wide x) xs ys k)
  where
    go : (t : Bool) → leb (wide x) m ≡ t → ((m - wide x) < width_of xs → kept_within (m - wide x) (xs ++ ys) ≡ kept_within (m - wide x) xs)
        → cond t (x ∷ kept_within (m - wide x) (xs ++ ys)) [] ≡ cond t (x ∷ kept_within (m - wide x) xs) []
    go true e f = ap (λ (l : List Character). x ∷ l) (f (omega (arith, leb-true (wide x) m e)))
    go false e f = refl

pub width_reverse : (cs : List Character) → width_of (reverse cs) ≡ width_of cs
width_reverse [] = refl
width_reverse (c ∷ cs) = ap width_of (reverse-cons c cs) ∙ omega (arith, width_append (reverse cs) (c ∷ []), width_reverse cs)

pub longest_whole : (m : ℕ) (cs : List Character) → width_of cs ≤ m → longest m cs ≡ cs
longest_whole m [] h = refl
longest_whole m (c ∷ cs) h = rw (le-leb (wide c + width_of cs) m h)

-- from the last character back = the longest ending
pub kept_back : (m : ℕ) (cs : List Character) → kept_within m (reverse cs) ≡ reverse (longest m cs)
kept_back m [] = refl
kept_back m (c ∷ cs) = ap (λ (l : List Character). kept_within m l) (reverse-cons c cs) ∙ go (leb (wide c + width_of cs) m) refl (leb (width_of cs) m) refl (kept_back m cs)
  where
    go : (t : Bool) → leb (wide c + width_of cs) m ≡ t → (s : Bool) → leb (width_of cs) m ≡ s → kept_within m (reverse cs) ≡ reverse (longest m cs)
        → kept_within m (reverse cs ++ (c ∷ [])) ≡ reverse (cond t (c ∷ cs) (longest m cs))
    go true e s e' ih =
        let k = leb-true (wide c + width_of cs) m e in
        kept_all m (reverse cs) (c ∷ []) (omega (arith, width_reverse cs)) ∙ rw (le-leb (wide c) (m - width_of (reverse cs)) (omega (arith, width_reverse cs))) (sym (reverse-cons c cs))
    go false e true e' ih =
        let k = leb-false (wide c + width_of cs) m e in
        let k' = leb-true (width_of cs) m e' in
        kept_all m (reverse cs) (c ∷ []) (omega (arith, width_reverse cs)) ∙ rw
        (lt-leb (wide c) (m - width_of (reverse cs)) (omega (arith, width_reverse cs)), longest_whole m cs k') (append-nil (reverse cs))
    go false e false e' ih = kept_part m (reverse cs) (c ∷ []) (omega (arith, width_reverse cs, leb-false (width_of cs) m e')) ∙ ih

length-reverse : (cs : List Character) → length (bytes_of (reverse cs)) ≡ length (bytes_of cs)
length-reverse [] = refl
length-reverse (c ∷ cs) =
    ap (λ (l : List Character). length (bytes_of l)) (reverse-cons c cs) ∙ ap length (bytes-append (reverse cs) (c ∷ []))
    ∙ omega (arith, length-append (bytes_of (reverse cs)) (c.text ++ []), length-append c.text [], length-append c.text (bytes_of cs), length-reverse cs)

length_back : (m : ℕ) (cs : List Character) → length (bytes_of (kept_within m (reverse cs))) ≡ length (bytes_of (longest m cs))
length_back m cs = ap (λ (l : List Character). length (bytes_of l)) (kept_back m cs) ∙ length-reverse (longest m cs)

-- ── the two cuts, as offsets and as what is kept
pub start_pos_lem : (m : ℕ) (d : List ℕ) → truncate_start_pos_of m d ≡ length d - length (bytes_of (longest m (chars d)))
unfolding truncate_start_pos_of
start_pos_lem m d = ap (λ (n : ℕ). length d - n) (length_back m (chars d))

pub start_width_lem : (m : ℕ) (d : List ℕ) → truncate_start_width m d ≡ width_of (longest m (chars d))
unfolding truncate_start_width
start_width_lem m d = ap width_of (kept_back m (chars d)) ∙ width_reverse (longest m (chars d))

split_bytes : (d : List ℕ) (cs xs ys : List Character) → bytes_of cs ≡ d → cs ≡ xs ++ ys → d ≡ bytes_of xs ++ bytes_of ys
split_bytes d cs xs ys b e = sym b ∙ ap bytes_of e ∙ bytes-append xs ys

-- the end cutter keeps the bytes of the first characters that stay within the width
pub kept_end : (m : ℕ) (d : List ℕ) → take (truncate_end_pos_of m d) d ≡ bytes_of (kept_within m (chars d))
unfolding truncate_end_pos_of
kept_end m d =
    ap (λ (l : List ℕ). take (length (bytes_of (kept_within m (chars d)))) l) (split_bytes d (chars d) (kept_within m (chars d)) (kept_rest m (chars d)) (bytes-chars d) (split_kept m (chars d)))
    ∙ take-append_seam (bytes_of (kept_within m (chars d))) (bytes_of (kept_rest m (chars d)))

-- the start cutter keeps the bytes of the longest ending within the width
-- whatever the widths of the characters cs of d
pub kept_from : (m : ℕ) (cs : List Character) (d : List ℕ) → bytes_of cs ≡ d → drop (length d - length (bytes_of (kept_within m (reverse cs)))) d ≡ bytes_of (longest m cs)
kept_from m cs d b =
    let e : d ≡ bytes_of (before_longest m cs) ++ bytes_of (longest m cs) = split_bytes d cs (before_longest m cs) (longest m cs) b (split_longest m cs) in
    let k : length d - length (bytes_of (kept_within m (reverse cs))) ≡ length (bytes_of (before_longest m cs)) =
    omega (arith, length_back m cs, ap length e, length-append (bytes_of (before_longest m cs)) (bytes_of (longest m cs))) in
    ap (λ (j : ℕ). drop j d) k ∙ ap (λ (l : List ℕ). drop (length (bytes_of (before_longest m cs))) l) e ∙ drop-append_seam (bytes_of (before_longest m cs)) (bytes_of (longest m cs))

pub kept_start : (m : ℕ) (d : List ℕ) → drop (truncate_start_pos_of m d) d ≡ bytes_of (longest m (chars d))
unfolding truncate_start_pos_of
kept_start m d = kept_from m (chars d) d (bytes-chars d)
