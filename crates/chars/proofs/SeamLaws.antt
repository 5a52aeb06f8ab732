-- Where seams are: at a text's start, after some of its characters, and before a byte that is not in 80..BF (`seam_apart`), as each below 80 is. Widths add up at a seam.
-- The idea: the characters of a text, cut anywhere, read as themselves (`chars_beginning`, `chars_rest`); and all that a character has behind its first byte trails (`TrailLaws`).
use Prim.Native.Nat.{ℕ, suc, ◌+◌, ◌≤◌, ◌<◌}
use native.Mathlib.Omega.{arith}
use mathlib.Core.Bool.{Bool, true, false, cond}
use mathlib.Core.Path.{◌≡◌, refl, sym, ap, ◌∙◌}
use mathlib.Core.List.{List, [], ◌∷◌, ◌++◌, tail, append_assoc}
use lib.Dec.{T}
use lib.ListN.{length, take, drop, take-append-drop}
use lib.Seq.{take-append_seam, drop-append_seam, take-add, length-take-le}
use Rattle.chars.specs.Utf8.{Row, within, table37, row_of, Trails, matched, tail_len, complete}
use Rattle.chars.specs.Width.{ranges, char_width_of}
use Rattle.chars.specs.Chars.{Character, char_at, chars, Seam, bytes_of, width_of, text_width_of}
use Rattle.chars.proofs.FoldLaws.{ascii_row}
use Rattle.chars.proofs.TrailLaws.{trailing, row_trailing, columns_on, column-trails, AllTrail, more_trails}
use Rattle.chars.proofs.CharsLaws.{bytes-chars, bytes-append, Read, Valid, valid-chars, valid_clean, chars_beginning, chars_rest, width_append}

-- ── where characters are known to end
-- at the start of a text
pub width_none : text_width_of [] ≡ 0
unfolding text_width_of chars
width_none = refl

pub seam_start : (s : List ℕ) → Seam s 0
unfolding chars
seam_start s = refl

-- after some of the characters of a text, and these are what is read before the seam
pub seam_after : (s : List ℕ) (xs ys : List Character) → chars s ≡ xs ++ ys → Seam s (length (bytes_of xs)) × (chars (take (length (bytes_of xs)) s) ≡ xs)
seam_after s xs ys e =
    let b : bytes_of xs ++ bytes_of ys ≡ s = sym (bytes-append xs ys) ∙ ap bytes_of (sym e) ∙ bytes-chars s in
    let f : chars (take (length (bytes_of xs)) s) ≡ xs = rw (← b, take-append_seam (bytes_of xs) (bytes_of ys)) (chars_beginning s xs ys e) in
    let g : chars (drop (length (bytes_of xs)) s) ≡ ys = rw (← b, drop-append_seam (bytes_of xs) (bytes_of ys)) (chars_rest s xs ys e) in
    (rw (f, g) e, f)

-- the bytes of a character after its first are 80 or more
abbrev pub High : List ℕ → Type 0
High [] = Unit {0}
High (b ∷ s) = (0x80 ≤ b) × High s

high_trails : (m : List ℕ) → AllTrail m → High m
high_trails [] t = tt
high_trails (b ∷ m) t = (t.0.0, high_trails m t.1)

pub more_high : (c : Character) (rest : List ℕ) (R : Read c rest) → High R.more
more_high c rest R = high_trails R.more (more_trails c rest R)

none_of : (m : List ℕ) → length m ≡ 0 → m ≡ []
none_of [] e = refl
none_of (b ∷ m) e = absurd (omega (arith, e))

-- a byte below 80 is a character by itself
pub low_alone : (c : Character) (rest : List ℕ) (R : Read c rest) → R.first < 0x80 → c.text ≡ R.first ∷ []
unfolding tail_len
low_alone c rest R h =
    let n : length R.more ≡ 0 = sym R.stops ∙ simp (ascii_row R.first h) in
    R.text ∙ ap (λ (m : List ℕ). R.first ∷ m) (none_of R.more n)

-- ── no character goes on past a byte that does not trail
-- nothing, or a byte that does not trail first
abbrev pub NoTrail : List ℕ → Type 0
NoTrail [] = Unit {0}
NoTrail (b ∷ s) = Trails b → ⊥

matched_apart : (cs : Row) (m x y : List ℕ) → T (trailing cs) → NoTrail y → matched cs (m ++ x) ≡ length m → matched cs (m ++ (x ++ y)) ≡ length m
matched_apart [] m x y h l e = e
matched_apart (c ∷ cs) [] [] [] h l e = refl
matched_apart (c ∷ cs) [] [] (b ∷ y) h l e = go (within c.low c.high b) refl
  where
    go : (t : Bool) → within c.low c.high b ≡ t → cond t (suc (matched cs y)) 0 ≡ 0
    go true w = absurd (l (column-trails c cs h b w))
    go false w = refl
matched_apart (c ∷ cs) [] (b ∷ x) y h l e = go (within c.low c.high b) e
  where
    go : (t : Bool) → cond t (suc (matched cs x)) 0 ≡ 0 → cond t (suc (matched cs (x ++ y))) 0 ≡ 0
    go true g = absurd (omega (arith, g))
    go false g = refl
matched_apart (c ∷ cs) (b ∷ m) x y h l e = go (within c.low c.high b) e (λ g. matched_apart cs m x y (columns_on c cs h) l g)
  where
    go : (t : Bool) → cond t (suc (matched cs (m ++ x))) 0 ≡ suc (length m) → (matched cs (m ++ x) ≡ length m → matched cs (m ++ (x ++ y)) ≡ length m)
        → cond t (suc (matched cs (m ++ (x ++ y)))) 0 ≡ suc (length m)
    go true g f = ap suc (f (omega (arith, g)))
    go false g f = absurd (omega (arith, g))

read_apart : (c : Character) (x y : List ℕ) → NoTrail y → Read c x → Read c (x ++ y)
unfolding tail_len
read_apart c x y l R =
    let k = matched_apart (tail (row_of R.first)) R.more x y (row_trailing R.first) l R.stops in
    record { first = R.first; more = R.more; text = R.text; code = R.code; columns = R.columns; ok = R.ok; stops = k }

valid_apart : (xs ys : List Character) → NoTrail (bytes_of ys) → Valid xs → Valid ys → Valid (xs ++ ys)
valid_apart [] ys l v w = w
valid_apart (x ∷ xs) ys l v w = (rw (bytes-append xs ys) (read_apart x (bytes_of xs) (bytes_of ys) l v.0), valid_apart xs ys l v.1 w)

chars_apart : (x y : List ℕ) → NoTrail y → chars (x ++ y) ≡ chars x ++ chars y
chars_apart x y l =
    let b : bytes_of (chars x ++ chars y) ≡ x ++ y = bytes-append (chars x) (chars y) ∙ rw (bytes-chars x, bytes-chars y) in
    ap chars (sym b) ∙ valid_clean (chars x ++ chars y) (valid_apart (chars x) (chars y) (rw (bytes-chars y) l) (valid-chars x) (valid-chars y))

pub seam_apart : (s : List ℕ) (n : ℕ) → NoTrail (drop n s) → Seam s n
seam_apart s n l = ap chars (sym (take-append-drop n s)) ∙ chars_apart (take n s) (drop n s) l

-- nothing, or a byte below 80
abbrev pub Low : List ℕ → Type 0
Low [] = Unit {0}
Low (b ∷ s) = b < 0x80

low_apart : (y : List ℕ) → Low y → NoTrail y
low_apart [] l = tt
low_apart (b ∷ y) l = λ t. omega (arith, l, t.0)

pub chars_low : (x y : List ℕ) → Low y → chars (x ++ y) ≡ chars x ++ chars y
chars_low x y l = chars_apart x y (low_apart y l)

pub seam_low : (s : List ℕ) (n : ℕ) → Low (drop n s) → Seam s n
seam_low s n l = seam_apart s n (low_apart (drop n s) l)

-- ── a seam further on
pub seam_next : (s : List ℕ) (n m : ℕ) → n + m ≤ length s → Seam s n → Seam (drop n s) m → Seam s (n + m) × (text_width_of (take (n + m) s) ≡ text_width_of (take n s) + text_width_of (take m (drop n s)))
unfolding text_width_of
seam_next s n m h p q =
    let xs : List Character = chars (take n s) ++ chars (take m (drop n s)) in
    let e : chars s ≡ xs ++ chars (drop m (drop n s)) =
    p ∙ ap (λ (r : List Character). chars (take n s) ++ r) q ∙ sym (append_assoc (chars (take n s)) (chars (take m (drop n s))) (chars (drop m (drop n s)))) in
    let b : bytes_of xs ≡ take (n + m) s = bytes-append (chars (take n s)) (chars (take m (drop n s))) ∙ rw (bytes-chars (take n s), bytes-chars (take m (drop n s))) (sym (take-add n m s)) in
    let l : length (bytes_of xs) ≡ n + m = ap length b ∙ length-take-le (n + m) s h in
    let r : Seam s (n + m) × (chars (take (n + m) s) ≡ xs) = rw l at (seam_after s xs (chars (drop m (drop n s))) e) in
    (r.0, ap width_of r.1 ∙ width_append (chars (take n s)) (chars (take m (drop n s))))

-- ── a byte 20 is one character, one column wide
abbrev pub blank : Character
blank = record { text = 0x20 ∷ []; code = 0x20; columns = 1; ok = true }

pub chars_blank : (s : List ℕ) → chars (0x20 ∷ s) ≡ blank ∷ chars s
unfolding chars char_at tail_len row_of table37 complete char_width_of ranges
chars_blank s = refl

pub width_blank : (s : List ℕ) → text_width_of (0x20 ∷ s) ≡ suc (text_width_of s)
unfolding text_width_of
width_blank s = ap width_of (chars_blank s) ∙ omega arith
