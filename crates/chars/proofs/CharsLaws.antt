-- Reading characters: their bytes are the text; any stretch of the characters of a text reads as those characters; and one character further in a loop.
-- The idea: a character depends on its own bytes and on where its sequence stops (`Read`), and both survive when the text around it is cut at characters.
use Prim.Native.Nat.{ℕ, zero, suc, ◌+◌, ◌*◌, ◌≤◌, ◌<◌}
use native.Mathlib.Omega.{arith}
use mathlib.Core.Bool.{Bool, true, false, cond, ◌&&◌}
use mathlib.Core.Path.{◌≡◌, refl, sym, ap, ◌∙◌}
use mathlib.Core.List.{List, [], ◌∷◌, ◌++◌, tail, append_assoc}
use lib.Dec.{leb, T, leb→le}
use lib.ListN.{length, take, drop, get_or, take-append-drop, length-drop, length-append, drop_of_length-le}
use lib.Seq.{take-append_seam, length-take-le, drop-cons, drop-drop}
use Rattle.chars.specs.Utf8.{Row, within, table37, leads, row_in, row_of, matched, tail_len, complete, code_point}
use Rattle.chars.specs.Width.{Range, ranges, width_in, char_width_of}
use Rattle.chars.specs.Chars.{Character, char_at, char_in, chars_from, chars, bytes_of, wide, width_of}
use Rattle.chars.proofs.Table.{and_left, and_right}

-- ── the bytes of the characters
pub bytes_from : (k : ℕ) (bs : List ℕ) → bytes_of (chars_from k bs) ≡ drop k bs
unfolding char_at
bytes_from zero [] = refl
bytes_from (suc k) [] = refl
bytes_from zero (b ∷ bs) = ap (λ (l : List ℕ). b ∷ l) (rw (bytes_from (tail_len b bs) bs) (take-append-drop (tail_len b bs) bs))
bytes_from (suc k) (b ∷ bs) = bytes_from k bs

pub bytes-chars : (bs : List ℕ) → bytes_of (chars bs) ≡ bs
unfolding chars
bytes-chars bs = bytes_from 0 bs

pub bytes-append : (xs ys : List Character) → bytes_of (xs ++ ys) ≡ bytes_of xs ++ bytes_of ys
bytes-append [] ys = refl
bytes-append (x ∷ xs) ys = ap (λ (l : List ℕ). x.text ++ l) (bytes-append xs ys) ∙ sym (append_assoc x.text (bytes_of xs) (bytes_of ys))

-- ── where a sequence stops
pub matched-le : (cs : Row) (bs : List ℕ) → matched cs bs ≤ length bs
matched-le [] bs = omega arith
matched-le (c ∷ cs) [] = omega arith
matched-le (c ∷ cs) (b ∷ bs) = go (within c.low c.high b) (matched-le cs bs)
  where
    go : (t : Bool) → matched cs bs ≤ length bs → cond t (suc (matched cs bs)) 0 ≤ suc (length bs)
    go true h = omega arith
    go false h = omega arith

pub tail_le : (b : ℕ) (bs : List ℕ) → tail_len b bs ≤ length bs
unfolding tail_len
tail_le b bs = matched-le (tail (row_of b)) bs

matched_prefix : (cs : Row) (m x y : List ℕ) → matched cs (m ++ (x ++ y)) ≡ length m → matched cs (m ++ x) ≡ length m
matched_prefix [] m x y h = h
matched_prefix (c ∷ cs) [] [] y h = refl
matched_prefix (c ∷ cs) [] (b ∷ x) y h = go (within c.low c.high b) h
  where
    go : (t : Bool) → cond t (suc (matched cs (x ++ y))) 0 ≡ 0 → cond t (suc (matched cs x)) 0 ≡ 0
    go true g = absurd (omega (arith, g))
    go false g = refl
matched_prefix (c ∷ cs) (b ∷ m) x y h = go (within c.low c.high b) h (λ g. matched_prefix cs m x y g)
  where
    go : (t : Bool) → cond t (suc (matched cs (m ++ (x ++ y)))) 0 ≡ suc (length m) → (matched cs (m ++ (x ++ y)) ≡ length m → matched cs (m ++ x) ≡ length m)
        → cond t (suc (matched cs (m ++ x))) 0 ≡ suc (length m)
    go true g f = ap suc (f (omega (arith, g)))
    go false g f = absurd (omega (arith, g))

-- ── a character as it is read where `rest` comes after it
pub record Read (c : Character) (rest : List ℕ) : Type 0 where
  pub first : ℕ
  pub more : List ℕ
  pub text : c.text ≡ first ∷ more
  pub code : c.code ≡ cond (complete first more) (code_point (first ∷ more)) 0xFFFD
  pub columns : c.columns ≡ char_width_of c.code
  pub ok : c.ok ≡ complete first more
  pub stops : tail_len first (more ++ rest) ≡ length more

-- each character of the list is read as itself, where those after it follow
abbrev pub Valid : List Character → Type 0
Valid [] = Unit {0}
Valid (c ∷ cs) = Read c (bytes_of cs) × Valid cs

read_head : (b : ℕ) (bs : List ℕ) → Read (char_at b bs) (drop (tail_len b bs) bs)
unfolding char_at
read_head b bs =
    let k : tail_len b (take (tail_len b bs) bs ++ drop (tail_len b bs) bs) ≡ length (take (tail_len b bs) bs) = rw (take-append-drop (tail_len b bs) bs) (sym (length-take-le (tail_len b bs) bs (tail_le b bs))) in
    record { first = b; more = take (tail_len b bs) bs; text = refl; code = refl; columns = refl; ok = refl; stops = k }

valid_from : (k : ℕ) (bs : List ℕ) → Valid (chars_from k bs)
valid_from zero [] = tt
valid_from (suc k) [] = tt
valid_from zero (b ∷ bs) = (rw (bytes_from (tail_len b bs) bs) (read_head b bs), valid_from (tail_len b bs) bs)
valid_from (suc k) (b ∷ bs) = valid_from k bs

pub valid-chars : (bs : List ℕ) → Valid (chars bs)
unfolding chars
valid-chars bs = valid_from 0 bs

pub from_skip : (m r : List ℕ) → chars_from (length m) (m ++ r) ≡ chars_from 0 r
from_skip [] r = refl
from_skip (b ∷ m) r = from_skip m r

pub valid_clean : (cs : List Character) → Valid cs → chars (bytes_of cs) ≡ cs
unfolding chars char_at
valid_clean [] h = refl
valid_clean (c ∷ cs) h =
    let R : Read c (bytes_of cs) = h.0 in
    rw (R.text, R.stops, take-append_seam R.more (bytes_of cs), from_skip R.more (bytes_of cs), valid_clean cs h.1)
    (λ i. record { text = R.first ∷ R.more; code = sym R.code i; columns = sym (R.columns ∙ ap char_width_of R.code) i; ok = sym R.ok i } ∷ cs)

read_prefix : (c : Character) (x y : List ℕ) → Read c (x ++ y) → Read c x
unfolding tail_len
read_prefix c x y R =
    record { first = R.first; more = R.more; text = R.text; code = R.code; columns = R.columns; ok = R.ok; stops = matched_prefix (tail (row_of R.first)) R.more x y R.stops }

pub valid_prefix : (xs ys : List Character) → Valid (xs ++ ys) → Valid xs
valid_prefix [] ys h = tt
valid_prefix (x ∷ xs) ys h = (read_prefix x (bytes_of xs) (bytes_of ys) (rw (bytes-append xs ys) at h.0), valid_prefix xs ys h.1)

pub valid_suffix : (xs ys : List Character) → Valid (xs ++ ys) → Valid ys
valid_suffix [] ys h = h
valid_suffix (x ∷ xs) ys h = valid_suffix xs ys h.1

-- ── cutting at a character's place: the characters of the beginning, and of the rest
pub chars_beginning : (s : List ℕ) (xs ys : List Character) → chars s ≡ xs ++ ys → chars (bytes_of xs) ≡ xs
chars_beginning s xs ys e = valid_clean xs (valid_prefix xs ys (rw e at (valid-chars s)))

pub chars_rest : (s : List ℕ) (xs ys : List Character) → chars s ≡ xs ++ ys → chars (bytes_of ys) ≡ ys
chars_rest s xs ys e = valid_clean ys (valid_suffix xs ys (rw e at (valid-chars s)))

-- ── width and well-formedness over `++`
pub width_append : (xs ys : List Character) → width_of (xs ++ ys) ≡ width_of xs + width_of ys
width_append [] ys = omega arith
width_append (x ∷ xs) ys = omega (arith, width_append xs ys)

-- ── one character further
-- the characters after some bytes that belong to a character before
pub chars-skip : (k : ℕ) (bs : List ℕ) → chars_from k bs ≡ chars (drop k bs)
unfolding chars
chars-skip zero [] = refl
chars-skip zero (b ∷ bs) = refl
chars-skip (suc k) [] = refl
chars-skip (suc k) (b ∷ bs) = chars-skip k bs

-- the length of a character
pub length_text : (b : ℕ) (bs : List ℕ) → length (char_at b bs).text ≡ suc (tail_len b bs)
unfolding char_at
length_text b bs = ap suc (length-take-le (tail_len b bs) bs (tail_le b bs))

-- past the end there are no characters
pub chars_end : (s : List ℕ) (at : ℕ) → length s ≤ at → chars (drop at s) ≡ []
unfolding chars
chars_end s at h = rw (drop_of_length-le s {i = at} h)

pub char_next : (s : List ℕ) (at : ℕ) → at < length s → chars (drop at s) ≡ char_in at s ∷ chars (drop (at + length (char_in at s).text) s)
unfolding char_in chars
char_next s at more =
    let b : ℕ = get_or s at 0 in
    let bs : List ℕ = drop (suc at) s in
    let n : at + length (char_at b bs).text ≡ suc at + tail_len b bs = omega (arith, length_text b bs) in
    rw (drop-cons s at 0 more, n, ← drop-drop (tail_len b bs) (suc at) s, chars-skip (tail_len b bs) bs)

-- its width is that of its code point
pub char_columns : (s : List ℕ) (at : ℕ) → wide (char_in at s) ≡ char_width_of (char_in at s).code
unfolding char_in char_at
char_columns s at = refl

-- an ill-formed one is U+FFFD, one column wide
pub ill_columns : (s : List ℕ) (at : ℕ) → (char_in at s).ok ≡ false → wide (char_in at s) ≡ 1
unfolding char_in char_at char_width_of ranges
ill_columns s at h = rw h

-- ── bounds: a character has one to four bytes, none of them past the end, and its width is at most 2
abbrev all_short_of : List Row → Bool
all_short_of [] = true
all_short_of (r ∷ rs) = leb (length r) 4 && all_short_of rs

abbrev all_narrow : List Range → Bool
all_narrow [] = true
all_narrow (r ∷ rs) = leb r.columns 2 && all_narrow rs

row_short : (rs : List Row) (b : ℕ) → T (all_short_of rs) → length (row_in rs b) ≤ 4
row_short [] b h = omega arith
row_short (r ∷ rs) b h = go (leads r b) (row_short rs b (and_right (leb (length r) 4) (all_short_of rs) h))
  where
    go : (t : Bool) → length (row_in rs b) ≤ 4 → length (cond t r (row_in rs b)) ≤ 4
    go true k = leb→le (length r) 4 (and_left (leb (length r) 4) (all_short_of rs) h)
    go false k = k

matched-row : (cs : Row) (bs : List ℕ) → matched cs bs ≤ length cs
matched-row [] bs = omega arith
matched-row (c ∷ cs) [] = omega arith
matched-row (c ∷ cs) (b ∷ bs) = go (within c.low c.high b) (matched-row cs bs)
  where
    go : (t : Bool) → matched cs bs ≤ length cs → cond t (suc (matched cs bs)) 0 ≤ suc (length cs)
    go true h = omega arith
    go false h = omega arith

tail_short : (r : Row) → length r ≤ 4 → length (tail r) ≤ 3
tail_short [] h = omega arith
tail_short (c ∷ cs) h = omega arith

pub tail_three : (b : ℕ) (bs : List ℕ) → tail_len b bs ≤ 3
unfolding tail_len row_of table37
tail_three b bs = omega (arith, matched-row (tail (row_of b)) bs, tail_short (row_of b) (row_short table37 b tt))

narrow_in : (rs : List Range) (c : ℕ) → T (all_narrow rs) → width_in rs c ≤ 2
narrow_in [] c h = omega arith
narrow_in (r ∷ rs) c h = go (within r.first r.last c) (narrow_in rs c (and_right (leb r.columns 2) (all_narrow rs) h))
  where
    go : (t : Bool) → width_in rs c ≤ 2 → cond t r.columns (width_in rs c) ≤ 2
    go true k = leb→le r.columns 2 (and_left (leb r.columns 2) (all_narrow rs) h)
    go false k = k

pub width_two : (c : ℕ) → char_width_of c ≤ 2
unfolding char_width_of ranges
width_two c = narrow_in ranges c tt

module _ (s : List ℕ) (at : ℕ) (more : at < length s) where
  pub char_some : 1 ≤ length (char_in at s).text
  unfolding char_in
  char_some = omega (arith, length_text (get_or s at 0) (drop (suc at) s))

  pub char_four : length (char_in at s).text ≤ 4
  unfolding char_in
  char_four = omega (arith, length_text (get_or s at 0) (drop (suc at) s), tail_three (get_or s at 0) (drop (suc at) s))

  pub char_inside : at + length (char_in at s).text ≤ length s
  unfolding char_in
  char_inside = omega (arith, length_text (get_or s at 0) (drop (suc at) s), tail_le (get_or s at 0) (drop (suc at) s), length-drop (suc at) s)

-- a text is at most twice as wide as it is long
pub width_bound : (cs : List Character) → Valid cs → width_of cs ≤ 2 * length (bytes_of cs)
width_bound [] h = omega arith
width_bound (c ∷ cs) h = omega (arith, h.0.columns, width_two c.code, width_bound cs h.1, length-append c.text (bytes_of cs), ap length h.0.text)
