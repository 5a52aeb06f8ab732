-- Texts that are joined: what comes after well-formed bytes does not change how they are read, so characters and widths add up.
-- The idea: a well-formed character has a byte for each column of its row, so no byte after it can belong to it.
use Prim.Native.Nat.{ℕ, suc, ◌+◌}
use native.Mathlib.Omega.{arith}
use mathlib.Core.Bool.{Bool, true, false, cond, ◌&&◌, false≢true}
use mathlib.Core.Path.{◌≡◌, refl, sym, ap, ◌∙◌}
use mathlib.Core.List.{List, [], ◌∷◌, ◌++◌, tail}
use lib.ListN.{length, take}
use borrow.Author.Tests.{eqb-true}
use Rattle.chars.specs.Utf8.{Row, within, row_of, matched, tail_len, complete}
use Rattle.chars.specs.Chars.{Character, chars, bytes_of, width_of, text_width_of, all_ok, well_formed_of}
use Rattle.chars.specs.Cut.{kept_within, truncate_end_pos_of, truncate_end_width}
use Rattle.chars.proofs.CharsLaws.{Read, Valid, bytes-chars, bytes-append, valid-chars, valid_clean, width_append, chars_beginning}
use Rattle.chars.proofs.CutLaws.{kept_rest, split_kept, kept_end}

-- ── a sequence that has a byte for each column
matched_full : (cs : Row) (m r r' : List ℕ) → length cs ≡ length m → matched cs (m ++ r) ≡ length m → matched cs (m ++ r') ≡ length m
matched_full [] [] r r' e h = refl
matched_full [] (b ∷ m) r r' e h = absurd (omega (arith, e))
matched_full (c ∷ cs) [] r r' e h = absurd (omega (arith, e))
matched_full (c ∷ cs) (b ∷ m) r r' e h = go (within c.low c.high b) h (λ g. matched_full cs m r r' (omega (arith, e)) g)
  where
    go : (t : Bool) → cond t (suc (matched cs (m ++ r))) 0 ≡ suc (length m) → (matched cs (m ++ r) ≡ length m → matched cs (m ++ r') ≡ length m)
        → cond t (suc (matched cs (m ++ r'))) 0 ≡ suc (length m)
    go true g f = ap suc (f (omega (arith, g)))
    go false g f = absurd (omega (arith, g))

tail_length : (r : Row) (n : ℕ) → suc n ≡ length r → length (tail r) ≡ n
tail_length [] n h = absurd (omega (arith, h))
tail_length (c ∷ cs) n h = omega (arith, h)

-- a well-formed character is read as itself, whatever follows
read_any : (c : Character) (x y : List ℕ) → c.ok ≡ true → Read c x → Read c y
unfolding tail_len complete
read_any c x y h R =
    let full : suc (length R.more) ≡ length (row_of R.first) = eqb-true (suc (length R.more)) (length (row_of R.first)) (sym R.ok ∙ h) in
    record {
      first = R.first;
      more = R.more;
      text = R.text;
      code = R.code;
      columns = R.columns;
      ok = R.ok;
      stops = matched_full (tail (row_of R.first)) R.more x y (tail_length (row_of R.first) (length R.more) full) R.stops;
    }

-- ── all of some characters are well-formed
pub and_both : (a b : Bool) → (a && b) ≡ true → (a ≡ true) × (b ≡ true)
and_both true true h = (refl, refl)
and_both true false h = absurd (false≢true h)
and_both false b h = absurd (false≢true h)

pub ok_beginning : (xs ys : List Character) → all_ok (xs ++ ys) ≡ true → all_ok xs ≡ true
ok_beginning [] ys h = refl
ok_beginning (x ∷ xs) ys h =
    let b = and_both x.ok (all_ok (xs ++ ys)) h in
    rw b.0 (ok_beginning xs ys b.1)

ok_join : (xs ys : List Character) → all_ok xs ≡ true → all_ok ys ≡ true → all_ok (xs ++ ys) ≡ true
ok_join [] ys h g = g
ok_join (x ∷ xs) ys h g =
    let b = and_both x.ok (all_ok xs) h in
    rw b.0 (ok_join xs ys b.1 g)

valid_join : (xs ys : List Character) → all_ok xs ≡ true → Valid xs → Valid ys → Valid (xs ++ ys)
valid_join [] ys h v w = w
valid_join (x ∷ xs) ys h v w =
    let b = and_both x.ok (all_ok xs) h in
    (read_any x (bytes_of xs) (bytes_of (xs ++ ys)) b.0 v.0, valid_join xs ys b.1 v.1 w)

-- ── joined texts
pub chars-append : (a b : List ℕ) → well_formed_of a ≡ true → chars (a ++ b) ≡ chars a ++ chars b
unfolding well_formed_of
chars-append a b h =
    let e : bytes_of (chars a ++ chars b) ≡ a ++ b = bytes-append (chars a) (chars b) ∙ (λ i. bytes-chars a i ++ bytes-chars b i) in
    ap chars (sym e) ∙ valid_clean (chars a ++ chars b) (valid_join (chars a) (chars b) h (valid-chars a) (valid-chars b))

pub width_join : (a b : List ℕ) → well_formed_of a ≡ true → text_width_of (a ++ b) ≡ text_width_of a + text_width_of b
unfolding text_width_of
width_join a b h = ap width_of (chars-append a b h) ∙ width_append (chars a) (chars b)

pub formed_join : (a b : List ℕ) → well_formed_of a ≡ true → well_formed_of b ≡ true → well_formed_of (a ++ b) ≡ true
unfolding well_formed_of
formed_join a b h g = ap all_ok (chars-append a b h) ∙ ok_join (chars a) (chars b) h g

-- ── the beginning that is kept within a width: its characters, its width, and that it is well-formed as the text is
kept_chars : (m : ℕ) (d : List ℕ) → chars (take (truncate_end_pos_of m d) d) ≡ kept_within m (chars d)
kept_chars m d = ap chars (kept_end m d) ∙ chars_beginning d (kept_within m (chars d)) (kept_rest m (chars d)) (split_kept m (chars d))

pub kept_wide : (m : ℕ) (d : List ℕ) → text_width_of (take (truncate_end_pos_of m d) d) ≡ truncate_end_width m d
unfolding text_width_of truncate_end_width
kept_wide m d = ap width_of (kept_chars m d)

pub kept_formed : (m : ℕ) (d : List ℕ) → well_formed_of d ≡ true → well_formed_of (take (truncate_end_pos_of m d) d) ≡ true
unfolding well_formed_of
kept_formed m d h = ap all_ok (kept_chars m d) ∙ ok_beginning (kept_within m (chars d)) (kept_rest m (chars d)) (ap all_ok (sym (split_kept m (chars d))) ∙ h)
