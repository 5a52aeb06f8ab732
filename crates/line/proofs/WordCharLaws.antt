-- The characters of a word, read where more bytes come after the word: no character goes on past a 20 or a 0A.
-- The idea: a byte that continues a sequence is at least 80 (`column_low`).
use Prim.Native.Nat.{ℕ, zero, suc, ◌≤◌, ◌<◌}
use native.Mathlib.Omega.{arith}
use mathlib.Core.Bool.{Bool, true, false, cond, ◌||◌, false≢true}
use mathlib.Core.Path.{◌≡◌, refl, sym, ap, ◌∙◌}
use mathlib.Core.List.{List, [], ◌∷◌, tail}
use lib.Dec.{eqb, T}
use lib.ListN.{length, take, drop}
use borrow.Author.Tests.{lt-leb, eqb-true}
use Rattle.chars.specs.Utf8.{Row, within, row_of, matched, tail_len}
use Rattle.chars.specs.Chars.{char_at}
use Rattle.chars.proofs.TrailLaws.{trailing, row_trailing, column_low, columns_on}
use Rattle.line.specs.Rest.{ends_word, word_text}

-- ── what follows a byte of a word
pub end_low : (x : ℕ) → ends_word x ≡ true → x < 0x80
end_low x e = go (eqb x 0x20) refl (eqb x 0x0A) refl e
  where
    go : (s : Bool) → eqb x 0x20 ≡ s → (t : Bool) → eqb x 0x0A ≡ t → (s || t) ≡ true → x < 0x80
    go true p t q e = omega (arith, eqb-true x 0x20 p)
    go false p true q e = omega (arith, eqb-true x 0x0A q)
    go false p false q e = absurd (false≢true e)

matched_word : (cs : Row) (r : List ℕ) → T (trailing cs) → (matched cs (word_text r) ≡ matched cs r) × (take (matched cs r) (word_text r) ≡ take (matched cs r) r)
unfolding word_text
matched_word [] r h = (refl, refl)
matched_word (c ∷ cs) [] h = (refl, refl)
matched_word (c ∷ cs) (x ∷ r) h =
    go (ends_word x) refl (within c.low c.high x) refl (column_low c cs h) (matched_word cs r (columns_on c cs h))
  where
    go : (s : Bool) → ends_word x ≡ s → (t : Bool) → within c.low c.high x ≡ t → 0x80 ≤ c.low → (matched cs (word_text r) ≡ matched cs r)
        × (take (matched cs r) (word_text r) ≡ take (matched cs r) r)
        → (matched (c ∷ cs) (cond s [] (x ∷ word_text r)) ≡ cond t (suc (matched cs r)) 0) ×
        (take (cond t (suc (matched cs r)) 0) (cond s [] (x ∷ word_text r)) ≡ take (cond t (suc (matched cs r)) 0) (x ∷ r))
    go true e true f l g = absurd (false≢true (sym (rw (lt-leb c.low x (omega (arith, end_low x e)))) ∙ f))
    go true e false f l g = (refl, refl)
    go false e true f l g = (rw (f, g.0), ap (λ (l : List ℕ). x ∷ l) g.1)
    go false e false f l g = (rw f, refl)

tail_word : (b : ℕ) (r : List ℕ) → (tail_len b (word_text r) ≡ tail_len b r) × (take (tail_len b r) (word_text r) ≡ take (tail_len b r) r)
unfolding tail_len
tail_word b r = matched_word (tail (row_of b)) r (row_trailing b)

pub char_word : (b : ℕ) (r : List ℕ) → char_at b (word_text r) ≡ char_at b r
unfolding char_at
char_word b r = rw ((tail_word b r).0, (tail_word b r).1)

-- ── places in the word
pub word_drop : (i : ℕ) (s : List ℕ) → i ≤ length (word_text s) → drop i (word_text s) ≡ word_text (drop i s)
unfolding word_text
word_drop zero s h = refl
word_drop (suc i) [] h = absurd (omega arith)
word_drop (suc i) (x ∷ s) h = go (ends_word x) h (λ k. word_drop i s k)
  where
    go : (t : Bool) → suc i ≤ length (cond t [] (x ∷ word_text s)) → (i ≤ length (word_text s) → drop i (word_text s) ≡ word_text (drop i s))
        → drop (suc i) (cond t [] (x ∷ word_text s)) ≡ word_text (drop i s)
    go true k f = absurd (omega arith)
    go false k f = f (omega arith)
