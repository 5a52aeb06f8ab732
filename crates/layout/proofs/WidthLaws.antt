-- A listed line is within the width, or it is a lone word, or where words are broken a lone character with the zero-width characters after it.
-- The idea: the width of a line's bytes is the sum over its words and the whitespace between them, since no character goes on past a 20; and the last word of a line with two or more was tested
-- against exactly that sum.
use Prim.Native.Nat.{ℕ, zero, suc, ◌+◌, ◌≤◌, ◌<◌}
use native.Mathlib.Omega.{arith}
use mathlib.Core.Bool.{Bool, true, false, cond, ◌&&◌, ◌||◌}
use mathlib.Core.Logic.{◌⊎◌, inl, inr}
use mathlib.Core.Path.{◌≡◌, refl, sym, ap, subst, ◌∙◌}
use mathlib.Core.List.{List, [], ◌∷◌, ◌++◌, append-nil}
use lib.Dec.{leb, ltb, eqb}
use borrow.Author.Tests.{leb-true, eqb-true, eqb-false}
use Rattle.chars.specs.Chars.{Character, chars, bytes_of, wide, width_of, text_width_of}
use Rattle.chars.specs.Cut.{leading_zero_width_of}
use Rattle.chars.proofs.CharsLaws.{valid_clean, width_append}
use Rattle.chars.proofs.SeamLaws.{width_none, chars_low}
use Rattle.recording.specs.Lists.{AllOf}
use Rattle.recording.specs.Recording.{Bytes}
use Rattle.recording.proofs.Lists.{all_append}
use Rattle.layout.specs.Wrap.{groups, split_lines, Word, byte_words, words_of, in_head, split_words_at_width, fits_line, full_width, first_fit_of, Line, wrapped_line, lines_from, line_numbers, wrap_lines_of}
use Rattle.layout.specs.Widths.{LoneWord, WidthFits, ListFits, WidthsTrusted}
use Rattle.layout.proofs.GroupLaws.{all_concat, groups-concat, Joined, JoinedAll, groups-joined}
use Rattle.layout.proofs.ByteWordLaws.{Chain, NoNewline, Inner, lines_none, runs_ok, runs_chain}
use Rattle.layout.proofs.BreakLaws.{PieceOk, WordOk, Spaced, breaking_chain, breaking_pieces, fit_spaced}
use Rattle.layout.specs.Tabs.{spaces}
use Rattle.layout.proofs.TabLaws.{width_spaces}
use Rattle.layout.proofs.TwiceLaws.{text, texts, texts_of, cuts, cuts_all, join_lines_lem}

-- ── the width of a line's bytes
-- words with the whitespace between them, that after the last one left out
abbrev shown_width : List Word → ℕ
shown_width [] = 0
shown_width (v ∷ []) = width_of v.body
shown_width (v ∷ u ∷ us) = full_width v + shown_width (u ∷ us)

word_width : (t : Bool) (w : ℕ) (v : Word) → WordOk t w v → text_width_of (bytes_of v.body) ≡ width_of v.body
unfolding text_width_of
word_width t w v o = ap width_of (valid_clean v.body o.valid)

before-space : (x : Bytes) (n : ℕ) (y : Bytes) → 0 < n → text_width_of (x ++ (spaces n ++ y)) ≡ text_width_of x + (n + text_width_of y)
unfolding text_width_of
before-space x zero y h = absurd (omega arith)
before-space x (suc n) y h =
    ap width_of (chars_low x (spaces (suc n) ++ y) (omega arith)) ∙ width_append (chars x) (chars (spaces (suc n) ++ y)) ∙ ap (λ (k : ℕ). width_of (chars x) + k) (width_spaces (suc n) y)

text_width_lem : (t : Bool) (w : ℕ) (g : List Word) → AllOf (WordOk t w) g → Chain Spaced g → text_width_of (text g) ≡ shown_width g
text_width_lem t w [] o c = width_none
text_width_lem t w (v ∷ []) o c = rw (append-nil (bytes_of v.body)) (word_width t w v o.0)
text_width_lem t w (v ∷ u ∷ us) o c =
    omega (arith, before-space (bytes_of v.body) v.space (text (u ∷ us)) c.0.0, word_width t w v o.0, text_width_lem t w (u ∷ us) o.1 c.1)

-- ── a line of two words or more
joined_width : (w run : ℕ) (v : Word) (vs : List Word) → Joined (fits_line w) full_width run (v ∷ vs) → run + shown_width (v ∷ vs) ≤ w
joined_width w run v [] j = leb-true (run + width_of v.body) w j.0
joined_width w run v (u ∷ us) j = omega (arith, joined_width w (run + full_width v) u us j.1)

-- ── a head: within the width, or one character with zero-width characters after it
pub zero_wide : (cs : List Character) → width_of (leading_zero_width_of cs) ≡ 0
zero_wide [] = refl
zero_wide (c ∷ cs) = go (eqb (wide c) 0) refl (zero_wide cs)
  where
    go : (t : Bool) → eqb (wide c) 0 ≡ t → width_of (leading_zero_width_of cs) ≡ 0 → width_of (cond t (c ∷ leading_zero_width_of cs) []) ≡ 0
    go true e h = omega (arith, eqb-true (wide c) 0 e)
    go false e h = refl

head_width_lem : (w run : ℕ) (cs : List Character) → Joined (in_head w) wide run cs → (run + width_of cs ≤ w) ⊎ (leading_zero_width_of cs ≡ cs)
head_width_lem w run [] j = inr refl
head_width_lem w run (c ∷ cs) j = go (eqb (wide c) 0) j.0 (head_width_lem w (run + wide c) cs j.1)
  where
    go : (t : Bool) → (t || leb (run + wide c) w) ≡ true → ((run + wide c) + width_of cs ≤ w) ⊎ (leading_zero_width_of cs ≡ cs)
        → (run + width_of (c ∷ cs) ≤ w) ⊎ (cond t (c ∷ leading_zero_width_of cs) [] ≡ c ∷ cs)
    go t e (inl h) = inl (omega (arith, h))
    go true e (inr z) = inr (ap (λ (r : List Character). c ∷ r) z)
    go false e (inr z) = inl (omega (arith, leb-true (run + wide c) w e, ap width_of (sym z), zero_wide cs))

-- ── every line
lone_word : (s : Bytes) → AllOf Inner s → LoneWord s
lone_word [] h = tt
lone_word (b ∷ s) h = (eqb-false b 0x20 h.0.0, lone_word s h.1)

-- the same of what a line shows
abbrev TextFits : ℕ → Bool → Bytes → Type 0
TextFits w t s = WidthFits w t (text_width_of s) s

-- one word by itself
word_fits : (t : Bool) (w : ℕ) (cs : List Character) → PieceOk t w cs → TextFits w t (bytes_of cs)
word_fits false w cs o = inr (lone_word (bytes_of cs) o.inner)
word_fits true w [] o = inl (omega (arith, width_none))
word_fits true w (c ∷ cs) o = go (head_width_lem w (wide c) cs (rw (o.single refl) at (groups-joined (in_head w) wide (c ∷ cs))).0)
  where
    read : chars (bytes_of (c ∷ cs)) ≡ c ∷ cs
    read = valid_clean (c ∷ cs) o.valid

    go : (wide c + width_of cs ≤ w) ⊎ (leading_zero_width_of cs ≡ cs) → TextFits w true (bytes_of (c ∷ cs))
    go (inl h) = inl (unfold text_width_of in (rw read h))
    go (inr z) = inr (rw read z)

group_fits : (t : Bool) (w : ℕ) (g : List Word) → AllOf (WordOk t w) g → Chain Spaced g → JoinedAll (fits_line w) full_width g → TextFits w t (text g)
group_fits t w [] o c j = inl (omega (arith, width_none))
group_fits t w (v ∷ []) o c j = rw (append-nil (bytes_of v.body)) (word_fits t w v.body o.0)
group_fits t w (v ∷ u ∷ us) o c j = inl (omega (arith, text_width_lem t w (v ∷ u ∷ us) o c, joined_width w (full_width v) u us j))

groups_fit : (t : Bool) (w : ℕ) (gs : List (List Word)) → AllOf (AllOf (WordOk t w)) gs → AllOf (Chain Spaced) gs → AllOf (JoinedAll (fits_line w) full_width) gs → AllOf (TextFits w t) (texts gs)
groups_fit t w [] o c j = tt
groups_fit t w (g ∷ gs) o c j = (group_fits t w g o.0 c.0 j.0, groups_fit t w gs o.1 c.1 j.1)

line_fits : (w : ℕ) (b : Bool) (l : Bytes) → AllOf NoNewline l → AllOf (TextFits w (b && ltb 0 w)) (texts (wrapped_line w b l))
unfolding wrapped_line first_fit_of
line_fits w b l h =
    let vs : List Word = split_words_at_width w b (words_of (byte_words l)) in
    let ok : AllOf (WordOk (b && ltb 0 w) w) vs = breaking_pieces w b (byte_words l) (runs_ok l h) in
    groups_fit (b && ltb 0 w) w (groups (fits_line w) full_width vs) (all_concat (WordOk (b && ltb 0 w) w) (groups (fits_line w) full_width vs) (rw (groups-concat (fits_line w) full_width vs) ok))
    (fit_spaced w vs (breaking_chain w b (byte_words l) (runs_chain l))) (groups-joined (fits_line w) full_width vs)

lines_fit : (w : ℕ) (b : Bool) (ls : List Bytes) → AllOf (AllOf NoNewline) ls → AllOf (TextFits w (b && ltb 0 w)) (texts_of w b ls)
lines_fit w b [] h = tt
lines_fit w b (l ∷ ls) h = all_append (TextFits w (b && ltb 0 w)) (texts (wrapped_line w b l)) (texts_of w b ls) (line_fits w b l h.0) (lines_fit w b ls h.1)

-- the list has the width of what each line shows
listed : (w : ℕ) (t : Bool) (d : Bytes) (ls : List Line) → AllOf (TextFits w t) (cuts d ls) → ListFits w t d (line_numbers d ls)
listed w t d [] h = tt
listed w t d (l ∷ ls) h = (h.0, listed w t d ls h.1)

pub widths_trusted : WidthsTrusted
unfolding wrap_lines_of
widths_trusted w b d =
    listed w (b && ltb 0 w) d (lines_from w b 0 (split_lines d))
    (subst (AllOf (TextFits w (b && ltb 0 w))) (sym (cuts_all w b d 0 (split_lines d) (sym (join_lines_lem d)))) (lines_fit w b (split_lines d) (lines_none d)))
