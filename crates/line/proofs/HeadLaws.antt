-- The words of a line after breaking are its first head with the bytes 20 after it, then the words of what is left, read as if it were fresh data.
-- The idea: the rest of a word's bytes has the rest of its characters, and the heads after a head are the heads of what is left.
use Prim.Native.Nat.{ℕ, zero, suc, ◌+◌, ◌-◌, ◌≤◌, ◌<◌}
use native.Mathlib.Omega.{arith}
use native.Mathlib.Numerals.{one-add}
use mathlib.Core.Bool.{Bool, true, false, cond, ◌||◌}
use mathlib.Core.Logic.{◌⊎◌, inl, inr}
use mathlib.Core.Path.{◌≡◌, refl, sym, ap, ◌∙◌}
use mathlib.Core.List.{List, [], ◌∷◌, ◌++◌, append-nil, append_assoc}
use lib.Dec.{leb, eqb}
use lib.ListN.{length, drop}
use lib.Seq.{drop-append_seam, drop-drop}
use borrow.Author.Tests.{eqb-true}
use Rattle.chars.specs.Chars.{Character, chars, bytes_of, wide}
use Rattle.chars.specs.Cut.{kept_within, leading_zero_width_of}
use Rattle.chars.proofs.CharsLaws.{bytes-chars, bytes-append, Read, Valid, valid-chars, valid_clean, valid_suffix}
use Rattle.chars.proofs.CutLaws.{kept_rest, split_kept}
use Rattle.recording.specs.Lists.{AllOf}
use Rattle.recording.specs.Recording.{is_nil}
use Rattle.recording.proofs.Lists.{all_right}
use Rattle.layout.specs.Wrap.{onto_first, groups, split_lines, Word, ByteWord, space_before, byte_before, byte_words, words_of, in_head, heads_as_words, split_words}
use Rattle.layout.specs.Tabs.{spaces}
use Rattle.layout.proofs.ByteWordLaws.{NoNewline, Inner, FirstText, runs_word}
use Rattle.layout.proofs.WordingLaws.{after_zero, split_zero, rest_heads, first_head}
use Rattle.line.specs.Rest.{line_text, later_lines, word_text, space_len, one_char_of, head_of}

-- ── the line at the front
pub lines_split : (d : List ℕ) → split_lines d ≡ line_text d ∷ later_lines d
unfolding line_text later_lines
lines_split [] = refl
lines_split (x ∷ d) = go (eqb x 0x0A) (lines_split d)
  where
    go : (t : Bool) → split_lines d ≡ line_text d ∷ later_lines d
        → cond t ([] ∷ split_lines d) (onto_first x (split_lines d)) ≡ cond t [] (x ∷ line_text d) ∷ cond t (split_lines d) (later_lines d)
    go true h = refl
    go false h = rw h

pub text_none : (d : List ℕ) → AllOf NoNewline (line_text d)
unfolding line_text
text_none [] = tt
text_none (x ∷ d) = go (eqb x 0x0A) refl (text_none d)
  where
    go : (t : Bool) → eqb x 0x0A ≡ t → AllOf NoNewline (line_text d) → AllOf NoNewline (cond t [] (x ∷ line_text d))
    go true e h = tt
    go false e h = (e, h)

-- n bytes further in the line
pub text_drop : (n : ℕ) (d : List ℕ) → n ≤ length (line_text d) → drop n (line_text d) ≡ line_text (drop n d)
unfolding line_text
text_drop zero d h = refl
text_drop (suc n) [] h = absurd (omega arith)
text_drop (suc n) (x ∷ d) h = go (eqb x 0x0A) h (λ k. text_drop n d k)
  where
    go : (t : Bool) → suc n ≤ length (cond t [] (x ∷ line_text d)) → (n ≤ length (line_text d) → drop n (line_text d) ≡ line_text (drop n d))
        → drop (suc n) (cond t [] (x ∷ line_text d)) ≡ line_text (drop n d)
    go true k f = absurd (omega arith)
    go false k f = f (omega arith)

pub later_drop : (n : ℕ) (d : List ℕ) → n ≤ length (line_text d) → later_lines (drop n d) ≡ later_lines d
unfolding line_text later_lines
later_drop zero d h = refl
later_drop (suc n) [] h = refl
later_drop (suc n) (x ∷ d) h = go (eqb x 0x0A) h (λ k. later_drop n d k)
  where
    go : (t : Bool) → suc n ≤ length (cond t [] (x ∷ line_text d)) → (n ≤ length (line_text d) → later_lines (drop n d) ≡ later_lines d)
        → later_lines (drop n d) ≡ cond t (split_lines d) (later_lines d)
    go true k f = absurd (omega arith)
    go false k f = f (omega arith)

pub text_le : (d : List ℕ) → length (line_text d) ≤ length d
unfolding line_text
text_le [] = omega arith
text_le (x ∷ d) = go (eqb x 0x0A) (text_le d)
  where
    go : (t : Bool) → length (line_text d) ≤ length d → length (cond t [] (x ∷ line_text d)) ≤ suc (length d)
    go true h = omega arith
    go false h = omega arith

-- ── the word at the front
pub word_line : (d : List ℕ) → word_text (line_text d) ≡ word_text d
unfolding line_text word_text
word_line [] = refl
word_line (x ∷ d) = go (eqb x 0x0A) refl (eqb x 0x20) refl (word_line d)
  where
    go : (t : Bool) → eqb x 0x0A ≡ t → (s : Bool) → eqb x 0x20 ≡ s → word_text (line_text d) ≡ word_text d
        → word_text (cond (eqb x 0x0A) [] (x ∷ line_text d)) ≡ cond (eqb x 0x20 || eqb x 0x0A) [] (x ∷ word_text d)
    go true e true e' h = rw (e, e')
    go true e false e' h = rw (e, e')
    go false e true e' h = simp (e, e')
    go false e false e' h = simp (e, e', h)

pub space_line : (d : List ℕ) → space_len (line_text d) ≡ space_len d
unfolding line_text space_len
space_line [] = refl
space_line (x ∷ d) = go (eqb x 0x0A) refl (space_line d)
  where
    go : (t : Bool) → eqb x 0x0A ≡ t → space_len (line_text d) ≡ space_len d → space_len (cond t [] (x ∷ line_text d)) ≡ cond (eqb x 0x20) (1 + space_len d) 0
    go true e h = rw (eqb-true x 0x0A e)
    go false e h = rw h

pub space-le : (d : List ℕ) → space_len d ≤ length d
unfolding space_len
space-le [] = omega arith
space-le (x ∷ d) = go (eqb x 0x20) (space-le d)
  where
    go : (t : Bool) → space_len d ≤ length d → cond t (1 + space_len d) 0 ≤ suc (length d)
    go true h = omega arith
    go false h = omega arith

-- what comes after the word at the front: nothing, or a stop
word_rest : (l : List ℕ) → AllOf NoNewline l → (word_text l ++ drop (length (word_text l)) l ≡ l) × AllOf Inner (word_text l)
    × ((drop (length (word_text l)) l ≡ []) ⊎ (0 < space_len (drop (length (word_text l)) l)))
unfolding word_text space_len
word_rest [] h = (refl, tt, inl refl)
word_rest (x ∷ l) h = go (eqb x 0x20) refl (word_rest l h.1)
  where
    go : (t : Bool) → eqb x 0x20 ≡ t
        → (word_text l ++ drop (length (word_text l)) l ≡ l) × AllOf Inner (word_text l) × ((drop (length (word_text l)) l ≡ []) ⊎ (0 < space_len (drop (length (word_text l)) l)))
        → (word_text (x ∷ l) ++ drop (length (word_text (x ∷ l))) (x ∷ l) ≡ x ∷ l) × AllOf Inner (word_text (x ∷ l))
        × ((drop (length (word_text (x ∷ l))) (x ∷ l) ≡ []) ⊎ (0 < space_len (drop (length (word_text (x ∷ l))) (x ∷ l))))
    go true e k =
        let n : word_text (x ∷ l) ≡ [] = rw e in
        let p : space_len (x ∷ l) ≡ 1 + space_len l = rw e in
        rw n (refl, tt, inr (omega (arith, p)))
    go false e k = rw (e, h.0) (ap (λ (r : List ℕ). x ∷ r) k.0, ((e, h.0), k.1), k.2)

-- the bytes 20 at the front, and what comes after them
pub spaces_split : (z : List ℕ) → (spaces (space_len z) ++ drop (space_len z) z ≡ z) × (space_len (drop (space_len z) z) ≡ 0)
unfolding space_len
spaces_split [] = (refl, refl)
spaces_split (x ∷ z) = go (eqb x 0x20) refl (spaces_split z)
  where
    go : (t : Bool) → eqb x 0x20 ≡ t → (spaces (space_len z) ++ drop (space_len z) z ≡ z) × (space_len (drop (space_len z) z) ≡ 0)
        → (spaces (cond t (1 + space_len z) 0) ++ drop (cond t (1 + space_len z) 0) (x ∷ z) ≡ x ∷ z) × (space_len (drop (cond t (1 + space_len z) 0) (x ∷ z)) ≡ 0)
    go true e k = rw one-add (rw (k.0, eqb-true x 0x20 e), k.1)
    go false e k = (refl, rw e)

-- no 20 at the front: the first run has text
not-space : (y : List ℕ) → space_len y ≡ 0 → FirstText (byte_words y)
unfolding space_len
not-space [] h = tt
not-space (x ∷ y) h = go (eqb x 0x20) h
  where
    some : (rs : List ByteWord) → FirstText (byte_before x rs)
    some [] = refl
    some (w ∷ ws) = refl

    go : (t : Bool) → cond t (1 + space_len y) 0 ≡ 0 → FirstText (cond t (space_before (byte_words y)) (byte_before x (byte_words y)))
    go true k = absurd (omega (arith, k))
    go false k = some (byte_words y)

spaces_len : (g : ℕ) (y : List ℕ) → space_len y ≡ 0 → space_len (spaces g ++ y) ≡ g
unfolding space_len
spaces_len zero y h = h
spaces_len (suc g) y h = rw one-add (ap suc (spaces_len g y h))

spaces-drop : (g : ℕ) (y : List ℕ) → drop g (spaces g ++ y) ≡ y
spaces-drop zero y = refl
spaces-drop (suc g) y = spaces-drop g y

inner_len : (t z : List ℕ) → AllOf Inner t → 0 < length t → space_len (t ++ z) ≡ 0
unfolding space_len
inner_len [] z h p = absurd (omega arith)
inner_len (x ∷ t) z h p = rw h.0.0

-- ── the first head of a word
abbrev pub after_head : ℕ → List Character → List Character
after_head m [] = []
after_head m (c ∷ cs) = cond (leb (wide c) m) (kept_rest m (c ∷ cs)) (after_zero cs)

heads-cons : (m : ℕ) (c : Character) (cs : List Character) → rest_heads m (c ∷ cs) ≡ head_of m (c ∷ cs) ∷ rest_heads m (after_head m (c ∷ cs))
unfolding head_of one_char_of
heads-cons m c cs = first_head m c cs

pub head_split : (m : ℕ) (cs : List Character) → head_of m cs ++ after_head m cs ≡ cs
unfolding head_of one_char_of
head_split m [] = refl
head_split m (c ∷ cs) = go (leb (wide c) m) (sym (split_kept m (c ∷ cs)))
  where
    go : (t : Bool) → kept_within m (c ∷ cs) ++ kept_rest m (c ∷ cs) ≡ c ∷ cs → cond t (kept_within m (c ∷ cs)) (c ∷ leading_zero_width_of cs) ++ cond t (kept_rest m (c ∷ cs)) (after_zero cs) ≡ c ∷ cs
    go true h = h
    go false h = ap (λ (l : List Character). c ∷ l) (sym (split_zero cs))

pub head_some : (m : ℕ) (c : Character) (cs : List Character) → 0 < length (head_of m (c ∷ cs))
unfolding head_of one_char_of
head_some m c cs = go (leb (wide c) m) refl
  where
    go : (t : Bool) → leb (wide c) m ≡ t → 0 < length (cond t (cond t (c ∷ kept_within (m - wide c) cs) []) (c ∷ leading_zero_width_of cs))
    go true e = omega arith
    go false e = omega arith

-- ── characters have bytes
pub bytes_some : (cs : List Character) → Valid cs → 0 < length cs → 0 < length (bytes_of cs)
bytes_some [] v h = absurd (omega arith)
bytes_some (c ∷ cs) v h =
    let R : Read c (bytes_of cs) = v.0 in
    rw R.text (omega arith)

-- ── the first head, with its whitespace, and the words of what is left
abbrev pub Goes : ℕ → List ℕ → List Character → Type 0
Goes m l h =
    split_words m (words_of (byte_words l))
    ≡ (record { body = h; space = space_len (drop (length (bytes_of h)) l) })
    ∷ split_words m (words_of (byte_words (drop (length (bytes_of h) + space_len (drop (length (bytes_of h)) l)) l)))

goes : (m : ℕ) (l : List ℕ) (h : List Character) (z rest : List ℕ) (k : ℕ) → l ≡ bytes_of h ++ z → space_len z ≡ k → drop k z ≡ rest
    → split_words m (words_of (byte_words l)) ≡ (record { body = h; space = k }) ∷ split_words m (words_of (byte_words rest)) → Goes m l h
goes m l h z rest k e s d g =
    let n : drop (length (bytes_of h)) l ≡ z = rw e (drop-append_seam (bytes_of h) z) in
    let q : drop (length (bytes_of h) + k) l ≡ rest = sym (drop-drop k (length (bytes_of h)) l) ∙ rw (n, d) in
    rw (n, s, q) g

as_two : (g : ℕ) (h a : List Character) (as' X : List (List Character)) → X ≡ a ∷ as' → heads_as_words g (h ∷ X) ≡ (record { body = h; space = 0 }) ∷ heads_as_words g X
as_two g h a as' X e = rw e

drop_none : (n : ℕ) → ◌≡◌ {A = List ℕ} (drop n []) []
drop_none zero = refl
drop_none (suc n) = refl

abbrev Tail : List ℕ → ℕ → List ℕ → Type 0
Tail t g y = (0 < g) ⊎ ((y ≡ []) × (is_nil t ≡ false))

not-nil : (t : List ℕ) → 0 < length t → is_nil t ≡ false
not-nil [] h = absurd (omega arith)
not-nil (x ∷ t) h = refl

words : (m : ℕ) (t : List ℕ) (g : ℕ) (y : List ℕ) (c : Character) (cs : List Character) → chars t ≡ c ∷ cs → AllOf Inner t → space_len y ≡ 0 → Tail t g y
    → split_words m (words_of (byte_words (t ++ (spaces g ++ y)))) ≡ heads_as_words g (rest_heads m (c ∷ cs)) ++ split_words m (words_of (byte_words y))
words m t g y c cs e i s o =
    rw (runs_word t g y i (not-space y s) o) (ap (λ (k : List Character). heads_as_words g (groups (in_head m) wide k) ++ split_words m (words_of (byte_words y))) e)

long : (m : ℕ) (t : List ℕ) (g : ℕ) (y : List ℕ) (c : Character) (cs : List Character) → chars t ≡ c ∷ cs → AllOf Inner t → space_len y ≡ 0 → Tail t g y
    → Goes m (t ++ (spaces g ++ y)) (head_of m (c ∷ cs))
long m t g y c cs e i s o = go (after_head m (c ∷ cs)) refl
  where
    go : (r : List Character) → after_head m (c ∷ cs) ≡ r → Goes m (t ++ (spaces g ++ y)) (head_of m (c ∷ cs))
    go [] q =
        let h = head_of m (c ∷ cs) in
        let all : h ≡ c ∷ cs = sym (append-nil h) ∙ ap (λ (r : List Character). h ++ r) (sym q) ∙ head_split m (c ∷ cs) in
        let byte_items : bytes_of h ≡ t = ap bytes_of (all ∙ sym e) ∙ bytes-chars t in
        goes m (t ++ (spaces g ++ y)) h (spaces g ++ y) y g (ap (λ (b : List ℕ). b ++ (spaces g ++ y)) (sym byte_items)) (spaces_len g y s) (spaces-drop g y)
        (words m t g y c cs e i s o ∙ ap (λ (k : List (List Character)). heads_as_words g k ++ split_words m (words_of (byte_words y)))
        (heads-cons m c cs ∙ ap (λ (r : List Character). h ∷ rest_heads m r) q))
    go (d ∷ ds) q =
        let h = head_of m (c ∷ cs) in
        let u = bytes_of (d ∷ ds) in
        let all : h ++ (d ∷ ds) ≡ chars t = ap (λ (r : List Character). h ++ r) (sym q) ∙ head_split m (c ∷ cs) ∙ sym e in
        let byte_items : bytes_of h ++ u ≡ t = sym (bytes-append h (d ∷ ds)) ∙ ap bytes_of all ∙ bytes-chars t in
        let v : Valid (d ∷ ds) = valid_suffix h (d ∷ ds) (rw all (valid-chars t)) in
        let inner : AllOf Inner u = all_right Inner (bytes_of h) u (rw byte_items i) in
        let some : 0 < length u = bytes_some (d ∷ ds) v (omega arith) in
        let o' : Tail u g y = after o (not-nil u some) in
        let z = u ++ (spaces g ++ y) in
        goes m (t ++ (spaces g ++ y)) h z z 0 (ap (λ (b : List ℕ). b ++ (spaces g ++ y)) (sym byte_items) ∙ append_assoc (bytes_of h) u (spaces g ++ y)) (inner_len u (spaces g ++ y) inner some) refl
        (words m t g y c cs e i s o
        ∙ ap (λ (k : List (List Character)). heads_as_words g k ++ split_words m (words_of (byte_words y))) (heads-cons m c cs ∙ ap (λ (r : List Character). h ∷ rest_heads m r) q)
        ∙ ap (λ (k : List Word). k ++ split_words m (words_of (byte_words y))) (as_two g h (head_of m (d ∷ ds)) (rest_heads m (after_head m (d ∷ ds))) (rest_heads m (d ∷ ds)) (heads-cons m d ds))
        ∙ ap (λ (k : List Word). (record { body = h; space = 0 }) ∷ k) (sym (words m u g y d ds (valid_clean (d ∷ ds) v) inner s o')))
      where
        after : Tail t g y → is_nil (bytes_of (d ∷ ds)) ≡ false → Tail (bytes_of (d ∷ ds)) g y
        after (inl k) n = inl k
        after (inr k) n = inr (k.0, n)

part : (m : ℕ) (t : List ℕ) (g : ℕ) (y : List ℕ) → AllOf Inner t → space_len y ≡ 0 → Tail t g y → (cs : List Character) → chars t ≡ cs → Goes m (t ++ (spaces g ++ y)) (head_of m cs)
unfolding head_of chars
part m [] g y i s o [] e =
    goes m (spaces g ++ y) [] (spaces g ++ y) y g refl (spaces_len g y s) (spaces-drop g y) (rw (runs_word [] g y tt (not-space y s) o))
part m (x ∷ t) g y i s o [] e = absurd (omega (arith, ap length e))
part m t g y i s o (c ∷ cs) e = long m t g y c cs e i s o

pub heads_next : (m : ℕ) (l : List ℕ) → AllOf NoNewline l → 0 < length l → Goes m l (head_of m (chars (word_text l)))
heads_next m l n p =
    let t = word_text l in
    let z = drop (length t) l in
    let g = space_len z in
    let y = drop g z in
    let W = word_rest l n in
    let S = spaces_split z in
    let e : t ++ (spaces g ++ y) ≡ l = ap (λ (r : List ℕ). t ++ r) S.0 ∙ W.0 in
    rw e at (part m t g y W.1 S.1 (tail W.2 W.0) (chars t) refl)
  where
    tail : ((drop (length (word_text l)) l ≡ []) ⊎ (0 < space_len (drop (length (word_text l)) l))) → word_text l ++ drop (length (word_text l)) l ≡ l
        → Tail (word_text l) (space_len (drop (length (word_text l)) l)) (drop (space_len (drop (length (word_text l)) l)) (drop (length (word_text l)) l))
    tail (inl e) f =
        let y : drop (space_len (drop (length (word_text l)) l)) (drop (length (word_text l)) l) ≡ [] = rw e (drop_none (space_len [])) in
        let a : length (word_text l ++ drop (length (word_text l)) l) ≡ length (word_text l) = rw e (ap length (append-nil (word_text l))) in
        inr (y, not-nil (word_text l) (omega (arith, a, ap length f)))
    tail (inr k) f = inl k
