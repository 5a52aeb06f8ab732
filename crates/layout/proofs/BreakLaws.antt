-- Breaking: each piece of a word is one head, reads as its own characters, and two neighbouring heads of a word are wider together than the width.
-- First fit: so on one line each word but the last has whitespace after it.
use Prim.Native.Nat.{ℕ, ◌+◌, ◌≤◌, ◌<◌}
use native.Mathlib.Omega.{arith}
use mathlib.Core.Bool.{Bool, true, false, cond, ◌&&◌, false≢true}
use mathlib.Core.Logic.{◌⊎◌, inl, inr}
use mathlib.Core.Path.{◌≡◌, refl, sym, ap}
use mathlib.Core.List.{List, [], ◌∷◌, ◌++◌}
use lib.Dec.{leb, ltb, eqb}
use borrow.Author.Tests.{leb-false, leb-true}
use Rattle.chars.specs.Chars.{Character, chars, bytes_of, width_of, wide}
use Rattle.chars.proofs.CharsLaws.{bytes-chars, bytes-append, Read, Valid, valid-chars, valid_prefix, valid_suffix}
use Rattle.recording.specs.Lists.{AllOf}
use Rattle.recording.specs.Recording.{is_nil}
use Rattle.recording.proofs.Lists.{all_append, all_left, all_right, or_right}
use Rattle.layout.specs.Wrap.{onto_first, groups_from, groups, Word, ByteWord, word_of, words_of, in_head, heads_as_words, split_word, split_words, split_words_at_width, fits_line, full_width, first_fit_of}
use Rattle.layout.proofs.ByteWordLaws.{ChainFrom, Chain, Inner, RunOk, Next}
use Rattle.layout.proofs.GroupLaws.{concat, Grouped, end, join, new, grouped, Single, groups-single, groups-concat}

-- ── a piece: reads as its characters, holds neither 20 nor 0A, and is one head if words are broken (t)
pub record PieceOk (t : Bool) (w : ℕ) (h : List Character) : Type 0 where
  pub valid : Valid h
  pub inner : AllOf Inner (bytes_of h)
  pub single : t ≡ true → Single (in_head w) wide h

abbrev pub WordOk : Bool → ℕ → Word → Type 0
WordOk t w v = PieceOk t w v.body

-- a word and the next: whitespace between them
abbrev pub Spaced : Word → Word → Type 0
Spaced u v = (0 < u.space) × (is_nil (bytes_of v.body) ≡ false)

-- or wider together than the width
abbrev pub Apart : ℕ → Word → Word → Type 0
Apart w u v = ((0 < u.space) ⊎ (w < width_of u.body + width_of v.body)) × (is_nil (bytes_of v.body) ≡ false)

is_nil-append : (x y : List ℕ) → is_nil x ≡ false → is_nil (x ++ y) ≡ false
is_nil-append [] y h = absurd (false≢true (sym h))
is_nil-append (b ∷ x) y h = refl

read_solid : (c : Character) (r : List ℕ) → Read c r → is_nil c.text ≡ false
read_solid c r R = ap is_nil R.text

-- ── heads
abbrev HeadsApart : ℕ → ℕ → List (List Character) → Type 0
HeadsApart w x [] = Unit {0}
HeadsApart w x (g ∷ gs) = (w < x + width_of g) × (is_nil (bytes_of g) ≡ false) × HeadsApart w (width_of g) gs

heads_apart : (w : ℕ) {run : ℕ} {cs g : List Character} {gs : List (List Character)} → Grouped (in_head w) wide run cs (g ∷ gs) → AllOf (λ (c : Character). is_nil c.text ≡ false) cs
    → (x : ℕ) → x ≡ run + width_of g → HeadsApart w x gs
heads_apart w end h x e = tt
heads_apart w (join {run = run} {a = a} {g = g} j d) h x e = heads_apart w d h.1 x (omega arith)
heads_apart w (new {run = run} {a = a} {g = g} j d) h x e =
    (omega (arith, leb-false (run + wide a) w (or_right (eqb (wide a) 0) (leb (run + wide a) w) j)), is_nil-append a.text (bytes_of g) h.0, heads_apart w d h.1 (wide a + width_of g) refl)

-- the heads of a body, which has a first
valid_solid : (cs : List Character) → Valid cs → AllOf (λ (c : Character). is_nil c.text ≡ false) cs
valid_solid [] h = tt
valid_solid (c ∷ cs) h = (read_solid c (bytes_of cs) h.0, valid_solid cs h.1)

abbrev HeadsOk : ℕ → Bool → List (List Character) → Type 0
HeadsOk w t [] = ⊥
HeadsOk w t (h ∷ hs) = HeadsApart w (width_of h) hs × (t ≡ false → is_nil (bytes_of h) ≡ false)

heads-cons : (w : ℕ) (c : Character) (cs : List Character) (gs : List (List Character)) → Grouped (in_head w) wide (wide c) cs gs
    → AllOf (λ (c : Character). is_nil c.text ≡ false) (c ∷ cs) → (t : Bool)
    → HeadsOk w t (onto_first c gs)
heads-cons w c cs (g ∷ gs) d h t = (heads_apart w d h.1 (wide c + width_of g) refl, λ e. is_nil-append c.text (bytes_of g) h.0)
heads-cons w c cs [] d h t = elim d [ ]

heads_ok : (w : ℕ) (cs : List Character) → Valid cs → HeadsOk w (is_nil (bytes_of cs)) (groups (in_head w) wide cs)
heads_ok w [] h = (tt, λ e. absurd (false≢true (sym e)))
heads_ok w (c ∷ cs) h = heads-cons w c cs (groups_from (in_head w) wide (wide c) cs) (grouped (in_head w) wide (wide c) cs) (valid_solid (c ∷ cs) h) (is_nil (bytes_of (c ∷ cs)))

-- ── a broken word in front of the words after it
abbrev FirstOk : List Word → Type 0
FirstOk [] = Unit {0}
FirstOk (v ∷ vs) = is_nil (bytes_of v.body) ≡ false

abbrev GapOk : ℕ → List Word → Type 0
GapOk n [] = Unit {0}
GapOk n (v ∷ vs) = 0 < n

chain_heads : (w n : ℕ) (h : List Character) (hs : List (List Character)) (rest : List Word) → HeadsApart w (width_of h) hs → Chain (Apart w) rest → FirstOk rest → GapOk n rest
    → Chain (Apart w) (heads_as_words n (h ∷ hs) ++ rest)
chain_heads w n h [] [] a c f g = tt
chain_heads w n h [] (v ∷ vs) a c f g = ((inl g, f), c)
chain_heads w n h (k ∷ []) rest a c f g = ((inr a.0, a.1), chain_heads w n k [] rest tt c f g)
chain_heads w n h (k ∷ l ∷ ls) rest a c f g = ((inr a.0, a.1), chain_heads w n k (l ∷ ls) rest a.2 c f g)

first_heads : (n : ℕ) (h : List Character) (hs : List (List Character)) (rest : List Word) → is_nil (bytes_of h) ≡ false → FirstOk (heads_as_words n (h ∷ hs) ++ rest)
first_heads n h [] rest e = e
first_heads n h (k ∷ ks) rest e = e

chain_broken : (w n : ℕ) (t : Bool) (hs : List (List Character)) (rest : List Word) → HeadsOk w t hs → Chain (Apart w) rest → FirstOk rest → GapOk n rest
    → Chain (Apart w) (heads_as_words n hs ++ rest) × (t ≡ false → FirstOk (heads_as_words n hs ++ rest))
chain_broken w n t (h ∷ hs) rest o c f g = (chain_heads w n h hs rest o.0 c f g, λ e. first_heads n h hs rest (o.1 e))
chain_broken w n t [] rest o c f g = elim o [ ]

gap_first : (v : Word) (vs : List Word) (rest : List Word) → ChainFrom Spaced v vs → (vs ≡ [] → rest ≡ []) → GapOk v.space rest
gap_first v [] rest c e = rw (e refl) tt
gap_first v (u ∷ us) [] c e = tt
gap_first v (u ∷ us) (x ∷ rest) c e = c.0.0

chain_broken_all : (w : ℕ) (v : Word) (vs : List Word) → Valid v.body → AllOf (λ (u : Word). Valid u.body) vs → ChainFrom Spaced v vs
    → Chain (Apart w) (split_words w (v ∷ vs)) × (is_nil (bytes_of v.body) ≡ false → FirstOk (split_words w (v ∷ vs)))
chain_broken_all w v [] o os c =
    chain_broken w v.space (is_nil (bytes_of v.body)) (groups (in_head w) wide v.body) [] (heads_ok w v.body o) tt tt tt
chain_broken_all w v (u ∷ us) o os c =
    let ih = chain_broken_all w u us os.0 os.1 c.1 in
    chain_broken w v.space (is_nil (bytes_of v.body)) (groups (in_head w) wide v.body) (split_words w (u ∷ us)) (heads_ok w v.body o) ih.0 (ih.1 c.0.1)
    (gap_first v (u ∷ us) (split_words w (u ∷ us)) c (λ e. absurd (no_nil e)))
  where
    no_nil : (u ∷ us) ≡ [] → ⊥
    no_nil e = let z : ◌≡◌ {A = ℕ} 0 1 = cc in omega arith

chain_weak : (w : ℕ) (v : Word) (vs : List Word) → ChainFrom Spaced v vs → ChainFrom (Apart w) v vs
chain_weak w v [] c = tt
chain_weak w v (u ∷ us) c = ((inl c.0.0, c.0.1), chain_weak w u us c.1)

-- ── the words of a line
words_valid : (rs : List ByteWord) → AllOf (λ (u : Word). Valid u.body) (words_of rs)
words_valid [] = tt
words_valid (r ∷ rs) = (valid-chars r.text, words_valid rs)

words_spaced : (r : ByteWord) (rs : List ByteWord) → ChainFrom Next r rs → ChainFrom Spaced (word_of r) (words_of rs)
words_spaced r [] c = tt
words_spaced r (q ∷ rs) c = ((c.0.0, rw (bytes-chars q.text) c.0.1), words_spaced q rs c.1)

pub breaking_chain : (w : ℕ) (b : Bool) (rs : List ByteWord) → Chain Next rs → Chain (Apart w) (split_words_at_width w b (words_of rs))
unfolding split_words_at_width
breaking_chain w b [] c = go (b && ltb 0 w)
  where
    go : (t : Bool) → Chain (Apart w) (cond t (split_words w []) [])
    go true = tt
    go false = tt
breaking_chain w b (r ∷ rs) c = go (b && ltb 0 w)
  where
    go : (t : Bool) → Chain (Apart w) (cond t (split_words w (words_of (r ∷ rs))) (words_of (r ∷ rs)))
    go true = (chain_broken_all w (word_of r) (words_of rs) (valid-chars r.text) (words_valid rs) (words_spaced r rs c)).0
    go false = chain_weak w (word_of r) (words_of rs) (words_spaced r rs c)

-- each piece is as it should be
heads-pieces : (w : ℕ) (hs : List (List Character)) → Valid (concat hs) → AllOf Inner (bytes_of (concat hs)) → AllOf (Single (in_head w) wide) hs → AllOf (PieceOk true w) hs
heads-pieces w [] v i s = tt
heads-pieces w (h ∷ hs) v i s =
    let j : AllOf Inner (bytes_of h ++ bytes_of (concat hs)) = rw (bytes-append h (concat hs)) at i in (
      record { valid = valid_prefix h (concat hs) v; inner = all_left Inner (bytes_of h) (bytes_of (concat hs)) j; single = λ e. s.0 },
      heads-pieces w hs (valid_suffix h (concat hs) v) (all_right Inner (bytes_of h) (bytes_of (concat hs)) j) s.1,
    )

pieces_words : (t : Bool) (w n : ℕ) (hs : List (List Character)) → AllOf (PieceOk t w) hs → AllOf (WordOk t w) (heads_as_words n hs)
pieces_words t w n [] h = tt
pieces_words t w n (x ∷ []) h = (h.0, tt)
pieces_words t w n (x ∷ y ∷ ys) h = (h.0, pieces_words t w n (y ∷ ys) h.1)

broken_pieces : (w : ℕ) (rs : List ByteWord) → AllOf RunOk rs → AllOf (WordOk true w) (split_words w (words_of rs))
broken_pieces w [] h = tt
broken_pieces w (r ∷ rs) h =
    let cs : List Character = chars r.text in
    all_append (WordOk true w) (split_word w (word_of r)) (split_words w (words_of rs))
    (pieces_words true w r.gap (groups (in_head w) wide cs)
    (heads-pieces w (groups (in_head w) wide cs) (rw (groups-concat (in_head w) wide cs) (valid-chars r.text))
    (rw (groups-concat (in_head w) wide cs, bytes-chars r.text) h.0) (groups-single (in_head w) wide cs)))
    (broken_pieces w rs h.1)

whole_pieces : (w : ℕ) (rs : List ByteWord) → AllOf RunOk rs → AllOf (WordOk false w) (words_of rs)
whole_pieces w [] h = tt
whole_pieces w (r ∷ rs) h = (record { valid = valid-chars r.text; inner = rw (bytes-chars r.text) h.0; single = λ e. absurd (false≢true e) }, whole_pieces w rs h.1)

pub breaking_pieces : (w : ℕ) (b : Bool) (rs : List ByteWord) → AllOf RunOk rs → AllOf (WordOk (b && ltb 0 w) w) (split_words_at_width w b (words_of rs))
unfolding split_words_at_width
breaking_pieces w b rs h = go (b && ltb 0 w)
  where
    go : (t : Bool) → AllOf (WordOk t w) (cond t (split_words w (words_of rs)) (words_of rs))
    go true = broken_pieces w rs h
    go false = whole_pieces w rs h

-- ── on one line there is whitespace between the words
spaced_join : (w : ℕ) (u v : Word) (run : ℕ) → Apart w u v → width_of u.body ≤ run → fits_line w run v ≡ true → Spaced u v
spaced_join w u v run (inl s, n) h e = (s, n)
spaced_join w u v run (inr s, n) h e = absurd (omega (arith, leb-true (run + width_of v.body) w e))

fit_chain : (w : ℕ) {run : ℕ} {vs g : List Word} {gs : List (List Word)} → Grouped (fits_line w) full_width run vs (g ∷ gs) → (u : Word) → ChainFrom (Apart w) u vs → width_of u.body ≤ run
    → ChainFrom Spaced u g × AllOf (Chain Spaced) gs
fit_chain w end u c h = (tt, tt)
fit_chain w (join {run = run} {a = a} e d) u c h =
    let ih = fit_chain w d a c.1 (omega arith) in
    ((spaced_join w u a run c.0 h e, ih.0), ih.1)
fit_chain w (new {a = a} e d) u c h =
    let ih = fit_chain w d a c.1 (omega arith) in
    (tt, (ih.0, ih.1))

fit_cons : (w : ℕ) (v : Word) (vs : List Word) (gs : List (List Word)) → Grouped (fits_line w) full_width (full_width v) vs gs → ChainFrom (Apart w) v vs → AllOf (Chain Spaced) (onto_first v gs)
fit_cons w v vs (g ∷ gs) d c = fit_chain w d v c (omega arith)
fit_cons w v vs [] d c = elim d [ ]

pub fit_spaced : (w : ℕ) (vs : List Word) → Chain (Apart w) vs → AllOf (Chain Spaced) (first_fit_of w vs)
unfolding first_fit_of
fit_spaced w [] c = (tt, tt)
fit_spaced w (v ∷ vs) c = fit_cons w v vs (groups_from (fits_line w) full_width (full_width v) vs) (grouped (fits_line w) full_width (full_width v) vs) c
