-- The runs of a line: what they are, and that runs of that kind, put together, are read again.
use Prim.Native.Nat.{ℕ, zero, suc, ◌<◌}
use native.Mathlib.Omega.{arith}
use mathlib.Core.Bool.{Bool, true, false, cond, false≢true}
use mathlib.Core.Logic.{◌⊎◌, inl, inr}
use mathlib.Core.Path.{◌≡◌, refl, sym, ap, ◌∙◌}
use mathlib.Core.List.{List, [], ◌∷◌, ◌++◌}
use lib.Dec.{eqb}
use Rattle.recording.specs.Lists.{AllOf}
use Rattle.recording.specs.Recording.{is_nil}
use Rattle.layout.specs.Wrap.{onto_first, split_lines, ByteWord, byte_word, space_before, byte_before, byte_words}
use Rattle.layout.specs.Tabs.{spaces}
use Rattle.layout.proofs.WordLaws.{join_words}

-- each member and the next
abbrev pub ChainFrom : {A : Type 0} → (A → A → Type 0) → A → List A → Type 0
ChainFrom R a [] = Unit {0}
ChainFrom R a (b ∷ bs) = R a b × ChainFrom R b bs

abbrev pub Chain : {A : Type 0} → (A → A → Type 0) → List A → Type 0
Chain R [] = Unit {0}
Chain R (a ∷ as') = ChainFrom R a as'

pub chain_first : {A : Type 0} (R : A → A → Type 0) (u u' : A) (vs : List A) → ((v : A) → R u v → R u' v) → ChainFrom R u vs → ChainFrom R u' vs
chain_first R u u' [] f h = tt
chain_first R u u' (v ∷ vs) f h = (f v h.0, h.1)

abbrev pub NoNewline : ℕ → Type 0
NoNewline b = eqb b 0x0A ≡ false

-- neither 20 nor 0A
abbrev pub Inner : ℕ → Type 0
Inner b = (eqb b 0x20 ≡ false) × (eqb b 0x0A ≡ false)

abbrev pub RunOk : ByteWord → Type 0
RunOk r = AllOf Inner r.text

abbrev pub Next : ByteWord → ByteWord → Type 0
Next u v = (0 < u.gap) × (is_nil v.text ≡ false)

-- ── the lines have no 0A
lines_onto : (b : ℕ) (ls : List (List ℕ)) → NoNewline b → AllOf (AllOf NoNewline) ls → AllOf (AllOf NoNewline) (onto_first b ls)
lines_onto b [] e h = ((e, tt), tt)
lines_onto b (l ∷ ls) e h = ((e, h.0), h.1)

pub lines_none : (d : List ℕ) → AllOf (AllOf NoNewline) (split_lines d)
lines_none [] = (tt, tt)
lines_none (b ∷ d) = go (eqb b 0x0A) refl (lines_none d)
  where
    go : (t : Bool) → eqb b 0x0A ≡ t → AllOf (AllOf NoNewline) (split_lines d) → AllOf (AllOf NoNewline) (cond t ([] ∷ split_lines d) (onto_first b (split_lines d)))
    go true e h = (tt, h)
    go false e h = lines_onto b (split_lines d) e h

-- ── the runs of a line
space_ok : (rs : List ByteWord) → AllOf RunOk rs → AllOf RunOk (space_before rs)
space_ok [] h = (tt, tt)
space_ok (w ∷ ws) h = go (is_nil w.text)
  where
    go : (t : Bool) → AllOf RunOk (cond t (byte_word [] (suc w.gap) ∷ ws) (byte_word [] 1 ∷ w ∷ ws))
    go true = (tt, h.1)
    go false = (tt, h)

byte_ok : (b : ℕ) (rs : List ByteWord) → Inner b → AllOf RunOk rs → AllOf RunOk (byte_before b rs)
byte_ok b [] i h = ((i, tt), tt)
byte_ok b (w ∷ ws) i h = ((i, h.0), h.1)

pub runs_ok : (l : List ℕ) → AllOf NoNewline l → AllOf RunOk (byte_words l)
runs_ok [] h = tt
runs_ok (b ∷ l) h = go (eqb b 0x20) refl (runs_ok l h.1)
  where
    go : (t : Bool) → eqb b 0x20 ≡ t → AllOf RunOk (byte_words l) → AllOf RunOk (cond t (space_before (byte_words l)) (byte_before b (byte_words l)))
    go true e g = space_ok (byte_words l) g
    go false e g = byte_ok b (byte_words l) (e, h.0) g

space_chain : (rs : List ByteWord) → Chain Next rs → Chain Next (space_before rs)
space_chain [] h = tt
space_chain (w ∷ ws) h = go (is_nil w.text) refl
  where
    go : (t : Bool) → is_nil w.text ≡ t → Chain Next (cond t (byte_word [] (suc w.gap) ∷ ws) (byte_word [] 1 ∷ w ∷ ws))
    go true e = chain_first Next w (byte_word [] (suc w.gap)) ws (λ v k. (omega arith, k.1)) h
    go false e = ((omega arith, e), h)

byte_chain : (b : ℕ) (rs : List ByteWord) → Chain Next rs → Chain Next (byte_before b rs)
byte_chain b [] h = tt
byte_chain b (w ∷ ws) h = chain_first Next w (byte_word (b ∷ w.text) w.gap) ws (λ v k. k) h

pub runs_chain : (l : List ℕ) → Chain Next (byte_words l)
runs_chain [] = tt
runs_chain (b ∷ l) = go (eqb b 0x20) (runs_chain l)
  where
    go : (t : Bool) → Chain Next (byte_words l) → Chain Next (cond t (space_before (byte_words l)) (byte_before b (byte_words l)))
    go true g = space_chain (byte_words l) g
    go false g = byte_chain b (byte_words l) g

-- ── read again
abbrev add_gap : ℕ → List ByteWord → List ByteWord
add_gap zero rs = rs
add_gap (suc n) rs = byte_word [] (suc n) ∷ rs

abbrev pub FirstText : List ByteWord → Type 0
FirstText [] = Unit {0}
FirstText (r ∷ rs) = is_nil r.text ≡ false

one_space : (n : ℕ) (rs : List ByteWord) → FirstText rs → space_before (add_gap n rs) ≡ add_gap (suc n) rs
one_space zero [] h = refl
one_space zero (r ∷ rs) h = rw h
one_space (suc n) rs h = refl

runs_spaces : (n : ℕ) (y : List ℕ) → FirstText (byte_words y) → byte_words (spaces n ++ y) ≡ add_gap n (byte_words y)
runs_spaces zero y h = refl
runs_spaces (suc n) y h = ap space_before (runs_spaces n y h) ∙ one_space n (byte_words y) h

abbrev add_text : List ℕ → List ByteWord → List ByteWord
add_text [] rs = rs
add_text (b ∷ t) rs = byte_before b (add_text t rs)

runs_text : (t z : List ℕ) → AllOf Inner t → byte_words (t ++ z) ≡ add_text t (byte_words z)
runs_text [] z h = refl
runs_text (b ∷ t) z h = rw h.0.0 (ap (λ (l : List ByteWord). byte_before b l) (runs_text t z h.1))

add_some : (t : List ℕ) (n : ℕ) (rs : List ByteWord) → add_text t (byte_word [] n ∷ rs) ≡ byte_word t n ∷ rs
add_some [] n rs = refl
add_some (b ∷ t) n rs = ap (λ (l : List ByteWord). byte_before b l) (add_some t n rs)

add_none : (b : ℕ) (t : List ℕ) → add_text (b ∷ t) [] ≡ byte_word (b ∷ t) 0 ∷ []
add_none b [] = refl
add_none b (x ∷ t) = ap (λ (l : List ByteWord). byte_before b l) (add_none x t)

-- a run that is not void
abbrev pub Solid : ByteWord → Type 0
Solid r = (is_nil r.text ≡ false) ⊎ (0 < r.gap)

add-run : (t : List ℕ) (n : ℕ) (rs : List ByteWord) → ChainFrom Next (byte_word t n) rs → Solid (byte_word t n) → add_text t (add_gap n rs) ≡ byte_word t n ∷ rs
add-run t (suc n) rs c s = add_some t (suc n) rs
add-run t zero (r ∷ rs) c s = absurd (omega (arith, c.0.0))
add-run [] zero [] c (inl e) = absurd (false≢true (sym e))
add-run [] zero [] c (inr e) = absurd (omega arith)
add-run (b ∷ t) zero [] c s = add_none b t

first_text : (r : ByteWord) (rs : List ByteWord) → ChainFrom Next r rs → FirstText rs
first_text r [] c = tt
first_text r (q ∷ rs) c = c.0.1

runs_step : (r : ByteWord) (rs : List ByteWord) → byte_words (join_words rs) ≡ rs → RunOk r → ChainFrom Next r rs → Solid r → byte_words (join_words (r ∷ rs)) ≡ r ∷ rs
runs_step r rs h o c s =
    runs_text r.text (spaces r.gap ++ join_words rs) o
    ∙ ap (λ (l : List ByteWord). add_text r.text l) (runs_spaces r.gap (join_words rs) (rw h (first_text r rs c)) ∙ ap (λ (l : List ByteWord). add_gap r.gap l) h)
    ∙ add-run r.text r.gap rs c s

pub runs_unrun : (r : ByteWord) (rs : List ByteWord) → AllOf RunOk (r ∷ rs) → ChainFrom Next r rs → Solid r → byte_words (join_words (r ∷ rs)) ≡ r ∷ rs
runs_unrun r [] o c s = runs_step r [] refl o.0 c s
runs_unrun r (q ∷ rs) o c s = runs_step r (q ∷ rs) (runs_unrun q rs o.1 c.1 (inl c.0.1)) o.0 c s

-- the first word of a line, as the document says it: t runs to the next 20, n bytes 20 come after it, and y does not begin with one
pub runs_word : (t : List ℕ) (n : ℕ) (y : List ℕ) → AllOf Inner t → FirstText (byte_words y) → ((0 < n) ⊎ ((y ≡ []) × (is_nil t ≡ false))) → byte_words (t ++ (spaces n ++ y)) ≡ byte_word t n ∷ byte_words y
runs_word t zero y h f (inl z) = absurd (omega arith)
runs_word t (suc n) y h f (inl z) = runs_text t (spaces (suc n) ++ y) h ∙ ap (λ (l : List ByteWord). add_text t l) (runs_spaces (suc n) y f) ∙ add_some t (suc n) (byte_words y)
runs_word t (suc n) y h f (inr z) = runs_text t (spaces (suc n) ++ y) h ∙ ap (λ (l : List ByteWord). add_text t l) (runs_spaces (suc n) y f) ∙ add_some t (suc n) (byte_words y)
runs_word [] zero y h f (inr z) = absurd (false≢true (sym z.1))
runs_word (b ∷ t) zero y h f (inr z) = rw z.0 (runs_text (b ∷ t) [] h ∙ add_none b t)
