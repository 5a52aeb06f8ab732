-- The words of a line, their whitespace included, are the line, before and after breaking and fitting. So the lines of a wrap are in order.
use Prim.Native.Nat.{ℕ, zero, suc, ◌+◌, ◌≤◌, ◌<◌}
use native.Mathlib.Omega.{arith}
use mathlib.Core.Bool.{Bool, true, false, cond, ◌&&◌}
use mathlib.Core.Path.{◌≡◌, refl, sym, ap, ◌∙◌}
use mathlib.Core.List.{List, [], ◌∷◌, ◌++◌, append-nil, append_assoc}
use lib.Dec.{ltb, eqb}
use lib.ListN.{length, length-append}
use borrow.Author.Tests.{eqb-true}
use Rattle.chars.specs.Chars.{Character, bytes_of, wide}
use Rattle.chars.proofs.CharsLaws.{bytes-chars, bytes-append}
use Rattle.chars.proofs.SeamLaws.{blank}
use Rattle.recording.specs.Recording.{is_nil}
use Rattle.layout.specs.Wrap.{groups, split_lines, Word, ByteWord, byte_word, space_before, byte_before, byte_words, words_of, in_head, heads_as_words, split_word}
use Rattle.layout.specs.Wrap.{split_words, split_words_at_width, fits_line, full_width, first_fit_of, Line, shown_len, whole_len, group_lines, wrapped_line, lines_from, wrap_lines_of}
use Rattle.layout.specs.Tabs.{spaces}
use Rattle.layout.proofs.GroupLaws.{concat, groups-concat, groups_some}
use Rattle.layout.proofs.LineLaws.{some_lines}
use Rattle.layout.proofs.StepLaws.{Ordered}

pub length-spaces : (n : ℕ) → length (spaces n) ≡ n
length-spaces zero = refl
length-spaces (suc n) = ap suc (length-spaces n)

-- the runs of a line
abbrev pub join_words : List ByteWord → List ℕ
join_words [] = []
join_words (r ∷ rs) = r.text ++ (spaces r.gap ++ join_words rs)

unrun_space : (rs : List ByteWord) → join_words (space_before rs) ≡ 0x20 ∷ join_words rs
unrun_space [] = refl
unrun_space (w ∷ ws) = go w.text refl
  where
    go : (t : List ℕ) → w.text ≡ t → join_words (cond (is_nil w.text) (byte_word [] (suc w.gap) ∷ ws) (byte_word [] 1 ∷ w ∷ ws)) ≡ 0x20 ∷ (w.text ++ (spaces w.gap ++ join_words ws))
    go [] e = rw e
    go (b ∷ t) e = rw e

unrun_byte : (b : ℕ) (rs : List ByteWord) → join_words (byte_before b rs) ≡ b ∷ join_words rs
unrun_byte b [] = refl
unrun_byte b (w ∷ ws) = refl

pub unrun_runs : (l : List ℕ) → join_words (byte_words l) ≡ l
unrun_runs [] = refl
unrun_runs (b ∷ l) = go (eqb b 0x20) refl (unrun_runs l)
  where
    go : (t : Bool) → eqb b 0x20 ≡ t → join_words (byte_words l) ≡ l → join_words (cond t (space_before (byte_words l)) (byte_before b (byte_words l))) ≡ b ∷ l
    go true e h = unrun_space (byte_words l) ∙ rw (h, eqb-true b 0x20 e)
    go false e h = unrun_byte b (byte_words l) ∙ rw h

-- the words of a line: their bytes, and their characters
abbrev pub full : List Word → List ℕ
full [] = []
full (v ∷ vs) = bytes_of v.body ++ (spaces v.space ++ full vs)

abbrev pub blanks : ℕ → List Character
blanks zero = []
blanks (suc n) = blank ∷ blanks n

abbrev pub flat : List Word → List Character
flat [] = []
flat (v ∷ vs) = v.body ++ (blanks v.space ++ flat vs)

bytes_blanks : (n : ℕ) → bytes_of (blanks n) ≡ spaces n
bytes_blanks zero = refl
bytes_blanks (suc n) = ap (λ (r : List ℕ). 0x20 ∷ r) (bytes_blanks n)

pub bytes_flat : (vs : List Word) → bytes_of (flat vs) ≡ full vs
bytes_flat [] = refl
bytes_flat (v ∷ vs) =
    rw (bytes-append v.body (blanks v.space ++ flat vs), bytes-append (blanks v.space) (flat vs), bytes_blanks v.space, bytes_flat vs)

pub full_runs : (rs : List ByteWord) → full (words_of rs) ≡ join_words rs
full_runs [] = refl
full_runs (r ∷ rs) = rw (bytes-chars r.text, full_runs rs)

pub flat_append : (us vs : List Word) → flat (us ++ vs) ≡ flat us ++ flat vs
flat_append [] vs = refl
flat_append (u ∷ us) vs =
    rw (flat_append us vs, append_assoc u.body (blanks u.space ++ flat us) (flat vs), append_assoc (blanks u.space) (flat us) (flat vs))

pub full_append : (us vs : List Word) → full (us ++ vs) ≡ full us ++ full vs
full_append us vs = rw (← bytes_flat (us ++ vs), ← bytes_flat us, ← bytes_flat vs, flat_append us vs) (bytes-append (flat us) (flat vs))

flat_heads : (n : ℕ) (hs : List (List Character)) → 0 < length hs → flat (heads_as_words n hs) ≡ concat hs ++ blanks n
flat_heads n [] z = absurd (omega arith)
flat_heads n (h ∷ []) z = rw (append-nil (blanks n), append-nil h)
flat_heads n (h ∷ g ∷ gs) z = rw (flat_heads n (g ∷ gs) (omega arith), append_assoc h (concat (g ∷ gs)) (blanks n))

flat_broken : (w : ℕ) (v : Word) → flat (split_word w v) ≡ v.body ++ blanks v.space
flat_broken w v =
    flat_heads v.space (groups (in_head w) wide v.body) (groups_some (in_head w) wide v.body)
    ∙ rw (groups-concat (in_head w) wide v.body)

flat_broken_all : (w : ℕ) (vs : List Word) → flat (split_words w vs) ≡ flat vs
flat_broken_all w [] = refl
flat_broken_all w (v ∷ vs) =
    rw (flat_append (split_word w v) (split_words w vs), flat_broken w v, flat_broken_all w vs) (append_assoc v.body (blanks v.space) (flat vs))

pub flat_breaking : (w : ℕ) (b : Bool) (vs : List Word) → flat (split_words_at_width w b vs) ≡ flat vs
unfolding split_words_at_width
flat_breaking w b vs = go (b && ltb 0 w)
  where
    go : (t : Bool) → flat (cond t (split_words w vs) vs) ≡ flat vs
    go true = flat_broken_all w vs
    go false = refl

-- breaking and fitting
pub flat_fitted : (w : ℕ) (b : Bool) (vs : List Word) → flat (concat (first_fit_of w (split_words_at_width w b vs))) ≡ flat vs
unfolding first_fit_of
flat_fitted w b vs = rw (groups-concat (fits_line w) full_width (split_words_at_width w b vs)) (flat_breaking w b vs)

pub full_fitted : (w : ℕ) (b : Bool) (l : List ℕ) → full (concat (wrapped_line w b l)) ≡ l
unfolding wrapped_line
full_fitted w b l =
    let vs : List Word = words_of (byte_words l) in
    sym (bytes_flat (concat (first_fit_of w (split_words_at_width w b vs)))) ∙ ap bytes_of (flat_fitted w b vs) ∙ bytes_flat vs ∙ full_runs (byte_words l) ∙ unrun_runs l

-- ── lengths
pub length_full : (vs : List Word) → length (full vs) ≡ whole_len vs
length_full [] = refl
length_full (v ∷ vs) =
    rw (length-append (bytes_of v.body) (spaces v.space ++ full vs), length-append (spaces v.space) (full vs), length-spaces v.space, length_full vs) (omega arith)

pub shown_whole : (g : List Word) → shown_len g ≤ whole_len g
shown_whole [] = omega arith
shown_whole (v ∷ []) = omega arith
shown_whole (v ∷ u ∷ us) = omega (arith, shown_whole (u ∷ us))

abbrev pub wholes : List (List Word) → ℕ
wholes [] = 0
wholes (g ∷ gs) = whole_len g + wholes gs

whole_append : (us vs : List Word) → whole_len (us ++ vs) ≡ whole_len us + whole_len vs
whole_append [] vs = omega arith
whole_append (u ∷ us) vs = omega (arith, whole_append us vs)

whole_concat : (gs : List (List Word)) → whole_len (concat gs) ≡ wholes gs
whole_concat [] = refl
whole_concat (g ∷ gs) = whole_append g (concat gs) ∙ rw (whole_concat gs)

pub wholes_fitted : (w : ℕ) (b : Bool) (l : List ℕ) → wholes (wrapped_line w b l) ≡ length l
wholes_fitted w b l = sym (whole_concat (wrapped_line w b l)) ∙ sym (length_full (concat (wrapped_line w b l))) ∙ ap length (full_fitted w b l)

-- ── the lines are in order
ordered_spans : (gs : List (List Word)) (at from : ℕ) (rest : List Line) → from ≤ at → ((e : ℕ) → e ≤ at + wholes gs → Ordered e rest) → Ordered from (group_lines at gs ++ rest)
ordered_spans [] at from rest h f = f from (omega arith)
ordered_spans (g ∷ gs) at from rest h f =
    (h, omega arith, ordered_spans gs (at + whole_len g) (at + shown_len g) rest (omega (arith, shown_whole g)) (λ e k. f e (omega arith)))

ordered_all : (w : ℕ) (b : Bool) (ls : List (List ℕ)) (at from : ℕ) → from ≤ at → Ordered from (lines_from w b at ls)
ordered_all w b [] at from h = tt
ordered_all w b (l ∷ ls) at from h =
    ordered_spans (wrapped_line w b l) at from (lines_from w b (suc (at + length l)) ls) h (λ e k. ordered_all w b ls (suc (at + length l)) e (omega (arith, wholes_fitted w b l)))

pub some_spans : (at : ℕ) (gs : List (List Word)) → length (group_lines at gs) ≡ length gs
some_spans at [] = refl
some_spans at (g ∷ gs) = ap suc (some_spans (at + whole_len g) gs)

pub some_all : (w : ℕ) (b : Bool) (at : ℕ) (ls : List (List ℕ)) → 0 < length ls → 0 < length (lines_from w b at ls)
unfolding wrapped_line first_fit_of
some_all w b at [] h = h
some_all w b at (l ∷ ls) h =
    omega (
      arith,
      length-append (group_lines at (wrapped_line w b l)) (lines_from w b (suc (at + length l)) ls),
      some_spans at (wrapped_line w b l),
      groups_some (fits_line w) full_width
          (split_words_at_width w b (words_of (byte_words l))),
    )

pub wrap_ordered : (w : ℕ) (b : Bool) (d : List ℕ) → Ordered 0 (wrap_lines_of w b d) × (0 < length (wrap_lines_of w b d))
unfolding wrap_lines_of
wrap_ordered w b d = (ordered_all w b (split_lines d) 0 0 (omega arith), some_all w b 0 (split_lines d) (some_lines d))
