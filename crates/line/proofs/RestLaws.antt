-- The lines from a place on: where they start, one head further, a new line, the end of a line of the data.
-- The idea: first fit is a walk over the words with a line under way (`placed`), and its groups, laid out, are that walk.
use Prim.Native.Nat.{ℕ, suc, ◌+◌, ◌*◌, ◌≤◌, ◌<◌}
use native.Mathlib.Omega.{arith}
use mathlib.Core.Bool.{Bool, true, false, cond, ◌&&◌, ◌||◌}
use mathlib.Core.Path.{◌≡◌, refl, sym, ap, ◌∙◌}
use mathlib.Core.List.{List, [], ◌∷◌, ◌++◌, append-nil, append_assoc}
use lib.Dec.{leb, ltb, eqb}
use lib.ListN.{length, drop, length-append, length-drop}
use Rattle.chars.specs.Chars.{Character, chars, bytes_of, width_of}
use Rattle.chars.proofs.CharsLaws.{bytes-chars, bytes-append, Valid, valid-chars, valid_prefix, width_bound}
use Rattle.layout.specs.Wrap.{onto_first, groups_from, groups, split_lines, Word, ByteWord, byte_words, words_of, split_words, split_words_at_width, fits_line, full_width, first_fit_of, Line}
use Rattle.layout.specs.Wrap.{line_of, word_len, shown_len, whole_len, group_lines, wrapped_line, lines_from, wrap_lines_of}
use Rattle.layout.proofs.GroupLaws.{from_join, from_new}
use Rattle.layout.specs.Tabs.{spaces}
use Rattle.layout.proofs.WordLaws.{length-spaces, join_words, unrun_runs}
use Rattle.layout.proofs.WordingLaws.{narrow}
use Rattle.line.specs.Rest.{rest_lines, line_text, later_lines, ends_word, word_text, space_len, head_of, unreached, limit_of_line, placed, going, first_head_of, head_len, head_width}
use Rattle.line.proofs.HeadLaws.{lines_split, text_none, text_drop, later_drop, text_le, word_line, space_line, space-le, after_head, head_split, head_some, bytes_some, Goes, heads_next}

-- at the start of the data they are the lines of the document
pub rest_all : (w : ℕ) (b : Bool) (d : List ℕ) → rest_lines w b 0 d ≡ wrap_lines_of w b d
unfolding rest_lines wrap_lines_of
rest_all w b d = refl

-- ── first fit as a walk
abbrev onto : List Word → List (List Word) → List (List Word)
onto us [] = us ∷ []
onto us (g ∷ gs) = (us ++ g) ∷ gs

onto_more : (us : List Word) (v : Word) (gs : List (List Word)) → onto us (onto_first v gs) ≡ onto (us ++ (v ∷ [])) gs
onto_more us v [] = refl
onto_more us v (g ∷ gs) = ap (λ (l : List Word). l ∷ gs) (sym (append_assoc us (v ∷ []) g))

onto_one : (v : Word) (gs : List (List Word)) → onto_first v gs ≡ onto (v ∷ []) gs
onto_one v [] = refl
onto_one v (g ∷ gs) = refl

shown_more : (us : List Word) (v : Word) → shown_len (us ++ (v ∷ [])) ≡ whole_len us + word_len v
shown_more [] v = omega arith
shown_more (u ∷ []) v = omega arith
shown_more (u ∷ t ∷ us) v = omega (arith, shown_more (t ∷ us) v)

whole_more : (us : List Word) (v : Word) → whole_len (us ++ (v ∷ [])) ≡ whole_len us + (word_len v + v.space)
whole_more [] v = omega arith
whole_more (u ∷ us) v = omega (arith, whole_more us v)

placed_at : (w : ℕ) (at end end' here here' run : ℕ) (vs : List Word) → end ≡ end' → here ≡ here' → placed w false at end here run vs ≡ placed w false at end' here' run vs
placed_at w at end end' here here' run vs p q = rw (p, q)

pub placed_join : (w : ℕ) (first : Bool) (at end here run : ℕ) (v : Word) (vs : List Word) → (first || fits_line w run v) ≡ true
    → placed w first at end here run (v ∷ vs) ≡ placed w false at (here + word_len v) (here + word_len v + v.space) (run + full_width v) vs
unfolding placed
placed_join w first at end here run v vs e = rw (e, placed)

pub placed_new : (w : ℕ) (first : Bool) (at end here run : ℕ) (v : Word) (vs : List Word) → (first || fits_line w run v) ≡ false
    → placed w first at end here run (v ∷ vs) ≡ line_of at end ∷ placed w false here (here + word_len v) (here + word_len v + v.space) (full_width v) vs
unfolding placed
placed_new w first at end here run v vs e = rw (e, placed)

placed_spans : (w : ℕ) (vs us : List Word) (at run : ℕ) → group_lines at (onto us (groups_from (fits_line w) full_width run vs)) ≡ placed w false at (at + shown_len us) (at + whole_len us) run vs
unfolding placed
placed_spans w [] us at run = rw (append-nil us)
placed_spans w (v ∷ vs) us at run = go (fits_line w run v) refl (placed_spans w vs (us ++ (v ∷ [])) at (run + full_width v)) (placed_spans w vs (v ∷ []) (at + whole_len us) (full_width v))
  where
    go : (t : Bool) → fits_line w run v ≡ t
        → group_lines at (onto (us ++ (v ∷ [])) (groups_from (fits_line w) full_width (run + full_width v) vs)) ≡ placed w false at (at + shown_len (us ++ (v ∷ [])))
        (at + whole_len (us ++ (v ∷ []))) (run + full_width v) vs
        → group_lines (at + whole_len us) (onto (v ∷ []) (groups_from (fits_line w) full_width (full_width v) vs)) ≡ placed w false (at + whole_len us)
        ((at + whole_len us) + shown_len (v ∷ [])) ((at + whole_len us) + whole_len (v ∷ [])) (full_width v) vs
        → group_lines at (onto us (groups_from (fits_line w) full_width run (v ∷ vs))) ≡ placed w false at (at + shown_len us) (at + whole_len us) run (v ∷ vs)
    go true e h k =
        rw (
          from_join (fits_line w) full_width run v vs e,
          onto_more us v (groups_from (fits_line w) full_width (run + full_width v) vs),
          placed_join w false at (at + shown_len us)
              (at + whole_len us) run v vs e,
        )
        (h ∙ placed_at w at (at + shown_len (us ++ (v ∷ []))) (at + whole_len us + word_len v) (at + whole_len (us ++ (v ∷ []))) (at + whole_len us + word_len v + v.space)
        (run + full_width v) vs (omega (arith, shown_more us v)) (omega (arith, whole_more us v)))
    go false e h k =
        rw (
          from_new (fits_line w) full_width run v vs e,
          placed_new w false at (at + shown_len us) (at + whole_len us) run v vs e,
          append-nil us,
          onto_one v
              (groups_from (fits_line w) full_width (full_width v) vs),
        )
        (ap (λ (l : List Line). line_of at (at + shown_len us) ∷ l)
        (k ∙ placed_at w (at + whole_len us) ((at + whole_len us) + shown_len (v ∷ [])) (at + whole_len us + word_len v) ((at + whole_len us) + whole_len (v ∷ []))
        (at + whole_len us + word_len v + v.space) (full_width v) vs (omega arith) (omega arith)))

placed_first : (w : ℕ) (vs : List Word) (at : ℕ) → group_lines at (groups (fits_line w) full_width vs) ≡ placed w true at at at 0 vs
unfolding placed
placed_first w [] at = let e : at + 0 ≡ at = omega arith in rw e
placed_first w (v ∷ vs) at =
    let z : 0 + full_width v ≡ full_width v = omega arith in
    rw (onto_one v (groups_from (fits_line w) full_width (full_width v) vs), z)
    (placed_spans w vs (v ∷ []) at (full_width v) ∙ placed_at w at (at + shown_len (v ∷ [])) (at + word_len v) (at + whole_len (v ∷ [])) (at + word_len v + v.space) (full_width v) vs
    (omega arith) (omega arith))

-- where a line may start
pub rest_start : (w : ℕ) (b : Bool) (at : ℕ) (d : List ℕ) → rest_lines w b at d ≡ going w b true at at at 0 d
unfolding rest_lines going wrapped_line first_fit_of
rest_start w b at d = rw (lines_split d) (ap (λ (l : List Line). l ++ lines_from w b (suc (at + length (line_text d))) (later_lines d))
    (placed_first w (split_words_at_width w b (words_of (byte_words (line_text d)))) at))

-- the end of the data, and the end of a line of the data
pub going_last : (w : ℕ) (b first : Bool) (at end here run : ℕ) → going w b first at end here run [] ≡ line_of at end ∷ []
unfolding going placed line_text later_lines split_words_at_width
going_last w b first at end here run = go (b && ltb 0 w)
  where
    go : (t : Bool) → placed w first at end here run (cond t [] []) ++ [] ≡ line_of at end ∷ []
    go true = refl
    go false = refl

pub going_line : (w : ℕ) (b first : Bool) (at end here run x : ℕ) (d : List ℕ) → x ≡ 0x0A → going w b first at end here run (x ∷ d) ≡ line_of at end ∷ rest_lines w b (here + 1) d
unfolding going placed line_text later_lines split_words_at_width rest_lines
going_line w b first at end here run x d e =
    let n : suc (here + 0) ≡ here + 1 = omega arith in
    rw e (rw n (go (b && ltb 0 w)))
  where
    go : (t : Bool) → placed w first at end here run (cond t [] []) ++ lines_from w b (here + 1) (split_lines d) ≡ line_of at end ∷ lines_from w b (here + 1) (split_lines d)
    go true = refl
    go false = refl

-- ── breaking at the limit
runs_narrow : (m : ℕ) (rs : List ByteWord) → 2 * length (join_words rs) ≤ m → split_words m (words_of rs) ≡ words_of rs
runs_narrow m [] h = refl
runs_narrow m (r ∷ rs) h =
    let l : length (join_words (r ∷ rs)) ≡ length r.text + (r.gap + length (join_words rs)) =
    length-append r.text (spaces r.gap ++ join_words rs) ∙ ap (λ (n : ℕ). length r.text + n)
    (length-append (spaces r.gap) (join_words rs) ∙ ap (λ (n : ℕ). n + length (join_words rs)) (length-spaces r.gap)) in
    let k : width_of (chars r.text) ≤ m = omega (arith, width_bound (chars r.text) (valid-chars r.text), ap length (bytes-chars r.text), l) in
    rw (narrow m (chars r.text) k, runs_narrow m rs (omega (arith, l)))

pub breaking_limit : (w : ℕ) (b : Bool) (l : List ℕ) → 2 * length l ≤ unreached → split_words_at_width w b (words_of (byte_words l)) ≡ split_words (limit_of_line w b) (words_of (byte_words l))
unfolding split_words_at_width limit_of_line
breaking_limit w b l h = go (b && ltb 0 w)
  where
    go : (t : Bool) → cond t (split_words w (words_of (byte_words l))) (words_of (byte_words l)) ≡ split_words (cond t w unreached) (words_of (byte_words l))
    go true = refl
    go false = sym (runs_narrow unreached (byte_words l) (omega (arith, ap length (unrun_runs l))))

-- ── one word, or one head of a word, further
pub word_le : (d : List ℕ) → length (word_text d) ≤ length d
unfolding word_text
word_le [] = omega arith
word_le (x ∷ d) = go (ends_word x) (word_le d)
  where
    go : (t : Bool) → length (word_text d) ≤ length d → length (cond t [] (x ∷ word_text d)) ≤ suc (length d)
    go true h = omega arith
    go false h = omega arith

head_valid : (m : ℕ) (t : List ℕ) → Valid (head_of m (chars t))
head_valid m t = valid_prefix (head_of m (chars t)) (after_head m (chars t)) (rw (head_split m (chars t)) (valid-chars t))

head_le : (m : ℕ) (t : List ℕ) → length (bytes_of (head_of m (chars t))) ≤ length t
head_le m t =
    let e : bytes_of (head_of m (chars t)) ++ bytes_of (after_head m (chars t)) ≡ t = sym (bytes-append (head_of m (chars t)) (after_head m (chars t)))
    ∙ ap bytes_of (head_split m (chars t)) ∙ bytes-chars t in
    omega (arith, ap length e, length-append (bytes_of (head_of m (chars t))) (bytes_of (after_head m (chars t))))

pub head_width_lem : (m : ℕ) (d : List ℕ) → head_width m d ≤ 2 * head_len m d
unfolding head_width head_len first_head_of
head_width_lem m d = width_bound (head_of m (chars (word_text d))) (head_valid m (word_text d))

pub head_in : (m : ℕ) (d : List ℕ) → head_len m d ≤ length (line_text d)
unfolding head_len first_head_of
head_in m d = omega (arith, head_le m (word_text d), word_le (line_text d), ap length (word_line d))

pub gap_in : (m : ℕ) (d : List ℕ) → head_len m d + space_len (drop (head_len m d) d) ≤ length (line_text d)
gap_in m d =
    omega (
      arith,
      head_in m d,
      ap length (text_drop (head_len m d) d (head_in m d)),
      length-drop (head_len m d) (line_text d),
      space_line (drop (head_len m d) d),
      space-le
          (line_text (drop (head_len m d) d)),
    )

-- a word that is not empty has a head that is not empty
heads_some : (m : ℕ) (t : List ℕ) → 0 < length t → (cs : List Character) → chars t ≡ cs → 0 < length (bytes_of (head_of m (chars t)))
heads_some m t h [] e = absurd (omega (arith, ap length (bytes-chars t), ap (λ (k : List Character). length (bytes_of k)) e))
heads_some m t h (c ∷ cs) e = bytes_some (head_of m (chars t)) (head_valid m t) (rw e (head_some m c cs))

word_none : (x : ℕ) (d : List ℕ) → eqb x 0x20 ≡ true → word_text (x ∷ d) ≡ []
unfolding word_text
word_none x d e = rw e

word_cons : (x : ℕ) (d : List ℕ) → eqb x 0x20 ≡ false → eqb x 0x0A ≡ false → word_text (x ∷ d) ≡ x ∷ word_text d
unfolding word_text
word_cons x d e f = rw (e, f)

space-cons : (x : ℕ) (d : List ℕ) → eqb x 0x20 ≡ true → space_len (x ∷ d) ≡ 1 + space_len d
unfolding space_len
space-cons x d e = rw e

head_none : (m : ℕ) (d : List ℕ) → word_text d ≡ [] → head_len m d ≡ 0
unfolding head_len first_head_of head_of chars
head_none m d e = rw e

pub step_some : (m : ℕ) (d : List ℕ) → 0 < length (line_text d) → 1 ≤ head_len m d + space_len (drop (head_len m d) d)
unfolding head_len first_head_of line_text
step_some m [] h = absurd (omega arith)
step_some m (x ∷ d) h = go (eqb x 0x20) refl (eqb x 0x0A) refl
  where
    go : (s : Bool) → eqb x 0x20 ≡ s → (t : Bool) → eqb x 0x0A ≡ t → 1 ≤ head_len m (x ∷ d) + space_len (drop (head_len m (x ∷ d)) (x ∷ d))
    go s e true f = absurd (omega (arith, rw f at h))
    go true e false f =
        rw (head_none m (x ∷ d) (word_none x d e)) (omega (arith, space-cons x d e))
    go false e false f =
        omega (arith, heads_some m (word_text (x ∷ d)) (omega (arith, ap length (word_cons x d e f))) (chars (word_text (x ∷ d))) refl)

heads_at : (w : ℕ) (b : Bool) (d : List ℕ) → 2 * length d ≤ unreached → 0 < length (line_text d)
    → split_words_at_width w b (words_of (byte_words (line_text d)))
    ≡ (record { body = first_head_of (limit_of_line w b) d; space = space_len (drop (head_len (limit_of_line w b) d) d) })
    ∷ split_words_at_width w b (words_of (byte_words (line_text (drop (head_len (limit_of_line w b) d + space_len (drop (head_len (limit_of_line w b) d) d)) d))))
unfolding first_head_of head_len
heads_at w b d s p =
    let m = limit_of_line w b in
    let l = line_text d in
    let n = head_len m d in
    let k = space_len (drop n d) in
    let h : head_of m (chars (word_text l)) ≡ first_head_of m d = ap (λ (t : List ℕ). head_of m (chars t)) (word_line d) in
    let g : Goes m l (first_head_of m d) = rw h at (heads_next m l (text_none d) p) in
    let a : space_len (drop n l) ≡ k = ap space_len (text_drop n d (head_in m d)) ∙ space_line (drop n d) in
    let f : drop (n + k) l ≡ line_text (drop (n + k) d) = text_drop (n + k) d (gap_in m d) in
    breaking_limit w b l (omega (arith, text_le d)) ∙ rw (a, f) at g
    ∙ ap (λ (r : List Word). (record { body = first_head_of m d; space = k }) ∷ r) (sym (breaking_limit w b (line_text (drop (n + k) d)) (omega (arith, text_le (drop (n + k) d), length-drop (n + k) d))))

-- n, width and k are the first head's length, its width, and the bytes 20 after it
module _ (w : ℕ) (b : Bool) (at end here run : ℕ) (d : List ℕ) (n width k : ℕ) (s : 2 * length d ≤ unreached) (p : 0 < length (line_text d)) (en : n ≡ head_len (limit_of_line w b) d)
    (ew : width ≡ head_width (limit_of_line w b) d)
    (ek : k ≡ space_len (drop n d)) where
  abbrev head : Word
  head = record { body = first_head_of (limit_of_line w b) d; space = k }

  heads_now : split_words_at_width w b (words_of (byte_words (line_text d))) ≡ head ∷ split_words_at_width w b (words_of (byte_words (line_text (drop (n + k) d))))
  heads_now = rw (ek, en) (heads_at w b d s p)

  len_now : word_len head ≡ n
  unfolding head_len
  len_now = sym en

  width_now : width_of head.body ≡ width
  unfolding head_width
  width_now = sym ew

  in_now : n + k ≤ length (line_text d)
  in_now = rw (ek, en) (gap_in (limit_of_line w b) d)

  -- it fits, or is the first
  pub going_step : (first : Bool) → (first || leb (run + width) w) ≡ true → going w b first at end here run d ≡ going w b false at (here + n) (here + n + k) (run + width + k) (drop (n + k) d)
  unfolding going
  going_step first f =
      let a : suc (here + length (line_text d)) ≡ suc ((here + n + k) + length (line_text (drop (n + k) d))) = omega
      (arith, in_now, ap length (text_drop (n + k) d in_now), length-drop (n + k) (line_text d)) in
      let t : run + full_width head ≡ run + width + k = omega (arith, width_now) in
      let j = placed_join w first at end here run head (split_words_at_width w b (words_of (byte_words (line_text (drop (n + k) d))))) (rw width_now f) in
      rw (heads_now, later_drop (n + k) d in_now, ← a) (ap (λ (l : List Line). l ++ lines_from w b (suc (here + length (line_text d))) (later_lines d)) (rw (t, len_now) at j))

  -- it does not fit: a new line
  pub going_new : leb (run + width) w ≡ false → going w b false at end here run d ≡ line_of at end ∷ rest_lines w b here d
  unfolding going
  going_new f =
      let vs = split_words_at_width w b (words_of (byte_words (line_text (drop (n + k) d)))) in
      let z : 0 + full_width head ≡ full_width head = omega arith in
      let o = placed_join w true here here here 0 head vs refl in
      rw (rest_start w b here d, heads_now)
      (ap (λ (l : List Line). l ++ lines_from w b (suc (here + length (line_text d))) (later_lines d))
      (placed_new w false at end here run head vs (rw width_now f) ∙ ap (λ (l : List Line). line_of at end ∷ l) (sym (rw z at o))))
