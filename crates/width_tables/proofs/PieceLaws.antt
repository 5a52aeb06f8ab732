-- What holds of every character of a text holds of every character of the parts that a call reads on its own: the beginning or the ending that a cut keeps, the lines, their words, and the lines of a wrap.
-- The idea: such a part is some of the text's characters in a row, whatever table made the cut, and characters in a row read as themselves (`some_row`). No character goes on past a 20 or a 0A.
use Prim.Native.Nat.{ℕ, zero, suc, ◌+◌}
use native.Mathlib.Omega.{arith}
use mathlib.Core.Bool.{Bool}
use mathlib.Core.Path.{◌≡◌, refl, sym, ap, ◌∙◌}
use mathlib.Core.List.{List, [], ◌∷◌, ◌++◌, append-nil, append_assoc}
use lib.ListN.{length, take, drop}
use lib.Seq.{take-append_seam}
use Rattle.chars.specs.Utf8.{table37, row_of, tail_len}
use Rattle.chars.specs.Width.{Range, ranges}
use Rattle.chars.specs.Chars.{Character, chars, bytes_of}
use Rattle.chars.specs.Cut.{kept_within}
use Rattle.chars.proofs.CharsLaws.{bytes-chars, bytes-append, Valid, valid-chars, valid_clean, valid_prefix, valid_suffix}
use Rattle.chars.proofs.SeamLaws.{Low, chars_low, blank, chars_blank}
use Rattle.chars.proofs.CutLaws.{kept_rest, split_kept, longest, before_longest, split_longest, kept_from}
use Rattle.recording.specs.Lists.{AllOf}
use Rattle.recording.specs.Recording.{Bytes}
use Rattle.recording.proofs.Lists.{all_left, all_right, all_append}
use Rattle.layout.specs.Wrap.{ByteWord, Word, split_lines, join_lines, byte_words, group_lines}
use Rattle.layout.proofs.GroupLaws.{concat}
use Rattle.layout.proofs.WordLaws.{join_words, unrun_runs, full, blanks, flat, bytes_flat, flat_append, flat_fitted}
use Rattle.layout.proofs.ByteWordLaws.{Chain, Next, runs_chain}
use Rattle.layout.specs.Tabs.{spaces}
use Rattle.layout.proofs.TabLaws.{chars-spaces, low_spaces}
use Rattle.layout.proofs.TwiceLaws.{closed, text, texts, flat_closed, join_lines_lem, line_behind, cuts, cuts_append, cuts_spans}
use Rattle.width_tables.specs.ByTable as By
use Rattle.width_tables.specs.ByTable.{chars_by}
use Rattle.width_tables.proofs.CharacterLaws.{at_append, at_bytes, bytes_by, back, back-chars}

-- ── the characters of words, by a table, are those of the line
chars_blanks : (n : ℕ) → chars (spaces n) ≡ blanks n
chars_blanks zero = unfold chars in refl
chars_blanks (suc n) = chars_blank (spaces n) ∙ ap (λ (r : List Character). blank ∷ r) (chars_blanks n)

back_blanks : (n : ℕ) → back (blanks n) ≡ blanks n
unfolding ranges
back_blanks zero = refl
back_blanks (suc n) = ap (λ (r : List Character). blank ∷ r) (back_blanks n)

word_flat : (t : List Range) (w : ByteWord) (vs : List Word) (y : Bytes) → Low (spaces w.gap ++ y) → back (flat vs) ≡ chars y
    → back (flat (By.word_of (chars_by t) w ∷ vs)) ≡ chars (w.text ++ (spaces w.gap ++ y))
word_flat t w vs y l e =
    at_append ranges (chars_by t w.text) (blanks w.gap ++ flat vs)
    ∙ rw (back-chars t w.text, at_append ranges (blanks w.gap) (flat vs), back_blanks w.gap, e, ← chars_blanks w.gap, ← chars-spaces w.gap y) (sym (chars_low w.text (spaces w.gap ++ y) l))

low_last : (n : ℕ) → Low (spaces n ++ [])
low_last zero = tt
low_last (suc n) = omega arith

words_flat : (t : List Range) (ws : List ByteWord) → Chain Next ws → back (flat (By.words_of (chars_by t) ws)) ≡ chars (join_words ws)
words_flat t [] c = unfold chars in refl
words_flat t (w ∷ []) c = word_flat t w [] [] (low_last w.gap) (unfold chars in refl)
words_flat t (w ∷ v ∷ vs) c = word_flat t w (By.words_of (chars_by t) (v ∷ vs)) (join_words (v ∷ vs)) (low_spaces w.gap (join_words (v ∷ vs)) c.0.0) (words_flat t (v ∷ vs) c.1)

line_flat : (t : List Range) (l : Bytes) → back (flat (By.words_of (chars_by t) (byte_words l))) ≡ chars l
line_flat t l = words_flat t (byte_words l) (runs_chain l) ∙ ap chars (unrun_runs l)

-- and so once they are broken and fitted
fitted_flat : (t : List Range) (w : ℕ) (b : Bool) (l : Bytes) → back (flat (concat (By.wrapped_line (chars_by t) w b l))) ≡ chars l
unfolding By.wrapped_line
fitted_flat t w b l = ap back (flat_fitted w b (By.words_of (chars_by t) (byte_words l))) ∙ line_flat t l

fitted_full : (t : List Range) (w : ℕ) (b : Bool) (l : Bytes) → full (concat (By.wrapped_line (chars_by t) w b l)) ≡ l
fitted_full t w b l =
    let vs : List Word = concat (By.wrapped_line (chars_by t) w b l) in
    sym (bytes_flat vs) ∙ sym (at_bytes ranges (flat vs)) ∙ ap bytes_of (fitted_flat t w b l) ∙ bytes-chars l

-- ── the parts, where P holds of each character of the whole
module _ (P : Character → Type 0) where
  abbrev pub Plain : Bytes → Type 0
  Plain d = AllOf P (chars d)

  -- some of the characters in a row
  some_row : (d : Bytes) (xs ys zs : List Character) → chars d ≡ xs ++ (ys ++ zs) → Plain d → Plain (bytes_of ys)
  some_row d xs ys zs e h =
      let v : Valid (xs ++ (ys ++ zs)) = rw e at (valid-chars d) in
      let k : AllOf P (xs ++ (ys ++ zs)) = rw e at h in
      rw (valid_clean ys (valid_prefix ys zs (valid_suffix xs (ys ++ zs) v))) (all_left P ys zs (all_right P xs (ys ++ zs) k))

  -- ── the beginning that a cut by a table keeps
  pub beginning : (t : List Range) (m : ℕ) (d : Bytes) → Plain d → Plain (take (By.truncate_end_pos_of (chars_by t) m d) d)
  unfolding By.truncate_end_pos_of
  beginning t m d h =
      let xs : List Character = kept_within m (chars_by t d) in
      let ys : List Character = kept_rest m (chars_by t d) in
      let e : chars d ≡ back xs ++ back ys = sym (back-chars t d) ∙ ap back (split_kept m (chars_by t d)) ∙ at_append ranges xs ys in
      let b : d ≡ bytes_of xs ++ bytes_of ys = sym (bytes_by t d) ∙ ap bytes_of (split_kept m (chars_by t d)) ∙ bytes-append xs ys in
      let k : take (length (bytes_of xs)) d ≡ bytes_of (back xs) =
      ap (λ (x : Bytes). take (length (bytes_of xs)) x) b ∙ take-append_seam (bytes_of xs) (bytes_of ys) ∙ sym (at_bytes ranges xs) in
      rw k (some_row d [] (back xs) (back ys) e h)

  -- and with a text behind it that starts below 80
  pub joined_low : (x y : Bytes) → Low y → Plain x → Plain y → Plain (x ++ y)
  joined_low x y l h g = rw (chars_low x y l) (all_append P (chars x) (chars y) h g)

  -- ── the ending that a cut by a table keeps
  pub ending : (t : List Range) (m : ℕ) (d : Bytes) → Plain d → Plain (bytes_of (longest m (chars_by t d)))
  ending t m d h =
      let xs : List Character = before_longest m (chars_by t d) in
      let ys : List Character = longest m (chars_by t d) in
      let e : chars d ≡ back xs ++ (back ys ++ []) =
      sym (back-chars t d) ∙ ap back (split_longest m (chars_by t d)) ∙ at_append ranges xs ys ∙ ap (λ (r : List Character). back xs ++ r) (sym (append-nil (back ys))) in
      rw (← at_bytes ranges ys) (some_row d (back xs) (back ys) [] e h)

  pub kept : (t : List Range) (m : ℕ) (d : Bytes) → Plain d → Plain (drop (By.truncate_start_pos_of (chars_by t) m d) d)
  unfolding By.truncate_start_pos_of
  kept t m d h = rw (kept_from m (chars_by t d) d (bytes_by t d)) (ending t m d h)

  -- ── lines
  after_newline : (r : Bytes) → AllOf P (chars (0x0A ∷ r)) → Plain r
  unfolding chars tail_len row_of table37
  after_newline r h = h.1

  joined_lines : (ls : List Bytes) → Plain (join_lines ls) → AllOf Plain ls
  joined_lines [] h = tt
  joined_lines (l ∷ []) h = (h, tt)
  joined_lines (l ∷ k ∷ ls) h =
      let rest : Bytes = 0x0A ∷ join_lines (k ∷ ls) in
      let p : AllOf P (chars l ++ chars rest) = rw (chars_low l rest (omega arith)) at h in
      (all_left P (chars l) (chars rest) p, joined_lines (k ∷ ls) (after_newline (join_lines (k ∷ ls)) (all_right P (chars l) (chars rest) p)))

  pub lines : (d : Bytes) → Plain d → AllOf Plain (split_lines d)
  lines d h = joined_lines (split_lines d) (rw (join_lines_lem d) h)

  -- ── words
  abbrev pub WordPlain : ByteWord → Type 0
  WordPlain w = Plain w.text

  flat_words : (t : List Range) (ws : List ByteWord) → AllOf P (back (flat (By.words_of (chars_by t) ws))) → AllOf WordPlain ws
  flat_words t [] h = tt
  flat_words t (w ∷ ws) h =
      let vs : List Word = By.words_of (chars_by t) ws in
      let k : AllOf P (chars w.text ++ (back (blanks w.gap) ++ back (flat vs))) =
      rw (at_append ranges (chars_by t w.text) (blanks w.gap ++ flat vs), back-chars t w.text, at_append ranges (blanks w.gap) (flat vs)) at h in (
        all_left P (chars w.text) (back (blanks w.gap) ++ back (flat vs)) k,
        flat_words t ws (all_right P (back (blanks w.gap)) (back (flat vs)) (all_right P (chars w.text) (back (blanks w.gap) ++ back (flat vs)) k)),
      )

  pub words : (l : Bytes) → Plain l → AllOf WordPlain (byte_words l)
  words l h = flat_words ranges (byte_words l) (rw (line_flat ranges l) h)

  -- ── the lines of a wrap by a table
  shown : (gs : List (List Word)) (xs : List Character) (d : Bytes) → chars d ≡ xs ++ back (flat (concat gs)) → Plain d → AllOf Plain (texts gs)
  shown [] xs d e h = tt
  shown (g ∷ gs) xs d e h =
      let a : List Character = back (flat (closed g)) in
      let z : List Character = back (flat_closed g).0 in
      let r : List Character = back (flat (concat gs)) in
      let f : back (flat (concat (g ∷ gs))) ≡ a ++ (z ++ r) =
      ap back (flat_append g (concat gs) ∙ ap (λ (x : List Character). x ++ flat (concat gs)) (flat_closed g).1)
      ∙ at_append ranges (flat (closed g) ++ (flat_closed g).0) (flat (concat gs)) ∙ ap (λ (x : List Character). x ++ r) (at_append ranges (flat (closed g)) (flat_closed g).0) ∙ append_assoc a z r in
      let k : chars d ≡ xs ++ (a ++ (z ++ r)) = e ∙ ap (λ (x : List Character). xs ++ x) f in
      let n : chars d ≡ (xs ++ (a ++ z)) ++ r = k ∙ ap (λ (x : List Character). xs ++ x) (sym (append_assoc a z r)) ∙ sym (append_assoc xs (a ++ z) r) in
      let b : bytes_of a ≡ text g = at_bytes ranges (flat (closed g)) ∙ bytes_flat (closed g) in
      (rw b at (some_row d xs a (z ++ r) k h), shown gs (xs ++ (a ++ z)) d n h)

  wrapped : (t : List Range) (w : ℕ) (b : Bool) (l : Bytes) → Plain l → AllOf Plain (texts (By.wrapped_line (chars_by t) w b l))
  wrapped t w b l h = shown (By.wrapped_line (chars_by t) w b l) [] l (sym (fitted_flat t w b l)) h

  pub shown_lines : (t : List Range) (w : ℕ) (b : Bool) (d : Bytes) (at : ℕ) (ls : List Bytes) → drop at d ≡ join_lines ls → AllOf Plain ls → AllOf Plain (cuts d (By.lines_from (chars_by t) w b at ls))
  shown_lines t w b d at [] e h = tt
  shown_lines t w b d at (l ∷ []) e h =
      let gs : List (List Word) = By.wrapped_line (chars_by t) w b l in
      rw (cuts_append d (group_lines at gs) [], cuts_spans d at gs [] (e ∙ sym (append-nil l) ∙ ap (λ (x : Bytes). x ++ []) (sym (fitted_full t w b l))))
      (all_append Plain (texts gs) [] (wrapped t w b l h.0) tt)
  shown_lines t w b d at (l ∷ m ∷ ls) e h =
      let gs : List (List Word) = By.wrapped_line (chars_by t) w b l in
      let rest : Bytes = 0x0A ∷ join_lines (m ∷ ls) in
      let next : List Bytes = cuts d (By.lines_from (chars_by t) w b (suc (at + length l)) (m ∷ ls)) in
      rw (
        cuts_append d (group_lines at gs) (By.lines_from (chars_by t) w b (suc (at + length l)) (m ∷ ls)),
        cuts_spans d at gs rest (e ∙ ap (λ (x : Bytes). x ++ rest) (sym (fitted_full t w b l))),
      )
      (all_append Plain (texts gs) next (wrapped t w b l h.0) (shown_lines t w b d (suc (at + length l)) (m ∷ ls) (line_behind d at l m ls e) h.1))
