-- One line: a character, a head, the bytes 20 after it, and the state of a line under way.
-- The idea: what is left gives the rest of the lines (`going`), and each step of the loop is one of its four laws. The run is the width of the bytes read so far, since heads and spaces end at seams.
use Prim.Native.Nat.{ℕ, ◌+◌, ◌-◌, ◌*◌, ◌≤◌, ◌<◌}
use native.Mathlib.Omega.{arith}
use native.Mathlib.Numerals.{add-one}
use mathlib.Core.Bool.{Bool, true, false, cond, ◌||◌, not, false≢true}
use mathlib.Core.Logic.{◌≢◌}
use mathlib.Core.Path.{◌≡◌, refl, sym, ap, ◌∙◌}
use mathlib.Core.List.{List, [], ◌∷◌, ◌++◌}
use Rattle.std.specs.Prelude.{Some, None, IfSome}
use lib.Dec.{leb, eqb}
use lib.ListN.{length, take, drop, get_or, length-append, length-drop, drop_of_length-le}
use lib.Seq.{drop-cons, drop-drop, drop-append_seam}
use borrow.Author.Rules.{part_to_end}
use borrow.Author.Tests.{leb-false, leb-true, lt-leb, eqb-true, ne_eqb}
use Rattle.chars.specs.Chars.{Character, char_in, chars, Seam, bytes_of, wide, width_of, text_width_of}
use Rattle.chars.specs.Cut.{kept_within, leading_zero_width_of, truncate_end_pos_of, truncate_end_width, zero_width_len_of}
use Rattle.chars.specs.declared.Seen.{Seen}
use Rattle.chars.proofs.CharsLaws.{chars_end, char_next, char_some, char_inside, bytes-chars, Valid, valid-chars, valid_clean}
use Rattle.chars.proofs.FoldLaws as folds
use Rattle.chars.proofs.SeamLaws.{width_none, seam_start, seam_next}
use Rattle.layout.specs.Wrap.{line_of, line_width}
use Rattle.layout.proofs.WidthLaws.{zero_wide}
use Rattle.line.specs.Rest.{rest_lines, line_text, ends_word, word_text, space_len, one_char_of, head_of, unreached, limit_of_line, going, first_head_of, head_len, head_width}
use Rattle.line.specs.declared.Next.{Next}
use Rattle.line.specs.Line.{seen_of, one_head, pick_head, head_from, in_line_text, after_line_of, following}
use Rattle.line.proofs.HeadLaws.{text_le}
use Rattle.line.proofs.HeadWidthLaws.{head_seam, gap_seam}
use Rattle.line.proofs.RestLaws.{word_le, rest_start, going_last, going_line, going_step, going_new, head_width_lem, head_in, step_some}
use Rattle.line.proofs.WordCharLaws.{char_word, word_drop}

-- ── the character at a place of the word
seen_nil : (u : List ℕ) → u ≡ [] → None ≡ seen_of (chars u)
unfolding seen_of chars
seen_nil u e = rw e

pub past_end : (s : List ℕ) (i : ℕ) → length s ≤ i → None ≡ seen_of (chars (drop i (word_text s)))
past_end s i h = seen_nil (drop i (word_text s)) (drop_of_length-le (word_text s) {i = i} (omega (arith, word_le s)))

end_none : (x : ℕ) (r : List ℕ) → ends_word x ≡ true → word_text (x ∷ r) ≡ []
unfolding word_text
end_none x r e = rw e

seen_word : (x : ℕ) (r : List ℕ) → ends_word x ≡ false → seen_of (chars (x ∷ r)) ≡ seen_of (chars (word_text (x ∷ r)))
unfolding word_text seen_of chars
seen_word x r e = rw e (rw (char_word x r))

-- a character that was read, as the first one of what is left
seen_first : (s : List ℕ) (i : ℕ) → i < length s → (g : Seen) → g.len ≡ length (char_in i s).text → g.width ≡ wide (char_in i s) → Some g ≡ seen_of (chars (drop i s))
unfolding seen_of
seen_first s i more g p q = rw (char_next s i more) (λ k. Some (record { len = p k; width = q k }))

first_seen : (s : List ℕ) (i : ℕ) → i < length s → seen_of (chars (drop i s)) ≡ Some (record { len = length (char_in i s).text; width = wide (char_in i s) })
unfolding seen_of
first_seen s i more = rw (char_next s i more)

none_seen : (s : List ℕ) (i : ℕ) → length s ≤ i → seen_of (chars (drop i s)) ≡ None
unfolding seen_of
none_seen s i h = rw (chars_end s i h)

module _ (s : List ℕ) (i : ℕ) (h : i ≤ length (word_text s)) (more : i < length s) where
  at_word : drop i (word_text s) ≡ word_text (get_or s i 0 ∷ drop (i + 1) s)
  at_word = word_drop i s h ∙ rw (add-one, drop-cons s i 0 more)

  pub at_space : get_or s i 0 ≡ 0x20 → None ≡ seen_of (chars (drop i (word_text s)))
  at_space e = seen_nil (drop i (word_text s)) (at_word ∙ end_none (get_or s i 0) (drop (i + 1) s) (rw e))

  pub at_newline : get_or s i 0 ≡ 0x0A → None ≡ seen_of (chars (drop i (word_text s)))
  at_newline e = seen_nil (drop i (word_text s)) (at_word ∙ end_none (get_or s i 0) (drop (i + 1) s) (rw e))

  pub at_char : get_or s i 0 ≢ 0x20 → get_or s i 0 ≢ 0x0A → (g : Seen) → g.len ≡ length (char_in i s).text → g.width ≡ wide (char_in i s) → Some g ≡ seen_of (chars (drop i (word_text s)))
  at_char p q g l w =
      let e : drop i s ≡ get_or s i 0 ∷ drop (i + 1) s = rw (add-one, drop-cons s i 0 more) in
      seen_first s i more g l w ∙ rw (e, at_word) (seen_word (get_or s i 0) (drop (i + 1) s) (rw (ne_eqb (get_or s i 0) 0x20 p, ne_eqb (get_or s i 0) 0x0A q)))

-- ── the characters of a word t from the place i on, where g is the character at i
module _ (t : List ℕ) (i : ℕ) (g : Seen) (e : Some g ≡ seen_of (chars (drop i t))) where
  seen_more : i < length t
  seen_more = go (leb (length t) i) refl
    where
      go : (q : Bool) → leb (length t) i ≡ q → i < length t
      go true f = let n = none_seen t i (leb-true (length t) i f) in absurd (cc)
      go false f = leb-false (length t) i f

  seen_is : g ≡ record { len = length (char_in i t).text; width = wide (char_in i t) }
  seen_is = let f = first_seen t i seen_more in cc

  seen_len : g.len ≡ length (char_in i t).text
  seen_len = ap (λ (x : Seen). x.len) seen_is

  seen_width : g.width ≡ wide (char_in i t)
  seen_width = ap (λ (x : Seen). x.width) seen_is

  pub seen_some : 0 < g.len
  seen_some = omega (arith, seen_len, char_some t i seen_more)

  pub seen_inside : i + g.len ≤ length t
  seen_inside = omega (arith, seen_len, char_inside t i seen_more)

  -- it is within m
  pub kept_more : (m : ℕ) → g.width ≤ m
      → (truncate_end_pos_of m (drop i t) ≡ g.len + truncate_end_pos_of (m - g.width) (drop (i + g.len) t))
      × (truncate_end_width m (drop i t) ≡ g.width + truncate_end_width (m - g.width) (drop (i + g.len) t))
  unfolding truncate_end_pos_of truncate_end_width
  kept_more m h = folds.kept_more t i g.len g.width seen_more seen_len seen_width m h

  -- it would pass m
  pub kept_pass : (m : ℕ) → m < g.width → (truncate_end_pos_of m (drop i t) ≡ 0) × (truncate_end_width m (drop i t) ≡ 0)
  unfolding truncate_end_pos_of truncate_end_width
  kept_pass m h = rw (folds.kept_none t i g.len g.width seen_more seen_len seen_width m h) (refl, refl)

  pub zero_more : g.width ≡ 0 → zero_width_len_of (drop i t) ≡ g.len + zero_width_len_of (drop (i + g.len) t)
  unfolding zero_width_len_of
  zero_more h = folds.zero_more t i g.len g.width seen_more seen_len seen_width h

  pub zero_pass : g.width ≢ 0 → zero_width_len_of (drop i t) ≡ 0
  unfolding zero_width_len_of
  zero_pass h = rw (folds.zero_none t i g.len g.width seen_more seen_len seen_width h)

-- ── where there is none
module _ (t : List ℕ) (i : ℕ) (e : None ≡ seen_of (chars (drop i t))) where
  seen_end : chars (drop i t) ≡ []
  seen_end = go (leb (length t) i) refl
    where
      go : (q : Bool) → leb (length t) i ≡ q → chars (drop i t) ≡ []
      go true f = chars_end t i (leb-true (length t) i f)
      go false f = let n = first_seen t i (leb-false (length t) i f) in absurd (cc)

  pub kept_end : (m : ℕ) → (truncate_end_pos_of m (drop i t) ≡ 0) × (truncate_end_width m (drop i t) ≡ 0)
  unfolding truncate_end_pos_of truncate_end_width
  kept_end m = rw seen_end (refl, refl)

  pub zero_end : zero_width_len_of (drop i t) ≡ 0
  unfolding zero_width_len_of
  zero_end = rw seen_end

-- ── one character, with the zero-width characters after it
-- the first character of u, and the characters after it
first_rest : (u : List ℕ) (c : Character) (cs : List Character) → chars u ≡ c ∷ cs → (cs ≡ chars (drop (length c.text) u)) × (0 < length c.text)
first_rest u c cs e =
    let v : Valid (c ∷ cs) = rw e at (valid-chars u) in
    let b : c.text ++ bytes_of cs ≡ u = sym (ap bytes_of e) ∙ bytes-chars u in
    let d : drop (length c.text) u ≡ bytes_of cs = rw (← b) (drop-append_seam c.text (bytes_of cs)) in
    (sym (valid_clean cs v.1) ∙ ap chars (sym d), omega (arith, ap length v.0.text))

module _ (d : List ℕ) where
  pub one_start : (g : Seen) → Some g ≡ seen_of (chars (drop 0 (word_text d)))
      → (g.len + zero_width_len_of (drop g.len (word_text d)) ≡ (one_head d).len) × (g.width ≡ (one_head d).width)
  unfolding one_head one_char_of seen_of zero_width_len_of
  one_start g e = go (chars (word_text d)) refl e
    where
      go : (cs : List Character) → chars (word_text d) ≡ cs → Some g ≡ seen_of cs
          → (g.len + zero_width_len_of (drop g.len (word_text d)) ≡ length (bytes_of (one_char_of (chars (word_text d))))) × (g.width ≡ width_of (one_char_of (chars (word_text d))))
      go [] k f = absurd (cc)
      go (c ∷ cs) k f =
          let r : g ≡ record { len = length c.text; width = wide c } = cc in
          let n : g.len ≡ length c.text = ap (λ (x : Seen). x.len) r in
          let w : g.width ≡ wide c = ap (λ (x : Seen). x.width) r in
          rw (n, ← (first_rest (word_text d) c cs k).0, k) (sym (length-append c.text (bytes_of (leading_zero_width_of cs))), omega (arith, w, zero_wide cs))

  pub one_none : None ≡ seen_of (chars (drop 0 (word_text d))) → record { len = 0; width = 0 } ≡ one_head d
  unfolding one_head one_char_of seen_of
  one_none e = go (chars (word_text d)) refl e
    where
      go : (cs : List Character) → chars (word_text d) ≡ cs → None ≡ seen_of cs → record { len = 0; width = 0 } ≡ one_head d
      go [] k f = rw k
      go (c ∷ cs) k f = absurd (cc)

-- ── the head that the search and the case of place 0 give
head_by : (m : ℕ) (d : List ℕ) (cut width : ℕ) (cs : List Character) → chars (word_text d) ≡ cs → cut ≡ length (bytes_of (kept_within m cs)) → width ≡ width_of (kept_within m cs)
    → ((pick_head (eqb cut 0) (one_head d) (record { len = cut; width = width })).len ≡ length (bytes_of (head_of m cs)))
    × ((pick_head (eqb cut 0) (one_head d) (record { len = cut; width = width })).width ≡ width_of (head_of m cs))
unfolding one_head head_of one_char_of
head_by m d cut width [] k e f = rw (e, k) (refl, refl)
head_by m d cut width (c ∷ cs) k e f = go (leb (wide c) m) refl
  where
    some : 0 < length c.text
    some = (first_rest (word_text d) c cs k).1

    go : (q : Bool) → leb (wide c) m ≡ q
        → ((pick_head (eqb cut 0) (one_head d) (record { len = cut; width = width })).len ≡ length (bytes_of (cond q (cond q (c ∷ kept_within (m - wide c) cs) []) (c ∷ leading_zero_width_of cs))))
        × ((pick_head (eqb cut 0) (one_head d) (record { len = cut; width = width })).width ≡ width_of (cond q (cond q (c ∷ kept_within (m - wide c) cs) []) (c ∷ leading_zero_width_of cs)))
    go true q =
        let n : cut ≡ length (c.text ++ bytes_of (kept_within (m - wide c) cs)) = rw q at e in
        let w : width ≡ wide c + width_of (kept_within (m - wide c) cs) = rw q at f in
        rw (ne_eqb cut 0 (λ z. omega (arith, n, some, length-append c.text (bytes_of (kept_within (m - wide c) cs))))) (n, w)
    go false q =
        let n : cut ≡ 0 = rw q at e in
        rw (n, k) (refl, refl)

pub head_law : (m : ℕ) (d : List ℕ) (cut width : ℕ) → cut ≡ truncate_end_pos_of m (word_text d) → width ≡ truncate_end_width m (word_text d)
    → ((head_from cut width d).len ≡ head_len m d) × ((head_from cut width d).width ≡ head_width m d)
unfolding head_from head_len head_width first_head_of truncate_end_pos_of truncate_end_width
head_law m d cut width e f = head_by m d cut width (chars (word_text d)) refl e f

pub in_line_lem : (d : List ℕ) → in_line_text d ≡ true → 0 < length (line_text d)
unfolding in_line_text line_text
in_line_lem [] h = absurd (false≢true h)
in_line_lem (x ∷ d) h = go (eqb x 0x0A) h
  where
    go : (t : Bool) → not t ≡ true → 0 < length (cond t [] (x ∷ line_text d))
    go true k = absurd (false≢true k)
    go false k = omega arith

-- ── the search for a cut: i bytes of the word are read, and `left` is left of the limit
pub record Search (word : List ℕ) (limit i left : ℕ) : Type 0 where
  pub within : i ≤ length (word_text word)
  pub left_within : left ≤ limit
  -- what is read, and what is still kept of the rest, is the longest head
  pub place : i + truncate_end_pos_of left (drop i (word_text word)) ≡ truncate_end_pos_of limit (word_text word)
  pub width : (limit - left) + truncate_end_width left (drop i (word_text word)) ≡ truncate_end_width limit (word_text word)
  pub small : limit - left ≤ 2 * i

pub search_start : (word : List ℕ) (limit : ℕ) → Search word limit 0 limit
search_start word limit = record { within = omega arith; left_within = omega arith; place = omega arith; width = omega arith; small = omega arith }

module _ (word : List ℕ) (limit i left : ℕ) (S : Search word limit i left) where
  module _ (g : Seen) (e : Some g ≡ seen_of (chars (drop i (word_text word)))) where
    -- one more character in the head
    pub search_more : g.width ≤ left → g.width ≤ 2 → Search word limit (i + g.len) (left - g.width)
    search_more h two =
        let k = kept_more (word_text word) i g e left h in
        let some = seen_some (word_text word) i g e in
        record {
          within = seen_inside (word_text word) i g e;
          left_within = omega (arith, S.left_within);
          place = omega (arith, k.0, S.place);
          width = omega (arith, k.1, S.width, S.left_within);
          small = omega (arith, S.small, S.left_within, some);
        }

    -- the character would pass the width
    pub search_pass : left < g.width → (i ≡ truncate_end_pos_of limit (word_text word)) × (limit - left ≡ truncate_end_width limit (word_text word))
    search_pass h = let k = kept_pass (word_text word) i g e left h in (omega (arith, k.0, S.place), omega (arith, k.1, S.width))

  -- the word ends
  pub search_end : None ≡ seen_of (chars (drop i (word_text word))) → (i ≡ truncate_end_pos_of limit (word_text word)) × (limit - left ≡ truncate_end_width limit (word_text word))
  search_end e = let k = kept_end (word_text word) i e left in (omega (arith, k.0, S.place), omega (arith, k.1, S.width))

-- ── a line under way: `word` is left of the data d from `here` on; the line began at `at`, its last word ends at `stop`, and it is `shown` wide up to there; `run` is used
pub record State (d : List ℕ) (at w : ℕ) (b : Bool) (word : List ℕ) (here stop shown run : ℕ) (first : Bool) : Type 0 where
  pub is : word ≡ drop here d
  pub within : here ≤ length d
  pub past : at ≤ here
  pub low : at ≤ stop
  pub high : stop ≤ here
  pub small : run ≤ 2 * (here - at)
  pub small_shown : shown ≤ 2 * (stop - at)
  pub some : first ≡ false → at < here
  pub lines : rest_lines w b at (drop at d) ≡ going w b first at stop here run word
  -- a character ends here, and what is used is the width of what was read
  pub seam : Seam (drop at d) (here - at)
  pub wide_run : run ≡ text_width_of (take (here - at) (drop at d))
  pub wide_shown : shown ≡ line_width d (line_of at stop)

pub state_start : (d : List ℕ) (at w : ℕ) (b : Bool) → at ≤ length d → State d at w b (take (length d - at) (drop at d)) at at 0 0 true
state_start d at w b h =
    let z : at - at ≡ 0 = omega arith in
    record {
      is = part_to_end d at;
      within = h;
      past = omega arith;
      low = omega arith;
      high = omega arith;
      small = omega arith;
      small_shown = omega arith;
      some = λ e. absurd (false≢true (sym e));
      lines = rw
          (part_to_end d at) (rest_start w b at (drop at d));
      seam = rw z (seam_start (drop at d));
      wide_run = rw z (sym width_none);
      wide_shown = rw z (sym width_none);
    }

module _ (d : List ℕ) (at w : ℕ) (b : Bool) (word : List ℕ) (here stop shown run : ℕ) (first : Bool) (S : State d at w b word here stop shown run first) where
  pub left_len_lem : here + length word ≡ length d
  left_len_lem = omega (arith, ap length S.is, length-drop here d, S.within)

  -- the sizes of the head at the front
  pub sizes : (m n width : ℕ) → n ≡ head_len m word → width ≡ head_width m word → (n ≤ length word) × (width ≤ 2 * n) × (run + width ≤ 2 * length d)
  sizes m n width e f =
      let a : n ≤ length word = omega (arith, e, head_in m word, text_le word) in
      let q : width ≤ 2 * n = omega (arith, e, f, head_width_lem m word) in
      (a, q, omega (arith, left_len_lem, S.small, S.past))

  pub moves : (m n k : ℕ) → in_line_text word ≡ true → n ≡ head_len m word → k ≡ space_len (drop n word) → 1 ≤ n + k
  moves m n k i e f = rw (f, e) (step_some m word (in_line_lem word i))

  -- the width up to the head's end, and up to the next word
  module _ (m n width k : ℕ) (en : n ≡ head_len m word) (ew : width ≡ head_width m word) (ek : k ≡ space_len (drop n word)) (h : n + k ≤ length word) where
    pub further : (Seam (drop at d) ((here + (n + k)) - at)) × (run + width ≡ line_width d (line_of at (here + n))) × ((run + width) + k ≡ text_width_of (take ((here + (n + k)) - at) (drop at d)))
    further =
        let s : List ℕ = drop at d in
        let p : ℕ = here - at in
        let long : length s ≡ p + length word = omega (arith, length-drop at d, left_len_lem, S.past) in
        let to_word : at + p ≡ here = omega (arith, S.past) in
        let to_end : (here + n) - at ≡ p + n = omega (arith, S.past) in
        let to-next : (here + (n + k)) - at ≡ (p + n) + k = omega (arith, S.past) in
        let front : drop p s ≡ word = drop-drop p at d ∙ ap (λ (x : ℕ). drop x d) to_word ∙ sym S.is in
        let behind : drop (p + n) s ≡ drop n word = sym (drop-drop n p s) ∙ ap (drop n) front in
        let head : Seam word n × (text_width_of (take n word) ≡ width) = rw (en, ew) (head_seam m word) in
        let gap : Seam (drop n word) k × (text_width_of (take k (drop n word)) ≡ k) = rw ek (gap_seam (drop n word)) in
        let x = seam_next s p n (omega (arith, long, h)) S.seam (rw front head.0) in
        let y = seam_next s (p + n) k (omega (arith, long, h)) x.0 (rw behind gap.0) in
        let e : run + width ≡ text_width_of (take (p + n) s) = omega (arith, S.wide_run, x.1, ap (λ (r : List ℕ). text_width_of (take n r)) front, head.1) in (
          rw to-next y.0,
          rw to_end e,
          rw to-next (omega (arith, e, y.1, ap (λ (r : List ℕ). text_width_of (take k r)) behind, gap.1)),
        )

  module _ (n width k : ℕ) (s : 2 * length d ≤ unreached) (i : in_line_text word ≡ true) (en : n ≡ head_len (limit_of_line w b) word) (ew : width ≡ head_width (limit_of_line w b) word) where
    s' : 2 * length word ≤ unreached
    s' = omega (arith, left_len_lem, s)

    -- the head goes on the line
    pub state_next : k ≡ space_len (drop n word) → n + k ≤ length word → (first || leb (run + width) w) ≡ true
        → State d at w b (take (length word - (n + k)) (drop (n + k) word)) (here + (n + k)) (here + n) (run + width) ((run + width) + k) false
    state_next ek h f =
        let g = going_step w b at stop here run word n width k s' (in_line_lem word i) en ew ek first f in
        let p : here + n + k ≡ here + (n + k) = omega arith in
        let z = sizes (limit_of_line w b) n width en ew in
        let x = further (limit_of_line w b) n width k en ew ek h in
        record {
          is = part_to_end word (n + k) ∙ ap (drop (n + k)) S.is ∙ drop-drop (n + k) here d;
          within = omega (arith, left_len_lem);
          past = omega (arith, S.past);
          low = omega (arith, S.past);
          high = omega arith;
          small = omega (arith, z, S.small, S.past);
          small_shown = omega (arith, z, S.small, S.past);
          some = λ e. omega (arith, S.past, moves (limit_of_line w b) n k i en ek);
          lines = S.lines ∙ rw (part_to_end word (n + k), ← p) g;
          seam = x.0;
          wide_run = x.2;
          wide_shown = x.1;
        }

-- what `next_line` promises of its answer
abbrev pub Promise : List ℕ → ℕ → ℕ → Bool → Next → Type 0
Promise d at w b r = (rest_lines w b at (drop at d) ≡ line_of at r.end ∷ following w b d r)
    × ((at ≤ r.end) × (r.end ≤ length d) × IfSome r.next (λ n. (n ≤ length d) × (at < n) × (r.end ≤ n)))
    × ((r.width ≡ line_width d (line_of at r.end)) × (r.width ≤ 2 * (r.end - at)))

-- the line of the data ends here
pub state_end : (d : List ℕ) (at w : ℕ) (b : Bool) (word : List ℕ) (here stop shown run : ℕ) (first : Bool) → State d at w b word here stop shown run first → in_line_text word ≡ false
    → Promise d at w b (after_line_of stop shown here word)
unfolding after_line_of in_line_text
state_end d at w b [] here stop shown run first S i =
    (S.lines ∙ going_last w b first at stop here run, (S.low, omega (arith, S.high, S.within), tt), (S.wide_shown, S.small_shown))
state_end d at w b (x ∷ word) here stop shown run first S i = go (eqb x 0x0A) refl i
  where
    go : (t : Bool) → eqb x 0x0A ≡ t → not t ≡ false → Promise d at w b (record { end = stop; width = shown; next = Some (cond t (here + 1) here) })
    go false e k = absurd (false≢true (sym k))
    go true e k =
        let r : drop (here + 1) d ≡ word = sym (drop-drop 1 here d) ∙ rw (← S.is) in
        let l : here + 1 ≤ length d = omega (arith, ap length S.is, length-drop here d) in (
          S.lines ∙ rw r (going_line w b first at stop here run x word (eqb-true x 0x0A e)),
          (S.low, omega (arith, S.high, S.within), (l, omega (arith, S.past), omega (arith, S.high))),
          (S.wide_shown, S.small_shown),
        )

after_in : (end width here : ℕ) (s : List ℕ) → in_line_text s ≡ true → after_line_of end width here s ≡ record { end = end; width = width; next = Some here }
unfolding after_line_of in_line_text
after_in end width here [] h = absurd (false≢true h)
after_in end width here (x ∷ s) h = go (eqb x 0x0A) h
  where
    go : (t : Bool) → not t ≡ true
        → ◌≡◌ {A = Next} (record { end = end; width = width; next = Some (cond t (here + 1) here) }) (record { end = end; width = width; next = Some here })
    go true k = absurd (false≢true k)
    go false k = refl

-- the next head does not fit
pub state_new : (d : List ℕ) (at w : ℕ) (b : Bool) (word : List ℕ) (here stop shown run : ℕ) (first : Bool) → State d at w b word here stop shown run first → (n width : ℕ)
    → 2 * length d ≤ unreached → in_line_text word ≡ true
    → n ≡ head_len (limit_of_line w b) word → width ≡ head_width (limit_of_line w b) word → (first || leb (run + width) w) ≡ false → Promise d at w b (after_line_of stop shown here word)
state_new d at w b word here stop shown run true S n width s i en ew f = absurd (false≢true (sym f))
state_new d at w b word here stop shown run false S n width s i en ew f =
    let p : 2 * length word ≤ unreached = omega (arith, left_len_lem d at w b word here stop shown run false S, s) in
    let g = going_new w b at stop here run word n width (space_len (drop n word)) p (in_line_lem word i) en ew refl f in
    rw (after_in stop shown here word i) (
      S.lines ∙ g ∙ ap (λ (x : List ℕ). line_of at stop ∷ rest_lines w b here x) S.is,
      (S.low, omega (arith, S.high, S.within), (S.within, S.some refl, S.high)),
      (S.wide_shown, S.small_shown),
    )

-- ── a head that is known not to fit before its end is found
head_not : (cut width : ℕ) (d : List ℕ) → eqb cut 0 ≡ false → (head_from cut width d).width ≡ width
unfolding head_from
head_not cut width d e = rw e

fit_head : (m : ℕ) (d : List ℕ) → 0 < truncate_end_pos_of m (word_text d) → truncate_end_width m (word_text d) ≡ head_width m d
fit_head m d h =
    sym (head_not (truncate_end_pos_of m (word_text d)) (truncate_end_width m (word_text d)) d (ne_eqb (truncate_end_pos_of m (word_text d)) 0 (λ e. omega arith)))
    ∙ (head_law m d (truncate_end_pos_of m (word_text d)) (truncate_end_width m (word_text d)) refl refl).1

not_fit : (first : Bool) (run part width w : ℕ) → (first || leb (run + part) w) ≡ false → part ≤ width → (first || leb (run + width) w) ≡ false
not_fit true run part width w e h = e
not_fit false run part width w e h = lt-leb (run + width) w (omega (arith, leb-false (run + part) w e))

pub state_early : (d : List ℕ) (at w : ℕ) (b : Bool) (word : List ℕ) (here stop shown run : ℕ) (first : Bool) → State d at w b word here stop shown run first → (m part : ℕ) → m ≡ limit_of_line w b
    → 2 * length d ≤ unreached
    → in_line_text word ≡ true → 0 < truncate_end_pos_of m (word_text word) → part ≤ truncate_end_width m (word_text word) → (first || leb (run + part) w) ≡ false → Promise d at w b (after_line_of stop shown here word)
state_early d at w b word here stop shown run first S m part e s i p q f =
    let h : part ≤ head_width (limit_of_line w b) word = rw e at (rw (fit_head m word p) at q) in
    state_new d at w b word here stop shown run first S (head_len (limit_of_line w b) word) (head_width (limit_of_line w b) word) s i refl refl (not_fit first run part (head_width (limit_of_line w b) word) w f h)
