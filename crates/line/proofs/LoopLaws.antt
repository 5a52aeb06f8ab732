-- The loop of `next_line` in its own variables: what is left, the bytes 20 behind the last head, the run, and whether a head may still come.
-- The idea: the place, the line's end and its width follow from these (`State`); where no head may come, the promise holds already.
use Prim.Native.Nat.{ℕ, ◌+◌, ◌-◌, ◌*◌, ◌≤◌, ◌<◌}
use native.Mathlib.Omega.{arith}
use mathlib.Core.Bool.{Bool, true, false, cond, ◌||◌, false≢true}
use mathlib.Core.Path.{◌≡◌, refl, sym, ap, subst, ◌∙◌}
use mathlib.Core.List.{List}
use lib.Dec.{leb, eqb}
use lib.ListN.{length, take, drop, length-drop}
use borrow.Author.Rules.{part_to_end}
use borrow.Author.Tests.{lt-leb, eqb-true}
use Rattle.std.specs.Prelude.{Some, None}
use Rattle.chars.specs.Chars.{chars}
use Rattle.chars.specs.Cut.{truncate_end_pos_of, truncate_end_width}
use Rattle.chars.specs.declared.Seen.{Seen}
use Rattle.line.specs.Rest.{word_text, space_len, unreached, limit_of_line, head_len, head_width}
use Rattle.line.specs.Line.{seen_of, head_from, room_of_state, in_line_text, goes_on_in, after_line_of}
use Rattle.line.specs.declared.Head.{Head}
use Rattle.line.proofs.LineLaws.{Search, search_end, search_pass, head_law, State, Promise, state_start, state_next, state_end, state_new, state_early}
use Rattle.line.proofs.RoomLaws.{limit_ge, cut_full}

-- the same search, with what is left in other words
pub search_as : (word : List ℕ) (limit i left left' : ℕ) → left ≡ left' → Search word limit i left → Search word limit i left'
search_as word limit i left left' e S = subst (λ (x : ℕ). Search word limit i x) e S

-- the same state, with its numbers in other words
restated : (d : List ℕ) (at w : ℕ) (b : Bool) (word : List ℕ) (here stop shown run here' stop' shown' run' : ℕ) (first : Bool)
    → here ≡ here' → stop ≡ stop' → shown ≡ shown' → run ≡ run' → State d at w b word here stop shown run first → State d at w b word here' stop' shown' run' first
restated d at w b word here stop shown run here' stop' shown' run' first p q r s S =
    subst (λ (x : ℕ). State d at w b word here' stop' shown' x first) s
    (subst (λ (x : ℕ). State d at w b word here' stop' x run first) r
    (subst (λ (x : ℕ). State d at w b word here' x shown run first) q (subst (λ (x : ℕ). State d at w b word x stop shown run first) p S)))

pub record Words (d : List ℕ) (at w : ℕ) (b : Bool) (word : List ℕ) (gap run : ℕ) (first going : Bool) : Type 0 where
  pub state : State d at w b word (length d - length word) ((length d - length word) - gap) (run - gap) run first
  pub left : length word ≤ length d
  pub gap_here : gap ≤ length d - length word
  pub gap_run : gap ≤ run
  pub goes : going ≡ true → in_line_text word ≡ true
  pub over : going ≡ false → Promise d at w b (after_line_of ((length d - length word) - gap) (run - gap) (length d - length word) word)

pub words_start : (d : List ℕ) (at w : ℕ) (b : Bool) → at ≤ length d → in_line_text (take (length d - at) (drop at d)) ≡ true → Words d at w b (take (length d - at) (drop at d)) 0 0 true true
words_start d at w b h i =
    let n : length (take (length d - at) (drop at d)) ≡ length d - at = ap length (part_to_end d at) ∙ length-drop at d in
    let e : length d - length (take (length d - at) (drop at d)) ≡ at = omega (arith, n, h) in
    record {
      state = restated _ _ _ _ _ _ _ _ _ _ _ _ _ _ (sym e) (omega (arith, e)) (omega arith) (omega arith) (state_start d at w b h);
      left = omega (arith, n);
      gap_here = omega arith;
      gap_run = omega arith;
      goes = λ _. i;
      over = λ f. absurd (false≢true (sym f));
    }

goes_in : (k : ℕ) (u : List ℕ) → goes_on_in k u ≡ true → in_line_text u ≡ true
unfolding goes_on_in
goes_in k u e = go (eqb k 0) e
  where
    go : (q : Bool) → cond q false (in_line_text u) ≡ true → in_line_text u ≡ true
    go true e = absurd (false≢true e)
    go false e = e

module _ (d : List ℕ) (at w : ℕ) (b : Bool) (word : List ℕ) (gap run : ℕ) (first going : Bool) (W : Words d at w b word gap run first going) (s : 2 * length d ≤ unreached) (t : going ≡ true) where
  module _ (n width : ℕ) (en : n ≡ head_len (limit_of_line w b) word) (ew : width ≡ head_width (limit_of_line w b) word) where
    -- the head does not fit
    pub words_new : (first || leb (run + width) w) ≡ false → Promise d at w b (after_line_of ((length d - length word) - gap) (run - gap) (length d - length word) word)
    words_new f = state_new d at w b word _ _ _ run first W.state n width s (W.goes t) en ew f

    -- no head comes after one that was cut off its word, or where the data's line ends
    words_over : (k : ℕ) (u : List ℕ) (here stop shown more : ℕ) → State d at w b u here stop shown more false → width ≤ more → w ≤ unreached → k ≡ space_len (drop n word)
        → u ≡ drop (n + k) word → goes_on_in k u ≡ false → Promise d at w b (after_line_of stop shown here u)
    unfolding goes_on_in
    words_over k u here stop shown more S wide small ek eu g = go (in_line_text u) refl (eqb k 0) refl g
      where
        go : (i : Bool) → in_line_text u ≡ i → (z : Bool) → eqb k 0 ≡ z → cond z false i ≡ false → Promise d at w b (after_line_of stop shown here u)
        go false e z f h = state_end d at w b u here stop shown more false S e
        go true e false f h = absurd (false≢true (sym h))
        go true e true f h =
            let none : k ≡ 0 = eqb-true k 0 f in
            let m : n + k ≡ n = omega (arith, none) in
            let v : u ≡ drop n word = eu ∙ ap (λ (x : ℕ). drop x word) m in
            let full : limit_of_line w b < width + head_width (limit_of_line w b) u =
            rw v (cut_full (limit_of_line w b) n width word en ew (sym ek ∙ none) (sym (ap in_line_text v) ∙ e)) in
            state_new d at w b u here stop shown more false S (head_len (limit_of_line w b) u) (head_width (limit_of_line w b) u) s e refl refl
            (lt-leb (more + head_width (limit_of_line w b) u) w (omega (arith, full, wide, limit_ge w b small)))

    -- the head goes on the line, with k bytes 20 behind it
    pub words_next : (k : ℕ) (g : Bool) → w ≤ unreached → k ≡ space_len (drop n word) → n + k ≤ length word → (first || leb (run + width) w) ≡ true
        → g ≡ goes_on_in k (take (length word - (n + k)) (drop (n + k) word))
        → Words d at w b (take (length word - (n + k)) (drop (n + k) word)) k (run + (width + k)) false g
    words_next k g small ek h f eg =
        let word' : List ℕ = take (length word - (n + k)) (drop (n + k) word) in
        let l : length word' ≡ length word - (n + k) = ap length (part_to_end word (n + k)) ∙ length-drop (n + k) word in
        let here : (length d - length word) + (n + k) ≡ length d - length word' = omega (arith, l, h, W.left) in
        let stop : (length d - length word) + n ≡ (length d - length word') - k = omega (arith, here) in
        let S = restated d at w b word' _ _ _ _ (length d - length word') ((length d - length word') - k) ((run + (width + k)) - k) (run + (width + k)) false here stop (omega arith) (omega arith)
        (state_next d at w b word _ _ _ run first W.state n width k s (W.goes t) en ew ek h f) in
        record {
          state = S;
          left = omega (arith, l, W.left);
          gap_here = omega (arith, here);
          gap_run = omega arith;
          goes = λ e. goes_in k word' (sym eg ∙ e);
          over = λ e. words_over k word' _ _ _ (run + (width + k)) S (omega arith) small ek (part_to_end word (n + k)) (sym eg ∙ e);
        }

  -- the head is known not to fit before its end is found: what is read of it, and the next character, pass the room
  pub words_early : (m part : ℕ) → m ≡ limit_of_line w b → 0 < truncate_end_pos_of m (word_text word) → part ≤ truncate_end_width m (word_text word) → (first || leb (run + part) w) ≡ false
      → Promise d at w b (after_line_of ((length d - length word) - gap) (run - gap) (length d - length word) word)
  words_early m part e p q f = state_early d at w b word _ _ _ run first W.state m part e s (W.goes t) p q f

-- h is the first head of the word
abbrev pub IsHead : ℕ → Bool → List ℕ → Head → Type 0
IsHead w b word h = (h.len ≡ head_len (limit_of_line w b) word) × (h.width ≡ head_width (limit_of_line w b) word)

-- the head that is taken: `left` is left of the room, so the search has used the rest of it
module _ (w : ℕ) (b : Bool) (word : List ℕ) (limit room i left cut : ℕ) (head : Head) (m : limit ≡ limit_of_line w b) (S : Search word limit i (limit - (room - left)))
    (within : left ≤ room) (narrow : room ≤ limit) (at : cut ≡ i) (h : head ≡ head_from cut (room - left) word) where
  taken : (i ≡ truncate_end_pos_of limit (word_text word)) × (limit - (limit - (room - left)) ≡ truncate_end_width limit (word_text word))
      → IsHead w b word head
  taken z =
      let used : limit - (limit - (room - left)) ≡ room - left = omega (arith, within, narrow) in
      rw (h, ← m) (head_law limit word cut (room - left) (at ∙ z.0) (sym used ∙ z.1))

  -- the word ends there
  pub head_end : None ≡ seen_of (chars (drop i (word_text word))) → IsHead w b word head
  head_end e = taken (search_end word limit i (limit - (room - left)) S e)

  -- the character there passes the width to break at
  pub head_pass : (g : Seen) → Some g ≡ seen_of (chars (drop i (word_text word))) → limit - (room - left) < g.width → IsHead w b word head
  head_pass g e p = taken (search_pass word limit i (limit - (room - left)) S g e p)

-- a character that passes the room but not the width to break at: the line has a head already, and it does not take this one
pub past_room : (first : Bool) (run w limit room part : ℕ) → room ≡ room_of_state first run w limit → room < part → part ≤ limit → (first || leb (run + part) w) ≡ false
unfolding room_of_state
past_room true run w limit room part e p q = absurd (omega (arith, e, p, q))
past_room false run w limit room part e p q = lt-leb (run + part) w (omega (arith, e, p))
