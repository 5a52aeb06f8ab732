-- Where tabs land, said of the result's own bytes (`tabs_land`, the statement of `specs/TabStops.antt`).
-- The idea: the line that the result has so far is carried along with the characters (`Closed` of TabLaws.antt), and the definition's column is its width at every character.
use Prim.Native.Nat.{ℕ, suc, ◌+◌, ◌*◌, ◌/◌, ◌%◌, ◌≤◌, ◌<◌}
use native.Mathlib.Nat.{mod-lt, div-add-mod', lt_of_mul-lt-mul_right, mul-le-mul_right, suc-mul}
use native.Mathlib.Omega.{arith}
use mathlib.Core.Bool.{Bool, true, false, cond}
use mathlib.Core.Path.{◌≡◌, refl, sym, ap, ◌∙◌}
use mathlib.Core.List.{List, [], ◌∷◌, ◌++◌, append_assoc, append-nil}
use lib.Dec.{eqb}
use lib.ListN.{length, get_or}
use lib.Seq.{take-append_seam, drop-append_seam}
use borrow.Author.Tests.{ne_eqb, eq-eqb}
use Rattle.chars.specs.Chars.{Character, chars, bytes_of, wide, text_width_of}
use Rattle.chars.proofs.CharsLaws.{bytes-chars, Read, Valid, valid-chars}
use Rattle.chars.proofs.SeamLaws.{width_none, chars_low}
use Rattle.recording.specs.Recording.{Bytes, Recording, Item, byte_items, items, encode}
use Rattle.recording.specs.Edit.{Op, keep, skip, put, front, back, edit, edit_data}
use Rattle.recording.specs.Outcome.{Room}
use Rattle.recording.proofs.EditLaws.{front_with_back}
use Rattle.recording.proofs.ItemsLaws.{data_bytes_lem, items-encode}
use Rattle.layout.specs.Tabs.{spaces_at_column, spaces, leads_with, column_after, char_ops, tab_ops, column_behind}
use Rattle.layout.specs.TabStops.{LeastMultipleAbove, last_of, last_line_of, NoTab, expanded, tabs_call, TabLands, TabStops, TabsLand}
use Rattle.layout.specs.Layout.{expand_tabs, result_items, refusal, after}
use Rattle.layout.specs.Wrap.{onto_first, split_lines}
use Rattle.layout.proofs.ListLaws.{after_done, after_refused}
use Rattle.layout.proofs.StripLaws.{result_data_lem, result_data}
use Rattle.layout.proofs.LineLaws.{some_lines, before_first, nil_first, first_onto}
use Rattle.layout.proofs.TabLaws.{some_spaces, Plain, spaces-plain, Sort, tab, newline, other, sort, width_line, Closed, closed_start, closed_more, closed_new, closed_spaces, column_tab, column_new, column_more, tab_char, chars_tab}

-- ── the least multiple above a column
pub least_stop : (s c : ℕ) → 1 ≤ s → LeastMultipleAbove s c (c + spaces_at_column s c)
least_stop s c h =
    let q : ℕ = c / s in
    let l : c % s < s = mod-lt c h in
    let d : q * s + c % s ≡ c = div-add-mod' c s in
    let e : suc q * s ≡ q * s + s = suc-mul q s in
    let m : c + spaces_at_column s c ≡ suc q * s = omega (arith, l, d, e) in
    record {
      times = suc q;
      multiple = m;
      above = omega (arith, l);
      least = λ k g.
          let j : q < k = lt_of_mul-lt-mul_right s (omega (arith, d, g)) in
          omega (arith, m, mul-le-mul_right s j);
    }

-- ── the last line of a text, from its bytes in order
abbrev line_from : Bytes → Bytes → Bytes
line_from line [] = line
line_from line (b ∷ d) = line_from (cond (eqb b 0x0A) [] (line ++ (b ∷ []))) d

last_skip : (l : Bytes) (ls : List Bytes) → 0 < length ls → last_of (l ∷ ls) ≡ last_of ls
last_skip l [] h = absurd (omega arith)
last_skip l (k ∷ ls) h = refl

line_from_lem : (line d : Bytes) → line_from line d ≡ last_of (before_first line (split_lines d))
line_from_lem line [] = sym (append-nil line)
line_from_lem line (b ∷ d) = go (eqb b 0x0A) (λ l. line_from_lem l d)
  where
    go : (t : Bool) → ((l : Bytes) → line_from l d ≡ last_of (before_first l (split_lines d)))
        → line_from (cond t [] (line ++ (b ∷ []))) d ≡ last_of (before_first line (cond t ([] ∷ split_lines d) (onto_first b (split_lines d))))
    go true f = f [] ∙ ap last_of (nil_first (split_lines d) (some_lines d)) ∙ sym (last_skip (line ++ []) (split_lines d) (some_lines d))
    go false f = f (line ++ (b ∷ [])) ∙ ap last_of (sym (first_onto line b (split_lines d)))

last_line : (d : Bytes) → line_from [] d ≡ last_line_of d
unfolding last_line_of
last_line d = line_from_lem [] d ∙ ap last_of (nil_first (split_lines d) (some_lines d))

line_append : (line x y : Bytes) → line_from line (x ++ y) ≡ line_from (line_from line x) y
line_append line [] y = refl
line_append line (b ∷ x) y = line_append (cond (eqb b 0x0A) [] (line ++ (b ∷ []))) x y

line_plain : (line t : Bytes) → Plain t → line_from line t ≡ line ++ t
line_plain line [] h = sym (append-nil line)
line_plain line (b ∷ t) h = rw (ne_eqb b 0x0A h.1) (line_plain (line ++ (b ∷ [])) t h.2 ∙ append_assoc line (b ∷ []) t)

-- ── what the edit of one character leaves, before what is left of the characters after it
left_tab : (n : ℕ) (ops : List Op) (d : Bytes) → edit_data (put (byte_items (spaces n)) ∷ skip 1 ∷ ops) (0x09 ∷ d) ≡ spaces n ++ edit_data ops d
left_tab n ops d = rw (data_bytes_lem (spaces n))

left_kept : (t : Bytes) (ops : List Op) (d : Bytes) → edit_data (keep (length t) ∷ ops) (t ++ d) ≡ t ++ edit_data ops d
left_kept t ops d = rw (take-append_seam t d, drop-append_seam t d)

-- what a character leaves
abbrev leaves_of : ℕ → ℕ → Character → Bytes
leaves_of s c ch = cond (leads_with 0x09 ch) (spaces (spaces_at_column s c)) ch.text

left_char : (s c : ℕ) (ch : Character) (ops : List Op) (d : Bytes) → Sort ch → edit_data (char_ops s c ch ++ ops) (ch.text ++ d)
    ≡ leaves_of s c ch ++ edit_data ops d
left_char s c ch ops d (tab t x) = rw (t, x) (left_tab (spaces_at_column s c) ops d)
left_char s c ch ops d (newline t u x) = rw t (left_kept ch.text ops d)
left_char s c ch ops d (other t u x) = rw t (left_kept ch.text ops d)

-- ── no tab is left
no_tab_append : (x y : Bytes) → NoTab x → NoTab y → NoTab (x ++ y)
no_tab_append [] y h g = g
no_tab_append (b ∷ x) y h g = (h.0, no_tab_append x y h.1 g)

plain_no_tab : (t : Bytes) → Plain t → NoTab t
plain_no_tab [] h = tt
plain_no_tab (b ∷ t) h = (h.0, plain_no_tab t h.2)

char_no_tab : (s c : ℕ) (ch : Character) → Sort ch → NoTab (leaves_of s c ch)
char_no_tab s c ch (tab t x) = rw t (plain_no_tab (spaces (spaces_at_column s c)) (spaces-plain (spaces_at_column s c)))
char_no_tab s c ch (newline t u x) = rw (t, x) (λ z. omega (arith, z), tt)
char_no_tab s c ch (other t u x) = rw t (plain_no_tab ch.text x)

no_tab : (s c : ℕ) (cs : List Character) → Valid cs → NoTab (edit_data (tab_ops s c cs) (bytes_of cs))
no_tab s c [] v = tt
no_tab s c (ch ∷ cs) v =
    let S = sort ch (bytes_of cs) v.0 in
    rw (left_char s c ch (tab_ops s (column_after s c ch) cs) (bytes_of cs) S)
    (no_tab_append (leaves_of s c ch) _ (char_no_tab s c ch S) (no_tab s (column_after s c ch) cs v.1))

-- ── without a tab nothing changes
no_tab_rest : (x y : Bytes) → NoTab (x ++ y) → NoTab y
no_tab_rest [] y h = h
no_tab_rest (b ∷ x) y h = no_tab_rest x y h.1

not_tab : (ch : Character) (rest d : Bytes) → Read ch rest → NoTab (ch.text ++ d) → leads_with 0x09 ch ≡ false
not_tab ch rest d R h = ne_eqb (get_or ch.text 0 0) 0x09 (λ z. (rw R.text at h).0 (sym (ap (λ (t : List ℕ). get_or t 0 0) R.text) ∙ z))

kept_whole : (s c : ℕ) (cs : List Character) → Valid cs → NoTab (bytes_of cs) → (is : List Item) → edit (tab_ops s c cs) is ≡ is
kept_whole s c [] v h is = refl
kept_whole s c (ch ∷ cs) v h is =
    let n : ℕ = length ch.text in
    rw (not_tab ch (bytes_of cs) (bytes_of cs) v.0 h)
    (ap (λ (l : List Item). front n is ++ l) (kept_whole s (cond (leads_with 0x0A ch) 0 (c + wide ch)) cs v.1 (no_tab_rest ch.text (bytes_of cs) h) (back n is)) ∙ front_with_back n is)

-- ── the column is the width of the line so far
column_law : (s : ℕ) → 1 ≤ s → (line : Bytes) (cs : List Character) → Valid cs → Closed line cs
    → column_behind s (text_width_of line) cs ≡ text_width_of (line_from line (edit_data (tab_ops s (text_width_of line) cs) (bytes_of cs)))
column_law s h line [] v k = refl
column_law s h line (ch ∷ cs) v k = go (sort ch (bytes_of cs) v.0) (λ l j. column_law s h l cs v.1 j)
  where
    c : ℕ
    c = text_width_of line

    Later : Type 0
    Later = (l : Bytes) → Closed l cs → column_behind s (text_width_of l) cs ≡ text_width_of (line_from l (edit_data (tab_ops s (text_width_of l) cs) (bytes_of cs)))

    -- the line after what the character leaves is l
    join : (l : Bytes) → Sort ch → column_after s c ch ≡ text_width_of l → line_from line (leaves_of s c ch) ≡ l → Closed l cs → Later
        → column_behind s c (ch ∷ cs) ≡ text_width_of (line_from line (edit_data (tab_ops s c (ch ∷ cs)) (bytes_of (ch ∷ cs))))
    join l S p q j f =
        ap (λ (n : ℕ). column_behind s n cs) p ∙ f l j
        ∙ (λ i. text_width_of (line_from (sym q i) (edit_data (tab_ops s (sym p i) cs) (bytes_of cs))))
        ∙ ap text_width_of (sym (line_append line (leaves_of s c ch) (edit_data (tab_ops s (column_after s c ch) cs) (bytes_of cs))))
        ∙ ap (λ (x : Bytes). text_width_of (line_from line x)) (sym (left_char s c ch (tab_ops s (column_after s c ch) cs) (bytes_of cs) S))

    go : Sort ch → Later → column_behind s c (ch ∷ cs) ≡ text_width_of (line_from line (edit_data (tab_ops s c (ch ∷ cs)) (bytes_of (ch ∷ cs))))
    go (tab t x) f =
        let n : ℕ = spaces_at_column s c in
        join (line ++ spaces n) (tab t x) (column_tab s line ch h t) (rw t (line_plain line (spaces n) (spaces-plain n))) (closed_spaces line ch cs k n (some_spaces s c h).0) f
    go (newline t u x) f = join [] (newline t u x) (column_new s line ch t u) (rw (t, x)) (closed_new line ch cs k) f
    go (other t u x) f =
        join (line ++ ch.text) (other t u x) (column_more s line ch cs k t u) (rw t (line_plain line ch.text x)) (closed_more line ch cs k) f

pub column_is : (s : ℕ) → 1 ≤ s → (x : Bytes) → column_behind s 0 (chars x) ≡ text_width_of (last_line_of (expanded s x))
column_is s h x =
    let e = column_law s h [] (chars x) (valid-chars x) (closed_start x) in
    (rw (width_none, bytes-chars x) at e) ∙ ap text_width_of (last_line (expanded s x))

-- ── the data before a tab, the tab and the data behind it
tab_append : (s c : ℕ) (xs ys : List Character) → tab_ops s c (xs ++ ys) ≡ tab_ops s c xs ++ tab_ops s (column_behind s c xs) ys
tab_append s c [] ys = refl
tab_append s c (ch ∷ xs) ys =
    ap (λ (l : List Op). char_ops s c ch ++ l) (tab_append s (column_after s c ch) xs ys) ∙ sym (append_assoc (char_ops s c ch) (tab_ops s (column_after s c ch) xs) (tab_ops s (column_behind s (column_after s c ch) xs) ys))

edit-append : (s c : ℕ) (xs : List Character) (ops : List Op) (d : Bytes) → Valid xs → edit_data (tab_ops s c xs ++ ops) (bytes_of xs ++ d) ≡ edit_data (tab_ops s c xs) (bytes_of xs) ++ edit_data ops d
edit-append s c [] ops d v = refl
edit-append s c (ch ∷ xs) ops d v =
    let S = sort ch (bytes_of xs) v.0 in
    let a : Bytes = leaves_of s c ch in
    let later : List Op = tab_ops s (column_after s c ch) xs in
    rw (append_assoc (char_ops s c ch) later ops, append_assoc ch.text (bytes_of xs) d)
    (left_char s c ch (later ++ ops) (bytes_of xs ++ d) S
    ∙ ap (λ (l : Bytes). a ++ l) (edit-append s (column_after s c ch) xs ops d v.1)
    ∙ sym (append_assoc a (edit_data later (bytes_of xs)) (edit_data ops d))
    ∙ ap (λ (l : Bytes). l ++ edit_data ops d) (sym (left_char s c ch later (bytes_of xs) S)))

pub tab_lands : (s : ℕ) → 1 ≤ s → (x y : Bytes) → TabLands s x y
tab_lands s h x y =
    let c : ℕ = column_behind s 0 (chars x) in
    let n : ℕ = spaces_at_column s c in
    let line : Bytes = last_line_of (expanded s x) in
    let w : c ≡ text_width_of line = column_is s h x in
    let l : last_line_of (expanded s x ++ spaces n) ≡ line ++ spaces n =
    sym (last_line (expanded s x ++ spaces n)) ∙ line_append [] (expanded s x) (spaces n) ∙ ap (λ (z : Bytes). line_from z (spaces n)) (last_line (expanded s x))
    ∙ line_plain line (spaces n) (spaces-plain n) in
    let v : text_width_of (last_line_of (expanded s x ++ spaces n)) ≡ c + n = ap text_width_of l ∙ width_line line n (some_spaces s c h).0 ∙ ap (λ (z : ℕ). z + n) (sym w) in
    let e : chars (x ++ (0x09 ∷ y)) ≡ chars x ++ (tab_char ∷ chars y) = chars_low x (0x09 ∷ y) (omega arith) ∙ ap (λ (z : List Character). chars x ++ z) (chars_tab y) in
    record {
      count = n;
      stands =
          ap (λ (z : List Character). edit_data (tab_ops s 0 z) (x ++ (0x09 ∷ y))) e
          ∙ ap (λ (z : List Op). edit_data z (x ++ (0x09 ∷ y))) (tab_append s 0 (chars x) (tab_char ∷ chars y))
          ∙ (rw (bytes-chars x) at (edit-append s 0 (chars x) (tab_ops s c (tab_char ∷ chars y)) (0x09 ∷ y) (valid-chars x)))
          ∙ ap (λ (z : Bytes). expanded s x ++ z) (left_tab n (tab_ops s (c + n) (chars y)) y ∙ ap (λ (z : ℕ). spaces n ++ edit_data (tab_ops s z (chars y)) y) (sym v));
      lands = rw (v, ← w) (least_stop s c h);
    }

-- ── over calls
module _ (s : ℕ) (h : 1 ≤ s) where
  left_data : (o : Room) (r : Recording) → refusal (tabs_call s o) r ≡ 0 → (after (tabs_call s o) r).data_bytes ≡ expanded s r.data_bytes
  unfolding encode result_data
  left_data o r z = rw (after_done (tabs_call s o) r (eq-eqb (refusal (tabs_call s o) r) 0 z)) (result_data_lem (expand_tabs s) r tt)

  none_left : (d : Bytes) → NoTab (expanded s d)
  none_left d = rw (bytes-chars d) at (no_tab s 0 (chars d) (valid-chars d))

  same_again : (s' : ℕ) (is : List Item) → NoTab (encode is).data_bytes → result_items (expand_tabs s') (encode is) ≡ is
  unfolding result_items
  same_again s' is g =
      kept_whole s' 0 (chars (encode is).data_bytes) (valid-chars (encode is).data_bytes) (rw (bytes-chars (encode is).data_bytes) g) (items (encode is)) ∙ items-encode is

  expanded_again : (o o' : Room) (s' : ℕ) (r : Recording) → refusal (tabs_call s o) r ≡ 0 → after (tabs_call s' o') (after (tabs_call s o) r) ≡ after (tabs_call s o) r
  expanded_again o o' s' r z = go (eqb (refusal (tabs_call s' o') (after (tabs_call s o) r)) 0) refl
    where
      x : List Item
      x = result_items (expand_tabs s) r

      is_left : after (tabs_call s o) r ≡ encode x
      is_left = after_done (tabs_call s o) r (eq-eqb (refusal (tabs_call s o) r) 0 z)

      go : (t : Bool) → eqb (refusal (tabs_call s' o') (after (tabs_call s o) r)) 0 ≡ t → after (tabs_call s' o') (after (tabs_call s o) r) ≡ after (tabs_call s o) r
      go true e =
          after_done (tabs_call s' o') (after (tabs_call s o) r) e
          ∙ ap (λ (q : Recording). encode (result_items (expand_tabs s') q)) is_left
          ∙ ap encode (same_again s' x (rw is_left at (rw (← left_data o r z) at (none_left r.data_bytes))))
          ∙ sym is_left
      go false e = after_refused (tabs_call s' o') (after (tabs_call s o) r) e

  pub tab_stops : TabStops s
  tab_stops =
      record {
        stop = λ c. least_stop s c h;
        leaves = left_data;
        tabs = λ x y. tab_lands s h x y;
        column = λ x. column_is s h x;
        none = none_left;
        again = expanded_again;
      }

pub tabs_land : TabsLand
tabs_land s h = tab_stops s h
