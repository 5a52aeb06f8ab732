-- Each call's coloured bytes are what its plain step makes of the content's, and balance is kept.
use Prim.Native.Nat.{ℕ, zero, suc, ◌+◌, ◌-◌, ◌≤◌, ◌<◌, ◌/◌}
use native.Mathlib.Omega.{arith}
use mathlib.Core.Bool.{Bool, true, false, cond, ◌&&◌, ◌||◌, not}
use mathlib.Core.Path.{◌≡◌, refl, sym, ap, ◌∙◌}
use mathlib.Core.List.{List, [], ◌∷◌, ◌++◌, append-nil, append_assoc}
use lib.Dec.{ltb, eqb}
use lib.ListN.{length, take, drop, get_or, drop_of_length-le}
use lib.Seq.{drop-drop, take-append_seam, drop-append_seam}
use borrow.Author.Tests.{ltb-false, ne_eqb}
use Rattle.chars.specs.Chars.{Character, chars, bytes_of, text_width_of}
use Rattle.chars.proofs.CharsLaws.{bytes-chars, Valid, valid-chars}
use Rattle.chars.proofs.SeamLaws.{width_none}
use Rattle.chars.specs.Cut.{truncate_end_pos_of, zero_width_len_of}
use Rattle.buffer.specs.Place.{part}
use Rattle.recording.specs.Coloured.{Coloured, coloured_from, coloured, balanced_from, balanced, none_inside_recording, values}
use Rattle.recording.specs.Edit.{keep, put, edit, labels_at, under, edit_coloured}
use Rattle.recording.specs.Recording.{Bytes, Recording, Item, byte_items, items}
use Rattle.recording.proofs.EditLaws.{Balanced, coloured-append, open_under, edit_law, edit_bal, bal_append}
use Rattle.recording.proofs.ItemsLaws.{values_of, values-take, values-drop}
use Rattle.recording.proofs.Lists.{or_left, or_right}
use Rattle.layout.specs.Layout.{own_fault, single_ops, trimmed_start_pos, cut_end_of, cut_start_of, padding, fill_count_of, indent_ops, wrap_ops, replace_ops, truncated_start}
use Rattle.layout.specs.Layout.{truncated_end, padded_start, padded_end, padded_centered, indented_lines, unindented_lines, wrapped_lines, replaced_parts}
use Rattle.layout.specs.Layout.{tabs_expanded, Job, with_second}
use Rattle.layout.specs.Layout.{alone, truncate_start, truncate_end, pad_start, pad_end, pad_centered, wrap, replace, expand_tabs, result_items, records_fault, stop_fault}
use Rattle.layout.specs.Plain.{times, with_labels, indented, wrapped, replaced, tabbed, step, told_of_job}
use Rattle.layout.specs.Tabs.{spaces_at_column, spaces, column_after, char_ops, tab_ops}
use Rattle.layout.specs.Theorem.{SecondOk}
use Rattle.layout.specs.Unindent.{unindent_ops, prefix_fault}
use Rattle.layout.specs.Wrap.{Line, split_lines, wrap_lines_of}
use Rattle.layout.specs.declared.Replacement.{Replacement}
use Rattle.layout.proofs.TabLaws.{some_spaces, Plain, Sort, tab, newline, other, sort, Closed, closed_start, closed_more, closed_new, closed_spaces, column_tab, column_new, column_more}
use Rattle.layout.proofs.PutLaws.{puts_indent, puts_unindent, puts_wrap, puts_replace, puts_tabs, puts_single}
use Rattle.layout.proofs.UnindentLaws.{byte_ops, by_bytes, puts_bytes, unindent_law, begin_long, no_prefix_fault}
use Rattle.layout.proofs.PadLaws.{flat, coloured-padding, bal_padding}

-- ── lists
pub length-values : (cs : List Coloured) → length (values cs) ≡ length cs
length-values [] = refl
length-values (c ∷ cs) = ap suc (length-values cs)

pub drop_on : (a b : ℕ) (cs : List Coloured) → a ≤ b → drop (b - a) (drop a cs) ≡ drop b cs
drop_on a b cs h = let e : a + (b - a) ≡ b = omega arith in drop-drop (b - a) a cs ∙ ap (λ (n : ℕ). drop n cs) e

pub drop-rest : (n k : ℕ) (cs : List Coloured) → length cs ≡ n → drop (n - k) (drop k cs) ≡ []
drop-rest n k cs e = let l : length cs ≤ k + (n - k) = omega arith in drop-drop (n - k) k cs ∙ drop_of_length-le cs l

-- ── two texts, one after the other
pub coloured_join : (a b : List Item) → balanced_from 0 a ≡ true → coloured_from [] (a ++ b) ≡ coloured_from [] a ++ coloured_from [] b
coloured_join a b h = rw (coloured-append [] a b, open_under [] [] a h)

pub bal_join : (a b : List Item) → balanced_from 0 a ≡ true → balanced_from 0 b ≡ true → balanced_from 0 (a ++ b) ≡ true
bal_join a b h g = bal_append 0 0 a b h g

coloured-cond : (t : Bool) (a b : List Item) (x y : List Coloured) → coloured_from [] a ≡ x → coloured_from [] b ≡ y → coloured_from [] (cond t a b) ≡ cond t x y
coloured-cond true a b x y p q = p
coloured-cond false a b x y p q = q

bal_cond : (t : Bool) (a b : List Item) → balanced_from 0 a ≡ true → balanced_from 0 b ≡ true → balanced_from 0 (cond t a b) ≡ true
bal_cond true a b p q = p
bal_cond false a b p q = q

-- ── cutting
from_law : (k : ℕ) (is : List Item) → balanced_from 0 is ≡ true → coloured_from [] (edit (cut_start_of k) is) ≡ drop k (coloured_from [] is)
from_law k is h = edit_law (cut_start_of k) [] is h tt

up_to_law : (k : ℕ) (d : Bytes) (is : List Item) → balanced_from 0 is ≡ true → length (coloured_from [] is) ≡ length d → coloured_from [] (edit (cut_end_of k d) is) ≡ take k (coloured_from [] is)
up_to_law k d is h e = edit_law (cut_end_of k d) [] is h tt ∙ rw (drop-rest (length d) k (coloured_from [] is) e) (append-nil _)

-- ── indenting
pub indent_law : (p : List Item) (start : Bool) (cs : List Coloured) → edit_coloured (indent_ops p start (values cs)) cs ≡ indented (coloured_from [] p) start cs
indent_law p start [] = refl
indent_law p start (c ∷ cs) = go (start && not (eqb c.val 0x0A)) (indent_law p (eqb c.val 0x0A) cs)
  where
    go : (t : Bool) → edit_coloured (indent_ops p (eqb c.val 0x0A) (values cs)) cs ≡ indented (coloured_from [] p) (eqb c.val 0x0A) cs
        → edit_coloured (cond t (put p ∷ []) [] ++ keep 1 ∷ indent_ops p (eqb c.val 0x0A) (values cs)) (c ∷ cs) ≡ cond t (under c.labels (coloured_from [] p)) [] ++ c
        ∷ indented (coloured_from [] p) (eqb c.val 0x0A) cs
    go true e = ap (λ (l : List Coloured). under c.labels (coloured_from [] p) ++ c ∷ l) e
    go false e = ap (λ (l : List Coloured). c ∷ l) e

-- ── replacing
pub bal_bytes : (d : Bytes) → balanced_from 0 (byte_items d) ≡ true
bal_bytes [] = refl
bal_bytes (b ∷ d) = bal_bytes d

pub under-bytes : (ls : List Bytes) (d : Bytes) → under ls (coloured_from [] (byte_items d)) ≡ with_labels ls d
under-bytes ls [] = refl
under-bytes ls (b ∷ d) = rw (append-nil ls, under-bytes ls d)

abbrev pub Sorted : ℕ → List Replacement → Type 0
Sorted at [] = Unit {0}
Sorted at (x ∷ xs) = (at ≤ x.start) × (x.start ≤ x.end) × Sorted x.end xs

pub sorted : (at n t : ℕ) (xs : List Replacement) → records_fault at n t xs ≡ 0 → Sorted at xs
sorted at n t [] h = tt
sorted at n t (x ∷ xs) h = go (ltb x.end x.start || ltb n x.end || ltb x.start at || ltb x.to x.from || ltb t x.to) refl h
    (λ e. sorted x.end n t xs e)
  where
    go : (b : Bool) → (ltb x.end x.start || ltb n x.end || ltb x.start at || ltb x.to x.from || ltb t x.to) ≡ b → cond b 8 (records_fault x.end n t xs) ≡ 0
        → (records_fault x.end n t xs ≡ 0 → Sorted x.end xs) → Sorted at (x ∷ xs)
    go true e g f = absurd (omega (arith, g))
    go false e g f =
        let e₁ = or_left (ltb x.end x.start || ltb n x.end || ltb x.start at || ltb x.to x.from) (ltb t x.to) e in
        let e₂ = or_left (ltb x.end x.start || ltb n x.end || ltb x.start at) (ltb x.to x.from) e₁ in
        let e₃ = or_left (ltb x.end x.start || ltb n x.end) (ltb x.start at) e₂ in (
          ltb-false x.start at (or_right (ltb x.end x.start || ltb n x.end) (ltb x.start at) e₂),
          ltb-false x.end x.start
              (or_left (ltb x.end x.start) (ltb n x.end) e₃),
          f g,
        )

pub replace_law : (t : Bytes) (at : ℕ) (xs : List Replacement) (cs : List Coloured) → Sorted at xs → edit_coloured (replace_ops t at xs) (drop at cs) ≡ replaced t at xs cs
replace_law t at [] cs h = refl
replace_law t at (x ∷ xs) cs h =
    rw (drop_on at x.start cs h.0, drop_on x.start x.end cs h.1, under-bytes (labels_at (drop x.start cs)) (part x.from x.to t), replace_law t x.end xs cs h.2)

-- ── wrapping
abbrev pub Ordered : ℕ → List Line → Type 0
Ordered at [] = Unit {0}
Ordered at (l ∷ ls) = (at ≤ l.first) × (l.first ≤ l.end) × Ordered l.end ls

pub wrap_law : (n at : ℕ) (l : Line) (ls : List Line) (cs : List Coloured) → length cs ≡ n → Ordered at (l ∷ ls) → edit_coloured (wrap_ops n at (l ∷ ls)) (drop at cs) ≡ wrapped (l ∷ ls) cs
wrap_law n at l [] cs e h =
    rw (drop_on at l.first cs h.0, drop_on l.first l.end cs h.1, drop-rest n l.end cs e) (append-nil _)
wrap_law n at l (m ∷ ls) cs e h =
    rw (drop_on at l.first cs h.0, drop_on l.first l.end cs h.1, wrap_law n l.end m ls cs e h.2, append-nil (labels_at (drop l.end cs)))

-- ── tabs
-- a stop that is not refused is not 0
some_stop : (s : ℕ) → stop_fault s ≡ 0 → 1 ≤ s
some_stop zero z = absurd (omega (arith, z))
some_stop (suc s) z = omega arith

-- bytes that are no tab and no 0A pass, and the line grows by them
plain_law : (s n : ℕ) (line : Bytes) (cs : List Coloured) → Plain (values (take n cs)) → tabbed s line cs ≡ take n cs ++ tabbed s (line ++ values (take n cs)) (drop n cs)
plain_law s zero line cs h = rw (append-nil line)
plain_law s (suc n) line [] h = refl
plain_law s (suc n) line (c ∷ cs) h =
    rw (ne_eqb c.val 0x09 h.0, ne_eqb c.val 0x0A h.1)
    (ap (λ (l : List Coloured). c ∷ l) (plain_law s n (line ++ (c.val ∷ [])) cs h.2 ∙ rw (append_assoc line (c.val ∷ []) (values (take n cs)))))

-- a byte at the front
pub record First (b : ℕ) (d : Bytes) (cs : List Coloured) : Type 0 where
  pub labels : List Bytes
  pub rest : List Coloured
  pub here : cs ≡ record { val = b; labels = labels } ∷ rest
  pub follow : values rest ≡ d

first_of : (b : ℕ) (d : Bytes) (cs : List Coloured) → values cs ≡ b ∷ d → First b d cs
first_of b d [] e = absurd (omega (arith, ap length e))
first_of b d (c ∷ cs) e =
    record { labels = c.labels; rest = cs; here = λ i. record { val = get_or (e i) 0 0; labels = c.labels } ∷ cs; follow = ap (λ (l : Bytes). drop 1 l) e }

-- character by character: the column is the width of the line so far
pub tab_law : (s : ℕ) → 1 ≤ s → (line : Bytes) (chs : List Character) → Valid chs → Closed line chs → (cs : List Coloured) → values cs ≡ bytes_of chs
    → edit_coloured (tab_ops s (text_width_of line) chs) cs ≡ tabbed s line cs
tab_law s h line [] v k [] e = refl
tab_law s h line [] v k (c ∷ cs) e = absurd (omega (arith, ap length e))
tab_law s h line (ch ∷ chs) v k cs e = go (sort ch (bytes_of chs) v.0) (λ l j ds q. tab_law s h l chs v.1 j ds q)
  where
    n : ℕ
    n = spaces_at_column s (text_width_of line)

    Later : Type 0
    Later = (l : Bytes) → Closed l chs → (ds : List Coloured) → values ds ≡ bytes_of chs → edit_coloured (tab_ops s (text_width_of l) chs) ds ≡ tabbed s l ds

    -- the line so far becomes l
    moved : (l : Bytes) → column_after s (text_width_of line) ch ≡ text_width_of l → edit_coloured (tab_ops s (text_width_of line) (ch ∷ chs)) cs ≡ edit_coloured (char_ops s (text_width_of line) ch ++ tab_ops s (text_width_of l) chs) cs
    moved l q = ap (λ (m : ℕ). edit_coloured (char_ops s (text_width_of line) ch ++ tab_ops s m chs) cs) q

    go : Sort ch → Later → edit_coloured (tab_ops s (text_width_of line) (ch ∷ chs)) cs ≡ tabbed s line cs
    go (tab t x) f =
        let F : First 0x09 (bytes_of chs) cs = first_of 0x09 (bytes_of chs) cs (e ∙ rw x) in
        let g = f (line ++ spaces n) (closed_spaces line ch chs k n (some_spaces s (text_width_of line) h).0) F.rest F.follow in
        moved (line ++ spaces n) (column_tab s line ch h t)
        ∙ rw (t, F.here, under-bytes F.labels (spaces n)) (ap (λ (l : List Coloured). with_labels F.labels (spaces n) ++ l) g)
    go (newline t u x) f =
        let F : First 0x0A (bytes_of chs) cs = first_of 0x0A (bytes_of chs) cs (e ∙ rw x) in
        let g = f [] (closed_new line ch chs k) F.rest F.follow in
        moved [] (column_new s line ch t u) ∙ rw (t, x, F.here) (ap (λ (l : List Coloured). record { val = 0x0A; labels = F.labels } ∷ l) g)
    go (other t u x) f =
        let m : ℕ = length ch.text in
        let a : values (take m cs) ≡ ch.text = values-take m cs ∙ rw e (take-append_seam ch.text (bytes_of chs)) in
        let b : values (drop m cs) ≡ bytes_of chs = values-drop m cs ∙ rw e (drop-append_seam ch.text (bytes_of chs)) in
        let g = f (line ++ ch.text) (closed_more line ch chs k) (drop m cs) b in
        moved (line ++ ch.text) (column_more s line ch chs k t u) ∙ rw t (ap (λ (l : List Coloured). take m cs ++ l) g ∙ sym (plain_law s m line cs (rw a x) ∙ rw a))

-- ── each call
pub length-coloured : (r : Recording) → length (coloured_from [] (items r)) ≡ length r.data_bytes
unfolding coloured
length-coloured r = sym (length-values (coloured r)) ∙ ap length (values_of r)

module _ (r : Recording) (h : balanced r ≡ true) where
  here : balanced_from 0 (items r) ≡ true
  unfolding balanced
  here = h

  long : length (coloured_from [] (items r)) ≡ length r.data_bytes
  long = length-coloured r

  start_law : (m : ℕ) (e : Recording) → balanced e ≡ true → coloured_from [] (result_items (truncate_start m e) r) ≡ step (told_of_job (truncate_start m e)) (coloured r)
  unfolding result_items step told_of_job coloured balanced
  start_law m e g =
      rw (values_of r, values_of e)
      (coloured-cond (ltb m (text_width_of r.data_bytes)) _ _ _ _
      (coloured_join (edit (cut_start_of (trimmed_start_pos m e.data_bytes)) (items e)) _ (edit_bal (cut_start_of (trimmed_start_pos m e.data_bytes)) 0 (items e) tt g)
      ∙ rw (from_law (trimmed_start_pos m e.data_bytes) (items e) g, from_law (trimmed_start_pos (m - text_width_of e.data_bytes) r.data_bytes) (items r) h))
      (from_law (zero_width_len_of r.data_bytes) (items r) h))

  end_law : (m : ℕ) (e : Recording) → balanced e ≡ true → length (coloured_from [] (items e)) ≡ length e.data_bytes
      → coloured_from [] (result_items (truncate_end m e) r) ≡ step (told_of_job (truncate_end m e)) (coloured r)
  unfolding result_items step told_of_job coloured balanced
  end_law m e g le =
      rw (values_of r, values_of e)
      (coloured-cond (ltb m (text_width_of r.data_bytes)) _ _ _ _
      (coloured_join (edit (cut_end_of (truncate_end_pos_of (m - text_width_of e.data_bytes) r.data_bytes) r.data_bytes) (items r)) _
      (edit_bal (cut_end_of (truncate_end_pos_of (m - text_width_of e.data_bytes) r.data_bytes) r.data_bytes) 0 (items r) tt h)
      ∙ rw (up_to_law (truncate_end_pos_of (m - text_width_of e.data_bytes) r.data_bytes) r.data_bytes (items r) h long, up_to_law (truncate_end_pos_of m e.data_bytes) e.data_bytes (items e) g le))
      refl)

  module _ (f : Recording) (g : balanced f ≡ true) (o : none_inside_recording f ≡ true) where
    pads : (n : ℕ) → coloured_from [] (padding n (items f)) ≡ times n (coloured f)
    unfolding coloured
    pads n = coloured-padding n f.data_bytes (items f) (flat f o)

    pads_bal : (n : ℕ) → balanced_from 0 (padding n (items f)) ≡ true
    unfolding balanced
    pads_bal n = bal_padding n f.data_bytes (items f) (flat f o) g

    pad_start_law : (m : ℕ) → coloured_from [] (result_items (pad_start m f) r) ≡ step (told_of_job (pad_start m f)) (coloured r)
    unfolding result_items step told_of_job
    pad_start_law m = rw (
      values_of r,
      coloured_join (padding (fill_count_of m r.data_bytes) (items f)) (items r) (pads_bal (fill_count_of m r.data_bytes)),
      pads
          (fill_count_of m r.data_bytes),
    ) (unfold coloured in refl)

    pad_end_law : (m : ℕ) → coloured_from [] (result_items (pad_end m f) r) ≡ step (told_of_job (pad_end m f)) (coloured r)
    unfolding result_items step told_of_job
    pad_end_law m = rw (values_of r, coloured_join (items r) (padding (fill_count_of m r.data_bytes) (items f)) here, pads (fill_count_of m r.data_bytes)) (unfold coloured in refl)

    pad_both_law : (m : ℕ) → coloured_from [] (result_items (pad_centered m f) r) ≡ step (told_of_job (pad_centered m f)) (coloured r)
    unfolding result_items step told_of_job
    pad_both_law m =
        let n : ℕ = fill_count_of m r.data_bytes in
        rw (
          values_of r,
          coloured_join (padding (n / 2) (items f)) (items r ++ padding (n - n / 2) (items f)) (pads_bal (n / 2)),
          coloured_join (items r)
              (padding (n - n / 2) (items f)) here,
          pads (n / 2),
          pads (n - n / 2),
        ) (unfold coloured in refl)

  indented_law : (m : ℕ) (p : Recording) → balanced p ≡ true
      → coloured_from [] (result_items (with_second indented_lines m p) r) ≡ step (told_of_job (with_second indented_lines m p)) (coloured r)
  unfolding result_items step told_of_job coloured balanced
  indented_law m p g =
      edit_law (indent_ops (items p) true r.data_bytes) [] (items r) h (puts_indent Balanced (items p) true r.data_bytes g)
      ∙ (rw (values_of r) at (indent_law (items p) true (coloured r)))

  unindented_law : (m : ℕ) (p : Recording) → prefix_fault p.data_bytes r.data_bytes ≡ 0
      → coloured_from [] (result_items (with_second unindented_lines m p) r) ≡ step (told_of_job (with_second unindented_lines m p)) (coloured r)
  unfolding result_items step told_of_job coloured balanced
  unindented_law m p z =
      let d : Bytes = r.data_bytes in
      let n : ℕ = length p.data_bytes in
      ap (λ (is : List Item). coloured_from [] is) (by_bytes n d (begin_long p.data_bytes (split_lines d) (no_prefix_fault p.data_bytes d z).all) (items r))
      ∙ edit_law (byte_ops n n d) [] (items r) h (puts_bytes Balanced n n d)
      ∙ (rw (values_of r) at (unindent_law n n (coloured r))) ∙ rw (length-coloured p)

  replaced_law : (xs : List Replacement) (t : Bytes) → Sorted 0 xs → coloured_from [] (result_items (replace xs t) r) ≡ step (told_of_job (replace xs t)) (coloured r)
  unfolding result_items step told_of_job coloured balanced
  replaced_law xs t o = edit_law (replace_ops t 0 xs) [] (items r) h (puts_replace Balanced bal_bytes t 0 xs) ∙ replace_law t 0 xs (coloured r) o

  expanded_law : (s : ℕ) → 1 ≤ s → coloured_from [] (result_items (expand_tabs s) r) ≡ step (told_of_job (expand_tabs s)) (coloured r)
  unfolding result_items step told_of_job coloured balanced
  expanded_law s g =
      edit_law (tab_ops s 0 (chars r.data_bytes)) [] (items r) h (puts_tabs Balanced bal_bytes s 0 (chars r.data_bytes))
      ∙ (rw width_none at (tab_law s g [] (chars r.data_bytes) (valid-chars r.data_bytes) (closed_start r.data_bytes) (coloured r) (values_of r ∙ sym (bytes-chars r.data_bytes))))

  wrapped_law : (w : ℕ) (b : Bool) (ls : List Line) → wrap_lines_of w b r.data_bytes ≡ ls → Ordered 0 ls → (0 < length ls)
      → coloured_from [] (result_items (wrap w b) r) ≡ step (told_of_job (wrap w b)) (coloured r)
  unfolding result_items step told_of_job coloured balanced
  wrapped_law w b [] q o z = absurd (omega arith)
  wrapped_law w b (l ∷ ls) q o z =
      rw (values_of r, q) (edit_law (wrap_ops (length r.data_bytes) 0 (l ∷ ls)) [] (items r) h (puts_wrap Balanced bal_bytes (length r.data_bytes) 0 (l ∷ ls))
      ∙ wrap_law (length r.data_bytes) 0 l ls (coloured r) long o)

  -- balance is kept
  pub bal_law : (j : Job) → SecondOk j → balanced_from 0 (result_items j r) ≡ true
  unfolding result_items balanced
  bal_law (with_second truncated_start m e) g =
      let x : List Item = edit (cut_start_of (trimmed_start_pos m e.data_bytes)) (items e) in
      let y : List Item = edit (cut_start_of (trimmed_start_pos (m - text_width_of e.data_bytes) r.data_bytes)) (items r) in
      bal_cond (ltb m (text_width_of r.data_bytes)) (x ++ y) (edit (cut_start_of (zero_width_len_of r.data_bytes)) (items r))
      (bal_join x y (edit_bal (cut_start_of (trimmed_start_pos m e.data_bytes)) 0 (items e) tt (g.0 refl))
      (edit_bal (cut_start_of (trimmed_start_pos (m - text_width_of e.data_bytes) r.data_bytes)) 0 (items r) tt h))
      (edit_bal (cut_start_of (zero_width_len_of r.data_bytes)) 0 (items r) tt h)
  bal_law (with_second truncated_end m e) g =
      let x : List Item = edit (cut_end_of (truncate_end_pos_of (m - text_width_of e.data_bytes) r.data_bytes) r.data_bytes) (items r) in
      let y : List Item = edit (cut_end_of (truncate_end_pos_of m e.data_bytes) e.data_bytes) (items e) in
      bal_cond (ltb m (text_width_of r.data_bytes)) (x ++ y) (items r)
      (bal_join x y (edit_bal (cut_end_of (truncate_end_pos_of (m - text_width_of e.data_bytes) r.data_bytes) r.data_bytes) 0 (items r) tt h)
      (edit_bal (cut_end_of (truncate_end_pos_of m e.data_bytes) e.data_bytes) 0 (items e) tt (g.0 refl)))
      h
  bal_law (with_second padded_start m f) g = bal_join (padding (fill_count_of m r.data_bytes) (items f)) (items r) (pads_bal f (g.0 refl) (g.1 refl) (fill_count_of m r.data_bytes)) h
  bal_law (with_second padded_end m f) g = bal_join (items r) (padding (fill_count_of m r.data_bytes) (items f)) h (pads_bal f (g.0 refl) (g.1 refl) (fill_count_of m r.data_bytes))
  bal_law (with_second padded_centered m f) g =
      let n : ℕ = fill_count_of m r.data_bytes in
      bal_join (padding (n / 2) (items f)) (items r ++ padding (n - n / 2) (items f)) (pads_bal f (g.0 refl) (g.1 refl) (n / 2))
      (bal_join (items r) (padding (n - n / 2) (items f)) h (pads_bal f (g.0 refl) (g.1 refl) (n - n / 2)))
  bal_law (with_second indented_lines m p) g = edit_bal (indent_ops (items p) true r.data_bytes) 0 (items r) (puts_indent Balanced (items p) true r.data_bytes (g.0 refl)) h
  bal_law (with_second unindented_lines m p) g =
      let ops = unindent_ops (length p.data_bytes) (split_lines r.data_bytes) in
      edit_bal ops 0 (items r) (puts_unindent Balanced (length p.data_bytes) (split_lines r.data_bytes)) h
  bal_law (alone s) g = edit_bal (single_ops s r.data_bytes) 0 (items r) (puts_single Balanced bal_bytes s r.data_bytes) h

  -- the plain step
  pub step_law : ((w : ℕ) (b : Bool) (d : Bytes) → Ordered 0 (wrap_lines_of w b d) × (0 < length (wrap_lines_of w b d)))
      → (j : Job) → SecondOk j → own_fault j r ≡ 0 → coloured_from [] (result_items j r) ≡ step (told_of_job j) (coloured r)
  unfolding own_fault
  step_law o (with_second truncated_start m e) g z = start_law m e (g.0 refl)
  step_law o (with_second truncated_end m e) g z = end_law m e (g.0 refl) (length-coloured e)
  step_law o (with_second padded_start m f) g z = pad_start_law f (g.0 refl) (g.1 refl) m
  step_law o (with_second padded_end m f) g z = pad_end_law f (g.0 refl) (g.1 refl) m
  step_law o (with_second padded_centered m f) g z = pad_both_law f (g.0 refl) (g.1 refl) m
  step_law o (with_second indented_lines m p) g z = indented_law m p (g.0 refl)
  step_law o (with_second unindented_lines m p) g z = unindented_law m p z
  step_law o (alone (wrapped_lines w b)) g z = wrapped_law w b (wrap_lines_of w b r.data_bytes) refl (o w b r.data_bytes).0 (o w b r.data_bytes).1
  step_law o (alone (replaced_parts xs t)) g z = replaced_law xs t (sorted 0 (length r.data_bytes) (length t) xs z)
  step_law o (alone (tabs_expanded s)) g z = expanded_law s (some_stop s z)
