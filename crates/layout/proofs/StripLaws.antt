-- Stripping first or last: what a call writes depends on the data alone, and without entries no call that was granted is refused.
use Prim.Native.Nat.{ℕ, zero, suc, ◌-◌, ◌/◌}
use mathlib.Core.Bool.{Bool, true, false, cond, ◌&&◌, not}
use mathlib.Core.Path.{◌≡◌, refl, sym, ap, ◌∙◌}
use mathlib.Core.List.{List, [], ◌∷◌, ◌++◌, append-nil}
use lib.Dec.{ltb, eqb}
use native.Mathlib.Omega.{arith}
use lib.ListN.{length, drop}
use borrow.Author.Tests.{eqb-true, eq-eqb}
use Rattle.chars.specs.Chars.{text_width_of}
use Rattle.chars.specs.Cut.{truncate_end_pos_of, zero_width_len_of}
use Rattle.recording.specs.Coloured.{balanced_from, balanced, none_inside_recording}
use Rattle.recording.specs.Edit.{Op, keep, skip, put, front, back, entries_only, edit, edit_data}
use Rattle.recording.specs.Outcome.{Room, over_limit, no_room, Result}
use Rattle.recording.specs.Recording.{Bytes, Recording, recording, Item, byte, push, pop, raw, byte_items, items, data_of, entries_from, text_from, encode, strip, numbers_of_ranges}
use Rattle.recording.specs.Refusals.{recording_fault}
use Rattle.recording.proofs.EditLaws.{AllPuts, data_append, edit_data_lem}
use Rattle.recording.proofs.FaultLaws.{no_fault, in_limits, Roomy, roomy}
use Rattle.recording.proofs.ItemsLaws.{data_items, data_bytes_lem}
use Rattle.recording.proofs.SizeLaws.{entry_count, put_count}
use Rattle.recording.specs.Share.{sum_of, raw_len_of, push_of}
use Rattle.recording.proofs.ShareLaws.{put_sum, edit-sum, text_by_sums}
use Rattle.layout.specs.Layout.{trimmed_start_pos, cut_end_of, cut_start_of, copies, repeat_pieces, padding, fill_count_of, indent_ops, Kind, truncated_start}
use Rattle.layout.specs.Layout.{truncated_end, padded_start, padded_end, padded_centered, indented_lines, unindented_lines, Single, Job, with_second}
use Rattle.layout.specs.Layout.{alone, single_ops, Call, result_items, lines_left, second_fault, refusal, after, run, own_fault, faults_of, result_of}
use Rattle.layout.specs.Theorem.{SecondOk, Proper, stripped_job, stripped, again, NoneRefused}
use Rattle.layout.specs.Unindent.{unindent_ops}
use Rattle.layout.specs.Wrap.{line_numbers, split_lines}
use Rattle.layout.proofs.ListLaws.{after_done, after_refused, GrantedCall, grant_call, granted_call}
use Rattle.layout.proofs.PutLaws.{puts_indent, puts_unindent, puts_single}
use Rattle.layout.proofs.PadLaws.{NoBytes, Flat, flat, repeat_flat}

-- ── the data of a result, from the data of the content and of the second recording
unfoldable pub kind_data : Kind → ℕ → Bytes → Bytes → Bytes
kind_data truncated_start m e d =
    cond (ltb m (text_width_of d)) (edit_data (cut_start_of (trimmed_start_pos m e)) e ++ edit_data (cut_start_of (trimmed_start_pos (m - text_width_of e) d)) d) (edit_data (cut_start_of (zero_width_len_of d)) d)
kind_data truncated_end m e d =
    cond (ltb m (text_width_of d)) (edit_data (cut_end_of (truncate_end_pos_of (m - text_width_of e) d) d) d ++ edit_data (cut_end_of (truncate_end_pos_of m e) e) e) d
kind_data padded_start m f d = data_of (copies (fill_count_of m d) f) ++ d
kind_data padded_end m f d = d ++ data_of (copies (fill_count_of m d) f)
kind_data padded_centered m f d = let n = fill_count_of m d in data_of (copies (n / 2) f) ++ (d ++ data_of (copies (n - n / 2) f))
kind_data indented_lines m p d = edit_data (indent_ops (byte_items p) true d) d
kind_data unindented_lines m p d = edit_data (unindent_ops (length p) (split_lines d)) d

unfoldable pub result_data : Job → Bytes → Bytes
unfolding kind_data
result_data (with_second k m q) d = kind_data k m q.data_bytes d
result_data (alone s) d = edit_data (single_ops s d) d

edited : (ops : List Op) (r : Recording) → data_of (edit ops (items r)) ≡ edit_data ops r.data_bytes
edited ops r = edit_data_lem ops (items r) ∙ ap (λ (d : Bytes). edit_data ops d) (data_items r)

data_cond : (t : Bool) (a b : List Item) (x y : Bytes) → data_of a ≡ x → data_of b ≡ y → data_of (cond t a b) ≡ cond t x y
data_cond true a b x y p q = p
data_cond false a b x y p q = q

data_none : (is : List Item) → NoBytes is → data_of is ≡ []
data_none [] h = refl
data_none (byte b ∷ is) h = absurd h
data_none (push l ∷ is) h = data_none is h
data_none (pop ∷ is) h = data_none is h
data_none (raw t ∷ is) h = data_none is h

data_repeated : (n : ℕ) (d : Bytes) (is : List Item) → Flat d is → data_of (repeat_pieces n [] is) ≡ data_of (copies n d)
data_repeated n d is f =
    rw (
      repeat_flat n d is f,
      data_append f.opening (copies n d ++ f.closing),
      data_append (copies n d) f.closing,
      data_none f.opening f.no_opening,
      data_none
          f.closing f.no_closing,
    ) (append-nil (data_of (copies n d)))

data_padding : (n : ℕ) (d : Bytes) (is : List Item) → Flat d is → data_of (padding n is) ≡ data_of (copies n d)
data_padding zero d is f = refl
data_padding (suc n) d is f = data_repeated (suc n) d is f

-- the prefix counts by its data
indent_data : (p q : List Item) (start : Bool) (d e : Bytes) → data_of p ≡ data_of q → edit_data (indent_ops p start d) e ≡ edit_data (indent_ops q start d) e
indent_data p q start [] e h = refl
indent_data p q start (b ∷ d) e h = go (start && not (eqb b 0x0A)) (indent_data p q (eqb b 0x0A) d (drop 1 e) h)
  where
    go : (t : Bool) → edit_data (indent_ops p (eqb b 0x0A) d) (drop 1 e) ≡ edit_data (indent_ops q (eqb b 0x0A) d) (drop 1 e)
        → edit_data (cond t (put p ∷ []) [] ++ keep 1 ∷ indent_ops p (eqb b 0x0A) d) e ≡ edit_data (cond t (put q ∷ []) [] ++ keep 1 ∷ indent_ops q (eqb b 0x0A) d) e
    go true g = rw (h, g)
    go false g = rw g

pub result_data_lem : (j : Job) (r : Recording) → SecondOk j → data_of (result_items j r) ≡ result_data j r.data_bytes
unfolding result_items result_data
result_data_lem (with_second truncated_start m e) r g =
    let x : List Item = edit (cut_start_of (trimmed_start_pos m e.data_bytes)) (items e) in
    let y : List Item = edit (cut_start_of (trimmed_start_pos (m - text_width_of e.data_bytes) r.data_bytes)) (items r) in
    data_cond (ltb m (text_width_of r.data_bytes)) (x ++ y) (edit (cut_start_of (zero_width_len_of r.data_bytes)) (items r)) _ _
    (data_append x y ∙ rw (edited (cut_start_of (trimmed_start_pos m e.data_bytes)) e, edited (cut_start_of (trimmed_start_pos (m - text_width_of e.data_bytes) r.data_bytes)) r))
    (edited (cut_start_of (zero_width_len_of r.data_bytes)) r)
result_data_lem (with_second truncated_end m e) r g =
    let x : List Item = edit (cut_end_of (truncate_end_pos_of (m - text_width_of e.data_bytes) r.data_bytes) r.data_bytes) (items r) in
    let y : List Item = edit (cut_end_of (truncate_end_pos_of m e.data_bytes) e.data_bytes) (items e) in
    data_cond (ltb m (text_width_of r.data_bytes)) (x ++ y) (items r) _ _
    (data_append x y ∙ rw (edited (cut_end_of (truncate_end_pos_of (m - text_width_of e.data_bytes) r.data_bytes) r.data_bytes) r, edited (cut_end_of (truncate_end_pos_of m e.data_bytes) e.data_bytes) e))
    (data_items r)
result_data_lem (with_second padded_start m f) r g =
    rw (data_append (padding (fill_count_of m r.data_bytes) (items f)) (items r), data_padding (fill_count_of m r.data_bytes) f.data_bytes (items f) (flat f (g.1 refl)), data_items r)
result_data_lem (with_second padded_end m f) r g =
    rw (data_append (items r) (padding (fill_count_of m r.data_bytes) (items f)), data_padding (fill_count_of m r.data_bytes) f.data_bytes (items f) (flat f (g.1 refl)), data_items r)
result_data_lem (with_second padded_centered m f) r g =
    let n : ℕ = fill_count_of m r.data_bytes in
    rw (
      data_append (padding (n / 2) (items f)) (items r ++ padding (n - n / 2) (items f)),
      data_append (items r) (padding (n - n / 2) (items f)),
      data_padding (n / 2)
          f.data_bytes (items f) (flat f (g.1 refl)),
      data_padding (n - n / 2) f.data_bytes (items f) (flat f (g.1 refl)),
      data_items r,
    )
result_data_lem (with_second indented_lines m p) r g =
    edited (indent_ops (items p) true r.data_bytes) r ∙ indent_data (items p) (byte_items p.data_bytes) true r.data_bytes r.data_bytes (data_items p ∙ sym (data_bytes_lem p.data_bytes))
result_data_lem (with_second unindented_lines m p) r g = edited (unindent_ops (length p.data_bytes) (split_lines r.data_bytes)) r
result_data_lem (alone s) r g = edited (single_ops s r.data_bytes) r

strip_ok : (f : Recording) → (balanced (strip f) ≡ true) × (none_inside_recording (strip f) ≡ true)
unfolding balanced strip items none_inside_recording
strip_ok f = (go f.data_bytes, refl)
  where
    go : (d : Bytes) → balanced_from 0 (byte_items d) ≡ true
    go [] = refl
    go (b ∷ d) = go d

stripped_ok : (j : Job) → SecondOk (stripped_job j)
stripped_ok (with_second k m q) = (λ e. (strip_ok q).0, λ e. (strip_ok q).1)
stripped_ok (alone s) = tt

stripped_data : (j : Job) (d : Bytes) → result_data (stripped_job j) d ≡ result_data j d
unfolding result_data strip
stripped_data (with_second k m q) d = refl
stripped_data (alone s) d = refl

pub same_data : (j : Job) (r r' : Recording) → SecondOk j → r'.data_bytes ≡ r.data_bytes → data_of (result_items (stripped_job j) r') ≡ data_of (result_items j r)
same_data j r r' g e =
    result_data_lem (stripped_job j) r' (stripped_ok j) ∙ stripped_data j r'.data_bytes ∙ ap (λ (d : Bytes). result_data j d) e ∙ sym (result_data_lem j r g)

-- ── no entries in, no entries out
abbrev pub Bare : List Item → Type 0
Bare [] = Unit {0}
Bare (byte b ∷ is) = Bare is
Bare (push l ∷ is) = ⊥
Bare (pop ∷ is) = ⊥
Bare (raw t ∷ is) = ⊥

abbrev pub BarePuts : List Op → Type 0
BarePuts ops = AllPuts Bare ops

pub bare_bytes : (d : Bytes) → Bare (byte_items d)
bare_bytes [] = tt
bare_bytes (b ∷ d) = bare_bytes d

bare_append : (a b : List Item) → Bare a → Bare b → Bare (a ++ b)
bare_append [] b h g = g
bare_append (byte x ∷ a) b h g = bare_append a b h g
bare_append (push l ∷ a) b h g = absurd h
bare_append (pop ∷ a) b h g = absurd h
bare_append (raw t ∷ a) b h g = absurd h

bare_front : (n : ℕ) (is : List Item) → Bare is → Bare (front n is)
bare_front n [] h = tt
bare_front zero (byte x ∷ is) h = tt
bare_front (suc n) (byte x ∷ is) h = bare_front n is h
bare_front n (push l ∷ a) h = absurd h
bare_front n (pop ∷ a) h = absurd h
bare_front n (raw t ∷ a) h = absurd h

bare_back : (n : ℕ) (is : List Item) → Bare is → Bare (back n is)
bare_back n [] h = tt
bare_back zero (byte x ∷ is) h = h
bare_back (suc n) (byte x ∷ is) h = bare_back n is h
bare_back n (push l ∷ a) h = absurd h
bare_back n (pop ∷ a) h = absurd h
bare_back n (raw t ∷ a) h = absurd h

bare_only : (is : List Item) → Bare is → Bare (entries_only is)
bare_only [] h = tt
bare_only (byte x ∷ is) h = bare_only is h
bare_only (push l ∷ a) h = absurd h
bare_only (pop ∷ a) h = absurd h
bare_only (raw t ∷ a) h = absurd h

bare_edit : (ops : List Op) (is : List Item) → BarePuts ops → Bare is → Bare (edit ops is)
bare_edit [] is q h = h
bare_edit (keep n ∷ ops) is q h = bare_append (front n is) (edit ops (back n is)) (bare_front n is h) (bare_edit ops (back n is) q (bare_back n is h))
bare_edit (skip n ∷ ops) is q h =
    bare_append (entries_only (front n is)) (edit ops (back n is)) (bare_only (front n is) (bare_front n is h)) (bare_edit ops (back n is) q (bare_back n is h))
bare_edit (put p ∷ ops) is q h =
    bare_append (front 0 is) (p ++ edit ops (back 0 is)) (bare_front 0 is h) (bare_append p (edit ops (back 0 is)) q.0 (bare_edit ops (back 0 is) q.1 (bare_back 0 is h)))

bare_cond : (t : Bool) (a b : List Item) → Bare a → Bare b → Bare (cond t a b)
bare_cond true a b h g = h
bare_cond false a b h g = g

bare_copies : (n : ℕ) (d : Bytes) → Bare (copies n d)
bare_copies zero d = tt
bare_copies (suc n) d = bare_append (byte_items d) (copies n d) (bare_bytes d) (bare_copies n d)

bare_repeat : (n : ℕ) (q : Bytes) (is : List Item) → Bare is → Bare (repeat_pieces n q is)
bare_repeat n q [] h = bare_copies n q
bare_repeat n q (byte b ∷ is) h = bare_repeat n (q ++ (b ∷ [])) is h
bare_repeat n q (push l ∷ a) h = absurd h
bare_repeat n q (pop ∷ a) h = absurd h
bare_repeat n q (raw t ∷ a) h = absurd h

bare_padding : (n : ℕ) (is : List Item) → Bare is → Bare (padding n is)
bare_padding zero is h = tt
bare_padding (suc n) is h = bare_repeat (suc n) [] is h

bare_strip : (f : Recording) → Bare (items (strip f))
unfolding items strip
bare_strip f = bare_bytes f.data_bytes

bare_items : (r : Recording) → r.entry_numbers ≡ [] → Bare (items r)
unfolding items
bare_items r e = rw e (bare_bytes r.data_bytes)

pub bare_single : (s : Single) (d : Bytes) → BarePuts (single_ops s d)
bare_single s d = puts_single Bare bare_bytes s d

bare_result : (j : Job) (r : Recording) → Bare (items r) → Bare (result_items (stripped_job j) r)
unfolding result_items
bare_result (with_second truncated_start m e) r h =
    let x : List Item = edit (cut_start_of (trimmed_start_pos m (strip e).data_bytes)) (items (strip e)) in
    let y : List Item = edit (cut_start_of (trimmed_start_pos (m - text_width_of (strip e).data_bytes) r.data_bytes)) (items r) in
    bare_cond (ltb m (text_width_of r.data_bytes)) (x ++ y) (edit (cut_start_of (zero_width_len_of r.data_bytes)) (items r))
    (bare_append x y (bare_edit (cut_start_of (trimmed_start_pos m (strip e).data_bytes)) (items (strip e)) tt (bare_strip e))
    (bare_edit (cut_start_of (trimmed_start_pos (m - text_width_of (strip e).data_bytes) r.data_bytes)) (items r) tt h))
    (bare_edit (cut_start_of (zero_width_len_of r.data_bytes)) (items r) tt h)
bare_result (with_second truncated_end m e) r h =
    let x : List Item = edit (cut_end_of (truncate_end_pos_of (m - text_width_of (strip e).data_bytes) r.data_bytes) r.data_bytes) (items r) in
    let y : List Item = edit (cut_end_of (truncate_end_pos_of m (strip e).data_bytes) (strip e).data_bytes) (items (strip e)) in
    bare_cond (ltb m (text_width_of r.data_bytes)) (x ++ y) (items r)
    (bare_append x y (bare_edit (cut_end_of (truncate_end_pos_of (m - text_width_of (strip e).data_bytes) r.data_bytes) r.data_bytes) (items r) tt h)
    (bare_edit (cut_end_of (truncate_end_pos_of m (strip e).data_bytes) (strip e).data_bytes) (items (strip e)) tt (bare_strip e)))
    h
bare_result (with_second padded_start m f) r h = bare_append (padding (fill_count_of m r.data_bytes) (items (strip f))) (items r)
    (bare_padding (fill_count_of m r.data_bytes) (items (strip f)) (bare_strip f)) h
bare_result (with_second padded_end m f) r h = bare_append (items r) (padding (fill_count_of m r.data_bytes) (items (strip f))) h
    (bare_padding (fill_count_of m r.data_bytes) (items (strip f)) (bare_strip f))
bare_result (with_second padded_centered m f) r h =
    let n : ℕ = fill_count_of m r.data_bytes in
    bare_append (padding (n / 2) (items (strip f))) (items r ++ padding (n - n / 2) (items (strip f))) (bare_padding (n / 2) (items (strip f)) (bare_strip f))
    (bare_append (items r) (padding (n - n / 2) (items (strip f))) h (bare_padding (n - n / 2) (items (strip f)) (bare_strip f)))
bare_result (with_second indented_lines m p) r h = bare_edit (indent_ops (items (strip p)) true r.data_bytes) (items r) (puts_indent Bare (items (strip p)) true r.data_bytes (bare_strip p)) h
bare_result (with_second unindented_lines m p) r h =
    let n : ℕ = length (strip p).data_bytes in
    bare_edit (unindent_ops n (split_lines r.data_bytes)) (items r) (puts_unindent Bare n (split_lines r.data_bytes)) h
bare_result (alone s) r h = bare_edit (single_ops s r.data_bytes) (items r) (bare_single s r.data_bytes) h

bare_entries : (at : ℕ) (is : List Item) → Bare is → entries_from at [] [] is ≡ []
bare_entries at [] h = refl
bare_entries at (byte b ∷ is) h = bare_entries (suc at) is h
bare_entries at (push l ∷ a) h = absurd h
bare_entries at (pop ∷ a) h = absurd h
bare_entries at (raw t ∷ a) h = absurd h

bare_text : (at : ℕ) (is : List Item) → Bare is → text_from at [] [] is ≡ []
bare_text at [] h = refl
bare_text at (byte b ∷ is) h = bare_text (suc at) is h
bare_text at (push l ∷ a) h = absurd h
bare_text at (pop ∷ a) h = absurd h
bare_text at (raw t ∷ a) h = absurd h

-- so what is left is data alone
pub bare_left : (j : Job) (r : Recording) → r.entry_numbers ≡ [] → encode (result_items (stripped_job j) r) ≡ recording (data_of (result_items (stripped_job j) r)) [] []
unfolding encode
bare_left j r e =
    let is : List Item = result_items (stripped_job j) r in
    let bare = bare_result j r (bare_items r e) in
    λ i. recording (data_of is) (numbers_of_ranges (bare_entries 0 is bare i)) (bare_text 0 is bare i)

-- ── bytes alone are put in: no entry, and the text is as long as it was
bare_count : (is : List Item) → Bare is → entry_count is ≡ 0
bare_count [] h = refl
bare_count (byte b ∷ is) h = bare_count is h
bare_count (push l ∷ is) h = absurd h
bare_count (pop ∷ is) h = absurd h
bare_count (raw t ∷ is) h = absurd h

pub no_puts : (ops : List Op) → BarePuts ops → put_count ops ≡ 0
no_puts [] h = refl
no_puts (keep n ∷ ops) h = no_puts ops h
no_puts (skip n ∷ ops) h = no_puts ops h
no_puts (put p ∷ ops) h = omega (arith, bare_count p h.0, no_puts ops h.1)

module _ (m : Item → ℕ) (none : (b : ℕ) → m (byte b) ≡ 0) where
  bare_sum : (is : List Item) → Bare is → sum_of m is ≡ 0
  bare_sum [] h = refl
  bare_sum (byte b ∷ is) h = omega (arith, none b, bare_sum is h)
  bare_sum (push l ∷ is) h = absurd h
  bare_sum (pop ∷ is) h = absurd h
  bare_sum (raw t ∷ is) h = absurd h

  put_none : (ops : List Op) → BarePuts ops → put_sum m ops ≡ 0
  put_none [] h = refl
  put_none (keep n ∷ ops) h = put_none ops h
  put_none (skip n ∷ ops) h = put_none ops h
  put_none (put p ∷ ops) h = omega (arith, bare_sum p h.0, put_none ops h.1)

  pub sum_kept : (ops : List Op) (is : List Item) → BarePuts ops → sum_of m (edit ops is) ≡ sum_of m is
  sum_kept ops is h = omega (arith, edit-sum m none ops is, put_none ops h)

pub text_kept : (ops : List Op) (is : List Item) → BarePuts ops → length (encode (edit ops is)).text ≡ length (encode is).text
text_kept ops is h =
    text_by_sums (edit ops is) is (sum_kept raw_len_of (λ b. refl) ops is h) (λ l p. omega (arith, p, sum_kept (push_of l) (λ b. refl) ops is h))
    (λ l p. omega (arith, p, sum_kept (push_of l) (λ b. refl) ops is h))

-- ── the stripped content beside the content
pub record Shadow (r r' : Recording) : Type 0 where
  pub data_bytes : r'.data_bytes ≡ r.data_bytes
  pub entry_numbers : r'.entry_numbers ≡ []
  pub text : r'.text ≡ []

shadow_fault : (r r' : Recording) → Shadow r r' → recording_fault r ≡ 0 → recording_fault r' ≡ 0
unfolding recording_fault
shadow_fault r r' s h = rw (s.data_bytes, s.entry_numbers, s.text, (no_fault r h).data_bytes)

pub strip_shadow : (r : Recording) → Shadow r (strip r)
unfolding strip
strip_shadow r = record { data_bytes = refl; entry_numbers = refl; text = refl }

fault_strip : (e : Recording) → recording_fault e ≡ 0 → recording_fault (strip e) ≡ 0
fault_strip e h = shadow_fault e (strip e) (strip_shadow e) h

second_strip : (j : Job) → second_fault j ≡ 0 → second_fault (stripped_job j) ≡ 0
unfolding second_fault
second_strip (with_second k m q) h = fault_strip q h
second_strip (alone s) h = refl

own_strip : (j : Job) (r r' : Recording) → r'.data_bytes ≡ r.data_bytes → own_fault j r ≡ 0 → own_fault (stripped_job j) r' ≡ 0
unfolding own_fault strip
own_strip (with_second k m q) r r' e h = rw e h
own_strip (alone s) r r' e h = rw e h

lines_strip : (j : Job) (r r' : Recording) → r'.data_bytes ≡ r.data_bytes → lines_left (stripped_job j) r' ≡ lines_left j r
unfolding lines_left
lines_strip (with_second k m q) r r' e = refl
lines_strip (alone s) r r' e = rw e

none_less : (n : ℕ) → ltb n 0 ≡ false
none_less zero = refl
none_less (suc n) = lib.Dec.leb-suc-zero (suc n)

limit_strip : (q q' : Recording) → Shadow q q' → over_limit q ≡ 0 → over_limit q' ≡ 0
unfolding over_limit
limit_strip q q' s h = rw (s.data_bytes, s.entry_numbers, s.text, (in_limits q h).data_bytes)

room_strip : (o : Room) (x x' : Result) → Shadow x.recording x'.recording → x'.lines ≡ x.lines → no_room o x ≡ 0 → no_room o x' ≡ 0
unfolding no_room
room_strip o x x' s l h =
    let R : Roomy o x = roomy o x h in
    rw (s.data_bytes, s.entry_numbers, s.text, l, R.data_bytes, none_less o.entry_numbers, none_less o.text, R.lines)

-- ── one call
module _ (c : Call) (r r' : Recording) (s : Shadow r r') (g : SecondOk c.job) (z : refusal c r ≡ 0) where
  shadow_result : Shadow (encode (result_items c.job r)) (encode (result_items (stripped_job c.job) r'))
  unfolding encode
  shadow_result =
      let left = bare_left c.job r' s.entry_numbers in
      record { data_bytes = same_data c.job r r' g s.data_bytes; entry_numbers = ap (λ (q : Recording). q.entry_numbers) left; text = ap (λ (q : Recording). q.text) left }

  pub not-refused : refusal (stripped c) r' ≡ 0
  not-refused = grant_call (stripped c) r' (parts (granted_call c r z))
    where
      parts : GrantedCall c r → GrantedCall (stripped c) r'
      parts G =
          record {
            lengths = unfold faults_of in refl;
            content = unfold faults_of in shadow_fault r r' s G.content;
            second = unfold faults_of in second_strip c.job G.second;
            added = unfold faults_of in refl;
            plain = unfold faults_of in refl;
            own = unfold faults_of in own_strip c.job r r' s.data_bytes G.own;
            limit = unfold result_of in limit_strip (encode (result_items c.job r)) (encode (result_items (stripped_job c.job) r')) shadow_result G.limit;
            room = unfold result_of in room_strip c.room (result_of c.job r) (result_of (stripped_job c.job) r') shadow_result
                (λ i. line_numbers (s.data_bytes i) (lines_strip c.job r r' s.data_bytes i)) G.room;
          }

  pub shadow_after : Shadow (after c r) (after (stripped c) r')
  shadow_after = rw (after_done c r (eq-eqb (refusal c r) 0 z), after_done (stripped c) r' (eq-eqb (refusal (stripped c) r') 0 not-refused)) shadow_result

-- ── over a list
pub record Stripping (cs : List Call) (r r' : Recording) : Type 0 where
  pub accepted : NoneRefused (again cs r) r'
  pub same : (run (again cs r) r').data_bytes ≡ (run cs r).data_bytes

pub strip_law : (cs : List Call) (r r' : Recording) → Proper cs r → Shadow r r' → Stripping cs r r'
strip_law [] r r' p s = record { accepted = tt; same = s.data_bytes }
strip_law (c ∷ cs) r r' p s = go (eqb (refusal c r) 0) refl (λ q t. strip_law cs (after c r) q p.1 t)
  where
    go : (t : Bool) → eqb (refusal c r) 0 ≡ t → ((q : Recording) → Shadow (after c r) q → Stripping cs (after c r) q) → Stripping (c ∷ cs) r r'
    go true e f =
        let z = eqb-true (refusal c r) 0 e in
        let S : Stripping cs (after c r) (after (stripped c) r') = f (after (stripped c) r') (shadow_after c r r' s (p.0 z) z) in
        record { accepted = rw e (not-refused c r r' s (p.0 z) z, S.accepted); same = rw e S.same }
    go false e f =
        let S : Stripping cs (after c r) r' = f r' (rw (after_refused c r e) s) in
        record { accepted = rw e S.accepted; same = rw e S.same }
