-- Indenting and taking the indent off again (`round_trips` and `running_round_trips`, the statements of `specs/RoundTrips.antt`).
-- The idea: both are plain steps byte by byte, so what one does to a line the other undoes byte by byte: `off_again` on coloured bytes, `on_again` on their values.
use Prim.Native.Nat.{ℕ, zero, suc, ◌≤◌, ◌<◌}
use native.Mathlib.Omega.{arith}
use mathlib.Core.Bool.{Bool, true, false, cond, ◌&&◌, ◌||◌, not, false≢true}
use mathlib.Core.Path.{◌≡◌, refl, sym, ap, ◌∙◌}
use mathlib.Core.List.{List, [], ◌∷◌, ◌++◌, append_assoc, append-nil}
use mathlib.Core.Logic.{◌≢◌, ◌⊎◌, inl, inr}
use lib.Dec.{eqb, ltb}
use lib.ListN.{length, take, drop, length-append, length-drop, take-append-drop}
use borrow.Author.Tests.{eq-eqb, eqb-true, ltb-false, le-ltb}
use Rattle.recording.specs.Recording.{Bytes, Recording, Item, items, data_of, entries_from, text_from, numbers_of_ranges, encode, is_nil}
use Rattle.recording.specs.Coloured.{Coloured, coloured, balanced, values}
use Rattle.recording.specs.Edit.{Op, keep, skip, put, under, edit, edit_coloured, edit_data}
use Rattle.recording.specs.Refusals.{first_of, refuse_if}
use Rattle.recording.specs.Outcome.{Room, Result, over_limit, no_room, room_in}
use Rattle.recording.proofs.EditLaws.{AllPuts, edit_data_lem}
use Rattle.recording.proofs.FaultLaws.{in_limits}
use Rattle.recording.proofs.ItemsLaws.{values_of, values-append, values-under, values-edit, data_items, items-encode}
use Rattle.recording.proofs.Lists.{and_left, and_right, or_left, or_right}
use Rattle.recording.proofs.OutcomeLaws.{stops_sizes, first_on, first_one}
use Rattle.recording.proofs.SizeLaws.{count_numbers, edit-count}
use Rattle.layout.specs.Layout.{indent_ops, Job, indent, unindent, result_items, second_fault, own_fault, faults_of, result_of, Call, refusal, after}
use Rattle.layout.specs.Plain.{indented, unindented, step, told_of_job}
use Rattle.layout.specs.RoundTrips.{indent_call, unindent_call, NoLineIs, IndentRoundTrips, TwoCalls, left_by_calls, RunningRoundTrips}
use Rattle.layout.specs.Lent.{front_of, call_in}
use Rattle.layout.specs.Unindent.{unindent_ops, has_newline_in, begins_with, all_begin, prefix_fault}
use Rattle.layout.specs.Wrap.{onto_first, split_lines}
use Rattle.layout.proofs.LeftLaws.{left_valid}
use Rattle.layout.proofs.LentLaws.{left_in}
use Rattle.layout.proofs.LineLaws.{some_lines, lines_at, later_lines_lem, before_first, split_onto}
use Rattle.layout.proofs.ListLaws.{granted_call, after_done, bal_after, one_call_lem}
use Rattle.layout.proofs.PutLaws.{puts_unindent}
use Rattle.layout.proofs.StepLaws.{length-values, indent_law}
use Rattle.layout.proofs.StripLaws.{Bare, BarePuts, no_puts, text_kept}
use Rattle.layout.proofs.UnindentLaws.{byte_ops, by_bytes, unindent_law, begin_long, no_prefix_fault, prefix_fits}
use Rattle.layout.proofs.WordLaws.{wrap_ordered}

-- ── taking off what was indented
-- at a 0A the next line begins
at_break : (n k : ℕ) (c : Coloured) (cs : List Coloured) → eqb c.val 0x0A ≡ true → unindented n k (c ∷ cs) ≡ c ∷ unindented n n cs
at_break n zero c cs e = rw e
at_break n (suc k) c cs e = rw e

-- bytes without 0A go, as many as are due
all_off : (n : ℕ) (x cs : List Coloured) → has_newline_in (values x) ≡ false → unindented n (length x) (x ++ cs) ≡ unindented n 0 cs
all_off n [] cs h = refl
all_off n (c ∷ x) cs h =
    rw (or_left (eqb c.val 0x0A) (has_newline_in (values x)) h) (all_off n x cs (or_right (eqb c.val 0x0A) (has_newline_in (values x)) h))

length-under : (ls : List Bytes) (x : List Coloured) → length (under ls x) ≡ length x
length-under ls [] = refl
length-under ls (c ∷ x) = ap suc (length-under ls x)

under_off : (n : ℕ) (ls : List Bytes) (p cs : List Coloured) → has_newline_in (values p) ≡ false → unindented n (length p) (under ls p ++ cs) ≡ unindented n 0 cs
under_off n ls p cs h = ap (λ (k : ℕ). unindented n k (under ls p ++ cs)) (sym (length-under ls p)) ∙ all_off n (under ls p) cs (ap has_newline_in (values-under ls p) ∙ h)

-- `start`: the next byte is the first of its line
off_again : (p : List Coloured) → has_newline_in (values p) ≡ false → (start : Bool) (cs : List Coloured) → unindented (length p) (cond start (length p) 0) (indented p start cs) ≡ cs
off_again p h start [] = refl
off_again p h start (c ∷ cs) = go start (eqb c.val 0x0A) refl (λ s. off_again p h s cs)
  where
    n : ℕ
    n = length p

    Later : Type 0
    Later = (s : Bool) → unindented n (cond s n 0) (indented p s cs) ≡ cs

    go : (s t : Bool) → eqb c.val 0x0A ≡ t → Later → unindented n (cond s n 0) (cond (s && not t) (under c.labels p) [] ++ c ∷ indented p t cs) ≡ c ∷ cs
    go true true e f = at_break n n c (indented p true cs) e ∙ ap (λ (l : List Coloured). c ∷ l) (f true)
    go true false e f = under_off n c.labels p (c ∷ indented p false cs) h ∙ rw e (ap (λ (l : List Coloured). c ∷ l) (f false))
    go false t e f = rw e (ap (λ (l : List Coloured). c ∷ l) (f t))

-- ── indenting what was taken off
-- every line that is not empty begins with p, and none is exactly p
abbrev LinesOk : Bytes → List Bytes → Type 0
LinesOk p [] = Unit {0}
LinesOk p (l ∷ ls) = ((is_nil l || begins_with p l) ≡ true) × ((l ≢ p) × LinesOk p ls)

lines_ok : (p : Bytes) (ls : List Bytes) → all_begin p ls ≡ true → NoLineIs p ls → LinesOk p ls
lines_ok p [] h g = tt
lines_ok p (l ∷ ls) h g =
    (and_left (is_nil l || begins_with p l) (all_begin p ls) h, (g.0, lines_ok p ls (and_right (is_nil l || begins_with p l) (all_begin p ls) h) g.1))

-- at a line's start, or further on in the prefix, of which a is taken out and q is still to come; or behind it
abbrev Due : Bytes → Bool → Bytes → Bytes → Bytes → Type 0
Due p true a q l = (a ++ q ≡ p) × (((is_nil l ≡ true) × (a ≡ [])) ⊎ ((begins_with q l ≡ true) × (l ≢ q)))
Due p false a q l = (a ≡ []) × (q ≡ [])

abbrev FirstOk : Bytes → Bool → Bytes → Bytes → List Bytes → Type 0
FirstOk p s a q [] = ⊥
FirstOk p s a q (l ∷ ls) = Due p s a q l × LinesOk p ls

-- a line that begins
new_line : (p : Bytes) (ls : List Bytes) → 0 < length ls → LinesOk p ls → FirstOk p true [] p ls
new_line p [] z h = absurd (omega arith)
new_line p (l ∷ ls) z h = ((refl, go l h.0 h.1.0), h.1.1)
  where
    go : (l : Bytes) → (is_nil l || begins_with p l) ≡ true → l ≢ p → ((is_nil l ≡ true) × (◌≡◌ {A = Bytes} [] [])) ⊎ ((begins_with p l ≡ true) × (l ≢ p))
    go [] e g = inl (refl, refl)
    go (b ∷ l) e g = inr (e, g)

-- a line that begins with q and is not q does not end where q begins
not_over : (q : Bytes) → begins_with q [] ≡ true → ([] ≢ q) → ⊥
not_over [] h g = g refl
not_over (b ∷ q) h g = false≢true h

begins_self : (q l : Bytes) → begins_with q (q ++ l) ≡ true
begins_self [] l = refl
begins_self (b ∷ q) l = rw (eq-eqb b b refl) (begins_self q l)

-- x is the prefix
module _ (x : List Coloured) where
  abbrev n : ℕ
  n = length x

  abbrev p : Bytes
  p = values x

  abbrev Back : Bool → Bytes → Bytes → List Coloured → Type 0
  Back s a q cs = values (indented x s (unindented n (length q) cs)) ≡ a ++ values cs

  abbrev Later : List Coloured → Type 0
  Later cs = (s : Bool) (a q : Bytes) → FirstOk p s a q (split_lines (values cs)) → Back s a q cs

  -- a 0A: the line before it has no prefix due, and a line begins
  back_break : (c : Coloured) (cs : List Coloured) → eqb c.val 0x0A ≡ true → Later cs → (s : Bool) (a q : Bytes) → FirstOk p s a q ([] ∷ split_lines (values cs)) → Back s a q (c ∷ cs)
  back_break c cs e f s a q h = over s h.0
    where
      next : values (indented x true (unindented n n cs)) ≡ values cs
      next = rw (length-values x) at (f true [] p (new_line p (split_lines (values cs)) (some_lines (values cs)) h.1))

      kept : (s : Bool) → values (indented x s (unindented n (length q) (c ∷ cs))) ≡ c.val ∷ values cs
      kept true = ap (λ (l : List Coloured). values (indented x true l)) (at_break n (length q) c cs e) ∙ rw e (ap (λ (l : Bytes). c.val ∷ l) next)
      kept false = ap (λ (l : List Coloured). values (indented x false l)) (at_break n (length q) c cs e) ∙ rw e (ap (λ (l : Bytes). c.val ∷ l) next)

      over : (s : Bool) → Due p s a q [] → Back s a q (c ∷ cs)
      over true (o, inl (z, b)) = kept true ∙ ap (λ (y : Bytes). y ++ (c.val ∷ values cs)) (sym b)
      over true (o, inr (b, g)) = absurd (not_over q b g)
      over false (b, o) = kept false ∙ ap (λ (y : Bytes). y ++ (c.val ∷ values cs)) (sym b)

  -- any other byte is of the prefix, and goes; or it is behind it, and stays
  back-byte : (c : Coloured) (cs : List Coloured) → eqb c.val 0x0A ≡ false → Later cs → (l : Bytes) (ls : List Bytes) → split_lines (values cs) ≡ l ∷ ls
      → (s : Bool) (a q : Bytes) → Due p s a q (c.val ∷ l) → LinesOk p ls → Back s a q (c ∷ cs)
  back-byte c cs e f l ls u s a q h k = go s q h
    where
      first_ok : (s : Bool) (a q : Bytes) → Due p s a q l → FirstOk p s a q (split_lines (values cs))
      first_ok s a q d = rw u (d, k)

      rest : values (indented x false (unindented n 0 cs)) ≡ values cs
      rest = f false [] [] (first_ok false [] [] (refl, refl))

      go : (s : Bool) (q : Bytes) → Due p s a q (c.val ∷ l) → Back s a q (c ∷ cs)
      go true q (o, inl (z, b)) = absurd (false≢true z)
      go true [] (o, inr (b, g)) =
          rw e (values-append (under c.labels x) (c ∷ indented x false (unindented n 0 cs))
          ∙ (λ i. (values-under c.labels x ∙ sym o ∙ append-nil a) i ++ (c.val ∷ rest i)))
      go true (y ∷ q) (o, inr (b, g)) =
          let v : y ≡ c.val = eqb-true y c.val (and_left (eqb y c.val) (begins_with q l) b) in
          let w : l ≢ q = λ z. g (λ i. sym v i ∷ z i) in
          let d : Due p true (a ++ (y ∷ [])) q l = (append_assoc a (y ∷ []) q ∙ o, inr (and_right (eqb y c.val) (begins_with q l) b, w)) in
          rw e (f true (a ++ (y ∷ [])) q (first_ok true (a ++ (y ∷ [])) q d) ∙ append_assoc a (y ∷ []) (values cs) ∙ (λ i. a ++ (v i ∷ values cs)))
      go false q (b, o) =
          ap (λ (k : Bytes). values (indented x false (unindented n (length k) (c ∷ cs)))) o
          ∙ rw e (ap (λ (r : Bytes). c.val ∷ r) rest) ∙ ap (λ (y : Bytes). y ++ (c.val ∷ values cs)) (sym b)

  on_again : (cs : List Coloured) → Later cs
  on_again [] s a q h = go s h.0
    where
      go : (s : Bool) → Due p s a q [] → Back s a q []
      go true (o, inl (z, b)) = ap (λ (y : Bytes). y ++ []) (sym b)
      go true (o, inr (b, g)) = absurd (not_over q b g)
      go false (b, o) = ap (λ (y : Bytes). y ++ []) (sym b)
  on_again (c ∷ cs) s a q h = go (eqb c.val 0x0A) refl h (on_again cs)
    where
      onto : (ls : List Bytes) → split_lines (values cs) ≡ ls → eqb c.val 0x0A ≡ false → Later cs → FirstOk p s a q (onto_first c.val ls) → Back s a q (c ∷ cs)
      onto [] u e f g = absurd (omega (arith, some_lines (values cs), ap length u))
      onto (l ∷ ls) u e f g = back-byte c cs e f l ls u s a q g.0 g.1

      go : (t : Bool) → eqb c.val 0x0A ≡ t → FirstOk p s a q (cond t ([] ∷ split_lines (values cs)) (onto_first c.val (split_lines (values cs)))) → Later cs → Back s a q (c ∷ cs)
      go true e g f = back_break c cs e f s a q g
      go false e g f = onto (split_lines (values cs)) refl e f g

  -- ── what is indented has the prefix at the start of every line that is not empty
  nil_or : (l : Bytes) → begins_with p l ≡ true → (is_nil l || begins_with p l) ≡ true
  nil_or [] h = refl
  nil_or (b ∷ l) h = h

  module _ (h : has_newline_in p ≡ false) where
    marked : (start : Bool) (cs : List Coloured) → all_begin p (lines_at start (split_lines (values (indented x start cs)))) ≡ true
    marked true [] = refl
    marked false [] = refl
    marked start (c ∷ cs) = go start (eqb c.val 0x0A) refl (λ s. marked s cs)
      where
        Marked : Type 0
        Marked = (s : Bool) → all_begin p (lines_at s (split_lines (values (indented x s cs)))) ≡ true

        first : (ls : List Bytes) → all_begin p (drop 1 ls) ≡ true → all_begin p (before_first p ls) ≡ true
        first [] g = rw (nil_or p (rw (append-nil p) at (begins_self p [])))
        first (l ∷ ls) g = rw (nil_or (p ++ l) (begins_self p l), g)

        go : (s t : Bool) → eqb c.val 0x0A ≡ t → Marked → all_begin p (lines_at s (split_lines (values (cond (s && not t) (under c.labels x) [] ++ c ∷ indented x t cs)))) ≡ true
        go true true e f = rw e (f true)
        go true false e f =
            let d : Bytes = values (indented x false cs) in
            ap (λ (y : Bytes). all_begin p (split_lines y)) (values-append (under c.labels x) (c ∷ indented x false cs) ∙ ap (λ (y : Bytes). y ++ (c.val ∷ d)) (values-under c.labels x))
            ∙ ap (all_begin p) (split_onto p (c.val ∷ d) h) ∙ first (split_lines (c.val ∷ d)) (ap (all_begin p) (later_lines_lem c.val d e) ∙ f false)
        go false true e f = rw e (f true)
        go false false e f = ap (all_begin p) (later_lines_lem c.val (values (indented x false cs)) e) ∙ f false

-- ── what the calls leave
left_by : (c : Call) (r : Recording) → refusal c r ≡ 0 → after c r ≡ encode (result_items c.job r)
left_by c r z = after_done c r (eq-eqb (refusal c r) 0 z)

-- an edit of a recording's items leaves the values of the same edit of coloured bytes with its data
values_left : (ops : List Op) (r : Recording) (cs : List Coloured) → values cs ≡ r.data_bytes → data_of (edit ops (items r)) ≡ edit_data ops (values cs)
values_left ops r cs e = edit_data_lem ops (items r) ∙ ap (λ (d : Bytes). edit_data ops d) (data_items r ∙ sym e)

-- cs: coloured bytes with the content's data
module _ (r p : Recording) (cs : List Coloured) (e : values cs ≡ r.data_bytes) where
  indented_data : data_of (result_items (indent p) r) ≡ values (indented (coloured p) true cs)
  unfolding result_items coloured
  indented_data =
      values_left (indent_ops (items p) true r.data_bytes) r cs e ∙ sym (values-edit (indent_ops (items p) true r.data_bytes) cs)
      ∙ ap (λ (d : Bytes). values (edit_coloured (indent_ops (items p) true d) cs)) (sym e) ∙ ap values (indent_law (items p) true cs)

  unindented_data : prefix_fault p.data_bytes r.data_bytes ≡ 0 → data_of (result_items (unindent p) r) ≡ values (unindented (length (coloured p)) (length (coloured p)) cs)
  unfolding result_items
  unindented_data z =
      let n : ℕ = length p.data_bytes in
      let d : Bytes = r.data_bytes in
      let same : n ≡ length (coloured p) = ap length (sym (values_of p)) ∙ length-values (coloured p) in
      ap data_of (by_bytes n d (begin_long p.data_bytes (split_lines d) (no_prefix_fault p.data_bytes d z).all) (items r))
      ∙ values_left (byte_ops n n d) r cs e ∙ sym (values-edit (byte_ops n n d) cs) ∙ ap (λ (y : Bytes). values (edit_coloured (byte_ops n n y) cs)) (sym e)
      ∙ ap values (unindent_law n n cs) ∙ ap (λ (k : ℕ). values (unindented k k cs)) same

-- ── one call of each
module _ (r p : Recording) (o : Room) where
  -- a call that takes off and is not refused has neither 32 nor 33
  taken_off : refusal (unindent_call p o) r ≡ 0 → prefix_fault p.data_bytes r.data_bytes ≡ 0
  unfolding faults_of own_fault
  taken_off z = (granted_call (unindent_call p o) r z).own

  one_line : refusal (unindent_call p o) r ≡ 0 → has_newline_in (values (coloured p)) ≡ false
  one_line z = ap has_newline_in (values_of p) ∙ (no_prefix_fault p.data_bytes r.data_bytes (taken_off z)).one_line

  data_on : refusal (indent_call p o) r ≡ 0 → (cs : List Coloured) → values cs ≡ r.data_bytes → (after (indent_call p o) r).data_bytes ≡ values (indented (coloured p) true cs)
  unfolding encode
  data_on z cs e = ap (λ (q : Recording). q.data_bytes) (left_by (indent_call p o) r z) ∙ indented_data r p cs e

  data_off : refusal (unindent_call p o) r ≡ 0 → (cs : List Coloured) → values cs ≡ r.data_bytes
      → (after (unindent_call p o) r).data_bytes ≡ values (unindented (length (coloured p)) (length (coloured p)) cs)
  unfolding encode
  data_off z cs e = ap (λ (q : Recording). q.data_bytes) (left_by (unindent_call p o) r z) ∙ unindented_data r p cs e (taken_off z)

  colours_on : balanced r ≡ true → balanced p ≡ true → refusal (indent_call p o) r ≡ 0 → coloured (after (indent_call p o) r) ≡ indented (coloured p) true (coloured r)
  unfolding step told_of_job
  colours_on h g z = one_call_lem wrap_ordered (indent_call p o) r h (λ e. (λ w. g, λ w. absurd (false≢true w))) ∙ rw (eq-eqb (refusal (indent_call p o) r) 0 z)

  colours_off : balanced r ≡ true → refusal (unindent_call p o) r ≡ 0 → coloured (after (unindent_call p o) r) ≡ unindented (length (coloured p)) (length (coloured p)) (coloured r)
  unfolding step told_of_job
  colours_off h z = one_call_lem wrap_ordered (unindent_call p o) r h (λ e. (λ w. absurd (false≢true w), λ w. absurd (false≢true w))) ∙ rw (eq-eqb (refusal (unindent_call p o) r) 0 z)

-- ── nothing is put in, so the result is within the limits of the content
less_data : (ops : List Op) (d : Bytes) → AllPuts (λ (x : List Item). ⊥) ops → length (edit_data ops d) ≤ length d
less_data [] d h = omega arith
less_data (keep n ∷ ops) d h =
    omega (arith, length-append (take n d) (edit_data ops (drop n d)), ap length (take-append-drop n d), length-append (take n d) (drop n d), less_data ops (drop n d) h)
less_data (skip n ∷ ops) d h = omega (arith, less_data ops (drop n d) h, length-drop n d)
less_data (put x ∷ ops) d h = absurd h.0

within_limits : (ops : List Op) (is : List Item) → AllPuts (λ (x : List Item). ⊥) ops → BarePuts ops → over_limit (encode is) ≡ 0 → over_limit (encode (edit ops is)) ≡ 0
unfolding over_limit encode
within_limits ops is h g z =
    let l = in_limits (encode is) z in
    let none = no_puts ops g in
    let d = less_data ops (data_of is) h in
    let e : length (data_of (edit ops is)) ≡ length (edit_data ops (data_of is)) = ap length (edit_data_lem ops is) in
    rw (
      le-ltb 1048576 (length (data_of (edit ops is))) (omega (arith, d, e, ltb-false 1048576 (length (data_of is)) l.data_bytes)),
      le-ltb 16384 (length (numbers_of_ranges (entries_from 0 [] [] (edit ops is))))
          (omega (arith, count_numbers (edit ops is) 0 [] [], count_numbers is 0 [] [], edit-count ops is, none, ltb-false 16384 (length (numbers_of_ranges (entries_from 0 [] [] is))) l.entry_numbers)),
      le-ltb 65536 (length (text_from 0 [] [] (edit ops is))) (omega (arith, text_kept ops is g, ltb-false 65536 (length (text_from 0 [] [] is)) l.text)),
    )

-- refusals for want of room are 21 to 24
room_numbers : (o : Room) (x : Result) → no_room o x ≤ 24
unfolding no_room
room_numbers o x =
    go (ltb o.data_bytes (length x.recording.data_bytes)) (ltb o.entry_numbers (length x.recording.entry_numbers))
    (ltb o.text (length x.recording.text)) (ltb o.lines (length x.lines))
  where
    go : (a b c d : Bool) → first_of (refuse_if a 21 ∷ refuse_if b 22 ∷ refuse_if c 23 ∷ refuse_if d 24 ∷ []) ≤ 24
    go true b c d = omega arith
    go false true c d = omega arith
    go false false true d = omega arith
    go false false false true = omega arith
    go false false false false = omega arith

-- ── after an indent
module _ (r p : Recording) (o o' : Room) (h : has_newline_in p.data_bytes ≡ false) (z : refusal (indent_call p o) r ≡ 0) where
  abbrev made : Recording
  made = after (indent_call p o) r

  fits : prefix_fault p.data_bytes made.data_bytes ≡ 0
  fits =
      let g : all_begin (values (coloured p)) (split_lines (values (indented (coloured p) true (coloured r)))) ≡ true = marked (coloured p) (ap has_newline_in (values_of p) ∙ h) true (coloured r) in
      prefix_fits p.data_bytes made.data_bytes
      (record { one_line = h; all = (λ i. all_begin (sym (values_of p) i) (split_lines (data_on r p o z (coloured r) (values_of r) i))) ∙ g })

  -- the items of what was made are those that the indent put together
  whole : over_limit (encode (items made)) ≡ 0
  unfolding result_of
  whole =
      ap (λ (q : Recording). over_limit (encode (items q))) (left_by (indent_call p o) r z)
      ∙ ap (λ (is : List Item). over_limit (encode is)) (items-encode (result_items (indent p) r)) ∙ (granted_call (indent_call p o) r z).limit

  limit : over_limit (result_of (unindent p) made).recording ≡ 0
  unfolding result_of result_items
  limit =
      let n : ℕ = length p.data_bytes in
      let ls : List Bytes = split_lines made.data_bytes in
      within_limits (unindent_ops n ls) (items made) (puts_unindent (λ (x : List Item). ⊥) n ls) (puts_unindent Bare n ls) whole

  only_room_lem : refusal (unindent_call p o') made ≡ no_room o' (result_of (unindent p) made)
  unfolding refusal faults_of second_fault own_fault
  only_room_lem =
      stops_sizes (faults_of (unindent p) made) o' (result_of (unindent p) made) refl (left_valid (indent_call p o) r z) (granted_call (indent_call p o) r z).second refl refl fits
      ∙ first_on (over_limit (result_of (unindent p) made).recording) (no_room o' (result_of (unindent p) made) ∷ []) limit ∙ first_one (no_room o' (result_of (unindent p) made))

  not_own : (k : ℕ) → 24 < k → refusal (unindent_call p o') made ≢ k
  not_own k g e = omega (arith, g, e, only_room_lem, room_numbers o' (result_of (unindent p) made))

-- ── the two round trips
module _ (r p : Recording) (o o' : Room) where
  there_and_back : balanced r ≡ true → balanced p ≡ true → refusal (indent_call p o) r ≡ 0 → refusal (unindent_call p o') (after (indent_call p o) r) ≡ 0
      → coloured (after (unindent_call p o') (after (indent_call p o) r)) ≡ coloured r
  there_and_back h g z y =
      let q : Recording = after (indent_call p o) r in
      let b : balanced q ≡ true = bal_after (indent_call p o) r h (λ e. (λ w. g, λ w. absurd (false≢true w))) in
      colours_off q p o' b y ∙ ap (λ (cs : List Coloured). unindented (length (coloured p)) (length (coloured p)) cs) (colours_on r p o h g z)
      ∙ off_again (coloured p) (one_line q p o' y) true (coloured r)

  back_and_there_lem : refusal (unindent_call p o) r ≡ 0 → refusal (indent_call p o') (after (unindent_call p o) r) ≡ 0 → NoLineIs p.data_bytes (split_lines r.data_bytes)
      → (after (indent_call p o') (after (unindent_call p o) r)).data_bytes ≡ r.data_bytes
  back_and_there_lem z y none =
      let x : List Coloured = coloured p in
      let cs : List Coloured = coloured r in
      let f = no_prefix_fault p.data_bytes r.data_bytes (taken_off r p o z) in
      let ok : LinesOk (values x) (split_lines (values cs)) =
      (rw (← values_of p, ← values_of r) at (lines_ok p.data_bytes (split_lines r.data_bytes) f.all none)) in
      let back = on_again x cs true [] (values x) (new_line (values x) (split_lines (values cs)) (some_lines (values cs)) ok) in
      data_on (after (unindent_call p o) r) p o' y (unindented (length x) (length x) cs) (sym (data_off r p o z cs (values_of r)))
      ∙ (rw (length-values x) at back) ∙ values_of r

pub round_trips : IndentRoundTrips
round_trips r p o o' =
    record {
      there_and_back_lem = there_and_back r p o o';
      back_and_there = back_and_there_lem r p o o';
      takes_off = λ h z. (not_own r p o o' h z 32 (omega arith), not_own r p o o' h z 33 (omega arith));
      only_room = λ h z. only_room_lem r p o o' h z;
    }

-- ── of running code
-- what the second call left is what the two calls leave, and neither was refused
module _ (first second : Job) (r : Recording) (x : TwoCalls first second r) where
  abbrev made_first : Call
  made_first = call_in first x.b

  abbrev made_then : Call
  made_then = call_in second x.c

  first_left : (refusal made_first r ≡ 0) × (front_of x.d x.e x.t x.b' ≡ after made_first r)
  first_left = left_in x.b x.b' x.d x.e x.t 0 first r x.one

  then_left : (refusal made_then (after made_first r) ≡ 0) × (left_by_calls x ≡ after made_then (after made_first r))
  then_left =
      let g = left_in x.c x.c' x.d' x.e' x.t' 0 second (front_of x.d x.e x.t x.b') x.two in
      let q = first_left.1 in
      (ap (λ (y : Recording). refusal made_then y) (sym q) ∙ g.0, g.1 ∙ ap (λ (y : Recording). after made_then y) q)

pub running_round_trips : (r p : Recording) → RunningRoundTrips r p
running_round_trips r p =
    record {
      there_and_back_lem = λ h g x.
          let z = (first_left (indent p) (unindent p) r x).0 in
          let y = then_left (indent p) (unindent p) r x in
          ap coloured y.1 ∙ there_and_back r p (room_in x.b) (room_in x.c) h g z y.0;
      back_and_there = λ none x.
          let z = (first_left (unindent p) (indent p) r x).0 in
          let y = then_left (unindent p) (indent p) r x in
          ap (λ (q : Recording). q.data_bytes) y.1 ∙ back_and_there_lem r p (room_in x.b) (room_in x.c) z y.0 none;
    }
