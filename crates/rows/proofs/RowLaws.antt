-- The rows of numbers, of lines and of sheet lines, one further each time; and how long a sheet line is that gives rows.
use Rattle.recording.specs.Outcome.{Answer}
use Prim.Native.Nat.{ℕ, suc, ◌+◌, ◌-◌, ◌*◌, ◌/◌, ◌%◌, ◌≤◌, ◌<◌}
use native.Mathlib.Omega.{arith}
use native.Mathlib.Numerals.{add-one}
use mathlib.Core.Bool.{Bool, true, false, cond, ◌&&◌}
use mathlib.Core.Path.{◌≡◌, refl, ap, subst, ◌∙◌}
use mathlib.Core.List.{List, [], ◌∷◌, ◌++◌}
use lib.Dec.{leb, ltb, eqb}
use lib.ListN.{length, take, drop, get_or, drop_of_length-le}
use lib.Seq.{drop-cons}
use borrow.Author.Tests.{leb-true}
use Rattle.buffer.specs.Place.{over, over_at}
use Rattle.buffer.proofs.Laws.{take_over}
use Rattle.recording.specs.Recording.{Bytes}
use Rattle.recording.specs.Refusals.{data_limit}
use Rattle.recording.specs.Outcome.{Outcome, Lent, done, lent_after, Returned, returned, answer_of, lent_lines, Promised}
use Rattle.layout.specs.Wrap.{Line, line_width, line_numbers, wrap_lines_of}
use Rattle.wrap_lines.specs.WrapBytes.{wrap_result, wrap_bytes_outcome}
use Rattle.wrap_lines.proofs.WrapLaws.{numbers_length, outcome_done}
use Rattle.sheet.proofs.SheetLaws.{sheet_next}
use Rattle.sheet.specs.Sheet.{after, up_to, sheet_line, sheet_lines, value_from, is_decimal, decimal_of, is_break_text, break_of_text, is_data_text, all_hex_of, data_of}
use Rattle.sheet.specs.Sheet.{width_field, break_field, data_field, good_line}
use Rattle.rows.specs.Rows.{row_text, bad_row, line_rows, number_rows, wrap_rows, rows_of, rows_from, Says}
use Rattle.rows.specs.declared.Task.{Task}
use Rattle.std.specs.Prelude.{Some, None}
use Rattle.std.specs.Simd.{first_chunks}

pub false_true : false ≡ true → ⊥
false_true e = subst (λ (b : Bool). cond b ⊥ (Unit {0})) e tt

-- ── rows of a line list
pub rows_lines : (d : Bytes) (r k : ℕ) (ls : List Line) → number_rows r k (line_numbers d ls) ≡ line_rows d r k ls
rows_lines d r k [] = refl
rows_lines d r k (l ∷ ls) = ap (λ (x : Bytes). row_text r k l.first l.end (line_width d l) ++ x) (rows_lines d r (suc k) ls)

-- ── the bound: a right third field is not empty, and each space before it takes a byte
after_shorter : (c : ℕ) (s : Bytes) → 0 < length (after c s) → length (after c s) < length s
after_shorter c [] h = absurd (omega (arith, h))
after_shorter c (b ∷ s) h = go (eqb b c) (after_shorter c s) h
  where
    go : (t : Bool) → (0 < length (after c s) → length (after c s) < length s) → 0 < length (cond t s (after c s)) → length (cond t s (after c s)) < suc (length s)
    go true f h = omega arith
    go false f h = omega (arith, f h)

both : (a b : Bool) → (a && b) ≡ true → (a ≡ true) × (b ≡ true)
both true true e = (refl, refl)
both true false e = (refl, e)
both false b e = (e, absurd (false_true e))

data_size : (s : Bytes) → is_data_text s ≡ true → (1 ≤ length s) × (length s ≤ 8000)
unfolding is_data_text
data_size [] e = absurd (false_true e)
data_size (b ∷ []) e = (omega arith, omega arith)
data_size (b ∷ c ∷ s) e =
    let p = both (eqb (length (b ∷ c ∷ s) % 2) 0) (leb (length (b ∷ c ∷ s)) 8000 && all_hex_of (b ∷ c ∷ s)) e in
    let q = both (leb (length (b ∷ c ∷ s)) 8000) (all_hex_of (b ∷ c ∷ s)) p.1 in
    (omega arith, leb-true (length (b ∷ c ∷ s)) 8000 q.0)

-- what a buffer holds at its front, once a result stands there
pub held : (n : ℕ) (ns old new : List ℕ) → n ≡ length ns → new ≡ over ns old → take n new ≡ ns
held n ns old new e f = ap (take n) f ∙ ap (λ (j : ℕ). take j (over ns old)) e ∙ take_over ns old

pub same_row : (at : ℕ) (out x y : Bytes) (r : ℕ) (o : Bytes) → x ≡ y → r ≡ at + length x → o ≡ over_at at x out → (r ≡ at + length y) × (o ≡ over_at at y out)
same_row at out x y r o e f g = (f ∙ ap (λ (l : Bytes). at + length l) e, g ∙ ap (λ (l : Bytes). over_at at l out) e)

-- ── a value line's data d, wrapped: the line list does, at most one line a byte and one more; a is the answer, and n numbers are those of the lines
module _ (w : ℕ) (b : Bool) (d old new : List ℕ) (a : Answer) (few : length d ≤ data_limit → length (wrap_lines_of w b d) ≤ length d + 1) (short : length d ≤ 4000) (room : 12003 ≤ length old)
    (p : Promised (wrap_bytes_outcome w b d (length old)) (lent_lines old) (lent_lines new) a) where
  enough : wrap_bytes_outcome w b d (length old) ≡ done (wrap_result w b d)
  enough = outcome_done w b d (length old) (omega (arith, short)) (omega (arith, numbers_length d (wrap_lines_of w b d), few (omega (arith, short)), short, room))

  line_count_lem : (answer_of a).number ≡ length (wrap_lines_of w b d)
  unfolding returned
  line_count_lem = ap (λ (x : Returned). x.number) (p.0 ∙ ap returned enough)

  pub few_lines : (answer_of a).number ≤ length d + 1
  few_lines = omega (arith, line_count_lem, few (omega (arith, short)))

  module _ (n : ℕ) (e : n ≡ (answer_of a).number * 3) where
    pub numbers : take n new ≡ line_numbers d (wrap_lines_of w b d)
    unfolding lent_after
    numbers =
        held n (line_numbers d (wrap_lines_of w b d)) old new (omega (arith, e, line_count_lem, numbers_length d (wrap_lines_of w b d)))
        (ap (λ (x : Lent). x.lines) p.1 ∙ ap (λ (x : Outcome). (lent_after x (lent_lines old)).lines) enough)

-- ── a value line, bad or good
pub row_open : (r : ℕ) (t : Bytes) (e : Bool) → e ≡ false → bad_row r ≡ rows_of r (sheet_line t e)
unfolding rows_of
row_open r t e h = simp h

pub row_wrong : (r : ℕ) (t : Bytes) (e : Bool) → good_line t ≡ false → bad_row r ≡ rows_of r (sheet_line t e)
unfolding rows_of
row_wrong r t true g = simp g
row_wrong r t false g = refl

row_good : (r : ℕ) (t : Bytes) (e : Bool) → e ≡ true → good_line t ≡ true
    → wrap_rows r (value_from 0 (width_field t)) (break_of_text (break_field t)) (data_of (data_field t)) ≡ rows_of r (sheet_line t e)
unfolding rows_of
row_good r t e h g = simp (h, g)

-- a good line is longer than its third field by two at least
third_shorter : (t : Bytes) → is_data_text (after 0x20 (after 0x20 t)) ≡ true → (length (after 0x20 (after 0x20 t)) ≤ 8000) × (length (after 0x20 (after 0x20 t)) + 2 ≤ length t)
third_shorter t h =
    let d = data_size (after 0x20 (after 0x20 t)) h in
    let a = after_shorter 0x20 (after 0x20 t) (omega (arith, d.0)) in
    let b = after_shorter 0x20 t (omega (arith, a)) in
    (d.1, omega (arith, a, b))

-- ── what a value line says, by its fields
none_if : {A : Type 0} (b : Bool) (x : A) → None ≡ cond b (Some x) None → b ≡ false
none_if true x e = cc
none_if false x e = refl

some_if : {A : Type 0} (b : Bool) (x y : A) → Some y ≡ cond b (Some x) None → (b ≡ true) × (y ≡ x)
some_if true x y e = (refl, cc)
some_if false x y e = cc

module _ (t : Bytes) where
  pub bad_width : None ≡ decimal_of (up_to 0x20 t) → good_line t ≡ false
  unfolding decimal_of good_line width_field
  bad_width e = simp (none_if (is_decimal (up_to 0x20 t)) (value_from 0 (up_to 0x20 t)) e)

  module _ (w : ℕ) (width : Some w ≡ decimal_of (up_to 0x20 t)) where
    decimal : (is_decimal (up_to 0x20 t) ≡ true) × (w ≡ value_from 0 (up_to 0x20 t))
    unfolding decimal_of
    decimal = some_if (is_decimal (up_to 0x20 t)) (value_from 0 (up_to 0x20 t)) w width

    abbrev flag : Bytes
    flag = up_to 0x20 (after 0x20 t)

    pub bad_break : None ≡ cond (is_break_text flag) (Some (break_of_text flag)) None → good_line t ≡ false
    unfolding good_line width_field break_field
    bad_break e = simp (decimal.0, none_if (is_break_text flag) (break_of_text flag) e)

    module _ (b : Bool) (breaks : Some b ≡ cond (is_break_text flag) (Some (break_of_text flag)) None) where
      is_break : (is_break_text flag ≡ true) × (b ≡ break_of_text flag)
      is_break = some_if (is_break_text flag) (break_of_text flag) b breaks

      pub bad_data : is_data_text (after 0x20 (after 0x20 t)) ≡ false → good_line t ≡ false
      unfolding good_line width_field break_field data_field
      bad_data e = simp (decimal.0, is_break.0, e)

      pub all_good : is_data_text (after 0x20 (after 0x20 t)) ≡ true → good_line t ≡ true
      unfolding good_line width_field break_field data_field
      all_good e = simp (decimal.0, is_break.0, e)

      pub says : (task : Task) → task.width ≡ w → task.breaks ≡ b → task.hex.now ≡ after 0x20 (after 0x20 t) → is_data_text (after 0x20 (after 0x20 t)) ≡ true → Says t task
      unfolding width_field break_field data_field
      says task p q r e =
          let third = third_shorter t e in
          record { width = p ∙ decimal.1; breaks = q ∙ is_break.1; hex = r; short = (omega (arith, ap length r, third.0), omega (arith, ap length r, third.1)) }

-- the rows of a right line
pub row_says : (r : ℕ) (t : Bytes) (task : Task) → good_line t ≡ true → Says t task → wrap_rows r task.width task.breaks (data_of task.hex.now) ≡ rows_of r (sheet_line t true)
row_says r t task g s = (λ i. wrap_rows r (s.width i) (s.breaks i) (data_of (s.hex i))) ∙ row_good r t true refl g

-- ── rows of a line list by threes
unfoldable pub rows_in : ℕ → ℕ → List (List ℕ) → Bytes
rows_in r k [] = []
rows_in r k (n ∷ ns) = row_text r k (get_or n 0 0) (get_or n 1 0) (get_or n 2 0) ++ rows_in r (suc k) ns

rows_in_few : (r k : ℕ) (ns : List ℕ) → length ns < 3 → rows_in r k (first_chunks 3 (length ns / 3) ns) ≡ []
unfolding rows_in
rows_in_few r k ns h = let z : length ns / 3 ≡ 0 = omega arith in rw z

pub rows_in_numbers : (r k : ℕ) (ns : List ℕ) → rows_in r k (first_chunks 3 (length ns / 3) ns) ≡ number_rows r k ns
unfolding rows_in
rows_in_numbers r k [] = rows_in_few r k [] (omega arith)
rows_in_numbers r k (a ∷ []) = rows_in_few r k (a ∷ []) (omega arith)
rows_in_numbers r k (a ∷ e ∷ []) = rows_in_few r k (a ∷ e ∷ []) (omega arith)
rows_in_numbers r k (a ∷ e ∷ w ∷ ns) =
    let l = a ∷ e ∷ w ∷ ns in
    let z : length l / 3 ≡ suc (length ns / 3) = omega arith in
    ap (λ (n : ℕ). rows_in r k (first_chunks 3 n l)) z ∙ ap (λ (b : Bytes). row_text r k a e w ++ b) (rows_in_numbers r (suc k) ns)

pub rows_in_next : (r i : ℕ) (ns : List (List ℕ)) → i < length ns
    → rows_in r i (drop i ns) ≡ row_text r i (get_or (get_or ns i []) 0 0) (get_or (get_or ns i []) 1 0) (get_or (get_or ns i []) 2 0) ++ rows_in r (i + 1) (drop (i + 1) ns)
unfolding rows_in
rows_in_next r i ns h = rw (add-one, drop-cons ns i [] h)

pub rows_in_end : (r i : ℕ) (ns : List (List ℕ)) → length ns ≤ i → rows_in r i (drop i ns) ≡ []
unfolding rows_in
rows_in_end r i ns h = rw (drop_of_length-le ns {i = i} h)

-- ── the rows of the line of a sheet at p, whose end is e, and those of the lines after it
pub next_rows : (r : ℕ) (s : Bytes) (p e : ℕ) → p < length s → e ≡ p + length (up_to 0x0A (drop p s))
    → rows_from r (sheet_lines (drop p s)) ≡ rows_of r (sheet_line (take (e - p) (drop p s)) (ltb e (length s))) ++ rows_from (r + 1) (sheet_lines (drop (e + 1) s))
next_rows r s p e h k =
    let v : suc r ≡ r + 1 = omega arith in
    ap (rows_from r) (sheet_next s p e h k) ∙ ap (λ (j : ℕ). rows_of r (sheet_line (take (e - p) (drop p s)) (ltb e (length s))) ++ rows_from j (sheet_lines (drop (e + 1) s))) v
