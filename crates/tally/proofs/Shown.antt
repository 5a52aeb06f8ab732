-- What Q-10 asks to be shown, of every sheet that is not turned away and of what the call leaves. What was tested line by line makes each row right; a row holds no 0A, so the sheet reads as its rows; the last row's digits read back as the count and the sum.
use Prim.Native.Nat.{ℕ, zero, suc, ◌+◌, ◌-◌, ◌≤◌, ◌<◌}
use native.Mathlib.Omega.{arith}
use mathlib.Core.Bool.{Bool, true, false, ◌||◌}
use mathlib.Core.Path.{◌≡◌, refl, sym, ap, ◌∙◌}
use mathlib.Core.List.{List, [], ◌∷◌, ◌++◌}
use lib.Dec.{ltb}
use lib.ListN.{length, take}
use borrow.Author.Tests.{le-ltb, ltb-false, ne_eqb}
use Rattle.chars.specs.Utf8.{table37, row_of as row_of_lead, tail_len, complete}
use Rattle.chars.specs.Chars.{char_at, chars}
use Rattle.controls.proofs.ControlLaws.{CleanText, text_clean, clean_none, clean_join}
use Rattle.buffer.specs.Place.{over}
use Rattle.buffer.proofs.Laws.{take_over}
use Rattle.recording.specs.Lists.{AllOf}
use Rattle.recording.specs.Recording.{Bytes}
use Rattle.recording.specs.Refusals.{data_limit, first_of, refuse_if}
use Rattle.recording.specs.Outcome.{Room, Result, Faults, Outcome, done, over_limit, no_room, refusal_of, settle, Lent, room_in, Returned, returned, answer_of, lent_after}
use Rattle.recording.proofs.FaultLaws.{first_of-zero, refuse_if-zero, in_limits, granted}
use Rattle.recording.proofs.OutcomeLaws.{refusal_told, is_done}
use Rattle.recording.proofs.Lists.{and_left, and_right}
use Rattle.cells.specs.Cells.{bare}
use Rattle.cells.proofs.CellLaws.{bare_fault}
use Rattle.sheet.specs.Sheet.{is_digit, all_digits, up_to, after, has, value_from, is_decimal}
use Rattle.sheet.specs.Decimal.{decimal}
use Rattle.sheet.proofs.DecimalLaws.{value_decimal, digits_decimal, decimal-decimal, digit_bounds, digits_lack, up_to_field, after_field}
use Rattle.tally.specs.Tally.{lines_of, cells_of, Column, columns_of, row_of, rows_of, boards_at_text, boards_cell, is_boards, boards_sum, last_row, last_of, ended, sheet, shape_fault, cells_fault, count_fault, names_fault, all_values_fault, lines_fault, tally_fault, tally_faults, tally_result, tally_outcome}
use Rattle.tally.specs.Shown.{cell_at, RowRight, EachRow, LastRight, SheetRight, Shown, Turned}
use Rattle.tally.proofs.CellLaws.{one_clean}
use Rattle.tally.proofs.RowLaws.{Whole, whole_join, row_right}
use Rattle.tally.proofs.InputLaws.{whole_lines, whole_cells, shorter, short_lines, short_cells, first_line, lines_ended, ended_long}
use Rattle.tally.proofs.FaultLaws.{Columns, right_columns, right_shape, counted, names_tests, values_tests, all_tests, sum_small, all_numbers, no_sum, first_called}

-- ── digits are clean
digit_clean : (d : ℕ) → d < 10 → CleanText ((0x30 + d) ∷ [])
unfolding chars char_at tail_len complete row_of_lead table37
digit_clean zero h = record { ok = refl; plain = refl }
digit_clean (suc zero) h = record { ok = refl; plain = refl }
digit_clean (suc (suc zero)) h = record { ok = refl; plain = refl }
digit_clean (suc (suc (suc zero))) h = record { ok = refl; plain = refl }
digit_clean (suc (suc (suc (suc zero)))) h = record { ok = refl; plain = refl }
digit_clean (suc (suc (suc (suc (suc zero))))) h = record { ok = refl; plain = refl }
digit_clean (suc (suc (suc (suc (suc (suc zero)))))) h = record { ok = refl; plain = refl }
digit_clean (suc (suc (suc (suc (suc (suc (suc zero))))))) h = record { ok = refl; plain = refl }
digit_clean (suc (suc (suc (suc (suc (suc (suc (suc zero)))))))) h = record { ok = refl; plain = refl }
digit_clean (suc (suc (suc (suc (suc (suc (suc (suc (suc zero))))))))) h = record { ok = refl; plain = refl }
digit_clean (suc (suc (suc (suc (suc (suc (suc (suc (suc (suc d)))))))))) h = absurd (omega arith)

digits_clean : (s : Bytes) → all_digits s ≡ true → CleanText s
digits_clean [] h = clean_none
digits_clean (b ∷ s) h =
    let p = digit_bounds b (and_left (is_digit b) (all_digits s) h) in
    let e : 0x30 + (b - 0x30) ≡ b = omega (arith, p.0) in
    let c : CleanText (b ∷ []) = rw e at (digit_clean (b - 0x30) (omega (arith, p.1))) in
    clean_join (b ∷ []) s c (digits_clean s (and_right (is_digit b) (all_digits s) h))

-- ── the last row
module _ (n sum : ℕ) where
  lack : (c m : ℕ) → c < 0x30 → has c (decimal m) ≡ false
  lack c m h = digits_lack c (decimal m) h (digits_decimal m)

  last_clean : CleanText (last_row n sum)
  unfolding last_row
  last_clean =
      clean_join (decimal n) (0x20 ∷ decimal sum) (digits_clean (decimal n) (digits_decimal n)) (clean_join (0x20 ∷ []) (decimal sum) one_clean (digits_clean (decimal sum) (digits_decimal sum)))

  last_whole : Whole (last_row n sum)
  unfolding last_row
  last_whole = whole_join (decimal n) (0x20 ∷ decimal sum) (lack 0x0A n (omega arith)) (lack 0x0A sum (omega arith))

  last_count : up_to 0x20 (last_row n sum) ≡ decimal n
  unfolding last_row
  last_count = up_to_field 0x20 (decimal n) (decimal sum) (lack 0x20 n (omega arith))

  last_sum : after 0x20 (last_row n sum) ≡ decimal sum
  unfolding last_row
  last_sum = after_field 0x20 (decimal n) (decimal sum) (lack 0x20 n (omega arith))

-- ── the rows of lines
module _ (cs : List Column) where
  rows_whole : (ls rs : List Bytes) (last : Bytes) → EachRow cs ls rs → Whole last → AllOf Whole (rs ++ (last ∷ []))
  rows_whole [] [] last h w = (w, tt)
  rows_whole [] (r ∷ rs) last h w = absurd h
  rows_whole (l ∷ ls) [] last h w = absurd h
  rows_whole (l ∷ ls) (r ∷ rs) last h w = (h.0.whole, rows_whole ls rs last h.1 w)

module _ (ns : List ℕ) (c : Columns ns) where
  abbrev ks : List Column
  ks = columns_of ns

  row_of_lem : (l : Bytes) → count_fault (length ks) l ≡ 0 → cells_fault (cells_of l) ≡ 0 → Whole l → length l ≤ data_limit → length (row_of ks l) ≤ data_limit → RowRight ks l (row_of ks l)
  row_of_lem l a f w h short =
      row_right ks l (record { columns = c.good; clean = f; whole = whole_cells l w; short = shorter (length l) data_limit (cells_of l) h (short_cells l); many = counted (length ks) l a }) c.some short

  -- ls are the lines that are left of the values
  values_rows : (k : ℕ) (ls : List Bytes) → all_values_fault (length ks) k ls ≡ 0 → AllOf Whole ls → AllOf (λ l. length l ≤ data_limit) ls → AllOf (λ r. length r ≤ data_limit) (rows_of ks ls)
      → EachRow ks ls (rows_of ks ls)
  values_rows k [] f w h short = tt
  values_rows k (l ∷ ls) f w h short =
      let p = all_tests (length ks) k l ls f in
      let q = values_tests (length ks) k l p.0 in
      (row_of_lem l q.0 q.1 w.0 h.0 short.0, values_rows k ls p.1 w.1 h.1 short.1)

all_but_last : (n : ℕ) (rs : List Bytes) (last : Bytes) → AllOf (λ r. length r ≤ n) (rs ++ (last ∷ [])) → AllOf (λ r. length r ≤ n) rs
all_but_last n [] last h = tt
all_but_last n (r ∷ rs) last h = (h.0, all_but_last n rs last h.1)

-- ── the sheet of an input that is not turned away
module _ (ns : List ℕ) (s : Bytes) (names : Bytes) (values : List Bytes) (lines : lines_of s ≡ names ∷ values) (f : tally_fault ns s ≡ 0) where
  abbrev cs : List Column
  cs = columns_of ns

  abbrev k : ℕ
  k = boards_at_text (cells_of names)

  abbrev sum : ℕ
  sum = boards_sum k values

  abbrev last : Bytes
  last = last_row (length values) sum

  abbrev rows : List Bytes
  rows = rows_of cs (names ∷ values)

  tests : (shape_fault ns (lines_of s) ≡ 0) × (lines_fault (length cs) (lines_of s) ≡ 0)
  unfolding tally_fault
  tests =
      let p = first_of-zero (shape_fault ns (lines_of s)) (lines_fault (length cs) (lines_of s) ∷ []) f in
      (p.0, (first_of-zero (lines_fault (length cs) (lines_of s)) [] p.1).0)

  columns : Columns ns
  columns = right_columns ns (right_shape ns (lines_of s) tests.0).0

  pub line_tests : (names_fault (length cs) names ≡ 0) × (all_values_fault (length cs) k values ≡ 0)
  line_tests =
      let e : lines_fault (length cs) (names ∷ values) ≡ 0 = ap (λ (ls : List Bytes). lines_fault (length cs) ls) (sym lines) ∙ tests.1 in
      let p = first_of-zero (names_fault (length cs) names) (all_values_fault (length cs) k values ∷ []) e in
      (p.0, (first_of-zero (all_values_fault (length cs) k values) [] p.1).0)

  all_whole : AllOf Whole (names ∷ values)
  all_whole = rw lines at (whole_lines s)

  sheet_is : sheet cs s ≡ ended (rows ++ (last ∷ []))
  unfolding sheet
  sheet_is = λ i. ended (rows_of cs (lines i) ++ (last_of (lines i) ∷ []))

  few : suc (length values) ≤ 4096
  few = omega (arith, ap length lines, (right_shape ns (lines_of s) tests.0).1)

  pub small : sum ≤ 268365825
  small = omega (arith, few, sum_small (length cs) k values line_tests.1)

  last_right : LastRight names values last
  last_right =
      let n : ℕ = length values in
      let p : n ≤ 4294967295 = omega (arith, few) in
      let q : sum ≤ 4294967295 = omega (arith, small) in
      record {
        decimals = (ap is_decimal (last_count n sum) ∙ decimal-decimal n p, ap is_decimal (last_sum n sum) ∙ decimal-decimal sum q);
        lines = ap (value_from 0) (last_count n sum) ∙ value_decimal n (omega (arith, p));
        sum = ap (value_from 0) (last_sum n sum) ∙ value_decimal sum (omega (arith, q));
        small = small;
        clean = text_clean (last_row n sum) (last_clean n sum);
        whole = last_whole n sum;
      }

  numbers : k < length cs → AllOf (λ l. is_boards (cell_at l k) ≡ true) values
  unfolding boards_cell
  numbers h = all_numbers (length cs) k values line_tests.1 h

  -- and that is not too long, nor its sheet
  module _ (input-short : length s ≤ data_limit) (sheet-short : length (sheet cs s) ≤ data_limit) where
    all_short : AllOf (λ l. length l ≤ data_limit) (names ∷ values)
    all_short = shorter (length s) data_limit (names ∷ values) input-short (rw lines at (short_lines s))

    rows_short : AllOf (λ r. length r ≤ data_limit) rows
    rows_short =
        all_but_last data_limit rows last (shorter (length (ended (rows ++ (last ∷ [])))) data_limit (rows ++ (last ∷ [])) (omega (arith, sheet-short, ap length sheet_is)) (ended_long (rows ++ (last ∷ []))))

    each : EachRow cs (names ∷ values) rows
    each =
        let t = names_tests (length cs) names line_tests.0 in
        (row_of_lem ns columns names t.0 t.1 all_whole.0 all_short.0 rows_short.0, values_rows ns columns k values line_tests.1 all_whole.1 all_short.1 rows_short.1)

    sheet_right : SheetRight ns s (sheet cs s)
    sheet_right =
        record {
          names = names;
          values = values;
          lines = lines;
          rows = rows;
          last = last;
          printed = sheet_is;
          reads = ap lines_of sheet_is ∙ lines_ended (row_of cs names) (rows_of cs values ++ (last ∷ [])) (rows_whole cs (names ∷ values) rows last each last_right.whole);
          each = each;
          tally = last_right;
          column = first_called (cells_of names);
          numbers = numbers;
          without = λ h. no_sum (length cs) k values line_tests.1 h;
        }

-- ── of what the call leaves
left_sheet : (ns : List ℕ) (s : Bytes) (o : Room) → refusal_of (tally_faults ns s) o (tally_result ns s) ≡ 0 → SheetRight ns s (sheet (columns_of ns) s)
unfolding tally_faults tally_result
left_sheet ns s o z =
    let g = granted (tally_faults ns s) o (tally_result ns s) z in
    let l = first_line s in
    let input-short : length s ≤ data_limit = ltb-false data_limit (length s) (refuse_if-zero (ltb data_limit (length s)) 0 (sym (bare_fault s) ∙ g.content)) in
    let sheet-short : length (sheet (columns_of ns) s) ≤ data_limit = ltb-false data_limit (length (sheet (columns_of ns) s)) (in_limits (bare (sheet (columns_of ns) s)) g.limit).data_bytes in
    sheet_right ns s l.names l.values l.lines g.own input-short sheet-short

module _ (ns : List ℕ) (s : Bytes) where
  told_length : (returned (done (tally_result ns s))).data_bytes ≡ length (sheet (columns_of ns) s)
  unfolding returned tally_result
  told_length = refl

  left_bytes : (b : Lent) → (lent_after (done (tally_result ns s)) b).data_bytes ≡ over (sheet (columns_of ns) s) b.data_bytes
  unfolding lent_after tally_result
  left_bytes b = refl

pub shown : Shown
unfolding tally_outcome
shown ns s before after a p ok =
    let F : Faults = tally_faults ns s in
    let X : Result = tally_result ns s in
    let t : Bytes = sheet (columns_of ns) s in
    let told : answer_of a ≡ returned (settle F (room_in before) X) = p.0 in
    let z : refusal_of F (room_in before) X ≡ 0 = sym (refusal_told F (room_in before) X) ∙ sym (ap (λ (x : Returned). x.refusal) told) ∙ ok in
    let u : settle F (room_in before) X ≡ done X = is_done F (room_in before) X z in
    let n : (answer_of a).data_bytes ≡ length t = ap (λ (x : Returned). x.data_bytes) (told ∙ ap returned u) ∙ told_length ns s in
    let b : after.data_bytes ≡ over t before.data_bytes = ap (λ (x : Lent). x.data_bytes) (p.1 ∙ ap (λ (x : Outcome). lent_after x before) u) ∙ left_bytes ns s before in
    let left : take (answer_of a).data_bytes after.data_bytes ≡ t = (λ i. take (n i) (b i)) ∙ take_over t before.data_bytes in
    rw left (left_sheet ns s (room_in before) z)

-- ── the refusals in their order
in_row : (t₁ t₂ t₃ : Bool) (a b : ℕ)
    → first_of (0 ∷ refuse_if t₁ 1 ∷ 0 ∷ 0 ∷ 0 ∷ first_of (a ∷ b ∷ []) ∷ refuse_if (t₂ || false || false) 9
    ∷ first_of (refuse_if t₃ 21 ∷ refuse_if false 22 ∷ refuse_if false 23 ∷ refuse_if false 24 ∷ []) ∷ [])
    ≡ first_of (refuse_if t₁ 1 ∷ a ∷ b ∷ refuse_if t₂ 9 ∷ refuse_if t₃ 21 ∷ [])
in_row true t₂ t₃ a b = refl
in_row false t₂ t₃ (suc a) b = simp (ne_eqb (suc a) 0 (λ z. omega arith))
in_row false t₂ t₃ zero (suc b) = simp (ne_eqb (suc b) 0 (λ z. omega arith))
in_row false true t₃ zero zero = refl
in_row false false true zero zero = refl
in_row false false false zero zero = refl

pub turned : Turned
unfolding tally_outcome refusal_of tally_faults tally_result tally_fault over_limit no_room
turned ns s o =
    let t : Bytes = sheet (columns_of ns) s in
    refusal_told (tally_faults ns s) o (tally_result ns s)
    ∙ rw (bare_fault s, le-ltb o.entry_numbers 0 (omega arith), le-ltb o.text 0 (omega arith), le-ltb o.lines 0 (omega arith))
    (in_row (ltb data_limit (length s)) (ltb data_limit (length t)) (ltb o.data_bytes (length t)) (shape_fault ns (lines_of s)) (lines_fault (length (columns_of ns)) (lines_of s)))
