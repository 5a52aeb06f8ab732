-- Where the call returns, and what it has then answered and left: each return gives both clauses of the contract, the second of which follows from the first (`shown`).
use Rattle.recording.specs.Check.{fault_of}
use Rattle.recording.specs.Outcome.{Answer}
use Rattle.std.specs.Prelude as Std
use Prim.Native.Nat.{ℕ, zero, suc, ◌+◌, ◌-◌, ◌≤◌, ◌<◌}
use native.Mathlib.Omega.{arith}
use mathlib.Core.Bool.{true, false}
use mathlib.Core.Path.{◌≡◌, refl, sym, ap, ◌∙◌}
use mathlib.Core.List.{List, [], ◌∷◌, ◌++◌}
use lib.ListN.{length, length-append}
use borrow.Author.Tests.{lt-ltb, le-ltb}
use Rattle.buffer.specs.Place.{over, over_at}
use Rattle.buffer.proofs.Laws.{then_put}
use Rattle.recording.specs.declared.Refusal.{Refusal}
use Rattle.recording.specs.Lists.{AllOf}
use Rattle.recording.specs.Recording.{Bytes}
use Rattle.recording.specs.Refusals.{number_of_refusal, data_limit, first_of, recording_fault}
use Rattle.recording.specs.Outcome.{Result, Faults, Outcome, over_limit, no_room, refusal_of, Lent, room_in, lent_after, Promised}
use Rattle.recording.proofs.OutcomeLaws.{number_pos, first_hit, first_on, first_one, stops_content, stops_own, stops_sizes, is_refused, is_done, done_answer, promise_refused}
use Rattle.writer.specs.Sizes.{sizes_fault, room_of_state}
use Rattle.writer.proofs.Sizes.{Fitting, fitting, size_refused, size_granted}
use Rattle.cells.specs.Cells.{bare}
use Rattle.cells.proofs.CellLaws.{bare_fault, bare_fine}
use Rattle.tally.specs.Tally.{lines_of, columns_of, rows_of, last_row, last_of, ended, sheet, wrong_columns_of, shape_fault, lines_fault, tally_fault, tally_faults, tally_result, tally_outcome, lent_sheet}
use Rattle.tally.specs.Shown.{SheetLeft}
use Rattle.tally.specs.Code.{lines_text, Tested, Fit, sum_of}
use Rattle.tally.proofs.InputLaws.{first_line, ended_join}
use Rattle.tally.proofs.CountLaws.{lines_some}
use Rattle.tally.proofs.FaultLaws.{right_columns, names_tests, fit_line, fit_values}
use Rattle.tally.proofs.Shown.{line_tests, small, shown}

-- ── the sheet in two pieces: the rows of all lines, and the last row
abbrev pub last_text : Bytes → Bytes
last_text s = ended (last_row (length (lines_of s) - 1) (sum_of (lines_of s)) ∷ [])

last_of_lem : (ls : List Bytes) → 1 ≤ length ls → last_of ls ≡ last_row (length ls - 1) (sum_of ls)
last_of_lem [] h = absurd (omega arith)
last_of_lem (names ∷ values) h = let z : length (names ∷ values) - 1 ≡ length values = omega arith in rw z

sheet-pieces : (ns : List ℕ) (s : Bytes) → sheet (columns_of ns) s ≡ lines_text ns (lines_of s) ++ last_text s
unfolding sheet
sheet-pieces ns s =
    ended_join (rows_of (columns_of ns) (lines_of s)) (last_of (lines_of s) ∷ [])
    ∙ ap (λ (r : Bytes). lines_text ns (lines_of s) ++ ended (r ∷ [])) (last_of_lem (lines_of s) (lines_some s))

-- as the code has it: from the number of lines and the sum that it found
pub last_text_lem : (s : Bytes) (n sum : ℕ) → n ≡ length (lines_of s) → sum ≡ sum_of (lines_of s) → ended (last_row (n - 1) sum ∷ []) ≡ last_text s
last_text_lem s n sum e f = λ i. ended (last_row (e i - 1) (f i) ∷ [])

-- ── before any line is looked at
module _ (ns : List ℕ) (s : Bytes) where
  abbrev first_fault : ℕ
  first_fault = first_of (recording_fault (bare s) ∷ shape_fault ns (lines_of s) ∷ [])

  pub input_long : data_limit < length s → 1 ≡ first_fault
  input_long h = rw (bare_fault s, lt-ltb data_limit (length s) h)

  module _ (short : length s ≤ data_limit) where
    pub columns_wrong : wrong_columns_of ns ≡ true → 39 ≡ first_fault
    unfolding shape_fault
    columns_wrong h = rw (bare_fine s short, h)

    pub lines_many : wrong_columns_of ns ≡ false → 4096 < length (lines_of s) → 39 ≡ first_fault
    unfolding shape_fault
    lines_many right h = rw (bare_fine s short, right, lt-ltb 4096 (length (lines_of s)) h)

-- ── the returns
module _ (ns : List ℕ) (s od : Bytes) where
  abbrev b : Lent
  b = lent_sheet od

  abbrev F : Faults
  F = tally_faults ns s

  abbrev X : Result
  X = tally_result ns s

  abbrev u : Outcome
  u = tally_outcome ns s (room_in b)

  -- the two clauses of the contract: the second follows from the first
  abbrev Kept : Lent → Answer → Type 0
  Kept b' a = Promised u b b' a × SheetLeft ns s b' a

  kept : (b' : Lent) (a : Answer) → Promised u b b' a → Kept b' a
  kept b' a p = (p, shown ns s b b' a p)

  stopped : (f : Refusal) → refusal_of F (room_in b) X ≡ number_of_refusal f → Kept b (Std.Err f)
  unfolding tally_outcome
  stopped f h = kept b (Std.Err f) (promise_refused u f b (is_refused F (room_in b) X f h))

  own_refused : recording_fault (bare s) ≡ 0 → (f : Refusal) → tally_fault ns s ≡ number_of_refusal f → Kept b (Std.Err f)
  unfolding tally_faults
  own_refused z f e = stopped f (stops_own F (room_in b) X refl z refl refl refl (omega (arith, e, number_pos f)) ∙ e)

  pub shape-refused : (f : Refusal) → number_of_refusal f ≡ first_of (recording_fault (bare s) ∷ shape_fault ns (lines_of s) ∷ []) → Kept b (Std.Err f)
  unfolding tally_faults tally_fault
  shape-refused f = go (recording_fault (bare s)) refl
    where
      go : (n : ℕ) → recording_fault (bare s) ≡ n → number_of_refusal f ≡ first_of (n ∷ shape_fault ns (lines_of s) ∷ []) → Kept b (Std.Err f)
      go zero z e =
          let x = shape_fault ns (lines_of s) in
          let q : number_of_refusal f ≡ x = e ∙ first_on 0 (x ∷ []) refl ∙ first_one x in
          own_refused z f (first_hit x (lines_fault (length (columns_of ns)) (lines_of s) ∷ []) (omega (arith, q, number_pos f)) ∙ sym q)
      go (suc n) z e = stopped f (stops_content F (room_in b) X refl (omega (arith, z)) ∙ z ∙ sym (e ∙ first_hit (suc n) (shape_fault ns (lines_of s) ∷ []) (omega arith)))

  module _ (n : ℕ) (t : Tested ns s n) where
    by_lines : tally_fault ns s ≡ lines_fault (length (columns_of ns)) (lines_of s)
    unfolding tally_fault shape_fault
    by_lines = rw (t.right, le-ltb 4096 (length (lines_of s)) (omega (arith, t.count, t.few))) (first_one (lines_fault (length (columns_of ns)) (lines_of s)))

    pub scan-refused : (f : Refusal) → number_of_refusal f ≡ lines_fault (length (columns_of ns)) (lines_of s) → Kept b (Std.Err f)
    scan-refused f q = own_refused (bare_fine s t.short) f (by_lines ∙ sym q)

    -- ── no line is turned away
    module _ (q : 0 ≡ lines_fault (length (columns_of ns)) (lines_of s)) where
      no_fault : tally_fault ns s ≡ 0
      no_fault = by_lines ∙ sym q

      pub sum_small : sum_of (lines_of s) ≤ 268365825
      sum_small = let l = first_line s in rw l.lines (small ns s l.names l.values l.lines no_fault)

      pub fits : AllOf (Fit ns) (lines_of s)
      fits =
          let l = first_line s in
          let c = right_columns ns t.right in
          let p = line_tests ns s l.names l.values l.lines no_fault in
          let a = names_tests (length (columns_of ns)) l.names p.0 in
          rw l.lines (fit_line ns l.names c a.0 a.1, fit_values ns _ l.values c p.1)

      -- ── only the sheet is left to be judged: v settles its size
      module _ (bytes last : ℕ) (eb : bytes ≡ length (lines_text ns (lines_of s))) (el : last ≡ length (last_text s)) (v : Std.Result Unit Refusal)
          (h : fault_of v ≡ sizes_fault (bytes + last) 0 0 0 (room_of_state (length od) 0 0 0)) where
        judged : refusal_of F (room_in b) X ≡ first_of (over_limit X.recording ∷ no_room (room_in b) X ∷ [])
        unfolding tally_faults
        judged = stops_sizes F (room_in b) X refl (bare_fine s t.short) refl refl refl no_fault

        long : bytes + last ≡ length X.recording.data_bytes
        unfolding tally_result
        long = omega (arith, eb, el, ap length (sheet-pieces ns s), length-append (lines_text ns (lines_of s)) (last_text s))

        no_entries : 0 ≡ length X.recording.entry_numbers
        unfolding tally_result
        no_entries = refl

        no_text : 0 ≡ length X.recording.text
        unfolding tally_result
        no_text = refl

        no_lines : 0 ≡ length X.lines
        unfolding tally_result
        no_lines = refl

        pub sizes_refused : (f : Refusal) → v ≡ Std.Err f → Kept b (Std.Err f)
        sizes_refused f z = stopped f (judged ∙ size_refused X (room_in b) v f _ 0 0 _ h z long no_entries no_text no_lines)

        module _ (z : v ≡ (Std.Ok tt)) where
          granted : first_of (over_limit X.recording ∷ no_room (room_in b) X ∷ []) ≡ 0
          granted = size_granted X (room_in b) v _ 0 0 _ h z long no_entries no_text no_lines

          fit : Fitting X (room_in b)
          fit = fitting X (room_in b) granted

          pub has_room : bytes + last ≤ length od
          has_room = omega (arith, long, fit.data_room)

          is_result : refusal_of F (room_in b) X ≡ 0
          is_result = judged ∙ granted

          -- and it is written
          pub written : (end m : ℕ) (x o₁ o₂ : Bytes) → x ≡ last_text s → end ≡ length (lines_text ns (lines_of s)) → o₁ ≡ over_at 0 (lines_text ns (lines_of s)) od → m ≡ end + length x
              → o₂ ≡ over_at end x o₁ → Kept (lent_sheet o₂) (Std.Ok (record { «data» = m; entries = 0; text = 0; number = 0 }))
          unfolding tally_outcome tally_result lent_after over over_at
          written end m x o₁ o₂ ex ee e₁ em e₂ =
              let p : lines_text ns (lines_of s) ++ x ≡ sheet (columns_of ns) s = ap (λ (l : Bytes). lines_text ns (lines_of s) ++ l) ex ∙ sym (sheet-pieces ns s) in
              let e : o₂ ≡ over (sheet (columns_of ns) s) od = then_put 0 (lines_text ns (lines_of s)) x od o₁ o₂ end (omega arith) e₁ (omega (arith, ee)) e₂ ∙ ap (λ (l : Bytes). over l od) p in
              let n : m ≡ length (sheet (columns_of ns) s) = omega (arith, ee, em, ap length p, length-append (lines_text ns (lines_of s)) x) in
              kept (lent_sheet o₂) (Std.Ok (record { «data» = m; entries = 0; text = 0; number = 0 })) (done_answer F (room_in b) X m 0 0 0 is_result n refl refl refl, rw (is_done F (room_in b) X is_result) (λ i. lent_sheet (e i)))
