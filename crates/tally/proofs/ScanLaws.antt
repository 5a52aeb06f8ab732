-- What the first pass finds: of a line from the answers of its three tests, of the lines of values line by line, and of all lines from that of the names and the others.
use Prim.Native.Nat.{ℕ, ◌+◌, ◌*◌, ◌/◌, ◌≤◌, ◌<◌}
use native.Mathlib.Omega.{arith}
use mathlib.Core.Bool.{Bool, true, false, cond, ◌&&◌, not}
use mathlib.Core.Path.{◌≡◌, refl, sym, ap, ◌∙◌}
use mathlib.Core.List.{List, [], ◌∷◌}
use lib.Dec.{ltb, eqb}
use lib.ListN.{length, drop, length-append}
use borrow.Author.Tests.{eqb-true, eq-eqb, ne_eqb, le-ltb}
use Rattle.buffer.specs.Place.{part}
use Rattle.buffer.proofs.Laws.{length_part}
use Rattle.controls.specs.Controls.{is_clean_text}
use Rattle.recording.specs.declared.Refusal.{Refusal}
use Rattle.recording.specs.declared.Refusal.TheVariants.{TallyCell, TallyLine}
use Rattle.recording.specs.Recording.{Bytes}
use Rattle.recording.specs.Refusals.{number_of_refusal, first_of, refuse_if}
use Rattle.recording.proofs.OutcomeLaws.{number_pos, first_hit, first_on, first_one}
use Rattle.sheet.specs.Sheet.{up_to}
use Rattle.tally.specs.Tally.{lines_of, cells_of, columns_of, boards_at_text, boards_cell, is_boards, boards_in_text, boards_sum, cell_fault, cells_fault, count_fault, boards_fault, names_fault, values_fault, all_values_fault, lines_fault}
use Rattle.tally.specs.Code.{cells_clean, lines_left, line_of, lines_text, sum_of}
use Rattle.tally.proofs.ColumnLaws.{columns-count}
use Rattle.tally.proofs.PutLaws.{all_left, blank_line, lines_next, lines_end, text_next}

-- ── a line
cells_fault_lem : (ds : List Bytes) → cells_fault ds ≡ cond (cells_clean ds) 0 40
unfolding cell_fault
cells_fault_lem [] = refl
cells_fault_lem (d ∷ ds) = go (is_clean_text d) (cells_fault_lem ds)
  where
    last : (t : Bool) → first_of (cond t 0 40 ∷ []) ≡ cond t 0 40
    last true = refl
    last false = refl

    go : (t : Bool) → cells_fault ds ≡ cond (cells_clean ds) 0 40 → first_of (refuse_if (not t) 40 ∷ cells_fault ds ∷ []) ≡ cond (t && cells_clean ds) 0 40
    go true e = ap (λ (x : ℕ). first_of (x ∷ [])) e ∙ last (cells_clean ds)
    go false e = refl

pub count_right : (ns : List ℕ) (l : Bytes) (m : ℕ) → m ≡ length (cells_of l) → m ≡ length ns / 2 → length (cells_of l) ≡ length (columns_of ns)
count_right ns l m e f = omega (arith, e, f, columns-count ns)

module _ (ns : List ℕ) (l : Bytes) (k : ℕ) where
  abbrev c : ℕ
  c = length (columns_of ns)

  pub count-refused : (m : ℕ) → m ≡ length (cells_of l) → (m ≡ length ns / 2 → ⊥) → number_of_refusal TallyLine ≡ values_fault c k l
  unfolding values_fault count_fault
  count-refused m e h =
      let d : (length (cells_of l) ≡ c → ⊥) = λ z. h (omega (arith, e, z, columns-count ns)) in
      rw (ne_eqb (length (cells_of l)) c d)

  module _ (right : length (cells_of l) ≡ c) where
    no_count : count_fault c l ≡ 0
    unfolding count_fault
    no_count = rw (eq-eqb (length (cells_of l)) c right)

    pub cell_refused : cells_clean (cells_of l) ≡ false → (f : Refusal) → f ≡ TallyCell → number_of_refusal f ≡ values_fault c k l
    unfolding values_fault
    cell_refused z f e = ap number_of_refusal e ∙ rw (no_count, cells_fault_lem (cells_of l), z)

    module _ (clean : cells_clean (cells_of l) ≡ true) where
      pub boards_refused : boards_fault k l ≡ 41 → (f : Refusal) → f ≡ TallyLine → number_of_refusal f ≡ values_fault c k l
      unfolding values_fault
      boards_refused z f e = ap number_of_refusal e ∙ rw (no_count, cells_fault_lem (cells_of l), clean, z)

      pub line_fine : boards_fault k l ≡ 0 → 0 ≡ values_fault c k l
      unfolding values_fault
      line_fine z = rw (no_count, cells_fault_lem (cells_of l), clean, z)

-- ── the lines of values: those before `at` are fine
pub record Scanning (ns : List ℕ) (k : ℕ) (input : Bytes) (from bytes boards at : ℕ) : Type 0 where
  pub fault : all_values_fault (length (columns_of ns)) k (lines_left (drop from input)) ≡ all_values_fault (length (columns_of ns)) k (lines_left (drop at input))
  pub text : bytes + length (lines_text ns (lines_left (drop at input))) ≡ length (lines_text ns (lines_left (drop from input)))
  pub sum : boards + boards_sum k (lines_left (drop at input)) ≡ boards_sum k (lines_left (drop from input))
  pub inside : at ≤ length input + 1
  pub small : (bytes ≤ 2001 * at) × (boards ≤ 65535 * at)

pub scanning_first : (ns : List ℕ) (k : ℕ) (input : Bytes) (from : ℕ) → from ≤ length input + 1 → Scanning ns k input from 0 0 from
scanning_first ns k input from h = record { fault = refl; text = omega arith; sum = omega arith; inside = h; small = (omega arith, omega arith) }

pub scanning_last : (ns : List ℕ) (k : ℕ) (input : Bytes) (from bytes boards at : ℕ) → Scanning ns k input from bytes boards at → length input ≤ at
    → (0 ≡ all_values_fault (length (columns_of ns)) k (lines_left (drop from input))) × ((bytes ≡ length (lines_text ns (lines_left (drop from input)))) × (boards ≡ boards_sum k (lines_left (drop from input))))
scanning_last ns k input from bytes boards at s h =
    let e = lines_end input at h in (
      sym (s.fault ∙ ap (λ (ls : List Bytes). all_values_fault (length (columns_of ns)) k ls) e),
      (omega (arith, s.text, ap (λ (ls : List Bytes). length (lines_text ns ls)) e), omega (arith, s.sum, ap (λ (ls : List Bytes). boards_sum k ls) e)),
    )

module _ (ns : List ℕ) (k : ℕ) (input : Bytes) (from bytes boards at : ℕ) (s : Scanning ns k input from bytes boards at) (more : at < length input) (e : ℕ)
    (q : e ≡ at + length (up_to 0x0A (drop at input))) where
  abbrev m : ℕ
  m = length (columns_of ns)

  abbrev line : Bytes
  line = part at e input

  lines : lines_left (drop at input) ≡ line ∷ lines_left (drop (e + 1) input)
  lines = lines_next input at e more q

  after : all_values_fault m k (lines_left (drop from input)) ≡ first_of (values_fault m k line ∷ all_values_fault m k (lines_left (drop (e + 1) input)) ∷ [])
  after = s.fault ∙ ap (λ (ls : List Bytes). all_values_fault m k ls) lines

  -- the line there is refused by f
  pub line_refused : (f : Refusal) → number_of_refusal f ≡ values_fault m k line → number_of_refusal f ≡ all_values_fault m k (lines_left (drop from input))
  line_refused f z =
      z ∙ sym (after ∙ first_hit (values_fault m k line) (all_values_fault m k (lines_left (drop (e + 1) input)) ∷ []) (omega (arith, z, number_pos f)))

  -- or it comes to the bytes n and the boards b
  pub scanning_next : 0 ≡ values_fault m k line → (n b : ℕ) → (n ≡ length (line_of ns line)) × (b ≡ boards_in_text k line) → (n ≤ length line + 2000) × (b ≤ 65535) → at ≤ e → e ≤ length input
      → Scanning ns k input from (bytes + n) (boards + b) (e + 1)
  scanning_next z n b t u o h =
      record {
        fault = after ∙ first_on (values_fault m k line) (all_values_fault m k (lines_left (drop (e + 1) input)) ∷ []) (sym z) ∙ first_one (all_values_fault m k (lines_left (drop (e + 1) input)));
        text =
            omega (arith, s.text, t.0, ap (λ (ls : List Bytes). length (lines_text ns ls)) lines, ap length (text_next ns line (lines_left (drop (e + 1) input))), length-append (line_of ns line) (lines_text ns (lines_left (drop (e + 1) input))));
        sum = omega (arith, s.sum, t.1, ap (λ (ls : List Bytes). boards_sum k ls) lines);
        inside = omega (arith, h);
        small = (omega (arith, s.small.0, u.0, o, length_part at e input h), omega (arith, s.small.1, u.1, o));
      }

-- ── all lines: that of the names, and those of the values behind it
pub lines_split : (s : Bytes) (e : ℕ) → e ≡ 0 + length (up_to 0x0A (drop 0 s)) → lines_of s ≡ part 0 e s ∷ lines_left (drop (e + 1) s)
lines_split [] e h = blank_line [] refl ∙ ap (λ (n : ℕ). part 0 n [] ∷ lines_left (drop (n + 1) [])) (sym h)
lines_split (b ∷ s) e h = all_left (b ∷ s) (λ z. omega (arith, z)) ∙ lines_next (b ∷ s) 0 e (omega arith) h

-- the line of names is scanned with a k that no cell has
names_values : (n k : ℕ) (l : Bytes) → n ≤ k → values_fault n k l ≡ names_fault n l
unfolding values_fault names_fault count_fault boards_fault
names_values n k l h = go (eqb (length (cells_of l)) n) refl
  where
    go : (t : Bool) → eqb (length (cells_of l)) n ≡ t
        → first_of (refuse_if (not t) 41 ∷ cells_fault (cells_of l) ∷ refuse_if (ltb k (length (cells_of l)) && not (is_boards (boards_cell k l))) 41 ∷ []) ≡ first_of (refuse_if (not t) 41 ∷ cells_fault (cells_of l) ∷ [])
    go true e = rw (le-ltb k (length (cells_of l)) (omega (arith, h, eqb-true (length (cells_of l)) n e)))
    go false e = refl

module _ (ns : List ℕ) (input : Bytes) (e : ℕ) (q : e ≡ 0 + length (up_to 0x0A (drop 0 input))) where
  abbrev n : ℕ
  n = length (columns_of ns)

  abbrev names : Bytes
  names = part 0 e input

  abbrev values : List Bytes
  values = lines_left (drop (e + 1) input)

  split : lines_of input ≡ names ∷ values
  split = lines_split input e q

  names_fault_lem : values_fault n (length ns) names ≡ names_fault n names
  names_fault_lem = names_values n (length ns) names (omega (arith, columns-count ns))

  whole : lines_fault n (lines_of input) ≡ first_of (names_fault n names ∷ all_values_fault n (boards_at_text (cells_of names)) values ∷ [])
  whole = ap (λ (ls : List Bytes). lines_fault n ls) split

  pub names_refused : (f : Refusal) → number_of_refusal f ≡ values_fault n (length ns) names → number_of_refusal f ≡ lines_fault n (lines_of input)
  names_refused f z =
      let x = z ∙ names_fault_lem in
      x ∙ sym (whole ∙ first_hit (names_fault n names) (all_values_fault n (boards_at_text (cells_of names)) values ∷ []) (omega (arith, x, number_pos f)))

  -- the line of names is fine: the others decide, with the number x of their refusal, 0 for none
  module _ (z : 0 ≡ values_fault n (length ns) names) (k : ℕ) (w : k ≡ boards_at_text (cells_of names)) where
    pub by_values : (x : ℕ) → x ≡ all_values_fault n k values → x ≡ lines_fault n (lines_of input)
    by_values x h =
        h ∙ ap (λ (j : ℕ). all_values_fault n j values) w
        ∙ sym (whole ∙ first_on (names_fault n names) (all_values_fault n (boards_at_text (cells_of names)) values ∷ []) (sym (z ∙ names_fault_lem)) ∙ first_one (all_values_fault n (boards_at_text (cells_of names)) values))

    pub by_both : (a b : ℕ) → a ≡ length (line_of ns names) → b ≡ length (lines_text ns values) → a + b ≡ length (lines_text ns (lines_of input))
    by_both a b x y =
        omega (arith, x, y, ap (λ (ls : List Bytes). length (lines_text ns ls)) split, ap length (text_next ns names values), length-append (line_of ns names) (lines_text ns values))

    pub by_sum : (s : ℕ) → s ≡ boards_sum k values → s ≡ sum_of (lines_of input)
    by_sum s x = x ∙ ap (λ (j : ℕ). boards_sum j values) w ∙ ap (λ (ls : List Bytes). sum_of ls) (sym split)
