-- A laid-out cell is what the two calls leave, exactly as wide as its column, and clean; and how the code puts it together from its plan.
-- The idea: the cut leaves at most the width, `~` counted in (laws of `cells`), and a space is one column and one byte.
use Prim.Native.Nat.{ℕ, zero, suc, ◌+◌, ◌-◌, ◌/◌, ◌≤◌}
use native.Mathlib.Omega.{arith}
use mathlib.Core.Bool.{Bool, true, false, cond}
use mathlib.Core.Path.{◌≡◌, refl, sym, ap, ◌∙◌}
use mathlib.Core.List.{[], ◌∷◌, ◌++◌, append-nil, append_assoc}
use lib.ListN.{length, take, replicate, length-append, length-replicate}
use lib.Seq.{take-length}
use borrow.Author.Tests.{le-ltb, ne_eqb}
use Rattle.chars.specs.Utf8.{table37, row_of, tail_len, complete}
use Rattle.chars.specs.Width.{ranges, char_width_of}
use Rattle.chars.specs.Chars.{char_at, chars, text_width_of, well_formed_of}
use Rattle.chars.specs.Cut.{truncate_end_pos_of}
use Rattle.chars.proofs.JoinLaws.{width_join}
use Rattle.controls.proofs.ControlLaws.{CleanText, clean_formed, clean_none, clean_join, clean_kept}
use Rattle.buffer.specs.Place.{over_at, part}
use Rattle.buffer.proofs.Laws.{then_put, length_part}
use Rattle.recording.specs.Coloured.{balanced, none_inside_recording}
use Rattle.recording.specs.Recording.{Bytes, items, data_of, encode, strip}
use Rattle.recording.specs.Refusals.{data_limit}
use Rattle.recording.specs.Outcome.{Room, done, over_limit, no_room, refusal_of, settle}
use Rattle.layout.specs.Layout.{copies, fill_count_of, pad_start, pad_end, pad_centered, result_items, lines_left, number, result_of, second_fault, own_fault, faults_of, outcome}
use Rattle.layout.proofs.StripLaws.{result_data, result_data_lem, bare_left}
use Rattle.truncate_plan.specs.declared.Plan.{Plan}
use Rattle.truncate_plan.specs.Plan.{plan_end}
use Rattle.truncate.specs.Planned.{finished_end}
use Rattle.cells.specs.Cells.{bare, cell_text}
use Rattle.cells.specs.Measured.{mark_of, plan_with}
use Rattle.cells.proofs.PlanLaws.{plan_with_lem, each_way, text_is, width_is, uncut, text_length}
use Rattle.cells.proofs.CellLaws.{bare_fine, cut_alone, cell_narrow, width_true}
use Rattle.tally.specs.Tally.{Column, tilde, space, pad_job, laid_cell_of}
use Rattle.tally.specs.Shown.{LaidBy}
use Rattle.tally.specs.Code.{column, before_of, laid_len}

-- ── the cut
tilde_clean : CleanText tilde
unfolding tilde chars char_at tail_len complete row_of table37
tilde_clean = record { ok = refl; plain = refl }

cut_clean : (w : ℕ) (d : Bytes) → CleanText d → CleanText (cell_text w tilde d)
cut_clean w d p =
    let room : ℕ = w - text_width_of tilde in
    let f : CleanText (finished_end (plan_with (mark_of w tilde) w d) d tilde) =
    each_way w tilde d (λ t q. CleanText t) (clean_join (take (truncate_end_pos_of room d) d) (take (truncate_end_pos_of w tilde) tilde) (clean_kept room d p) (clean_kept w tilde tilde_clean)) p in
    rw (text_is w tilde d (plan_with (mark_of w tilde) w d) refl) at f

cut_narrow : (w : ℕ) (d : Bytes) → well_formed_of d ≡ true → text_width_of (cell_text w tilde d) ≤ w
cut_narrow w d h = omega (arith, width_true w tilde d h, cell_narrow w tilde d)

-- ── spaces
one_width : text_width_of (0x20 ∷ []) ≡ 1
unfolding text_width_of chars char_at tail_len complete row_of table37 char_width_of ranges
one_width = refl

pub one_clean : CleanText (0x20 ∷ [])
unfolding chars char_at tail_len complete row_of table37
one_clean = record { ok = refl; plain = refl }

pub none_width : text_width_of [] ≡ 0
unfolding text_width_of chars
none_width = refl

-- a space in front is one column more
pub space_width : (x : Bytes) → text_width_of (0x20 ∷ x) ≡ suc (text_width_of x)
space_width x = omega (arith, width_join (0x20 ∷ []) x (clean_formed (0x20 ∷ []) one_clean), one_width)

spaces_clean : (n : ℕ) → CleanText (replicate n 0x20)
spaces_clean zero = clean_none
spaces_clean (suc n) = clean_join (0x20 ∷ []) (replicate n 0x20) one_clean (spaces_clean n)

spaces_width : (n : ℕ) → text_width_of (replicate n 0x20) ≡ n
spaces_width zero = none_width
spaces_width (suc n) = omega (arith, space_width (replicate n 0x20), spaces_width n)

copied : (n : ℕ) → data_of (copies n (0x20 ∷ [])) ≡ replicate n 0x20
copied zero = refl
copied (suc n) = ap (λ (l : Bytes). 0x20 ∷ l) (copied n)

-- ── the padding, at each alignment: of n spaces some before and the others behind
abbrev pub around : ℕ → ℕ → Bytes → Bytes
around a n x = replicate (before_of a n) 0x20 ++ (x ++ replicate (n - before_of a n) 0x20)

balanced-space : balanced space ≡ true
unfolding balanced space items
balanced-space = refl

flat_space : none_inside_recording space ≡ true
unfolding none_inside_recording space items
flat_space = refl

pad_data : (a w : ℕ) (x : Bytes) → data_of (result_items (pad_job a w) (bare x)) ≡ around a (fill_count_of w x) x
unfolding result_data space before_of
pad_data zero w x =
    let n : ℕ = fill_count_of w x in
    let e : n - 0 ≡ n = omega arith in
    result_data_lem (pad_end w space) (bare x) (λ z. balanced-space, λ z. flat_space) ∙ rw e (ap (λ (l : Bytes). x ++ l) (copied n))
pad_data (suc zero) w x =
    let n : ℕ = fill_count_of w x in
    let e : n - n ≡ 0 = omega arith in
    result_data_lem (pad_start w space) (bare x) (λ z. balanced-space, λ z. flat_space) ∙ rw (e, append-nil x) (ap (λ (l : Bytes). l ++ x) (copied n))
pad_data (suc (suc a)) w x =
    let n : ℕ = fill_count_of w x in
    result_data_lem (pad_centered w space) (bare x) (λ z. balanced-space, λ z. flat_space)
    ∙ rw (ne_eqb (suc (suc a)) 0 (λ z. omega arith), ne_eqb (suc (suc a)) 1 (λ z. omega arith)) (λ i. copied (n / 2) i ++ (x ++ copied (n - n / 2) i))

before-le : (a n : ℕ) → before_of a n ≤ n
unfolding before_of
before-le zero n = omega arith
before-le (suc zero) n = omega arith
before-le (suc (suc a)) n = rw (ne_eqb (suc (suc a)) 0 (λ z. omega arith), ne_eqb (suc (suc a)) 1 (λ z. omega arith)) (omega arith)

around_clean : (a n : ℕ) (x : Bytes) → CleanText x → CleanText (around a n x)
around_clean a n x p =
    clean_join (replicate (before_of a n) 0x20) (x ++ replicate (n - before_of a n) 0x20) (spaces_clean (before_of a n)) (clean_join x (replicate (n - before_of a n) 0x20) p (spaces_clean (n - before_of a n)))

around_width : (a n : ℕ) (x : Bytes) → CleanText x → text_width_of (around a n x) ≡ n + text_width_of x
around_width a n x p =
    let l : ℕ = before_of a n in
    omega (arith, before-le a n, width_join (replicate l 0x20) (x ++ replicate (n - l) 0x20) (clean_formed (replicate l 0x20) (spaces_clean l)), width_join x (replicate (n - l) 0x20) (clean_formed x p), spaces_width l, spaces_width (n - l))

around_length : (a n : ℕ) (x : Bytes) → length (around a n x) ≡ length x + n
around_length a n x =
    let l : ℕ = before_of a n in
    omega (arith, before-le a n, length-append (replicate l 0x20) (x ++ replicate (n - l) 0x20), length-append x (replicate (n - l) 0x20), length-replicate {A = ℕ} l 0x20, length-replicate {A = ℕ} (n - l) 0x20)

-- ── a laid-out cell
pub laid_is : (c : Column) (d : Bytes) → laid_cell_of c d ≡ around c.alignment (c.width - text_width_of (cell_text c.width tilde d)) (cell_text c.width tilde d)
unfolding laid_cell_of fill_count_of
laid_is c d = pad_data c.alignment c.width (cell_text c.width tilde d)

pub laid_length : (c : Column) (d : Bytes) → length (laid_cell_of c d) ≡ laid_len c.width d
unfolding laid_len
laid_length c d =
    let t : Bytes = cell_text c.width tilde d in
    ap length (laid_is c d) ∙ around_length c.alignment (c.width - text_width_of t) t

module _ (c : Column) (d : Bytes) (p : CleanText d) where
  abbrev cut : Bytes
  cut = cell_text c.width tilde d

  pub laid_clean : CleanText (laid_cell_of c d)
  laid_clean = rw (laid_is c d) (around_clean c.alignment (c.width - text_width_of cut) cut (cut_clean c.width d p))

  pub laid_width : text_width_of (laid_cell_of c d) ≡ c.width
  laid_width =
      ap text_width_of (laid_is c d) ∙ around_width c.alignment (c.width - text_width_of cut) cut (cut_clean c.width d p) ∙ omega (arith, cut_narrow c.width d (clean_formed d p))

-- ── the two calls, one after the other
pad_left : (a w : ℕ) (x : Bytes) → encode (result_items (pad_job a w) (bare x)) ≡ bare (data_of (result_items (pad_job a w) (bare x)))
unfolding space strip
pad_left zero w x = bare_left (pad_end w space) (bare x) refl
pad_left (suc zero) w x = bare_left (pad_start w space) (bare x) refl
pad_left (suc (suc a)) w x = bare_left (pad_centered w space) (bare x) refl

pad_alone : (a w : ℕ) (x y : Bytes) → data_of (result_items (pad_job a w) (bare x)) ≡ y → length x ≤ data_limit → length y ≤ data_limit
    → (o : Room) → length y ≤ o.data_bytes → outcome (record { job = pad_job a w; room = o }) (bare x) ≡ done (record { recording = bare y; lines = []; number = 0 })
unfolding outcome settle refusal_of faults_of result_of over_limit no_room second_fault own_fault lines_left number space
pad_alone zero w x y e p q o r = rw (
  pad_left 0 w x,
  e,
  bare_fine (0x20 ∷ []) (omega arith),
  bare_fine x p,
  le-ltb data_limit (length y) q,
  le-ltb o.data_bytes (length y) r,
  le-ltb o.entry_numbers 0 (omega arith),
  le-ltb o.text 0 (omega arith),
  le-ltb o.lines 0 (omega arith),
)
pad_alone (suc zero) w x y e p q o r = rw (
  pad_left 1 w x,
  e,
  bare_fine (0x20 ∷ []) (omega arith),
  bare_fine x p,
  le-ltb data_limit (length y) q,
  le-ltb o.data_bytes (length y) r,
  le-ltb o.entry_numbers 0 (omega arith),
  le-ltb o.text 0 (omega arith),
  le-ltb o.lines 0 (omega arith),
)
pad_alone (suc (suc a)) w x y e p q o r = rw (
  pad_left (suc (suc a)) w x,
  e,
  bare_fine (0x20 ∷ []) (omega arith),
  bare_fine x p,
  le-ltb data_limit (length y) q,
  le-ltb o.data_bytes (length y) r,
  le-ltb o.entry_numbers 0 (omega arith),
  le-ltb o.text 0 (omega arith),
  le-ltb o.lines 0 (omega arith),
)

pub laid_by : (c : Column) (d : Bytes) → CleanText d → length d ≤ data_limit → length (laid_cell_of c d) ≤ data_limit → LaidBy c d (laid_cell_of c d)
unfolding laid_cell_of tilde
laid_by c d p a b =
    let t : Bytes = cell_text c.width tilde d in
    let s : length t ≤ data_limit = omega (arith, b, ap length (laid_is c d), around_length c.alignment (c.width - text_width_of t) t) in
    record {
      cut = t;
      first = rw (width_true c.width tilde d (clean_formed d p)) (cut_alone c.width tilde d (omega arith) a s);
      second = pad_alone c.alignment c.width t (laid_cell_of c d) refl s b;
    }

-- ── what the code knows: the plan p of the truncating call, for a well-formed cell
module _ (w : ℕ) (d : Bytes) (f : well_formed_of d ≡ true) (p : Plan) (q : p ≡ plan_end w d tilde) where
  by_mark : p ≡ plan_with (mark_of w tilde) w d
  by_mark = q ∙ sym (plan_with_lem w tilde d)

  plan_width : p.width ≡ text_width_of (cell_text w tilde d)
  plan_width = width_is w tilde d p by_mark ∙ sym (width_true w tilde d f)

  pub plan_narrow : p.width ≤ w
  plan_narrow = omega (arith, plan_width, cut_narrow w d f)

  plan_length : length (cell_text w tilde d) ≡ p.content + p.ellipsis
  plan_length = sym (ap length (text_is w tilde d p by_mark)) ∙ text_length w tilde d p by_mark

  -- how long it is
  pub plan_laid : laid_len w d ≡ (p.content + p.ellipsis) + (w - p.width)
  unfolding laid_len
  plan_laid = λ i. plan_length i + (w - sym plan_width i)

  pub cell_length : (a : ℕ) → length (laid_cell_of (column w a) d) ≡ (p.content + p.ellipsis) + (w - p.width)
  cell_length a = laid_length (column w a) d ∙ plan_laid

  module _ (content : p.content ≤ length d) (dot : p.ellipsis ≤ length tilde) where
    -- the bytes that are kept: of the cell, and of the ellipsis
    kept : cell_text w tilde d ≡ part 0 p.content d ++ part 0 p.ellipsis tilde
    unfolding finished_end
    kept = sym (text_is w tilde d p by_mark) ∙ go p.cut refl
      where
        z : (n : ℕ) → n - 0 ≡ n
        z n = omega arith

        go : (t : Bool) → p.cut ≡ t → cond t (take p.content d ++ take p.ellipsis tilde) d ≡ take (p.content - 0) d ++ take (p.ellipsis - 0) tilde
        go true e = rw (z p.content, z p.ellipsis)
        go false e =
            let u : p.content ≡ length d = uncut w tilde d p by_mark e in
            let n : p.ellipsis ≡ 0 = omega (arith, u, plan_length, ap length (text_is w tilde d p by_mark), ap (λ (b : Bool). length (cond b (take p.content d ++ take p.ellipsis tilde) d)) e) in
            rw (z p.content, z p.ellipsis, u, n, take-length d) (sym (append-nil d))

    -- four writes, each where the one before it ended
    pub laid_put : (a at l r₁ r₂ r₃ : ℕ) (o o₁ o₂ o₃ o₄ : Bytes) → at ≤ length o → l ≡ before_of a (w - p.width) → r₁ ≡ at + l → r₂ ≡ r₁ + (p.content - 0) → r₃ ≡ r₂ + (p.ellipsis - 0)
        → o₁ ≡ over_at at (replicate l 0x20) o → o₂ ≡ over_at r₁ (part 0 p.content d) o₁ → o₃ ≡ over_at r₂ (part 0 p.ellipsis tilde) o₂
        → o₄ ≡ over_at r₃ (replicate ((w - p.width) - l) 0x20) o₃ → o₄ ≡ over_at at (laid_cell_of (column w a) d) o
    laid_put a at l r₁ r₂ r₃ o o₁ o₂ o₃ o₄ h₀ k k₁ k₂ k₃ e₁ e₂ e₃ e₄ =
        let missing : ℕ = w - p.width in
        let s : Bytes = replicate l 0x20 in
        let x : Bytes = part 0 p.content d in
        let y : Bytes = part 0 p.ellipsis tilde in
        let z : Bytes = replicate (missing - l) 0x20 in
        let ls = length-replicate {A = ℕ} l 0x20 in
        let lx = length_part 0 p.content d content in
        let ly = length_part 0 p.ellipsis tilde dot in
        let f₂ : o₂ ≡ over_at at (s ++ x) o = then_put at s x o o₁ o₂ r₁ h₀ e₁ (omega (arith, k₁, ls)) e₂ in
        let f₃ : o₃ ≡ over_at at ((s ++ x) ++ y) o = then_put at (s ++ x) y o o₂ o₃ r₂ h₀ f₂ (omega (arith, k₁, k₂, ls, lx, length-append s x)) e₃ in
        let f₄ : o₄ ≡ over_at at (((s ++ x) ++ y) ++ z) o = then_put at ((s ++ x) ++ y) z o o₃ o₄ r₃ h₀ f₃ (omega (arith, k₁, k₂, k₃, ls, lx, ly, length-append s x, length-append (s ++ x) y)) e₄ in
        let j : ((s ++ x) ++ y) ++ z ≡ s ++ ((x ++ y) ++ z) = ap (λ (b : Bytes). b ++ z) (append_assoc s x y) ∙ append_assoc s (x ++ y) z in
        let m : s ++ ((x ++ y) ++ z) ≡ around a missing (cell_text w tilde d) = (λ i. replicate (k i) 0x20 ++ (sym kept i ++ replicate (missing - k i) 0x20)) in
        let n : around a missing (cell_text w tilde d) ≡ laid_cell_of (column w a) d = (λ i. around a (w - plan_width i) (cell_text w tilde d)) ∙ sym (laid_is (column w a) d) in
        f₄ ∙ ap (λ (b : Bytes). over_at at b o) (j ∙ m ∙ n)
