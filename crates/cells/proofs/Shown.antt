-- What Q-9 asks to be shown: the joined result, cut at the listed ends, is the cells cut one by one. The idea: each listed end is where the next text begins.
use Prim.Native.Nat.{ℕ, ◌+◌, ◌-◌, ◌*◌, ◌≤◌}
use native.Mathlib.Omega.{arith}
use mathlib.Core.Bool.{Bool, true, false, ◌||◌}
use mathlib.Core.Path.{◌≡◌, refl, sym, ap, ◌∙◌}
use mathlib.Core.List.{List, [], ◌∷◌, ◌++◌, flatten, append_assoc}
use lib.Dec.{ltb}
use lib.ListN.{length, take, drop, length-append, length-take, length-drop}
use lib.Seq.{take-append_seam, drop-append_seam}
use borrow.Author.Tests.{le-leb, le-ltb, ltb-false}
use Rattle.buffer.specs.Place.{over, part}
use Rattle.buffer.proofs.Laws.{take_over}
use Rattle.recording.specs.Lists.{AllOf}
use Rattle.recording.specs.Recording.{Bytes}
use Rattle.recording.specs.Refusals.{data_limit, first_of, refuse_if}
use Rattle.recording.specs.Outcome.{Room, Result, Faults, Outcome, done, over_limit, no_room, refusal_of, settle, Lent, room_in, lent_after, Returned, returned, answer_of}
use Rattle.recording.proofs.FaultLaws.{refuse_if-zero, in_limits, granted, no_fault}
use Rattle.recording.proofs.OutcomeLaws.{refusal_told, is_done}
use Rattle.cells.specs.Cells.{bare, parts_from, parts, cell_text, joined, cell_numbers, never_fall, last_end, wrong_ends_of, cells_faults, cells_result, cells_outcome}
use Rattle.cells.specs.Shown.{ends_of, widths_of, AllAlone, CutInOrder, InOrder, Turned}
use Rattle.cells.proofs.EndsLaws.{rising, reaching, cells_whole}
use Rattle.cells.proofs.PutLaws.{numbers_length, as_many}
use Rattle.cells.proofs.CellLaws.{bare_fault, cut_alone, cell_narrow}

-- ── the list of a page
module _ (m : ℕ) (e : Bytes) where
  -- the texts of the cells
  abbrev texts : List Bytes → List Bytes
  texts [] = []
  texts (c ∷ cs) = cell_text m e c ∷ texts cs

  joined_texts : (cs : List Bytes) → flatten (texts cs) ≡ joined m e cs
  unfolding flatten
  joined_texts [] = refl
  joined_texts (c ∷ cs) = ap (λ (x : Bytes). cell_text m e c ++ x) (joined_texts cs)

  -- the joined bytes, after `pre`, cut at the listed ends
  cut_apart : (pre : Bytes) (at : ℕ) (cs : List Bytes) → at ≡ length pre → parts_from at (ends_of (cell_numbers m e at cs)) (pre ++ joined m e cs) ≡ texts cs
  cut_apart pre at [] h = refl
  cut_apart pre at (c ∷ cs) h =
      let t : Bytes = cell_text m e c in
      let n : (at + length t) - at ≡ length t = omega arith in
      let one : part at (at + length t) (pre ++ (t ++ joined m e cs)) ≡ t =
      (λ i. take (n i) (drop (h i) (pre ++ (t ++ joined m e cs)))) ∙ ap (take (length t)) (drop-append_seam pre (t ++ joined m e cs)) ∙ take-append_seam t (joined m e cs) in
      let more : parts_from (at + length t) (ends_of (cell_numbers m e (at + length t) cs)) (pre ++ (t ++ joined m e cs)) ≡ texts cs =
      ap (λ (x : Bytes). parts_from (at + length t) (ends_of (cell_numbers m e (at + length t) cs)) x) (sym (append_assoc pre t (joined m e cs)))
      ∙ cut_apart (pre ++ t) (at + length t) cs (omega (arith, h, length-append pre t)) in
      λ i. one i ∷ more i

  ends_rise : (at : ℕ) (cs : List Bytes) → never_fall at (ends_of (cell_numbers m e at cs)) ≡ true
  ends_rise at [] = refl
  ends_rise at (c ∷ cs) = rw (le-leb at (at + length (cell_text m e c)) (omega arith)) (ends_rise (at + length (cell_text m e c)) cs)

  ends_last : (at : ℕ) (cs : List Bytes) → last_end at (ends_of (cell_numbers m e at cs)) ≡ at + length (joined m e cs)
  ends_last at [] = omega arith
  ends_last at (c ∷ cs) = ends_last (at + length (cell_text m e c)) cs ∙ omega (arith, length-append (cell_text m e c) (joined m e cs))

  all_narrow_lem : (at : ℕ) (cs : List Bytes) → AllOf (λ w. w ≤ m) (widths_of (cell_numbers m e at cs))
  all_narrow_lem at [] = tt
  all_narrow_lem at (c ∷ cs) = (cell_narrow m e c, all_narrow_lem (at + length (cell_text m e c)) cs)

  all_alone : (at : ℕ) (cs : List Bytes) → length e ≤ data_limit → AllOf (λ c. length c ≤ data_limit) cs → length (joined m e cs) ≤ data_limit
      → AllAlone m e cs (texts cs) (widths_of (cell_numbers m e at cs))
  all_alone at [] g a b = tt
  all_alone at (c ∷ cs) g a b =
      let s = length-append (cell_text m e c) (joined m e cs) in
      (cut_alone m e c g a.0 (omega (arith, s, b)), all_alone (at + length (cell_text m e c)) cs g a.1 (omega (arith, s, b)))

-- each cell is as short as the data
parts_short : (from : ℕ) (ends : List ℕ) (d : Bytes) → length d ≤ data_limit → AllOf (λ c. length c ≤ data_limit) (parts_from from ends d)
parts_short from [] d h = tt
parts_short from (e ∷ es) d h = (omega (arith, length-take (e - from) (drop from d), length-drop from d, h), parts_short e es d h)

-- ── a page that is not refused
module _ (m : ℕ) (ends : List ℕ) (e d : Bytes) (o : Room) (z : refusal_of (cells_faults ends e d) o (cells_result m ends e d) ≡ 0) where
  in_order : CutInOrder m ends e d (joined m e (parts ends d)) (cell_numbers m e 0 (parts ends d))
  unfolding cells_faults cells_result parts
  in_order =
      let g = granted (cells_faults ends e d) o (cells_result m ends e d) z in
      let ps : List Bytes = parts_from 0 ends d in
      let right : wrong_ends_of ends (length d) ≡ false = refuse_if-zero (wrong_ends_of ends (length d)) 37 g.own in
      let data_short : length d ≤ data_limit = ltb-false data_limit (length d) (no_fault (bare d) g.content).data_bytes in
      let mark-short : length e ≤ data_limit = ltb-false data_limit (length e) (no_fault (bare e) g.second).data_bytes in
      let fits : length (joined m e ps) ≤ data_limit = ltb-false data_limit (length (joined m e ps)) (in_limits (bare (joined m e ps)) g.limit).data_bytes in
      let apart : parts_from 0 (ends_of (cell_numbers m e 0 ps)) (joined m e ps) ≡ texts m e ps = cut_apart m e [] 0 ps refl in
      record {
        cells = cells_whole ends d (rising ends (length d) right) (reaching ends (length d) right);
        alone = rw apart (all_alone m e 0 ps mark-short (parts_short 0 ends d data_short) fits);
        whole = ap flatten apart ∙ joined_texts m e ps;
        rise = ends_rise m e 0 ps;
        last = omega (arith, ends_last m e 0 ps);
        narrow = all_narrow_lem m e 0 ps;
        two = numbers_length m e 0 ps ∙ ap (λ (n : ℕ). 2 * n) (as_many ends d);
      }

-- ── and so of what running code leaves
module _ (m : ℕ) (ends : List ℕ) (e d : Bytes) where
  told_length : (returned (done (cells_result m ends e d))).data_bytes ≡ length (joined m e (parts ends d))
  unfolding returned cells_result
  told_length = refl

  told_count : (returned (done (cells_result m ends e d))).number ≡ length ends
  unfolding returned cells_result
  told_count = refl

  left_bytes : (b : Lent) → (lent_after (done (cells_result m ends e d)) b).data_bytes ≡ over (joined m e (parts ends d)) b.data_bytes
  unfolding lent_after cells_result
  left_bytes b = refl

  left_numbers : (b : Lent) → (lent_after (done (cells_result m ends e d)) b).lines ≡ over (cell_numbers m e 0 (parts ends d)) b.lines
  unfolding lent_after cells_result
  left_numbers b = refl

pub left_in_order : InOrder
unfolding cells_outcome
left_in_order m ends e d before after a p ok =
    let F : Faults = cells_faults ends e d in
    let X : Result = cells_result m ends e d in
    let ps : List Bytes = parts ends d in
    let told : answer_of a ≡ returned (settle F (room_in before) X) = p.0 in
    let z : refusal_of F (room_in before) X ≡ 0 = sym (refusal_told F (room_in before) X) ∙ sym (ap (λ (x : Returned). x.refusal) told) ∙ ok in
    let u : settle F (room_in before) X ≡ done X = is_done F (room_in before) X z in
    let r : answer_of a ≡ returned (done X) = told ∙ ap returned u in
    let s : after ≡ lent_after (done X) before = p.1 ∙ ap (λ (x : Outcome). lent_after x before) u in
    let n : (answer_of a).data_bytes ≡ length (joined m e ps) = ap (λ (x : Returned). x.data_bytes) r ∙ told_length m ends e d in
    let c : (answer_of a).number ≡ length ends = ap (λ (x : Returned). x.number) r ∙ told_count m ends e d in
    let bs : after.data_bytes ≡ over (joined m e ps) before.data_bytes = ap (λ (x : Lent). x.data_bytes) s ∙ left_bytes m ends e d before in
    let ns : after.lines ≡ over (cell_numbers m e 0 ps) before.lines = ap (λ (x : Lent). x.lines) s ∙ left_numbers m ends e d before in
    let k : 2 * (answer_of a).number ≡ length (cell_numbers m e 0 ps) = ap (λ (j : ℕ). 2 * j) (c ∙ sym (as_many ends d)) ∙ sym (numbers_length m e 0 ps) in
    let left : take (answer_of a).data_bytes after.data_bytes ≡ joined m e ps = (λ i. take (n i) (bs i)) ∙ take_over (joined m e ps) before.data_bytes in
    let list : take (2 * (answer_of a).number) after.lines ≡ cell_numbers m e 0 ps = (λ i. take (k i) (ns i)) ∙ take_over (cell_numbers m e 0 ps) before.lines in
    (c, rw (left, list) (in_order m ends e d (room_in before) z))

-- ── the refusals in their order
in_row : (t₁ t₂ t₃ t₄ t₅ t₆ : Bool)
    → first_of (0 ∷ refuse_if t₁ 1 ∷ refuse_if t₂ 1 ∷ 0 ∷ 0 ∷ refuse_if t₃ 38 ∷ refuse_if (t₄ || false || false) 9
    ∷ first_of (refuse_if t₅ 21 ∷ refuse_if false 22 ∷ refuse_if false 23 ∷ refuse_if t₆ 24 ∷ []) ∷ [])
    ≡ first_of (refuse_if t₁ 1 ∷ refuse_if t₂ 1 ∷ refuse_if t₃ 38 ∷ refuse_if t₄ 9 ∷ refuse_if t₅ 21 ∷ refuse_if t₆ 24 ∷ [])
in_row true t₂ t₃ t₄ t₅ t₆ = refl
in_row false true t₃ t₄ t₅ t₆ = refl
in_row false false true t₄ t₅ t₆ = refl
in_row false false false true t₅ t₆ = refl
in_row false false false false true t₆ = refl
in_row false false false false false true = refl
in_row false false false false false false = refl

pub turned : Turned
unfolding cells_outcome refusal_of cells_faults cells_result over_limit no_room
turned m ends e d o =
    let ps : List Bytes = parts ends d in
    refusal_told (cells_faults ends e d) o (cells_result m ends e d)
    ∙ rw (bare_fault d, bare_fault e, le-ltb o.entry_numbers 0 (omega arith), le-ltb o.text 0 (omega arith), numbers_length m e 0 ps, as_many ends d)
    (in_row (ltb data_limit (length d)) (ltb data_limit (length e)) (wrong_ends_of ends (length d)) (ltb data_limit (length (joined m e ps))) (ltb o.data_bytes (length (joined m e ps)))
    (ltb o.lines (2 * length ends)))
