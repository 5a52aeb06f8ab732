-- Writing the cells, and how long they are together: what is kept of a cell is one run or two; what the code has done and what is to come are at every turn the whole (`Summed`, `Written`).
use Prim.Native.Nat.{ℕ, ◌+◌, ◌-◌, ◌*◌, ◌≤◌, ◌<◌}
use native.Mathlib.Omega.{arith}
use native.Mathlib.Nat.{mul-le-mul, suc-mul}
use mathlib.Core.Bool.{Bool, true, false, cond, false≢true}
use mathlib.Core.Path.{◌≡◌, refl, sym, ap, ◌∙◌}
use mathlib.Core.List.{List, [], ◌∷◌, ◌++◌}
use Rattle.std.specs.Prelude as Std
use Rattle.std.specs.Prelude.{is_ok}
use Rattle.recording.specs.declared.Refusal.{Refusal}
use Rattle.recording.specs.Check.{fault_of}
use lib.Dec.{leb, ltb}
use lib.ListN.{length, take, drop, get_or, length-append}
use borrow.Author.Tests.{leb-true}
use Rattle.buffer.specs.Place.{over, over_at, part}
use Rattle.buffer.proofs.Laws.{then_put, length_part}
use Rattle.buffer.proofs.FillLaws.{Filled, fill_start, fill_more, fill_end, fill_room}
use Rattle.chars.specs.Chars.{text_width_of}
use Rattle.chars.specs.Cut.{truncate_end_pos_of, truncate_end_width}
use Rattle.chars.proofs.FitLaws.{pos_within}
use Rattle.recording.specs.Recording.{Bytes}
use Rattle.recording.proofs.Lists.{and_left, and_right}
use Rattle.recording.specs.Refusals.{data_limit}
use Rattle.truncate_plan.specs.declared.Plan.{Plan}
use Rattle.truncate.specs.Planned.{finished_end}
use Rattle.cells.specs.declared.Mark.{Mark}
use Rattle.cells.specs.Cells.{parts_from, parts, cell_text, joined, cell_numbers, never_fall, last_end, wrong_ends_of}
use Rattle.cells.specs.Measured.{mark_of, plan_with}
use Rattle.cells.proofs.EndsLaws.{Ahead, ahead_start, ahead_next, parts_next, none_left, last_above, few, rising, reaching}
use Rattle.cells.proofs.PlanLaws.{mark_bounds, text_is, width_is, uncut, text_length}

-- ── one cell: its first bytes and the ellipsis's, one run behind the other
front-part : (n : ℕ) (s : Bytes) → part 0 n s ≡ take n s
front-part n s = let e : n - 0 ≡ n = omega arith in rw e

pub cut_runs : (p : Plan) (cell e : Bytes) → p.cut ≡ true → part 0 p.content cell ++ part 0 p.ellipsis e ≡ finished_end p cell e
unfolding finished_end
cut_runs p cell e z = rw (z, front-part p.content cell, front-part p.ellipsis e)

pub put_cut : (p : Plan) (cell e : Bytes) (at mid r : ℕ) (old middle new : Bytes) → p.cut ≡ true → p.content ≤ length cell → p.ellipsis ≤ length e → at ≤ length old
    → mid ≡ at + (p.content - 0) → middle ≡ over_at at (part 0 p.content cell) old → r ≡ mid + (p.ellipsis - 0) → new ≡ over_at mid (part 0 p.ellipsis e) middle
    → (r ≡ at + length (finished_end p cell e)) × (new ≡ over_at at (finished_end p cell e) old)
put_cut p cell e at mid r old middle new z a b w em ef er en =
    let la = length_part 0 p.content cell a in
    let lb = length_part 0 p.ellipsis e b in (
      omega (arith, er, em, la, lb, ap length (cut_runs p cell e z), length-append (part 0 p.content cell) (part 0 p.ellipsis e)),
      then_put at (part 0 p.content cell) (part 0 p.ellipsis e) old middle new mid w ef (omega (arith, em, la)) en ∙ ap (λ (x : Bytes). over_at at x old) (cut_runs p cell e z),
    )

-- ── all cells, measured
-- i of them are: `total` bytes are kept of what comes before `from`
pub record Summed (m : ℕ) (e : Bytes) (ends : List ℕ) (d : Bytes) (total from i : ℕ) : Type 0 where
  pub ahead : Ahead ends (length d) from i
  pub sum : total + length (joined m e (parts_from from (drop i ends) d)) ≡ length (joined m e (parts ends d))

pub sum_start : (m : ℕ) (e : Bytes) (ends : List ℕ) (d : Bytes) → wrong_ends_of ends (length d) ≡ false → Summed m e ends d 0 0 0
unfolding parts
sum_start m e ends d h = record { ahead = ahead_start ends (length d) h; sum = omega arith }

pub sum_end : (m : ℕ) (e : Bytes) (ends : List ℕ) (d : Bytes) (total from i : ℕ) → Summed m e ends d total from i → length ends ≤ i → total ≡ length (joined m e (parts ends d))
sum_end m e ends d total from i S h = omega (arith, S.sum, ap (λ (x : List ℕ). length (joined m e (parts_from from x d))) (none_left ends i h))

-- ── all cells, written
-- i of them are: the data buffer is filled up to `at`, and the list with two numbers each
pub record Written (m : ℕ) (e : Bytes) (ends : List ℕ) (d od on nd nn : List ℕ) (at from i : ℕ) : Type 0 where
  pub ahead : Ahead ends (length d) from i
  pub bytes : Filled (joined m e (parts ends d)) (joined m e (parts_from from (drop i ends) d)) od nd 0 at
  pub numbers : Filled (cell_numbers m e 0 (parts ends d)) (cell_numbers m e at (parts_from from (drop i ends) d)) on nn 0 (i * 2)

pub write_start : (m : ℕ) (e : Bytes) (ends : List ℕ) (d od on : List ℕ) → wrong_ends_of ends (length d) ≡ false → Written m e ends d od on od on 0 0 0
unfolding parts
write_start m e ends d od on h = record { ahead = ahead_start ends (length d) h; bytes = fill_start _ _ od 0 refl; numbers = fill_start _ _ on 0 refl }

-- two numbers a cell
pub numbers_length : (m : ℕ) (e : Bytes) (at : ℕ) (cells : List Bytes) → length (cell_numbers m e at cells) ≡ 2 * length cells
numbers_length m e at [] = refl
numbers_length m e at (c ∷ cs) = omega (arith, numbers_length m e (at + length (cell_text m e c)) cs)

parts_many : (from : ℕ) (ends : List ℕ) (d : Bytes) → length (parts_from from ends d) ≡ length ends
parts_many from [] d = refl
parts_many from (end ∷ ends) d = omega (arith, parts_many end ends d)

pub as_many : (ends : List ℕ) (d : Bytes) → length (parts ends d) ≡ length ends
unfolding parts
as_many ends d = parts_many 0 ends d

-- ── a turn of a loop over the cells: i of them are done, and p is what is kept of the next one
module _ (m : ℕ) (e : Bytes) (ends : List ℕ) (d : Bytes) (from i : ℕ) (A : Ahead ends (length d) from i) (more : i < length ends)
    (k : Mark) (ek : k ≡ mark_of m e) (p : Plan) (ep : p ≡ plan_with k m (part from (get_or ends i 0) d)) where
  abbrev end : ℕ
  end = get_or ends i 0

  abbrev cell : Bytes
  cell = part from end d

  planned : p ≡ plan_with (mark_of m e) m cell
  planned = rw ek at ep

  bytes_next : joined m e (parts_from from (drop i ends) d) ≡ finished_end p cell e ++ joined m e (parts_from end (drop (i + 1) ends) d)
  bytes_next = ap (joined m e) (parts_next ends i from more d) ∙ ap (λ (x : Bytes). x ++ joined m e (parts_from end (drop (i + 1) ends) d)) (sym (text_is m e cell p planned))

  pub keeps_all : p.cut ≡ false → p.content ≡ length cell
  keeps_all = uncut m e cell p planned

  pub sum_next : (total : ℕ) → Summed m e ends d total from i → Summed m e ends d (total + (p.content + p.ellipsis)) end (i + 1)
  sum_next total S =
      record {
        ahead = ahead_next ends (length d) from i A more;
        sum =
            omega (
              arith,
              S.sum,
              ap length bytes_next,
              length-append (finished_end p cell e) (joined m e (parts_from end (drop (i + 1) ends) d)),
              text_length m e cell p planned,
            );
      }

  module _ (od on nd nn : List ℕ) (at : ℕ) (W : Written m e ends d od on nd nn at from i) where
    -- its bytes and its numbers have room, if all have
    pub cell_fits : length (joined m e (parts ends d)) ≤ length od → at + length (finished_end p cell e) ≤ length nd
    cell_fits h =
        omega (arith, fill_room _ _ _ _ _ _ W.bytes (omega (arith, h)), ap length bytes_next, length-append (finished_end p cell e) (joined m e (parts_from end (drop (i + 1) ends) d)))

    pub numbers_fit : length ends * 2 ≤ length on → i * 2 + 2 ≤ length nn
    numbers_fit h = omega (arith, W.numbers.long, h, more)

    -- the next one's end is small
    pub end_small : length (joined m e (parts ends d)) ≤ data_limit → at + length (finished_end p cell e) ≤ data_limit
    end_small h =
        omega (
          arith,
          W.bytes.end,
          ap length W.bytes.whole,
          length-append W.bytes.new (joined m e (parts_from from (drop i ends) d)),
          ap length bytes_next,
          length-append (finished_end p cell e) (joined m e (parts_from end (drop (i + 1) ends) d)),
          h,
        )

    pub write_next : (at' : ℕ) (nd' nn' : List ℕ) → at' ≡ at + length (finished_end p cell e) → nd' ≡ over_at at (finished_end p cell e) nd → length nd' ≡ length nd
        → nn' ≡ over_at (i * 2) (at' ∷ p.width ∷ []) nn → length nn' ≡ length nn → Written m e ends d od on nd' nn' at' end (i + 1)
    write_next at' nd' nn' ea en el em ek' =
        let t = text_is m e cell p planned in
        let a : at' ≡ at + length (cell_text m e cell) = ea ∙ ap (λ (x : Bytes). at + length x) t in
        let n : cell_numbers m e at (parts_from from (drop i ends) d) ≡ (at' ∷ p.width ∷ []) ++ cell_numbers m e at' (parts_from end (drop (i + 1) ends) d) =
        ap (cell_numbers m e at) (parts_next ends i from more d)
        ∙ (λ j. sym a j ∷ sym (width_is m e cell p planned) j ∷ cell_numbers m e (sym a j) (parts_from end (drop (i + 1) ends) d)) in
        record {
          ahead = ahead_next ends (length d) from i A more;
          bytes = fill_more _ _ _ _ _ _ W.bytes (omega arith) (finished_end p cell e) _ nd' at' bytes_next en el ea;
          numbers = fill_more _ _ _ _ _ _ W.numbers (omega arith) (at' ∷ p.width ∷ []) _ nn' ((i + 1) * 2) n em ek' (omega arith);
        }

over_front : (new old : List ℕ) → over_at 0 new old ≡ over new old
unfolding over_at
over_front new old = refl

pub write_end : (m : ℕ) (e : Bytes) (ends : List ℕ) (d od on nd nn : List ℕ) (at from i : ℕ) → Written m e ends d od on nd nn at from i → length ends ≤ i
    → (at ≡ length (joined m e (parts ends d))) × (nd ≡ over (joined m e (parts ends d)) od) × (nn ≡ over (cell_numbers m e 0 (parts ends d)) on)
write_end m e ends d od on nd nn at from i W h =
    let z : parts_from from (drop i ends) d ≡ [] = ap (λ (x : List ℕ). parts_from from x d) (none_left ends i h) in
    let b = fill_end _ _ _ _ _ _ W.bytes (ap (joined m e) z) in
    let n = fill_end _ _ _ _ _ _ W.numbers (ap (cell_numbers m e at) z) in
    (omega (arith, b.1), b.0 ∙ over_front _ od, n.0 ∙ over_front _ on)

-- ── no cell grows by more than the ellipsis
plan_small : (k : Mark) (m : ℕ) (cell : Bytes) → (plan_with k m cell).content + (plan_with k m cell).ellipsis ≤ length cell + k.kept
unfolding plan_with
plan_small k m cell = go (ltb m (text_width_of cell))
  where
    cut : Plan
    cut = record { cut = true; content = truncate_end_pos_of k.room cell; ellipsis = k.kept; width = truncate_end_width k.room cell + k.width }

    whole : Plan
    whole = record { cut = false; content = length cell; ellipsis = 0; width = text_width_of cell }

    go : (t : Bool) → (cond t cut whole).content + (cond t cut whole).ellipsis ≤ length cell + k.kept
    go true = omega (arith, pos_within k.room cell)
    go false = omega arith

cell_small : (m : ℕ) (e cell : Bytes) → length (cell_text m e cell) ≤ length cell + truncate_end_pos_of m e
unfolding mark_of
cell_small m e cell =
    let p : Plan = plan_with (mark_of m e) m cell in
    omega (arith, ap length (text_is m e cell p refl), text_length m e cell p refl, plan_small (mark_of m e) m cell)

small_from : (m : ℕ) (e : Bytes) (from : ℕ) (ends : List ℕ) (d : Bytes) → never_fall from ends ≡ true → last_end from ends ≡ length d
    → from + length (joined m e (parts_from from ends d)) ≤ length d + length ends * truncate_end_pos_of m e
small_from m e from [] d h l = omega (arith, l)
small_from m e from (end ∷ ends) d h l =
    let up : from ≤ end = leb-true from end (and_left (leb from end) (never_fall end ends) h) in
    let g = and_right (leb from end) (never_fall end ends) h in
    let s : length (part from end d) ≡ end - from = length_part from end d (omega (arith, last_above end ends g, l)) in
    let t = length-append (cell_text m e (part from end d)) (joined m e (parts_from end ends d)) in
    omega (arith, up, s, t, cell_small m e (part from end d), small_from m e end ends d g l, suc-mul (length ends) (truncate_end_pos_of m e))

-- so all cells by no more than the ellipsis for each
module _ (m : ℕ) (e : Bytes) (ends : List ℕ) (d : Bytes) (h : wrong_ends_of ends (length d) ≡ false) (k : Mark) (ek : k ≡ mark_of m e) where
  pub most_bytes : length (joined m e (parts ends d)) ≤ length d + length ends * k.kept
  unfolding parts mark_of
  most_bytes = rw ek (omega (arith, small_from m e 0 ends d (rising ends (length d) h) (reaching ends (length d) h)))

  -- the product is small
  pub product_small : length e ≤ data_limit → length ends * k.kept ≤ 67108864
  product_small s = let b : k.kept ≤ data_limit = omega (arith, (mark_bounds m e k ek).1, s) in mul-le-mul (few ends (length d) h) b

-- ── sizes that are granted have no fault
pub no_fault : (v : Std.Result Unit Refusal) → is_ok v ≡ true → fault_of v ≡ 0
no_fault (Std.Ok u) h = refl
no_fault (Std.Err f) h = absurd (false≢true h)
