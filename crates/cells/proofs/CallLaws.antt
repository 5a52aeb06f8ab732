-- Where the call returns, and what it has then answered and left: each return keeps the promise, from which the other clause of the contract follows (`left_in_order`).
use Rattle.recording.specs.Check.{fault_of}
use Rattle.std.specs.Prelude as Std
use Prim.Native.Nat.{ℕ, ◌*◌, ◌≤◌, ◌<◌}
use native.Mathlib.Omega.{arith}
use mathlib.Core.Bool.{true, false}
use mathlib.Core.Logic.{◌⊎◌, inl, inr}
use mathlib.Core.Path.{◌≡◌, refl, ◌∙◌}
use mathlib.Core.List.{List, [], ◌∷◌}
use lib.ListN.{length}
use borrow.Author.Tests.{lt-ltb}
use Rattle.buffer.specs.Place.{over}
use Rattle.recording.specs.declared.Refusal.{Refusal}
use Rattle.recording.specs.declared.Refusal.TheVariants.{DataTooLong, CellEnds}
use Rattle.recording.specs.Recording.{Bytes}
use Rattle.recording.specs.Refusals.{number_of_refusal, data_limit, first_of, recording_fault}
use Rattle.recording.specs.Outcome.{Result, Faults, Outcome, over_limit, no_room, refusal_of, Lent, room_in, lent_after, Promised}
use Rattle.recording.proofs.OutcomeLaws.{stops_content, stops_second, stops_own, stops_sizes, is_refused, is_done, done_answer, promise_refused}
use Rattle.writer.specs.Sizes.{sizes_fault, room_of_state}
use Rattle.writer.proofs.Sizes.{Fitting, fitting, size_refused, size_granted}
use Rattle.cells.specs.Cells.{bare, parts, joined, cell_numbers, wrong_ends_of, cells_faults, cells_result, cells_outcome, lent_cells}
use Rattle.cells.specs.Shown.{LeftInOrder}
use Rattle.cells.proofs.Shown.{left_in_order}
use Rattle.cells.proofs.PutLaws.{numbers_length, as_many}
use Rattle.cells.proofs.CellLaws.{bare_fault, bare_fine}

module _ (m : ℕ) (ends : List ℕ) (e d : Bytes) (od on : List ℕ) where
  abbrev b : Lent
  b = lent_cells od on

  abbrev F : Faults
  F = cells_faults ends e d

  abbrev X : Result
  X = cells_result m ends e d

  abbrev u : Outcome
  u = cells_outcome m ends e d (room_in b)

  stopped : (f : Refusal) → refusal_of F (room_in b) X ≡ number_of_refusal f → Promised u b b (Std.Err f)
  unfolding cells_outcome
  stopped f h = promise_refused u f b (is_refused F (room_in b) X f h)

  -- ── what the call is given
  over_limit_lem : (s : Bytes) → data_limit < length s → recording_fault (bare s) ≡ 1
  over_limit_lem s h = bare_fault s ∙ rw (lt-ltb data_limit (length s) h)

  data_refused : data_limit < length d → Promised u b b (Std.Err DataTooLong)
  unfolding cells_faults
  data_refused h = stopped DataTooLong (stops_content F (room_in b) X refl (omega (arith, over_limit_lem d h)) ∙ over_limit_lem d h)

  module _ (data_short : length d ≤ data_limit) where
    ellipsis_refused : data_limit < length e → Promised u b b (Std.Err DataTooLong)
    unfolding cells_faults
    ellipsis_refused h = stopped DataTooLong (stops_second F (room_in b) X refl (bare_fine d data_short) (omega (arith, over_limit_lem e h)) ∙ over_limit_lem e h)

    module _ (mark-short : length e ≤ data_limit) where
      pub ends_refused : wrong_ends_of ends (length d) ≡ true → Promised u b b (Std.Err CellEnds)
      unfolding cells_faults
      ends_refused h =
          let own : F.own ≡ 38 = rw h in
          stopped CellEnds (stops_own F (room_in b) X refl (bare_fine d data_short) (bare_fine e mark-short) refl refl (omega (arith, own)) ∙ own)

      -- ── only the result is left to be judged: v settles the sizes
      module _ (right : wrong_ends_of ends (length d) ≡ false) (v : Std.Result Unit Refusal)
          (g : fault_of v ≡ sizes_fault (length (joined m e (parts ends d))) 0 0 (length ends * 2) (room_of_state (length od) 0 0 (length on))) where
        judged : refusal_of F (room_in b) X ≡ first_of (over_limit X.recording ∷ no_room (room_in b) X ∷ [])
        unfolding cells_faults
        judged = stops_sizes F (room_in b) X refl (bare_fine d data_short) (bare_fine e mark-short) refl refl (rw right)

        long : length (joined m e (parts ends d)) ≡ length X.recording.data_bytes
        unfolding cells_result
        long = refl

        many : length ends * 2 ≡ length X.lines
        unfolding cells_result
        many = omega (arith, numbers_length m e 0 (parts ends d), as_many ends d)

        none : 0 ≡ length X.recording.entry_numbers
        unfolding cells_result
        none = refl

        no_text : 0 ≡ length X.recording.text
        unfolding cells_result
        no_text = refl

        pub sizes_refused : (f : Refusal) → v ≡ Std.Err f → Promised u b b (Std.Err f)
        sizes_refused f q = stopped f (judged ∙ size_refused X (room_in b) v f _ 0 0 _ g q long none no_text many)

        module _ (q : v ≡ (Std.Ok tt)) where
          fit : Fitting X (room_in b)
          fit = fitting X (room_in b) (size_granted X (room_in b) v _ 0 0 _ g q long none no_text many)

          -- it has room
          pub has_room : (length (joined m e (parts ends d)) ≤ data_limit) × (length (joined m e (parts ends d)) ≤ length od) × (length ends * 2 ≤ length on)
          unfolding cells_result
          has_room = (fit.data_limit_lem, fit.data_room, omega (arith, many, fit.line_room_lem))

          is_result : refusal_of F (room_in b) X ≡ 0
          is_result = judged ∙ size_granted X (room_in b) v _ 0 0 _ g q long none no_text many

          -- and it is written
          leaves : (n : ℕ) (nd nn : List ℕ) → n ≡ length (joined m e (parts ends d)) → nd ≡ over (joined m e (parts ends d)) od → nn ≡ over (cell_numbers m e 0 (parts ends d)) on
              → Promised u b (lent_cells nd nn) (Std.Ok (record { «data» = n; entries = 0; text = 0; number = length ends }))
          unfolding cells_outcome cells_result lent_after over
          leaves n nd nn en ed el = (
            done_answer F (room_in b) X n 0 0 (length ends) is_result en refl refl refl,
            rw (is_done F (room_in b) X is_result) (λ i. lent_cells (ed i) (el i)),
          )

          -- both clauses of the contract: the second follows from the first
          pub written : (n : ℕ) (nd nn : List ℕ) → n ≡ length (joined m e (parts ends d)) → nd ≡ over (joined m e (parts ends d)) od → nn ≡ over (cell_numbers m e 0 (parts ends d)) on
              → Promised u b (lent_cells nd nn) (Std.Ok (record { «data» = n; entries = 0; text = 0; number = length ends }))
              × LeftInOrder m ends e d (lent_cells nd nn) (Std.Ok (record { «data» = n; entries = 0; text = 0; number = length ends }))
          written n nd nn en ed el = let p = leaves n nd nn en ed el in (p, left_in_order m ends e d b (lent_cells nd nn) (Std.Ok (record { «data» = n; entries = 0; text = 0; number = length ends })) p)

  -- either text is too long
  pub long_refused : (data_limit < length d) ⊎ ((length d ≤ data_limit) × (data_limit < length e)) → Promised u b b (Std.Err DataTooLong)
  long_refused (inl h) = data_refused h
  long_refused (inr h) = ellipsis_refused h.0 h.1
