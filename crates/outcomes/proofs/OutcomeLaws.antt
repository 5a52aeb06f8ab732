-- A layout call as code goes through it: check what it is given, settle the sizes of the result, write. Each place where it returns gives the whole promise (`Leaves`) at once.
-- Over any job: the sizes that the code took are those of the items that it writes (`Sized`), and nothing that it was given is refused (`Accepted`).
use Rattle.recording.specs.Check.{fault_of}
use Rattle.std.specs.Prelude as Std
use mathlib.Core.Path.{◌≡◌, refl, sym, ap, subst, ◌∙◌}
use mathlib.Core.List.{List, [], ◌∷◌}
use Prim.Native.Nat.{ℕ, zero, suc, ◌*◌}
use native.Mathlib.Omega.{arith}
use lib.ListN.{length}
use Rattle.buffer.specs.Place.{over}
use Rattle.recording.specs.declared.Refusal.{Refusal}
use Rattle.recording.specs.Recording.{Recording, Item, numbers_of_ranges, data_of, entries_from, encode}
use Rattle.recording.specs.Refusals.{number_of_refusal, first_of, recording_fault}
use Rattle.recording.specs.Outcome.{Outcome, refused, done, over_limit, no_room, refusal_of, Lent, room_in, lent_after, returned, answer_of}
use Rattle.recording.proofs.OutcomeLaws.{number_pos, first_hit, first_on, first_one, stops_content, stops_second, stops_own, stops_sizes, is_refused, is_done, promise_refused}
use Rattle.recording.proofs.SizeLaws.{entry_count, count_numbers}
use Rattle.writer.specs.declared.Cursor.{Cursor}
use Rattle.writer.specs.Write.{out, add, Fits, blank}
use Rattle.writer.specs.Sizes.{sizes_fault}
use Rattle.writer.proofs.Sizes.{same_verdict, size_refused, size_granted, fits_blank}
use Rattle.share.specs.Sizes.{Stands}
use Rattle.writer.proofs.Steps.{from_start}
use Rattle.layout.specs.Wrap.{line_numbers}
use Rattle.layout.specs.Layout.{Job, result_items, lines_left, number, result_of, second_fault, own_fault, faults_of, outcome}
use Rattle.layout.specs.Lent.{lent_lined, call_in, Leaves}

-- nothing that the call was given is refused
pub record Accepted (j : Job) (r : Recording) : Type 0 where
  pub content : recording_fault r ≡ 0
  pub second : second_fault j ≡ 0
  pub own : own_fault j r ≡ 0

-- the call leaves the items `is`; they have d data bytes, e entry numbers and a text for which t stands in this room, and l numbers go into the line list
pub record Sized (j : Job) (r : Recording) (room : ℕ) (is : List Item) (d e t l : ℕ) : Type 0 where
  pub leaves : result_items j r ≡ is
  pub data_size : d ≡ length (data_of is)
  pub entry_size : e ≡ 4 * entry_count is
  pub text_size_lem : Stands room (length (encode is).text) t
  pub line_size_lem : l ≡ length (line_numbers r.data_bytes (lines_left j r))

module _ (j : Job) (r : Recording) (b : Lent) where
  abbrev told : Outcome
  told = outcome (call_in j b) r

  -- ── where a call stops, and what it has then answered and left
  stopped : (f : Refusal) → told ≡ refused (number_of_refusal f) → Leaves j r b b (Std.Err f)
  stopped f e = promise_refused told f b e

  -- at a fault of the content or of the second recording
  pub input_refused : (f : Refusal) → number_of_refusal f ≡ first_of (recording_fault r ∷ second_fault j ∷ []) → Leaves j r b b (Std.Err f)
  unfolding outcome faults_of
  input_refused f e = stopped f (is_refused (faults_of j r) (room_in b) (result_of j r) f (go (recording_fault r) refl))
    where
      go : (n : ℕ) → recording_fault r ≡ n → refusal_of (faults_of j r) (room_in b) (result_of j r) ≡ number_of_refusal f
      go zero q =
          let s : number_of_refusal f ≡ second_fault j = e ∙ first_on (recording_fault r) (second_fault j ∷ []) q ∙ first_one (second_fault j) in
          stops_second (faults_of j r) (room_in b) (result_of j r) refl q (omega (arith, s, number_pos f)) ∙ sym s
      go (suc n) q =
          let s : number_of_refusal f ≡ recording_fault r = e ∙ first_hit (recording_fault r) (second_fault j ∷ []) (omega (arith, q)) in
          stops_content (faults_of j r) (room_in b) (result_of j r) refl (omega (arith, s, number_pos f)) ∙ sym s

  -- at a fault of its own
  pub own_refused : recording_fault r ≡ 0 → second_fault j ≡ 0 → (f : Refusal) → own_fault j r ≡ number_of_refusal f → Leaves j r b b (Std.Err f)
  unfolding outcome faults_of
  own_refused a c f e =
      stopped f (is_refused (faults_of j r) (room_in b) (result_of j r) f (stops_own (faults_of j r) (room_in b) (result_of j r) refl a c refl refl (omega (arith, e, number_pos f)) ∙ e))

  -- ── only the result is left to be judged
  module _ (A : Accepted j r) (is : List Item) (d e t l : ℕ) (z : Sized j r (length b.text) is d e t l) (v : Std.Result Unit Refusal) (g : fault_of v ≡ sizes_fault d e t l (room_in b)) where
    data_is : d ≡ length (result_of j r).recording.data_bytes
    unfolding result_of encode
    data_is = z.data_size ∙ ap (λ (x : List Item). length (data_of x)) (sym z.leaves)

    entries_are : e ≡ length (result_of j r).recording.entry_numbers
    unfolding result_of encode
    entries_are = z.entry_size ∙ sym (count_numbers is 0 [] []) ∙ ap (λ (x : List Item). length (numbers_of_ranges (entries_from 0 [] [] x))) (sym z.leaves)

    text_is : length (encode is).text ≡ length (result_of j r).recording.text
    unfolding result_of
    text_is = ap (λ (x : List Item). length (encode x).text) (sym z.leaves)

    -- the text's own size would settle it alike
    verdict : fault_of v ≡ sizes_fault d e (length (encode is).text) l (room_in b)
    verdict = g ∙ same_verdict d e (length (encode is).text) t l (room_in b) z.text_size_lem

    lines_are : l ≡ length (result_of j r).lines
    unfolding result_of
    lines_are = z.line_size_lem

    judged : refusal_of (faults_of j r) (room_in b) (result_of j r) ≡ first_of (over_limit (result_of j r).recording ∷ no_room (room_in b) (result_of j r) ∷ [])
    unfolding faults_of
    judged = stops_sizes (faults_of j r) (room_in b) (result_of j r) refl A.content A.second refl refl A.own

    pub sizes_refused : (f : Refusal) → v ≡ Std.Err f → Leaves j r b b (Std.Err f)
    unfolding outcome
    sizes_refused f q =
        stopped f (is_refused (faults_of j r) (room_in b) (result_of j r) f (judged ∙ size_refused (result_of j r) (room_in b) v f d e (length (encode is).text) l verdict q data_is entries_are text_is lines_are))

    -- ── and it has room
    module _ (q : v ≡ (Std.Ok tt)) where
      fit : first_of (over_limit (result_of j r).recording ∷ no_room (room_in b) (result_of j r) ∷ []) ≡ 0
      fit = size_granted (result_of j r) (room_in b) v d e (length (encode is).text) l verdict q data_is entries_are text_is lines_are

      is_result : told ≡ done (result_of j r)
      unfolding outcome
      is_result = is_done (faults_of j r) (room_in b) (result_of j r) (judged ∙ fit)

      pub has_room : Fits is (blank b.data_bytes b.entry_numbers b.text)
      unfolding result_of
      has_room =
          subst (λ (x : List Item). Fits x (blank b.data_bytes b.entry_numbers b.text)) z.leaves
          (fits_blank (result_items j r) (line_numbers r.data_bytes (lines_left j r)) (number j r) b.data_bytes b.entry_numbers b.text (room_in b) refl refl refl fit)

      -- the items are written and the lines listed
      pub written : (m : ℕ) (od oe ot ol : List ℕ) (k : Cursor) → number j r ≡ m → out od oe ot k ≡ add is (blank b.data_bytes b.entry_numbers b.text)
          → ol ≡ over (line_numbers r.data_bytes (lines_left j r)) b.lines → Leaves j r b (lent_lined od oe ot ol) (Std.Ok (record { «data» = k.d; entries = k.e; text = k.t; number = m }))
      unfolding returned lent_after result_of encode
      written m od oe ot ol k en w el =
          let s = from_start is b.data_bytes b.entry_numbers b.text od oe ot k w in (
            rw (is_result, z.leaves, en) (λ i. record { refusal = 0; data_bytes = s.3 i; entry_numbers = s.4 i; text = s.5 i; number = m }),
            rw (is_result, z.leaves) (λ i. record { data_bytes = s.0 i; entry_numbers = s.1 i; text = s.2 i; lines = el i }),
          )
