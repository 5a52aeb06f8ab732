-- What running code has left: by the promise of a layout call that answers `Done`, the call is not refused, what it leaves stands at the front of the buffers (`left_in`),
-- and the data buffer holds all of the finished result, with what it held before beyond it (`held_in`).
use Rattle.std.specs.Prelude as Std
use Prim.Native.Nat.{ℕ}
use mathlib.Core.Bool.{Bool, true, false, cond}
use mathlib.Core.Path.{◌≡◌, refl, sym, ap, ◌∙◌}
use lib.Dec.{eqb}
use lib.ListN.{length, take}
use borrow.Author.Tests.{eqb-true, eqb-false}
use Rattle.buffer.specs.Place.{over}
use Rattle.buffer.specs.Held.{HoldsUpTo}
use Rattle.buffer.proofs.HeldLaws.{held_all}
use Rattle.recording.specs.Recording.{Recording, recording, data_of, encode}
use Rattle.recording.specs.Outcome.{Outcome, refused, done, settle, Lent, lent_after, Returned, returned, read_back_of, answer_of}
use Rattle.recording.proofs.FaultLaws.{read_back}
use Rattle.layout.specs.Layout.{Job, result_items, result_of, refusal, outcome, content_after, after}
use Rattle.layout.specs.Lent.{front_of, call_in, Leaves}

module _ (b b' : Lent) (d e t n : ℕ) where
  front_is : (x : Outcome) → answer_of (Std.Ok (record { «data» = d; entries = e; text = t; number = n })) ≡ returned x → b' ≡ lent_after x b → front_of d e t b' ≡ read_back_of x b
  front_is x a l = λ i. recording (take (a i).data_bytes (l i).data_bytes) (take (a i).entry_numbers (l i).entry_numbers) (take (a i).text (l i).text)

  none_told : (k : ℕ) → answer_of (Std.Ok (record { «data» = d; entries = e; text = t; number = n })) ≡ returned (refused k) → 0 ≡ k
  unfolding returned
  none_told k a = ap (λ (x : Returned). x.refusal) a

  unrefused : (j : Job) (r : Recording) → Leaves j r b b' (Std.Ok (record { «data» = d; entries = e; text = t; number = n })) → (refusal (call_in j b) r ≡ 0) × (outcome (call_in j b) r ≡ done (result_of j r))
  unfolding outcome settle refusal
  unrefused j r h = go (eqb (refusal (call_in j b) r) 0) refl h.0
    where
      told : Bool → Outcome
      told k = cond k (done (result_of j r)) (refused (refusal (call_in j b) r))

      go : (k : Bool) → eqb (refusal (call_in j b) r) 0 ≡ k → answer_of (Std.Ok (record { «data» = d; entries = e; text = t; number = n })) ≡ returned (told k) → (refusal (call_in j b) r ≡ 0) × (told k ≡ done (result_of j r))
      go true q a = (eqb-true (refusal (call_in j b) r) 0 q, refl)
      go false q a = absurd (eqb-false (refusal (call_in j b) r) 0 q (sym (none_told (refusal (call_in j b) r) a)))

  pub left_in : (j : Job) (r : Recording) → Leaves j r b b' (Std.Ok (record { «data» = d; entries = e; text = t; number = n })) → (refusal (call_in j b) r ≡ 0) × (front_of d e t b' ≡ after (call_in j b) r)
  unfolding after
  left_in j r h =
      let u = unrefused j r h in
      (u.0, front_is (outcome (call_in j b) r) h.0 h.1 ∙ ap (λ (x : Outcome). read_back_of x b) u.1 ∙ read_back (result_of j r) b ∙ sym (ap (λ (x : Outcome). content_after x r) u.1))

  -- WHERE A CALL ENDS: the data buffer holds all of the finished result, and beyond it what it held before
  pub held_in : (j : Job) (r : Recording) → Leaves j r b b' (Std.Ok (record { «data» = d; entries = e; text = t; number = n })) → (d ≡ length (data_of (result_items j r))) × HoldsUpTo d (data_of (result_items j r)) b.data_bytes b'.data_bytes
  unfolding returned lent_after result_of encode
  held_in j r h =
      let u = unrefused j r h in
      let long : d ≡ length (data_of (result_items j r)) = ap (λ (x : Returned). x.data_bytes) (h.0 ∙ ap (λ (x : Outcome). returned x) u.1) in
      let data_is : b'.data_bytes ≡ over (data_of (result_items j r)) b.data_bytes = ap (λ (x : Lent). x.data_bytes) (h.1 ∙ ap (λ (x : Outcome). lent_after x b) u.1) in
      (long, rw long (held_all (data_of (result_items j r)) b.data_bytes b'.data_bytes data_is))
