-- `replay` stops at the check's refusal (`check_refused`), and else only the sizes of what it leaves are judged (`sizes_left`); what it leaves is a recording without faults (`replay_clean`).
use Rattle.recording.specs.Outcome.{Answer}
use Rattle.std.specs.Prelude as Std
use mathlib.Core.Path.{◌≡◌, refl, sym, ap, ◌∙◌}
use native.Mathlib.Omega.{arith}
use Rattle.recording.specs.declared.Refusal.{Refusal}
use Rattle.recording.specs.Recording.{Recording, items, encode}
use Rattle.recording.specs.Refusals.{number_of_refusal, recording_fault}
use Rattle.recording.specs.Outcome.{Result, done, refusal_of, Lent, room_in, Promised}
use Rattle.recording.specs.Check.{fault_of}
use Rattle.recording.proofs.FaultLaws.{granted, ok_recording, encoded}
use Rattle.recording.proofs.OutcomeLaws.{number_pos, stops_content, refused_answer, refused_lent, done_only}
use Rattle.recording.proofs.CheckLaws.{refused-number, fine_zero}
use Prim.Native.Nat.{ℕ}
use Rattle.recorder.specs.Recorder.{leaves, judged_by_size, replay_faults, replayed}

module _ (q : Recording) (b : Lent) (r : Std.Result ℕ Refusal) (f : fault_of r ≡ recording_fault q) where
  pub check_refused : (x : Refusal) → r ≡ Std.Err x → Promised (replayed q b) b b (Std.Err x)
  unfolding replayed replay_faults
  check_refused x e =
      let m : recording_fault q ≡ number_of_refusal x = sym f ∙ refused-number r x e in
      let n : refusal_of (replay_faults q) (room_in b) (leaves (encode (items q))) ≡ number_of_refusal x =
      stops_content (replay_faults q) (room_in b) (leaves (encode (items q))) refl (omega (arith, m, number_pos x)) ∙ m in
      (refused_answer (replay_faults q) (room_in b) (leaves (encode (items q))) x n, refused_lent (replay_faults q) (room_in b) (leaves (encode (items q))) x b n)

  module _ (n : ℕ) (e : r ≡ Std.Ok n) where
    pub passed : recording_fault q ≡ 0
    passed = sym f ∙ fine_zero r n e

    pub sizes_left : (b' : Lent) (x : Answer) → Promised (judged_by_size (room_in b) (items q)) b b' x → Promised (replayed q b) b b' x
    unfolding replayed replay_faults judged_by_size
    sizes_left b' x h = rw passed h

-- ── what a replay that is not refused leaves has no fault
pub replay_clean : (r : Recording) (b : Lent) (x : Result) → replayed r b ≡ done x → recording_fault x.recording ≡ 0
unfolding replayed replay_faults
replay_clean r b x e =
    let d = done_only (replay_faults r) (room_in b) (leaves (encode (items r))) x e in
    let g = granted (replay_faults r) (room_in b) (leaves (encode (items r))) d.0 in
    ap (λ (y : Result). recording_fault y.recording) (sym d.1) ∙ encoded (items r) (ok_recording r g.content) g.limit
