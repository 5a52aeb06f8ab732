-- From the checks to the two readers' promises. `admit` finds the content's fault first, then 34 and 35 (`content-refused`, `label_refused`, `content_unbalanced`, `all_fine`).
-- Where it refuses, both readers' outcomes are that refusal (`refused_office`, `refused_floor`); where it does not, only the sizes of what they are left are judged (`office_kept`, `floor_kept`),
-- and where the label is not pushed, the floor is left what the office is (`absent_kept`). The idea: nothing is left in `view_faults` that refuses, so an outcome is `judged_by_size`.
use Rattle.recording.specs.Outcome.{Answer}
use Rattle.recording.specs.Check.{fault_of}
use Rattle.std.specs.Prelude as Std
use Prim.Native.Nat.{ℕ, zero, suc}
use native.Mathlib.Omega.{arith}
use mathlib.Core.Bool.{Bool, true, false, not, ◌||◌}
use mathlib.Core.Path.{◌≡◌, refl, sym, ap, subst, ◌∙◌}
use mathlib.Core.List.{[], ◌∷◌}
use lib.ListN.{length}
use Rattle.chars.specs.Chars.{well_formed_of}
use Rattle.recording.specs.declared.Refusal.{Refusal}
use Rattle.recording.specs.declared.Refusal.TheVariants.{ViewLabel}
use Rattle.recording.specs.Recording.{Bytes, Recording, is_nil, items, encode, text_of}
use Rattle.recording.specs.Coloured.{balanced}
use Rattle.recording.specs.Refusals.{number_of_refusal, first_of, refuse_if, recording_fault}
use Rattle.recording.specs.Outcome.{Room, Faults, Outcome, refused, settle, Lent, room_in, lent_after, returned, Promised}
use Rattle.recording.proofs.FaultLaws.{first_of-zero}
use Rattle.recording.proofs.OutcomeLaws.{number_pos, first_hit, first_on, first_one}
use Rattle.recorder.specs.Recorder.{leaves}
use Rattle.view.specs.View.{floor_items, view_fault, view_faults, office_outcome, floor_outcome}
use Rattle.view.proofs.OutcomeLaws.{content_first, turned_away}
use Rattle.view.proofs.AbsentLaws.{absent_label}
use Rattle.open_label.specs.declared.Kept.{Kept}
use Rattle.open_label.specs.Open.{ScanTold}
use Rattle.readers.specs.declared.Sizes.{Sizes}
use Rattle.recorder.specs.Recorder.{no_faults, judged_by_size}
use Rattle.readers.specs.Admit.{AdmittedTold}

nil-length : (l : Bytes) → length l ≡ 0 → is_nil l ≡ true
nil-length [] h = refl
nil-length (x ∷ l) h = absurd (omega (arith, h))

some_length : (l : Bytes) → (length l ≡ 0 → ⊥) → is_nil l ≡ false
some_length [] h = absurd (h refl)
some_length (x ∷ l) h = refl

or_true : (a : Bool) → (a || true) ≡ true
or_true true = refl
or_true false = refl

module _ (l : Bytes) (q : Recording) where
  -- the first fault of the recording and the label
  abbrev fault : ℕ
  fault = first_of (recording_fault q ∷ view_fault l q ∷ [])

  -- ── what the checks find, one after another
  abbrev Found : Std.Result Sizes Refusal → Type 0
  Found r = (fault_of r ≡ fault) × AdmittedTold l q r

  pub content-refused : (f : Refusal) → number_of_refusal f ≡ recording_fault q → Found (Std.Err f)
  unfolding AdmittedTold
  content-refused f e = (e ∙ sym (first_hit (recording_fault q) (view_fault l q ∷ []) (omega (arith, e, number_pos f))), tt)

  module _ (a : recording_fault q ≡ 0) where
    -- the label's turn
    turn : fault ≡ view_fault l q
    turn = first_on (recording_fault q) (view_fault l q ∷ []) a ∙ first_one (view_fault l q)

    label_bad : (is_nil l || not (well_formed_of l)) ≡ true → Found (Std.Err ViewLabel)
    unfolding AdmittedTold view_fault
    label_bad h = (rw (turn, h), tt)

    pub label_empty : length l ≡ 0 → Found (Std.Err ViewLabel)
    label_empty h = label_bad (rw (nil-length l h))

    pub label_refused : well_formed_of l ≡ false → Found (Std.Err ViewLabel)
    label_refused h = label_bad (rw h (or_true (is_nil l)))

    -- the label is fine
    module _ (n : length l ≡ 0 → ⊥) (w : well_formed_of l ≡ true) (r : Std.Result Kept Refusal) (s : fault_of r ≡ refuse_if (not (balanced q)) 35) where
      balance_turn : fault ≡ fault_of r
      unfolding view_fault
      balance_turn = turn ∙ rw (some_length l n, w) (first_one (refuse_if (not (balanced q)) 35) ∙ sym s)

      pub content_unbalanced : (f : Refusal) → r ≡ Std.Err f → Found (Std.Err f)
      unfolding AdmittedTold
      content_unbalanced f e = (sym (balance_turn ∙ ap fault_of e), tt)

      pub all_fine : (k : Kept) → r ≡ Std.Ok k → ScanTold l q r → (m : ℕ) → m ≡ length (text_of (items q)) → Found (Std.Ok (record { office = m; floor = k }))
      unfolding AdmittedTold
      all_fine k e t m h = (sym (balance_turn ∙ ap fault_of e), (h, subst (λ (x : Std.Result Kept Refusal). ScanTold l q x) e t))

  -- ── nothing that the call was given is refused: the outcomes
  module _ (a : recording_fault q ≡ 0) (c : view_fault l q ≡ 0) where
    no_faults_lem : view_faults l q ≡ no_faults
    unfolding view_faults
    no_faults_lem = rw (a, c)

    pub office_left : (o : Room) → office_outcome l o q ≡ judged_by_size o (items q)
    unfolding office_outcome judged_by_size
    office_left o = ap (λ (f : Faults). settle f o (leaves (encode (items q)))) no_faults_lem

    pub floor_left : (o : Room) → floor_outcome l o q ≡ judged_by_size o (floor_items l q)
    unfolding floor_outcome judged_by_size
    floor_left o = ap (λ (f : Faults). settle f o (leaves (encode (floor_items l q)))) no_faults_lem

    -- the label is not pushed
    pub absent_left : (k : Kept) → ScanTold l q (Std.Ok k) → k.found ≡ false → (o : Room) → floor_outcome l o q ≡ judged_by_size o (items q)
    unfolding ScanTold
    absent_left k t h o = floor_left o ∙ ap (judged_by_size o) (absent_label l q (sym t.0 ∙ h))

  -- ── what `admit` found
  module _ (r : Std.Result Sizes Refusal) (e : fault_of r ≡ fault) where
    pub refused_both : (f : Refusal) → r ≡ Std.Err f → (o : Room) → (office_outcome l o q ≡ refused (number_of_refusal f)) × (floor_outcome l o q ≡ refused (number_of_refusal f))
    refused_both f p o = go (recording_fault q) refl
      where
        m : number_of_refusal f ≡ fault
        m = sym (ap fault_of p) ∙ e

        go : (n : ℕ) → recording_fault q ≡ n → (office_outcome l o q ≡ refused (number_of_refusal f)) × (floor_outcome l o q ≡ refused (number_of_refusal f))
        go zero h =
            let s : view_fault l q ≡ number_of_refusal f = sym (m ∙ turn h) in
            let t = turned_away l q o h (omega (arith, s, number_pos f)) in
            (t.0 ∙ ap refused s, t.1 ∙ ap refused s)
        go (suc n) h =
            let s : recording_fault q ≡ number_of_refusal f = sym (m ∙ first_hit (recording_fault q) (view_fault l q ∷ []) (omega (arith, h))) in
            let t = content_first l q o (omega (arith, h)) in
            (t.0 ∙ ap refused s, t.1 ∙ ap refused s)

    stopped : (x : Outcome) (f : Refusal) (b : Lent) → x ≡ refused (number_of_refusal f) → Promised x b b (Std.Err f)
    unfolding returned lent_after
    stopped x f b h = (rw h, rw h)

    pub refused_office : (f : Refusal) → r ≡ Std.Err f → (b : Lent) → Promised (office_outcome l (room_in b) q) b b (Std.Err f)
    refused_office f p b = stopped (office_outcome l (room_in b) q) f b (refused_both f p (room_in b)).0

    pub refused_floor : (f : Refusal) → r ≡ Std.Err f → (b : Lent) → Promised (floor_outcome l (room_in b) q) b b (Std.Err f)
    refused_floor f p b = stopped (floor_outcome l (room_in b) q) f b (refused_both f p (room_in b)).1

    -- all checks are passed
    module _ (z : Sizes) (p : r ≡ Std.Ok z) where
      none : (recording_fault q ≡ 0) × (view_fault l q ≡ 0)
      none =
          let x = first_of-zero (recording_fault q) (view_fault l q ∷ []) (sym e ∙ ap fault_of p) in
          (x.0, (first_of-zero (view_fault l q) [] x.1).0)

      pub passed : recording_fault q ≡ 0
      passed = none.0

      pub office_kept : (b b' : Lent) (x : Answer) → Promised (judged_by_size (room_in b) (items q)) b b' x → Promised (office_outcome l (room_in b) q) b b' x
      office_kept b b' x h = rw (office_left none.0 none.1 (room_in b)) h

      pub floor_kept : (b b' : Lent) (x : Answer) → Promised (judged_by_size (room_in b) (floor_items l q)) b b' x → Promised (floor_outcome l (room_in b) q) b b' x
      floor_kept b b' x h = rw (floor_left none.0 none.1 (room_in b)) h

      module _ (t : AdmittedTold l q r) where
        told : (z.office ≡ length (text_of (items q))) × ScanTold l q (Std.Ok z.floor)
        unfolding AdmittedTold
        told = rw p at t

        pub office_size : z.office ≡ length (text_of (items q))
        office_size = told.0

        pub scan_told : ScanTold l q (Std.Ok z.floor)
        scan_told = told.1

        -- the label is not pushed
        pub absent_kept : z.floor.found ≡ false → (b b' : Lent) (x : Answer) → Promised (judged_by_size (room_in b) (items q)) b b' x → Promised (floor_outcome l (room_in b) q) b b' x
        absent_kept f b b' x h = rw (absent_left none.0 none.1 z.floor scan_told f (room_in b)) h
