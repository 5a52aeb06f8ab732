-- Over a list of calls: the coloured bytes at the end are those that the plain steps make; balance is kept.
use Prim.Native.Nat.{ℕ, ◌<◌}
use mathlib.Core.Bool.{Bool, true, false, cond}
use mathlib.Core.Path.{◌≡◌, refl, ap, ◌∙◌}
use mathlib.Core.List.{List, [], ◌∷◌}
use lib.Dec.{eqb}
use lib.ListN.{length}
use borrow.Author.Tests.{eqb-true}
use Rattle.recording.specs.Coloured.{Coloured, coloured_from, coloured, balanced_from, balanced}
use Rattle.recording.specs.Outcome.{settle}
use Rattle.recording.specs.Recording.{Bytes, Recording, Item, encode}
use Rattle.recording.proofs.FaultLaws.{granted, grant, Granted}
use Rattle.recording.proofs.ItemsLaws.{items-encode}
use Rattle.layout.specs.Layout.{own_fault, faults_of, result_of, outcome, Call, result_items, refusal, after, run}
use Rattle.layout.specs.Plain.{was_refused, step, steps, told_of_job, told}
use Rattle.layout.specs.Theorem.{SecondOk, Proper}
use Rattle.layout.specs.Wrap.{wrap_lines_of}
use Rattle.layout.proofs.StepLaws.{Ordered, bal_law, step_law}

-- ── a call that is not refused, part by part
abbrev pub GrantedCall : Call → Recording → Type 0
GrantedCall c r = Granted (faults_of c.job r) c.room (result_of c.job r)

pub granted_call : (c : Call) (r : Recording) → refusal c r ≡ 0 → GrantedCall c r
unfolding refusal
granted_call c r h = granted (faults_of c.job r) c.room (result_of c.job r) h

pub grant_call : (c : Call) (r : Recording) → GrantedCall c r → refusal c r ≡ 0
unfolding refusal
grant_call c r g = grant (faults_of c.job r) c.room (result_of c.job r) g

-- ── one call
pub after_done : (c : Call) (r : Recording) → eqb (refusal c r) 0 ≡ true → after c r ≡ encode (result_items c.job r)
unfolding after outcome settle refusal result_of
after_done c r e = rw e

pub after_refused : (c : Call) (r : Recording) → eqb (refusal c r) 0 ≡ false → after c r ≡ r
unfolding after outcome settle refusal
after_refused c r e = rw e

-- a call that is not refused has no fault of its own: its replacement records are in order
granted_own : (c : Call) (r : Recording) → refusal c r ≡ 0 → own_fault c.job r ≡ 0
unfolding faults_of
granted_own c r z = (granted_call c r z).own

pub coloured-encode : (is : List Item) → coloured (encode is) ≡ coloured_from [] is
unfolding coloured
coloured-encode is = ap (λ (l : List Item). coloured_from [] l) (items-encode is)

pub balanced-encode : (is : List Item) → balanced (encode is) ≡ balanced_from 0 is
unfolding balanced
balanced-encode is = ap (λ (l : List Item). balanced_from 0 l) (items-encode is)

pub bal_after : (c : Call) (r : Recording) → balanced r ≡ true → (refusal c r ≡ 0 → SecondOk c.job) → balanced (after c r) ≡ true
bal_after c r h p = go (eqb (refusal c r) 0) refl
  where
    go : (t : Bool) → eqb (refusal c r) 0 ≡ t → balanced (after c r) ≡ true
    go true e = rw (after_done c r e, balanced-encode (result_items c.job r)) (bal_law r h c.job (p (eqb-true (refusal c r) 0 e)))
    go false e = rw (after_refused c r e) h

module _ (o : (w : ℕ) (b : Bool) (d : Bytes) → Ordered 0 (wrap_lines_of w b d) × (0 < length (wrap_lines_of w b d))) where
  pub one_call_lem : (c : Call) (r : Recording) → balanced r ≡ true → (refusal c r ≡ 0 → SecondOk c.job)
      → coloured (after c r) ≡ step (cond (eqb (refusal c r) 0) (told_of_job c.job) was_refused) (coloured r)
  one_call_lem c r h p = go (eqb (refusal c r) 0) refl
    where
      go : (t : Bool) → eqb (refusal c r) 0 ≡ t → coloured (after c r) ≡ step (cond t (told_of_job c.job) was_refused) (coloured r)
      go true e =
          let z = eqb-true (refusal c r) 0 e in
          rw (after_done c r e, coloured-encode (result_items c.job r)) (step_law r h o c.job (p z) (granted_own c r z))
      go false e = rw (after_refused c r e) (unfold step in refl)

  pub colours_law : (cs : List Call) (r : Recording) → balanced r ≡ true → Proper cs r → coloured (run cs r) ≡ steps (told cs r) (coloured r)
  colours_law [] r h p = refl
  colours_law (c ∷ cs) r h p =
      colours_law cs (after c r) (bal_after c r h p.0) p.1 ∙ ap (λ (s : List Coloured). steps (told cs (after c r)) s) (one_call_lem c r h p.0)
