-- Demand 3, proved.
use Prim.Native.Nat.{ℕ}
use mathlib.Core.Bool.{Bool, true, false, cond}
use mathlib.Core.Path.{◌≡◌, refl, subst, ◌∙◌}
use mathlib.Core.List.{List, [], ◌∷◌, ◌++◌}
use lib.Dec.{eqb}
use borrow.Author.Tests.{eq-eqb, ne_eqb}
use Rattle.recording.specs.Coloured.{Coloured, coloured, balanced, values}
use Rattle.recording.specs.Outcome.{Room}
use Rattle.recording.specs.Recording.{Recording, strip}
use Rattle.layout.specs.Layout.{wrap, Call, refusal, after, run}
use Rattle.layout.specs.Plain.{was_refused, wrapped, step, told_of_job}
use Rattle.layout.specs.Theorem.{Proper, AllRefused, wrap_call, Theorem}
use Rattle.layout.specs.Wrap.{wrap_lines_of}
use Rattle.layout.proofs.ListLaws.{after_refused, bal_after, one_call_lem, colours_law}
use Rattle.layout.proofs.StripLaws.{Stripping, strip_law, strip_shadow}
use Rattle.layout.proofs.TwiceLaws.{wrapped_twice}
use Rattle.layout.proofs.WordLaws.{wrap_ordered}

run-append : (xs ys : List Call) (r : Recording) → run (xs ++ ys) r ≡ run ys (run xs r)
run-append [] ys r = refl
run-append (x ∷ xs) ys r = run-append xs ys (after x r)

pub bal_run : (xs ys : List Call) (r : Recording) → balanced r ≡ true → Proper (xs ++ ys) r → balanced (run xs r) ≡ true
bal_run [] ys r h p = h
bal_run (x ∷ xs) ys r h p = bal_run xs ys (after x r) (bal_after x r h p.0) p.1

refused-run : (xs : List Call) (r : Recording) → AllRefused xs r → run xs r ≡ r
refused-run [] r h = refl
refused-run (x ∷ xs) r h = refused-run xs (after x r) h.1 ∙ after_refused x r (ne_eqb (refusal x r) 0 h.0)

-- one wrap, not refused
wrap_once : (w : ℕ) (b : Bool) (o : Room) (r : Recording) → balanced r ≡ true → refusal (wrap_call w b o) r ≡ 0
    → coloured (after (wrap_call w b o) r) ≡ wrapped (wrap_lines_of w b (values (coloured r))) (coloured r)
unfolding step told_of_job
wrap_once w b o r h z = one_call_lem wrap_ordered (wrap_call w b o) r h (λ e. tt) ∙ rw (eq-eqb (refusal (wrap_call w b o) r) 0 z)

wrap_again : (w : ℕ) (b : Bool) (o : Room) (q : Recording) (cs : List Coloured) → balanced q ≡ true → coloured q ≡ wrapped (wrap_lines_of w b (values cs)) cs
    → coloured (after (wrap_call w b o) q) ≡ coloured q
unfolding step told_of_job
wrap_again w b o q cs h e = one_call_lem wrap_ordered (wrap_call w b o) q h (λ e. tt) ∙ go (eqb (refusal (wrap_call w b o) q) 0)
  where
    go : (t : Bool) → step (cond t (told_of_job (wrap w b)) was_refused) (coloured q) ≡ coloured q
    go true = rw e (wrapped_twice w b cs)
    go false = refl

twice_law : (r : Recording) (pre mid post : List Call) (w : ℕ) (b : Bool) (o o' : Room) → balanced r ≡ true → Proper (pre ++ (wrap_call w b o ∷ mid ++ (wrap_call w b o' ∷ post))) r
    → refusal (wrap_call w b o) (run pre r) ≡ 0 → AllRefused mid (after (wrap_call w b o) (run pre r))
    → coloured (after (wrap_call w b o') (run (pre ++ (wrap_call w b o ∷ mid)) r)) ≡ coloured (run (pre ++ (wrap_call w b o ∷ mid)) r)
twice_law r pre mid post w b o o' h p z m =
    let c : Call = wrap_call w b o in
    let hq : balanced (run pre r) ≡ true = bal_run pre (c ∷ mid ++ (wrap_call w b o' ∷ post)) r h p in
    let e : run (pre ++ (c ∷ mid)) r ≡ after c (run pre r) = run-append pre (c ∷ mid) r ∙ refused-run mid (after c (run pre r)) m in
    rw e (wrap_again w b o' (after c (run pre r)) (coloured (run pre r)) (bal_after c (run pre r) hq (λ x. tt)) (wrap_once w b o (run pre r) hq z))

pub demand3 : Theorem
demand3 calls r h p =
    let S : Stripping calls r (strip r) = strip_law calls r (strip r) p (strip_shadow r) in
    record {
      colours = colours_law wrap_ordered calls r h p;
      accepted = S.accepted;
      same = S.same ∙ unfold strip in refl;
      twice = λ pre mid post w b o o' e z m. twice_law r pre mid post w b o o' h (subst (λ (cs : List Call). Proper cs r) e p) z m;
    }
