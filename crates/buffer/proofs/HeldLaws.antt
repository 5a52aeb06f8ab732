-- Writing run by run: after a run that comes next, the buffer holds the finished result up to the run's end (`run_held`).
-- The idea: what stands and the run are together the result up to there (`take-add`).
use mathlib.Core.Path.{◌≡◌, refl, sym, ap, ◌∙◌}
use mathlib.Core.List.{List, [], ◌∷◌, ◌++◌, append_assoc, flatten}
use Prim.Native.Nat.{ℕ, ◌+◌, ◌-◌, ◌≤◌}
use native.Mathlib.Omega.{arith}
use lib.ListN.{length, take, drop, length-take, length-drop, length-append}
use lib.Seq.{drop_at, drop-drop, take-add, take-append_seam, drop-append_seam, take-length, length-take-le}
use Rattle.buffer.specs.Place.{over, over_at, part}
use Rattle.buffer.specs.Held.{HoldsUpTo, NextIn, RunHeld, RunsHeld, AfterEachRun}
use Rattle.buffer.proofs.Laws.{put_over, length_part}

pub run_held : {T : Type 0} → (at to : ℕ) (run old new : List T) → new ≡ over_at at run old → to ≡ at + length run → RunHeld at to run old new
unfolding RunHeld
run_held {T} at to run old new w t finished former h n =
    let l : length (take at finished) ≡ at = length-take-le at finished h.within in
    let r : length run ≤ length finished - at = omega (arith, ap length n, length-take (length run) (drop at finished), length-drop at finished) in
    let e : take at finished ++ run ≡ take to finished =
    ap (λ (x : List T). take at finished ++ x) n ∙ sym (take-add at (length run) finished) ∙ ap (λ (k : ℕ). take k finished) (sym t) in
    record {
      within = omega (arith, t, r, h.within);
      holds =
          w ∙ ap (λ (k : ℕ). over_at k run old) (sym l) ∙ ap (λ (x : List T). over_at (length (take at finished)) run x) h.holds ∙ put_over (take at finished) run former
          ∙ ap (λ (x : List T). over x former) e;
    }

-- the same of a part of a source
pub part_held : {T : Type 0} → (at to a b : ℕ) (src old new : List T) → b ≤ length src → new ≡ over_at at (part a b src) old → to ≡ at + (b - a) → RunHeld at to (part a b src) old new
part_held at to a b src old new l w t = run_held at to (part a b src) old new w (omega (arith, t, length_part a b src l))

-- nothing is written yet
pub held_none : {T : Type 0} → (finished former : List T) → HoldsUpTo 0 finished former former
unfolding over
held_none finished former = record { within = omega arith; holds = refl }

-- all of it is written
pub held_all : {T : Type 0} → (finished former buffer : List T) → buffer ≡ over finished former → HoldsUpTo (length finished) finished former buffer
held_all {T} finished former buffer w = record { within = omega arith; holds = w ∙ ap (λ (x : List T). over x former) (sym (take-length finished)) }

-- up to its place, the buffer itself says what it holds
pub held_self : {T : Type 0} → (at : ℕ) (finished former buffer : List T) → HoldsUpTo at finished former buffer → HoldsUpTo at finished buffer buffer
unfolding over
held_self {T} at finished former buffer h =
    let x : List T = take at finished in
    let beyond : drop (length x) former ≡ drop (length x) buffer = sym (drop-append_seam x (drop (length x) former)) ∙ ap (λ (y : List T). drop (length x) y) (sym h.holds) in
    record { within = h.within; holds = h.holds ∙ ap (λ (y : List T). x ++ y) beyond }

-- ── what comes next in a result of two runs
pub next_first : {T : Type 0} → (a b all : List T) → all ≡ a ++ b → NextIn all 0 a
next_first {T} a b all e = sym (ap (λ (x : List T). take (length a) x) e ∙ take-append_seam a b)

pub next_second : {T : Type 0} → (a b all : List T) (at : ℕ) → all ≡ a ++ b → at ≡ length a → NextIn all at b
next_second {T} a b all at e l =
    sym (ap (λ (x : List T). take (length b) (drop at x)) e ∙ ap (λ (x : List T). take (length b) x) (drop_at a b at (sym l)) ∙ take-length b)

-- ── one run after another
runs_held : (xs : List (List ℕ)) (at : ℕ) (finished former old new rest : List ℕ) → RunsHeld at xs old new → HoldsUpTo at finished former old → drop at finished ≡ flatten xs ++ rest
    → HoldsUpTo (at + length (flatten xs)) finished former new
unfolding RunHeld RunsHeld flatten
runs_held [] at finished former old new rest s h e = let none : at + 0 ≡ at = omega arith in rw (none, s) h
runs_held (x ∷ xs) at finished former old new rest s h e =
    let e' : drop at finished ≡ x ++ (flatten xs ++ rest) = e ∙ append_assoc x (flatten xs) rest in
    let next : x ≡ take (length x) (drop at finished) = sym (ap (λ (y : List ℕ). take (length x) y) e' ∙ take-append_seam x (flatten xs ++ rest)) in
    let onward : drop (at + length x) finished ≡ flatten xs ++ rest =
    sym (drop-drop (length x) at finished) ∙ ap (λ (y : List ℕ). drop (length x) y) e' ∙ drop-append_seam x (flatten xs ++ rest) in
    let far : at + length (x ++ flatten xs) ≡ (at + length x) + length (flatten xs) = omega (arith, length-append x (flatten xs)) in
    rw far (runs_held xs (at + length x) finished former s.0 new rest s.2 (s.1 finished former h next) onward)

pub flatten-append : (xs ys : List (List ℕ)) → flatten (xs ++ ys) ≡ flatten xs ++ flatten ys
unfolding flatten
flatten-append [] ys = refl
flatten-append (x ∷ xs) ys = ap (λ (y : List ℕ). x ++ y) (flatten-append xs ys) ∙ sym (append_assoc x (flatten xs) (flatten ys))

pub after_each_run : AfterEachRun
unfolding AfterEachRun
after_each_run done rest former buffer s =
    let all : List ℕ = flatten (done ++ rest) in
    let far : 0 + length (flatten done) ≡ length (flatten done) = omega arith in
    rw far at (runs_held done 0 all former former buffer (flatten rest) s (held_none all former) (flatten-append done rest))
