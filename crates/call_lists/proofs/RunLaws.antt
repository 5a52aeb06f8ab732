-- The loop over the calls (`Running`): what is left of the list, run from the state as it stands, leads where the whole list leads, and the answers so far are the front of the list of answers.
-- The idea: one turn makes the first of the calls that are left (`StateLaws.turned`), and its two numbers come after those before.
use Rattle.recording.specs.Outcome.{Answer}
use Prim.Native.Nat.{ℕ, ◌+◌, ◌*◌, ◌/◌, ◌≤◌, ◌<◌}
use native.Mathlib.Omega.{arith}
use mathlib.Core.Bool.{Bool, true, false, cond, not}
use mathlib.Core.Path.{◌≡◌, refl, sym, ap, subst, ◌∙◌}
use mathlib.Core.List.{List, [], ◌++◌, append_assoc}
use lib.Dec.{eqb}
use lib.ListN.{length, take, drop, length-append, take-append-drop}
use lib.Seq.{take-append_seam, drop-append_seam, drop-drop, length-take-le}
use Rattle.buffer.specs.Place.{over, over_at}
use Rattle.recording.specs.Recording.{Bytes}
use Rattle.recording.specs.Outcome.{Lent, Returned, answer_of}
use Rattle.layout.specs.Layout.{Job}
use Rattle.layout.specs.Lent.{lent_of}
use Rattle.call_lists.specs.declared.Held.{Held}
use Rattle.requests.specs.declared.Request.{Request}
use Rattle.requests.specs.Requests.{request_in, requests_of, job_in, jobs_in, fits_in, all_fit_in}
use Rattle.call_lists.specs.Runs.{State, state, Sound, held_by, two_of, after_call, Turn, run_sets, Ran}
use Rattle.requests.proofs.RequestLaws.{rest, rest_all, next, none, and_left, and_right}
use Rattle.call_lists.proofs.StateLaws.{sound_after, turned}

-- ── the list of answers: `new` written where what is answered so far ends
module _ (at : ℕ) (new old : List ℕ) (h : at ≤ length old) where
  front_long : length (take at old ++ new) ≡ at + length new
  front_long = simp (length-append, length-take-le at old h)

  grown : take (at + length new) (over_at at new old) ≡ take at old ++ new
  unfolding over_at over
  grown = rw (sym (append_assoc (take at old) new (drop (length new) (drop at old))), sym front_long) (take-append_seam (take at old ++ new) (drop (length new) (drop at old)))

  left_over : drop (at + length new) (over_at at new old) ≡ drop (at + length new) old
  unfolding over_at over
  left_over =
      rw (sym (append_assoc (take at old) new (drop (length new) (drop at old))), sym front_long) (drop-append_seam (take at old ++ new) (drop (length new) (drop at old)))
      ∙ drop-drop (length new) at old

-- ── how many calls are not refused
made_step : (n : Returned) (h : Held) (k : ℕ) → h.made ≤ k → (held_by n h).made ≤ k + 1
unfolding held_by
made_step n h k le = go (eqb n.refusal 0)
  where
    go : (t : Bool) → (cond t (record { first = not h.first; bytes = n.data_bytes; numbers = n.entry_numbers; texts = n.text; made = h.made + 1 }) h).made ≤ k + 1
    go true = omega arith
    go false = omega arith

-- ── the loop: ps and ns are the pools, cs the numbers of the calls, s₀ and ans₀ the state and the list of answers at first
pub record Running (ps : Bytes) (ns cs : List ℕ) (s₀ : State) (ans₀ : List ℕ) (h : Held) (k : ℕ) (a b : Lent) (l ans : List ℕ) : Type 0 where
  pub leads : run_sets (jobs_in ps ns (rest (length cs / 8) k cs)) (state h a b l (take (2 * k) ans)) ≡ run_sets (jobs_in ps ns (requests_of (length cs / 8) cs)) s₀
  pub fits : all_fit_in (length ps) (length ns) (rest (length cs / 8) k cs) ≡ true
  pub sound : Sound h a b
  pub left : drop (2 * k) ans ≡ drop (2 * k) ans₀
  pub within : k ≤ length cs / 8
  pub made : h.made ≤ k
  pub long : length ans ≡ length ans₀

pub starts : (ps : Bytes) (ns cs : List ℕ) (h : Held) (a b : Lent) (l ans : List ℕ) → all_fit_in (length ps) (length ns) (requests_of (length cs / 8) cs) ≡ true → Sound h a b → h.made ≡ 0
    → Running ps ns cs (state h a b l []) ans h 0 a b l ans
starts ps ns cs h a b l ans f k z =
    let n : ℕ = length cs / 8 in
    record {
      leads = ap (λ (xs : List Request). run_sets (jobs_in ps ns xs) (state h a b l [])) (rest_all n cs);
      fits = ap (all_fit_in (length ps) (length ns)) (rest_all n cs) ∙ f;
      sound = k;
      left = refl;
      within = omega arith;
      made = omega arith;
      long = refl;
    }

-- no list changes its length
pub record Same (d e t d' e' t' l u v w u' v' w' m : List ℕ) : Type 0 where
  pub bytes : length u ≡ length d
  pub numbers : length v ≡ length e
  pub texts : length w ≡ length t
  pub other_bytes : length u' ≡ length d'
  pub other_numbers : length v' ≡ length e'
  pub other_texts : length w' ≡ length t'
  pub lines : length m ≡ length l

module _ (ps : Bytes) (ns cs : List ℕ) (s₀ : State) (ans₀ : List ℕ) (h : Held) (k : ℕ) (d e t d' e' t' l ans : List ℕ)
    (r : Running ps ns cs s₀ ans₀ h k (lent_of d e t) (lent_of d' e' t') l ans) where
  -- the call that comes next
  pub head_fits : k < length cs / 8 → fits_in (length ps) (length ns) (request_in (drop (8 * k) cs)) ≡ true
  head_fits m =
      let x : Request = request_in (drop (8 * k) cs) in
      and_left (fits_in (length ps) (length ns) x) (all_fit_in (length ps) (length ns) (rest (length cs / 8) (k + 1) cs))
      (subst (λ (xs : List Request). all_fit_in (length ps) (length ns) xs ≡ true) (next (length cs / 8) k cs m) r.fits)

  module _ (room : 2 * (length cs / 8) ≤ length ans₀) (m : k < length cs / 8) (x : Answer) (u v w u' v' w' l' ans' : List ℕ)
      (turn : Turn (job_in ps ns (request_in (drop (8 * k) cs))) (state h (lent_of d e t) (lent_of d' e' t') l []) (state h (lent_of u v w) (lent_of u' v' w') l' []) x)
      (told : ans' ≡ over_at (2 * k) (two_of (answer_of x)) ans) (long : length ans' ≡ length ans) where
    job : Job
    job = job_in ps ns (request_in (drop (8 * k) cs))

    two_more : 2 * (k + 1) ≡ 2 * k + 2
    two_more = omega arith

    short : 2 * k ≤ length ans
    short = omega (arith, r.long)

    reached : state (held_by (answer_of x) h) (lent_of u v w) (lent_of u' v' w') l' (take (2 * (k + 1)) ans')
        ≡ after_call (job_in ps ns (request_in (drop (8 * k) cs))) (state h (lent_of d e t) (lent_of d' e' t') l (take (2 * k) ans))
    reached =
        let front : take (2 * (k + 1)) ans' ≡ take (2 * k) ans ++ two_of (answer_of x) = rw (told, two_more) (grown (2 * k) (two_of (answer_of x)) ans short) in
        ap (state (held_by (answer_of x) h) (lent_of u v w) (lent_of u' v' w') l') front
        ∙ turned (job_in ps ns (request_in (drop (8 * k) cs))) h (lent_of d e t) (lent_of d' e' t') (lent_of u v w) (lent_of u' v' w') l l' (take (2 * k) ans) x turn

    moved_on : Running ps ns cs s₀ ans₀ (held_by (answer_of x) h) (k + 1) (lent_of u v w) (lent_of u' v' w') l' ans'
    moved_on =
        let q : Request = request_in (drop (8 * k) cs) in
        let n : ℕ = length cs / 8 in
        record {
          leads =
              ap (run_sets (jobs_in ps ns (rest n (k + 1) cs))) reached
              ∙ sym (ap (λ (xs : List Request). run_sets (jobs_in ps ns xs) (state h (lent_of d e t) (lent_of d' e' t') l (take (2 * k) ans))) (next n k cs m)) ∙ r.leads;
          fits =
              and_right (fits_in (length ps) (length ns) q) (all_fit_in (length ps) (length ns) (rest n (k + 1) cs))
              (subst (λ (xs : List Request). all_fit_in (length ps) (length ns) xs ≡ true) (next n k cs m) r.fits);
          sound =
              subst (λ (s : State). Sound s.held s.first s.other) (sym reached) (sound_after (job_in ps ns q) (state h (lent_of d e t) (lent_of d' e' t') l (take (2 * k) ans)) r.sound);
          left =
              rw (told, two_more) (left_over (2 * k) (two_of (answer_of x)) ans short ∙ sym (drop-drop 2 (2 * k) ans) ∙ ap (drop 2) r.left ∙ drop-drop 2 (2 * k) ans₀);
          within = omega arith;
          made = made_step (answer_of x) h k r.made;
          long = long ∙ r.long;
        }

    pub again : (h' : Held) → h' ≡ held_by (answer_of x) h → Running ps ns cs s₀ ans₀ h' (k + 1) (lent_of u v w) (lent_of u' v' w') l' ans'
    again h' e = subst (λ (y : Held). Running ps ns cs s₀ ans₀ y (k + 1) (lent_of u v w) (lent_of u' v' w') l' ans') (sym e) moved_on

  pub ran : 2 * (length cs / 8) ≤ length ans₀ → length cs / 8 ≤ k
      → Ran ps ns cs s₀ ans₀ (state h (lent_of d e t) (lent_of d' e' t') l (take (2 * (length cs / 8)) ans)) ans
  unfolding over
  ran room m =
      let n : ℕ = length cs / 8 in
      let z : k ≡ n = omega (arith, r.within, m) in
      let all : 2 * n ≤ length ans = omega (arith, r.long, room) in
      record {
        reached =
            ap (λ (i : ℕ). state h (lent_of d e t) (lent_of d' e' t') l (take (2 * i) ans)) (sym z)
            ∙ sym (ap (λ (xs : List Request). run_sets (jobs_in ps ns xs) (state h (lent_of d e t) (lent_of d' e' t') l (take (2 * k) ans))) (none n k cs m)) ∙ r.leads;
        sound = r.sound;
        answered =
            sym (take-append-drop (2 * n) ans) ∙ ap (λ (l : List ℕ). take (2 * n) ans ++ l) (subst (λ (i : ℕ). drop (2 * i) ans ≡ drop (2 * i) ans₀) z r.left)
            ∙ ap (λ (i : ℕ). take (2 * n) ans ++ drop i ans₀) (sym (length-take-le (2 * n) ans all));
      }
