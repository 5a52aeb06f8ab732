-- The promise of `run_calls`, from what its parts promise: refused with nothing touched (`refuses`), or run (`finishes`).
-- The idea: the front of the first set at the end is the content of the last state, which is `run` of the calls (`StateLaws.run-content`), and `demand3` holds of every list of calls.
use Rattle.recording.specs.Check.{fault_of}
use Rattle.std.specs.Prelude as Std
use Prim.Native.Nat.{ℕ, ◌-◌, ◌*◌, ◌/◌, ◌%◌, ◌≤◌}
use native.Mathlib.Omega.{arith}
use mathlib.Core.Bool.{Bool, true, false, cond, not, ◌||◌, ◌&&◌}
use mathlib.Core.Path.{◌≡◌, refl, sym, ap, subst, ◌∙◌}
use mathlib.Core.List.{List, [], ◌∷◌}
use lib.Dec.{eqb, ltb}
use lib.ListN.{length, take}
use lib.Seq.{length-take-le}
use borrow.Author.Tests.{eqb-true, ltb-false, ne_eqb}
use Rattle.buffer.specs.Place.{over, over_at, part}
use Rattle.buffer.proofs.Laws.{take_over}
use Rattle.recording.specs.declared.Refusal.{Refusal}
use Rattle.recording.specs.Recording.{recording}
use Rattle.recording.specs.Refusals.{number_of_refusal, refuse_if}
use Rattle.recording.specs.Outcome.{Lent}
use Rattle.recording.proofs.OutcomeLaws.{number_pos}
use Rattle.recording.proofs.Lists.{or_left, or_right, not_false}
use Rattle.recording.proofs.FaultLaws.{first_of-zero, refuse_if-zero}
use Rattle.layout.specs.Lent.{lent_of, front_of}
use Rattle.layout.proofs.Demand3.{demand3}
use Rattle.call_lists.specs.declared.Held.{Held}
use Rattle.requests.specs.Requests.{requests_of, all_fit_in}
use Rattle.call_lists.specs.Runs.{State, state, Sound, content, over_set, first_at_end, Ran}
use Rattle.call_lists.specs.Runs.{Given, Buffers, buffers, jobs, first_content, calls, at_start, at_end, input_fault, used_too_long, alike_sets, run_fault, RunsCalls}
use Rattle.requests.proofs.RequestLaws.{and_left, and_right}
use Rattle.call_lists.proofs.StateLaws.{run-content}

-- ── what is known once nothing is refused
pub record Accepted (g : Given) (b : Buffers) : Type 0 where
  pub sound : Sound (at_start g b).held b.first b.other
  pub fit : all_fit_in (length g.pool) (length g.pool_numbers) (requests_of (length g.calls / 8) g.calls) ≡ true
  pub room : 2 * (length g.calls / 8) ≤ length b.answers

pub accepted : (g : Given) (b : Buffers) → run_fault g b ≡ 0 → Accepted g b
unfolding run_fault input_fault
accepted g b h =
    let a = b.first in
    let o = b.other in
    let long : Bool = used_too_long g a in
    let same : Bool = alike_sets a o in
    let whole : Bool = eqb (length g.calls % 8) 0 in
    let fits : Bool = all_fit_in (length g.pool) (length g.pool_numbers) (requests_of (length g.calls / 8) g.calls) in
    let few : Bool = ltb (length b.answers) (2 * (length g.calls / 8)) in
    let n₁ : ℕ = refuse_if long 10 in
    let n₂ : ℕ = refuse_if (not same) 61 in
    let n₃ : ℕ = refuse_if (not whole || not fits) 62 in
    let n₄ : ℕ = refuse_if few 63 in
    let h₁ = first_of-zero n₁ (n₂ ∷ n₃ ∷ n₄ ∷ []) h in
    let h₂ = first_of-zero n₂ (n₃ ∷ n₄ ∷ []) h₁.1 in
    let h₃ = first_of-zero n₃ (n₄ ∷ []) h₂.1 in
    let h₄ = first_of-zero n₄ [] h₃.1 in
    let f₁ : long ≡ false = refuse_if-zero long 9 h₁.0 in
    let f₂ : same ≡ true = not_false same (refuse_if-zero (not same) 60 h₂.0) in
    let f₃ : (not whole || not fits) ≡ false = refuse_if-zero (not whole || not fits) 61 h₃.0 in
    let f₄ : few ≡ false = refuse_if-zero few 62 h₄.0 in
    let long₁ : Bool = ltb (length a.data_bytes) g.data_len in
    let long₂ : Bool = ltb (length a.entry_numbers) g.entries_len in
    let long₃ : Bool = ltb (length a.text) g.text_len in
    let same₁ : Bool = eqb (length a.data_bytes) (length o.data_bytes) in
    let same₂ : Bool = eqb (length a.entry_numbers) (length o.entry_numbers) in
    let same₃ : Bool = eqb (length a.text) (length o.text) in
    let r : (long₂ || long₃) ≡ false = or_right long₁ (long₂ || long₃) f₁ in
    record {
      sound = record {
        bytes = ltb-false (length a.data_bytes) g.data_len (or_left long₁ (long₂ || long₃) f₁);
        numbers = ltb-false (length a.entry_numbers) g.entries_len (or_left long₂ long₃ r);
        texts = ltb-false (length a.text) g.text_len (or_right long₂ long₃ r);
        like_bytes = sym (eqb-true (length a.data_bytes) (length o.data_bytes) (and_left same₁ (same₂ && same₃) f₂));
        like_numbers = sym (eqb-true (length a.entry_numbers) (length o.entry_numbers) (and_left same₂ same₃ (and_right same₁ (same₂ && same₃) f₂)));
        like_texts = sym (eqb-true (length a.text) (length o.text) (and_right same₂ same₃ (and_right same₁ (same₂ && same₃) f₂)));
      };
      fit = not_false fits (or_right (not whole) (not fits) f₃);
      room = ltb-false (length b.answers) (2 * (length g.calls / 8)) f₄;
    }

-- ── what `check_input` found is the fault of the whole list
pub input_fault_lem : (g : Given) (b : Buffers) (long same : Bool) (v : Std.Result Unit Refusal) → long ≡ used_too_long g b.first → same ≡ alike_sets b.first b.other
    → fault_of v ≡ input_fault long same g.calls (length g.pool) (length g.pool_numbers) (length b.answers) → fault_of v ≡ run_fault g b
unfolding run_fault
input_fault_lem g b long same v p q h =
    h ∙ ap (λ (x : Bool). input_fault x same g.calls (length g.pool) (length g.pool_numbers) (length b.answers)) p
    ∙ ap (λ (x : Bool). input_fault (used_too_long g b.first) x g.calls (length g.pool) (length g.pool_numbers) (length b.answers)) q

pub is_room : (n : ℕ) (v : Std.Result Unit Refusal) → v ≡ (Std.Ok tt) → fault_of v ≡ n → n ≡ 0
is_room n v e h = sym h ∙ ap fault_of e

-- ── refused
pub refuses : (g : Given) (b : Buffers) (f : Refusal) (v : Std.Result Unit Refusal) → v ≡ Std.Err f → fault_of v ≡ run_fault g b → RunsCalls g b b (Std.Err f)
refuses g b f v e k =
    let h : number_of_refusal f ≡ run_fault g b = sym (ap fault_of e) ∙ k in
    let z : eqb (run_fault g b) 0 ≡ false = ne_eqb (run_fault g b) 0 (λ e. omega (arith, number_pos f, h, e)) in
    (rw (z, sym h), (rw z, λ e. absurd (omega (arith, number_pos f, h, e))))

-- ── run
-- the front of the first set at the end
front_kept : (n : ℕ) (xs ys : List ℕ) → n ≤ length xs → take n (over (take n xs) ys) ≡ take n xs
front_kept n xs ys h = subst (λ (i : ℕ). take i (over (take n xs) ys) ≡ take n xs) (length-take-le n xs h) (take_over (take n xs) ys)

-- what `bring_back` leaves, by the set that the result stands in
pub stays : (h : Held) (a b : Lent) → h.first ≡ true → a ≡ first_at_end (state h a b [] [])
stays h a b e = subst (λ (f : Bool). a ≡ cond f a (over_set (front_of h.bytes h.numbers h.texts (cond f a b)) a)) (sym e) refl

pub whole_part : (n : ℕ) (xs ys : List ℕ) → over_at 0 (part 0 n xs) ys ≡ over (take n xs) ys
unfolding over_at
whole_part n xs ys = let z : n - 0 ≡ n = omega arith in rw z

pub copied : (h : Held) (d e t d' e' t' x y z : List ℕ) → h.first ≡ false
    → x ≡ over_at 0 (part 0 h.bytes d') d → y ≡ over (take h.numbers e') e → z ≡ over_at 0 (part 0 h.texts t') t → lent_of x y z ≡ first_at_end (state h (lent_of d e t) (lent_of d' e' t') [] [])
copied h d e t d' e' t' x y z f p q r =
    let p' = p ∙ whole_part h.bytes d' d in
    let r' = r ∙ whole_part h.texts t' t in
    let a : Lent = lent_of d e t in
    subst (λ (b : Bool). lent_of x y z ≡ cond b a (over_set (front_of h.bytes h.numbers h.texts (cond b a (lent_of d' e' t'))) a)) (sym f) (λ i. lent_of (p' i) (q i) (r' i))

front_at_end : (h : Held) (a b : Lent) → Sound h a b → front_of h.bytes h.numbers h.texts (first_at_end (state h a b [] [])) ≡ content (state h a b [] [])
front_at_end h a b k = go h.first
  where
    go : (f : Bool) → front_of h.bytes h.numbers h.texts (cond f a (over_set (front_of h.bytes h.numbers h.texts (cond f a b)) a))
        ≡ front_of h.bytes h.numbers h.texts (cond f a b)
    go true = refl
    go false = λ i.
        recording (front_kept h.bytes b.data_bytes a.data_bytes (omega (arith, k.bytes, k.like_bytes)) i)
        (front_kept h.numbers b.entry_numbers a.entry_numbers (omega (arith, k.numbers, k.like_numbers)) i)
        (front_kept h.texts b.text a.text (omega (arith, k.texts, k.like_texts)) i)

pub finishes : (g : Given) (b : Buffers) → run_fault g b ≡ 0 → (h : Held) (d e t d' e' t' l n ans x y z : List ℕ)
    → Ran g.pool g.pool_numbers g.calls (at_start g b) b.answers (state h (lent_of d e t) (lent_of d' e' t') l n) ans
    → lent_of x y z ≡ first_at_end (state h (lent_of d e t) (lent_of d' e' t') [] [])
    → RunsCalls g b (buffers (lent_of x y z) (lent_of d' e' t') l ans) (Std.Ok (record { «data» = h.bytes; entries = h.numbers; text = h.texts; number = h.made }))
finishes g b none h d e t d' e' t' l n ans x y z r back =
    let q : state h (lent_of d e t) (lent_of d' e' t') l n ≡ at_end g b = r.reached in (
      rw none (λ i. record { refusal = 0; data_bytes = (q i).held.bytes; entry_numbers = (q i).held.numbers; text = (q i).held.texts; number = (q i).held.made }),
      (
        rw none (λ i. buffers ((back ∙ ap first_at_end q) i) (q i).other (q i).lines ((r.answered ∙ ap (λ (s : State). over s.answers b.answers) q) i)),
        λ _. record {
          result = ap (front_of h.bytes h.numbers h.texts) back ∙ front_at_end h (lent_of d e t) (lent_of d' e' t') r.sound ∙ ap content q
              ∙ run-content (jobs g) (at_start g b) (accepted g b none).sound;
          commutes = demand3 (calls g b) (first_content g b);
        },
      ),
    )
