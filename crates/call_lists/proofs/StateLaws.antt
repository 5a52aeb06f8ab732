-- One call, and all calls, on the two sets: the content after a call is `after`, so that of all calls is `run`; sets keep their lengths, so that each call has the same room.
-- The idea: a call that is not refused fits its room, and the front of what it has written, up to the lengths that it returns, is its result.
use Rattle.recording.specs.Outcome.{Answer}
use Rattle.std.specs.Prelude as Std
use Prim.Native.Nat.{ℕ, ◌≤◌}
use native.Mathlib.Omega.{arith}
use mathlib.Core.Bool.{Bool, true, false, cond}
use mathlib.Core.Path.{◌≡◌, refl, sym, ap, subst, ◌∙◌}
use mathlib.Core.List.{List, [], ◌∷◌, ◌++◌}
use mathlib.Core.Logic.{◌≢◌}
use lib.Dec.{eqb}
use lib.ListN.{length}
use borrow.Author.Tests.{eqb-true, eqb-false, ne_eqb, ltb-false}
use Rattle.buffer.proofs.Laws.{take_over, length_over}
use Rattle.recording.specs.declared.Refusal.{Refusal}
use Rattle.recording.specs.Recording.{Recording, recording}
use Rattle.recording.specs.Outcome.{Room, Result, Faults, Outcome, refused, done, refusal_of, settle, Lent, lent_after, room_in, Returned, returned, answer_of}
use Rattle.recording.proofs.OutcomeLaws.{number_pos}
use Rattle.recording.proofs.FaultLaws.{Roomy, roomy, granted}
use Rattle.layout.specs.Layout.{Job, Call, content_after, faults_of, result_of, outcome, after, run}
use Rattle.layout.specs.Lent.{Leaves, front_of}
use Rattle.call_lists.specs.declared.Held.{Held}
use Rattle.requests.specs.Requests.{calls_in}
use Rattle.call_lists.specs.Runs.{State, state, Sound, content, with_lines, three, target, outcome_in, held_by, two_of, step_to, after_call, Turn, run_sets}

-- ── an outcome that is refused has a number; one that is done has a result within its room
record Holds (q : Recording) (l : List ℕ) (o : Room) : Type 0 where
  data_bytes : length q.data_bytes ≤ o.data_bytes
  entry_numbers : length q.entry_numbers ≤ o.entry_numbers
  text : length q.text ≤ o.text
  lines : length l ≤ o.lines

abbrev Settles : Outcome → Room → Type 0
Settles (refused n) o = n ≢ 0
Settles (done x) o = Holds x.recording x.lines o

holds : (o : Room) (x : Result) → Roomy o x → Holds x.recording x.lines o
holds o x r =
    record {
      data_bytes = ltb-false o.data_bytes (length x.recording.data_bytes) r.data_bytes;
      entry_numbers = ltb-false o.entry_numbers (length x.recording.entry_numbers) r.entry_numbers;
      text = ltb-false o.text (length x.recording.text) r.text;
      lines = ltb-false o.lines (length x.lines) r.lines;
    }

settles : (f : Faults) (o : Room) (x : Result) → Settles (settle f o x) o
unfolding settle
settles f o x = go (eqb (refusal_of f o x) 0) refl
  where
    go : (t : Bool) → eqb (refusal_of f o x) 0 ≡ t → Settles (cond t (done x) (refused (refusal_of f o x))) o
    go true q = holds o x (roomy o x (granted f o x (eqb-true (refusal_of f o x) 0 q)).room)
    go false q = eqb-false (refusal_of f o x) 0 q

outcome_settles : (j : Job) (s : State) → Settles (outcome_in j s) (room_in (target s))
unfolding outcome_in outcome
outcome_settles j s = settles (faults_of j (content s)) (room_in (target s)) (result_of j (content s))

-- ── one call: x is its outcome
-- the room that the first set and the line list have
abbrev pub room_of_state : State → Room
room_of_state s = room_in (with_lines s.first s.lines)

-- after a call whose outcome is x
abbrev settled : Outcome → State → State
settled x s = step_to (lent_after x (target s)) (returned x) s

abbrev held : Bool → ℕ → ℕ → ℕ → ℕ → Held
held f d e t m = record { first = f; bytes = d; numbers = e; texts = t; made = m }

-- the content stays where it is if the call is refused
held_kept : (n : Returned) (h : Held) → n.refusal ≢ 0 → held_by n h ≡ h
unfolding held_by
held_kept n h z = rw (ne_eqb n.refusal 0 z)

pub held_refused : (f : Refusal) (h : Held) → h ≡ held_by (answer_of (Std.Err f)) h
held_refused f h = sym (held_kept (answer_of (Std.Err f)) h (λ e. omega (arith, number_pos f, e)))

-- the line list is no part of a set
unlisted_other : (h : Held) (a b : Lent) → Sound h a b → Sound h a (three b)
unlisted_other h a b k =
    record { bytes = k.bytes; numbers = k.numbers; texts = k.texts; like_bytes = k.like_bytes; like_numbers = k.like_numbers; like_texts = k.like_texts }

unlisted_first : (h : Held) (a b : Lent) → Sound h a b → Sound h (three a) b
unlisted_first h a b k =
    record { bytes = k.bytes; numbers = k.numbers; texts = k.texts; like_bytes = k.like_bytes; like_numbers = k.like_numbers; like_texts = k.like_texts }

record Kept (x : Outcome) (s : State) : Type 0 where
  content_is : content (settled x s) ≡ content_after x (content s)
  sound : Sound (settled x s).held (settled x s).first (settled x s).other
  room : room_of_state (settled x s) ≡ room_of_state s

module _ (d e t m : ℕ) (a b : Lent) (l n : List ℕ) where
  kept : (f : Bool) (x : Outcome) → Sound (held f d e t m) a b → Settles x (room_in (target (state (held f d e t m) a b l n))) → Kept x (state (held f d e t m) a b l n)
  unfolding step_to held_by lent_after returned
  kept true (refused z) k g =
      let e' = held_kept (returned (refused z)) (held true d e t m) g in
      record {
        content_is = ap (λ (v : Held). content (state v a (three b) l n)) e';
        sound = subst (λ (v : Held). Sound v a (three b)) (sym e') (unlisted_other (held true d e t m) a b k);
        room = refl;
      }
  kept false (refused z) k g =
      let e' = held_kept (returned (refused z)) (held false d e t m) g in
      record {
        content_is = ap (λ (v : Held). content (state v (three a) b l n)) e';
        sound = subst (λ (v : Held). Sound v (three a) b) (sym e') (unlisted_first (held false d e t m) a b k);
        room = refl;
      }
  kept true (done x) k g =
      let ld = length_over x.recording.data_bytes b.data_bytes g.data_bytes in
      let le = length_over x.recording.entry_numbers b.entry_numbers g.entry_numbers in
      let lt = length_over x.recording.text b.text g.text in
      let ll = length_over x.lines l g.lines in
      record {
        content_is = λ i. recording (take_over x.recording.data_bytes b.data_bytes i) (take_over x.recording.entry_numbers b.entry_numbers i) (take_over x.recording.text b.text i);
        sound = record {
          bytes = omega (arith, g.data_bytes, k.like_bytes);
          numbers = omega (arith, g.entry_numbers, k.like_numbers);
          texts = omega (arith, g.text, k.like_texts);
          like_bytes = ld ∙ k.like_bytes;
          like_numbers = le ∙ k.like_numbers;
          like_texts = lt ∙ k.like_texts;
        };
        room = λ i. record { data_bytes = length a.data_bytes; entry_numbers = length a.entry_numbers; text = length a.text; lines = ll i };
      }
  kept false (done x) k g =
      let ld = length_over x.recording.data_bytes a.data_bytes g.data_bytes in
      let le = length_over x.recording.entry_numbers a.entry_numbers g.entry_numbers in
      let lt = length_over x.recording.text a.text g.text in
      let ll = length_over x.lines l g.lines in
      record {
        content_is = λ i. recording (take_over x.recording.data_bytes a.data_bytes i) (take_over x.recording.entry_numbers a.entry_numbers i) (take_over x.recording.text a.text i);
        sound = record {
          bytes = omega (arith, g.data_bytes, ld);
          numbers = omega (arith, g.entry_numbers, le);
          texts = omega (arith, g.text, lt);
          like_bytes = k.like_bytes ∙ sym ld;
          like_numbers = k.like_numbers ∙ sym le;
          like_texts = k.like_texts ∙ sym lt;
        };
        room = λ i. record { data_bytes = ld i; entry_numbers = le i; text = lt i; lines = ll i };
      }

abbrev pub SoundIn : State → Type 0
SoundIn s = Sound s.held s.first s.other

kept_call : (j : Job) (s : State) → SoundIn s → Kept (outcome_in j s) s
kept_call j s k =
    let h = s.held in
    kept h.bytes h.numbers h.texts h.made s.first s.other s.lines s.answers h.first (outcome_in j s) k (outcome_settles j s)

pub sound_after : (j : Job) (s : State) → SoundIn s → SoundIn (after_call j s)
unfolding after_call
sound_after j s k = (kept_call j s k).sound

room_after : (j : Job) (s : State) → SoundIn s → room_of_state (after_call j s) ≡ room_of_state s
unfolding after_call
room_after j s k = (kept_call j s k).room

-- both sets have the same room
target_room : (s : State) → SoundIn s → room_in (target s) ≡ room_of_state s
target_room s k = go s.held.first
  where
    go : (f : Bool) → room_in (with_lines (cond f s.other s.first) s.lines) ≡ room_of_state s
    go true = λ i. record { data_bytes = k.like_bytes i; entry_numbers = k.like_numbers i; text = k.like_texts i; lines = length s.lines }
    go false = refl

abbrev call : Job → Room → Call
call j o = record { job = j; room = o }

content_after_lem : (j : Job) (s : State) → SoundIn s → content (after_call j s) ≡ after (call j (room_of_state s)) (content s)
unfolding after_call outcome_in after
content_after_lem j s k = (kept_call j s k).content_is ∙ ap (λ (o : Room). after (call j o) (content s)) (target_room s k)

-- ── all calls
pub run-content : (js : List Job) (s : State) → SoundIn s → content (run_sets js s) ≡ run (calls_in (room_of_state s) js) (content s)
run-content [] s k = refl
run-content (j ∷ js) s k =
    run-content js (after_call j s) (sound_after j s k) ∙ ap (λ (o : Room). run (calls_in o js) (content (after_call j s))) (room_after j s k)
    ∙ ap (λ (q : Recording). run (calls_in (room_of_state s) js) q) (content_after_lem j s k)

-- the same content in the first set or in the other one
abbrev placed : Held → Bool → Held
placed h f = held f h.bytes h.numbers h.texts h.made

-- ── from what the code of one call promises to the state after it
pub turned : (j : Job) (h : Held) (a b a' b' : Lent) (l l' n : List ℕ) (x : Answer) → Turn j (state h (three a) (three b) l []) (state h (three a') (three b') l' []) x
    → state (held_by (answer_of x) h) (three a') (three b') l' (n ++ two_of (answer_of x)) ≡ after_call j (state h (three a) (three b) l n)
unfolding after_call step_to outcome_in
turned j h a b a' b' l l' n x t = go h.first t
  where
    go : (f : Bool) → Turn j (state (placed h f) (three a) (three b) l []) (state (placed h f) (three a') (three b') l' []) x
        → state (held_by (answer_of x) (placed h f)) (three a') (three b') l' (n ++ two_of (answer_of x)) ≡ after_call j (state (placed h f) (three a) (three b) l n)
    go true u = λ i. state (held_by (u.0.0 i) (placed h true)) (u.1 i) (three (u.0.1 i)) (u.0.1 i).lines (n ++ two_of (u.0.0 i))
    go false u = λ i. state (held_by (u.0.0 i) (placed h false)) (three (u.0.1 i)) (u.1 i) (u.0.1 i).lines (n ++ two_of (u.0.0 i))

-- ── what a call in code gives, by the set that the content stands in: a call has written b' and l' over b and l
module _ (j : Job) (h : Held) (a b b' : Lent) (l l' : List ℕ) (x : Answer) where
  TurnIn : Bool → Lent → Lent → Lent → Lent → Type 0
  TurnIn f first other first' other' =
      Leaves j (front_of h.bytes h.numbers h.texts (cond f first other)) (with_lines (cond f other first) l) (with_lines (cond f other' first') l') x
      × (cond f first' other' ≡ cond f first other)

  pub to_other : h.first ≡ true → Leaves j (front_of h.bytes h.numbers h.texts a) (with_lines b l) (with_lines b' l') x → Turn j (state h a b l []) (state h a b' l' []) x
  unfolding TurnIn
  to_other e p = subst (λ (f : Bool). TurnIn f a b a b') (sym e) (p, refl)

  pub to_first : h.first ≡ false → Leaves j (front_of h.bytes h.numbers h.texts a) (with_lines b l) (with_lines b' l') x → Turn j (state h b a l []) (state h b' a l' []) x
  unfolding TurnIn
  to_first e p = subst (λ (f : Bool). TurnIn f b a b' a) (sym e) (p, refl)
