-- A list of layout calls on two sets of lent buffers: where the content stands, what each call leaves, what is answered, and the promise of `run_calls`.
use Rattle.recording.specs.Outcome.{Answer}
use Rattle.std.specs.Prelude.{ℕ, ◌+◌, ◌*◌, ◌/◌, ◌%◌, ◌≤◌, Bool, true, cond, ◌||◌, ◌&&◌, not, ◌≡◌, List, [], ◌∷◌, ◌++◌, ltb, eqb, length}
use Rattle.buffer.specs.Place.{over}
use Rattle.recording.specs.Recording.{Bytes, Recording}
use Rattle.recording.specs.Coloured.{balanced}
use Rattle.recording.specs.Refusals.{first_of, refuse_if}
use Rattle.recording.specs.Outcome.{Outcome, Lent, lent_after, room_in, Returned, returned, answer_of}
use Rattle.layout.specs.Layout.{Job, Call, outcome, run}
use Rattle.layout.specs.Lent.{lent_of, lent_lined, front_of, call_in, Leaves}
use Rattle.layout.specs.Theorem.{Proper, Demand3}
use Rattle.call_lists.specs.declared.Held.{Held}
use Rattle.requests.specs.Requests.{requests_of, jobs_in, calls_in, all_fit_in}

-- ── the state between two calls
-- where the content stands, what the two sets and the line list hold, and the numbers answered so far
pub record State : Type 0 where
  pub held : Held
  pub first : Lent
  pub other : Lent
  pub lines : List ℕ
  pub answers : List ℕ

abbrev pub state : Held → Lent → Lent → List ℕ → List ℕ → State
state h a b l n = record { held = h; first = a; other = b; lines = l; answers = n }

-- the content is within its set, and both sets have the same lengths
pub record Sound (h : Held) (a b : Lent) : Type 0 where
  pub bytes : h.bytes ≤ length a.data_bytes
  pub numbers : h.numbers ≤ length a.entry_numbers
  pub texts : h.texts ≤ length a.text
  pub like_bytes : length b.data_bytes ≡ length a.data_bytes
  pub like_numbers : length b.entry_numbers ≡ length a.entry_numbers
  pub like_texts : length b.text ≡ length a.text

-- the set that the content stands in
abbrev pub standing : State → Lent
standing s = cond s.held.first s.first s.other

-- and the content itself
abbrev pub content : State → Recording
content s = front_of s.held.bytes s.held.numbers s.held.texts (standing s)

-- three buffers with the line list, and without
abbrev pub with_lines : Lent → List ℕ → Lent
with_lines b l = lent_lined b.data_bytes b.entry_numbers b.text l

abbrev pub three : Lent → Lent
three b = with_lines b []

-- what a call is lent: the set that the content does not stand in, and the line list
abbrev pub target : State → Lent
target s = with_lines (cond s.held.first s.other s.first) s.lines

-- ── one call
-- what it comes to, in the room that it is lent
unfoldable pub outcome_in : Job → State → Outcome
outcome_in j s = outcome (call_in j (target s)) (content s)

-- where the content stands after it: a call that is not refused has left its result in the other set
unfoldable pub held_by : Returned → Held → Held
held_by n h = cond (eqb n.refusal 0) (record { first = not h.first; bytes = n.data_bytes; numbers = n.entry_numbers; texts = n.text; made = h.made + 1 }) h

-- its two numbers in the list of answers
abbrev pub two_of : Returned → List ℕ
two_of n = n.refusal ∷ n.number ∷ []

-- the state after a call that has left b of what it was lent and has returned n
unfoldable pub step_to : Lent → Returned → State → State
step_to b n s =
    record {
      held = held_by n s.held;
      first = cond s.held.first s.first (three b);
      other = cond s.held.first (three b) s.other;
      lines = b.lines;
      answers = s.answers ++ two_of n;
    }

-- and after the call j, by its outcome
unfoldable pub after_call : Job → State → State
after_call j s = step_to (lent_after (outcome_in j s) (target s)) (returned (outcome_in j s)) s

-- what the code of one call promises: its outcome in what it is lent, and the set that it reads as it was
abbrev pub Turn : Job → State → State → Answer → Type 0
Turn j s s' a = Leaves j (content s) (target s) (target s') a × (standing s' ≡ standing s)

-- ── all calls, each from the state that the one before has left
abbrev pub run_sets : List Job → State → State
run_sets [] s = s
run_sets (j ∷ js) s = run_sets js (after_call j s)

-- what the code of all calls promises: the state that they lead to, with the numbers answered over the front of the list of answers
pub record Ran (ps : Bytes) (ns cs : List ℕ) (s : State) (ans : List ℕ) (s' : State) (ans' : List ℕ) : Type 0 where
  pub reached : s' ≡ run_sets (jobs_in ps ns (requests_of (length cs / 8) cs)) s
  pub sound : Sound s'.held s'.first s'.other
  pub answered : ans' ≡ over s'.answers ans

-- then the result stands in the first set: from the other one it is copied
abbrev pub over_set : Recording → Lent → Lent
over_set r b = lent_of (over r.data_bytes b.data_bytes) (over r.entry_numbers b.entry_numbers) (over r.text b.text)

abbrev pub first_at_end : State → Lent
first_at_end s = cond s.held.first s.first (over_set (content s) s.first)

-- ── what `run_calls` is given and lent
pub record Given : Type 0 where
  pub calls : List ℕ
  pub pool : Bytes
  pub pool_numbers : List ℕ
  pub data_len : ℕ
  pub entries_len : ℕ
  pub text_len : ℕ

pub record Buffers : Type 0 where
  pub first : Lent
  pub other : Lent
  pub lines : List ℕ
  pub answers : List ℕ

abbrev pub given : List ℕ → Bytes → List ℕ → ℕ → ℕ → ℕ → Given
given cs ps ns d e t = record { calls = cs; pool = ps; pool_numbers = ns; data_len = d; entries_len = e; text_len = t }

abbrev pub buffers : Lent → Lent → List ℕ → List ℕ → Buffers
buffers a b l n = record { first = a; other = b; lines = l; answers = n }

-- how many calls
abbrev pub count : Given → ℕ
count g = length g.calls / 8

-- what the numbers ask for
abbrev pub jobs : Given → List Job
jobs g = jobs_in g.pool g.pool_numbers (requests_of (count g) g.calls)

-- the first content, at the front of the first set
abbrev pub first_content : Given → Buffers → Recording
first_content g b = front_of g.data_len g.entries_len g.text_len b.first

-- each call has the room of the first set and of the line list
abbrev pub calls : Given → Buffers → List Call
calls g b = calls_in (room_in (with_lines b.first b.lines)) (jobs g)

-- before the first call, and after the last one
abbrev pub at_start : Given → Buffers → State
at_start g b =
    record {
      held = record { first = true; bytes = g.data_len; numbers = g.entries_len; texts = g.text_len; made = 0 };
      first = b.first;
      other = b.other;
      lines = b.lines;
      answers = [];
    }

abbrev pub at_end : Given → Buffers → State
at_end g b = run_sets (jobs g) (at_start g b)

-- ── what it refuses, before any call
-- a used length above its buffer
abbrev pub too_long_in : ℕ → ℕ → ℕ → ℕ → ℕ → ℕ → Bool
too_long_in d e t od oe ot = ltb od d || (ltb oe e || ltb ot t)

-- sets with the same lengths
abbrev pub alike : ℕ → ℕ → ℕ → ℕ → ℕ → ℕ → Bool
alike d e t d' e' t' = eqb d d' && (eqb e e' && eqb t t')

-- THE ORDER: 10 a used length above its buffer, 61 sets that differ in a length, 62 numbers that are no calls, 63 a list of answers that is too short;
-- p and q are the lengths of the pools, n that of the list of answers
unfoldable pub input_fault : Bool → Bool → List ℕ → ℕ → ℕ → ℕ → ℕ
input_fault long same cs p q n =
    first_of (refuse_if long 10 ∷ refuse_if (not same) 61 ∷ refuse_if (not (eqb (length cs % 8) 0) || not (all_fit_in p q (requests_of (length cs / 8) cs))) 62
    ∷ refuse_if (ltb n (2 * (length cs / 8))) 63 ∷ [])

-- the same of what is given and lent
abbrev pub used_too_long : Given → Lent → Bool
used_too_long g b = too_long_in g.data_len g.entries_len g.text_len (length b.data_bytes) (length b.entry_numbers) (length b.text)

abbrev pub alike_sets : Lent → Lent → Bool
alike_sets a b = alike (length a.data_bytes) (length a.entry_numbers) (length a.text) (length b.data_bytes) (length b.entry_numbers) (length b.text)

unfoldable pub run_fault : Given → Buffers → ℕ
run_fault g b =
    input_fault (used_too_long g b.first) (alike_sets b.first b.other) g.calls (length g.pool) (length g.pool_numbers) (length b.answers)

-- ── THE PROMISE of `run_calls`
-- the numbers that come back: the result's lengths, and how many calls were not refused
abbrev pub returned_run : Given → Buffers → Returned
returned_run g b =
    let h = (at_end g b).held in
    cond (eqb (run_fault g b) 0) (record { refusal = 0; data_bytes = h.bytes; entry_numbers = h.numbers; text = h.texts; number = h.made })
    (record { refusal = run_fault g b; data_bytes = 0; entry_numbers = 0; text = 0; number = 0 })

-- what every lent place holds
abbrev pub left_run : Given → Buffers → Buffers
left_run g b =
    let s = at_end g b in
    cond (eqb (run_fault g b) 0) (record { first = first_at_end s; other = s.other; lines = s.lines; answers = over s.answers b.answers }) b

-- the result is `run` of the calls on the first content, and demand 3 holds of them, whole
pub record LaidOut (g : Given) (b b' : Buffers) (n : Returned) : Type 0 where
  pub result : front_of n.data_bytes n.entry_numbers n.text b'.first ≡ run (calls g b) (first_content g b)
  pub commutes : balanced (first_content g b) ≡ true → Proper (calls g b) (first_content g b) → Demand3 (calls g b) (first_content g b)

-- refused with nothing touched, or run
abbrev pub RunsCalls : Given → Buffers → Buffers → Answer → Type 0
RunsCalls g b b' a = (answer_of a ≡ returned_run g b) × ((b' ≡ left_run g b) × (run_fault g b ≡ 0 → LaidOut g b b' (answer_of a)))
