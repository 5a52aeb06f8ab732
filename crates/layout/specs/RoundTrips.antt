-- Indenting and taking the indent off again (document 02, Q-3): what the request asks to be shown, of what the calls leave, in any buffers. `proofs/RoundTripLaws.antt` shows it.
use Rattle.std.specs.Prelude as Std
use Rattle.std.specs.Prelude.{ℕ, true, false, ◌≡◌, List, [], ◌∷◌, ◌≢◌}
use Rattle.recording.specs.Recording.{Bytes, Recording}
use Rattle.recording.specs.Coloured.{coloured, balanced}
use Rattle.recording.specs.Outcome.{Room, no_room, Lent}
use Rattle.layout.specs.Wrap.{split_lines}
use Rattle.layout.specs.Unindent.{has_newline_in}
use Rattle.layout.specs.Layout.{Job, indent, unindent, result_of, Call, refusal, after}
use Rattle.layout.specs.Lent.{front_of, Leaves}

abbrev pub indent_call : Recording → Room → Call
indent_call p o = record { job = indent p; room = o }

abbrev pub unindent_call : Recording → Room → Call
unindent_call p o = record { job = unindent p; room = o }

-- no line is exactly the bytes p
abbrev pub NoLineIs : Bytes → List Bytes → Type 0
NoLineIs p [] = Unit {0}
NoLineIs p (l ∷ ls) = (l ≢ p) × NoLineIs p ls

-- THE LAWS of a content r and a prefix p, for calls in buffers of any lengths
pub record RoundTrips (r p : Recording) (o o' : Room) : Type 0 where
  -- indenting and then taking off, both recordings balanced and neither call refused, gives the coloured bytes back; a prefix with a 0A is refused
  pub there_and_back_lem : balanced r ≡ true → balanced p ≡ true → refusal (indent_call p o) r ≡ 0 → refusal (unindent_call p o') (after (indent_call p o) r) ≡ 0
      → coloured (after (unindent_call p o') (after (indent_call p o) r)) ≡ coloured r
  -- the other way round, neither call refused, gives the data bytes back, if no line is exactly the prefix
  pub back_and_there : refusal (unindent_call p o) r ≡ 0 → refusal (indent_call p o') (after (unindent_call p o) r) ≡ 0 → NoLineIs p.data_bytes (split_lines r.data_bytes)
      → (after (indent_call p o') (after (unindent_call p o) r)).data_bytes ≡ r.data_bytes
  -- after an indent by a prefix without 0A, taking off is refused neither 32 nor 33, and nothing but a buffer that is too short refuses it
  pub takes_off : has_newline_in p.data_bytes ≡ false → refusal (indent_call p o) r ≡ 0
      → (refusal (unindent_call p o') (after (indent_call p o) r) ≢ 32) × (refusal (unindent_call p o') (after (indent_call p o) r) ≢ 33)
  pub only_room : has_newline_in p.data_bytes ≡ false → refusal (indent_call p o) r ≡ 0
      → refusal (unindent_call p o') (after (indent_call p o) r) ≡ no_room o' (result_of (unindent p) (after (indent_call p o) r))

abbrev pub IndentRoundTrips : Type 0
IndentRoundTrips = (r p : Recording) (o o' : Room) → RoundTrips r p o o'

-- ── the same of running code: two calls that have kept their promises and were not refused, the second on what the first left at the front of its buffers
-- b and c are what the buffers of the first and of the second call held before, b' and c' after; the numbers are the lengths that they answered
pub record TwoCalls (first second : Job) (r : Recording) : Type 0 where
  pub b : Lent
  pub b' : Lent
  pub c : Lent
  pub c' : Lent
  pub d : ℕ
  pub e : ℕ
  pub t : ℕ
  pub d' : ℕ
  pub e' : ℕ
  pub t' : ℕ
  pub one : Leaves first r b b' (Std.Ok (record { «data» = d; entries = e; text = t; number = 0 }))
  pub two : Leaves second (front_of d e t b') c c' (Std.Ok (record { «data» = d'; entries = e'; text = t'; number = 0 }))

-- what the second call left
abbrev pub left_by_calls : {first second : Job} {r : Recording} → TwoCalls first second r → Recording
left_by_calls x = front_of x.d' x.e' x.t' x.c'

pub record RunningRoundTrips (r p : Recording) : Type 0 where
  pub there_and_back_lem : balanced r ≡ true → balanced p ≡ true → (x : TwoCalls (indent p) (unindent p) r) → coloured (left_by_calls x) ≡ coloured r
  pub back_and_there : NoLineIs p.data_bytes (split_lines r.data_bytes) → (x : TwoCalls (unindent p) (indent p) r) → (left_by_calls x).data_bytes ≡ r.data_bytes
