-- What a call leaves and returns: the order of all refusals, demand 1's buffers, and the numbers that come back.
use Rattle.std.specs.Prelude.{ℕ, cond, ◌||◌, List, [], ◌∷◌, ◌≡◌, ltb, eqb, length, take}
use Rattle.std.specs.Prelude.{Ok, Err}
use Rattle.std.specs.Prelude as Std
use Rattle.buffer.specs.Place.{over}
use Rattle.recording.specs.declared.Done.{Done}
use Rattle.recording.specs.declared.Found.{Found}
use Rattle.recording.specs.declared.Refusal.{Refusal}
use Rattle.recording.specs.Recording.{Bytes, Recording}
use Rattle.recording.specs.Refusals.{number_of_refusal, data_limit, entry_limit, text_limit, first_of, refuse_if, recording_fault}

-- the lengths of the lent buffers, in numbers: data bytes, entry numbers, text bytes, line numbers
pub record Room : Type 0 where
  pub data_bytes : ℕ
  pub entry_numbers : ℕ
  pub text : ℕ
  pub lines : ℕ

-- what a call leaves and returns unless it is refused: a recording, the numbers of a line list, and a width or a count
pub record Result : Type 0 where
  pub recording : Recording
  pub lines : List ℕ
  pub number : ℕ

-- the refusals that come from a call's input, each 0 or the number that it gives
pub record Faults : Type 0 where
  -- 10: a length above its buffer
  pub lengths : ℕ
  -- 1 to 6: the content, then the second recording
  pub content : ℕ
  pub second : ℕ
  -- 6 or 3: a pushed label, an appended raw sequence
  pub added : ℕ
  -- 7: plain text or its ellipsis
  pub plain : ℕ
  -- the refusals of one call alone, in that call's order: 8 of the replacement records, and document 02's from 31 on
  pub own : ℕ

-- the faults of a call that reads one recording: of that recording, then its own
abbrev pub content_faults : Recording → ℕ → Faults
content_faults r own = record { lengths = 0; content = recording_fault r; second = 0; added = 0; plain = 0; own = own }

-- 9: a result over a limit of the recording
unfoldable pub over_limit : Recording → ℕ
over_limit q = refuse_if (ltb data_limit (length q.data_bytes) || ltb entry_limit (length q.entry_numbers) || ltb text_limit (length q.text)) 9

-- 21 to 24: a buffer too short for the result
unfoldable pub no_room : Room → Result → ℕ
no_room o x =
    first_of (refuse_if (ltb o.data_bytes (length x.recording.data_bytes)) 21 ∷ refuse_if (ltb o.entry_numbers (length x.recording.entry_numbers)) 22
    ∷ refuse_if (ltb o.text (length x.recording.text)) 23 ∷ refuse_if (ltb o.lines (length x.lines)) 24 ∷ [])

-- THE ORDER of refusals, of every call; 0: the call is not refused
unfoldable pub refusal_of : Faults → Room → Result → ℕ
refusal_of f o x = first_of (f.lengths ∷ f.content ∷ f.second ∷ f.added ∷ f.plain ∷ f.own ∷ over_limit x.recording ∷ no_room o x ∷ [])

pub data Outcome : Type 0 where
  refused : ℕ → Outcome
  done : Result → Outcome

unfoldable pub settle : Faults → Room → Result → Outcome
settle f o x = cond (eqb (refusal_of f o x) 0) (done x) (refused (refusal_of f o x))

-- ── demand 1: what the lent buffers hold after a call
pub record Lent : Type 0 where
  pub data_bytes : Bytes
  pub entry_numbers : List ℕ
  pub text : Bytes
  pub lines : List ℕ

-- the finished result from the first place on with all beyond untouched; after a refusal what they held
unfoldable pub lent_after : Outcome → Lent → Lent
lent_after (refused n) b = b
lent_after (done x) b =
    record {
      data_bytes = over x.recording.data_bytes b.data_bytes;
      entry_numbers = over x.recording.entry_numbers b.entry_numbers;
      text = over x.recording.text b.text;
      lines = over x.lines b.lines;
    }

-- the lengths of lent buffers
abbrev pub room_in : Lent → Room
room_in b = record { data_bytes = length b.data_bytes; entry_numbers = length b.entry_numbers; text = length b.text; lines = length b.lines }

-- ── what a call returns: a refusal's number with all lengths, counts and widths 0; or 0 and these
pub record Returned : Type 0 where
  pub refusal : ℕ
  pub data_bytes : ℕ
  pub entry_numbers : ℕ
  pub text : ℕ
  pub number : ℕ

unfoldable pub returned : Outcome → Returned
returned (refused n) = record { refusal = n; data_bytes = 0; entry_numbers = 0; text = 0; number = 0 }
returned (done x) =
    record { refusal = 0; data_bytes = length x.recording.data_bytes; entry_numbers = length x.recording.entry_numbers; text = length x.recording.text; number = x.number }

-- what the lent buffers hold after a call, up to the lengths returned, read as a recording
abbrev pub read_back_of : Outcome → Lent → Recording
read_back_of x b =
    record {
      data_bytes = take (returned x).data_bytes (lent_after x b).data_bytes;
      entry_numbers = take (returned x).entry_numbers (lent_after x b).entry_numbers;
      text = take (returned x).text (lent_after x b).text;
    }

-- what a call answers: its refusal, or the lengths that it left and its number
abbrev pub Answer : Type 0
Answer = Std.Result Done Refusal

-- document 01's number and values for each case of the answer
abbrev pub answer_of : Answer → Returned
answer_of (Err f) = record { refusal = number_of_refusal f; data_bytes = 0; entry_numbers = 0; text = 0; number = 0 }
answer_of (Ok d) = record { refusal = 0; data_bytes = d.data; entry_numbers = d.entries; text = d.text; number = d.number }

-- ── THE PROMISE of every call, by its outcome: the answer has the outcome's numbers, and `after` is what the lent buffers held `before` with the outcome's result over it
abbrev pub Promised : Outcome → Lent → Lent → Answer → Type 0
Promised x before after a = (answer_of a ≡ returned x) × (after ≡ lent_after x before)

-- ── a call that is lent a list of numbers alone
-- it leaves no recording
abbrev pub no_recording : Recording
no_recording = record { data_bytes = []; entry_numbers = []; text = [] }

-- a list of n numbers
abbrev pub line_room : ℕ → Room
line_room n = record { data_bytes = 0; entry_numbers = 0; text = 0; lines = n }

abbrev pub lent_lines : List ℕ → Lent
lent_lines ls = record { data_bytes = []; entry_numbers = []; text = []; lines = ls }

-- ── a question: nothing is lent to be written, nothing is left, and two numbers come back
abbrev pub nothing_left_of : Result
nothing_left_of = record { recording = no_recording; lines = []; number = 0 }

-- a refusal's number with both numbers 0; or 0 and the two
pub record Replied : Type 0 where
  pub refusal : ℕ
  pub first : ℕ
  pub second : ℕ

-- what an outcome makes of the two numbers a and b
unfoldable pub replied : Outcome → ℕ → ℕ → Replied
replied (refused n) a b = record { refusal = n; first = 0; second = 0 }
replied (done x) a b = record { refusal = 0; first = a; second = b }

-- what a question answers: its refusal, or the two numbers
abbrev pub Reply : Type 0
Reply = Std.Result Found Refusal

-- the documents' number and values for each case of the reply
abbrev pub reply_of : Reply → Replied
reply_of (Err f) = record { refusal = number_of_refusal f; first = 0; second = 0 }
reply_of (Ok r) = record { refusal = 0; first = r.first; second = r.second }
