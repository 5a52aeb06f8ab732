-- Two tables of widths: a call that is lent only texts whose characters are as wide by both answers the same by both. So a change of the table changes no call that is lent no text with a character
-- of another width. `proofs/TablesLaws.antt` proves it, for any two tables, and that by its own table the library is what it says it is.
use Rattle.recording.specs.Outcome.{Answer}
use Rattle.std.specs.Prelude.{ℕ, Bool, cond, ◌&&◌, ◌≡◌, length}
use mathlib.Core.List.{List, [], ◌∷◌, ◌++◌, tail}
use Rattle.chars.specs.Width.{Range, ranges, width_in}
use Rattle.chars.specs.Chars.{Character, chars, text_width_of}
use Rattle.chars.specs.Cut.{truncate_end_pos_of, truncate_end_width, truncate_start_pos_of, truncate_start_width, zero_width_len_of}
use Rattle.buffer.specs.Place.{over}
use Rattle.recording.specs.Recording.{Bytes, Recording}
use Rattle.recording.specs.Outcome.{Room, Outcome, Lent, room_in, Promised, lent_lines}
use Rattle.layout.specs.Layout.{Job, with_second, alone, wrapped_lines, replaced_parts, tabs_expanded, Call, outcome, content_after}
use Rattle.layout.specs.Lent.{call_in, Leaves}
use Rattle.view.specs.View.{floor_outcome}
use Rattle.wrap_lines.specs.WrapBytes.{wrap_bytes_outcome}
use Rattle.cells.specs.Cells.{parts, cells_outcome}
use Rattle.elide.specs.Elide.{trimmed, lent, elide_end_outcome, elide_start_outcome}
use Rattle.sheet.specs.Sheet.{SheetLine, sheet_lines, data_of, data_field, good_line}
use Rattle.rows.specs.Rows.{output}
use Rattle.tally.specs.Tally.{lines_of, cells_of, tilde, tally_outcome}
use Rattle.width_tables.specs.ByTable as By
use Rattle.width_tables.specs.ByTable.{chars_by}

-- ── all that asks a width
pub record Answers : Type 0 where
  -- the ten layout calls
  pub layout : Call → Recording → Outcome
  -- the floor's reading of a recording: label, lengths of the lent buffers; the office's asks no width
  pub floor : Bytes → Room → Recording → Outcome
  -- `wrap_bytes`: width, breaking, data, length of the line list
  pub wrap_bytes_of : ℕ → Bool → Bytes → ℕ → Outcome
  -- a page of cells: width, part ends, ellipsis, data, lengths of the lent buffers
  pub cells : ℕ → List ℕ → Bytes → Bytes → Room → Outcome
  -- plain text: length of the lent buffer, text, ellipsis, width; `complete_newline` asks no width
  pub elide_end_of : ℕ → Bytes → Bytes → ℕ → Outcome
  pub elide_start_of : ℕ → Bytes → Bytes → ℕ → Outcome
  -- questions about one text: its width, the two cuts and what they keep, its leading zero-width characters and the text without them
  pub width : Bytes → ℕ
  pub end_pos : ℕ → Bytes → ℕ
  pub end_width : ℕ → Bytes → ℕ
  pub start_pos : ℕ → Bytes → ℕ
  pub start_width : ℕ → Bytes → ℕ
  pub zero_width : Bytes → ℕ
  pub trimmed : Bytes → Bytes
  -- the program `wraplist`: what it prints for a sheet
  pub wraplist : Bytes → Bytes

-- the library's, as its contracts have them
abbrev pub library : Answers
library = record {
  layout = outcome;
  floor = floor_outcome;
  wrap_bytes_of = wrap_bytes_outcome;
  cells = cells_outcome;
  elide_end_of = elide_end_outcome;
  elide_start_of = elide_start_outcome;
  width = text_width_of;
  end_pos = truncate_end_pos_of;
  end_width = truncate_end_width;
  start_pos = truncate_start_pos_of;
  start_width = truncate_start_width;
  zero_width = zero_width_len_of;
  trimmed = trimmed;
  wraplist = output;
}

-- by any table
abbrev pub by_table : List Range → Answers
by_table t = record {
  layout = By.outcome (chars_by t);
  floor = By.floor_outcome (chars_by t);
  wrap_bytes_of = By.wrap_bytes_outcome (chars_by t);
  cells = By.cells_outcome (chars_by t);
  elide_end_of = By.elide_end_outcome (chars_by t);
  elide_start_of = By.elide_start_outcome (chars_by t);
  width = By.text_width_of (chars_by t);
  end_pos = By.truncate_end_pos_of (chars_by t);
  end_width = By.truncate_end_width (chars_by t);
  start_pos = By.truncate_start_pos_of (chars_by t);
  start_width = By.truncate_start_width (chars_by t);
  zero_width = By.zero_width_len_of (chars_by t);
  trimmed = By.trimmed (chars_by t);
  wraplist = By.output (chars_by t);
}

-- ── the texts that a call is lent; no width is asked of labels and raw sequences, so nothing is asked of them
abbrev pub lent_to : Job → Recording → List Bytes
lent_to (with_second k m q) r = r.data_bytes ∷ q.data_bytes ∷ []
lent_to (alone (wrapped_lines w b)) r = r.data_bytes ∷ []
lent_to (alone (replaced_parts xs t)) r = r.data_bytes ∷ t ∷ []
lent_to (alone (tabs_expanded s)) r = r.data_bytes ∷ []

-- of `wraplist`: the bytes that the good value lines of a sheet stand for; the sheet has them in hexadecimal
abbrev pub value_text : SheetLine → Bytes
value_text l = cond (l.ended && good_line l.text) (data_of (data_field l.text)) []

abbrev pub value_texts : List SheetLine → List Bytes
value_texts [] = []
value_texts (l ∷ ls) = value_text l ∷ value_texts ls

-- ── the same answers, wherever the texts lent are Ok
pub record SameOn (Ok : List Bytes → Type 0) (a b : Answers) : Type 0 where
  pub layout : (c : Call) (r : Recording) → Ok (lent_to c.job r) → a.layout c r ≡ b.layout c r
  pub floor : (l : Bytes) (o : Room) (r : Recording) → Ok (r.data_bytes ∷ []) → a.floor l o r ≡ b.floor l o r
  pub wrap_bytes_of : (w : ℕ) (t : Bool) (d : Bytes) (room : ℕ) → Ok (d ∷ []) → a.wrap_bytes_of w t d room ≡ b.wrap_bytes_of w t d room
  -- each cell is a text by itself
  pub cells : (m : ℕ) (ends : List ℕ) (e d : Bytes) (o : Room) → Ok (e ∷ parts ends d) → a.cells m ends e d o ≡ b.cells m ends e d o
  pub elide_end_of : (room : ℕ) (s e : Bytes) (m : ℕ) → Ok (s ∷ e ∷ []) → a.elide_end_of room s e m ≡ b.elide_end_of room s e m
  pub elide_start_of : (room : ℕ) (s e : Bytes) (m : ℕ) → Ok (s ∷ e ∷ []) → a.elide_start_of room s e m ≡ b.elide_start_of room s e m
  pub width : (d : Bytes) → Ok (d ∷ []) → a.width d ≡ b.width d
  pub end_pos : (m : ℕ) (d : Bytes) → Ok (d ∷ []) → a.end_pos m d ≡ b.end_pos m d
  pub end_width : (m : ℕ) (d : Bytes) → Ok (d ∷ []) → a.end_width m d ≡ b.end_width m d
  pub start_pos : (m : ℕ) (d : Bytes) → Ok (d ∷ []) → a.start_pos m d ≡ b.start_pos m d
  pub start_width : (m : ℕ) (d : Bytes) → Ok (d ∷ []) → a.start_width m d ≡ b.start_width m d
  pub zero_width : (d : Bytes) → Ok (d ∷ []) → a.zero_width d ≡ b.zero_width d
  pub trimmed : (d : Bytes) → Ok (d ∷ []) → a.trimmed d ≡ b.trimmed d
  pub wraplist : (s : Bytes) → Ok (value_texts (tail (sheet_lines s))) → a.wraplist s ≡ b.wraplist s

-- every character of each text has a code point that is Ok
abbrev pub EachIs : (ℕ → Type 0) → List Character → Type 0
EachIs Ok [] = Unit {0}
EachIs Ok (c ∷ cs) = Ok c.code × EachIs Ok cs

abbrev pub TextsOf : (ℕ → Type 0) → List Bytes → Type 0
TextsOf Ok [] = Unit {0}
TextsOf Ok (d ∷ ds) = EachIs Ok (chars d) × TextsOf Ok ds

-- a code point is as wide by both tables
abbrev pub AsWide : List Range → List Range → ℕ → Type 0
AsWide t u c = width_in t c ≡ width_in u c

-- THE THEOREM, over any two tables
abbrev pub TablesAlike : Type 0
TablesAlike = (t u : List Range) → SameOn (TextsOf (AsWide t u)) (by_table t) (by_table u)

-- by its own table the library answers so, whatever it is lent
abbrev pub Published : Type 0
Published = SameOn (λ ts. Unit {0}) library (by_table ranges)

-- so the library answers as it would by another table, wherever the texts lent have only code points that are as wide by both
abbrev pub Unchanged : Type 1
Unchanged = (t : List Range) (Ok : ℕ → Type 0) → ((c : ℕ) → Ok c → AsWide ranges t c) → SameOn (TextsOf Ok) library (by_table t)

-- ── of what running code leaves: where a call has kept its contract, the answer and each lent place are those that b has for it
pub record AnsweredBy (b : Answers) (Ok : List Bytes → Type 0) : Type 0 where
  -- a layout call: the job j on the content r in the buffers `old`, which are then `new`, with the answer x
  pub layout : (j : Job) (r : Recording) (old new : Lent) (x : Answer) → Ok (lent_to j r) → Leaves j r old new x → Promised (b.layout (call_in j old) r) old new x
  pub floor : (l : Bytes) (r : Recording) (old new : Lent) (x : Answer) → Ok (r.data_bytes ∷ []) → Promised (floor_outcome l (room_in old) r) old new x
      → Promised (b.floor l (room_in old) r) old new x
  pub wrap_bytes_of : (w : ℕ) (t : Bool) (d old new : List ℕ) (x : Answer) → Ok (d ∷ []) → Promised (wrap_bytes_outcome w t d (length old)) (lent_lines old) (lent_lines new) x
      → Promised (b.wrap_bytes_of w t d (length old)) (lent_lines old) (lent_lines new) x
  pub cells : (m : ℕ) (ends : List ℕ) (e d : Bytes) (old new : Lent) (x : Answer) → Ok (e ∷ parts ends d) → Promised (cells_outcome m ends e d (room_in old)) old new x
      → Promised (b.cells m ends e d (room_in old)) old new x
  pub elide_end_of : (s e old new : Bytes) (m : ℕ) (x : Answer) → Ok (s ∷ e ∷ []) → Promised (elide_end_outcome (length old) s e m) (lent old) (lent new) x
      → Promised (b.elide_end_of (length old) s e m) (lent old) (lent new) x
  pub elide_start_of : (s e old new : Bytes) (m : ℕ) (x : Answer) → Ok (s ∷ e ∷ []) → Promised (elide_start_outcome (length old) s e m) (lent old) (lent new) x
      → Promised (b.elide_start_of (length old) s e m) (lent old) (lent new) x
  -- the program's output: n bytes of the buffer that it is printed from
  pub wraplist : (s old new : Bytes) (n : ℕ) → Ok (value_texts (tail (sheet_lines s))) → (n ≡ length (output s)) × (new ≡ over (output s) old)
      → (n ≡ length (b.wraplist s)) × (new ≡ over (b.wraplist s) old)

-- ── lists of calls: a content is the result of the last call not refused
abbrev pub run_by : Answers → List Call → Recording → Recording
run_by a [] r = r
run_by a (c ∷ cs) r = run_by a cs (content_after (a.layout c r) r)

abbrev pub outcomes_by : Answers → List Call → Recording → List Outcome
outcomes_by a [] r = []
outcomes_by a (c ∷ cs) r = a.layout c r ∷ outcomes_by a cs (content_after (a.layout c r) r)

-- each call finds texts that are Ok: the texts lent at the start do not say so, since parts of two texts can join into another character
abbrev pub EachFinds : (List Bytes → Type 0) → Answers → List Call → Recording → Type 0
EachFinds Ok a [] r = Unit {0}
EachFinds Ok a (c ∷ cs) r = Ok (lent_to c.job r) × EachFinds Ok a cs (content_after (a.layout c r) r)

-- then each call has the same outcome, and what the list leaves is the same
abbrev pub ListsAlike : (List Bytes → Type 0) → Answers → Answers → Type 0
ListsAlike Ok a b = (cs : List Call) (r : Recording) → EachFinds Ok a cs r → (outcomes_by a cs r ≡ outcomes_by b cs r) × (run_by a cs r ≡ run_by b cs r)

-- ── the tally sheet, beside the calls above
-- its texts: the cells of all lines, each a text by itself, and the `~` that they are cut with; no width is asked of the space that they are padded with
abbrev pub all_cells : List Bytes → List Bytes
all_cells [] = []
all_cells (l ∷ ls) = cells_of l ++ all_cells ls

abbrev pub tally_texts : Bytes → List Bytes
tally_texts s = tilde ∷ all_cells (lines_of s)

-- the same answers, wherever the texts lent are Ok: the columns' numbers, input, lengths of the lent buffers
abbrev pub TallySameOn : (List Bytes → Type 0) → (List ℕ → Bytes → Room → Outcome) → (List ℕ → Bytes → Room → Outcome) → Type 0
TallySameOn Ok a b = (ns : List ℕ) (s : Bytes) (o : Room) → Ok (tally_texts s) → a ns s o ≡ b ns s o

-- THE THEOREM of it, over any two tables; by its own table the library answers so; so it does as by another table
abbrev pub TallyAlike : Type 0
TallyAlike = (t u : List Range) → TallySameOn (TextsOf (AsWide t u)) (By.tally_outcome (chars_by t)) (By.tally_outcome (chars_by u))

abbrev pub TallyPublished : Type 0
TallyPublished = TallySameOn (λ ts. Unit {0}) tally_outcome (By.tally_outcome (chars_by ranges))

abbrev pub TallyUnchanged : Type 1
TallyUnchanged = (t : List Range) (Ok : ℕ → Type 0) → ((c : ℕ) → Ok c → AsWide ranges t c) → TallySameOn (TextsOf Ok) tally_outcome (By.tally_outcome (chars_by t))

-- of what running code leaves
abbrev pub TallyAnsweredBy : (List ℕ → Bytes → Room → Outcome) → (List Bytes → Type 0) → Type 0
TallyAnsweredBy b Ok = (ns : List ℕ) (s : Bytes) (old new : Lent) (x : Answer) → Ok (tally_texts s) → Promised (tally_outcome ns s (room_in old)) old new x → Promised (b ns s (room_in old)) old new x
