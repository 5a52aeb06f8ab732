-- The layout calls (document 01, modules 2 to 5; document 02): what each leaves, returns and refuses.
use Rattle.std.specs.Prelude.{ℕ, zero, suc, ◌+◌, ◌-◌, ◌/◌, Bool, true, cond, ◌&&◌, ◌||◌, not, List, [], ◌∷◌, ◌++◌, ltb, eqb, length, drop}
use Rattle.chars.specs.Chars.{chars, text_width_of}
use Rattle.chars.specs.Cut.{truncate_end_pos_of, truncate_end_width, truncate_start_pos_of, truncate_start_width, zero_width_len_of}
use Rattle.buffer.specs.Place.{part}
use Rattle.recording.specs.Recording.{Bytes, Recording, Item, byte, push, pop, raw, byte_items, items, encode}
use Rattle.recording.specs.Edit.{Op, keep, skip, put, edit}
use Rattle.recording.specs.Refusals.{refuse_if, recording_fault}
use Rattle.recording.specs.Outcome.{Room, Result, Faults, refusal_of, Outcome, refused, done, settle}
use Rattle.layout.specs.declared.Replacement.{Replacement}
use Rattle.layout.specs.Tabs.{tab_ops}
use Rattle.layout.specs.Unindent.{unindent_ops, prefix_fault}
use Rattle.layout.specs.Wrap.{Line, line_numbers, split_lines, wrap_lines_of}

-- ── module 2: cutting
-- where what is kept of an ending starts once its leading zero-width characters are removed
unfoldable pub trimmed_start_pos : ℕ → Bytes → ℕ
trimmed_start_pos m d = let k = truncate_start_pos_of m d in k + zero_width_len_of (drop k d)

-- the bytes before k stay, or those from k on; every entry stays
abbrev pub cut_end_of : ℕ → Bytes → List Op
cut_end_of k d = keep k ∷ skip (length d - k) ∷ []

abbrev pub cut_start_of : ℕ → List Op
cut_start_of k = skip k ∷ []

-- ── module 3: padding; each piece of the fill is written n times before the next
abbrev pub copies : ℕ → Bytes → List Item
copies zero d = []
copies (suc n) d = byte_items d ++ copies n d

-- `piece` has the bytes since the last entry
abbrev pub repeat_pieces : ℕ → Bytes → List Item → List Item
repeat_pieces n piece [] = copies n piece
repeat_pieces n piece (byte b ∷ is) = repeat_pieces n (piece ++ (b ∷ [])) is
repeat_pieces n piece (push l ∷ is) = copies n piece ++ push l ∷ repeat_pieces n [] is
repeat_pieces n piece (pop ∷ is) = copies n piece ++ pop ∷ repeat_pieces n [] is
repeat_pieces n piece (raw t ∷ is) = copies n piece ++ raw t ∷ repeat_pieces n [] is

-- at count 0 the fill's entries are not written
abbrev pub padding : ℕ → List Item → List Item
padding zero f = []
padding (suc n) f = repeat_pieces (suc n) [] f

-- fill count = min width less content width, not below 0
unfoldable pub fill_count_of : ℕ → Bytes → ℕ
fill_count_of min d = min - text_width_of d

-- indenting: the prefix before every line that is not empty; `start`: the next byte is the first of its line
abbrev pub indent_ops : List Item → Bool → Bytes → List Op
indent_ops p start [] = []
indent_ops p start (b ∷ bs) = cond (start && not (eqb b 0x0A)) (put p ∷ []) [] ++ keep 1 ∷ indent_ops p (eqb b 0x0A) bs

-- ── module 4: the lines joined by 0A, which comes after the entries up to the finished line's end; n is the data length
abbrev pub wrap_ops : ℕ → ℕ → List Line → List Op
wrap_ops n at [] = []
wrap_ops n at (l ∷ []) = skip (l.first - at) ∷ keep (l.end - l.first) ∷ skip (n - l.end) ∷ []
wrap_ops n at (l ∷ m ∷ ls) = skip (l.first - at) ∷ keep (l.end - l.first) ∷ put (byte 0x0A ∷ []) ∷ wrap_ops n l.end (m ∷ ls)

-- ── module 5: t is the second lent text
abbrev pub replace_ops : Bytes → ℕ → List Replacement → List Op
replace_ops t at [] = []
replace_ops t at (x ∷ xs) = keep (x.start - at) ∷ put (byte_items (part x.from x.to t)) ∷ skip (x.end - x.start) ∷ replace_ops t x.end xs

-- ── the calls, by shape
-- the calls with a second recording: an ellipsis, a fill or a prefix
pub data Kind : Type 0 where
  truncated_start truncated_end padded_start padded_end padded_centered indented_lines unindented_lines : Kind

-- the calls on a content alone: a width and whether words are broken; the replacement records and their text; the columns between tab stops
pub data Single : Type 0 where
  wrapped_lines : ℕ → Bool → Single
  replaced_parts : List Replacement → Bytes → Single
  tabs_expanded : ℕ → Single

-- what a call does: with a second recording by its kind and width, or alone
pub data Job : Type 0 where
  with_second : Kind → ℕ → Recording → Job
  alone : Single → Job

abbrev pub truncate_start : ℕ → Recording → Job
truncate_start m e = with_second truncated_start m e

abbrev pub truncate_end : ℕ → Recording → Job
truncate_end m e = with_second truncated_end m e

abbrev pub pad_start : ℕ → Recording → Job
pad_start m f = with_second padded_start m f

abbrev pub pad_end : ℕ → Recording → Job
pad_end m f = with_second padded_end m f

abbrev pub pad_centered : ℕ → Recording → Job
pad_centered m f = with_second padded_centered m f

-- indenting has no width
abbrev pub indent : Recording → Job
indent p = with_second indented_lines 0 p

-- nor has taking the indent off
abbrev pub unindent : Recording → Job
unindent p = with_second unindented_lines 0 p

abbrev pub wrap : ℕ → Bool → Job
wrap w b = alone (wrapped_lines w b)

abbrev pub replace : List Replacement → Bytes → Job
replace xs t = alone (replaced_parts xs t)

abbrev pub expand_tabs : ℕ → Job
expand_tabs s = alone (tabs_expanded s)

-- a call: what it does, and the lengths of the buffers that it is lent
pub record Call : Type 0 where
  pub job : Job
  pub room : Room

-- a call on the content alone is one edit of it
abbrev pub single_ops : Single → Bytes → List Op
single_ops (wrapped_lines w b) d = wrap_ops (length d) 0 (wrap_lines_of w b d)
single_ops (replaced_parts xs t) d = replace_ops t 0 xs
single_ops (tabs_expanded s) d = tab_ops s 0 (chars d)

-- the lines that it leaves in the line list
abbrev pub single_lines : Single → Bytes → List Line
single_lines (wrapped_lines w b) d = wrap_lines_of w b d
single_lines (replaced_parts xs t) d = []
single_lines (tabs_expanded s) d = []

-- the items that a call leaves
unfoldable pub result_items : Job → Recording → List Item
result_items (with_second truncated_start m e) r =
    cond (ltb m (text_width_of r.data_bytes))
    (edit (cut_start_of (trimmed_start_pos m e.data_bytes)) (items e) ++ edit (cut_start_of (trimmed_start_pos (m - text_width_of e.data_bytes) r.data_bytes)) (items r))
    (edit (cut_start_of (zero_width_len_of r.data_bytes)) (items r))
result_items (with_second truncated_end m e) r =
    cond (ltb m (text_width_of r.data_bytes))
    (edit (cut_end_of (truncate_end_pos_of (m - text_width_of e.data_bytes) r.data_bytes) r.data_bytes) (items r)
    ++ edit (cut_end_of (truncate_end_pos_of m e.data_bytes) e.data_bytes) (items e))
    (items r)
result_items (with_second padded_start m f) r = padding (fill_count_of m r.data_bytes) (items f) ++ items r
result_items (with_second padded_end m f) r = items r ++ padding (fill_count_of m r.data_bytes) (items f)
result_items (with_second padded_centered m f) r =
    let n = fill_count_of m r.data_bytes in padding (n / 2) (items f) ++ (items r ++ padding (n - n / 2) (items f))
result_items (with_second indented_lines m p) r = edit (indent_ops (items p) true r.data_bytes) (items r)
result_items (with_second unindented_lines m p) r = edit (unindent_ops (length p.data_bytes) (split_lines r.data_bytes)) (items r)
result_items (alone s) r = edit (single_ops s r.data_bytes) (items r)

-- the lines that a call leaves in the line list
unfoldable pub lines_left : Job → Recording → List Line
lines_left (with_second k m q) r = []
lines_left (alone s) r = single_lines s r.data_bytes

-- the number that a call returns: the sum of the widths kept, the count of the lines
unfoldable pub number : Job → Recording → ℕ
number (with_second truncated_start m e) r =
    cond (ltb m (text_width_of r.data_bytes))
    (truncate_start_width m e.data_bytes + truncate_start_width (m - text_width_of e.data_bytes) r.data_bytes) (text_width_of r.data_bytes)
number (with_second truncated_end m e) r =
    cond (ltb m (text_width_of r.data_bytes))
    (truncate_end_width (m - text_width_of e.data_bytes) r.data_bytes + truncate_end_width m e.data_bytes) (text_width_of r.data_bytes)
number (with_second padded_start m f) r = 0
number (with_second padded_end m f) r = 0
number (with_second padded_centered m f) r = 0
number (with_second indented_lines m p) r = 0
number (with_second unindented_lines m p) r = 0
number (alone (wrapped_lines w b)) r = length (wrap_lines_of w b r.data_bytes)
number (alone (replaced_parts xs t)) r = 0
number (alone (tabs_expanded s)) r = 0

unfoldable pub result_of : Job → Recording → Result
result_of j r = record { recording = encode (result_items j r); lines = line_numbers r.data_bytes (lines_left j r); number = number j r }

-- ── refusals that come from the input
-- 1 to 6 of the second recording
unfoldable pub second_fault : Job → ℕ
second_fault (with_second k m q) = recording_fault q
second_fault (alone s) = 0

-- 8: start > end, end beyond the n data bytes, start below the previous end `at`, from > to, to beyond the t bytes of its text
abbrev pub bad_record_of : ℕ → ℕ → ℕ → Replacement → Bool
bad_record_of at n t x = ltb x.end x.start || ltb n x.end || ltb x.start at || ltb x.to x.from || ltb t x.to

abbrev pub records_fault : ℕ → ℕ → ℕ → List Replacement → ℕ
records_fault at n t [] = 0
records_fault at n t (x ∷ xs) = cond (bad_record_of at n t x) 8 (records_fault x.end n t xs)

-- 31: a tab stop that is 0 or over 64
abbrev pub stop_fault : ℕ → ℕ
stop_fault s = refuse_if (eqb s 0 || ltb 64 s) 31

-- the refusals of a call on the content alone: of replacing, 8; of tabs, 31
abbrev pub single_fault : Single → Bytes → ℕ
single_fault (wrapped_lines w b) d = 0
single_fault (replaced_parts xs t) d = records_fault 0 (length d) (length t) xs
single_fault (tabs_expanded s) d = stop_fault s

-- of a call with the second recording's data q on the content's d: of taking the indent off, 32 and 33
abbrev pub kind_fault : Kind → Bytes → Bytes → ℕ
kind_fault truncated_start q d = 0
kind_fault truncated_end q d = 0
kind_fault padded_start q d = 0
kind_fault padded_end q d = 0
kind_fault padded_centered q d = 0
kind_fault indented_lines q d = 0
kind_fault unindented_lines q d = prefix_fault q d

-- the refusals of one call alone
unfoldable pub own_fault : Job → Recording → ℕ
own_fault (with_second k m q) r = kind_fault k q.data_bytes r.data_bytes
own_fault (alone s) r = single_fault s r.data_bytes

unfoldable pub faults_of : Job → Recording → Faults
faults_of j r = record { lengths = 0; content = recording_fault r; second = second_fault j; added = 0; plain = 0; own = own_fault j r }

-- 0: the call is not refused
unfoldable pub refusal : Call → Recording → ℕ
refusal c r = refusal_of (faults_of c.job r) c.room (result_of c.job r)

-- THE OUTCOME of a call, in the contract of each and in the theorem
unfoldable pub outcome : Call → Recording → Outcome
outcome c r = settle (faults_of c.job r) c.room (result_of c.job r)

-- ── lists of calls: a call's content is the result of the last call not refused, or the first content if there is none
abbrev pub content_after : Outcome → Recording → Recording
content_after (refused n) r = r
content_after (done x) r = x.recording

unfoldable pub after : Call → Recording → Recording
after c r = content_after (outcome c r) r

abbrev pub run : List Call → Recording → Recording
run [] r = r
run (c ∷ cs) r = run cs (after c r)
