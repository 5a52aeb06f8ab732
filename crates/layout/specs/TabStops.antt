-- Where tabs land (document 02, Q-2): what the request asks to be shown, for every s from 1 on together. `proofs/TabStopLaws.antt` shows it.
use Rattle.std.specs.Prelude.{ℕ, ◌+◌, ◌*◌, ◌≤◌, ◌<◌, ◌≡◌, List, [], ◌∷◌, ◌++◌, ◌≢◌}
use Rattle.chars.specs.Chars.{chars, text_width_of}
use Rattle.recording.specs.Recording.{Bytes, Recording}
use Rattle.recording.specs.Edit.{edit_data}
use Rattle.recording.specs.Outcome.{Room}
use Rattle.layout.specs.Tabs.{spaces_at_column, spaces, tab_ops, column_behind}
use Rattle.layout.specs.Wrap.{split_lines}
use Rattle.layout.specs.Layout.{expand_tabs, Call, refusal, after}

-- m is the least multiple of s above c
pub record LeastMultipleAbove (s c m : ℕ) : Type 0 where
  pub times : ℕ
  pub multiple : m ≡ times * s
  pub above : c < m
  pub least : (k : ℕ) → c < k * s → m ≤ k * s

-- the last line of a text: its bytes since the last 0A, or since the start
abbrev pub last_of : List Bytes → Bytes
last_of [] = []
last_of (l ∷ []) = l
last_of (l ∷ m ∷ ls) = last_of (m ∷ ls)

unfoldable pub last_line_of : Bytes → Bytes
last_line_of d = last_of (split_lines d)

-- no byte is 09
abbrev pub NoTab : Bytes → Type 0
NoTab [] = Unit {0}
NoTab (b ∷ d) = (b ≢ 0x09) × NoTab d

-- what is left of the data d that starts at column c
abbrev pub expanded_from : ℕ → ℕ → Bytes → Bytes
expanded_from s c d = edit_data (tab_ops s c (chars d)) d

abbrev pub expanded : ℕ → Bytes → Bytes
expanded s d = expanded_from s 0 d

abbrev pub tabs_call : ℕ → Room → Call
tabs_call s o = record { job = expand_tabs s; room = o }

-- a tab after the bytes x and before the bytes y, whatever these are: in the result its spaces stand behind what is left of x, and the width of the line up to their end
-- is the least multiple of s above the width up to their beginning; there y goes on
pub record TabLands (s : ℕ) (x y : Bytes) : Type 0 where
  pub count : ℕ
  pub stands : expanded s (x ++ (0x09 ∷ y)) ≡ expanded s x ++ (spaces count ++ expanded_from s (text_width_of (last_line_of (expanded s x ++ spaces count))) y)
  pub lands : LeastMultipleAbove s (text_width_of (last_line_of (expanded s x))) (text_width_of (last_line_of (expanded s x ++ spaces count)))

-- THE LAWS of stops s columns apart
pub record TabStops (s : ℕ) : Type 0 where
  -- a tab at column c lands on the least multiple of s above c
  pub stop : (c : ℕ) → LeastMultipleAbove s c (c + spaces_at_column s c)
  -- `expanded` is the data that a call not refused leaves
  pub leaves : (o : Room) (r : Recording) → refusal (tabs_call s o) r ≡ 0 → (after (tabs_call s o) r).data_bytes ≡ expanded s r.data_bytes
  -- in the result's own bytes each tab lands so
  pub tabs : (x y : Bytes) → TabLands s x y
  -- the definition's column is the width of the line that is left
  pub column : (x : Bytes) → column_behind s 0 (chars x) ≡ text_width_of (last_line_of (expanded s x))
  -- no 09 is left
  pub none : (d : Bytes) → NoTab (expanded s d)
  -- and expanding the result again, at any stop and in any buffers, changes nothing
  pub again : (o o' : Room) (s' : ℕ) (r : Recording) → refusal (tabs_call s o) r ≡ 0 → after (tabs_call s' o') (after (tabs_call s o) r) ≡ after (tabs_call s o) r

abbrev pub TabsLand : Type 0
TabsLand = (s : ℕ) → 1 ≤ s → TabStops s
