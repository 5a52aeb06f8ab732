-- What one line of a wrapped content writes and leaves, and how long the lines are together.
use Rattle.std.specs.Prelude.{ℕ, ◌+◌, ◌-◌, List, ◌++◌, length}
use Rattle.recording.specs.Recording.{Item}
use Rattle.recording.specs.Edit.{front, back, entries_only}
use Rattle.layout.specs.Wrap.{Line}
use Rattle.wrap_lines.specs.WrapBytes.{shown_bytes}

-- a bytes go, b are kept, and no entry is dropped
unfoldable pub line_items : ℕ → ℕ → List Item → List Item
line_items a b is = entries_only (front a is) ++ front b (back a is)

unfoldable pub line_left : ℕ → ℕ → List Item → List Item
line_left a b is = back b (back a is)

-- how long the lines are, joined by 0A
abbrev pub joined_len_of : List Line → ℕ
joined_len_of ls = shown_bytes ls + (length ls - 1)
