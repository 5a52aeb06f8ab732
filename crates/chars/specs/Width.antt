-- The width of a code point: document 01's nineteen ranges, and the two that document 02 adds (Q-5).
use Rattle.std.specs.Prelude.{ℕ, cond, List, [], ◌∷◌, ◌++◌}
use Rattle.chars.specs.Utf8.{within}

-- the code points from `first` to `last` are `columns` wide
pub record Range : Type 0 where
  pub first : ℕ
  pub last : ℕ
  pub columns : ℕ

abbrev range : ℕ → ℕ → ℕ → Range
range w a b = record { first = a; last = b; columns = w }

-- document 01's: width 0, then width 2, in its order
abbrev pub nineteen_ranges : List Range
nineteen_ranges =
    range 0 0x0000 0x001F ∷ range 0 0x007F 0x009F ∷ range 0 0x0300 0x036F ∷ range 0 0x200B 0x200F ∷ range 0 0x20D0 0x20F0 ∷ range 0 0xFE00 0xFE0F ∷ range 0 0xFE20 0xFE2F
    ∷ range 2 0x1100 0x115F ∷ range 2 0x2E80 0x303E ∷ range 2 0x3041 0x33FF ∷ range 2 0x3400 0x4DBF ∷ range 2 0x4E00 0xA4CF ∷ range 2 0xAC00 0xD7A3
    ∷ range 2 0xF900 0xFAFF ∷ range 2 0xFE30 0xFE6F ∷ range 2 0xFF00 0xFF60 ∷ range 2 0xFFE0 0xFFE6 ∷ range 2 0x20000 0x2FFFD ∷ range 2 0x30000 0x3FFFD ∷ []

-- document 02's, Q-5
abbrev pub faces_and_trucks : List Range
faces_and_trucks = range 2 0x1F600 0x1F64F ∷ range 2 0x1F680 0x1F6C5 ∷ []

-- all of them
unfoldable pub ranges : List Range
ranges = nineteen_ranges ++ faces_and_trucks

-- all others have width 1
abbrev pub width_in : List Range → ℕ → ℕ
width_in [] c = 1
width_in (r ∷ rs) c = cond (within r.first r.last c) r.columns (width_in rs c)

unfoldable pub char_width_of : ℕ → ℕ
char_width_of c = width_in ranges c
