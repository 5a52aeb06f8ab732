-- Q-7: the lines of a text as places in it: where each starts and ends, line n, and the line and the byte column of an offset. A 0A belongs to the line that it ends.
-- `Shown.antt` joins this to `split_lines` (layout): what stands from each start to its end is that line of the wrapping's definitions.
use Rattle.std.specs.Prelude.{ℕ, suc, ◌-◌, cond, List, [], ◌∷◌, eqb, take, get_or}
use Rattle.newlines.specs.Newlines.{newlines}
use Rattle.layout.specs.Wrap.{Line, line_of}
use Rattle.recording.specs.Recording.{Bytes}

-- the place after each 0A of d, where d stands from `at` on
unfoldable pub starts_from : ℕ → Bytes → List ℕ
starts_from at [] = []
starts_from at (b ∷ d) = cond (eqb b 0x0A) (suc at ∷ starts_from (suc at) d) (starts_from (suc at) d)

-- THE INDEX: 0, and the place after each 0A
unfoldable pub line_starts : Bytes → List ℕ
unfolding starts_from
line_starts d = 0 ∷ starts_from 0 d

-- the place of each 0A of d, and the data's end, where d stands from `at` on
unfoldable pub ends_from : ℕ → Bytes → List ℕ
ends_from at [] = at ∷ []
ends_from at (b ∷ d) = cond (eqb b 0x0A) (at ∷ ends_from (suc at) d) (ends_from (suc at) d)

-- where each line ends
unfoldable pub line_ends : Bytes → List ℕ
unfolding ends_from
line_ends d = ends_from 0 d

-- line n, counted from 0: its first byte, and its end (the place of its 0A, or the data's end)
unfoldable pub line_span : Bytes → ℕ → Line
unfolding line_starts line_ends
line_span d n = line_of (get_or (line_starts d) n 0) (get_or (line_ends d) n 0)

-- a line, and a byte column in it, both counted from 0
pub record Place : Type 0 where
  pub line : ℕ
  pub column : ℕ

-- the line of an offset: as many 0A as come before it
unfoldable pub line_of_offset : Bytes → ℕ → ℕ
line_of_offset d o = newlines (take o d)

-- the line and the byte column of an offset
unfoldable pub place_for : Bytes → ℕ → Place
unfolding line_of_offset line_span
place_for d o = record { line = line_of_offset d o; column = o - (line_span d (line_of_offset d o)).first }
