-- Padding as the code does it: the bytes of a piece n times over, the entries once a side, and the three calls as one with a side.
use Rattle.std.specs.Prelude.{ℕ, zero, suc, ◌/◌, List, [], ◌++◌}
use Rattle.recording.specs.Recording.{Item}
use Rattle.layout.specs.Layout.{padding, Kind, padded_start, padded_end, padded_centered}
use Rattle.pad.specs.declared.Side.{Side}
use Rattle.pad.specs.declared.Side.TheVariants.{Start, End, Centered}

-- the bytes of a piece, n times
unfoldable pub repeated : ℕ → List ℕ → List ℕ
repeated zero p = []
repeated (suc n) p = p ++ repeated n p

-- how often a side has the fill's entries: not at all at count 0
unfoldable pub once_if_of : ℕ → ℕ
once_if_of zero = 0
once_if_of (suc n) = 1

-- the content between l and r times the fill
unfoldable pub sides : ℕ → ℕ → List Item → List Item → List Item
sides l r f is = padding l f ++ (is ++ padding r f)

-- how many of n times come before the content
unfoldable pub left_of : Side → ℕ → ℕ
left_of Start n = n
left_of End n = 0
left_of Centered n = n / 2

-- the kind of the call
unfoldable pub kind_of : Side → Kind
kind_of Start = padded_start
kind_of End = padded_end
kind_of Centered = padded_centered
