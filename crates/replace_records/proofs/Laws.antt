-- The records that are left of a list: one more, and none.
use mathlib.Core.Path.{◌≡◌}
use mathlib.Core.List.{List, [], ◌∷◌}
use Prim.Native.Nat.{ℕ, ◌+◌, ◌<◌, ◌≤◌}
use native.Mathlib.Numerals.{add-one}
use lib.ListN.{length, get_or, drop, drop_of_length-le}
use lib.Seq.{drop-cons}
use Rattle.layout.specs.declared.Replacement.{Replacement}

-- read where there is no record
abbrev pub none : Replacement
none = record { start = 0; end = 0; from = 0; to = 0 }

pub one_more : (ys : List Replacement) (i : ℕ) → i < length ys → drop i ys ≡ get_or ys i none ∷ drop (i + 1) ys
one_more ys i l = rw add-one (drop-cons ys i none l)

pub none_left : (ys : List Replacement) (i : ℕ) → length ys ≤ i → drop i ys ≡ []
none_left ys i l = drop_of_length-le ys {i = i} l
