-- The width of a code point where it is in none of the first k ranges: the ranges after them decide. Faces and trucks, the last two, lie in one stretch of code points, which the first nineteen leave aside.
use Prim.Native.Nat.{ℕ}
use mathlib.Core.Bool.{Bool, true, false}
use mathlib.Core.Path.{◌≡◌, refl, sym, ◌∙◌}
use lib.ListN.{length, drop}
use Rattle.chars.specs.Utf8.{within}
use Rattle.chars.specs.Width.{nineteen_ranges, faces_and_trucks, ranges, width_in, char_width_of}
use Rattle.chars.proofs.RangeLaws.{bounds, aside, none_inside}

-- the first k ranges leave the width open
unfoldable pub Past : ℕ → ℕ → Type 0
Past k code = char_width_of code ≡ width_in (drop k ranges) code

pub past_none : (code : ℕ) → Past 0 code
unfolding Past char_width_of
past_none code = refl

-- each range was tried
pub past_all : (code : ℕ) → Past (length ranges) code → 1 ≡ char_width_of code
unfolding Past ranges
past_all code p = sym p

-- the stretch from the first face to the last truck
abbrev pub in_stretch : ℕ → Bool
in_stretch code = within 0x1F600 0x1F6C5 code

-- the first nineteen ranges leave it aside
pub past_stretch : (code : ℕ) → in_stretch code ≡ true → Past 19 code
unfolding Past char_width_of ranges
past_stretch code h = let k = bounds 0x1F600 0x1F6C5 code h in (aside 0x1F600 0x1F6C5 code k.0 k.1 nineteen_ranges faces_and_trucks tt).1

-- and outside it they are all that there is
pub past_nineteen : (code : ℕ) → in_stretch code ≡ false → Past 19 code → 1 ≡ char_width_of code
unfolding Past ranges
past_nineteen code h p = sym (p ∙ none_inside 0x1F600 0x1F6C5 code h faces_and_trucks tt)
