-- Stretches of whole characters of a text, from a place `at` at which one starts, up to a place `end`.
use Rattle.std.specs.Prelude.{ℕ, ◌+◌, ◌-◌, ◌≤◌, ◌<◌, false, ◌≡◌, List, [], ◌∷◌, length, drop, get_or}
use Rattle.buffer.specs.Place.{part}
use Rattle.chars.specs.Chars.{Character, chars, char_in, Seam, width_of}
use Rattle.recording.specs.Lists.{AllOf, same}
use Rattle.char_runs.specs.declared.Stretch.{Stretch}

-- a character that is no 0A
abbrev pub Plain : Character → Type 0
Plain c = same c.text (0x0A ∷ []) ≡ false

-- none of the characters is a 0A
abbrev pub NoNewlines : List Character → Type 0
NoNewlines cs = AllOf Plain cs

-- the character that starts at `at` goes on past `end`
abbrev pub Passes : List ℕ → ℕ → ℕ → Type 0
Passes s at end = end < at + length (char_in at s).text

-- r is a place up to `end` at which a character ends; it is `at` itself only if the character there passes `end`
pub record WholeUpTo (s : List ℕ) (at end r : ℕ) : Type 0 where
  pub from : at ≤ r
  pub to : r ≤ end
  pub seam : Seam (drop at s) (r - at)
  pub none : r ≡ at → Passes s at end

-- the bytes from `at` up to r are visible ASCII
abbrev pub VisibleFrom : List ℕ → ℕ → ℕ → Type 0
VisibleFrom s at r = (k : ℕ) → k < r → at ≤ k → (0x20 ≤ get_or s k 0) × (get_or s k 0 ≤ 0x7E)

-- the whole characters from `at` up to r's end, none of them a 0A, and their width; there is none only if the character at `at` is a 0A or passes `end`
pub record Covered (s : List ℕ) (at end : ℕ) (r : Stretch) : Type 0 where
  pub from : at ≤ r.end
  pub to : r.end ≤ end
  pub seam : Seam (drop at s) (r.end - at)
  pub plain : NoNewlines (chars (part at r.end s))
  pub columns : r.width ≡ width_of (chars (part at r.end s))
  pub none : r.end ≡ at → Plain (char_in at s) → Passes s at end
