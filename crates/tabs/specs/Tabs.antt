-- The tabs of a text as replacement records, each of which takes the 09 out and some of 64 spaces in; and a place on the way from one tab to the next.
use Rattle.std.specs.Prelude.{ℕ, suc, ◌+◌, ◌-◌, ◌*◌, ◌≤◌, ◌<◌, cond, ◌≡◌, List, [], ◌∷◌, eqb, length, drop, get_or}
use Rattle.chars.specs.Chars.{Character, chars}
use Rattle.layout.specs.declared.Replacement.{Replacement}
use Rattle.layout.specs.Tabs.{spaces_at_column, leads_with, column_after}
use Rattle.replace.specs.Records.{replacement}
use Rattle.tabs.specs.declared.Place.{Place}

-- the tabs of the characters from the offset `at` and column c on, at stops s columns apart
abbrev pub tab_records : ℕ → ℕ → ℕ → List Character → List Replacement
tab_records s c at [] = []
tab_records s c at (ch ∷ cs) =
    cond (leads_with 0x09 ch) (replacement at (suc at) 0 (spaces_at_column s c) ∷ tab_records s (column_after s c ch) (suc at) cs)
    (tab_records s (column_after s c ch) (at + length ch.text) cs)

-- the tabs from a place of the data d on
unfoldable pub tabs_from : ℕ → List ℕ → Place → List Replacement
tabs_from s d p = tab_records s p.column p.at (chars (drop p.at d))

abbrev pub place : ℕ → ℕ → Place
place at c = record { at = at; column = c }

-- a place r from which on the tabs are those from the offset `at` and column c on, at any stops; a byte makes at most 64 columns
pub record Onward (d : List ℕ) (at c : ℕ) (r : Place) : Type 0 where
  pub forward : at ≤ r.at
  pub within : r.at ≤ length d
  pub bounded : r.column ≤ 64 * r.at
  pub same : (s : ℕ) → tabs_from s d (place at c) ≡ tabs_from s d r

-- further on, behind a character that is no tab
pub record Passed (d : List ℕ) (at c : ℕ) (r : Place) : Type 0 where
  pub further : at < r.at
  pub onward : Onward d at c r

-- at the next tab, or at the end
pub record Reached (d : List ℕ) (at c : ℕ) (r : Place) : Type 0 where
  pub onward : Onward d at c r
  pub stands : r.at < length d → get_or d r.at 0 ≡ 0x09

-- how many bytes more than the content the result has
abbrev pub growth : List Replacement → ℕ
growth [] = 0
growth (x ∷ xs) = (x.to - 1) + growth xs

-- how many bytes 09 there are
abbrev pub one_tab_of : ℕ → ℕ
one_tab_of b = cond (eqb b 0x09) 1 0

abbrev pub tab_count_of : List ℕ → ℕ
tab_count_of [] = 0
tab_count_of (b ∷ d) = one_tab_of b + tab_count_of d
