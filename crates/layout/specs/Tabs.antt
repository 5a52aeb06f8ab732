-- Tab stops (document 02, Q-2): each byte 09 is replaced by spaces up to the next stop. Worked out from the characters of the data alone.
use Rattle.std.specs.Prelude.{ℕ, zero, suc, ◌+◌, ◌-◌, ◌%◌, Bool, cond, List, [], ◌∷◌, ◌++◌, eqb, length, get_or}
use Rattle.chars.specs.Chars.{Character, wide}
use Rattle.recording.specs.Recording.{byte_items}
use Rattle.recording.specs.Edit.{Op, keep, skip, put}

-- at column c a tab writes s less the remainder of c by s, so at least one
abbrev pub spaces_at_column : ℕ → ℕ → ℕ
spaces_at_column s c = s - c % s

-- n bytes 20
abbrev pub spaces : ℕ → List ℕ
spaces zero = []
spaces (suc n) = 0x20 ∷ spaces n

-- whether a character's first byte is b; below 80 that is the whole character
abbrev pub leads_with : ℕ → Character → Bool
leads_with b ch = eqb (get_or ch.text 0 0) b

-- the column behind a character that stands at column c: the width since the last 0A, and the spaces count
abbrev pub column_after : ℕ → ℕ → Character → ℕ
column_after s c ch = cond (leads_with 0x09 ch) (c + spaces_at_column s c) (cond (leads_with 0x0A ch) 0 (c + wide ch))

-- a tab goes, and its spaces stand after the entries at its place; every other character is kept
abbrev pub char_ops : ℕ → ℕ → Character → List Op
char_ops s c ch = cond (leads_with 0x09 ch) (put (byte_items (spaces (spaces_at_column s c))) ∷ skip 1 ∷ []) (keep (length ch.text) ∷ [])

-- character by character, from column c on
abbrev pub tab_ops : ℕ → ℕ → List Character → List Op
tab_ops s c [] = []
tab_ops s c (ch ∷ cs) = char_ops s c ch ++ tab_ops s (column_after s c ch) cs

-- the column behind all of them
abbrev pub column_behind : ℕ → ℕ → List Character → ℕ
column_behind s c [] = c
column_behind s c (ch ∷ cs) = column_behind s (column_after s c ch) cs
