-- A result written over the front of a buffer, and over a buffer from an offset on; a buffer of bytes, of numbers or of any other elements.
use Rattle.std.specs.Prelude.{ℕ, ◌-◌, List, ◌++◌, length, take, drop}

-- the buffer `old` with `new` from its first place on, all beyond untouched
unfoldable pub over : {T : Type 0} → List T → List T → List T
over new old = new ++ drop (length new) old

-- the buffer `old` with `new` from the offset `at` on
unfoldable pub over_at : {T : Type 0} → ℕ → List T → List T → List T
unfolding over
over_at at new old = take at old ++ over new (drop at old)

-- what s has from a up to b
abbrev pub part : {T : Type 0} → ℕ → ℕ → List T → List T
part a b s = take (b - a) (drop a s)
