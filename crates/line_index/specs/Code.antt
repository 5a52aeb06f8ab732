-- What the code asks of a list of numbers, to find out whether it is the index: `proofs/AskLaws.antt` joins it to that.
use Rattle.std.specs.Prelude.{ℕ, ◌-◌, Bool, true, ◌&&◌, List, [], ◌∷◌, leb, ltb, eqb, length, get_or}
use Rattle.recording.specs.Recording.{Bytes}

-- n is above `last`, and the place behind a 0A of d
abbrev pub behind : Bytes → ℕ → ℕ → Bool
behind d last n = ltb last n && (leb n (length d) && eqb (get_or d (n - 1) 0) 0x0A)

-- the numbers rise from `last` on, and each is the place behind a 0A of d
abbrev pub stand_behind_in : Bytes → ℕ → List ℕ → Bool
stand_behind_in d last [] = true
stand_behind_in d last (n ∷ ns) = behind d last n && stand_behind_in d n ns
