-- A number as it is printed in decimal, and a field of such rows: the number and the byte after it.
use Rattle.std.specs.Prelude.{ℕ, zero, suc, ◌+◌, ◌/◌, ◌%◌, cond, [], ◌∷◌, ◌++◌, ltb}
use Rattle.recording.specs.Recording.{Bytes}

-- without leading zeros: at most k digits; ten do for 32 bits
abbrev pub decimal_up_to : ℕ → ℕ → Bytes
decimal_up_to zero n = []
decimal_up_to (suc k) n = cond (ltb n 10) [] (decimal_up_to k (n / 10)) ++ ((0x30 + n % 10) ∷ [])

unfoldable pub decimal : ℕ → Bytes
decimal n = decimal_up_to 10 n

-- a number and the byte after it
abbrev pub field : ℕ → ℕ → Bytes
field n c = decimal n ++ (c ∷ [])
