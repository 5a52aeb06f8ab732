-- A character as the reader answers it: code point, number of bytes, and whether they are well-formed.
use Rattle.std.specs.Prelude.{ℕ, true, false, length}
use Rattle.chars.specs.Chars.{Character}
use Rattle.chars.specs.declared.Read.{Read}

abbrev pub read_of : Character → Read
read_of c = record { code = c.code; len = length c.text; ok = c.ok }

-- a well-formed sequence of n bytes
abbrev pub formed_read : ℕ → ℕ → Read
formed_read c n = record { code = c; len = n; ok = true }

-- an ill-formed subpart of n bytes, U+FFFD
abbrev pub ill_formed_read : ℕ → Read
ill_formed_read n = record { code = 0xFFFD; len = n; ok = false }
