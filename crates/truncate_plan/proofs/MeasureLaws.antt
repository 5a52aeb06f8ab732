-- The leading zero-width characters of a text are a part of it: by induction on its characters, whose bytes it is.
use mathlib.Core.Path.{ap}
use mathlib.Core.Bool.{Bool, true, false, cond}
use mathlib.Core.List.{List, [], ◌∷◌, ◌++◌}
use Prim.Native.Nat.{ℕ, ◌≤◌}
use native.Mathlib.Omega.{arith}
use lib.Dec.{eqb}
use lib.ListN.{length, length-append}
use Rattle.chars.specs.Chars.{Character, chars, bytes_of, wide}
use Rattle.chars.specs.Cut.{leading_zero_width_of, zero_width_len_of}
use Rattle.chars.proofs.CharsLaws.{bytes-chars}

lead_bytes : (cs : List Character) → length (bytes_of (leading_zero_width_of cs)) ≤ length (bytes_of cs)
lead_bytes [] = omega arith
lead_bytes (c ∷ cs) = go (eqb (wide c) 0) (lead_bytes cs)
  where
    go : (t : Bool) → length (bytes_of (leading_zero_width_of cs)) ≤ length (bytes_of cs) → length (bytes_of (cond t (c ∷ leading_zero_width_of cs) [])) ≤ length (c.text ++ bytes_of cs)
    go true h = omega (arith, h, length-append c.text (bytes_of (leading_zero_width_of cs)), length-append c.text (bytes_of cs))
    go false h = omega arith

pub zero_width_within : (s : List ℕ) → zero_width_len_of s ≤ length s
unfolding zero_width_len_of
zero_width_within s = omega (arith, lead_bytes (chars s), ap length (bytes-chars s))
