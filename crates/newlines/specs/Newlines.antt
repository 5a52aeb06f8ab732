-- The bytes 0A of a text: how far it is to the next, whether there is one, and how many there are.
use Rattle.std.specs.Prelude.{ℕ, suc, ◌+◌, Bool, cond, List, [], ◌∷◌, eqb}
use Rattle.std.specs.List.{list_any}

-- how many bytes come before the next 0A, all if there is none
unfoldable pub to_break : List ℕ → ℕ
to_break [] = 0
to_break (b ∷ bs) = cond (eqb b 0x0A) 0 (suc (to_break bs))

-- whether one of the bytes is 0A
abbrev pub has_break_in : List ℕ → Bool
has_break_in d = list_any (λ b. eqb b 0x0A) d

-- how many 0A there are
abbrev pub newlines : List ℕ → ℕ
newlines [] = 0
newlines (b ∷ d) = cond (eqb b 0x0A) 1 0 + newlines d
