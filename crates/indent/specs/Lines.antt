-- The lines that get a prefix: those that are not empty. `start`: the next byte is the first of its line, as in `indent_ops`.
use Rattle.std.specs.Prelude.{ℕ, suc, ◌+◌, Bool, cond, ◌&&◌, not, List, [], ◌∷◌, eqb}

-- 1 if b is the first byte of a line that is not empty
unfoldable pub first_byte_of : Bool → ℕ → ℕ
first_byte_of start b = cond (start && not (eqb b 0x0A)) 1 0

-- how many lines are not empty
unfoldable pub filled_lines_of : Bool → List ℕ → ℕ
unfolding first_byte_of
filled_lines_of start [] = 0
filled_lines_of start (b ∷ bs) = first_byte_of start b + filled_lines_of (eqb b 0x0A) bs

-- how many bytes come before the next line that is not empty
unfoldable pub to_next : Bool → List ℕ → ℕ
to_next start [] = 0
to_next start (b ∷ bs) = cond (start && not (eqb b 0x0A)) 0 (suc (to_next (eqb b 0x0A) bs))
