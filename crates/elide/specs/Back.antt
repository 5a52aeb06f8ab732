-- Where the character before a place starts, as the bytes tell it that are read from there back: at the last byte that does not trail.
-- `proofs/BackLaws.antt` shows that it does in a well-formed text.
use Rattle.std.specs.Prelude.{ℕ, ◌<◌, List, get_or}
use Rattle.chars.specs.Utf8.{Trails}

-- r is the last place before `at` whose byte does not trail, or the first place
pub record StartBefore (s : List ℕ) (at r : ℕ) : Type 0 where
  pub before : r < at
  pub between : (i : ℕ) → r < i → i < at → Trails (get_or s i 0)
  pub stops : 0 < r → Trails (get_or s r 0) → ⊥
