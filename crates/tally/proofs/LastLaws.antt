-- The last row with its 0A, as it is written: the count, a space, the sum, 0A; and how long it is.
use Prim.Native.Nat.{ℕ, ◌+◌}
use mathlib.Core.Path.{◌≡◌, sym, ap, ◌∙◌}
use mathlib.Core.List.{[], ◌∷◌, ◌++◌, append_assoc}
use lib.ListN.{length, length-append}
use Rattle.recording.specs.Recording.{Bytes}
use Rattle.sheet.specs.Decimal.{decimal}
use Rattle.tally.specs.Tally.{last_row, ended}

module _ (n sum : ℕ) where
  pub last_pieces : ((decimal n ++ (0x20 ∷ [])) ++ decimal sum) ++ (0x0A ∷ []) ≡ ended (last_row n sum ∷ [])
  unfolding last_row
  last_pieces = ap (λ (l : Bytes). l ++ (0x0A ∷ [])) (append_assoc (decimal n) (0x20 ∷ []) (decimal sum))

  pub last_length : length (ended (last_row n sum ∷ [])) ≡ length (decimal n) + 1 + length (decimal sum) + 1
  last_length = ap length (sym last_pieces) ∙ simp length-append
