-- Well-formedness place by place, from a byte and the three before it: what a check of a block of bytes at once finds.
-- `proofs/BlockLaws.antt` shows that bytes that fit are well-formed characters up to any place where no sequence is open.
use Rattle.std.specs.Prelude.{ℕ, suc, ◌≤◌, ◌<◌, List, ◌∷◌, ◌≡◌, get_or}

-- no lead byte among w, x and y, one after the other, asks for a byte after y
pub record Ended (w x y : ℕ) : Type 0 where
  pub second : y < 0xC0
  pub third : x < 0xE0
  pub fourth : w < 0xF0

-- z is as table 3-7 has it after w, x and y
pub record Fits (w x y z : ℕ) : Type 0 where
  -- where no sequence is open, z leads one
  pub lead : Ended w x y → 0x80 ≤ z → (0xC2 ≤ z) × (z ≤ 0xF4)
  -- else it continues one, and has the bounds of a second byte if y leads it
  pub more : (Ended w x y → ⊥) → (0x80 ≤ z) × (z ≤ 0xBF) × (y ≡ 0xE0 → 0xA0 ≤ z) × (y ≡ 0xF0 → 0x90 ≤ z) × (y ≡ 0xED → z ≤ 0x9F) × (y ≡ 0xF4 → z ≤ 0x8F)

-- the byte three places before i; in front of a text stand 0s
abbrev pub fore : List ℕ → ℕ → ℕ
fore s i = get_or (0 ∷ 0 ∷ 0 ∷ s) i 0

-- no sequence is open at i
abbrev pub EndsAt : ℕ → List ℕ → Type 0
EndsAt i s = Ended (fore s i) (fore s (suc i)) (fore s (suc (suc i)))

-- the byte at i fits
abbrev pub FitsAt : ℕ → List ℕ → Type 0
FitsAt i s = Fits (fore s i) (fore s (suc i)) (fore s (suc (suc i))) (get_or s i 0)

-- the bytes from a to b fit
abbrev pub Fitting : ℕ → ℕ → List ℕ → Type 0
Fitting a b s = (i : ℕ) → a ≤ i → i < b → FitsAt i s

-- the bytes from a to b are ASCII
abbrev pub Plain : ℕ → ℕ → List ℕ → Type 0
Plain a b s = (i : ℕ) → a ≤ i → i < b → get_or s i 0 < 128
