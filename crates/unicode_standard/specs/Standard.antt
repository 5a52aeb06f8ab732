-- Well-formed texts (D86) and maximal subparts (D93b) in the words of chapter 3 of the Unicode Standard, over its table 3-7.
-- `proofs/Subpart.antt` shows that `tail_len`, `complete` and `well_formed_of` of `chars` are these.
use Rattle.std.specs.Prelude.{ℕ, ◌≤◌, Bool, true, false, ◌&&◌, ◌||◌, List, [], ◌∷◌, ◌++◌, ◌⊎◌, ◌≡◌, length, take}
use Rattle.chars.specs.Utf8.{Row, within, table37}

-- s is a beginning of a sequence of the row
abbrev pub begins : Row → List ℕ → Bool
begins cs [] = true
begins [] (b ∷ s) = false
begins (c ∷ cs) (b ∷ s) = within c.low c.high b && begins cs s

-- s is a whole sequence of the row
abbrev pub fills : Row → List ℕ → Bool
fills [] [] = true
fills [] (b ∷ s) = false
fills (c ∷ cs) [] = false
fills (c ∷ cs) (b ∷ s) = within c.low c.high b && fills cs s

abbrev pub any_row : (Row → Bool) → List Row → Bool
any_row f [] = false
any_row f (r ∷ rs) = f r || any_row f rs

-- s is the initial part of some well-formed sequence
unfoldable pub initial_part : List ℕ → Bool
initial_part s = any_row (λ r. begins r s) table37

-- s is a whole sequence of table 3-7 (D85a, a minimal well-formed sequence)
unfoldable pub well_formed_sequence : List ℕ → Bool
well_formed_sequence s = any_row (λ r. fills r s) table37

-- each part is a whole sequence of table 3-7
abbrev pub all_sequences : List (List ℕ) → Bool
all_sequences [] = true
all_sequences (p ∷ ps) = well_formed_sequence p && all_sequences ps

-- the parts one after another
abbrev pub concatenation : List (List ℕ) → List ℕ
concatenation [] = []
concatenation (p ∷ ps) = p ++ concatenation ps

-- D86, a well-formed UTF-8 text: it can be partitioned into sequences of table 3-7
pub record WellFormedText (s : List ℕ) : Type 0 where
  pub parts : List (List ℕ)
  pub each : all_sequences parts ≡ true
  pub whole : concatenation parts ≡ s

-- the first n bytes of s are the initial part of a well-formed sequence, or a single byte
pub record Subpart (s : List ℕ) (n : ℕ) : Type 0 where
  pub some : 1 ≤ n
  pub inside : n ≤ length s
  pub initial : (initial_part (take n s) ≡ true) ⊎ (n ≡ 1)

-- D93b: and they are the longest such part of s from its first byte on
pub record MaximalSubpart (s : List ℕ) (n : ℕ) : Type 0 where
  pub subpart : Subpart s n
  pub longest : (k : ℕ) → Subpart s k → k ≤ n
