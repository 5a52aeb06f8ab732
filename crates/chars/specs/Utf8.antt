-- UTF-8 as chapter 3 of the Unicode Standard has it: table 3-7 (well-formed byte sequences), table 3-6 (the bits of a code point).
-- Crate `unicode_standard` has D86 (well-formed texts) and D93b (maximal subparts) in the Standard's words, and shows that `tail_len`, `complete` and `well_formed_of` are these.
use Rattle.std.specs.Prelude.{ℕ, suc, ◌+◌, ◌*◌, ◌%◌, ◌≤◌, Bool, false, cond, ◌&&◌, leb, eqb, length}
use mathlib.Core.List.{List, [], ◌∷◌, tail}

-- a range of byte values, both ends included
pub record Span : Type 0 where
  pub low : ℕ
  pub high : ℕ

abbrev pub span : ℕ → ℕ → Span
span a b = record { low = a; high = b }

abbrev pub within : ℕ → ℕ → ℕ → Bool
within low high n = leb low n && leb n high

-- a row of table 3-7: the ranges of the first, second, third and fourth byte
abbrev pub Row : Type 0
Row = List Span

-- table 3-7, as the Standard prints it
unfoldable pub table37 : List Row
table37 =
    (span 0x00 0x7F ∷ [])
    ∷ (span 0xC2 0xDF ∷ span 0x80 0xBF ∷ [])
    ∷ (span 0xE0 0xE0 ∷ span 0xA0 0xBF ∷ span 0x80 0xBF ∷ [])
    ∷ (span 0xE1 0xEC ∷ span 0x80 0xBF ∷ span 0x80 0xBF ∷ [])
    ∷ (span 0xED 0xED ∷ span 0x80 0x9F ∷ span 0x80 0xBF ∷ [])
    ∷ (span 0xEE 0xEF ∷ span 0x80 0xBF ∷ span 0x80 0xBF ∷ [])
    ∷ (span 0xF0 0xF0 ∷ span 0x90 0xBF ∷ span 0x80 0xBF ∷ span 0x80 0xBF ∷ [])
    ∷ (span 0xF1 0xF3 ∷ span 0x80 0xBF ∷ span 0x80 0xBF ∷ span 0x80 0xBF ∷ [])
    ∷ (span 0xF4 0xF4 ∷ span 0x80 0x8F ∷ span 0x80 0xBF ∷ span 0x80 0xBF ∷ [])
    ∷ []

-- b stands in the row's first column
abbrev pub leads : Row → ℕ → Bool
leads [] b = false
leads (c ∷ cs) b = within c.low c.high b

abbrev pub row_in : List Row → ℕ → Row
row_in [] b = []
row_in (r ∷ rs) b = cond (leads r b) r (row_in rs b)

-- the row of a lead byte; a byte that leads no well-formed sequence has the empty row
unfoldable pub row_of : ℕ → Row
row_of b = row_in table37 b

-- a byte as the table has them behind the first one of a sequence
abbrev pub Trails : ℕ → Type 0
Trails b = (0x80 ≤ b) × (b ≤ 0xBF)

-- how many bytes, one after another, stand in the columns
abbrev pub matched : Row → List ℕ → ℕ
matched [] bs = 0
matched (c ∷ cs) [] = 0
matched (c ∷ cs) (b ∷ bs) = cond (within c.low c.high b) (suc (matched cs bs)) 0

-- how many of the bytes bs that follow b belong to the sequence that b leads
unfoldable pub tail_len : ℕ → List ℕ → ℕ
tail_len b bs = matched (tail (row_of b)) bs

-- b and the bytes `more`, which belong to its sequence, are all of it: each column of the row has its byte
unfoldable pub complete : ℕ → List ℕ → Bool
complete b more = eqb (suc (length more)) (length (row_of b))

-- table 3-6: the code point behind a well-formed sequence
abbrev pub code_point : List ℕ → ℕ
code_point [] = 0
code_point (a ∷ []) = a
code_point (a ∷ b ∷ []) = a % 32 * 64 + b % 64
code_point (a ∷ b ∷ c ∷ []) = a % 16 * 4096 + b % 64 * 64 + c % 64
code_point (a ∷ b ∷ c ∷ d ∷ ds) = a % 8 * 262144 + b % 64 * 4096 + c % 64 * 64 + d % 64
