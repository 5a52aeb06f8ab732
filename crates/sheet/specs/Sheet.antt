-- The input of `wraplist` (document 01, module 7): the lines of a sheet, and what a value line says.
use Rattle.std.specs.Prelude.{ℕ, ◌+◌, ◌-◌, ◌*◌, ◌%◌, Bool, true, false, cond, ◌&&◌, ◌||◌, not, List, [], ◌∷◌, Option, Some, None, leb, eqb, length, get_or}
use Rattle.chars.specs.Utf8.{within}
use Rattle.recording.specs.Recording.{Bytes, is_nil}

-- ── the bytes up to the first c, and those after it
abbrev pub up_to : ℕ → Bytes → Bytes
up_to c [] = []
up_to c (b ∷ bs) = cond (eqb b c) [] (b ∷ up_to c bs)

abbrev pub after : ℕ → Bytes → Bytes
after c [] = []
after c (b ∷ bs) = cond (eqb b c) bs (after c bs)

abbrev pub has : ℕ → Bytes → Bool
has c [] = false
has c (b ∷ bs) = eqb b c || has c bs

-- ── the lines of a sheet: each is ended by 0A, but for bytes after the last 0A
pub record SheetLine : Type 0 where
  pub text : Bytes
  pub ended : Bool

abbrev pub sheet_line : Bytes → Bool → SheetLine
sheet_line t e = record { text = t; ended = e }

-- a byte in front of the first line
abbrev pub onto_line : ℕ → List SheetLine → List SheetLine
onto_line b [] = sheet_line (b ∷ []) false ∷ []
onto_line b (l ∷ ls) = sheet_line (b ∷ l.text) l.ended ∷ ls

abbrev pub sheet_lines : Bytes → List SheetLine
sheet_lines [] = []
sheet_lines (b ∷ bs) = cond (eqb b 0x0A) (sheet_line [] true ∷ sheet_lines bs) (onto_line b (sheet_lines bs))

-- ── decimal 0 to 4294967295 without leading zeros
abbrev pub is_digit : ℕ → Bool
is_digit b = within 0x30 0x39 b

abbrev pub all_digits : Bytes → Bool
all_digits [] = true
all_digits (b ∷ bs) = is_digit b && all_digits bs

-- the value of digits that come after digits of the value n
abbrev pub value_from : ℕ → Bytes → ℕ
value_from n [] = n
value_from n (b ∷ bs) = value_from (n * 10 + (b - 0x30)) bs

-- at least one digit, and 0 is the first only if it is the only one
abbrev pub no_leading_zero_in : Bytes → Bool
no_leading_zero_in [] = false
no_leading_zero_in (b ∷ []) = true
no_leading_zero_in (b ∷ c ∷ cs) = not (eqb b 0x30)

abbrev pub small_digits : Bytes → Bool
small_digits s = all_digits s && leb (value_from 0 s) 4294967295

unfoldable pub is_decimal : Bytes → Bool
is_decimal s = no_leading_zero_in s && small_digits s

unfoldable pub decimal_of : Bytes → Option ℕ
decimal_of s = cond (is_decimal s) (Some (value_from 0 s)) None

-- ── 0 or 1
unfoldable pub is_break_text : Bytes → Bool
is_break_text [] = false
is_break_text (b ∷ []) = within 0x30 0x31 b
is_break_text (b ∷ c ∷ cs) = false

unfoldable pub break_of_text : Bytes → Bool
break_of_text s = eqb (get_or s 0 0) 0x31

-- ── hexadecimal in lower case, two digits a byte
abbrev pub is_hex_byte : ℕ → Bool
is_hex_byte b = within 0x30 0x39 b || within 0x61 0x66 b

-- the value of a digit; 0 for any other byte
unfoldable pub nibble : ℕ → ℕ
nibble b = cond (within 0x30 0x39 b) (b - 0x30) (cond (within 0x61 0x66 b) (b - 0x57) 0)

abbrev pub all_hex_of : Bytes → Bool
all_hex_of [] = true
all_hex_of (b ∷ bs) = is_hex_byte b && all_hex_of bs

abbrev pub from_pairs : Bytes → Bytes
from_pairs [] = []
from_pairs (x ∷ []) = []
from_pairs (x ∷ y ∷ r) = (nibble x * 16 + nibble y) ∷ from_pairs r

-- `-` if there are no data bytes
abbrev pub is_dash_text : Bytes → Bool
is_dash_text [] = false
is_dash_text (b ∷ []) = eqb b 0x2D
is_dash_text (b ∷ c ∷ cs) = false

-- at most 4,000 data bytes, so 8,000 digits
abbrev pub is_pairs_text : Bytes → Bool
is_pairs_text s = not (is_nil s) && (eqb (length s % 2) 0 && (leb (length s) 8000 && all_hex_of s))

unfoldable pub is_data_text : Bytes → Bool
is_data_text s = is_dash_text s || is_pairs_text s

-- a `-` is no pair, so it stands for no byte
unfoldable pub data_of : Bytes → Bytes
data_of s = from_pairs s

-- ── a value line: width, break and bytes by single spaces (20 hexadecimal). A right third field has no space, so there is none but these two
unfoldable pub width_field : Bytes → Bytes
width_field l = up_to 0x20 l

unfoldable pub break_field : Bytes → Bytes
break_field l = up_to 0x20 (after 0x20 l)

unfoldable pub data_field : Bytes → Bytes
data_field l = after 0x20 (after 0x20 l)

unfoldable pub good_line : Bytes → Bool
good_line l = is_decimal (width_field l) && (is_break_text (break_field l) && is_data_text (data_field l))
