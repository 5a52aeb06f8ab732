-- The characters of a text by a table: the same bytes in the same characters, and the library's own widths come back.
-- The idea: a table changes the widths alone, so what is some characters in a row by one table is so by the library's.
use mathlib.Core.Path.{◌≡◌, refl, sym, ◌∙◌}
use mathlib.Core.List.{List, [], ◌∷◌, ◌++◌}
use Rattle.chars.specs.Width.{Range, ranges, char_width_of}
use Rattle.chars.specs.Chars.{Character, chars, bytes_of}
use Rattle.chars.proofs.CharsLaws.{bytes-chars, Valid, valid-chars}
use Rattle.recording.specs.Lists.{AllOf}
use Rattle.recording.specs.Recording.{Bytes}
use Rattle.width_tables.specs.ByTable.{at_widths, chars_by}
use Rattle.width_tables.specs.Tables.{AsWide}

pub at_append : (t : List Range) (xs ys : List Character) → at_widths t (xs ++ ys) ≡ at_widths t xs ++ at_widths t ys
at_append t [] ys = refl
at_append t (x ∷ xs) ys = rw (at_append t xs ys)

pub at_bytes : (t : List Range) (cs : List Character) → bytes_of (at_widths t cs) ≡ bytes_of cs
at_bytes t [] = refl
at_bytes t (c ∷ cs) = rw (at_bytes t cs)

pub bytes_by : (t : List Range) (d : Bytes) → bytes_of (chars_by t d) ≡ d
unfolding chars_by
bytes_by t d = at_bytes t (chars d) ∙ bytes-chars d

-- ── the library's widths
abbrev pub back : List Character → List Character
back cs = at_widths ranges cs

at_at : (t u : List Range) (cs : List Character) → at_widths u (at_widths t cs) ≡ at_widths u cs
at_at t u [] = refl
at_at t u (c ∷ cs) = rw (at_at t u cs)

back-valid : (cs : List Character) → Valid cs → back cs ≡ cs
unfolding char_width_of
back-valid [] v = refl
back-valid (c ∷ cs) v = λ i. record { text = c.text; code = c.code; columns = sym v.0.columns i; ok = c.ok } ∷ back-valid cs v.1 i

pub back-chars : (t : List Range) (d : Bytes) → back (chars_by t d) ≡ chars d
unfolding chars_by
back-chars t d = at_at t ranges (chars d) ∙ back-valid (chars d) (valid-chars d)

-- so by its own table the library reads as it does
pub own_chars : (d : Bytes) → chars_by ranges d ≡ chars d
unfolding chars_by
own_chars d = back-valid (chars d) (valid-chars d)

-- ── two tables
at_same : (t u : List Range) (cs : List Character) → AllOf (λ (c : Character). AsWide t u c.code) cs → at_widths t cs ≡ at_widths u cs
at_same t u [] h = refl
at_same t u (c ∷ cs) h = λ i. record { text = c.text; code = c.code; columns = h.0 i; ok = c.ok } ∷ at_same t u cs h.1 i

pub same_chars : (t u : List Range) (d : Bytes) → AllOf (λ (c : Character). AsWide t u c.code) (chars d) → chars_by t d ≡ chars_by u d
unfolding chars_by
same_chars t u d h = at_same t u (chars d) h
