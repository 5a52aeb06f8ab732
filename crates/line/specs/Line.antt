-- What the functions of this crate give, as records.
use Rattle.std.specs.Prelude.{ℕ, ◌+◌, ◌-◌, Bool, true, false, cond, ◌&&◌, not, List, [], ◌∷◌, Option, Some, None, leb, eqb, length, drop}
use Rattle.std.specs.List.{prefix_len}
use Rattle.chars.specs.Chars.{Character, chars, bytes_of, wide, width_of}
use Rattle.chars.specs.declared.Seen.{Seen}
use Rattle.layout.specs.Wrap.{Line}
use Rattle.line.specs.Rest.{rest_lines, word_text, one_char_of}
use Rattle.line.specs.declared.Head.{Head}
use Rattle.line.specs.declared.Next.{Next}

-- the first character, if there is one: how many bytes it takes and how wide it is
unfoldable pub seen_of : List Character → Option Seen
seen_of [] = None
seen_of (c ∷ cs) = Some (record { len = length c.text; width = wide c })

-- one character of the word that d begins with, with the zero-width characters after it
unfoldable pub one_head : List ℕ → Head
one_head d = record { len = length (bytes_of (one_char_of (chars (word_text d)))); width = width_of (one_char_of (chars (word_text d))) }

abbrev pub pick_head : Bool → Head → Head → Head
pick_head true a b = a
pick_head false a b = b

-- the head that the search for a cut gives; place 0: one character
unfoldable pub head_from : ℕ → ℕ → List ℕ → Head
head_from cut width d = pick_head (eqb cut 0) (one_head d) (record { len = cut; width = width })

-- how wide the next head may be: the first of a line up to the width to break at, any other what is left of the line
unfoldable pub room_of_state : Bool → ℕ → ℕ → ℕ → ℕ
room_of_state first run w limit = cond first limit (w - run)

-- visible ASCII: printable, and no space
abbrev pub visible : ℕ → Bool
visible x = leb 0x21 x && leb x 0x7E

-- how many such bytes d begins with
unfoldable pub visible_len_of : List ℕ → ℕ
visible_len_of d = prefix_len visible d

-- whether the line of the data goes on in d
unfoldable pub in_line_text : List ℕ → Bool
in_line_text [] = false
in_line_text (x ∷ d) = not (eqb x 0x0A)

-- whether a head may come on the line after one with `gap` bytes 20 behind it, where d is left
unfoldable pub goes_on_in : ℕ → List ℕ → Bool
goes_on_in gap d = cond (eqb gap 0) false (in_line_text d)

-- what comes after a line that ends at `end` and is `width` wide, where d is left and starts at `here`: nothing, the next line of the data, or a line that starts with the word that did not fit
unfoldable pub after_line_of : ℕ → ℕ → ℕ → List ℕ → Next
after_line_of end width here [] = record { end = end; width = width; next = None }
after_line_of end width here (x ∷ d) = record { end = end; width = width; next = Some (cond (eqb x 0x0A) (here + 1) here) }

-- the lines of the data d from a place on, if there is one
abbrev pub lines_on : ℕ → Bool → List ℕ → Option ℕ → List Line
lines_on w b d None = []
lines_on w b d (Some n) = rest_lines w b n (drop n d)

-- the lines of the data d that come after the one that was found
abbrev pub following : ℕ → Bool → List ℕ → Next → List Line
following w b d r = lines_on w b d r.next
