-- What the characters of a text are to tab stops, and the line that is made of them: a tab, a 0A, or neither (`sort`); and how the bytes since the last 0A grow with each (`Closed`).
-- The idea: a byte below 80 ends the character before it, so after a tab's spaces the characters that follow are read as in the content, whatever their bytes.
use Prim.Native.Nat.{ℕ, zero, suc, ◌+◌, ◌%◌, ◌≤◌, ◌<◌}
use native.Mathlib.Nat.{mod-lt}
use native.Mathlib.Omega.{arith}
use mathlib.Core.Bool.{Bool, true, false}
use mathlib.Core.Path.{◌≡◌, refl, sym, ap, ◌∙◌}
use mathlib.Core.List.{List, [], ◌∷◌, ◌++◌, append_assoc, append-nil}
use mathlib.Core.Logic.{◌≢◌}
use lib.ListN.{get_or}
use borrow.Author.Tests.{eqb-true, eqb-false}
use Rattle.chars.specs.Utf8.{table37, row_of, tail_len, complete}
use Rattle.chars.specs.Width.{ranges, char_width_of}
use Rattle.chars.specs.Chars.{Character, char_at, chars, bytes_of, wide, width_of, text_width_of}
use Rattle.chars.proofs.CharsLaws.{bytes-chars, bytes-append, Read, chars_beginning, chars_rest, width_append}
use Rattle.chars.proofs.SeamLaws.{High, more_high, low_alone, Low, chars_low, width_none, blank, chars_blank, width_blank}
use Rattle.recording.specs.Recording.{Bytes}
use Rattle.layout.specs.Tabs.{spaces_at_column, spaces, leads_with, column_after}

-- a tab gives at least one space, and at most as many as there are columns between stops
pub some_spaces : (s c : ℕ) → 1 ≤ s → (1 ≤ spaces_at_column s c) × (spaces_at_column s c ≤ s)
some_spaces s c h = let l : c % s < s = mod-lt c h in (omega (arith, l), omega arith)

-- ── a character: a tab, a 0A, or bytes that are neither
abbrev pub Plain : Bytes → Type 0
Plain [] = Unit {0}
Plain (b ∷ d) = (b ≢ 0x09) × (b ≢ 0x0A) × Plain d

high_plain : (d : Bytes) → High d → Plain d
high_plain [] h = tt
high_plain (b ∷ d) h = (λ z. omega (arith, z, h.0), λ z. omega (arith, z, h.0), high_plain d h.1)

pub spaces-plain : (n : ℕ) → Plain (spaces n)
spaces-plain zero = tt
spaces-plain (suc n) = (λ z. omega (arith, z), λ z. omega (arith, z), spaces-plain n)

pub data Sort (ch : Character) : Type 0 where
  tab : leads_with 0x09 ch ≡ true → ch.text ≡ 0x09 ∷ [] → Sort ch
  newline : leads_with 0x09 ch ≡ false → leads_with 0x0A ch ≡ true → ch.text ≡ 0x0A ∷ [] → Sort ch
  other : leads_with 0x09 ch ≡ false → leads_with 0x0A ch ≡ false → Plain ch.text → Sort ch

pub sort : (ch : Character) (rest : List ℕ) → Read ch rest → Sort ch
sort ch rest R = go (leads_with 0x09 ch) refl (leads_with 0x0A ch) refl
  where
    lead : get_or ch.text 0 0 ≡ R.first
    lead = ap (λ (t : List ℕ). get_or t 0 0) R.text

    alone_at : (b : ℕ) → b < 0x80 → leads_with b ch ≡ true → ch.text ≡ b ∷ []
    alone_at b l e =
        let q : R.first ≡ b = sym lead ∙ eqb-true (get_or ch.text 0 0) b e in
        low_alone ch rest R (omega (arith, q, l)) ∙ ap (λ (x : ℕ). x ∷ []) q

    not_at : (b : ℕ) → leads_with b ch ≡ false → R.first ≢ b
    not_at b e z = eqb-false (get_or ch.text 0 0) b e (lead ∙ z)

    go : (s : Bool) → leads_with 0x09 ch ≡ s → (t : Bool) → leads_with 0x0A ch ≡ t → Sort ch
    go true p t q = tab p (alone_at 0x09 (omega arith) p)
    go false p true q = newline p q (alone_at 0x0A (omega arith) q)
    go false p false q = other p q (rw R.text (not_at 0x09 p, not_at 0x0A q, high_plain R.more (more_high ch rest R)))

-- ── spaces
pub chars-spaces : (n : ℕ) (s : Bytes) → chars (spaces n ++ s) ≡ chars (spaces n) ++ chars s
unfolding chars
chars-spaces zero s = refl
chars-spaces (suc n) s = chars_blank (spaces n ++ s) ∙ ap (λ (l : List Character). blank ∷ l) (chars-spaces n s) ∙ ap (λ (l : List Character). l ++ chars s) (sym (chars_blank (spaces n)))

pub width_spaces : (n : ℕ) (s : Bytes) → text_width_of (spaces n ++ s) ≡ n + text_width_of s
width_spaces zero s = omega arith
width_spaces (suc n) s = omega (arith, width_blank (spaces n ++ s), width_spaces n s)

width_only : (n : ℕ) → text_width_of (spaces n) ≡ n
width_only n = ap text_width_of (sym (append-nil (spaces n))) ∙ omega (arith, width_spaces n [], width_none)

pub low_spaces : (n : ℕ) (s : Bytes) → 1 ≤ n → Low (spaces n ++ s)
low_spaces zero s h = absurd (omega arith)
low_spaces (suc n) s h = omega arith

chars_line : (line : Bytes) (n : ℕ) → 1 ≤ n → chars (line ++ spaces n) ≡ chars line ++ chars (spaces n)
chars_line line n h = chars_low line (spaces n) (rw (append-nil (spaces n)) at (low_spaces n [] h))

pub width_line : (line : Bytes) (n : ℕ) → 1 ≤ n → text_width_of (line ++ spaces n) ≡ text_width_of line + n
unfolding text_width_of
width_line line n h = ap width_of (chars_line line n h) ∙ omega (arith, width_append (chars line) (chars (spaces n)), width_only n)

-- ── the line so far, which the characters cs follow: its last character ends with it
abbrev pub Closed : Bytes → List Character → Type 0
Closed line cs = chars (line ++ bytes_of cs) ≡ chars line ++ cs

pub closed_start : (d : Bytes) → Closed [] (chars d)
unfolding chars
closed_start d = ap chars (bytes-chars d)

module _ (line : Bytes) (ch : Character) (cs : List Character) (k : Closed line (ch ∷ cs)) where
  parted : chars (line ++ (ch.text ++ bytes_of cs)) ≡ (chars line ++ (ch ∷ [])) ++ cs
  parted = k ∙ sym (append_assoc (chars line) (ch ∷ []) cs)

  bytes_more : bytes_of (chars line ++ (ch ∷ [])) ≡ line ++ ch.text
  bytes_more = bytes-append (chars line) (ch ∷ []) ∙ rw (bytes-chars line, append-nil ch.text)

  chars_more : chars (line ++ ch.text) ≡ chars line ++ (ch ∷ [])
  chars_more = rw (← bytes_more) (chars_beginning (line ++ (ch.text ++ bytes_of cs)) (chars line ++ (ch ∷ [])) cs parted)

  chars_after : chars (bytes_of cs) ≡ cs
  chars_after = chars_rest (line ++ (ch.text ++ bytes_of cs)) (chars line ++ (ch ∷ [])) cs parted

  -- with the next character
  pub closed_more : Closed (line ++ ch.text) cs
  closed_more = ap chars (append_assoc line ch.text (bytes_of cs)) ∙ parted ∙ ap (λ (l : List Character). l ++ cs) (sym chars_more)

  width_more : text_width_of (line ++ ch.text) ≡ text_width_of line + wide ch
  unfolding text_width_of
  width_more = ap width_of chars_more ∙ omega (arith, width_append (chars line) (ch ∷ []))

  -- with a new line
  pub closed_new : Closed [] cs
  unfolding chars
  closed_new = chars_after

  -- with spaces in its stead
  pub closed_spaces : (n : ℕ) → 1 ≤ n → Closed (line ++ spaces n) cs
  closed_spaces n h =
      let f : chars (line ++ (spaces n ++ bytes_of cs)) ≡ chars line ++ (chars (spaces n) ++ cs) =
      chars_low line (spaces n ++ bytes_of cs) (low_spaces n (bytes_of cs) h) ∙ ap (λ (l : List Character). chars line ++ l) (chars-spaces n (bytes_of cs) ∙ rw chars_after) in
      ap chars (append_assoc line (spaces n) (bytes_of cs)) ∙ f ∙ sym (append_assoc (chars line) (chars (spaces n)) cs) ∙ ap (λ (l : List Character). l ++ cs) (sym (chars_line line n h))

-- ── the definition's column, from the width of the line so far, is the width of the line after the character
module _ (s : ℕ) (line : Bytes) (ch : Character) where
  pub column_tab : 1 ≤ s → leads_with 0x09 ch ≡ true → column_after s (text_width_of line) ch ≡ text_width_of (line ++ spaces (spaces_at_column s (text_width_of line)))
  column_tab h t = rw t (omega (arith, width_line line (spaces_at_column s (text_width_of line)) (some_spaces s (text_width_of line) h).0))

  pub column_new : leads_with 0x09 ch ≡ false → leads_with 0x0A ch ≡ true → column_after s (text_width_of line) ch ≡ text_width_of []
  column_new t u = rw (t, u) (omega (arith, width_none))

  pub column_more : (cs : List Character) → Closed line (ch ∷ cs) → leads_with 0x09 ch ≡ false → leads_with 0x0A ch ≡ false → column_after s (text_width_of line) ch ≡ text_width_of (line ++ ch.text)
  column_more cs k t u = rw (t, u) (omega (arith, width_more line ch cs k))

-- ── a tab is read as one character, whatever follows
abbrev pub tab_char : Character
tab_char = record { text = 0x09 ∷ []; code = 0x09; columns = 0; ok = true }

pub chars_tab : (y : Bytes) → chars (0x09 ∷ y) ≡ tab_char ∷ chars y
unfolding chars char_at tail_len row_of table37 complete char_width_of ranges
chars_tab y = refl
