-- The whole output: the heading, then the rows, or the one bad row where the sheet is too long or its first line is not the heading.
use Prim.Native.Nat.{ℕ, ◌+◌, ◌-◌, ◌≤◌, ◌<◌}
use native.Mathlib.Omega.{arith}
use mathlib.Core.Bool.{Bool, true, false}
use mathlib.Core.Path.{◌≡◌, refl, sym, ap, ◌∙◌}
use mathlib.Core.List.{List, [], ◌∷◌, ◌++◌}
use lib.Dec.{leb, ltb}
use lib.ListN.{length, take, drop, length-append}
use lib.Seq.{length-take-le, take_all}
use borrow.Author.Tests.{lt-ltb, le-ltb, le-leb, lt-leb, leb-true, leb-false}
use Rattle.buffer.specs.Place.{over, over_at}
use Rattle.recording.specs.Lists.{same}
use Rattle.recording.specs.Recording.{Bytes}
use Rattle.recording.proofs.Lists.{same_self, same_equal}
use Rattle.sheet.specs.Sheet.{up_to, SheetLine, sheet_line, sheet_lines}
use Rattle.rows.specs.Rows.{bad_row, rows_from, sheet_heading, rows_heading, read_limit, body, output}
use Rattle.buffer.proofs.Laws.{then_put}
use Rattle.sheet.proofs.SheetLaws.{sheet_next}

-- ── texts compared
not_same : (x y : Bytes) (t : Bool) → same x y ≡ t → (x ≡ y → ⊥) → t ≡ false
not_same x y true e h = absurd (h (same_equal x y e))
not_same x y false e h = refl

-- ── the first line, up to e
first_line : (s : Bytes) (e : ℕ) → 0 < length s → e ≡ 0 + length (up_to 0x0A s) → sheet_lines s ≡ sheet_line (take e s) (ltb e (length s)) ∷ sheet_lines (drop (e + 1) s)
first_line s e h k = let z : e - 0 ≡ e = omega arith in rw z at (sheet_next s 0 e h k)

module _ (s : Bytes) where
  pub too_long : 65536 < length s → output s ≡ rows_heading ++ bad_row 0
  unfolding output
  too_long h = simp (lt-leb (length s) 65536 h)

  within : length s ≤ 65536 → output s ≡ rows_heading ++ body (sheet_lines s)
  unfolding output
  within h = simp (le-leb (length s) 65536 h)

  pub no_heading : (e : ℕ) → length s ≤ 65536 → e ≡ 0 + length (up_to 0x0A s) → e < length s → (take e s ≡ sheet_heading → ⊥) → output s ≡ rows_heading ++ bad_row 0
  no_heading e h k more n =
      let f = not_same (take e s) sheet_heading (same (take e s) sheet_heading) refl n in
      within h ∙ ap (λ (ls : List SheetLine). rows_heading ++ body ls) (first_line s e (omega (arith, more)) k) ∙ simp (lt-ltb e (length s) more, f)

  pub with_heading : (e : ℕ) → length s ≤ 65536 → e ≡ 0 + length (up_to 0x0A s) → e < length s → take e s ≡ sheet_heading
      → output s ≡ rows_heading ++ rows_from 0 (sheet_lines (drop (e + 1) s))
  with_heading e h k more n =
      let f : same (take e s) sheet_heading ≡ true = ap (λ (l : Bytes). same l sheet_heading) n ∙ same_self sheet_heading in
      within h ∙ ap (λ (ls : List SheetLine). rows_heading ++ body ls) (first_line s e (omega (arith, more)) k) ∙ simp (lt-ltb e (length s) more, f)

pub no_line : (s : Bytes) (e : ℕ) → length s ≤ 65536 → e ≡ 0 + length (up_to 0x0A s) → e ≡ length s → output s ≡ rows_heading ++ bad_row 0
no_line [] e h k n = within [] h
no_line (b ∷ s) e h k n =
    within (b ∷ s) h ∙ ap (λ (ls : List SheetLine). rows_heading ++ body ls) (first_line (b ∷ s) e (omega arith) k) ∙ simp (le-ltb e (length (b ∷ s)) (omega (arith, n)))

-- the first bytes of an input, as many as are read, have the output of all of it
pub read_enough : (s : Bytes) → output (take read_limit s) ≡ output s
read_enough s = go (leb (length s) read_limit) refl
  where
    go : (t : Bool) → leb (length s) read_limit ≡ t → output (take read_limit s) ≡ output s
    go true e = ap output (take_all read_limit s (leb-true (length s) read_limit e))
    go false e =
        let h : read_limit < length s = leb-false (length s) read_limit e in
        too_long (take read_limit s) (omega (arith, length-take-le read_limit s (omega arith))) ∙ sym (too_long s (omega arith))

-- ── the heading, and what comes after it, in the buffer
over_long : (x o : Bytes) → length x ≤ length (over x o)
unfolding over
over_long x o = omega (arith, length-append x (drop (length x) o))

pub finished : (s out₀ o out rest : Bytes) (n r : ℕ) → output s ≡ rows_heading ++ rest → n ≡ 0 + length rows_heading → o ≡ over_at 0 rows_heading out₀ → r ≡ n + length rest → out ≡ over_at n rest o
    → ((r ≡ length (output s)) × (out ≡ over (output s) out₀)) × ((r ≤ length out) × (r ≡ length (take r out)))
unfolding over_at
finished s out₀ o out rest n r e k f g h =
    let all : out ≡ over (output s) out₀ = then_put 0 rows_heading rest out₀ o out n (omega arith) f k h ∙ ap (λ (l : Bytes). over l out₀) (sym e) in
    let len : r ≡ length (output s) = omega (arith, g, k, ap length e, length-append rows_heading rest) in
    let short : r ≤ length out = omega (arith, len, over_long (output s) out₀, ap length all) in
    ((len, all), (short, sym (length-take-le r out short)))
