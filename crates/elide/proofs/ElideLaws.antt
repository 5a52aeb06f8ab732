-- Cutting to max and then leaving characters until the ellipsis fits is one cut, to max less the ellipsis: so the code cuts once.
-- The idea: both keep the longest stretch at the other side that is narrow enough.
use Prim.Native.Nat.{ℕ, ◌+◌, ◌-◌, ◌≤◌, ◌<◌}
use native.Mathlib.Omega.{arith}
use native.Mathlib.Nat.{lt_of_not-le}
use mathlib.Core.Bool.{Bool, true, false, cond}
use mathlib.Core.Path.{◌≡◌, refl, sym, ap, ◌∙◌}
use mathlib.Core.List.{List, [], ◌∷◌, ◌++◌, reverse, reverse-append, reverse-reverse}
use lib.Dec.{leb, ltb, eqb}
use lib.ListN.{length, take, drop, length-append, length-drop}
use lib.Seq.{length-take-le, take-append_seam}
use borrow.Author.Tests.{leb-false, leb-true, lt-leb, eq-eqb, ne_eqb, ltb-false}
use Rattle.chars.specs.Chars.{Character, chars, bytes_of, wide, width_of, text_width_of, all_ok, well_formed_of}
use Rattle.chars.specs.Cut.{kept_within, truncate_start_pos_of, truncate_start_width}
use Rattle.chars.proofs.CharsLaws.{bytes-chars, bytes-append, width_append, chars_beginning, chars_rest}
use Rattle.chars.proofs.FitLaws.{kept_on}
use Rattle.chars.proofs.JoinLaws.{ok_beginning}
use Rattle.chars.proofs.CutLaws.{longest, kept_rest, before_longest, split_kept, split_longest, kept_back, kept_within_lem, width_reverse, longest_whole}
use Rattle.chars.proofs.CutLaws.{kept_start, start_pos_lem, start_width_lem}
use Rattle.recording.specs.Recording.{Bytes}
use Rattle.elide.specs.Elide.{leaving, cut_at_start, fit_at_end, fit_at_start, elide_end_of, elide_start_of, elided, trimmed}

-- characters that leave until `room` is enough leave the longest ending within it
leaving_longest : (room : ℕ) (cs : List Character) → leaving (width_of cs - room) cs ≡ longest room cs
leaving_longest room [] = refl
leaving_longest room (c ∷ cs) = go (leb (wide c + width_of cs) room) refl (leaving_longest room cs)
  where
    go : (t : Bool) → leb (wide c + width_of cs) room ≡ t → leaving (width_of cs - room) cs ≡ longest room cs
        → cond (eqb ((wide c + width_of cs) - room) 0) (c ∷ cs) (leaving (((wide c + width_of cs) - room) - wide c) cs) ≡ cond t (c ∷ cs) (longest room cs)
    go true e ih = simp (eq-eqb ((wide c + width_of cs) - room) 0 (omega (arith, leb-true (wide c + width_of cs) room e)))
    go false e ih =
        let n : ((wide c + width_of cs) - room) - wide c ≡ width_of cs - room = omega (arith, leb-false (wide c + width_of cs) room e) in
        simp (ne_eqb ((wide c + width_of cs) - room) 0 (λ z. omega (arith, leb-false (wide c + width_of cs) room e, z)), n) ih

-- a narrower cut after a wider one is the narrower cut
longest_twice : (room m : ℕ) (cs : List Character) → room ≤ m → longest room (longest m cs) ≡ longest room cs
longest_twice room m [] h = refl
longest_twice room m (c ∷ cs) h = go (leb (wide c + width_of cs) m) refl (longest_twice room m cs h)
  where
    go : (t : Bool) → leb (wide c + width_of cs) m ≡ t → longest room (longest m cs) ≡ longest room cs
        → longest room (cond t (c ∷ cs) (longest m cs)) ≡ cond (leb (wide c + width_of cs) room) (c ∷ cs) (longest room cs)
    go true e ih = refl
    go false e ih = simp (lt-leb (wide c + width_of cs) room (omega (arith, leb-false (wide c + width_of cs) m e))) ih

kept_twice : (room m : ℕ) (cs : List Character) → room ≤ m → kept_within room (kept_within m cs) ≡ kept_within room cs
kept_twice room m [] h = refl
kept_twice room m (c ∷ cs) h = go (leb (wide c) m) refl (kept_twice (room - wide c) (m - wide c) cs (omega arith))
  where
    go : (t : Bool) → leb (wide c) m ≡ t → kept_within (room - wide c) (kept_within (m - wide c) cs) ≡ kept_within (room - wide c) cs
        → kept_within room (cond t (c ∷ kept_within (m - wide c) cs) []) ≡ cond (leb (wide c) room) (c ∷ kept_within (room - wide c) cs) []
    go true e ih = ap (λ (l : List Character). cond (leb (wide c) room) (c ∷ l) []) ih
    go false e ih = simp (lt-leb (wide c) room (omega (arith, leb-false (wide c) m e)))

pub cut_start_lem : (m : ℕ) (cs : List Character) → cut_at_start m cs ≡ longest m cs
cut_start_lem m cs = ap reverse (kept_back m cs) ∙ reverse-reverse (longest m cs)

pub fit_start : (m e : ℕ) (cs : List Character) → fit_at_start m e cs ≡ longest (m - e) cs
unfolding fit_at_start
fit_start m e cs =
    leaving_longest (m - e) (cut_at_start m cs) ∙ ap (longest (m - e)) (cut_start_lem m cs) ∙ longest_twice (m - e) m cs (omega arith)

pub fit_end : (m e : ℕ) (cs : List Character) → fit_at_end m e cs ≡ kept_within (m - e) cs
unfolding fit_at_end
fit_end m e cs =
    let kept = kept_within m cs in
    let w : width_of kept - (m - e) ≡ width_of (reverse kept) - (m - e) = omega (arith, width_reverse kept) in
    ap (λ (n : ℕ). reverse (leaving n (reverse kept))) w ∙ ap reverse (leaving_longest (m - e) (reverse kept)) ∙ sym (kept_back (m - e) (reverse kept))
    ∙ ap (kept_within (m - e)) (reverse-reverse kept) ∙ kept_twice (m - e) m cs (omega arith)

-- ── a cut that goes on from a narrower one, and that reaches the start: as at the end (`chars/proofs/FitLaws.antt`), from the last character back
longest_within : (m : ℕ) (cs : List Character) → width_of (longest m cs) ≤ m
longest_within m cs = omega (arith, width_reverse (longest m cs), ap width_of (kept_back m cs), kept_within_lem m (reverse cs))

pub cut_bytes : (m : ℕ) (s : Bytes) → drop (truncate_start_pos_of m s) s ≡ bytes_of (cut_at_start m (chars s))
cut_bytes m s = kept_start m s ∙ ap bytes_of (sym (cut_start_lem m (chars s)))

-- what is before a cut
module _ (a : ℕ) (s : Bytes) where
  abbrev before : List Character
  before = reverse (kept_rest a (reverse (chars s)))

  cut_split : chars s ≡ before ++ cut_at_start a (chars s)
  cut_split = sym (reverse-reverse (chars s)) ∙ ap reverse (split_kept a (reverse (chars s))) ∙ reverse-append (kept_within a (reverse (chars s))) (kept_rest a (reverse (chars s)))

  cut_text : s ≡ bytes_of before ++ bytes_of (cut_at_start a (chars s))
  cut_text = sym (bytes-chars s) ∙ ap bytes_of cut_split ∙ bytes-append before (cut_at_start a (chars s))

  cut_place : truncate_start_pos_of a s ≡ length (bytes_of before)
  unfolding truncate_start_pos_of
  cut_place =
      omega (arith, ap length (cut_bytes a s), length-drop (truncate_start_pos_of a s) s, ap length cut_text, length-append (bytes_of before) (bytes_of (cut_at_start a (chars s))))

  chars-before : chars (take (truncate_start_pos_of a s) s) ≡ before
  chars-before =
      let e : take (truncate_start_pos_of a s) s ≡ bytes_of before =
      ap (λ (n : ℕ). take n s) cut_place ∙ ap (take (length (bytes_of before))) cut_text ∙ take-append_seam (bytes_of before) (bytes_of (cut_at_start a (chars s))) in
      ap chars e ∙ chars_beginning s before (cut_at_start a (chars s)) cut_split

  pub well_formed_before : well_formed_of s ≡ true → well_formed_of (take (truncate_start_pos_of a s) s) ≡ true
  unfolding well_formed_of
  well_formed_before h = ap all_ok chars-before ∙ ok_beginning before (cut_at_start a (chars s)) (ap all_ok (sym cut_split) ∙ h)

  -- the place and the width of a wider cut, from the width of this one and the cut of what is before it
  pub cut_back_on : (m : ℕ) → a ≤ m
      → (truncate_start_pos_of m s ≡ truncate_start_pos_of (m - truncate_start_width a s) (take (truncate_start_pos_of a s) s))
      × (truncate_start_width m s ≡ truncate_start_width a s + truncate_start_width (m - truncate_start_width a s) (take (truncate_start_pos_of a s) s))
  unfolding truncate_start_pos_of truncate_start_width
  cut_back_on m h =
      let s' : Bytes = take (truncate_start_pos_of a s) s in
      let xs : List Character = kept_within a (reverse (chars s)) in
      let ys : List Character = kept_within (m - width_of xs) (reverse (chars s')) in
      let rest : reverse (chars s') ≡ kept_rest a (reverse (chars s)) = ap reverse chars-before ∙ reverse-reverse (kept_rest a (reverse (chars s))) in
      let k : kept_within m (reverse (chars s)) ≡ xs ++ ys = kept_on a m (reverse (chars s)) h ∙ ap (λ (l : List Character). xs ++ kept_within (m - width_of xs) l) (sym rest) in
      let n : length s' ≡ length s - length (bytes_of xs) = length-take-le (truncate_start_pos_of a s) s (omega arith) in
      (omega (arith, n, ap (λ (l : List Character). length (bytes_of l)) k ∙ ap length (bytes-append xs ys) ∙ length-append (bytes_of xs) (bytes_of ys)), ap width_of k ∙ width_append xs ys)

pub fits_back : (m : ℕ) (s : Bytes) → text_width_of s ≤ m → (truncate_start_pos_of m s ≡ 0) × (truncate_start_width m s ≡ text_width_of s)
unfolding text_width_of
fits_back m s h =
    let k = longest_whole m (chars s) h in
    (omega (arith, start_pos_lem m s, ap (λ (l : List Character). length (bytes_of l)) k, ap length (bytes-chars s)), start_width_lem m s ∙ ap width_of k)

pub reaches_start : (m : ℕ) (s : Bytes) → truncate_start_pos_of m s ≡ 0 → text_width_of s ≤ m
unfolding text_width_of
reaches_start m s h =
    let whole : s ≡ bytes_of (longest m (chars s)) = ap (λ (n : ℕ). drop n s) (sym h) ∙ kept_start m s in
    let e : chars s ≡ longest m (chars s) = ap chars whole ∙ chars_rest s (before_longest m (chars s)) (longest m (chars s)) (split_longest m (chars s)) in
    omega (arith, ap width_of e, longest_within m (chars s))

pub passes-back : (m : ℕ) (s : Bytes) → (truncate_start_pos_of m s ≡ 0 → ⊥) → m < text_width_of s
passes-back m s h = lt_of_not-le (λ k. h (fits_back m s k).0)

-- ── no result is wider than max
pub end_within : (m : ℕ) (s e : Bytes) → (elide_end_of m s e).columns ≤ m
unfolding elide_end_of
end_within m s e = go (ltb m (text_width_of s)) refl (ltb m (text_width_of e)) refl
  where
    go : (t : Bool) → ltb m (text_width_of s) ≡ t → (u : Bool) → ltb m (text_width_of e) ≡ u
        → (cond t (cond u (elided (bytes_of (kept_within m (chars e))) (width_of (kept_within m (chars e))))
        (elided (bytes_of (fit_at_end m (text_width_of e) (chars s)) ++ e) (width_of (fit_at_end m (text_width_of e) (chars s)) + text_width_of e))) (elided s (text_width_of s))).columns ≤ m
    go true p true q = kept_within_lem m (chars e)
    go true p false q =
        let h = ltb-false m (text_width_of e) q in
        omega (arith, h, ap width_of (fit_end m (text_width_of e) (chars s)), kept_within_lem (m - text_width_of e) (chars s))
    go false p u q = ltb-false m (text_width_of s) p

pub start_within : (m : ℕ) (s e : Bytes) → (elide_start_of m s e).columns ≤ m
unfolding elide_start_of
start_within m s e = go (ltb m (text_width_of s)) refl (ltb m (text_width_of e)) refl
  where
    go : (t : Bool) → ltb m (text_width_of s) ≡ t → (u : Bool) → ltb m (text_width_of e) ≡ u
        → (cond t (cond u (elided (trimmed (bytes_of (cut_at_start m (chars e)))) (width_of (cut_at_start m (chars e))))
        (elided (e ++ trimmed (bytes_of (fit_at_start m (text_width_of e) (chars s)))) (width_of (fit_at_start m (text_width_of e) (chars s)) + text_width_of e))) (elided s (text_width_of s))).columns ≤ m
    go true p true q = omega (arith, ap width_of (cut_start_lem m (chars e)), longest_within m (chars e))
    go true p false q =
        let h = ltb-false m (text_width_of e) q in
        omega (arith, h, ap width_of (fit_start m (text_width_of e) (chars s)), longest_within (m - text_width_of e) (chars s))
    go false p u q = ltb-false m (text_width_of s) p
