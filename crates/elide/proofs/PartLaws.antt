-- The parts of text and ellipsis that the code writes are the definitions' bytes, and their widths are the definitions' widths: the kept characters' bytes are a beginning or an ending.
use Prim.Native.Nat.{ℕ, suc, ◌+◌, ◌-◌, ◌≤◌, ◌<◌}
use native.Mathlib.Omega.{arith}
use mathlib.Core.Bool.{true, cond}
use mathlib.Core.Path.{◌≡◌, refl, sym, ap, ◌∙◌}
use mathlib.Core.List.{[], ◌∷◌, ◌++◌, reverse}
use lib.Dec.{eqb}
use lib.Seq.{take-length}
use lib.ListN.{length, take, drop, get_or}
use borrow.Author.Tests.{lt-ltb, le-ltb, eq-eqb, ne_eqb}
use Rattle.chars.specs.Chars.{chars, width_of, text_width_of, well_formed_of}
use Rattle.chars.specs.Cut.{kept_within, truncate_end_pos_of, truncate_end_width, truncate_start_pos_of, truncate_start_width}
use Rattle.chars.proofs.CutLaws.{kept_end, width_reverse}
use Rattle.buffer.specs.Place.{part}
use Rattle.recording.specs.Recording.{Bytes}
use Rattle.elide.specs.Elide.{cut_at_start, fit_at_start, trimmed, elide_end_of, elide_start_of, missing_newline}
use Rattle.elide.proofs.ElideLaws.{cut_start_lem, fit_start, fit_end, cut_bytes, cut_back_on, well_formed_before}

-- all of it
pub whole : (s : Bytes) → part 0 (length s) s ≡ s
whole s = let e : length s - 0 ≡ length s = omega arith in rw e (take-length s)

-- ── at the end
module _ (m : ℕ) (s e : Bytes) where
  pub end_uncut : text_width_of s ≤ m → (s ≡ (elide_end_of m s e).text) × (text_width_of s ≡ (elide_end_of m s e).columns)
  unfolding elide_end_of
  end_uncut h = (simp (le-ltb m (text_width_of s) h), simp (le-ltb m (text_width_of s) h))

  pub end_alone : m < text_width_of s → m < text_width_of e → (take (truncate_end_pos_of m e) e ≡ (elide_end_of m s e).text) × (truncate_end_width m e ≡ (elide_end_of m s e).columns)
  unfolding elide_end_of truncate_end_width
  end_alone h k = (simp (lt-ltb m (text_width_of s) h, lt-ltb m (text_width_of e) k) (kept_end m e), simp (lt-ltb m (text_width_of s) h, lt-ltb m (text_width_of e) k))

  pub end_both : m < text_width_of s → text_width_of e ≤ m
      → (take (truncate_end_pos_of (m - text_width_of e) s) s ++ e ≡ (elide_end_of m s e).text) × (truncate_end_width (m - text_width_of e) s + text_width_of e ≡ (elide_end_of m s e).columns)
  unfolding elide_end_of truncate_end_width
  end_both h k =
      let r = m - text_width_of e in
      let f = fit_end m (text_width_of e) (chars s) in (
        simp (lt-ltb m (text_width_of s) h, le-ltb m (text_width_of e) k, f) (rw (kept_end r s)),
        simp (lt-ltb m (text_width_of s) h, le-ltb m (text_width_of e) k, f),
      )

-- ── at the start
-- a cut to a, which is at most m, and one of what is before it, to what is left of m: together the cut to m
pub two_cuts_back : (a m : ℕ) (s : Bytes) (p w q v : ℕ) → a ≤ m → p ≡ truncate_start_pos_of a s → w ≡ truncate_start_width a s
    → q ≡ truncate_start_pos_of (m - w) (take p s) → v ≡ truncate_start_width (m - w) (take p s)
    → (q ≡ truncate_start_pos_of m s) × (w + v ≡ truncate_start_width m s)
two_cuts_back a m s p w q v h e f g k =
    let c = cut_back_on a s m h in
    let r : take p s ≡ take (truncate_start_pos_of a s) s = ap (λ (j : ℕ). take j s) e in
    let x : q ≡ truncate_start_pos_of (m - truncate_start_width a s) (take (truncate_start_pos_of a s) s) = g ∙ λ i. truncate_start_pos_of (m - f i) (r i) in
    let y : v ≡ truncate_start_width (m - truncate_start_width a s) (take (truncate_start_pos_of a s) s) = k ∙ λ i. truncate_start_width (m - f i) (r i) in
    (x ∙ sym c.0, omega (arith, f, y, c.1))

pub front_well_formed : (a : ℕ) (s : Bytes) (p : ℕ) → well_formed_of s ≡ true → p ≡ truncate_start_pos_of a s → well_formed_of (take p s) ≡ true
front_well_formed a s p h e = ap (λ (j : ℕ). well_formed_of (take j s)) e ∙ well_formed_before a s h

pub cut_width : (m : ℕ) (s : Bytes) → truncate_start_width m s ≡ width_of (cut_at_start m (chars s))
unfolding truncate_start_width
cut_width m s = sym (width_reverse (kept_within m (reverse (chars s))))

module _ (m : ℕ) (s e : Bytes) where
  pub start_uncut : text_width_of s ≤ m → (s ≡ (elide_start_of m s e).text) × (text_width_of s ≡ (elide_start_of m s e).columns)
  unfolding elide_start_of
  start_uncut h = (simp (le-ltb m (text_width_of s) h), simp (le-ltb m (text_width_of s) h))

  pub start_alone : m < text_width_of s → m < text_width_of e
      → (trimmed (drop (truncate_start_pos_of m e) e) ≡ (elide_start_of m s e).text) × (truncate_start_width m e ≡ (elide_start_of m s e).columns)
  unfolding elide_start_of
  start_alone h k =
      (simp (lt-ltb m (text_width_of s) h, lt-ltb m (text_width_of e) k) (ap trimmed (cut_bytes m e)), simp (lt-ltb m (text_width_of s) h, lt-ltb m (text_width_of e) k) (cut_width m e))

  pub start_both : m < text_width_of s → text_width_of e ≤ m
      → (e ++ trimmed (drop (truncate_start_pos_of (m - text_width_of e) s) s) ≡ (elide_start_of m s e).text) × (truncate_start_width (m - text_width_of e) s + text_width_of e ≡ (elide_start_of m s e).columns)
  unfolding elide_start_of
  start_both h k =
      let r = m - text_width_of e in
      let f : fit_at_start m (text_width_of e) (chars s) ≡ cut_at_start r (chars s) = fit_start m (text_width_of e) (chars s) ∙ sym (cut_start_lem r (chars s)) in (
        simp (lt-ltb m (text_width_of s) h, le-ltb m (text_width_of e) k, f) (rw (cut_bytes r s)),
        simp (lt-ltb m (text_width_of s) h, le-ltb m (text_width_of e) k, f) (rw (cut_width r s)),
      )

-- ── the newline
last_byte : (b : ℕ) (s : Bytes) → missing_newline (b ∷ s) ≡ cond (eqb (get_or (b ∷ s) (length s) 0) 0x0A) [] (0x0A ∷ [])
last_byte b [] = refl
last_byte b (c ∷ s) = last_byte c s

pub newline_none : (s : Bytes) → length s ≡ 0 → [] ≡ missing_newline s
newline_none [] h = refl
newline_none (b ∷ s) h = absurd (omega arith)

pub newline_there : (s : Bytes) → (length s ≡ 0 → ⊥) → get_or s (length s - 1) 0 ≡ 0x0A → [] ≡ missing_newline s
newline_there [] h e = refl
newline_there (b ∷ s) h e =
    let k : suc (length s) - 1 ≡ length s = omega arith in
    rw (last_byte b s) (simp (eq-eqb (get_or (b ∷ s) (length s) 0) 0x0A (rw k at e)))

pub newline_missing : (s : Bytes) → (length s ≡ 0 → ⊥) → (get_or s (length s - 1) 0 ≡ 0x0A → ⊥) → 0x0A ∷ [] ≡ missing_newline s
newline_missing [] h e = absurd (h refl)
newline_missing (b ∷ s) h e =
    let k : suc (length s) - 1 ≡ length s = omega arith in
    rw (last_byte b s) (simp (ne_eqb (get_or (b ∷ s) (length s) 0) 0x0A (rw k at e)))
