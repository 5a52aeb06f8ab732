-- A run of whole characters from `at` on, one character further (`char_further`), and where it may end without a look at its characters (`seam_end`, `seam_before`).
-- The idea: the characters passed and those to come are the characters from `at` on; no character goes on past a byte that does not trail.
use Prim.Native.Nat.{ℕ, zero, suc, ◌+◌, ◌-◌, ◌*◌, ◌≤◌, ◌<◌}
use native.Mathlib.Omega.{arith}
use mathlib.Core.Bool.{Bool, true, false, ◌&&◌, false≢true}
use mathlib.Core.Path.{◌≡◌, refl, sym, ap, subst, ◌∙◌}
use mathlib.Core.List.{List, [], ◌∷◌, ◌++◌, append_assoc}
use lib.Dec.{leb}
use lib.ListN.{length, drop, get_or, length-append, drop_of_length-le}
use lib.Seq.{drop-cons, drop-drop}
use borrow.Author.Tests.{ne_eqb, le-leb, leb-true}
use Rattle.std.specs.List.{prefix_len}
use Rattle.std.proofs.lemmas.List.{get_or-take, get_or-drop}
use Rattle.std.proofs.lemmas.List.Sums.{prefix_len-le-length, prefix_len_passes}
use Rattle.buffer.specs.Place.{part}
use Rattle.buffer.proofs.Laws.{length_part}
use Rattle.chars.specs.Utf8.{within, table37, row_of, Trails, tail_len}
use Rattle.chars.specs.Chars.{Character, char_at, char_in, chars, Seam, bytes_of, wide, width_of}
use Rattle.chars.proofs.CharsLaws.{bytes-chars, bytes-append, char_next, width_append}
use Rattle.chars.proofs.FoldLaws.{plain}
use Rattle.chars.proofs.SeamLaws.{seam_start, seam_after, NoTrail, seam_apart}
use Rattle.recording.specs.Lists.{same}
use Rattle.char_runs.specs.Runs.{NoNewlines, Passes, VisibleFrom, Covered}

-- ── where characters end
-- at `at` itself
pub seam_none : (s : List ℕ) (at : ℕ) → Seam (drop at s) (at - at)
seam_none s at = let z : at - at ≡ 0 = omega arith in rw z (seam_start (drop at s))

-- the bytes from a place on, as those from `at` on have them
drop_from : (s : List ℕ) (at end : ℕ) → at ≤ end → drop (end - at) (drop at s) ≡ drop end s
drop_from s at end h = let z : at + (end - at) ≡ end = omega arith in drop-drop (end - at) at s ∙ ap (λ (n : ℕ). drop n s) z

-- at the text's end
pub seam_end : (s : List ℕ) (at end : ℕ) → at ≤ end → end ≡ length s → Seam (drop at s) (end - at)
seam_end s at end h e = seam_apart (drop at s) (end - at) (subst NoTrail (sym (drop_from s at end h ∙ drop_of_length-le s {i = end} (omega arith))) tt)

-- the code's test of a byte
within-trails : (b : ℕ) → within 0x80 0xBF b ≡ false → Trails b → ⊥
within-trails b e t = false≢true (sym e ∙ rw (le-leb 0x80 b t.0, le-leb b 0xBF t.1))

-- before a byte that continues no sequence
pub seam_before : (s : List ℕ) (at end : ℕ) → at ≤ end → end < length s → within 0x80 0xBF (get_or s end 0) ≡ false → Seam (drop at s) (end - at)
seam_before s at end h m e = seam_apart (drop at s) (end - at) (subst NoTrail (sym (drop_from s at end h ∙ drop-cons s end 0 m)) (within-trails (get_or s end 0) e))

-- ── one character further
pub char_further : (s : List ℕ) (at i n : ℕ) → at ≤ i → i < length s → n ≡ length (char_in i s).text → Seam (drop at s) (i - at)
    → Seam (drop at s) (i + n - at) × (chars (part at (i + n) s) ≡ chars (part at i s) ++ (char_in i s ∷ []))
char_further s at i n h m e p =
    let done : List Character = chars (part at i s) in
    let xs : List Character = done ++ (char_in i s ∷ []) in
    let ys : List Character = chars (drop (i + n) s) in
    let next : chars (drop (i - at) (drop at s)) ≡ char_in i s ∷ ys = ap chars (drop_from s at i h) ∙ char_next s i m ∙ ap (λ (k : ℕ). char_in i s ∷ chars (drop (i + k) s)) (sym e) in
    let all : chars (drop at s) ≡ xs ++ ys = p ∙ ap (λ (l : List Character). done ++ l) next ∙ sym (append_assoc done (char_in i s ∷ []) ys) in
    let b : bytes_of xs ≡ part at i s ++ ((char_in i s).text ++ []) = bytes-append done (char_in i s ∷ []) ∙ ap (λ (l : List ℕ). l ++ ((char_in i s).text ++ [])) (bytes-chars (part at i s)) in
    let long : length (bytes_of xs) ≡ i + n - at =
    omega (arith, ap length b, length-append (part at i s) ((char_in i s).text ++ []), length-append (char_in i s).text [], length_part at i s (omega (arith, m)), e, h) in
    rw long at (seam_after (drop at s) xs ys all)

-- ── a 0A among them
-- a character that starts with another byte is none
pub no_newline : (s : List ℕ) (i : ℕ) → (get_or s i 0 ≡ 0x0A → ⊥) → same (char_in i s).text (0x0A ∷ []) ≡ false
unfolding char_in char_at
no_newline s i h = rw (ne_eqb (get_or s i 0) 0x0A h)

-- and one that starts with it is it
pub newline_alone : (s : List ℕ) (i : ℕ) → get_or s i 0 ≡ 0x0A → same (char_in i s).text (0x0A ∷ []) ≡ true
unfolding char_in char_at tail_len row_of table37
newline_alone s i h = rw h

-- none in one list and none in another
plain-append : (xs ys : List Character) → NoNewlines xs → NoNewlines ys → NoNewlines (xs ++ ys)
plain-append [] ys p q = q
plain-append (x ∷ xs) ys p q = (p.0, plain-append xs ys p.1 q)

-- ── whole characters without a 0A from `at` up to i, and their width
pub record Plain (s : List ℕ) (at end i width : ℕ) : Type 0 where
  pub from : at ≤ i
  pub to : i ≤ end
  pub seam : Seam (drop at s) (i - at)
  pub plain : NoNewlines (chars (part at i s))
  pub columns : width ≡ width_of (chars (part at i s))
  pub narrow : width ≤ 2 * (i - at)

-- none so far
plain_none : (s : List ℕ) (at end : ℕ) → at ≤ end → Plain s at end at 0
unfolding chars
plain_none s at end h =
    let z : at - at ≡ 0 = omega arith in
    record { from = omega arith; to = h; seam = seam_none s at; plain = rw z tt; columns = rw z refl; narrow = omega arith }

-- one character more
pub plain_further : (s : List ℕ) (at end i width n w : ℕ) → i < length s → i + n ≤ end → 1 ≤ n → w ≤ 2 → n ≡ length (char_in i s).text → w ≡ wide (char_in i s) → (get_or s i 0 ≡ 0x0A → ⊥)
    → Plain s at end i width → Plain s at end (i + n) (width + w)
plain_further s at end i width n w m t some two e f b p =
    let q = char_further s at i n p.from m e p.seam in
    let done : List Character = chars (part at i s) in
    record {
      from = omega (arith, p.from);
      to = t;
      seam = q.0;
      plain = rw q.1 (plain-append done (char_in i s ∷ []) p.plain (no_newline s i b, tt));
      columns = omega (arith, p.columns, f, ap width_of q.1, width_append done (char_in i s ∷ []));
      narrow = omega (arith, p.narrow, p.from, some, two);
    }

-- the visible bytes from `at` on, up to `end`
unfoldable pub visible : ℕ → Bool
visible x = leb 0x20 x && leb x 0x7E

visible_bounds : (x : ℕ) → visible x ≡ true → (0x20 ≤ x) × (x ≤ 0x7E)
unfolding visible
visible_bounds x e = go (leb 0x20 x) refl (leb x 0x7E) refl e
  where
    go : (s : Bool) → leb 0x20 x ≡ s → (t : Bool) → leb x 0x7E ≡ t → (s && t) ≡ true → (0x20 ≤ x) × (x ≤ 0x7E)
    go true p true q e = (leb-true 0x20 x p, leb-true x 0x7E q)
    go true p false q e = absurd (false≢true e)
    go false p t q e = absurd (false≢true e)

pub visible_from : (s : List ℕ) (at end n : ℕ) → at ≤ end → end ≤ length s → n ≡ prefix_len visible (part at end s) → (at ≤ at + n) × (at + n ≤ end) × VisibleFrom s at (at + n)
visible_from s at end n h l e =
    let few = prefix_len-le-length visible (part at end s) in
    let long = length_part at end s l in
    let each : VisibleFrom s at (at + n) = λ k q p.
    let i : at + (k - at) ≡ k = omega (arith, p) in
    let byte : get_or (part at end s) (k - at) 0 ≡ get_or s k 0 =
    get_or-take (end - at) (drop at s) (k - at) 0 (omega (arith, q, p, e, few, long)) ∙ get_or-drop at s (k - at) 0 ∙ ap (λ (j : ℕ). get_or s j 0) i in
    rw byte at (visible_bounds (get_or (part at end s) (k - at) 0) (prefix_len_passes visible (part at end s) (k - at) 0 (omega (arith, q, p, e)))) in
    (omega arith, omega (arith, e, few, long, h), each)

-- a byte of visible ASCII is a character of width 1
pub plain_visible : (s : List ℕ) (at end n : ℕ) → at + n ≤ end → end ≤ length s → VisibleFrom s at (at + n) → Plain s at end (at + n) n
plain_visible s at end zero h l v = let z : at + 0 ≡ at = omega arith in rw z (plain_none s at end (omega (arith, h)))
plain_visible s at end (suc n) h l v =
    let b = v (at + n) (omega arith) (omega arith) in
    let k = plain s (at + n) b.0 b.1 in
    let so_far = plain_visible s at end n (omega (arith, h)) l (λ j q p. v j (omega (arith, q)) p) in
    let on = plain_further s at end (at + n) n 1 1 (omega (arith, h, l)) (omega (arith, h)) (omega arith) (omega arith) (sym k.0) (sym k.1) (λ z. omega (arith, z, b.0)) so_far in
    let i : at + suc n ≡ at + n + 1 = omega arith in
    let w : suc n ≡ n + 1 = omega arith in
    rw (i, w) on

-- the same up to r
pub visible_plain : (s : List ℕ) (at end r : ℕ) → at ≤ r → r ≤ end → end ≤ length s → VisibleFrom s at r → Plain s at end r (r - at)
visible_plain s at end r h k l v =
    let i : at + (r - at) ≡ r = omega (arith, h) in
    rw i at (plain_visible s at end (r - at) (omega (arith, h, k)) l (rw i v))

-- up to where the run stops, it is what is covered
pub plain_covered : (s : List ℕ) (at end i width : ℕ) → end ≤ length s → Plain s at end i width → (i ≡ at → same (char_in at s).text (0x0A ∷ []) ≡ false → Passes s at end)
    → Covered s at end (record { end = i; width = width }) × (width ≤ 2 * length s)
plain_covered s at end i width h p n =
    (record { from = p.from; to = p.to; seam = p.seam; plain = p.plain; columns = p.columns; none = n }, omega (arith, p.narrow, p.to, h))

-- a 0A where it stops
pub newline_covered : (s : List ℕ) (at end i width : ℕ) → end ≤ length s → Plain s at end i width → get_or s i 0 ≡ 0x0A → Covered s at end (record { end = i; width = width })
newline_covered s at end i width h p e =
    (plain_covered s at end i width h p (λ k n. absurd (false≢true (sym n ∙ newline_alone s at (subst (λ (j : ℕ). get_or s j 0 ≡ 0x0A) k e))))).0
