-- Clean texts: one character further in a loop (`clean_read`), and along printable ASCII (`clean_run`); joined they are clean, and so is the beginning that a cut keeps.
-- The idea: what is asked of a text is asked of each of its characters, and well-formed texts that are joined keep their characters.
use Prim.Native.Nat.{ℕ, zero, suc, ◌+◌, ◌≤◌, ◌<◌}
use native.Mathlib.Omega.{arith}
use mathlib.Core.Bool.{Bool, true, false, ◌&&◌, ◌||◌, not, false≢true}
use mathlib.Core.Path.{◌≡◌, refl, sym, ap, ◌∙◌}
use mathlib.Core.List.{List, [], ◌∷◌, ◌++◌}
use lib.ListN.{length, take, drop, get_or}
use borrow.Author.Tests.{not-true}
use Rattle.chars.specs.Utf8.{within}
use Rattle.chars.specs.Chars.{Character, char_in, chars, all_ok, well_formed_of}
use Rattle.chars.specs.Cut.{kept_within, truncate_end_pos_of}
use Rattle.chars.specs.Read.{read_of}
use Rattle.chars.specs.declared.Read.{Read}
use Rattle.chars.proofs.CharsLaws.{char_next, chars_beginning}
use Rattle.chars.proofs.CutLaws.{kept_rest, split_kept, kept_end}
use Rattle.chars.proofs.FoldLaws.{ascii_len, ascii_ok, ascii_code}
use Rattle.chars.proofs.JoinLaws.{and_both, chars-append}
use Rattle.chars.proofs.RangeLaws.{bounds}
use Rattle.chars.proofs.ReaderLaws.{and_false, in_span, below, above}
use Rattle.controls.specs.Controls.{is_control, any_control, all_clean, is_clean_text}

-- ── what a test of a code point says
pub control_low : (c : ℕ) → c < 0x20 → is_control c ≡ true
control_low c h = simp (in_span 0x00 0x1F c (omega arith) (omega arith))

pub control_between : (c : ℕ) → 0x20 ≤ c → c < 0x7F → is_control c ≡ false
control_between c p q = simp (above 0x00 0x1F c p, below 0x7F 0x9F c q)

-- ── one character further
module _ (s : List ℕ) (at n : ℕ) (more : at < length s) (e : n ≡ length (char_in at s).text) where
  clean_char : (o k : Bool) → (char_in at s).ok ≡ o → is_control (char_in at s).code ≡ k → all_clean (chars (drop at s)) ≡ ((o && not k) && all_clean (chars (drop (at + n) s)))
  clean_char o k h g = rw (char_next s at more, e, h, g) (go o k)
    where
      a : Bool
      a = all_ok (chars (drop (at + length (char_in at s).text) s))

      b : Bool
      b = any_control (chars (drop (at + length (char_in at s).text) s))

      go : (o k : Bool) → ((o && a) && not (k || b)) ≡ ((o && not k) && (a && not b))
      go true true = and_false a
      go true false = refl
      go false k = refl

-- the character that was read decides with those after it
pub clean_read : (s : List ℕ) (at : ℕ) (r : Read) → at < length s → r ≡ read_of (char_in at s)
    → all_clean (chars (drop at s)) ≡ ((r.ok && not (is_control r.code)) && all_clean (chars (drop (at + r.len) s)))
clean_read s at r more e =
    clean_char s at r.len more (ap (λ (x : Read). x.len) e) r.ok (is_control r.code) (sym (ap (λ (x : Read). x.ok) e)) (sym (ap (λ (x : Read). is_control x.code) e))

-- printable ASCII is a clean character of one byte
pub clean_printable : (s : List ℕ) (at : ℕ) → at < length s → within 0x20 0x7E (get_or s at 0) ≡ true → all_clean (chars (drop at s)) ≡ all_clean (chars (drop (at + 1) s))
clean_printable s at more w =
    let b = bounds 0x20 0x7E (get_or s at 0) w in
    let ascii : get_or s at 0 < 128 = omega (arith, b.1) in
    let code = ascii_code s at ascii in
    clean_char s at 1 more (sym (ascii_len s at ascii)) true false (ascii_ok s at ascii) (ap is_control code ∙ control_between (get_or s at 0) b.0 (omega (arith, b.1)))

-- and so are more of them
pub clean_run : (k : ℕ) (s : List ℕ) → k ≤ length s → ((i : ℕ) → i < k → within 0x20 0x7E (get_or s i 0) ≡ true) → all_clean (chars (drop k s)) ≡ is_clean_text s
unfolding is_clean_text well_formed_of
clean_run zero s h p = refl
clean_run (suc k) s h p =
    let e : suc k ≡ k + 1 = omega arith in
    rw e (sym (clean_printable s k (omega arith) (p k (omega arith))) ∙ clean_run k s (omega arith) (λ i q. p i (omega arith)))

-- ── clean characters
pub record Clean (cs : List Character) : Type 0 where
  pub ok : all_ok cs ≡ true
  pub plain : any_control cs ≡ false

neither : (a b : Bool) → (a || b) ≡ false → (a ≡ false) × (b ≡ false)
neither true b h = absurd (false≢true (sym h))
neither false b h = (refl, h)

clean_rest : (x : Character) (xs : List Character) → Clean (x ∷ xs) → Clean xs
clean_rest x xs p = record { ok = (and_both x.ok (all_ok xs) p.ok).1; plain = (neither (is_control x.code) (any_control xs) p.plain).1 }

-- the same first character before other characters
clean_more : (x : Character) (xs ys : List Character) → Clean (x ∷ xs) → Clean ys → Clean (x ∷ ys)
clean_more x xs ys p q =
    record { ok = rw (and_both x.ok (all_ok xs) p.ok).0 q.ok; plain = rw (neither (is_control x.code) (any_control xs) p.plain).0 q.plain }

clean_both : (xs ys : List Character) → Clean xs → Clean ys → Clean (xs ++ ys)
clean_both [] ys p q = q
clean_both (x ∷ xs) ys p q = clean_more x xs (xs ++ ys) p (clean_both xs ys (clean_rest x xs p) q)

clean_first : (xs ys : List Character) → Clean (xs ++ ys) → Clean xs
clean_first [] ys p = record { ok = refl; plain = refl }
clean_first (x ∷ xs) ys p = clean_more x (xs ++ ys) xs p (clean_first xs ys (clean_rest x (xs ++ ys) p))

-- ── clean texts
abbrev pub CleanText : List ℕ → Type 0
CleanText s = Clean (chars s)

pub clean_text : (s : List ℕ) → is_clean_text s ≡ true → CleanText s
unfolding is_clean_text well_formed_of
clean_text s h =
    let b = and_both (all_ok (chars s)) (not (any_control (chars s))) h in
    record { ok = b.0; plain = not-true (any_control (chars s)) b.1 }

pub text_clean : (s : List ℕ) → CleanText s → is_clean_text s ≡ true
unfolding is_clean_text well_formed_of
text_clean s p = rw (p.ok, p.plain)

pub clean_formed : (s : List ℕ) → CleanText s → well_formed_of s ≡ true
unfolding well_formed_of
clean_formed s p = p.ok

pub clean_none : CleanText []
unfolding chars
clean_none = record { ok = refl; plain = refl }

pub clean_join : (a b : List ℕ) → CleanText a → CleanText b → CleanText (a ++ b)
clean_join a b p q = rw (chars-append a b (clean_formed a p)) (clean_both (chars a) (chars b) p q)

-- the beginning that is kept within a width
pub clean_kept : (m : ℕ) (d : List ℕ) → CleanText d → CleanText (take (truncate_end_pos_of m d) d)
clean_kept m d p =
    let kept : List Character = kept_within m (chars d) in
    let rest : List Character = kept_rest m (chars d) in
    let e : chars (take (truncate_end_pos_of m d) d) ≡ kept = ap chars (kept_end m d) ∙ chars_beginning d kept rest (split_kept m (chars d)) in
    rw e (clean_first kept rest (rw (← split_kept m (chars d)) p))
