-- Taking the indent off line by line, as it is defined, and byte by byte (`byte_ops`) is the same edit (`by_bytes`), where every line that is not empty has the bytes to be taken out.
-- From there: its plain step (`unindent_law`). That the lines have the bytes is what refusal 33 asks (`begin_long`).
use Prim.Native.Nat.{ℕ, zero, suc, ◌+◌, ◌-◌, ◌≤◌, ◌<◌}
use native.Mathlib.Omega.{arith}
use mathlib.Core.Bool.{Bool, true, false, cond, ◌||◌, not, false≢true}
use mathlib.Core.Path.{◌≡◌, refl, sym, ap, ◌∙◌}
use mathlib.Core.List.{List, [], ◌∷◌, ◌++◌}
use lib.Dec.{eqb}
use lib.ListN.{length}
use Rattle.recording.specs.Recording.{Bytes, Item, is_nil}
use Rattle.recording.specs.Coloured.{Coloured, values}
use Rattle.recording.specs.Edit.{Op, keep, skip, front, back, entries_only, edit, edit_coloured}
use Rattle.recording.specs.Refusals.{refuse_if}
use Rattle.recording.proofs.EditLaws.{AllPuts, front_with_back, kept_more, skipped_more, skip_none}
use Rattle.recording.proofs.FaultLaws.{first_of-zero, refuse_if-zero}
use Rattle.recording.proofs.Lists.{and_left, and_right, not_false}
use Rattle.layout.specs.Plain.{unindented}
use Rattle.layout.specs.Unindent.{taken_out_of, unindent_ops, has_newline_in, begins_with, all_begin, prefix_fault}
use Rattle.layout.specs.Wrap.{onto_first, split_lines}
use Rattle.layout.proofs.LineLaws.{some_lines}

-- ── byte by byte: k bytes of the next byte's line are still to go
abbrev pub byte_ops : ℕ → ℕ → Bytes → List Op
byte_ops n k [] = []
byte_ops n zero (b ∷ d) = keep 1 ∷ byte_ops n (cond (eqb b 0x0A) n 0) d
byte_ops n (suc k) (b ∷ d) = cond (eqb b 0x0A) (keep 1 ∷ byte_ops n n d) (skip 1 ∷ byte_ops n k d)

-- ── no more is skipped than there is
abbrev pub Long : ℕ → List Bytes → Type 0
Long n [] = Unit {0}
Long n (l ∷ ls) = (taken_out_of n l ≤ length l) × Long n ls

-- of the first line k bytes
abbrev Enough : ℕ → ℕ → List Bytes → Type 0
Enough n k [] = Unit {0}
Enough n k (l ∷ ls) = (taken_out_of k l ≤ length l) × Long n ls

abbrev line_ops : ℕ → ℕ → List Bytes → List Op
line_ops n k [] = []
line_ops n k (l ∷ ls) = skip (taken_out_of k l) ∷ keep (suc (length l - taken_out_of k l)) ∷ unindent_ops n ls

from_first : (n : ℕ) (ls : List Bytes) → unindent_ops n ls ≡ line_ops n n ls
from_first n [] = refl
from_first n (l ∷ ls) = refl

all_enough : (n : ℕ) (ls : List Bytes) → Long n ls → Enough n n ls
all_enough n [] h = tt
all_enough n (l ∷ ls) h = h

-- nothing is skipped before what is kept
none_skipped : (n : ℕ) (ops : List Op) (is : List Item) → edit (skip 0 ∷ keep n ∷ ops) is ≡ edit (keep n ∷ ops) is
none_skipped n ops is = let z : 0 + n ≡ n = omega arith in skip_none (keep n ∷ ops) is ∙ kept_more 0 n ops is ∙ ap (λ (m : ℕ). edit (keep m ∷ ops) is) z

taken_none : (l : Bytes) → taken_out_of 0 l ≡ 0
taken_none [] = refl
taken_none (b ∷ l) = refl

-- ── the two ways are the same edit
module _ (n : ℕ) where
  abbrev Same : ℕ → Bytes → List Bytes → Type 0
  Same k d ls = (is : List Item) → edit (line_ops n k ls) is ≡ edit (byte_ops n k d) is

  -- a byte of the line that is under way
  same_onto : (b : ℕ) (d : Bytes) (ls : List Bytes) → eqb b 0x0A ≡ false → 0 < length ls
      → ((k : ℕ) → Enough n k ls → Same k d ls) → (k : ℕ) → Enough n k (onto_first b ls) → Same k (b ∷ d) (onto_first b ls)
  same_onto b d [] e s f k h is = absurd (omega arith)
  same_onto b d (l ∷ ls) e s f zero h is =
      let z : taken_out_of 0 l ≡ 0 = taken_none l in
      let a : suc (length (b ∷ l) - 0) ≡ 1 + suc (length l) = omega arith in
      let c : suc (length l - 0) ≡ suc (length l) = omega arith in
      let g : edit (keep (suc (length l)) ∷ unindent_ops n ls) (back 1 is) ≡ edit (byte_ops n 0 d) (back 1 is) =
      sym (none_skipped (suc (length l)) (unindent_ops n ls) (back 1 is)) ∙ (rw (z, c) at (f 0 (omega (arith, z), h.1) (back 1 is))) in
      none_skipped (suc (length (b ∷ l) - 0)) (unindent_ops n ls) is ∙ ap (λ (m : ℕ). edit (keep m ∷ unindent_ops n ls) is) a ∙ sym (kept_more 1 (suc (length l)) (unindent_ops n ls) is)
      ∙ rw e (ap (λ (r : List Item). front 1 is ++ r) g)
  same_onto b d (l ∷ ls) e s f (suc k) h is =
      let z : taken_out_of k l ≡ k = all_taken l h.0 in
      let a : suc k ≡ 1 + k = omega arith in
      let c : suc (length (b ∷ l) - suc k) ≡ suc (length l - k) = omega arith in
      let g : edit (skip k ∷ keep (suc (length l - k)) ∷ unindent_ops n ls) (back 1 is) ≡ edit (byte_ops n k d) (back 1 is) =
      rw z at (f k (omega (arith, z, h.0), h.1) (back 1 is)) in
      (λ i. edit (skip (a i) ∷ keep (c i) ∷ unindent_ops n ls) is) ∙ sym (skipped_more 1 k (keep (suc (length l - k)) ∷ unindent_ops n ls) is)
      ∙ rw e (ap (λ (r : List Item). entries_only (front 1 is) ++ r) g)
    where
      all_taken : (l : Bytes) → suc k ≤ suc (length l) → taken_out_of k l ≡ k
      all_taken [] g = omega (arith, g)
      all_taken (x ∷ l) g = refl

  -- a 0A: the next line is new
  same_new : (b : ℕ) (d : Bytes) (ls : List Bytes) → eqb b 0x0A ≡ true → Same n d ls → (k : ℕ) → Same k (b ∷ d) ([] ∷ ls)
  same_new b d ls e f k is = next k
    where
      line : edit (skip 0 ∷ keep 1 ∷ unindent_ops n ls) is ≡ edit (keep 1 ∷ byte_ops n n d) is
      line = none_skipped 1 (unindent_ops n ls) is ∙ ap (λ (r : List Item). front 1 is ++ r) (ap (λ (ops : List Op). edit ops (back 1 is)) (from_first n ls) ∙ f (back 1 is))

      next : (k : ℕ) → edit (line_ops n k ([] ∷ ls)) is ≡ edit (byte_ops n k (b ∷ d)) is
      next zero = line ∙ rw e
      next (suc k) = line ∙ rw e

  same_ops : (k : ℕ) (d : Bytes) → Enough n k (split_lines d) → Same k d (split_lines d)
  same_ops k [] h is = none_skipped 1 [] is ∙ front_with_back 1 is
  same_ops k (b ∷ d) h is = go (eqb b 0x0A) refl h (λ j q x. same_ops j d q x) is
    where
      go : (t : Bool) → eqb b 0x0A ≡ t → Enough n k (cond t ([] ∷ split_lines d) (onto_first b (split_lines d))) → ((j : ℕ) → Enough n j (split_lines d) → Same j d (split_lines d))
          → Same k (b ∷ d) (cond t ([] ∷ split_lines d) (onto_first b (split_lines d)))
      go true e g f is = same_new b d (split_lines d) e (f n (all_enough n (split_lines d) g.1)) k is
      go false e g f is = same_onto b d (split_lines d) e (some_lines d) f k g is

  pub by_bytes : (d : Bytes) → Long n (split_lines d) → (is : List Item) → edit (unindent_ops n (split_lines d)) is ≡ edit (byte_ops n n d) is
  by_bytes d h is = ap (λ (ops : List Op). edit ops is) (from_first n (split_lines d)) ∙ same_ops n d (all_enough n (split_lines d) h) is

-- ── nothing is put in
module _ (P : List Item → Type 0) where
  pub puts_bytes : (n k : ℕ) (d : Bytes) → AllPuts P (byte_ops n k d)
  puts_bytes n k [] = tt
  puts_bytes n zero (b ∷ d) = puts_bytes n (cond (eqb b 0x0A) n 0) d
  puts_bytes n (suc k) (b ∷ d) = go (eqb b 0x0A) (puts_bytes n n d) (puts_bytes n k d)
    where
      go : (t : Bool) → AllPuts P (byte_ops n n d) → AllPuts P (byte_ops n k d) → AllPuts P (cond t (keep 1 ∷ byte_ops n n d) (skip 1 ∷ byte_ops n k d))
      go true f g = f
      go false f g = g

-- ── the plain step
pub unindent_law : (n k : ℕ) (cs : List Coloured) → edit_coloured (byte_ops n k (values cs)) cs ≡ unindented n k cs
unindent_law n k [] = refl
unindent_law n zero (c ∷ cs) = ap (λ (l : List Coloured). c ∷ l) (unindent_law n (cond (eqb c.val 0x0A) n 0) cs)
unindent_law n (suc k) (c ∷ cs) = go (eqb c.val 0x0A) (unindent_law n n cs) (unindent_law n k cs)
  where
    go : (t : Bool) → edit_coloured (byte_ops n n (values cs)) cs ≡ unindented n n cs → edit_coloured (byte_ops n k (values cs)) cs ≡ unindented n k cs
        → edit_coloured (cond t (keep 1 ∷ byte_ops n n (values cs)) (skip 1 ∷ byte_ops n k (values cs))) (c ∷ cs) ≡ cond t (c ∷ unindented n n cs) (unindented n k cs)
    go true f g = ap (λ (l : List Coloured). c ∷ l) f
    go false f g = g

-- ── what the refusals ask
pub begins_long : (p l : Bytes) → begins_with p l ≡ true → length p ≤ length l
begins_long [] l h = omega arith
begins_long (b ∷ p) [] h = absurd (false≢true h)
begins_long (b ∷ p) (c ∷ l) h = omega (arith, begins_long p l (and_right (eqb b c) (begins_with p l) h))

pub begin_long : (p : Bytes) (ls : List Bytes) → all_begin p ls ≡ true → Long (length p) ls
begin_long p [] h = tt
begin_long p (l ∷ ls) h = (one l (and_left (is_nil l || begins_with p l) (all_begin p ls) h), begin_long p ls (and_right (is_nil l || begins_with p l) (all_begin p ls) h))
  where
    one : (l : Bytes) → (is_nil l || begins_with p l) ≡ true → taken_out_of (length p) l ≤ length l
    one [] g = omega arith
    one (b ∷ l) g = begins_long p (b ∷ l) g

-- the prefix p can be taken off the data d
pub record Indented (p d : Bytes) : Type 0 where
  pub one_line : has_newline_in p ≡ false
  pub all : all_begin p (split_lines d) ≡ true

-- neither 32 nor 33
pub no_prefix_fault : (p d : Bytes) → prefix_fault p d ≡ 0 → Indented p d
unfolding prefix_fault
no_prefix_fault p d h =
    let a = first_of-zero (refuse_if (has_newline_in p) 32) (refuse_if (not (all_begin p (split_lines d))) 33 ∷ []) h in
    let b = first_of-zero (refuse_if (not (all_begin p (split_lines d))) 33) [] a.1 in
    record { one_line = refuse_if-zero (has_newline_in p) 31 a.0; all = not_false (all_begin p (split_lines d)) (refuse_if-zero (not (all_begin p (split_lines d))) 32 b.0) }

pub prefix_fits : (p d : Bytes) → Indented p d → prefix_fault p d ≡ 0
unfolding prefix_fault
prefix_fits p d f = rw (f.one_line, f.all)
