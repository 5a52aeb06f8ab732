-- For the check of a recording: each fault by the test that finds it, one entry after another (`Seen`), and the length of the texts as a sum over the entries.
use mathlib.Core.Path.{◌≡◌, refl, sym, ap, ◌∙◌}
use mathlib.Core.Bool.{Bool, true, false, not, ◌&&◌, false≢true}
use mathlib.Core.List.{List, [], ◌∷◌, ◌++◌}
use Prim.Native.Nat.{ℕ, zero, suc, ◌+◌, ◌-◌, ◌*◌, ◌≤◌, ◌<◌}
use native.Mathlib.Omega.{arith}
use lib.Dec.{eqb}
use lib.ListN.{length, take, drop, length-append, length-take, length-drop}
use borrow.Author.Tests.{eqb-true}
use Rattle.recording.specs.declared.Entry.{Entry}
use Rattle.recording.specs.declared.Refusal.{Refusal}
use Rattle.std.specs.Prelude.{Result, Ok, Err}
use Rattle.recording.specs.Recording.{Recording, recording, entries_of, part_of, Item, byte_items, item_of, items_from, items, text_of}
use Rattle.recording.specs.Refusals.{number_of_refusal, bad_shape_of, entry_fault, entries_fault, recording_fault}
use Rattle.recording.specs.Check.{fault_of, Counted, Within, BothChecked}
use Rattle.recording.proofs.FaultLaws.{first_of-zero, no_entry_fault}
use Rattle.recording.proofs.OutcomeLaws.{number_pos, first_hit, first_on, first_one}

-- ── what an answer of a check says
pub refused_pos : {T : Type 0} (r : Result T Refusal) (f : Refusal) → r ≡ Err f → 0 < fault_of r
refused_pos r f e = rw e (number_pos f)

pub refused-number : {T : Type 0} (r : Result T Refusal) (f : Refusal) → r ≡ Err f → fault_of r ≡ number_of_refusal f
refused-number r f e = rw e

pub fine_zero : {T : Type 0} (r : Result T Refusal) (n : T) → r ≡ Ok n → fault_of r ≡ 0
fine_zero r n e = rw e

pub fine_count : (r : Result ℕ Refusal) (n m : ℕ) → r ≡ Ok n → Counted r m → n ≡ m
fine_count r n m e c = rw e at c

pub fine_within : (r : Result ℕ Refusal) (n m : ℕ) → r ≡ Ok n → Within r m → n ≤ m
fine_within r n m e c = rw e at c

-- ── the texts: each entry's is as long as it says, a pop's is empty
abbrev pub sum_len : List Entry → ℕ
sum_len [] = 0
sum_len (e ∷ es) = e.len + sum_len es

pub text_bytes : (p : List ℕ) (is : List Item) → text_of (byte_items p ++ is) ≡ text_of is
text_bytes [] is = refl
text_bytes (b ∷ p) is = text_bytes p is

pub text_none : (p : List ℕ) → text_of (byte_items p) ≡ []
text_none [] = refl
text_none (b ∷ p) = text_none p

pop_empty : (s n : ℕ) → not (eqb s 0 && eqb n 0) ≡ false → n ≡ 0
pop_empty s n h = go (eqb s 0) (eqb n 0) refl h
  where
    go : (a b : Bool) → eqb n 0 ≡ b → not (a && b) ≡ false → n ≡ 0
    go true true q g = eqb-true n 0 q
    go true false q g = absurd (false≢true (sym g))
    go false b q g = absurd (false≢true (sym g))

pub text_entry : (k s n : ℕ) (t : List ℕ) (is : List Item) → bad_shape_of k s n ≡ false → s + n ≤ length t → length (text_of (item_of k (take n (drop s t)) ∷ is)) ≡ n + length (text_of is)
unfolding bad_shape_of
text_entry zero s n t is b h = simp (length-append, length-take, length-drop) (omega arith)
text_entry (suc zero) s n t is b h = omega (arith, pop_empty s n b)
text_entry (suc (suc zero)) s n t is b h = simp (length-append, length-take, length-drop) (omega arith)
text_entry (suc (suc (suc k))) s n t is b h = absurd (false≢true (sym b))

text_sum : (es : List Entry) (at from : ℕ) (d x t : List ℕ) → entries_fault at d t es ≡ 0 → length (text_of (items_from from t x es)) ≡ sum_len es
text_sum [] at from d x t h = ap length (text_none x)
text_sum (e ∷ es) at from d x t h =
    let a = first_of-zero (entry_fault at d t e) (entries_fault e.position d t es ∷ []) h in
    let g = first_of-zero (entries_fault e.position d t es) [] a.1 in
    let f = no_entry_fault at d t e a.0 in
    let p : ℕ = e.position in
    let r : List Item = items_from p t (drop (p - from) x) es in
    ap length (text_bytes (take (p - from) x) (item_of e.kind (part_of t e) ∷ r)) ∙ text_entry e.kind e.start e.len t r f.shape f.part
    ∙ ap (λ (n : ℕ). e.len + n) (text_sum es p p d (drop (p - from) x) t g.0)

-- ── entry by entry: those that were read have no fault and `size` bytes of text, and `rest` are left
pub record Seen (ds ts : List ℕ) (all rest : List Entry) (at size : ℕ) : Type 0 where
  pub faults : entries_fault at ds ts rest ≡ entries_fault 0 ds ts all
  pub sizes : size + sum_len rest ≡ sum_len all
  pub small : size + 65536 * length rest ≤ 65536 * length all

pub seen_first : (ds ts : List ℕ) (all : List Entry) → Seen ds ts all all 0 0
seen_first ds ts all = record { faults = refl; sizes = omega arith; small = omega arith }

module _ (ds ts : List ℕ) (all rest es : List Entry) (e : Entry) (at size : ℕ) (s : Seen ds ts all rest at size) (q : rest ≡ e ∷ es) (r : Result ℕ Refusal) (f : fault_of r ≡ entry_fault at ds ts e) where
  faults : entries_fault at ds ts (e ∷ es) ≡ entries_fault 0 ds ts all
  faults = ap (entries_fault at ds ts) (sym q) ∙ s.faults

  pub stops : (x : Refusal) → r ≡ Err x → fault_of {T = ℕ} (Err x) ≡ entries_fault 0 ds ts all
  stops x p =
      sym (refused-number r x p) ∙ f ∙ sym (first_hit (entry_fault at ds ts e) (entries_fault e.position ds ts es ∷ []) (omega (arith, f, refused_pos r x p))) ∙ faults

  module _ (n : ℕ) (p : r ≡ Ok n) (c : Counted r e.len) (t : length ts ≤ 65536) where
    none : entry_fault at ds ts e ≡ 0
    none = sym f ∙ fine_zero r n p

    len : n ≡ e.len
    len = fine_count r n e.len p c

    pub goes : Seen ds ts all es e.position (size + n)
    goes =
        record {
          faults = sym (first_one (entries_fault e.position ds ts es)) ∙ sym (first_on (entry_fault at ds ts e) (entries_fault e.position ds ts es ∷ []) none) ∙ faults;
          sizes = omega (arith, s.sizes, len, ap sum_len q);
          small = omega (arith, s.small, len, (no_entry_fault at ds ts e none).part, t, ap length q);
        }

-- four numbers an entry
pub entries_quarter : (ns : List ℕ) → 4 * length (entries_of ns) ≤ length ns
entries_quarter [] = omega arith
entries_quarter (p ∷ []) = omega arith
entries_quarter (p ∷ k ∷ []) = omega arith
entries_quarter (p ∷ k ∷ s ∷ []) = omega arith
entries_quarter (p ∷ k ∷ s ∷ n ∷ ns) = omega (arith, entries_quarter ns)

pub seen_small : (ds ns ts : List ℕ) (rest : List Entry) (at size : ℕ) → Seen ds ts (entries_of ns) rest at size → length ns ≤ 16384 → size ≤ 268435456
seen_small ds ns ts rest at size s h = omega (arith, s.small, entries_quarter ns)

pub seen_last : (ds ns ts : List ℕ) (rest : List Entry) (at size : ℕ) → Seen ds ts (entries_of ns) rest at size → rest ≡ []
    → (0 ≡ entries_fault 0 ds ts (entries_of ns)) × (size ≡ length (text_of (items (recording ds ns ts))))
unfolding items
seen_last ds ns ts rest at size s q =
    let a : 0 ≡ entries_fault 0 ds ts (entries_of ns) = ap (entries_fault at ds ts) (sym q) ∙ s.faults in
    (a, omega (arith, ap sum_len q, s.sizes, text_sum (entries_of ns) 0 0 ds ds ts (sym a)))

-- ── of two recordings: what each check found decides for both
module _ (r q : Recording) (a : Result ℕ Refusal) (ea : fault_of a ≡ recording_fault r) where
  pub first_refused : (f : Refusal) → a ≡ Err f → BothChecked (Err f) r q
  first_refused f e =
      let n : number_of_refusal f ≡ recording_fault r = sym (refused-number a f e) ∙ ea in
      n ∙ sym (first_hit (recording_fault r) (recording_fault q ∷ []) (omega (arith, n, number_pos f)))

  module _ (n : ℕ) (e : a ≡ Ok n) (ca : Counted a (length (text_of (items r)))) (wa : Within a 268435456) (b : Result ℕ Refusal) (eb : fault_of b ≡ recording_fault q) where
    no_first : recording_fault r ≡ 0
    no_first = sym ea ∙ fine_zero a n e

    pub next_refused : (f : Refusal) → b ≡ Err f → BothChecked (Err f) r q
    next_refused f h =
        sym (refused-number b f h) ∙ eb ∙ sym (first_one (recording_fault q)) ∙ sym (first_on (recording_fault r) (recording_fault q ∷ []) no_first)

    pub both_fine : (m : ℕ) → b ≡ Ok m → Counted b (length (text_of (items q))) → Within b 268435456 → BothChecked (Ok (record { content = n; second = m })) r q
    both_fine m h cb wb = (
      no_first,
      (
        sym eb ∙ fine_zero b m h,
        (
          fine_count a n (length (text_of (items r))) e ca,
          (fine_count b m (length (text_of (items q))) h cb, (fine_within a n 268435456 e wa, fine_within b m 268435456 h wb)),
        ),
      ),
    )
