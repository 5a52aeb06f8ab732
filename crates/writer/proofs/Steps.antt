-- Laws for callers of the writer. Steps one after another (`fits_first`, `fits_then`, `then`), a content from its start to its end, and a finished result (`from_start`).
use mathlib.Core.Path.{◌≡◌, refl, sym, ap, ◌∙◌}
use mathlib.Core.List.{List, [], ◌∷◌, ◌++◌}
use Prim.Native.Nat.{ℕ, zero, suc, ◌-◌, ◌≤◌}
use native.Mathlib.Omega.{arith}
use lib.ListN.{length}
use borrow.Author.Tests.{ltb-false}
use Rattle.buffer.specs.Place.{over, over_at}
use Rattle.recording.specs.declared.Entry.{Entry}
use Rattle.recording.specs.Recording.{recording, entries_of, numbers_of_ranges, Item, byte, push, pop, raw, items, data_of, entries_from, text_from}
use Rattle.recording.specs.Edit.{front, back}
use Rattle.recording.specs.Refusals.{entry_fault, entries_fault, recording_fault}
use Rattle.recording.proofs.ItemsLaws.{data_items}
use Rattle.recording.proofs.FaultLaws.{first_of-zero, no_entry_fault, no_fault}
use Rattle.writer.specs.declared.Cursor.{Cursor}
use Rattle.writer.specs.Write.{Out, out, blank, add, Fits, Valid, Sound, Ready, left}
use Rattle.writer.proofs.Laws.{fits_left, fits_right, add-append}

-- ── a step after another: `all` is what both write
pub fits_first : (a b all : List Item) (o : Out) → all ≡ a ++ b → Fits all o → Fits a o
fits_first a b all o e f = fits_left a b o (rw e at f)

pub fits_then : (a b all : List Item) (o o₁ : Out) → all ≡ a ++ b → Fits all o → o₁ ≡ add a o → Fits b o₁
fits_then a b all o o₁ e f w = rw w (fits_right a b o (rw e at f))

pub then : (a b all : List Item) (o o₁ o₂ : Out) → all ≡ a ++ b → Fits all o → o₁ ≡ add a o → o₂ ≡ add b o₁ → o₂ ≡ add all o
then a b all o o₁ o₂ e f w v = v ∙ ap (λ (x : Out). add b x) w ∙ add-append a b o (fits_first a b all o e f) ∙ ap (λ (x : List Item). add x o) (sym e)

-- ── all of a content
pub front_all : (n : ℕ) (is : List Item) → length (data_of is) ≤ n → front n is ≡ is
front_all n [] h = refl
front_all zero (byte b ∷ is) h = absurd (omega arith)
front_all (suc n) (byte b ∷ is) h = ap (λ (r : List Item). byte b ∷ r) (front_all n is (omega arith))
front_all n (push l ∷ is) h = ap (λ (r : List Item). push l ∷ r) (front_all n is h)
front_all n (pop ∷ is) h = ap (λ (r : List Item). pop ∷ r) (front_all n is h)
front_all n (raw l ∷ is) h = ap (λ (r : List Item). raw l ∷ r) (front_all n is h)

pub back_all : (n : ℕ) (is : List Item) → length (data_of is) ≤ n → back n is ≡ []
back_all n [] h = refl
back_all zero (byte b ∷ is) h = absurd (omega arith)
back_all (suc n) (byte b ∷ is) h = back_all n is (omega arith)
back_all n (push l ∷ is) h = back_all n is h
back_all n (pop ∷ is) h = back_all n is h
back_all n (raw l ∷ is) h = back_all n is h

-- ── from the start of a content
module _ (ds ns ts : List ℕ) (c : Cursor) (a : c.at ≡ 0) (k : c.k ≡ 0) where
  pub left_start : left ds ns ts c ≡ items (recording ds ns ts)
  unfolding left items
  left_start = rw (a, k)

  pub ready_start : Sound ds ns ts → Ready ds ns ts c
  ready_start s = record { within = omega (arith, k); valid = rw (a, k) s.valid; short = s.short }

  -- what keep(n) writes, and what it leaves
  pub front_start : (n : ℕ) → front (n - c.at) (left ds ns ts c) ≡ front n (items (recording ds ns ts))
  front_start n = let e : n - c.at ≡ n = omega (arith, a) in λ i. front (e i) (left_start i)

  pub back_start : (n : ℕ) → back (n - c.at) (left ds ns ts c) ≡ back n (items (recording ds ns ts))
  back_start n = let e : n - c.at ≡ n = omega (arith, a) in λ i. back (e i) (left_start i)

pub data_size : (ds ns ts : List ℕ) → length (data_of (items (recording ds ns ts))) ≡ length ds
data_size ds ns ts = ap length (data_items (recording ds ns ts))

pub keep_all : (ds ns ts : List ℕ) → front (length ds) (items (recording ds ns ts)) ≡ items (recording ds ns ts)
keep_all ds ns ts = front_all (length ds) (items (recording ds ns ts)) (omega (arith, data_size ds ns ts))

-- ── a recording without faults is in order
valid_of : (at : ℕ) (ds ts : List ℕ) (es : List Entry) → at ≤ length ds → entries_fault at ds ts es ≡ 0 → Valid at (length ds) (length ts) es
unfolding Valid
valid_of at ds ts [] l h = l
valid_of at ds ts (e ∷ es) l h =
    let a = first_of-zero (entry_fault at ds ts e) (entries_fault e.position ds ts es ∷ []) h in
    let b = first_of-zero (entries_fault e.position ds ts es) [] a.1 in
    let f = no_entry_fault at ds ts e a.0 in
    (f.low, f.shape, f.part, valid_of e.position ds ts es f.high b.0)

pub sound : (ds ns ts : List ℕ) → recording_fault (recording ds ns ts) ≡ 0 → Sound ds ns ts
sound ds ns ts h =
    let f = no_fault (recording ds ns ts) h in
    record { valid = valid_of 0 ds ts (entries_of ns) (omega arith) f.entries; short = ltb-false 1048576 (length ds) f.data_bytes }

-- ── a result from the first place on
pub from_start : (is : List Item) (od oe ot od' oe' ot' : List ℕ) (c : Cursor) → out od' oe' ot' c ≡ add is (blank od oe ot)
    → (od' ≡ over (data_of is) od) × (oe' ≡ over (numbers_of_ranges (entries_from 0 [] [] is)) oe) × (ot' ≡ over (text_from 0 [] [] is) ot)
    × (c.d ≡ length (data_of is)) × (c.e ≡ length (numbers_of_ranges (entries_from 0 [] [] is))) × (c.t ≡ length (text_from 0 [] [] is))
unfolding add over_at out
from_start is od oe ot od' oe' ot' c e = (
  ap (λ (o : Out). o.data_bytes) e,
  ap (λ (o : Out). o.entry_numbers) e,
  ap (λ (o : Out). o.text) e,
  ap (λ (o : Out). o.d) e ∙ (omega arith),
  ap (λ (o : Out). o.e) e ∙ (omega arith),
  ap (λ (o : Out). o.t) e ∙ (omega arith),
)
