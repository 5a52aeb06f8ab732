-- One reading of the entries: balance, whether the label is pushed, and what dropping raw sequences leaves are all told by the entries alone (`marks`), in whatever data they stand (`marks_items`).
-- The idea of the loop: what is counted and what the entries left give is the whole (`Scanning`), with the labels that are open there.
use Prim.Native.Nat.{ℕ, zero, suc, ◌+◌, ◌-◌, ◌*◌, ◌≤◌}
use native.Mathlib.Omega.{arith}
use mathlib.Core.Bool.{Bool, true, false, cond, not, ◌&&◌, ◌||◌, or-false, or_self, or_assoc, false≢true}
use mathlib.Core.Path.{◌≡◌, refl, sym, ap, ◌∙◌}
use mathlib.Core.List.{List, [], ◌∷◌, ◌++◌}
use lib.Dec.{eqb}
use lib.ListN.{length, take, drop}
use borrow.Author.Tests.{eqb-true}
use Rattle.recording.specs.Lists.{same}
use Rattle.recording.specs.declared.Entry.{Entry}
use Rattle.recording.specs.Recording.{Bytes, recording, entries_of, part_of, Item, byte, push, pop, raw, item_of, items_from, items, text_of}
use Rattle.recording.specs.Coloured.{open_after, balanced_from, balanced}
use Rattle.recording.specs.Edit.{entries_only}
use Rattle.recording.specs.Refusals.{bad_shape_of, refuse_if}
use Rattle.recording.proofs.Lists.{and_left, and_right}
use Rattle.recording.proofs.SizeLaws.{IsEntry, entry_count, count-append, count_only, text_only}
use Rattle.recording.proofs.CheckLaws as check
use Rattle.writer.specs.Write.{Valid, item_at}
use Rattle.writer.proofs.Carry.{EntryItem, kind_entry, is_entry, valid-parts, only_append, only_bytes, only_none, only_entry}
use Rattle.view.specs.View.{among, drop_raws}
use Rattle.view.specs.Theorem.{opens}
use Rattle.view.proofs.DropLaws.{drop-entries}
use Rattle.view.proofs.AbsentLaws.{among_tail}
use Rattle.open_label.specs.declared.Open.{Open}
use Rattle.open_label.specs.declared.Kept.{Kept}
use Rattle.std.specs.Prelude.{Ok}
use Rattle.open_label.specs.Open.{Tells, Opened, Drops, Counted, ScanTold}
use Rattle.open_label.proofs.OpenLaws.{told_open}

-- the entries as items, without data
abbrev pub marks : Bytes → List Entry → List Item
marks t [] = []
marks t (e ∷ es) = item_at t e ∷ marks t es

-- ── bytes do not matter
only_cons : (x : Item) (is : List Item) → IsEntry x → entries_only (x ∷ is) ≡ x ∷ entries_only is
only_cons x is h = only_append (x ∷ []) is ∙ ap (λ (r : List Item). r ++ entries_only is) (only_entry x h)

marks_from : (at : ℕ) (t d : Bytes) (es : List Entry) → entries_only (items_from at t d es) ≡ marks t es
unfolding item_at
marks_from at t d [] = only_none d
marks_from at t d (e ∷ es) =
    let x : Item = item_of e.kind (part_of t e) in
    let r : List Item = items_from e.position t (drop (e.position - at) d) es in
    only_bytes (take (e.position - at) d) (x ∷ r) ∙ only_cons x r (kind_entry e.kind (part_of t e))
    ∙ ap (λ (is : List Item). x ∷ is) (marks_from e.position t (drop (e.position - at) d) es)

balance_only : (n : ℕ) (is : List Item) → balanced_from n (entries_only is) ≡ balanced_from n is
balance_only zero [] = refl
balance_only (suc n) [] = refl
balance_only n (byte b ∷ is) = balance_only n is
balance_only n (push k ∷ is) = balance_only (suc n) is
balance_only zero (pop ∷ is) = refl
balance_only (suc n) (pop ∷ is) = balance_only n is
balance_only n (raw t ∷ is) = balance_only n is

opens_only : (l : Bytes) (is : List Item) → opens l (entries_only is) ≡ opens l is
opens_only l [] = refl
opens_only l (byte b ∷ is) = opens_only l is
opens_only l (push k ∷ is) = ap (λ (t : Bool). same l k || t) (opens_only l is)
opens_only l (pop ∷ is) = opens_only l is
opens_only l (raw t ∷ is) = opens_only l is

module _ (l ds ns ts : List ℕ) where
  marks_items : entries_only (items (recording ds ns ts)) ≡ marks ts (entries_of ns)
  unfolding items
  marks_items = marks_from 0 ts ds (entries_of ns)

  balance_marks : balanced (recording ds ns ts) ≡ balanced_from 0 (marks ts (entries_of ns))
  unfolding balanced
  balance_marks = sym (balance_only 0 (items (recording ds ns ts))) ∙ ap (balanced_from 0) marks_items

  opens_marks : opens l (items (recording ds ns ts)) ≡ opens l (marks ts (entries_of ns))
  opens_marks = sym (opens_only l (items (recording ds ns ts))) ∙ ap (opens l) marks_items

  dropped_marks : entries_only (drop_raws l [] (items (recording ds ns ts))) ≡ drop_raws l [] (marks ts (entries_of ns))
  dropped_marks = drop-entries l [] (items (recording ds ns ts)) ∙ ap (drop_raws l []) marks_items

  count_marks : entry_count (drop_raws l [] (items (recording ds ns ts))) ≡ entry_count (drop_raws l [] (marks ts (entries_of ns)))
  count_marks = sym (count_only (drop_raws l [] (items (recording ds ns ts)))) ∙ ap entry_count dropped_marks

  text_marks : text_of (drop_raws l [] (items (recording ds ns ts))) ≡ text_of (drop_raws l [] (marks ts (entries_of ns)))
  text_marks = sym (text_only (drop_raws l [] (items (recording ds ns ts)))) ∙ ap text_of dropped_marks

-- ── one entry: balance, by the test for a pop that finds no label open
balance_entry : (k : ℕ) (p : Bytes) (s : List Bytes) (is : List Item) → (eqb k 1 && eqb (length s) 0) ≡ false
    → balanced_from (length (open_after s (item_of k p ∷ []))) is ≡ balanced_from (length s) (item_of k p ∷ is)
balance_entry zero p s is h = refl
balance_entry (suc zero) p [] is h = absurd (false≢true (sym h))
balance_entry (suc zero) p (x ∷ s) is h = refl
balance_entry (suc (suc k)) p s is h = refl

unbalanced_entry : (k : ℕ) (p : Bytes) (s : List Bytes) (is : List Item) → (eqb k 1 && eqb (length s) 0) ≡ true → balanced_from (length s) (item_of k p ∷ is) ≡ false
unbalanced_entry k p s is h = go k s (eqb-true k 1 (and_left (eqb k 1) (eqb (length s) 0) h)) (eqb-true (length s) 0 (and_right (eqb k 1) (eqb (length s) 0) h))
  where
    go : (k : ℕ) (s : List Bytes) → k ≡ 1 → length s ≡ 0 → balanced_from (length s) (item_of k p ∷ is) ≡ false
    go zero s a b = absurd (omega arith)
    go (suc zero) [] a b = refl
    go (suc zero) (x ∷ s) a b = absurd (omega arith)
    go (suc (suc k)) s a b = absurd (omega arith)

-- ── one entry: whether the label is pushed, where `f` says that it was pushed before
opens_entry : (l : Bytes) (x : Item) (f : Bool) (s : List Bytes) (is : List Item) → IsEntry x → (f || among l s) ≡ f
    → ((f || among l (open_after s (x ∷ []))) || opens l is) ≡ (f || opens l (x ∷ is))
opens_entry l (byte b) f s is e h = absurd e
opens_entry l (push k) true s is e h = refl
opens_entry l (push k) false s is e h = rw (h, or-false (same l k))
opens_entry l pop true s is e h = refl
opens_entry l pop false s is e h = rw (among_tail l s h)
opens_entry l (raw t) true s is e h = refl
opens_entry l (raw t) false s is e h = rw h

-- ── one entry: entry numbers and text, where g says that it goes
module _ (x : Item) (m : ℕ) (h : EntryItem x) (is : List Item) (size : length (text_of (x ∷ is)) ≡ m + length (text_of is)) where
  count-entry : (g : Bool) → 4 * entry_count (cond g [] (x ∷ []) ++ is) ≡ cond g 0 4 + 4 * entry_count is
  count-entry true = omega arith
  count-entry false = omega (arith, count-append (x ∷ []) is, h.one)

  text_entry : (g : Bool) → length (text_of (cond g [] (x ∷ []) ++ is)) ≡ cond g 0 m + length (text_of is)
  text_entry true = omega arith
  text_entry false = size

-- an entry's text is as long as it says
entry_size : (t : List ℕ) (e : Entry) (is : List Item) → bad_shape_of e.kind e.start e.len ≡ false → e.start + e.len ≤ length t → length (text_of (item_at t e ∷ is)) ≡ e.len + length (text_of is)
unfolding item_at
entry_size t e is b h = check.text_entry e.kind e.start e.len t is b h

-- ── the state of the loop: `es` are the entries left of all
pub record Scanning (l ds ts : List ℕ) (all : List Entry) (es : List Entry) (o : Open) (n : Kept) : Type 0 where
  pub at : ℕ
  pub valid : Valid at (length ds) (length ts) es
  pub stack : List Bytes
  pub told : Tells l o stack
  pub seen : (n.found || among l stack) ≡ n.found
  pub balance : balanced_from (length stack) (marks ts es) ≡ balanced_from 0 (marks ts all)
  pub found : (n.found || opens l (marks ts es)) ≡ opens l (marks ts all)
  pub entries : n.entries + 4 * entry_count (drop_raws l stack (marks ts es)) ≡ 4 * entry_count (drop_raws l [] (marks ts all))
  pub text : n.text + length (text_of (drop_raws l stack (marks ts es))) ≡ length (text_of (drop_raws l [] (marks ts all)))
  pub depth : o.depth + length es ≤ length all
  pub few : n.entries + 4 * length es ≤ 4 * length all
  pub short : n.text + 65536 * length es ≤ 65536 * length all

pub scan_first : (l ds ts : List ℕ) (all es : List Entry) (o : Open) (n : Kept) → Valid 0 (length ds) (length ts) all → es ≡ all
    → o.depth ≡ 0 → o.since ≡ 0 → n.found ≡ false → n.entries ≡ 0 → n.text ≡ 0 → Scanning l ds ts all es o n
scan_first l ds ts all es o n v q d s f e t =
    rw q record {
      at = 0;
      valid = v;
      stack = [];
      told = (d, s);
      seen = or-false n.found;
      balance = refl;
      found = ap (λ (u : Bool). u || opens l (marks ts all)) f;
      entries = omega (arith, e);
      text = omega (arith, t);
      depth = omega (arith, d);
      few = omega (arith, e);
      short = omega (arith, t);
    }

module _ (l ds ts : List ℕ) (all : List Entry) (o : Open) (n : Kept) (left : List Entry) (s₀ : Scanning l ds ts all left o n) (e : Entry) (es : List Entry) (q : left ≡ e ∷ es)
    (fits : length ts ≤ 65536) where
  abbrev s : Scanning l ds ts all (e ∷ es) o n
  s = rw q at s₀

  pub ok : (s.at ≤ e.position) × (bad_shape_of e.kind e.start e.len ≡ false) × (e.start + e.len ≤ length ts) × Valid e.position (length ds) (length ts) es
  ok = valid-parts s.at (length ds) (length ts) e es s.valid

  test : (eqb e.kind 1 && eqb (length s.stack) 0) ≡ (eqb e.kind 1 && eqb o.depth 0)
  test = ap (λ (d : ℕ). eqb e.kind 1 && eqb d 0) (sym s.told.0)

  pub refused : (eqb e.kind 1 && eqb o.depth 0) ≡ true → balanced_from 0 (marks ts all) ≡ false
  unfolding item_at
  refused h = sym s.balance ∙ unbalanced_entry e.kind (part_of ts e) s.stack (marks ts es) (test ∙ h)

  balance_next : (eqb e.kind 1 && eqb o.depth 0) ≡ false → balanced_from (length (open_after s.stack (item_at ts e ∷ []))) (marks ts es) ≡ balanced_from 0 (marks ts all)
  unfolding item_at
  balance_next h = balance_entry e.kind (part_of ts e) s.stack (marks ts es) (test ∙ h) ∙ s.balance

  pub goes : (eqb e.kind 1 && eqb o.depth 0) ≡ false → (o' : Open) → Opened l (item_at ts e) o o' → o'.depth ≤ o.depth + 1
      → (n' : Kept) → n'.found ≡ (n.found || not (eqb o'.since 0)) → Counted e o n n' → (n'.entries ≤ n.entries + 4) × (n'.text ≤ n.text + e.len) → Scanning l ds ts all es o' n'
  unfolding Opened Drops
  goes h o' op d n' f c b =
      let x : Item = item_at ts e in
      let st : List Bytes = open_after s.stack (x ∷ []) in
      let is : EntryItem x = is_entry ts e in
      let told' : Tells l o' st = op s.stack s.told in
      let found' : n'.found ≡ (n.found || among l st) = f ∙ ap (λ (t : Bool). n.found || t) (sym (told_open l o' st told')) in
      let left : List Item = drop_raws l st (marks ts es) in
      let size = entry_size ts e left ok.1 ok.2 in
      let cut : drop_raws l s.stack (x ∷ marks ts es) ≡ cond c.gone [] (x ∷ []) ++ left = c.drops l ts s.stack (marks ts es) s.told in
      record {
        at = e.position;
        valid = ok.3;
        stack = st;
        told = told';
        seen = ap (λ (t : Bool). t || among l st) found' ∙ or_assoc n.found (among l st) (among l st) ∙ ap (λ (t : Bool). n.found || t) (or_self (among l st)) ∙ sym found';
        balance = balance_next h;
        found = ap (λ (t : Bool). t || opens l (marks ts es)) found' ∙ opens_entry l x n.found s.stack (marks ts es) is.kind s.seen ∙ s.found;
        entries = omega (arith, s.entries, c.entries, ap (λ (i : List Item). 4 * entry_count i) cut, count-entry x e.len is left size c.gone);
        text = omega (arith, s.text, c.text, ap (λ (i : List Item). length (text_of i)) cut, text_entry x e.len is left size c.gone);
        depth = omega (arith, s.depth, d);
        few = omega (arith, s.few, b.0);
        short = omega (arith, s.short, b.1, ok.2);
      }

-- ── the end: no entry is left
module _ (l ds ns ts : List ℕ) (es : List Entry) (o : Open) (n : Kept) (s : Scanning l ds ts (entries_of ns) es o n) (none : es ≡ []) where
  pub last_open : (o.depth ≡ 0 → ⊥) → balanced_from 0 (marks ts (entries_of ns)) ≡ false
  last_open h = sym s.balance ∙ ap (λ (x : List Entry). balanced_from (length s.stack) (marks ts x)) none ∙ go (length s.stack) (λ z. h (s.told.0 ∙ z))
    where
      go : (m : ℕ) → (m ≡ 0 → ⊥) → balanced_from m [] ≡ false
      go zero g = absurd (g refl)
      go (suc m) g = refl

  pub last_closed : o.depth ≡ 0 → balanced_from 0 (marks ts (entries_of ns)) ≡ true
  last_closed h =
      sym s.balance ∙ (λ i. balanced_from (sym s.told.0 i) (marks ts (none i))) ∙ ap (λ (m : ℕ). balanced_from m []) h

  pub last_told : ScanTold l (recording ds ns ts) (Ok n)
  unfolding ScanTold
  last_told = (
    sym (or-false n.found) ∙ ap (λ (x : List Entry). n.found || opens l (marks ts x)) (sym none) ∙ s.found ∙ sym (opens_marks l ds ns ts),
    omega (arith, s.entries, ap (λ (x : List Entry). entry_count (drop_raws l s.stack (marks ts x))) none, count_marks l ds ns ts),
    omega (arith, s.text, ap (λ (x : List Entry). length (text_of (drop_raws l s.stack (marks ts x)))) none, ap length (text_marks l ds ns ts)),
  )

-- ── the answers
module _ (ds ns ts : List ℕ) where
  pub fault_open : balanced_from 0 (marks ts (entries_of ns)) ≡ false → 35 ≡ refuse_if (not (balanced (recording ds ns ts))) 35
  fault_open h = rw (balance_marks [] ds ns ts, h)

  pub fault_none : balanced_from 0 (marks ts (entries_of ns)) ≡ true → 0 ≡ refuse_if (not (balanced (recording ds ns ts))) 35
  fault_none h = rw (balance_marks [] ds ns ts, h)
