-- What an adding call that is not refused leaves is a recording without faults (`written_clean`, `pushed_clean`, `popped_clean`, `raw_clean`).
-- The idea: more data and more text give the entries that were there no fault (`entries_more`), and the new one stands last, at the data's end (`entries-snoc`).
use mathlib.Core.Path.{◌≡◌, refl, sym, ap, ◌∙◌}
use mathlib.Core.Bool.{true, false, not}
use mathlib.Core.List.{List, [], ◌∷◌, ◌++◌, append-nil}
use Prim.Native.Nat.{ℕ, ◌+◌, ◌%◌, ◌≤◌}
use native.Mathlib.Omega.{arith}
use lib.Dec.{eqb}
use lib.ListN.{length, take, drop, length-append}
use borrow.Author.Tests.{eqb-true, eq-eqb, le-ltb}
use Rattle.chars.specs.Chars.{well_formed_of}
use Rattle.recording.specs.declared.Entry.{Entry}
use Rattle.recording.specs.Recording.{Bytes, Recording, entry, entries_of, numbers_of_ranges, part_of, start_in, new_text, push_at}
use Rattle.recording.specs.Refusals.{refuse_if, bad_shape_of, entry_fault, entries_fault, recording_fault}
use Rattle.recording.specs.Outcome.{Result, done, over_limit, Lent, room_in}
use Rattle.recording.proofs.Lists.{not_false}
use Rattle.recording.specs.Share.{Inside}
use Rattle.recording.proofs.ItemsLaws.{placed_at}
use Rattle.recording.proofs.ShareLaws.{part_more}
use Rattle.recording.proofs.FaultLaws.{inside_of, start_inside, first_of-zero, refuse_if-zero, NoFault, no_fault, fault_free, InLimits, in_limits, NoEntryFault, no_entry_fault, granted}
use Rattle.recording.proofs.OutcomeLaws.{done_only}
use Rattle.recorder.specs.Recorder.{leaves, used_of, add_faults, with_data, with_entry, with_label, with_pop, with_raw, written, pushed, popped, raw_added}

-- ── one entry without faults, put together
entry_clean : (at : ℕ) (d t : Bytes) (e : Entry) → NoEntryFault at d t e → entry_fault at d t e ≡ 0
unfolding entry_fault
entry_clean at d t e f =
    rw (f.shape, le-ltb e.position at f.low, le-ltb (length d) e.position f.high, le-ltb (length t) (e.start + e.len) f.part, f.label)

-- ── the entries that were there
entries_more : (es : List Entry) (at : ℕ) (d d' t x : Bytes) → length d ≤ length d' → entries_fault at d t es ≡ 0 → entries_fault at d' (t ++ x) es ≡ 0
entries_more [] at d d' t x l h = refl
entries_more (e ∷ es) at d d' t x l h =
    let a = first_of-zero (entry_fault at d t e) (entries_fault e.position d t es ∷ []) h in
    let b = first_of-zero (entries_fault e.position d t es) [] a.1 in
    let f = no_entry_fault at d t e a.0 in
    let p : part_of (t ++ x) e ≡ part_of t e = part_more e.start e.len t x f.part in
    let g : NoEntryFault at d' (t ++ x) e = record {
      shape = f.shape;
      low = f.low;
      high = omega (arith, f.high, l);
      part = omega (arith, f.part, length-append t x);
      label = rw p f.label;
    } in
    rw (entry_clean at d' (t ++ x) e g, entries_more es e.position d d' t x l b.0)

-- ── a new one behind them, at the data's end
entries-snoc : (es : List Entry) (at : ℕ) (d t : Bytes) (e : Entry) → at ≤ length d → entries_fault at d t es ≡ 0 → ((p : ℕ) → p ≤ length d → entry_fault p d t e ≡ 0)
    → entries_fault at d t (es ++ (e ∷ [])) ≡ 0
entries-snoc [] at d t e l h f = rw (f at l)
entries-snoc (y ∷ es) at d t e l h f =
    let a = first_of-zero (entry_fault at d t y) (entries_fault y.position d t es ∷ []) h in
    let b = first_of-zero (entries_fault y.position d t es) [] a.1 in
    let g = no_entry_fault at d t y a.0 in
    rw (a.0, entries-snoc es y.position d t e g.high b.0 f)

pub entries_of-snoc : (ns : List ℕ) (e : Entry) → length ns % 4 ≡ 0 → entries_of (ns ++ numbers_of_ranges (e ∷ [])) ≡ entries_of ns ++ (e ∷ [])
entries_of-snoc [] e h = refl
entries_of-snoc (p ∷ []) e h = absurd (omega (arith, h))
entries_of-snoc (p ∷ k ∷ []) e h = absurd (omega (arith, h))
entries_of-snoc (p ∷ k ∷ s ∷ []) e h = absurd (omega (arith, h))
entries_of-snoc (p ∷ k ∷ s ∷ n ∷ ns) e h = ap (λ (l : List Entry). entry p k s n ∷ l) (entries_of-snoc ns e (omega (arith, h)))

-- ── the two shapes of a result
data_clean : (x : Bytes) (r : Recording) → recording_fault r ≡ 0 → over_limit (with_data x r) ≡ 0 → recording_fault (with_data x r) ≡ 0
data_clean x r h l = fault_free (with_data x r) (parts (no_fault r h) (in_limits (with_data x r) l))
  where
    parts : NoFault r → InLimits (with_data x r) → NoFault (with_data x r)
    parts f g = record { data_bytes = g.data_bytes; quads = unfold with_data in f.quads; entry_numbers = g.entry_numbers; text = g.text; entries = kept f }
      where
        kept : NoFault r → entries_fault 0 (with_data x r).data_bytes (with_data x r).text (entries_of (with_data x r).entry_numbers) ≡ 0
        kept f =
            unfold with_data in
            ap (λ (t : Bytes). entries_fault 0 (r.data_bytes ++ x) t (entries_of r.entry_numbers)) (sym (append-nil r.text))
            ∙ entries_more (entries_of r.entry_numbers) 0 r.data_bytes (r.data_bytes ++ x) r.text [] (omega (arith, length-append r.data_bytes x)) f.entries

entry_clean_of : (kind start n : ℕ) (x : Bytes) (r : Recording) → recording_fault r ≡ 0 → over_limit (with_entry kind start n x r) ≡ 0
    → ((p : ℕ) → p ≤ length r.data_bytes → entry_fault p r.data_bytes (r.text ++ x) (entry (length r.data_bytes) kind start n) ≡ 0)
    → recording_fault (with_entry kind start n x r) ≡ 0
entry_clean_of kind start n x r h l new = fault_free (with_entry kind start n x r) (parts (no_fault r h) (in_limits (with_entry kind start n x r) l))
  where
    parts : NoFault r → InLimits (with_entry kind start n x r) → NoFault (with_entry kind start n x r)
    parts f g = record { data_bytes = g.data_bytes; quads = fours; entry_numbers = g.entry_numbers; text = g.text; entries = kept }
      where
        e : Entry
        e = entry (length r.data_bytes) kind start n

        four : length r.entry_numbers % 4 ≡ 0
        four = eqb-true (length r.entry_numbers % 4) 0 f.quads

        fours : eqb (length (with_entry kind start n x r).entry_numbers % 4) 0 ≡ true
        fours =
            unfold with_entry in
            eq-eqb (length (r.entry_numbers ++ numbers_of_ranges (e ∷ [])) % 4) 0 (omega (arith, four, length-append r.entry_numbers (numbers_of_ranges (e ∷ []))))

        kept : entries_fault 0 (with_entry kind start n x r).data_bytes (with_entry kind start n x r).text (entries_of (with_entry kind start n x r).entry_numbers) ≡ 0
        kept =
            unfold with_entry in
            ap (entries_fault 0 r.data_bytes (r.text ++ x)) (entries_of-snoc r.entry_numbers e four)
            ∙ entries-snoc (entries_of r.entry_numbers) 0 r.data_bytes (r.text ++ x) e (omega arith)
            (entries_more (entries_of r.entry_numbers) 0 r.data_bytes r.data_bytes r.text x (omega arith) f.entries) new

-- ── the new entry has no fault
new_label : (d t x : Bytes) (es : List Entry) (p : ℕ) → Inside t es → well_formed_of x ≡ true → p ≤ length d → entry_fault p d (t ++ new_text x t es) (push_at (length d) t es x) ≡ 0
unfolding bad_shape_of
new_label d t x es p h w l =
    let n : Bytes = new_text x t es in
    let k : take (length x) (drop (start_in x t (length t) es) (t ++ n)) ≡ x =
    ap (λ (z : Bytes). take (length x) (drop (start_in x t (length t) es) (t ++ z))) (sym (append-nil n)) ∙ placed_at x t es [] in
    let m : not (well_formed_of (take (length x) (drop (start_in x t (length t) es) (t ++ n)))) ≡ false = rw (k, w) in
    entry_clean p d (t ++ n) (push_at (length d) t es x) (record { shape = refl; low = l; high = omega arith; part = start_inside x t es h; label = m })

new_pop : (d t : Bytes) (p : ℕ) → p ≤ length d → entry_fault p d (t ++ []) (entry (length d) 1 0 0) ≡ 0
unfolding bad_shape_of
new_pop d t p l = entry_clean p d (t ++ []) (entry (length d) 1 0 0) (record { shape = refl; low = l; high = omega arith; part = omega arith; label = refl })

new_raw : (d t x : Bytes) (p : ℕ) → eqb (length x) 0 ≡ false → p ≤ length d → entry_fault p d (t ++ x) (entry (length d) 2 (length t) (length x)) ≡ 0
unfolding bad_shape_of
new_raw d t x p w l =
    let q : length t + length x ≤ length (t ++ x) = omega (arith, length-append t x) in
    entry_clean p d (t ++ x) (entry (length d) 2 (length t) (length x)) (record { shape = w; low = l; high = omega arith; part = q; label = refl })

-- ── the calls
module _ (b : Lent) (d e t : ℕ) (y : Result) where
  pub written_clean : (x : Bytes) → written x b d e t ≡ done y → recording_fault y.recording ≡ 0
  unfolding written add_faults
  written_clean x h =
      let r : Recording = used_of b d e t in
      let o = done_only (add_faults 0 b d e t) (room_in b) (leaves (with_data x r)) y h in
      let g = granted (add_faults 0 b d e t) (room_in b) (leaves (with_data x r)) o.0 in
      ap (λ (z : Result). recording_fault z.recording) (sym o.1) ∙ data_clean x r g.content g.limit

  pub pushed_clean : (l : Bytes) → pushed l b d e t ≡ done y → recording_fault y.recording ≡ 0
  unfolding pushed add_faults with_label
  pushed_clean l h =
      let r : Recording = used_of b d e t in
      let n : ℕ = refuse_if (not (well_formed_of l)) 6 in
      let es : List Entry = entries_of r.entry_numbers in
      let s : ℕ = start_in l r.text (length r.text) es in
      let x : Bytes = new_text l r.text es in
      let o = done_only (add_faults n b d e t) (room_in b) (leaves (with_entry 0 s (length l) x r)) y h in
      let g = granted (add_faults n b d e t) (room_in b) (leaves (with_entry 0 s (length l) x r)) o.0 in
      let w = not_false (well_formed_of l) (refuse_if-zero (not (well_formed_of l)) 5 g.added) in
      let i = inside_of es 0 r.data_bytes r.text (no_fault r g.content).entries in
      ap (λ (z : Result). recording_fault z.recording) (sym o.1) ∙ entry_clean_of 0 s (length l) x r g.content g.limit (λ p q. new_label r.data_bytes r.text l es p i w q)

  pub popped_clean : popped b d e t ≡ done y → recording_fault y.recording ≡ 0
  unfolding popped add_faults with_pop
  popped_clean h =
      let r : Recording = used_of b d e t in
      let o = done_only (add_faults 0 b d e t) (room_in b) (leaves (with_entry 1 0 0 [] r)) y h in
      let g = granted (add_faults 0 b d e t) (room_in b) (leaves (with_entry 1 0 0 [] r)) o.0 in
      ap (λ (z : Result). recording_fault z.recording) (sym o.1) ∙ entry_clean_of 1 0 0 [] r g.content g.limit (λ p q. new_pop r.data_bytes r.text p q)

  pub raw_clean : (x : Bytes) → raw_added x b d e t ≡ done y → recording_fault y.recording ≡ 0
  unfolding raw_added add_faults with_raw
  raw_clean x h =
      let r : Recording = used_of b d e t in
      let n : ℕ = refuse_if (eqb (length x) 0) 3 in
      let o = done_only (add_faults n b d e t) (room_in b) (leaves (with_entry 2 (length r.text) (length x) x r)) y h in
      let g = granted (add_faults n b d e t) (room_in b) (leaves (with_entry 2 (length r.text) (length x) x r)) o.0 in
      let w = refuse_if-zero (eqb (length x) 0) 2 g.added in
      ap (λ (z : Result). recording_fault z.recording) (sym o.1) ∙ entry_clean_of 2 (length r.text) (length x) x r g.content g.limit (λ p q. new_raw r.data_bytes r.text x p w q)
