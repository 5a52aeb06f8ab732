-- Refusals 9 and 21 to 24 from sizes: the tests in order, what is known when none refuses, and that they are `over_limit` and `no_room` of a result with these lengths.
-- Also the sizes of a content, for the sums that callers take.
use mathlib.Core.Path.{◌≡◌, refl, sym, ap, ◌∙◌}
use mathlib.Core.Bool.{Bool, true, ◌||◌, false≢true}
use mathlib.Core.List.{List, [], ◌∷◌}
use Prim.Native.Nat.{ℕ, ◌-◌, ◌*◌, ◌%◌, ◌≤◌, ◌<◌}
use native.Mathlib.Omega.{arith}
use lib.Dec.{ltb}
use mathlib.Core.Logic.{⊎_elim}
use lib.ListN.{length, take, drop}
use Rattle.share.specs.Sizes.{Stands}
use Rattle.share.proofs.PlacedLaws.{places_none}
use borrow.Author.Tests.{ltb-false, lt-ltb, le-ltb, eqb-true}
use Rattle.recording.specs.declared.Refusal.{Refusal}
use Rattle.recording.specs.declared.Entry.{Entry}
use Rattle.recording.specs.Recording.{recording, entries_of, numbers_of_ranges, part_of, Item, item_of, items_from, items, entries_from, encode}
use Rattle.recording.specs.Refusals.{number_of_refusal, first_of, refuse_if, recording_fault, data_limit, entry_limit, text_limit}
use Rattle.recording.specs.Outcome.{Room, Result, over_limit, no_room}
use Rattle.recording.proofs.FaultLaws.{inside_none, first_of-zero, refuse_if-zero, no_fault, roomy, in_limits}
use Rattle.recording.proofs.Lists.{or_left, or_right}
use Rattle.recording.proofs.ShareLaws.{or_comm}
use Rattle.recording.proofs.SizeLaws.{entry_count, count-append, count_numbers}
use Rattle.std.specs.Prelude as Std
use Rattle.std.specs.Prelude.{is_ok}
use Rattle.recording.specs.Check.{fault_of}
use Rattle.writer.specs.Write.{blank, Fits}
use Rattle.writer.specs.Sizes.{sizes_fault}
use Rattle.writer.proofs.Carry.{count-bytes, count_none, one_entry}

module _ (d e t l : ℕ) (o : Room) where
  pub over_d : 1048576 < d → sizes_fault d e t l o ≡ 9
  unfolding sizes_fault
  over_d h = rw (lt-ltb 1048576 d h)

  module _ (ld : d ≤ 1048576) where
    pub over_e : 16384 < e → sizes_fault d e t l o ≡ 9
    unfolding sizes_fault
    over_e h = rw (le-ltb 1048576 d ld, lt-ltb 16384 e h)

    module _ (le : e ≤ 16384) where
      pub over_t : 65536 < t → sizes_fault d e t l o ≡ 9
      unfolding sizes_fault
      over_t h = rw (le-ltb 1048576 d ld, le-ltb 16384 e le, lt-ltb 65536 t h)

      module _ (lt : t ≤ 65536) where
        pub none_d : o.data_bytes < d → sizes_fault d e t l o ≡ 21
        unfolding sizes_fault
        none_d h = rw (le-ltb 1048576 d ld, le-ltb 16384 e le, le-ltb 65536 t lt, lt-ltb o.data_bytes d h)

        module _ (rd : d ≤ o.data_bytes) where
          pub none_e : o.entry_numbers < e → sizes_fault d e t l o ≡ 22
          unfolding sizes_fault
          none_e h = rw (le-ltb 1048576 d ld, le-ltb 16384 e le, le-ltb 65536 t lt, le-ltb o.data_bytes d rd, lt-ltb o.entry_numbers e h)

          module _ (re : e ≤ o.entry_numbers) where
            pub none_t : o.text < t → sizes_fault d e t l o ≡ 23
            unfolding sizes_fault
            none_t h = rw (le-ltb 1048576 d ld, le-ltb 16384 e le, le-ltb 65536 t lt, le-ltb o.data_bytes d rd, le-ltb o.entry_numbers e re, lt-ltb o.text t h)

            module _ (rt : t ≤ o.text) where
              pub none_l : o.lines < l → sizes_fault d e t l o ≡ 24
              unfolding sizes_fault
              none_l h = rw (le-ltb 1048576 d ld, le-ltb 16384 e le, le-ltb 65536 t lt, le-ltb o.data_bytes d rd, le-ltb o.entry_numbers e re, le-ltb o.text t rt, lt-ltb o.lines l h)

              pub all_fit_in : l ≤ o.lines → sizes_fault d e t l o ≡ 0
              unfolding sizes_fault
              all_fit_in h = rw (le-ltb 1048576 d ld, le-ltb 16384 e le, le-ltb 65536 t lt, le-ltb o.data_bytes d rd, le-ltb o.entry_numbers e re, le-ltb o.text t rt, le-ltb o.lines l h)

-- ── a result with these lengths
pub same_fault : (x : Result) (o : Room) (d e t l : ℕ) → d ≡ length x.recording.data_bytes → e ≡ length x.recording.entry_numbers → t ≡ length x.recording.text → l ≡ length x.lines
    → first_of (over_limit x.recording ∷ no_room o x ∷ []) ≡ sizes_fault d e t l o
unfolding over_limit no_room sizes_fault
same_fault x o d e t l ed ee et el = rw (ed, ee, et, el)

pub size_refused : (x : Result) (o : Room) (v : Std.Result Unit Refusal) (f : Refusal) (d e t l : ℕ) → fault_of v ≡ sizes_fault d e t l o → v ≡ Std.Err f
    → d ≡ length x.recording.data_bytes → e ≡ length x.recording.entry_numbers → t ≡ length x.recording.text → l ≡ length x.lines
    → first_of (over_limit x.recording ∷ no_room o x ∷ []) ≡ number_of_refusal f
size_refused x o v f d e t l s q ed ee et el = same_fault x o d e t l ed ee et el ∙ sym s ∙ ap fault_of q

pub size_granted : (x : Result) (o : Room) (v : Std.Result Unit Refusal) (d e t l : ℕ) → fault_of v ≡ sizes_fault d e t l o → v ≡ Std.Ok tt
    → d ≡ length x.recording.data_bytes → e ≡ length x.recording.entry_numbers → t ≡ length x.recording.text → l ≡ length x.lines
    → first_of (over_limit x.recording ∷ no_room o x ∷ []) ≡ 0
size_granted x o v d e t l s q ed ee et el = same_fault x o d e t l ed ee et el ∙ sym s ∙ ap fault_of q

-- a verdict that is Ok is no fault
pub granted : (v : Std.Result Unit Refusal) → is_ok v ≡ true → fault_of v ≡ 0
granted (Std.Ok x) h = refl
granted (Std.Err f) h = absurd (false≢true h)

-- a text over its limit, whatever the other sizes are
over_text : (d e t l : ℕ) (o : Room) → 65536 < t → sizes_fault d e t l o ≡ 9
unfolding sizes_fault
over_text d e t l o h = rw (lt-ltb 65536 t h, or_comm (ltb 1048576 d || ltb 16384 e) true)

-- a text size that stands for another gives the same verdict
pub same_verdict : (d e t r l : ℕ) (o : Room) → Stands o.text t r → sizes_fault d e r l o ≡ sizes_fault d e t l o
unfolding sizes_fault Stands
same_verdict d e t r l o s =
    ⊎_elim (⊎_elim (λ q. rw q) (λ h. over_text d e r l o h.1 ∙ sym (over_text d e t l o h.0)))
    (λ h. rw (le-ltb 65536 r h.1, le-ltb 65536 t (omega (arith, h.0, h.1)), le-ltb o.text r h.2, le-ltb o.text t (omega (arith, h.0, h.2))))
    s

-- room for a result that is not refused
pub record Fitting (x : Result) (o : Room) : Type 0 where
  pub data_limit_lem : length x.recording.data_bytes ≤ 1048576
  pub entry_limit_lem : length x.recording.entry_numbers ≤ 16384
  pub text_limit_lem : length x.recording.text ≤ 65536
  pub data_room : length x.recording.data_bytes ≤ o.data_bytes
  pub entry_room : length x.recording.entry_numbers ≤ o.entry_numbers
  pub text_room : length x.recording.text ≤ o.text
  pub line_room_lem : length x.lines ≤ o.lines

pub fitting : (x : Result) (o : Room) → first_of (over_limit x.recording ∷ no_room o x ∷ []) ≡ 0 → Fitting x o
fitting x o h =
    let a = first_of-zero (over_limit x.recording) (no_room o x ∷ []) h in
    let b = first_of-zero (no_room o x) [] a.1 in
    let q = in_limits x.recording a.0 in
    let r = roomy o x b.0 in
    record {
      data_limit_lem = ltb-false 1048576 (length x.recording.data_bytes) q.data_bytes;
      entry_limit_lem = ltb-false 16384 (length x.recording.entry_numbers) q.entry_numbers;
      text_limit_lem = ltb-false 65536 (length x.recording.text) q.text;
      data_room = ltb-false o.data_bytes (length x.recording.data_bytes) r.data_bytes;
      entry_room = ltb-false o.entry_numbers (length x.recording.entry_numbers) r.entry_numbers;
      text_room = ltb-false o.text (length x.recording.text) r.text;
      line_room_lem = ltb-false o.lines (length x.lines) r.lines;
    }

pub fits_blank : (is : List Item) (ls : List ℕ) (m : ℕ) (od oe ot : List ℕ) (o : Room) → o.data_bytes ≡ length od → o.entry_numbers ≡ length oe → o.text ≡ length ot
    → first_of (over_limit (encode is) ∷ no_room o (record { recording = encode is; lines = ls; number = m }) ∷ []) ≡ 0 → Fits is (blank od oe ot)
unfolding encode
fits_blank is ls m od oe ot o ed ee et h =
    let f = fitting (record { recording = encode is; lines = ls; number = m }) o h in
    record {
      data_bytes = omega (arith, ed, f.data_room);
      entry_numbers = omega (arith, ee, f.entry_room);
      text = omega (arith, et, f.text_room);
      data_limit_lem = omega (arith, f.data_limit_lem);
      text_limit_lem = omega (arith, f.text_limit_lem);
      fours = refl;
      parts = inside_none [];
      placed = places_none;
    }

-- ── four numbers an entry
count_entries : (at : ℕ) (t d : List ℕ) (es : List Entry) → entry_count (items_from at t d es) ≡ length es
count_entries at t d [] = count_none d
count_entries at t d (e ∷ es) =
    let x : Item = item_of e.kind (part_of t e) in
    let r : List Item = items_from e.position t (drop (e.position - at) d) es in
    omega (arith, count_entries e.position t (drop (e.position - at) d) es, count-bytes (take (e.position - at) d) (x ∷ r), count-append (x ∷ []) r, one_entry e.kind (part_of t e))

length-entries_of : (ns : List ℕ) → length ns % 4 ≡ 0 → 4 * length (entries_of ns) ≡ length ns
length-entries_of [] h = refl
length-entries_of (p ∷ []) h = absurd (omega (arith, h))
length-entries_of (p ∷ k ∷ []) h = absurd (omega (arith, h))
length-entries_of (p ∷ k ∷ s ∷ []) h = absurd (omega (arith, h))
length-entries_of (p ∷ k ∷ s ∷ n ∷ ns) h = omega (arith, length-entries_of ns (omega (arith, h)))

-- the entry numbers of a content's items are as many as the content has
pub numbers_items : (ds ns ts : List ℕ) → length ns % 4 ≡ 0 → length (numbers_of_ranges (entries_from 0 [] [] (items (recording ds ns ts)))) ≡ length ns
unfolding items
numbers_items ds ns ts h =
    omega (arith, count_numbers (items_from 0 ts ds (entries_of ns)) 0 [] [], count_entries 0 ts ds (entries_of ns), length-entries_of ns h)

pub quads_of : (ds ns ts : List ℕ) → recording_fault (recording ds ns ts) ≡ 0 → length ns % 4 ≡ 0
quads_of ds ns ts h = eqb-true (length ns % 4) 0 (no_fault (recording ds ns ts) h).quads

-- ── sizes that nothing refuses
pub record Within (d e t l : ℕ) (o : Room) : Type 0 where
  pub data_limit_lem : d ≤ data_limit
  pub entry_limit_lem : e ≤ entry_limit
  pub text_limit_lem : t ≤ text_limit
  pub data_room : d ≤ o.data_bytes
  pub entry_room : e ≤ o.entry_numbers
  pub text_room : t ≤ o.text
  pub line_room_lem : l ≤ o.lines

pub within : (d e t l : ℕ) (o : Room) → sizes_fault d e t l o ≡ 0 → Within d e t l o
unfolding sizes_fault
within d e t l o h =
    let n₉ : Bool = ltb data_limit d || ltb entry_limit e || ltb text_limit t in
    let n₂₄ : ℕ = refuse_if (ltb o.lines l) 24 in
    let n₂₃ : ℕ = refuse_if (ltb o.text t) 23 in
    let n₂₂ : ℕ = refuse_if (ltb o.entry_numbers e) 22 in
    let n₂₁ : ℕ = refuse_if (ltb o.data_bytes d) 21 in
    let a = first_of-zero (refuse_if n₉ 9) (first_of (n₂₁ ∷ n₂₂ ∷ n₂₃ ∷ n₂₄ ∷ []) ∷ []) h in
    let b = first_of-zero (first_of (n₂₁ ∷ n₂₂ ∷ n₂₃ ∷ n₂₄ ∷ [])) [] a.1 in
    let c = first_of-zero n₂₁ (n₂₂ ∷ n₂₃ ∷ n₂₄ ∷ []) b.0 in
    let f = first_of-zero n₂₂ (n₂₃ ∷ n₂₄ ∷ []) c.1 in
    let g = first_of-zero n₂₃ (n₂₄ ∷ []) f.1 in
    let k = first_of-zero n₂₄ [] g.1 in
    let z = refuse_if-zero n₉ 8 a.0 in
    let y = or_left (ltb data_limit d || ltb entry_limit e) (ltb text_limit t) z in
    record {
      data_limit_lem = ltb-false data_limit d (or_left (ltb data_limit d) (ltb entry_limit e) y);
      entry_limit_lem = ltb-false entry_limit e (or_right (ltb data_limit d) (ltb entry_limit e) y);
      text_limit_lem = ltb-false text_limit t (or_right (ltb data_limit d || ltb entry_limit e) (ltb text_limit t) z);
      data_room = ltb-false o.data_bytes d (refuse_if-zero (ltb o.data_bytes d) 20 c.0);
      entry_room = ltb-false o.entry_numbers e (refuse_if-zero (ltb o.entry_numbers e) 21 f.0);
      text_room = ltb-false o.text t (refuse_if-zero (ltb o.text t) 22 g.0);
      line_room_lem = ltb-false o.lines l (refuse_if-zero (ltb o.lines l) 23 k.0);
    }

-- where a larger result has room, so has a smaller one
pub smaller_fits : (d d' e t l l' : ℕ) (o : Room) → sizes_fault d' e t l' o ≡ 0 → d ≤ d' → l ≤ l' → sizes_fault d e t l o ≡ 0
smaller_fits d d' e t l l' o h p q =
    let w = within d' e t l' o h in
    all_fit_in d e t l o (omega (arith, w.data_limit_lem)) (omega (arith, w.entry_limit_lem)) (omega (arith, w.text_limit_lem)) (omega (arith, w.data_room)) w.entry_room w.text_room
    (omega (arith, w.line_room_lem))
