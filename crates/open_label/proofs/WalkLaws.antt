-- A place of the content with the entries there passed: what is left of the content begins with the bytes up to the next entry (`left_run_lem`), and one entry further (`entry_next`).
use Prim.Native.Nat.{ℕ, ◌+◌, ◌-◌, ◌≤◌, ◌<◌}
use native.Mathlib.Omega.{arith}
use mathlib.Core.Bool.{false}
use mathlib.Core.Path.{◌≡◌, sym, ap, ◌∙◌}
use mathlib.Core.List.{List, [], ◌∷◌, ◌++◌}
use lib.ListN.{length, take, drop}
use lib.Seq.{drop-drop}
use Rattle.buffer.specs.Place.{part}
use Rattle.recording.specs.declared.Entry.{Entry}
use Rattle.recording.specs.Recording.{entries_of, Item, byte_items, items_from}
use Rattle.recording.specs.Edit.{front, back}
use Rattle.recording.specs.Refusals.{bad_shape_of}
use Rattle.recording.proofs.SizeLaws.{front-entry, back-entry}
use Rattle.writer.specs.declared.Cursor.{Cursor}
use Rattle.writer.specs.Write.{Valid, Ready, left, place_for, item_at}
use Rattle.writer.proofs.Carry.{valid_in, whole_entry, bytes_first, EntryItem, is_entry, left_turn, rest_after, front_stop, back_stop, placed}
use Rattle.open_label.specs.Walk.{next_place}

-- ── a run without an entry inside
module _ (ds ns ts : List ℕ) (c c' : Cursor) (h : c.at ≤ c'.at) (g : c'.at ≤ next_place ns c) (k : c'.k ≡ c.k) where
  abbrev n : ℕ
  n = c'.at - c.at

  there : c.at + n ≡ c'.at
  there = omega (arith, h)

  behind : drop n (drop c.at ds) ≡ drop c'.at ds
  behind = drop-drop n c.at ds ∙ ap (λ (m : ℕ). drop m ds) there

  pub left_run_lem : left ds ns ts c ≡ byte_items (part c.at c'.at ds) ++ left ds ns ts c'
  unfolding left
  left_run_lem =
      let es : List Entry = entries_of (drop c.k ns) in
      bytes_first n c.at ts (drop c.at ds) es (omega (arith, there, g)) ∙ (λ i. byte_items (part c.at c'.at ds) ++ items_from (there i) ts (behind i) es)
      ∙ ap (λ (j : ℕ). byte_items (part c.at c'.at ds) ++ items_from c'.at ts (drop c'.at ds) (entries_of (drop j ns))) (sym k)

  valid-run : (es : List Entry) → c'.at ≤ place_for es → c'.at ≤ length ds → Valid c.at (length ds) (length ts) es → Valid c'.at (length ds) (length ts) es
  unfolding place_for Valid
  valid-run [] p l v = l
  valid-run (e ∷ es) p l v = (p, v.1, v.2, v.3)

  pub ready_run : c'.at ≤ length ds → Ready ds ns ts c → Ready ds ns ts c'
  ready_run l r =
      record {
        within = omega (arith, k, r.within);
        valid = rw k (valid-run (entries_of (drop c.k ns)) g l r.valid);
        short = r.short;
      }

-- ── an entry at this place
module _ (ds ns ts : List ℕ) (c : Cursor) (r : Ready ds ns ts c) (more : next_place ns c ≤ c.at) where
  at_in : c.at ≤ length ds
  at_in = valid_in c.at (length ds) (length ts) (entries_of (drop c.k ns)) r.valid

  -- it is whole
  pub entry_whole : c.k + 4 ≤ length ns
  entry_whole = whole_entry c.k ns (omega (arith, more, at_in, r.short))

  module _ (e : Entry) (q : entries_of (drop c.k ns) ≡ e ∷ entries_of (drop (c.k + 4) ns)) where
    parts : Valid c.at (length ds) (length ts) (e ∷ entries_of (drop (c.k + 4) ns)) → (c.at ≤ e.position) × (bad_shape_of e.kind e.start e.len ≡ false)
        × (e.start + e.len ≤ length ts) × Valid e.position (length ds) (length ts) (entries_of (drop (c.k + 4) ns))
    unfolding Valid
    parts v = v

    pub entry_fine : (c.at ≤ e.position) × (bad_shape_of e.kind e.start e.len ≡ false) × (e.start + e.len ≤ length ts)
        × Valid e.position (length ds) (length ts) (entries_of (drop (c.k + 4) ns))
    entry_fine = parts (rw q at r.valid)

    pub entry_here : e.position ≡ c.at
    entry_here =
        let p : next_place ns c ≡ e.position = ap place_for q ∙ placed e (entries_of (drop (c.k + 4) ns)) in
        omega (arith, p, more, entry_fine.0)

    pub entry_is : EntryItem (item_at ts e)
    entry_is = is_entry ts e

    -- the cursor behind it
    module _ (c' : Cursor) (a : c'.at ≡ c.at) (k : c'.k ≡ c.k + 4) where
      pub entry_next : left ds ns ts c ≡ item_at ts e ∷ left ds ns ts c'
      unfolding left
      entry_next =
          let z : e.position - c.at ≡ 0 = omega (arith, entry_here) in
          left_turn ds ns ts c e q entry_fine.0
          ∙ ap (λ (n : ℕ). byte_items (take n (drop c.at ds)) ++ (item_at ts e ∷ rest_after ds ns ts c.k e)) z
          ∙ ap (λ (x : List Item). item_at ts e ∷ x) (λ i. items_from ((entry_here ∙ sym a) i) ts (drop ((entry_here ∙ sym a) i) ds) (entries_of (drop (sym k i) ns)))

      pub front_next : front 0 (left ds ns ts c) ≡ item_at ts e ∷ front 0 (left ds ns ts c')
      front_next = ap (front 0) entry_next ∙ front-entry 0 (item_at ts e) (left ds ns ts c') entry_is.kind

      pub back_next : back 0 (left ds ns ts c) ≡ back 0 (left ds ns ts c')
      back_next = ap (back 0) entry_next ∙ back-entry 0 (item_at ts e) (left ds ns ts c') entry_is.kind

      pub ready_next : Ready ds ns ts c'
      ready_next =
          record {
            within = omega (arith, k, entry_whole);
            valid = rw (a, k, ← entry_here) entry_fine.3;
            short = r.short;
          }

-- ── no entry at this place any more
module _ (ds ns ts : List ℕ) (c : Cursor) (r : Ready ds ns ts c) (past : c.at < next_place ns c) where
  at_within : c.at ≤ length ds
  at_within = valid_in c.at (length ds) (length ts) (entries_of (drop c.k ns)) r.valid

  same_place : c.at - c.at ≡ 0
  same_place = omega arith

  pub no_front : front 0 (left ds ns ts c) ≡ []
  unfolding left
  no_front =
      ap (λ (n : ℕ). front n (items_from c.at ts (drop c.at ds) (entries_of (drop c.k ns)))) (sym same_place)
      ∙ front_stop c.at c.at (length ts) ds ts (omega arith) at_within (entries_of (drop c.k ns)) past r.valid
      ∙ ap (λ (n : ℕ). byte_items (take n (drop c.at ds))) same_place

  pub same_back : back 0 (left ds ns ts c) ≡ left ds ns ts c
  unfolding left
  same_back =
      ap (λ (n : ℕ). back n (items_from c.at ts (drop c.at ds) (entries_of (drop c.k ns)))) (sym same_place)
      ∙ back_stop c.at c.at (length ts) ds ts (omega arith) at_within (entries_of (drop c.k ns)) past r.valid
