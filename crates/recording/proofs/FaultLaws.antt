-- Refusals that are not given, taken apart and put together; and: items that a recording can hold, under the limits, are written as a recording without faults (`encoded`).
-- The idea: a fault-free recording has only items that are `Ok`, every edit keeps them so, and what `entries_from` writes of them is in order by construction.
use Prim.Native.Nat.{ℕ, zero, suc, ◌+◌, ◌-◌, ◌*◌, ◌%◌, ◌≤◌}
use native.Mathlib.Omega.{arith}
use mathlib.Core.Bool.{Bool, true, false, cond, ◌&&◌, ◌||◌, not, false≢true}
use mathlib.Core.Path.{◌≡◌, refl, sym, ap}
use mathlib.Core.List.{List, [], ◌∷◌, ◌++◌, append_assoc, append-nil}
use lib.Dec.{ltb, eqb, eqb-suc-zero}
use lib.ListN.{length, take, drop, length-append, length-take}
use borrow.Author.Tests.{eqb-true, eqb-false, eq-eqb, ltb-false, le-ltb}
use Rattle.chars.specs.Chars.{well_formed_of}
use Rattle.buffer.proofs.Laws.{take_over}
use Rattle.recording.specs.Lists.{AllOf}
use Rattle.recording.specs.declared.Entry.{Entry}
use Rattle.recording.specs.Recording.{Bytes, Recording, is_nil, entries_of, numbers_of_ranges, part_of, Item, byte, push, pop, raw, byte_items, item_of, items_from, items, data_of, entry, is_push_of, pushed_in, start_in, push_at, new_text, entries_from, text_from, encode}
use Rattle.recording.specs.Share.{Inside}
use Rattle.recording.specs.Edit.{Op, keep, skip, put, front, back, entries_only, edit}
use Rattle.recording.specs.Refusals.{first_of, refuse_if, bad_shape_of, entry_fault, entries_fault, recording_fault, data_limit, entry_limit, text_limit}
use Rattle.recording.specs.Outcome.{Room, Result, Faults, done, over_limit, no_room, refusal_of, Lent, lent_after, returned, read_back_of}
use Rattle.recording.proofs.EditLaws.{AllPuts}
use Rattle.recording.proofs.Lists.{all_append, or_left, or_right, not_false}
use Rattle.recording.proofs.ItemsLaws.{push-part, placed_at, entries_numbers}
use Rattle.recording.proofs.SizeLaws.{entry_count, count_numbers}

-- ── the first of some tests
pub first_of-zero : (n : ℕ) (ns : List ℕ) → first_of (n ∷ ns) ≡ 0 → (n ≡ 0) × (first_of ns ≡ 0)
first_of-zero n ns h = go (eqb n 0) refl h
  where
    go : (t : Bool) → eqb n 0 ≡ t → cond t (first_of ns) n ≡ 0 → (n ≡ 0) × (first_of ns ≡ 0)
    go true e g = (eqb-true n 0 e, g)
    go false e g = absurd (eqb-false n 0 e g)

pub refuse_if-zero : (b : Bool) (n : ℕ) → refuse_if b (suc n) ≡ 0 → b ≡ false
refuse_if-zero true n h = absurd (omega arith)
refuse_if-zero false n h = refl

-- ── no part refuses
pub record NoFault (r : Recording) : Type 0 where
  pub data_bytes : ltb data_limit (length r.data_bytes) ≡ false
  pub quads : eqb (length r.entry_numbers % 4) 0 ≡ true
  pub entry_numbers : ltb entry_limit (length r.entry_numbers) ≡ false
  pub text : ltb text_limit (length r.text) ≡ false
  pub entries : entries_fault 0 r.data_bytes r.text (entries_of r.entry_numbers) ≡ 0

pub no_fault : (r : Recording) → recording_fault r ≡ 0 → NoFault r
unfolding recording_fault
no_fault r h =
    let n₁ : ℕ = refuse_if (ltb data_limit (length r.data_bytes)) 1 in
    let n₂ : ℕ = refuse_if (not (eqb (length r.entry_numbers % 4) 0) || ltb entry_limit (length r.entry_numbers)) 2 in
    let n₅ : ℕ = refuse_if (ltb text_limit (length r.text)) 5 in
    let n : ℕ = entries_fault 0 r.data_bytes r.text (entries_of r.entry_numbers) in
    let a = first_of-zero n₁ (n₂ ∷ n₅ ∷ n ∷ []) h in
    let b = first_of-zero n₂ (n₅ ∷ n ∷ []) a.1 in
    let c = first_of-zero n₅ (n ∷ []) b.1 in
    let d = first_of-zero n [] c.1 in
    let z = refuse_if-zero (not (eqb (length r.entry_numbers % 4) 0) || ltb entry_limit (length r.entry_numbers)) 1 b.0 in
    record {
      data_bytes = refuse_if-zero (ltb data_limit (length r.data_bytes)) 0 a.0;
      quads = not_false (eqb (length r.entry_numbers % 4) 0) (or_left (not (eqb (length r.entry_numbers % 4) 0)) (ltb entry_limit (length r.entry_numbers)) z);
      entry_numbers = or_right (not (eqb (length r.entry_numbers % 4) 0)) (ltb entry_limit (length r.entry_numbers)) z;
      text = refuse_if-zero (ltb text_limit (length r.text)) 4 c.0;
      entries = d.0;
    }

pub fault_free : (r : Recording) → NoFault r → recording_fault r ≡ 0
unfolding recording_fault
fault_free r f = rw (f.data_bytes, f.quads, f.entry_numbers, f.text, f.entries)

pub record InLimits (q : Recording) : Type 0 where
  pub data_bytes : ltb data_limit (length q.data_bytes) ≡ false
  pub entry_numbers : ltb entry_limit (length q.entry_numbers) ≡ false
  pub text : ltb text_limit (length q.text) ≡ false

pub in_limits : (q : Recording) → over_limit q ≡ 0 → InLimits q
unfolding over_limit
in_limits q h =
    let d : Bool = ltb data_limit (length q.data_bytes) in
    let e : Bool = ltb entry_limit (length q.entry_numbers) in
    let t : Bool = ltb text_limit (length q.text) in
    let z = refuse_if-zero (d || e || t) 8 h in
    let y = or_left (d || e) t z in
    record { data_bytes = or_left d e y; entry_numbers = or_right d e y; text = or_right (d || e) t z }

pub record Roomy (o : Room) (x : Result) : Type 0 where
  pub data_bytes : ltb o.data_bytes (length x.recording.data_bytes) ≡ false
  pub entry_numbers : ltb o.entry_numbers (length x.recording.entry_numbers) ≡ false
  pub text : ltb o.text (length x.recording.text) ≡ false
  pub lines : ltb o.lines (length x.lines) ≡ false

pub roomy : (o : Room) (x : Result) → no_room o x ≡ 0 → Roomy o x
unfolding no_room
roomy o x h =
    let n₁ : ℕ = refuse_if (ltb o.data_bytes (length x.recording.data_bytes)) 21 in
    let n₂ : ℕ = refuse_if (ltb o.entry_numbers (length x.recording.entry_numbers)) 22 in
    let n₃ : ℕ = refuse_if (ltb o.text (length x.recording.text)) 23 in
    let n₄ : ℕ = refuse_if (ltb o.lines (length x.lines)) 24 in
    let a = first_of-zero n₁ (n₂ ∷ n₃ ∷ n₄ ∷ []) h in
    let b = first_of-zero n₂ (n₃ ∷ n₄ ∷ []) a.1 in
    let c = first_of-zero n₃ (n₄ ∷ []) b.1 in
    let d = first_of-zero n₄ [] c.1 in
    record {
      data_bytes = refuse_if-zero (ltb o.data_bytes (length x.recording.data_bytes)) 20 a.0;
      entry_numbers = refuse_if-zero (ltb o.entry_numbers (length x.recording.entry_numbers)) 21 b.0;
      text = refuse_if-zero (ltb o.text (length x.recording.text)) 22 c.0;
      lines = refuse_if-zero (ltb o.lines (length x.lines)) 23 d.0;
    }

-- a call that is not refused, part by part
pub record Granted (f : Faults) (o : Room) (x : Result) : Type 0 where
  pub lengths : f.lengths ≡ 0
  pub content : f.content ≡ 0
  pub second : f.second ≡ 0
  pub added : f.added ≡ 0
  pub plain : f.plain ≡ 0
  pub own : f.own ≡ 0
  pub limit : over_limit x.recording ≡ 0
  pub room : no_room o x ≡ 0

pub granted : (f : Faults) (o : Room) (x : Result) → refusal_of f o x ≡ 0 → Granted f o x
unfolding refusal_of
granted f o x h =
    let l : ℕ = over_limit x.recording in
    let n : ℕ = no_room o x in
    let a = first_of-zero f.lengths (f.content ∷ f.second ∷ f.added ∷ f.plain ∷ f.own ∷ l ∷ n ∷ []) h in
    let b = first_of-zero f.content (f.second ∷ f.added ∷ f.plain ∷ f.own ∷ l ∷ n ∷ []) a.1 in
    let c = first_of-zero f.second (f.added ∷ f.plain ∷ f.own ∷ l ∷ n ∷ []) b.1 in
    let d = first_of-zero f.added (f.plain ∷ f.own ∷ l ∷ n ∷ []) c.1 in
    let e = first_of-zero f.plain (f.own ∷ l ∷ n ∷ []) d.1 in
    let g = first_of-zero f.own (l ∷ n ∷ []) e.1 in
    let i = first_of-zero l (n ∷ []) g.1 in
    let j = first_of-zero n [] i.1 in
    record { lengths = a.0; content = b.0; second = c.0; added = d.0; plain = e.0; own = g.0; limit = i.0; room = j.0 }

pub grant : (f : Faults) (o : Room) (x : Result) → Granted f o x → refusal_of f o x ≡ 0
unfolding refusal_of
grant f o x g = rw (g.lengths, g.content, g.second, g.added, g.plain, g.own, g.limit, g.room)

-- ── items that a recording can hold
abbrev pub ItemOk : Item → Type 0
ItemOk (byte b) = Unit {0}
ItemOk (push l) = well_formed_of l ≡ true
ItemOk pop = Unit {0}
ItemOk (raw t) = is_nil t ≡ false

abbrev pub Ok : List Item → Type 0
Ok is = AllOf ItemOk is

pub ok_bytes : (d : Bytes) → Ok (byte_items d)
ok_bytes [] = tt
ok_bytes (b ∷ d) = (tt, ok_bytes d)

part_some : (n s : ℕ) (t : Bytes) → eqb n 0 ≡ false → ltb (length t) (s + n) ≡ false → is_nil (take n (drop s t)) ≡ false
part_some zero s t e h = absurd (false≢true (sym e))
part_some (suc n) zero [] e h = absurd (omega (arith, ltb-false 0 (0 + suc n) h))
part_some (suc n) zero (b ∷ t) e h = refl
part_some (suc n) (suc s) [] e h = absurd (omega (arith, ltb-false 0 (suc s + suc n) h))
part_some (suc n) (suc s) (b ∷ t) e h = part_some (suc n) s t e (le-ltb (length t) (s + suc n) (omega (arith, ltb-false (suc (length t)) (suc s + suc n) h)))

ok_part : (k s n : ℕ) (t : Bytes) → bad_shape_of k s n ≡ false → ltb (length t) (s + n) ≡ false → (eqb k 0 && not (well_formed_of (take n (drop s t)))) ≡ false → ItemOk (item_of k (take n (drop s t)))
unfolding bad_shape_of
ok_part zero s n t a b c = not_false (well_formed_of (take n (drop s t))) c
ok_part (suc zero) s n t a b c = tt
ok_part (suc (suc zero)) s n t a b c = part_some n s t a b
ok_part (suc (suc (suc k))) s n t a b c = absurd (false≢true (sym a))

-- an entry without faults
pub record NoEntryFault (at : ℕ) (d t : Bytes) (e : Entry) : Type 0 where
  pub shape : bad_shape_of e.kind e.start e.len ≡ false
  pub low : at ≤ e.position
  pub high : e.position ≤ length d
  pub part : e.start + e.len ≤ length t
  pub label : (eqb e.kind 0 && not (well_formed_of (part_of t e))) ≡ false

pub no_entry_fault : (at : ℕ) (d t : Bytes) (e : Entry) → entry_fault at d t e ≡ 0 → NoEntryFault at d t e
unfolding entry_fault
no_entry_fault at d t e h =
    let n₃ : ℕ = refuse_if (bad_shape_of e.kind e.start e.len) 3 in
    let n₄ : ℕ = refuse_if (ltb e.position at || ltb (length d) e.position) 4 in
    let n₅ : ℕ = refuse_if (ltb (length t) (e.start + e.len)) 5 in
    let n₆ : ℕ = refuse_if (eqb e.kind 0 && not (well_formed_of (part_of t e))) 6 in
    let b = first_of-zero n₃ (n₄ ∷ n₅ ∷ n₆ ∷ []) h in
    let c = first_of-zero n₄ (n₅ ∷ n₆ ∷ []) b.1 in
    let f = first_of-zero n₅ (n₆ ∷ []) c.1 in
    let g = first_of-zero n₆ [] f.1 in
    let z = refuse_if-zero (ltb e.position at || ltb (length d) e.position) 3 c.0 in
    record {
      shape = refuse_if-zero (bad_shape_of e.kind e.start e.len) 2 b.0;
      low = ltb-false e.position at (or_left (ltb e.position at) (ltb (length d) e.position) z);
      high = ltb-false (length d) e.position (or_right (ltb e.position at) (ltb (length d) e.position) z);
      part = ltb-false (length t) (e.start + e.len) (refuse_if-zero (ltb (length t) (e.start + e.len)) 4 f.0);
      label = refuse_if-zero (eqb e.kind 0 && not (well_formed_of (part_of t e))) 5 g.0;
    }

ok_items : (es : List Entry) (at from : ℕ) (d x t : Bytes) → entries_fault at d t es ≡ 0 → Ok (items_from from t x es)
ok_items [] at from d x t h = ok_bytes x
ok_items (e ∷ es) at from d x t h =
    let a = first_of-zero (entry_fault at d t e) (entries_fault e.position d t es ∷ []) h in
    let g = first_of-zero (entries_fault e.position d t es) [] a.1 in
    let f : NoEntryFault at d t e = no_entry_fault at d t e a.0 in
    let p : ℕ = e.position in
    all_append ItemOk (byte_items (take (p - from) x)) (item_of e.kind (part_of t e) ∷ items_from p t (drop (p - from) x) es) (ok_bytes (take (p - from) x)) (
      ok_part e.kind e.start e.len t f.shape (le-ltb (length t) (e.start + e.len) f.part) f.label,
      ok_items es p p d (drop (p - from) x) t g.0,
    )

pub ok_recording : (r : Recording) → recording_fault r ≡ 0 → Ok (items r)
unfolding items
ok_recording r h = ok_items (entries_of r.entry_numbers) 0 0 r.data_bytes r.data_bytes r.text (no_fault r h).entries

-- ── an edit keeps them
ok_front : (n : ℕ) (is : List Item) → Ok is → Ok (front n is)
ok_front n [] h = tt
ok_front zero (byte b ∷ is) h = tt
ok_front (suc n) (byte b ∷ is) h = (tt, ok_front n is h.1)
ok_front n (push l ∷ is) h = (h.0, ok_front n is h.1)
ok_front n (pop ∷ is) h = (tt, ok_front n is h.1)
ok_front n (raw t ∷ is) h = (h.0, ok_front n is h.1)

ok_back : (n : ℕ) (is : List Item) → Ok is → Ok (back n is)
ok_back n [] h = tt
ok_back zero (byte b ∷ is) h = h
ok_back (suc n) (byte b ∷ is) h = ok_back n is h.1
ok_back n (push l ∷ is) h = ok_back n is h.1
ok_back n (pop ∷ is) h = ok_back n is h.1
ok_back n (raw t ∷ is) h = ok_back n is h.1

ok_only : (is : List Item) → Ok is → Ok (entries_only is)
ok_only [] h = tt
ok_only (byte b ∷ is) h = ok_only is h.1
ok_only (push l ∷ is) h = (h.0, ok_only is h.1)
ok_only (pop ∷ is) h = (tt, ok_only is h.1)
ok_only (raw t ∷ is) h = (h.0, ok_only is h.1)

abbrev pub OkPuts : List Op → Type 0
OkPuts ops = AllPuts Ok ops

pub ok_edit : (ops : List Op) (is : List Item) → OkPuts ops → Ok is → Ok (edit ops is)
ok_edit [] is q h = h
ok_edit (keep n ∷ ops) is q h = all_append ItemOk (front n is) (edit ops (back n is)) (ok_front n is h) (ok_edit ops (back n is) q (ok_back n is h))
ok_edit (skip n ∷ ops) is q h = all_append ItemOk (entries_only (front n is)) (edit ops (back n is)) (ok_only (front n is) (ok_front n is h)) (ok_edit ops (back n is) q (ok_back n is h))
ok_edit (put p ∷ ops) is q h =
    all_append ItemOk (front 0 is) (p ++ edit ops (back 0 is)) (ok_front 0 is h) (all_append ItemOk p (edit ops (back 0 is)) q.0 (ok_edit ops (back 0 is) q.1 (ok_back 0 is h)))

-- ── what is written of them has no fault
some : (x : Bytes) → is_nil x ≡ false → eqb (length x) 0 ≡ false
some [] z = absurd (false≢true (sym z))
some (b ∷ x) z = eqb-suc-zero (length x)

-- ── entries with their parts in the text
pub inside_none : (t : Bytes) → Inside t []
unfolding Inside
inside_none t = tt

-- those of a recording without faults
pub inside_of : (es : List Entry) (at : ℕ) (d t : Bytes) → entries_fault at d t es ≡ 0 → Inside t es
unfolding Inside
inside_of [] at d t h = tt
inside_of (e ∷ es) at d t h =
    let a = first_of-zero (entry_fault at d t e) (entries_fault e.position d t es ∷ []) h in
    let g = first_of-zero (entries_fault e.position d t es) [] a.1 in
    ((no_entry_fault at d t e a.0).part, inside_of es e.position d t g.0)

-- one entry more, with its part in the longer text
pub inside_next : (t x : Bytes) (es : List Entry) (e : Entry) → Inside t es → e.start + e.len ≤ length (t ++ x) → Inside (t ++ x) (es ++ (e ∷ []))
unfolding Inside
inside_next t x [] e h g = (g, tt)
inside_next t x (y ∷ es) e h g = (omega (arith, h.0, length-append t x), inside_next t x es e h.1 g)

-- a push has its part in the text
pub start_inside : (l t : Bytes) (es : List Entry) → Inside t es → start_in l t (length t) es + length l ≤ length (t ++ new_text l t es)
unfolding Inside start_in pushed_in
start_inside l t [] h = omega (arith, length-append t l)
start_inside l t (e ∷ es) h = go (is_push_of l t e) refl (start_inside l t es h.1)
  where
    go : (b : Bool) → is_push_of l t e ≡ b → start_in l t (length t) es + length l ≤ length (t ++ new_text l t es)
        → cond b e.start (start_in l t (length t) es) + length l ≤ length (t ++ cond (b || pushed_in l t es) [] l)
    go true q r =
        let m : part_of t e ≡ l = push-part l t e q in
        omega (arith, h.0, ap length m, length-take e.len (drop e.start t), length-append t [])
    go false q r = r

written : (is : List Item) (last at : ℕ) (d t : Bytes) (es : List Entry) → last ≤ at → at + length (data_of is) ≤ length d → Inside t es → Ok is
    → entries_fault last d (t ++ text_from at t es is) (entries_from at t es is) ≡ 0
unfolding bad_shape_of entry_fault
written [] last at d t es l h i o = refl
written (byte b ∷ is) last at d t es l h i o = written is last (suc at) d t es (omega arith) (omega arith) i o.1
written (push x ∷ is) last at d t es l h i o =
    let n : Bytes = new_text x t es in
    let e : Entry = push_at at t es x in
    let r : Bytes = text_from at (t ++ n) (es ++ (e ∷ [])) is in
    let s : start_in x t (length t) es + length x ≤ length (t ++ n) = start_inside x t es i in
    let k : start_in x t (length t) es + length x ≤ length (t ++ (n ++ r)) = omega (arith, s, length-append t n, length-append t (n ++ r), length-append n r) in
    let ih = written is at at d (t ++ n) (es ++ (e ∷ [])) (omega arith) h (inside_next t n es e i s) o.1 in
    rw (le-ltb at last l, le-ltb (length d) at (omega arith), le-ltb (length (t ++ (n ++ r))) (start_in x t (length t) es + length x) k, placed_at x t es r, o.0, ← append_assoc t n r, ih)
written (pop ∷ is) last at d t es l h i o =
    let e : Entry = entry at 1 0 0 in
    let g : Inside t (es ++ (e ∷ [])) = rw (append-nil t) at (inside_next t [] es e i (omega arith)) in
    let ih = written is at at d t (es ++ (e ∷ [])) (omega arith) h g o.1 in
    rw (le-ltb at last l, le-ltb (length d) at (omega arith), le-ltb (length (t ++ text_from at t (es ++ (e ∷ [])) is)) (0 + 0) (omega arith), ih)
written (raw x ∷ is) last at d t es l h i o =
    let e : Entry = entry at 2 (length t) (length x) in
    let r : Bytes = text_from at (t ++ x) (es ++ (e ∷ [])) is in
    let s : length t + length x ≤ length (t ++ x) = omega (arith, length-append t x) in
    let k : length t + length x ≤ length (t ++ (x ++ r)) = omega (arith, length-append t (x ++ r), length-append x r) in
    let ih = written is at at d (t ++ x) (es ++ (e ∷ [])) (omega arith) h (inside_next t x es e i s) o.1 in
    rw (some x o.0, le-ltb at last l, le-ltb (length d) at (omega arith), le-ltb (length (t ++ (x ++ r))) (length t + length x) k, ← append_assoc t x r, ih)

quads : (n m : ℕ) → n ≡ 4 * m → n % 4 ≡ 0
quads n m e = omega arith

pub encoded : (is : List Item) → Ok is → over_limit (encode is) ≡ 0 → recording_fault (encode is) ≡ 0
encoded is o h = fault_free (encode is) (parts (in_limits (encode is) h))
  where
    parts : InLimits (encode is) → NoFault (encode is)
    parts l =
        record {
          data_bytes = l.data_bytes;
          quads = four;
          entry_numbers = l.entry_numbers;
          text = l.text;
          entries = in_order;
        }
      where
        four : eqb (length (encode is).entry_numbers % 4) 0 ≡ true
        four = unfold encode in eq-eqb (length (numbers_of_ranges (entries_from 0 [] [] is)) % 4) 0 (quads (length (numbers_of_ranges (entries_from 0 [] [] is))) (entry_count is) (count_numbers is 0 [] []))

        in_order : entries_fault 0 (encode is).data_bytes (encode is).text (entries_of (encode is).entry_numbers) ≡ 0
        in_order = unfold encode in rw (entries_numbers (entries_from 0 [] [] is)) (written is 0 0 (data_of is) [] [] (omega arith) (omega arith) (inside_none []) o)

-- ── the lent buffers up to the returned lengths are the recording of the outcome
pub read_back : (x : Result) (b : Lent) → read_back_of (done x) b ≡ x.recording
unfolding returned lent_after
read_back x b = λ i. record {
  data_bytes = take_over x.recording.data_bytes b.data_bytes i;
  entry_numbers = take_over x.recording.entry_numbers b.entry_numbers i;
  text =
      take_over x.recording.text b.text i;
}
