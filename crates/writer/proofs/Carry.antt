-- Carrying items of a content on, by a loop over its entries: one turn writes the bytes up to the next entry and the entry, the end writes the bytes up to n.
-- The idea: `State` says what is done and that the rest of the plan is the plan for what is left; `sel` is what of the items is written (all, or the entries alone).
use mathlib.Core.Path.{◌≡◌, refl, sym, ap, ◌∙◌}
use mathlib.Core.Bool.{true, false}
use Rattle.share.specs.Placed.{placed_from}
use mathlib.Core.List.{List, [], ◌∷◌, ◌++◌, append_assoc, append-nil}
use Prim.Native.Nat.{ℕ, zero, suc, ◌+◌, ◌-◌, ◌≤◌, ◌<◌}
use native.Mathlib.Omega.{arith}
use lib.ListN.{length, take, drop, get_or, length-drop, length-take}
use lib.Seq.{drop-cons, drop-drop}
use Rattle.buffer.specs.Place.{over_at, part}
use Rattle.buffer.proofs.Laws.{over_none, length_part}
use Rattle.recording.specs.declared.Entry.{Entry}
use Rattle.recording.specs.Recording.{entries_of, numbers_of_ranges, part_of, Item, byte, push, pop, raw, item_of, byte_items, items_from, data_of, entries_from, text_from}
use Rattle.recording.specs.Edit.{front, back, entries_only}
use Rattle.recording.specs.Refusals.{bad_shape_of}
use Rattle.recording.proofs.EditLaws.{data_append}
use Rattle.recording.proofs.ItemsLaws.{data_bytes_lem, data_entry}
use Rattle.recording.proofs.SizeLaws.{entry_count, IsEntry, front-entry, back-entry, front_bytes, back-bytes, cursor_bytes, cursor_end}
use Rattle.writer.specs.declared.Cursor.{Cursor}
use Rattle.writer.specs.Write.{Out, out, add, Fits, numbers_for, text_for, Valid, Ready, left, place_for, item_at}
use Rattle.writer.proofs.Laws.{numbers_size, fits_left, fits_right, add-append, add_long, Long, same_out}

-- ── what validity says of the next entry
pub valid_in : (at d t : ℕ) (es : List Entry) → Valid at d t es → at ≤ d
unfolding Valid
valid_in at d t [] v = v
valid_in at d t (e ∷ es) v = omega (arith, v.0, valid_in e.position d t es v.3)

no_place : place_for [] ≤ 1048576 → ⊥
unfolding place_for
no_place h = omega arith

-- a position within the data is that of a whole entry
pub whole_entry : (k : ℕ) (ns : List ℕ) → place_for (entries_of (drop k ns)) ≤ 1048576 → k + 4 ≤ length ns
whole_entry k ns h = go (drop k ns) (length-drop k ns) h
  where
    go : (l : List ℕ) → length l ≡ length ns - k → place_for (entries_of l) ≤ 1048576 → k + 4 ≤ length ns
    go [] q p = absurd (no_place p)
    go (a ∷ []) q p = absurd (no_place p)
    go (a ∷ b ∷ []) q p = absurd (no_place p)
    go (a ∷ b ∷ c ∷ []) q p = absurd (no_place p)
    go (a ∷ b ∷ c ∷ d ∷ l) q p = omega (arith, q)

-- ── an entry as an item
pub record EntryItem (x : Item) : Type 0 where
  pub none : data_of (x ∷ []) ≡ []
  pub one : entry_count (x ∷ []) ≡ 1
  pub kind : IsEntry x

pub one_entry : (k : ℕ) (p : List ℕ) → entry_count (item_of k p ∷ []) ≡ 1
one_entry zero p = refl
one_entry (suc zero) p = refl
one_entry (suc (suc k)) p = refl

pub kind_entry : (k : ℕ) (p : List ℕ) → IsEntry (item_of k p)
kind_entry zero p = tt
kind_entry (suc zero) p = tt
kind_entry (suc (suc k)) p = tt

pub is_entry : (t : List ℕ) (e : Entry) → EntryItem (item_at t e)
unfolding item_at
is_entry t e = record { none = data_entry e.kind (part_of t e) []; one = one_entry e.kind (part_of t e); kind = kind_entry e.kind (part_of t e) }

-- ── bytes have neither entries nor text
entries-bytes : (p : List ℕ) (d : ℕ) (t : List ℕ) (es : List Entry) (is : List Item) → entries_from d t es (byte_items p ++ is) ≡ entries_from (d + length p) t es is
entries-bytes [] d t es is = let e : d + 0 ≡ d = omega arith in rw e
entries-bytes (b ∷ p) d t es is = let e : d + suc (length p) ≡ suc d + length p = omega arith in rw e (entries-bytes p (suc d) t es is)

text_behind : (p : List ℕ) (d : ℕ) (t : List ℕ) (es : List Entry) (is : List Item) → text_from d t es (byte_items p ++ is) ≡ text_from (d + length p) t es is
text_behind [] d t es is = let e : d + 0 ≡ d = omega arith in rw e
text_behind (b ∷ p) d t es is = let e : d + suc (length p) ≡ suc d + length p = omega arith in rw e (text_behind p (suc d) t es is)

pub count-bytes : (p : List ℕ) (is : List Item) → entry_count (byte_items p ++ is) ≡ entry_count is
count-bytes [] is = refl
count-bytes (b ∷ p) is = count-bytes p is

entries_none : (p : List ℕ) (d : ℕ) (t : List ℕ) (es : List Entry) → entries_from d t es (byte_items p) ≡ []
entries_none [] d t es = refl
entries_none (b ∷ p) d t es = entries_none p (suc d) t es

text_none : (p : List ℕ) (d : ℕ) (t : List ℕ) (es : List Entry) → text_from d t es (byte_items p) ≡ []
text_none [] d t es = refl
text_none (b ∷ p) d t es = text_none p (suc d) t es

pub count_none : (p : List ℕ) → entry_count (byte_items p) ≡ 0
count_none [] = refl
count_none (b ∷ p) = count_none p

-- ── what the leaves wrote, as one equation
pub add-nil : (o : Out) → o ≡ add [] o
unfolding add
add-nil o =
    same_out o (add [] o) (sym (over_none o.d o.data_bytes)) (sym (over_none o.e o.entry_numbers)) (sym (over_none o.t o.text)) (omega arith) (omega arith) (omega arith)

-- bytes alone
pub bytes_wrote : (od od' oe ot p : List ℕ) (c c₁ : Cursor) → od' ≡ over_at c.d p od → c₁.d ≡ c.d + length p → c₁.e ≡ c.e → c₁.t ≡ c.t
    → out od' oe ot c₁ ≡ add (byte_items p) (out od oe ot c)
unfolding out add
bytes_wrote od od' oe ot p c c₁ ed d₁ e₁ t₁ =
    same_out (out od' oe ot c₁) (add (byte_items p) (out od oe ot c))
    (ed ∙ ap (λ (l : List ℕ). over_at c.d l od) (sym (data_bytes_lem p)))
    (sym (over_none c.e oe) ∙ ap (λ (l : List Entry). over_at c.e (numbers_of_ranges l) oe) (sym (entries_none p c.d (take c.t ot) (entries_of (take c.e oe)))))
    (sym (over_none c.t ot) ∙ ap (λ (l : List ℕ). over_at c.t l ot) (sym (text_none p c.d (take c.t ot) (entries_of (take c.e oe)))))
    (d₁ ∙ ap (λ (l : List ℕ). c.d + length l) (sym (data_bytes_lem p)))
    (omega (arith, e₁, ap (λ (l : List Entry). length (numbers_of_ranges l)) (entries_none p c.d (take c.t ot) (entries_of (take c.e oe)))))
    (omega (arith, t₁, ap length (text_none p c.d (take c.t ot) (entries_of (take c.e oe)))))

-- bytes and an entry
module _ (od od' oe oe' ot ot' p : List ℕ) (c c₁ c₂ : Cursor) (x : Item) (is : EntryItem x)
    (ed : od' ≡ over_at c.d p od) (d₁ : c₁.d ≡ c.d + length p) (e₁ : c₁.e ≡ c.e) (t₁ : c₁.t ≡ c.t)
    (ee : oe' ≡ over_at c₁.e (numbers_for c₁.d oe ot c₁ x) oe) (et : ot' ≡ over_at c₁.t (text_for c₁.d oe ot c₁ x) ot)
    (d₂ : c₂.d ≡ c₁.d) (e₂ : c₂.e ≡ c₁.e + 4) (t₂ : c₂.t ≡ c₁.t + length (text_for c₁.d oe ot c₁ x)) where
  data_of_lem : data_of (byte_items p ++ (x ∷ [])) ≡ p
  data_of_lem = data_append (byte_items p) (x ∷ []) ∙ (rw (data_bytes_lem p, is.none) (append-nil p))

  numbers_of : numbers_for c₁.d oe ot c₁ x ≡ numbers_of_ranges (entries_from c.d (take c.t ot) (entries_of (take c.e oe)) (byte_items p ++ (x ∷ [])))
  unfolding numbers_for
  numbers_of =
      (λ i. numbers_of_ranges (entries_from (d₁ i) (take (t₁ i) ot) (entries_of (take (e₁ i) oe)) (x ∷ [])))
      ∙ ap numbers_of_ranges (sym (entries-bytes p c.d (take c.t ot) (entries_of (take c.e oe)) (x ∷ [])))

  text_of : text_for c₁.d oe ot c₁ x ≡ text_from c.d (take c.t ot) (entries_of (take c.e oe)) (byte_items p ++ (x ∷ []))
  unfolding text_for
  text_of =
      (λ i. text_from (d₁ i) (take (t₁ i) ot) (entries_of (take (e₁ i) oe)) (x ∷ []))
      ∙ sym (text_behind p c.d (take c.t ot) (entries_of (take c.e oe)) (x ∷ []))

  pub turn_wrote : out od' oe' ot' c₂ ≡ add (byte_items p ++ (x ∷ [])) (out od oe ot c)
  unfolding out add
  turn_wrote =
      same_out (out od' oe' ot' c₂) (add (byte_items p ++ (x ∷ [])) (out od oe ot c))
      (ed ∙ ap (λ (l : List ℕ). over_at c.d l od) (sym data_of_lem))
      (ee ∙ (λ i. over_at (e₁ i) (numbers_of i) oe))
      (et ∙ (λ i. over_at (t₁ i) (text_of i) ot))
      (d₂ ∙ d₁ ∙ ap (λ (l : List ℕ). c.d + length l) (sym data_of_lem))
      (omega (arith, e₁, e₂, count-bytes p (x ∷ []), is.one, numbers_size (byte_items p ++ (x ∷ [])) (out od oe ot c)))
      (omega (arith, t₁, t₂, ap length text_of))

-- the room that a turn needs, in numbers
pub record TurnRoom (od oe ot : List ℕ) (c : Cursor) (a m : ℕ) : Type 0 where
  pub data_bytes : c.d + a ≤ length od
  pub entry_numbers : c.e + 4 ≤ length oe
  pub text : c.t + m ≤ length ot
  pub data_limit_lem : c.d + a ≤ 1048576
  pub text_limit_lem : c.t + m ≤ 65536
  pub placed : placed_from 0 [] (entries_of (take c.e oe)) ≡ true

pub room_turn : (od oe ot p : List ℕ) (c : Cursor) (x : Item) → EntryItem x → Fits (byte_items p ++ (x ∷ [])) (out od oe ot c)
    → TurnRoom od oe ot c (length p) (length (text_for (c.d + length p) oe ot c x))
unfolding out text_for
room_turn od oe ot p c x is f =
    let g : data_of (byte_items p ++ (x ∷ [])) ≡ p = data_append (byte_items p) (x ∷ []) ∙ (rw (data_bytes_lem p, is.none) (append-nil p)) in
    let d : length (data_of (byte_items p ++ (x ∷ []))) ≡ length p = ap length g in
    let t = ap length (text_behind p c.d (take c.t ot) (entries_of (take c.e oe)) (x ∷ [])) in
    let e : entry_count (byte_items p ++ (x ∷ [])) ≡ 1 = count-bytes p (x ∷ []) ∙ is.one in
    record {
      data_bytes = omega (arith, d, f.data_bytes);
      entry_numbers = omega (arith, e, f.entry_numbers, numbers_size (byte_items p ++ (x ∷ [])) (out od oe ot c));
      text = omega (arith, t, f.text);
      data_limit_lem = omega (arith, d, f.data_limit_lem);
      text_limit_lem = omega (arith, t, f.text_limit_lem);
      placed = f.placed;
    }

-- what an entry's text adds is the same after bytes were written
pub same_room : (oe ot : List ℕ) (c c₁ : Cursor) (d : ℕ) (x : Item) → c₁.d ≡ d → c₁.e ≡ c.e → c₁.t ≡ c.t → length (text_for c₁.d oe ot c₁ x) ≡ length (text_for d oe ot c x)
unfolding text_for
same_room oe ot c c₁ d x a b e = λ i. length (text_from (a i) (take (e i) ot) (entries_of (take (b i) oe)) (x ∷ []))

-- ── the items of one turn
abbrev pub turn_items : List ℕ → List ℕ → ℕ → Entry → List Item
turn_items ds ts at e = byte_items (part at e.position ds) ++ (item_at ts e ∷ [])

abbrev pub rest_after : List ℕ → List ℕ → List ℕ → ℕ → Entry → List Item
rest_after ds ns ts k e = items_from e.position ts (drop e.position ds) (entries_of (drop (k + 4) ns))

module _ (ds ns ts : List ℕ) (c : Cursor) (e : Entry) (q : entries_of (drop c.k ns) ≡ e ∷ entries_of (drop (c.k + 4) ns)) (f : c.at ≤ e.position) where
  pub left_turn : left ds ns ts c ≡ byte_items (part c.at e.position ds) ++ (item_at ts e ∷ rest_after ds ns ts c.k e)
  unfolding left item_at
  left_turn =
      let h : c.at + (e.position - c.at) ≡ e.position = omega arith in
      ap (λ (l : List Entry). items_from c.at ts (drop c.at ds) l) q
      ∙ ap (λ (l : List ℕ). byte_items (part c.at e.position ds) ++ (item_of e.kind (part_of ts e) ∷ items_from e.position ts l (entries_of (drop (c.k + 4) ns))))
      (drop-drop (e.position - c.at) c.at ds ∙ ap (λ (n : ℕ). drop n ds) h)

  module _ (n : ℕ) (g : e.position ≤ n) (l : n ≤ length ds) (k : IsEntry (item_at ts e)) where
    count : length (part c.at e.position ds) + (n - e.position) ≡ n - c.at
    count = omega (arith, length_part c.at e.position ds (omega arith))

    pub front-turn : front (n - c.at) (left ds ns ts c) ≡ turn_items ds ts c.at e ++ front (n - e.position) (rest_after ds ns ts c.k e)
    front-turn =
        let p : List ℕ = part c.at e.position ds in
        let x : Item = item_at ts e in
        let r : List Item = rest_after ds ns ts c.k e in
        rw (left_turn, ← count) (front_bytes p (n - e.position) (x ∷ r) ∙ ap (λ (l : List Item). byte_items p ++ l) (front-entry (n - e.position) x r k)
        ∙ sym (append_assoc (byte_items p) (x ∷ []) (front (n - e.position) r)))

    pub back-turn : back (n - c.at) (left ds ns ts c) ≡ back (n - e.position) (rest_after ds ns ts c.k e)
    back-turn =
        let p : List ℕ = part c.at e.position ds in
        let x : Item = item_at ts e in
        let r : List Item = rest_after ds ns ts c.k e in
        rw (left_turn, ← count) (back-bytes p (n - e.position) (x ∷ r) ∙ back-entry (n - e.position) x r k)

-- ── the end: no entry stands at n or before it
front_none : (d : List ℕ) → front 0 (byte_items d) ≡ []
front_none [] = refl
front_none (b ∷ d) = refl

back_none : (d : List ℕ) → back 0 (byte_items d) ≡ byte_items d
back_none [] = refl
back_none (b ∷ d) = refl

-- bytes come first
module _ (n p : ℕ) (ds : List ℕ) (h : n < p) (l : p ≤ length ds) (r : List Item) where
  first_byte : byte_items (take (p - n) (drop n ds)) ≡ byte (get_or ds n 0) ∷ byte_items (take (p - suc n) (drop (suc n) ds))
  first_byte =
      let a : n < length ds = omega arith in
      let e : p - n ≡ suc (p - suc n) = omega arith in rw (drop-cons ds n 0 a, e)

  front_later : front 0 (byte_items (take (p - n) (drop n ds)) ++ r) ≡ []
  front_later = rw first_byte

  back_later : back 0 (byte_items (take (p - n) (drop n ds)) ++ r) ≡ byte_items (take (p - n) (drop n ds)) ++ r
  back_later = rw first_byte

-- the bytes up to m places on come first, if no entry stands before that
pub bytes_first : (m at : ℕ) (t d : List ℕ) (es : List Entry) → at + m ≤ place_for es → items_from at t d es ≡ byte_items (take m d) ++ items_from (at + m) t (drop m d) es
unfolding place_for
bytes_first m at t d [] h = cursor_end m at t d
bytes_first m at t d (e ∷ es) h = cursor_bytes m at t d e es h

module _ (at n t : ℕ) (ds ts : List ℕ) (a : at ≤ n) (l : n ≤ length ds) where
  there : at + (n - at) ≡ n
  there = omega arith

  drop_there : drop (n - at) (drop at ds) ≡ drop n ds
  drop_there = drop-drop (n - at) at ds ∙ ap (λ (m : ℕ). drop m ds) there

  size_there : length (take (n - at) (drop at ds)) + 0 ≡ n - at
  size_there = simp (length-take, length-drop) (omega arith)

  further : (es : List Entry) → n < place_for es → items_from at ts (drop at ds) es ≡ byte_items (part at n ds) ++ items_from n ts (drop n ds) es
  further es h = bytes_first (n - at) at ts (drop at ds) es (omega (arith, there, h)) ∙ (λ i. byte_items (part at n ds) ++ items_from (there i) ts (drop_there i) es)

  front-zero : (es : List Entry) → n < place_for es → Valid at (length ds) t es → front 0 (items_from n ts (drop n ds) es) ≡ []
  unfolding place_for Valid
  front-zero [] h v = front_none (drop n ds)
  front-zero (e ∷ es) h v =
      front_later n e.position ds h (valid_in e.position (length ds) t es v.3) (item_of e.kind (part_of ts e) ∷ items_from e.position ts (drop (e.position - n) (drop n ds)) es)

  back-zero : (es : List Entry) → n < place_for es → Valid at (length ds) t es → back 0 (items_from n ts (drop n ds) es) ≡ items_from n ts (drop n ds) es
  unfolding place_for Valid
  back-zero [] h v = back_none (drop n ds)
  back-zero (e ∷ es) h v =
      back_later n e.position ds h (valid_in e.position (length ds) t es v.3) (item_of e.kind (part_of ts e) ∷ items_from e.position ts (drop (e.position - n) (drop n ds)) es)

  pub valid_there : (es : List Entry) → n < place_for es → Valid at (length ds) t es → Valid n (length ds) t es
  unfolding place_for Valid
  valid_there [] h v = l
  valid_there (e ∷ es) h v = (omega arith, v.1, v.2, v.3)

  pub front_stop : (es : List Entry) → n < place_for es → Valid at (length ds) t es → front (n - at) (items_from at ts (drop at ds) es) ≡ byte_items (part at n ds)
  front_stop es h v =
      (λ i. front (sym size_there i) (further es h i)) ∙ front_bytes (part at n ds) 0 (items_from n ts (drop n ds) es) ∙ (rw (front-zero es h v) (append-nil (byte_items (part at n ds))))

  pub back_stop : (es : List Entry) → n < place_for es → Valid at (length ds) t es → back (n - at) (items_from at ts (drop at ds) es) ≡ items_from n ts (drop n ds) es
  back_stop es h v =
      (λ i. back (sym size_there i) (further es h i)) ∙ back-bytes (part at n ds) 0 (items_from n ts (drop n ds) es) ∙ back-zero es h v

-- ── no entry is left up to the byte n
module _ (ds ns ts : List ℕ) (n : ℕ) (c : Cursor) (r : Ready ds ns ts c) (h : c.at ≤ n) (l : n ≤ length ds) (later : n < place_for (entries_of (drop c.k ns))) where
  pub front-plain : front (n - c.at) (left ds ns ts c) ≡ byte_items (part c.at n ds)
  unfolding left
  front-plain = front_stop c.at n (length ts) ds ts h l (entries_of (drop c.k ns)) later r.valid

  -- the cursor at n
  pub back-plain : (c' : Cursor) → c'.at ≡ n → c'.k ≡ c.k → (left ds ns ts c' ≡ back (n - c.at) (left ds ns ts c)) × Ready ds ns ts c'
  unfolding left
  back-plain c' ea ek = (
    (λ i. items_from (ea i) ts (drop (ea i) ds) (entries_of (drop (ek i) ns))) ∙ sym (back_stop c.at n (length ts) ds ts h l (entries_of (drop c.k ns)) later r.valid),
    record {
      within = omega (arith, ek, r.within);
      valid = rw (ea, ek) (valid_there c.at n (length ts) ds ts h l (entries_of (drop c.k ns)) later r.valid);
      short = r.short;
    },
  )

-- what `keep` writes of the items that it passes: all of them (`skip` writes `entries_only`)
abbrev pub same : List Item → List Item
same is = is

-- ── the state of the loop: `sel` says what of the items is written
pub record State (sel : List Item → List Item) (ds ns ts : List ℕ) (n : ℕ) (o₀ : Out) (c₀ : Cursor) (o : Out) (c : Cursor) (p : ℕ) : Type 0 where
  pub done : List Item
  pub wrote : o ≡ add done o₀
  pub rest : done ++ sel (front (n - c.at) (left ds ns ts c)) ≡ sel (front (n - c₀.at) (left ds ns ts c₀))
  pub behind : back (n - c.at) (left ds ns ts c) ≡ back (n - c₀.at) (left ds ns ts c₀)
  pub ready : Ready ds ns ts c
  pub here : c.at ≤ n
  pub next : p ≡ place_for (entries_of (drop c.k ns))

pub placed : (e : Entry) (es : List Entry) → place_for (e ∷ es) ≡ e.position
unfolding place_for
placed e es = refl

pub valid-parts : (at d t : ℕ) (e : Entry) (es : List Entry) → Valid at d t (e ∷ es)
    → (at ≤ e.position) × (bad_shape_of e.kind e.start e.len ≡ false) × (e.start + e.len ≤ t) × Valid e.position d t es
unfolding Valid
valid-parts at d t e es v = v

module _ (sel : List Item → List Item) (sel-append : (a b : List Item) → sel (a ++ b) ≡ sel a ++ sel b) (ds ns ts : List ℕ) (n : ℕ) (o₀ o : Out) (c₀ c : Cursor) (p : ℕ)
    (s : State sel ds ns ts n o₀ c₀ o c p) (l : n ≤ length ds) (room : Fits (sel (front (n - c₀.at) (left ds ns ts c₀))) o₀) where
  all : Fits (s.done ++ sel (front (n - c.at) (left ds ns ts c))) o₀
  all = rw s.rest room

  fits_done : Fits s.done o₀
  fits_done = fits_left s.done (sel (front (n - c.at) (left ds ns ts c))) o₀ all

  -- there is room for what is left
  pub fits_now : Fits (sel (front (n - c.at) (left ds ns ts c))) o
  fits_now = rw s.wrote (fits_right s.done (sel (front (n - c.at) (left ds ns ts c))) o₀ all)

  pub long_now : Long o o₀
  long_now = rw s.wrote (add_long s.done o₀ fits_done)

  -- a turn: the next entry stands at p ≤ n
  module _ (more : p ≤ n) where
    pub whole : c.k + 4 ≤ length ns
    whole = whole_entry c.k ns (omega (arith, s.next, s.ready.short))

    module _ (e : Entry) (q : entries_of (drop c.k ns) ≡ e ∷ entries_of (drop (c.k + 4) ns)) where
      pub entry_place : p ≡ e.position
      entry_place = s.next ∙ ap place_for q ∙ placed e (entries_of (drop (c.k + 4) ns))

      pub ok : (c.at ≤ e.position) × (bad_shape_of e.kind e.start e.len ≡ false) × (e.start + e.len ≤ length ts) × Valid e.position (length ds) (length ts) (entries_of (drop (c.k + 4) ns))
      ok = valid-parts c.at (length ds) (length ts) e (entries_of (drop (c.k + 4) ns)) (rw q at s.ready.valid)

      pub entry_is : EntryItem (item_at ts e)
      entry_is = is_entry ts e

      pub near : e.position ≤ n
      near = omega (arith, entry_place)

      parted : sel (front (n - c.at) (left ds ns ts c)) ≡ sel (turn_items ds ts c.at e) ++ sel (front (n - e.position) (rest_after ds ns ts c.k e))
      parted =
          ap sel (front-turn ds ns ts c e q ok.0 n near l entry_is.kind) ∙ sel-append (turn_items ds ts c.at e) (front (n - e.position) (rest_after ds ns ts c.k e))

      pub fits_turn : Fits (sel (turn_items ds ts c.at e)) o
      fits_turn = fits_left (sel (turn_items ds ts c.at e)) (sel (front (n - e.position) (rest_after ds ns ts c.k e))) o (rw parted at fits_now)

      pub step : (o' : Out) (c' : Cursor) (p' : ℕ) → o' ≡ add (sel (turn_items ds ts c.at e)) o → c'.at ≡ e.position → c'.k ≡ c.k + 4 → p' ≡ place_for (entries_of (drop c'.k ns))
          → State sel ds ns ts n o₀ c₀ o' c' p'
      unfolding left
      step o' c' p' eo ea ek ep =
          let same : left ds ns ts c' ≡ rest_after ds ns ts c.k e = λ i. items_from (ea i) ts (drop (ea i) ds) (entries_of (drop (ek i) ns)) in
          let t : List Item = sel (turn_items ds ts c.at e) in
          record {
            done = s.done ++ t;
            wrote = eo ∙ ap (λ (x : Out). add t x) s.wrote ∙ add-append s.done t o₀ fits_done;
            rest = append_assoc s.done t (sel (front (n - c'.at) (left ds ns ts c'))) ∙ (λ i. s.done ++ (t ++ sel (front (n - ea i) (same i))))
                ∙ ap (λ (x : List Item). s.done ++ x) (sym parted) ∙ s.rest;
            behind = (λ i. back (n - ea i) (same i)) ∙ sym (back-turn ds ns ts c e q ok.0 n near l entry_is.kind) ∙ s.behind;
            ready = record { within = omega (arith, ek, whole); valid = rw (ea, ek) ok.3; short = s.ready.short };
            here = omega (arith, ea, near);
            next = ep;
          }

  -- the end: the next entry stands past n
  module _ (past : n < p) where
    later : n < place_for (entries_of (drop c.k ns))
    later = omega (arith, s.next)

    pub front_last : front (n - c.at) (left ds ns ts c) ≡ byte_items (part c.at n ds)
    front_last = front-plain ds ns ts n c s.ready s.here l later

    pub finish : (o' : Out) (c' : Cursor) → o' ≡ add (sel (byte_items (part c.at n ds))) o → c'.at ≡ n → c'.k ≡ c.k
        → (o' ≡ add (sel (front (n - c₀.at) (left ds ns ts c₀))) o₀) × (left ds ns ts c' ≡ back (n - c₀.at) (left ds ns ts c₀)) × Ready ds ns ts c'
    finish o' c' eo ea ek =
        let e : s.done ++ sel (byte_items (part c.at n ds)) ≡ sel (front (n - c₀.at) (left ds ns ts c₀)) = rw front_last at s.rest in
        let b = back-plain ds ns ts n c s.ready s.here l later c' ea ek in (
          eo ∙ ap (λ (x : Out). add (sel (byte_items (part c.at n ds))) x) s.wrote ∙ add-append s.done (sel (byte_items (part c.at n ds))) o₀ fits_done ∙ ap (λ (x : List Item). add x o₀) e,
          b.0 ∙ s.behind,
          b.1,
        )

-- ── the entries alone
pub only_append : (a b : List Item) → entries_only (a ++ b) ≡ entries_only a ++ entries_only b
only_append [] b = refl
only_append (byte x ∷ a) b = only_append a b
only_append (push l ∷ a) b = ap (λ (r : List Item). push l ∷ r) (only_append a b)
only_append (pop ∷ a) b = ap (λ (r : List Item). pop ∷ r) (only_append a b)
only_append (raw l ∷ a) b = ap (λ (r : List Item). raw l ∷ r) (only_append a b)

pub only_bytes : (p : List ℕ) (is : List Item) → entries_only (byte_items p ++ is) ≡ entries_only is
only_bytes [] is = refl
only_bytes (b ∷ p) is = only_bytes p is

pub only_none : (p : List ℕ) → entries_only (byte_items p) ≡ []
only_none [] = refl
only_none (b ∷ p) = only_none p

pub only_entry : (x : Item) → IsEntry x → entries_only (x ∷ []) ≡ x ∷ []
only_entry (byte b) h = absurd h
only_entry (push l) h = refl
only_entry pop h = refl
only_entry (raw l) h = refl
