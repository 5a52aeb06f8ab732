-- All that Q-8 asks to be shown of a result (`specs/Shown.antt`), of any items: `shown`.
-- The ideas. What is written next keeps both properties of the entries written so far: each push starts where the first push with its text does (`FirstBy`), and any two parts stand side by
-- side or are one (`pairs-after`). The length of the text is a sum over the items (`encode-length`), so their order does not matter. Of two results that differ in their texts alone the one
-- with the shorter text is refused 9 or 23 only where the other is (`no_new`).
use Prim.Native.Nat.{ℕ, suc, ◌+◌, ◌*◌, ◌≤◌}
use native.Mathlib.Omega.{arith}
use mathlib.Core.Bool.{Bool, true, false, cond, ◌&&◌, ◌||◌, false≢true}
use mathlib.Core.Path.{◌≡◌, refl, sym, ap, ◌∙◌}
use mathlib.Core.Logic.{◌⊎◌, inl, inr, ⊎_elim}
use mathlib.Core.List.{List, [], ◌∷◌, ◌++◌, append_assoc, append-nil}
use lib.Dec.{eqb, ltb}
use lib.ListN.{length, take, drop, length-append, length-take, length-drop}
use borrow.Author.Tests.{eqb-true, eq-eqb, ltb-true, lt-ltb}
use Rattle.recording.specs.declared.Entry.{Entry}
use Rattle.recording.specs.Lists.{AllOf, same}
use Rattle.recording.specs.Recording.{Bytes, Recording, entry, entries_of, part_of, Item, byte, push, pop, raw, is_push_of, pushed_in, start_in, push_at, new_text, entries_from, text_from, encode}
use Rattle.recording.specs.Coloured.{coloured, coloured_from}
use Rattle.recording.specs.Refusals.{first_of, refuse_if, data_limit, entry_limit, text_limit}
use Rattle.recording.specs.Outcome.{Room, Result, Faults, over_limit, no_room, refusal_of}
use Rattle.recording.specs.Share.{Inside, sum_of, raw_len_of, push_of}
use Rattle.recording.specs.Shown.{AtFirst, OneStart, Beside, OnePart, AllPairs, Parted, entries_before, encode_before, Rearranged, left, NoNewRefusals, Shown}
use Rattle.recording.specs.Shown as rearranged
use Rattle.recording.proofs.Lists.{all_append, and_left, and_right, same_self}
use Rattle.recording.proofs.ItemsLaws.{placed_at, items-encode, encode_again, entries_numbers}
use Rattle.recording.proofs.FaultLaws.{inside_none, inside_next, start_inside}
use Rattle.recording.proofs.SizeLaws.{append-cons, entry_count, count_numbers, length_numbers}
use Rattle.recording.proofs.ShareLaws.{or_comm, part_more, pushed_more, pushed-snoc, text_by_sums, text_shorter}

-- ── lists
all_map : {A : Type 0} (P Q : A → Type 0) → ((a : A) → P a → Q a) → (xs : List A) → AllOf P xs → AllOf Q xs
all_map P Q f [] h = tt
all_map P Q f (x ∷ xs) h = (f x h.0, all_map P Q f xs h.1)

-- ── where a push has its text: the first one that has it, also once more is written
start_stays : (l t x : Bytes) (m n : ℕ) (es fs : List Entry) → Inside t es → pushed_in l t es ≡ true → start_in l (t ++ x) m (es ++ fs) ≡ start_in l t n es
unfolding Inside pushed_in start_in
start_stays l t x m n [] fs i h = absurd (false≢true h)
start_stays l t x m n (e ∷ es) fs i h = rw (part_more e.start e.len t x i.0) (go (is_push_of l t e) refl (start_stays l t x m n es fs i.1))
  where
    go : (b : Bool) → is_push_of l t e ≡ b → (pushed_in l t es ≡ true → start_in l (t ++ x) m (es ++ fs) ≡ start_in l t n es)
        → cond (is_push_of l t e) e.start (start_in l (t ++ x) m (es ++ fs)) ≡ cond (is_push_of l t e) e.start (start_in l t n es)
    go true q f = rw q
    go false q f = rw q (f (rw q at h))

-- none has it: then what is written next is the first
start_next : (l t : Bytes) (m : ℕ) (es : List Entry) (e : Entry) → pushed_in l t es ≡ false → is_push_of l t e ≡ true → start_in l t m (es ++ (e ∷ [])) ≡ e.start
unfolding pushed_in start_in
start_next l t m [] e h p = rw p
start_next l t m (y ∷ es) e h p = go (is_push_of l t y) refl (start_next l t m es e)
  where
    go : (b : Bool) → is_push_of l t y ≡ b → (pushed_in l t es ≡ false → is_push_of l t e ≡ true → start_in l t m (es ++ (e ∷ [])) ≡ e.start)
        → cond (is_push_of l t y) y.start (start_in l t m (es ++ (e ∷ []))) ≡ e.start
    go true q f = absurd (false≢true (sym (rw q at h)))
    go false q f = rw q (f (rw q at h) p)

-- a push whose part lies in the text is a push of that part
own_push : (t : Bytes) (e : Entry) → e.kind ≡ 0 → e.start + e.len ≤ length t → is_push_of (part_of t e) t e ≡ true
own_push t e k h =
    let n : length (part_of t e) ≡ e.len = length-take e.len (drop e.start t) ∙ omega (arith, h, length-drop e.start t) in
    rw (eq-eqb e.kind 0 k, eq-eqb e.len (length (part_of t e)) (sym n)) (same_self (part_of t e))

-- an entry of es, whose text is t: its part lies in it, and a push starts where the first push with its text does
abbrev Good : Bytes → List Entry → Entry → Type 0
Good t es e = (e.start + e.len ≤ length t) × (e.kind ≡ 0 → (pushed_in (part_of t e) t es ≡ true) × (e.start ≡ start_in (part_of t e) t (length t) es))

-- and still, once another is written
good_next : (t x : Bytes) (es : List Entry) (e : Entry) → Inside t es → (y : Entry) → Good t es y → Good (t ++ x) (es ++ (e ∷ [])) y
good_next t x es e i y g =
    let p : part_of (t ++ x) y ≡ part_of t y = part_more y.start y.len t x g.0 in (
      omega (arith, g.0, length-append t x),
      λ k.
          let h = g.1 k in (
            ap (λ (l : Bytes). pushed_in l (t ++ x) (es ++ (e ∷ []))) p ∙ pushed-snoc (part_of t y) (t ++ x) es e
                ∙ ap (λ (b : Bool). b || is_push_of (part_of t y) (t ++ x) e) (pushed_more (part_of t y) t x es i ∙ h.0),
            h.1 ∙ sym (start_stays (part_of t y) t x (length (t ++ x)) (length t) es (e ∷ []) i h.0)
                ∙ ap (λ (l : Bytes). start_in l (t ++ x) (length (t ++ x)) (es ++ (e ∷ []))) (sym p),
          ),
    )

-- a push that is written next
module _ (l t : Bytes) (es : List Entry) (at : ℕ) (i : Inside t es) where
  abbrev more : Bytes
  more = new_text l t es

  abbrev next : Entry
  next = push_at at t es l

  part_is : part_of (t ++ more) next ≡ l
  part_is = ap (λ (z : Bytes). take (length l) (drop (start_in l t (length t) es) (t ++ z))) (sym (append-nil more)) ∙ placed_at l t es []

  is_push_lem : is_push_of l (t ++ more) next ≡ true
  is_push_lem = rw (eq-eqb (length l) (length l) refl, part_is) (same_self l)

  start_is : start_in l (t ++ more) (length (t ++ more)) (es ++ (next ∷ [])) ≡ next.start
  start_is = go (pushed_in l t es) refl
    where
      go : (b : Bool) → pushed_in l t es ≡ b → start_in l (t ++ more) (length (t ++ more)) (es ++ (next ∷ [])) ≡ next.start
      go true q = start_stays l t more (length (t ++ more)) (length t) es (next ∷ []) i q
      go false q = start_next l (t ++ more) (length (t ++ more)) es next (pushed_more l t more es i ∙ q) is_push_lem

  good_push : Good (t ++ more) (es ++ (next ∷ [])) next
  good_push = (
    start_inside l t es i,
    λ k. (
      ap (λ (z : Bytes). pushed_in z (t ++ more) (es ++ (next ∷ []))) part_is ∙ pushed-snoc l (t ++ more) es next
          ∙ ap (λ (b : Bool). pushed_in l (t ++ more) es || b) is_push_lem ∙ or_comm (pushed_in l (t ++ more) es) true,
      sym start_is ∙ ap (λ (z : Bytes). start_in z (t ++ more) (length (t ++ more)) (es ++ (next ∷ []))) (sym part_is),
    ),
  )

-- ── any two parts stand side by side, or are one
abbrev Apart : Entry → Entry → Type 0
Apart x y = Beside x y ⊎ OnePart x y

-- the part of z beside that of y, and e with y's part
turned : (y z e : Entry) → OnePart y e → Apart y z → Apart z e
turned y z e o p =
    ⊎_elim (λ b. ⊎_elim (λ h. inl (inr (omega (arith, h, o.2, o.3)))) (λ h. inl (inl (omega (arith, h, o.2, o.3)))) b)
    (λ q. inr (q.1, o.1, sym q.2 ∙ o.2, sym q.3 ∙ o.3)) p

followed : (y x e : Entry) → OnePart x e → Apart y x → Apart y e
followed y x e o p =
    ⊎_elim (λ b. ⊎_elim (λ h. inl (inl (omega (arith, h, o.2, o.3)))) (λ h. inl (inr (omega (arith, h, o.2, o.3)))) b)
    (λ q. inr (q.0, o.1, q.2 ∙ o.2, q.3 ∙ o.3)) p

pairs_snoc : (es : List Entry) (e : Entry) → AllPairs Apart es → AllOf (λ (x : Entry). Apart x e) es → AllPairs Apart (es ++ (e ∷ []))
pairs_snoc [] e h g = (tt, tt)
pairs_snoc (x ∷ es) e h g = (all_append (Apart x) es (e ∷ []) h.0 (g.0, tt), pairs_snoc es e h.1 g.1)

-- behind all parts
beyond : (t : Bytes) (es : List Entry) (e : Entry) → Inside t es → e.start ≡ length t → AllOf (λ (x : Entry). Apart x e) es
unfolding Inside
beyond t [] e i h = tt
beyond t (x ∷ es) e i h = (inl (inl (omega (arith, i.0, h))), beyond t es e i.1 h)

-- no part
none_there : (es : List Entry) (e : Entry) → e.start ≡ 0 → e.len ≡ 0 → AllOf (λ (x : Entry). Apart x e) es
none_there [] e s n = tt
none_there (x ∷ es) e s n = (inl (inr (omega (arith, s, n))), none_there es e s n)

-- the first push with an equal text, which has what all have
record Found (Q : Entry → Type 0) (l t : Bytes) (new : ℕ) (es : List Entry) : Type 0 where
  one : Entry
  holds : Q one
  kind : one.kind ≡ 0
  start : one.start ≡ start_in l t new es
  len : one.len ≡ length l

push_kind : (l t : Bytes) (e : Entry) → is_push_of l t e ≡ true → (e.kind ≡ 0) × (e.len ≡ length l)
push_kind l t e h =
    let m = and_right (eqb e.kind 0) (eqb e.len (length l) && same (part_of t e) l) h in
    (eqb-true e.kind 0 (and_left (eqb e.kind 0) (eqb e.len (length l) && same (part_of t e) l) h), eqb-true e.len (length l) (and_left (eqb e.len (length l)) (same (part_of t e) l) m))

find : (Q : Entry → Type 0) (l t : Bytes) (new : ℕ) (es : List Entry) → AllOf Q es → pushed_in l t es ≡ true → Found Q l t new es
unfolding pushed_in start_in
find Q l t new [] a h = absurd (false≢true h)
find Q l t new (e ∷ es) a h = go (is_push_of l t e) refl (find Q l t new es a.1)
  where
    go : (b : Bool) → is_push_of l t e ≡ b → (pushed_in l t es ≡ true → Found Q l t new es) → Found Q l t new (e ∷ es)
    go true q f = let k = push_kind l t e q in record { one = e; holds = a.0; kind = k.0; start = rw q; len = k.1 }
    go false q f =
        let r = f (rw q at h) in
        record { one = r.one; holds = r.holds; kind = r.kind; start = rw q r.start; len = r.len }

-- a push with the part of the first push with an equal text
sharing : (l t : Bytes) (new : ℕ) (es : List Entry) (e : Entry) → AllPairs Apart es → pushed_in l t es ≡ true → e.kind ≡ 0 → e.start ≡ start_in l t new es → e.len ≡ length l
    → AllOf (λ (x : Entry). Apart x e) es
unfolding pushed_in start_in
sharing l t new [] e p h k s n = tt
sharing l t new (y ∷ es) e p h k s n = go (is_push_of l t y) refl (sharing l t new es e p.1)
  where
    go : (b : Bool) → is_push_of l t y ≡ b → (pushed_in l t es ≡ true → e.kind ≡ 0 → e.start ≡ start_in l t new es → e.len ≡ length l → AllOf (λ (x : Entry). Apart x e) es)
        → Apart y e × AllOf (λ (x : Entry). Apart x e) es
    go true q f =
        let m = push_kind l t y q in
        let o : OnePart y e = (m.0, k, sym (rw q at s), m.1 ∙ sym n) in
        (inr o, all_map (Apart y) (λ (x : Entry). Apart x e) (λ z a. turned y z e o a) es p.0)
    go false q f =
        let h' : pushed_in l t es ≡ true = rw q at h in
        let s' : e.start ≡ start_in l t new es = rw q at s in
        let r = find (Apart y) l t new es p.0 h' in
        (followed y r.one e (r.kind, k, r.start ∙ sym s', r.len ∙ sym n) r.holds, f h' k s' n)

start_none : (l t : Bytes) (new : ℕ) (es : List Entry) → pushed_in l t es ≡ false → start_in l t new es ≡ new
unfolding pushed_in start_in
start_none l t new [] h = refl
start_none l t new (e ∷ es) h = go (is_push_of l t e) refl (start_none l t new es)
  where
    go : (b : Bool) → is_push_of l t e ≡ b → (pushed_in l t es ≡ false → start_in l t new es ≡ new) → cond (is_push_of l t e) e.start (start_in l t new es) ≡ new
    go true q f = absurd (false≢true (sym (rw q at h)))
    go false q f = rw q (f (rw q at h))

push_apart : (l t : Bytes) (es : List Entry) (at : ℕ) → Inside t es → AllPairs Apart es → AllOf (λ (x : Entry). Apart x (push_at at t es l)) es
push_apart l t es at i p = go (pushed_in l t es) refl
  where
    go : (b : Bool) → pushed_in l t es ≡ b → AllOf (λ (x : Entry). Apart x (push_at at t es l)) es
    go true q = sharing l t (length t) es (push_at at t es l) p q refl refl refl
    go false q = beyond t es (push_at at t es l) i (start_none l t (length t) es q)

-- ── both, of all that is written
record Kept (t : Bytes) (es : List Entry) : Type 0 where
  inside : Inside t es
  good : AllOf (Good t es) es
  apart : AllPairs Apart es

-- one entry more, with what comes to the text
kept_next : (t x : Bytes) (es : List Entry) (e : Entry) → Kept t es → e.start + e.len ≤ length (t ++ x) → Good (t ++ x) (es ++ (e ∷ [])) e → AllOf (λ (y : Entry). Apart y e) es
    → Kept (t ++ x) (es ++ (e ∷ []))
kept_next t x es e k n g a =
    record {
      inside = inside_next t x es e k.inside n;
      good = all_append (Good (t ++ x) (es ++ (e ∷ []))) es (e ∷ []) (all_map (Good t es) (Good (t ++ x) (es ++ (e ∷ []))) (good_next t x es e k.inside) es k.good) (g, tt);
      apart = pairs_snoc es e k.apart a;
    }

no_push : (n : ℕ) → suc n ≡ 0 → ⊥
no_push n h = omega (arith, h)

kept_after : (is : List Item) (at : ℕ) (t : Bytes) (es : List Entry) → Kept t es → Kept (t ++ text_from at t es is) (es ++ entries_from at t es is)
kept_after [] at t es k = rw (append-nil t, append-nil es) k
kept_after (byte b ∷ is) at t es k = kept_after is (suc at) t es k
kept_after (push l ∷ is) at t es k =
    let e : Entry = push_at at t es l in
    let n : Bytes = new_text l t es in
    rw (← append-cons es e (entries_from at (t ++ n) (es ++ (e ∷ [])) is), ← append_assoc t n (text_from at (t ++ n) (es ++ (e ∷ [])) is))
    (kept_after is at (t ++ n) (es ++ (e ∷ [])) (kept_next t n es e k (start_inside l t es k.inside) (good_push l t es at k.inside) (push_apart l t es at k.inside k.apart)))
kept_after (pop ∷ is) at t es k =
    let e : Entry = entry at 1 0 0 in
    let m = kept_next t [] es e k (omega arith) (omega arith, λ z. absurd (no_push 0 z)) (none_there es e refl refl) in
    rw (← append-cons es e (entries_from at t (es ++ (e ∷ [])) is)) (kept_after is at t (es ++ (e ∷ [])) (rw (append-nil t) at m))
kept_after (raw x ∷ is) at t es k =
    let e : Entry = entry at 2 (length t) (length x) in
    let h : length t + length x ≤ length (t ++ x) = omega (arith, length-append t x) in
    rw (← append-cons es e (entries_from at (t ++ x) (es ++ (e ∷ [])) is), ← append_assoc t x (text_from at (t ++ x) (es ++ (e ∷ [])) is))
    (kept_after is at (t ++ x) (es ++ (e ∷ [])) (kept_next t x es e k h (h, λ z. absurd (no_push 1 z)) (beyond t es e k.inside refl)))

result : (is : List Item) → Kept (text_from 0 [] [] is) (entries_from 0 [] [] is)
result is = kept_after is 0 [] [] (record { inside = inside_none []; good = tt; apart = tt })

-- ── of the encoded items
module _ (is : List Item) where
  entries_are : entries_of (encode is).entry_numbers ≡ entries_from 0 [] [] is
  unfolding encode
  entries_are = entries_numbers (entries_from 0 [] [] is)

  at_first : AtFirst (encode is)
  unfolding encode
  at_first =
      rw entries_are
      (all_map (Good (text_from 0 [] [] is) (entries_from 0 [] [] is))
      (λ (e : Entry). e.kind ≡ 0 → e.start ≡ start_in (part_of (text_from 0 [] [] is) e) (text_from 0 [] [] is) (length (text_from 0 [] [] is)) (entries_from 0 [] [] is))
      (λ e g k. (g.1 k).1) (entries_from 0 [] [] is) (result is).good)

  parted : Parted (encode is)
  parted = rw entries_are (result is).apart

-- two pushes that each start where the first push with its text does
one_start : (r : Recording) → AtFirst r → OneStart r
one_start r h =
    let es : List Entry = entries_of r.entry_numbers in
    let t : Bytes = r.text in
    let P : Entry → Type 0 = λ (e : Entry). e.kind ≡ 0 → e.start ≡ start_in (part_of t e) t (length t) es in
    all_map P (λ (x : Entry). AllOf (λ (y : Entry). x.kind ≡ 0 → y.kind ≡ 0 → part_of t x ≡ part_of t y → x.start ≡ y.start) es)
    (λ x a.
    all_map P (λ (y : Entry). x.kind ≡ 0 → y.kind ≡ 0 → part_of t x ≡ part_of t y → x.start ≡ y.start)
    (λ y b i j e. a i ∙ ap (λ (l : Bytes). start_in l t (length t) es) e ∙ sym (b j)) es h) es h

-- ── the order
module _ (m : Item → ℕ) where
  same_sum : {is js : List Item} → Rearranged is js → sum_of m is ≡ sum_of m js
  same_sum rearranged.same = refl
  same_sum (rearranged.swapped {x = x} {y = y} {is = is}) = omega arith
  same_sum (rearranged.behind {x = x} r) = ap (λ (n : ℕ). m x + n) (same_sum r)
  same_sum (rearranged.then r s) = same_sum r ∙ same_sum s

any_order : (is js : List Item) → Rearranged is js → length (encode is).text ≡ length (encode js).text
any_order is js r = text_by_sums is js (same_sum raw_len_of r) (λ l p. omega (arith, p, same_sum (push_of l) r)) (λ l p. omega (arith, p, same_sum (push_of l) r))

-- ── refusals
count-before : (is : List Item) (at used : ℕ) → length (entries_before at used is) ≡ entry_count is
count-before [] at used = refl
count-before (byte b ∷ is) at used = count-before is (suc at) used
count-before (push l ∷ is) at used = ap suc (count-before is at (used + length l))
count-before (pop ∷ is) at used = ap suc (count-before is at used)
count-before (raw t ∷ is) at used = ap suc (count-before is at (used + length t))

-- one refusal beside another: 9 only where that is 9, 23 only where that is 9 or 23, and else the same
abbrev NoNew : ℕ → ℕ → Type 0
NoNew a b = (a ≡ 9 → b ≡ 9) × (a ≡ 23 → (b ≡ 9) ⊎ (b ≡ 23)) × ((b ≡ a) ⊎ ((b ≡ 9) ⊎ (b ≡ 23)))

same_new : (a b : ℕ) → b ≡ a → NoNew a b
same_new a b e = (λ h. e ∙ h, λ h. inr (e ∙ h), inl e)

-- behind the same faults
abbrev behind_faults : List ℕ → ℕ → ℕ
behind_faults [] a = a
behind_faults (n ∷ ns) a = cond (eqb n 0) (behind_faults ns a) n

behind_new : (ns : List ℕ) (a b : ℕ) → NoNew a b → NoNew (behind_faults ns a) (behind_faults ns b)
behind_new [] a b h = h
behind_new (n ∷ ns) a b h = go (eqb n 0) (behind_new ns a b h)
  where
    go : (t : Bool) → NoNew (behind_faults ns a) (behind_faults ns b) → NoNew (cond t (behind_faults ns a) n) (cond t (behind_faults ns b) n)
    go true g = g
    go false g = same_new n n refl

-- the sizes, told by their tests: the limits of data, entries and texts, then the rooms; a longer text fails each test that a shorter one does
sizes_new : (a b c c' d e t t' l : Bool) → (c ≡ true → c' ≡ true) → (t ≡ true → t' ≡ true)
    → NoNew (first_of (refuse_if (a || b || c) 9 ∷ first_of (refuse_if d 21 ∷ refuse_if e 22 ∷ refuse_if t 23 ∷ refuse_if l 24 ∷ []) ∷ []))
    (first_of (refuse_if (a || b || c') 9 ∷ first_of (refuse_if d 21 ∷ refuse_if e 22 ∷ refuse_if t' 23 ∷ refuse_if l 24 ∷ []) ∷ []))
sizes_new true b c c' d e t t' l f g = same_new 9 9 refl
sizes_new false true c c' d e t t' l f g = same_new 9 9 refl
sizes_new false false true true d e t t' l f g = same_new 9 9 refl
sizes_new false false true false d e t t' l f g = absurd (false≢true (f refl))
sizes_new false false false true d e t t' l f g = (λ h. refl, λ h. inl refl, inr (inl refl))
sizes_new false false false false true e t t' l f g = same_new 21 21 refl
sizes_new false false false false false true t t' l f g = same_new 22 22 refl
sizes_new false false false false false false true true l f g = same_new 23 23 refl
sizes_new false false false false false false true false l f g = absurd (false≢true (g refl))
sizes_new false false false false false false false true true f g = (λ h. absurd (omega (arith, h)), λ h. inr refl, inr (inr refl))
sizes_new false false false false false false false true false f g = (λ h. absurd (omega (arith, h)), λ h. inr refl, inr (inr refl))
sizes_new false false false false false false false false true f g = same_new 24 24 refl
sizes_new false false false false false false false false false f g = same_new 0 0 refl

-- of two results that differ in their texts alone
module _ (x y : Result) (ed : length x.recording.data_bytes ≡ length y.recording.data_bytes) (ee : length x.recording.entry_numbers ≡ length y.recording.entry_numbers)
    (et : length x.recording.text ≤ length y.recording.text) (el : length x.lines ≡ length y.lines) where
  more_over : (n : ℕ) → ltb n (length x.recording.text) ≡ true → ltb n (length y.recording.text) ≡ true
  more_over n h = lt-ltb n (length y.recording.text) (omega (arith, et, ltb-true n (length x.recording.text) h))

  sized : (o : Room) → NoNew (first_of (over_limit x.recording ∷ no_room o x ∷ [])) (first_of (over_limit y.recording ∷ no_room o y ∷ []))
  unfolding over_limit no_room
  sized o =
      rw (← ed, ← ee, ← el)
      (sizes_new (ltb data_limit (length x.recording.data_bytes)) (ltb entry_limit (length x.recording.entry_numbers)) (ltb text_limit (length x.recording.text))
      (ltb text_limit (length y.recording.text)) (ltb o.data_bytes (length x.recording.data_bytes)) (ltb o.entry_numbers (length x.recording.entry_numbers))
      (ltb o.text (length x.recording.text)) (ltb o.text (length y.recording.text)) (ltb o.lines (length x.lines)) (more_over text_limit) (more_over o.text))

  pub no_new : (f : Faults) (o : Room) → NoNewRefusals f o x y
  unfolding refusal_of
  no_new f o =
      let r =
      behind_new (f.lengths ∷ f.content ∷ f.second ∷ f.added ∷ f.plain ∷ f.own ∷ []) (first_of (over_limit x.recording ∷ no_room o x ∷ []))
      (first_of (over_limit y.recording ∷ no_room o y ∷ [])) (sized o) in
      record { nine = r.0; no_text = r.1; others = r.2 }

refusals : (is : List Item) (f : Faults) (o : Room) (ls : List ℕ) (n : ℕ) → NoNewRefusals f o (left (encode is) ls n) (left (encode_before is) ls n)
unfolding encode encode_before
refusals is =
    λ f o ls n. no_new (left (encode is) ls n) (left (encode_before is) ls n) refl
    (count_numbers is 0 [] [] ∙ sym (length_numbers (entries_before 0 0 is) ∙ ap (λ (k : ℕ). 4 * k) (count-before is 0 0))) (text_shorter is) refl f o

pub shown : (is : List Item) → Shown is
unfolding coloured encode_before
shown is =
    record {
      at_first = at_first is;
      one_start = one_start (encode is) (at_first is);
      parted = parted is;
      shorter = text_shorter is;
      any_order = any_order is;
      refusals = refusals is;
      read_back = items-encode is;
      colours = ap (coloured_from []) (items-encode is);
      again = encode_again is;
    }
