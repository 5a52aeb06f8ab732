-- How long a result's text is (`shared_size_lem`): it does not depend on the order of the entries (`text_by_sums`), only on the raw sequences in all and on which labels there are.
-- The idea: a label's text is new exactly when no push before has it (`text_length`); labels not yet seen can be taken out of a list at any place (`taken_out`).
use Prim.Native.Nat.{ℕ, zero, suc, ◌+◌, ◌*◌, ◌≤◌, ◌<◌}
use native.Mathlib.Nat.{zero-mul, suc-mul, mul-zero, mul-le-mul}
use native.Mathlib.Omega.{arith}
use mathlib.Core.Path.{◌≡◌, refl, sym, ap, ◌∙◌}
use mathlib.Core.Bool.{Bool, true, false, cond, ◌&&◌, ◌||◌, false≢true}
use mathlib.Core.Logic.{◌⊎◌, inl, inr, ⊎_elim}
use mathlib.Core.List.{List, [], ◌∷◌, ◌++◌, append-nil}
use lib.Dec.{eqb, eqb-suc-zero}
use lib.ListN.{length, take, drop, length-append}
use borrow.Author.Tests.{eq-eqb}
use Rattle.recording.specs.declared.Entry.{Entry}
use Rattle.recording.specs.Lists.{same}
use Rattle.recording.specs.Recording.{Bytes, entry, part_of, Item, byte, push, pop, raw, text_of, is_push_of, pushed_in, start_in, push_at, new_text, text_from, encode}
use Rattle.recording.specs.Edit.{Op, keep, skip, put, front, back, entries_only, edit}
use Rattle.recording.specs.Share.{Inside, sum_of, raw_len_of, push_of, times, member, label_len, shared_size}
use Rattle.recording.proofs.Lists.{same_self, same_equal}
use Rattle.recording.proofs.ItemsLaws.{placed_at}
use Rattle.recording.proofs.SizeLaws.{text_append}
use Rattle.recording.proofs.FaultLaws.{inside_none, inside_next, start_inside}

-- ── Booleans and equal texts
pub or_comm : (a b : Bool) → (a || b) ≡ (b || a)
or_comm true true = refl
or_comm true false = refl
or_comm false true = refl
or_comm false false = refl

pub or_assoc : (a b c : Bool) → ((a || b) || c) ≡ (a || (b || c))
or_assoc true b c = refl
or_assoc false b c = refl

pub not_same : (x y : Bytes) → same x y ≡ false → same y x ≡ false
not_same x y h = go (same y x) refl
  where
    go : (b : Bool) → same y x ≡ b → same y x ≡ false
    go true q = absurd (false≢true (sym h ∙ ap (λ (z : Bytes). same z y) (sym (same_equal y x q)) ∙ same_self y))
    go false q = q

-- equal texts are as long
pub same_long : (x y : Bytes) → (eqb (length x) (length y) && same x y) ≡ same x y
same_long x y = go (same x y) refl
  where
    go : (b : Bool) → same x y ≡ b → (eqb (length x) (length y) && same x y) ≡ same x y
    go true q = rw (eq-eqb (length x) (length y) (ap length (same_equal x y q)))
    go false q = rw q (and_none (eqb (length x) (length y)))
      where
        and_none : (a : Bool) → (a && false) ≡ false
        and_none true = refl
        and_none false = refl

-- ── sums over items
pub sum-append : (m : Item → ℕ) (a b : List Item) → sum_of m (a ++ b) ≡ sum_of m a + sum_of m b
sum-append m [] b = omega arith
sum-append m (x ∷ a) b = omega (arith, sum-append m a b)

abbrev pub put_sum : (Item → ℕ) → List Op → ℕ
put_sum m [] = 0
put_sum m (keep n ∷ ops) = put_sum m ops
put_sum m (skip n ∷ ops) = put_sum m ops
put_sum m (put p ∷ ops) = sum_of m p + put_sum m ops

-- of which bytes have none
module _ (m : Item → ℕ) (none : (b : ℕ) → m (byte b) ≡ 0) where
  pub sum_split : (n : ℕ) (is : List Item) → sum_of m (front n is) + sum_of m (back n is) ≡ sum_of m is
  sum_split n [] = refl
  sum_split zero (byte x ∷ is) = omega arith
  sum_split (suc n) (byte x ∷ is) = omega (arith, sum_split n is)
  sum_split n (push l ∷ is) = omega (arith, sum_split n is)
  sum_split n (pop ∷ is) = omega (arith, sum_split n is)
  sum_split n (raw l ∷ is) = omega (arith, sum_split n is)

  pub sum_only : (is : List Item) → sum_of m (entries_only is) ≡ sum_of m is
  sum_only [] = refl
  sum_only (byte x ∷ is) = omega (arith, sum_only is, none x)
  sum_only (push l ∷ is) = omega (arith, sum_only is)
  sum_only (pop ∷ is) = omega (arith, sum_only is)
  sum_only (raw l ∷ is) = omega (arith, sum_only is)

  pub edit-sum : (ops : List Op) (is : List Item) → sum_of m (edit ops is) ≡ sum_of m is + put_sum m ops
  edit-sum [] is = omega arith
  edit-sum (keep n ∷ ops) is = omega (arith, sum-append m (front n is) (edit ops (back n is)), edit-sum ops (back n is), sum_split n is)
  edit-sum (skip n ∷ ops) is = omega (arith, sum-append m (entries_only (front n is)) (edit ops (back n is)), sum_only (front n is), edit-sum ops (back n is), sum_split n is)
  edit-sum (put p ∷ ops) is = omega (arith, sum-append m (front 0 is) (p ++ edit ops (back 0 is)), sum-append m p (edit ops (back 0 is)), edit-sum ops (back 0 is), sum_split 0 is)

-- ── what was pushed stays pushed
pub part_more : (s n : ℕ) (t x : Bytes) → s + n ≤ length t → take n (drop s (t ++ x)) ≡ take n (drop s t)
part_more zero zero t x h = refl
part_more zero (suc n) [] x h = absurd (omega arith)
part_more zero (suc n) (b ∷ t) x h = ap (λ (l : Bytes). b ∷ l) (part_more zero n t x (omega arith))
part_more (suc s) n [] x h = absurd (omega arith)
part_more (suc s) n (b ∷ t) x h = part_more s n t x (omega arith)

pub pushed_more : (l t x : Bytes) (es : List Entry) → Inside t es → pushed_in l (t ++ x) es ≡ pushed_in l t es
unfolding Inside pushed_in
pushed_more l t x [] h = refl
pushed_more l t x (e ∷ es) h = rw (part_more e.start e.len t x h.0, pushed_more l t x es h.1)

pub pushed-snoc : (l t : Bytes) (es : List Entry) (e : Entry) → pushed_in l t (es ++ (e ∷ [])) ≡ (pushed_in l t es || is_push_of l t e)
unfolding pushed_in
pushed-snoc l t [] e = or_comm (is_push_of l t e) false
pushed-snoc l t (y ∷ es) e = rw (pushed-snoc l t es e) (sym (or_assoc (is_push_of l t y) (pushed_in l t es) (is_push_of l t e)))

-- `seen` are the labels pushed before
abbrev Knows : List Bytes → Bytes → List Entry → Type 0
Knows seen t es = (l : Bytes) → pushed_in l t es ≡ member l seen

knows_push : (l t : Bytes) (at : ℕ) (es : List Entry) (seen : List Bytes) → Inside t es → Knows seen t es → Knows (l ∷ seen) (t ++ new_text l t es) (es ++ (push_at at t es l ∷ []))
knows_push l t at es seen i k x =
    let n : Bytes = new_text l t es in
    let e : Entry = push_at at t es l in
    let p : part_of (t ++ n) e ≡ l = ap (λ (z : Bytes). take (length l) (drop (start_in l t (length t) es) (t ++ z))) (sym (append-nil n)) ∙ placed_at l t es [] in
    pushed-snoc x (t ++ n) es e ∙ (λ j. (pushed_more x t n es i ∙ k x) j || (eqb (length l) (length x) && same (p j) x)) ∙ ap (λ (b : Bool). member x seen || b) (same_long l x) ∙ or_comm (member x seen) (same l x)

knows_other : (t x : Bytes) (e : Entry) (es : List Entry) (seen : List Bytes) → eqb e.kind 0 ≡ false → Inside t es → Knows seen t es → Knows seen (t ++ x) (es ++ (e ∷ []))
knows_other t x e es seen h i k l =
    pushed-snoc l (t ++ x) es e ∙ (λ j. (pushed_more l t x es i ∙ k l) j || (h j && (eqb e.len (length l) && same (part_of (t ++ x) e) l))) ∙ or_comm (member l seen) false

pub text_length : (is : List Item) (at : ℕ) (t : Bytes) (es : List Entry) (seen : List Bytes) → Inside t es → Knows seen t es
    → length (text_from at t es is) ≡ sum_of raw_len_of is + label_len seen is
text_length [] at t es seen i k = refl
text_length (byte b ∷ is) at t es seen i k = omega (arith, text_length is (suc at) t es seen i k)
text_length (push l ∷ is) at t es seen i k =
    let n : Bytes = new_text l t es in
    let e : Entry = push_at at t es l in
    let ih = text_length is at (t ++ n) (es ++ (e ∷ [])) (l ∷ seen) (inside_next t n es e i (start_inside l t es i)) (knows_push l t at es seen i k) in
    omega (arith, ih, length-append n (text_from at (t ++ n) (es ++ (e ∷ [])) is), new_length (pushed_in l t es) (member l seen) l (k l))
  where
    new_length : (a b : Bool) (l : Bytes) → a ≡ b → length (cond a [] l) ≡ cond b 0 (length l)
    new_length true true l h = refl
    new_length true false l h = absurd (false≢true (sym h))
    new_length false true l h = absurd (false≢true h)
    new_length false false l h = refl
text_length (pop ∷ is) at t es seen i k =
    let e : Entry = entry at 1 0 0 in
    let g : Inside t (es ++ (e ∷ [])) = rw (append-nil t) at (inside_next t [] es e i (omega arith)) in
    let q : Knows seen t (es ++ (e ∷ [])) = λ l. ap (λ (z : Bytes). pushed_in l z (es ++ (e ∷ []))) (sym (append-nil t)) ∙ knows_other t [] e es seen refl i k l in
    omega (arith, text_length is at t (es ++ (e ∷ [])) seen g q)
text_length (raw x ∷ is) at t es seen i k =
    let e : Entry = entry at 2 (length t) (length x) in
    let ih = text_length is at (t ++ x) (es ++ (e ∷ [])) seen (inside_next t x es e i (omega (arith, length-append t x))) (λ l. knows_other t x e es seen refl i k l) in
    omega (arith, ih, length-append x (text_from at (t ++ x) (es ++ (e ∷ [])) is))

-- the text of a result
pub encode-length : (is : List Item) → length (encode is).text ≡ sum_of raw_len_of is + label_len [] is
unfolding encode pushed_in
encode-length is = text_length is 0 [] [] [] (inside_none []) (λ l. refl)

-- ── labels in whatever order
abbrev Alike : List Bytes → List Bytes → Type 0
Alike x y = (l : Bytes) → member l x ≡ member l y

pub labels_alike : (is : List Item) (x y : List Bytes) → Alike x y → label_len x is ≡ label_len y is
labels_alike [] x y h = refl
labels_alike (byte b ∷ is) x y h = labels_alike is x y h
labels_alike (push l ∷ is) x y h = λ i. cond (h l i) 0 (length l) + labels_alike is (l ∷ x) (l ∷ y) (λ m. ap (λ (b : Bool). same l m || b) (h m)) i
labels_alike (pop ∷ is) x y h = labels_alike is x y h
labels_alike (raw t ∷ is) x y h = labels_alike is x y h

or_twice : (a b : Bool) → (a || (a || b)) ≡ (a || b)
or_twice true b = refl
or_twice false b = refl

or_swap : (a b c : Bool) → (a || (b || c)) ≡ (b || (a || c))
or_swap true true c = refl
or_swap true false c = refl
or_swap false b c = refl

-- a label that is there and was not seen
pub taken_out : (l : Bytes) (b : List Item) (seen : List Bytes) → member l seen ≡ false → 0 < times l b → label_len seen b ≡ length l + label_len (l ∷ seen) b
taken_out l [] seen h p = absurd (omega (arith, p))
taken_out l (byte x ∷ b) seen h p = taken_out l b seen h (omega (arith, p))
taken_out l (pop ∷ b) seen h p = taken_out l b seen h (omega (arith, p))
taken_out l (raw x ∷ b) seen h p = taken_out l b seen h (omega (arith, p))
taken_out l (push m ∷ b) seen h p = go (same m l) refl (λ u v. taken_out l b (m ∷ seen) u v)
  where
    go : (s : Bool) → same m l ≡ s → (member l (m ∷ seen) ≡ false → 0 < times l b → label_len (m ∷ seen) b ≡ length l + label_len (l ∷ m ∷ seen) b)
        → label_len seen (push m ∷ b) ≡ length l + label_len (l ∷ seen) (push m ∷ b)
    go true q f =
        let e : m ≡ l = same_equal m l q in
        let u : member m seen ≡ false = ap (λ (z : Bytes). member z seen) e ∙ h in
        let v : same l m ≡ true = ap (λ (z : Bytes). same z m) (sym e) ∙ same_self m in
        let w : label_len (m ∷ l ∷ seen) b ≡ label_len (l ∷ seen) b = ap (λ (z : Bytes). label_len (z ∷ l ∷ seen) b) e ∙ labels_alike b (l ∷ l ∷ seen) (l ∷ seen) (λ x. or_twice (same l x) (member x seen)) in
        rw (u, v) (omega (arith, w, ap length e, ap (λ (z : Bytes). label_len (z ∷ seen) b) e))
    go false q f =
        let u : same l m ≡ false = not_same m l q in
        let g : label_len (m ∷ seen) b ≡ length l + label_len (l ∷ m ∷ seen) b = f (rw (q, h)) (omega (arith, p, ap {B = ℕ} (λ (z : Bool). cond z 1 0) q)) in
        let w : label_len (l ∷ m ∷ seen) b ≡ label_len (m ∷ l ∷ seen) b = labels_alike b (l ∷ m ∷ seen) (m ∷ l ∷ seen) (λ x. or_swap (same l x) (same m x) (member x seen)) in
        rw u (omega (arith, g, w))

pushed_there : (l : Bytes) (a : List Item) → 0 < times l (push l ∷ a)
pushed_there l a = rw (same_self l) (omega arith)

pub labels_le : (a b : List Item) (seen : List Bytes) → ((l : Bytes) → 0 < times l a → (member l seen ≡ true) ⊎ (0 < times l b)) → label_len seen a ≤ label_len seen b
labels_le [] b seen h = omega arith
labels_le (byte x ∷ a) b seen h = labels_le a b seen (λ l p. h l (omega (arith, p)))
labels_le (pop ∷ a) b seen h = labels_le a b seen (λ l p. h l (omega (arith, p)))
labels_le (raw x ∷ a) b seen h = labels_le a b seen (λ l p. h l (omega (arith, p)))
labels_le (push m ∷ a) b seen h = go (member m seen) refl (labels_le a b seen) (labels_le a b (m ∷ seen))
  where
    later : (l : Bytes) → 0 < times l a → (member l seen ≡ true) ⊎ (0 < times l b)
    later l p = h l (omega (arith, p))

    go : (s : Bool) → member m seen ≡ s
        → (((l : Bytes) → 0 < times l a → (member l seen ≡ true) ⊎ (0 < times l b)) → label_len seen a ≤ label_len seen b)
        → (((l : Bytes) → 0 < times l a → (member l (m ∷ seen) ≡ true) ⊎ (0 < times l b)) → label_len (m ∷ seen) a ≤ label_len (m ∷ seen) b)
        → cond (member m seen) 0 (length m) + label_len (m ∷ seen) a ≤ label_len seen b
    go true q f g =
        let w : label_len (m ∷ seen) a ≡ label_len seen a = labels_alike a (m ∷ seen) seen (λ x. known x (same m x) refl) in
        rw q (omega (arith, w, f later))
      where
        known : (x : Bytes) (s : Bool) → same m x ≡ s → (s || member x seen) ≡ member x seen
        known x true p = sym (ap (λ (z : Bytes). member z seen) (sym (same_equal m x p)) ∙ q)
        known x false p = refl
    go false q f g =
        let k : 0 < times m b = ⊎_elim (λ z. absurd (false≢true (sym q ∙ z))) (λ z. z) (h m (pushed_there m a)) in
        let r = g (λ l p. ⊎_elim (λ z. inl (ap (λ (c : Bool). same m l || c) z ∙ or_comm (same m l) true)) (λ z. inr z) (later l p)) in
        rw q (omega (arith, r, taken_out m b seen q k))

pub labels_same : (a b : List Item) → ((l : Bytes) → 0 < times l a → 0 < times l b) → ((l : Bytes) → 0 < times l b → 0 < times l a) → label_len [] a ≡ label_len [] b
labels_same a b f g = omega (arith, labels_le a b [] (λ l p. inr (f l p)), labels_le b a [] (λ l p. inr (g l p)))

-- ── the order does not matter
pub text_by_sums : (x y : List Item) → sum_of raw_len_of x ≡ sum_of raw_len_of y → ((l : Bytes) → 0 < times l x → 0 < times l y) → ((l : Bytes) → 0 < times l y → 0 < times l x)
    → length (encode x).text ≡ length (encode y).text
text_by_sums x y r f g = omega (arith, r, encode-length x, encode-length y, labels_same x y f g)

-- ── recording by recording: all of a, and b n times
pub shared_size_lem : (is a b : List Item) (n : ℕ) → sum_of raw_len_of is ≡ sum_of raw_len_of a + n * sum_of raw_len_of b → ((l : Bytes) → times l is ≡ times l a + n * times l b)
    → length (encode is).text ≡ shared_size a n b
unfolding shared_size
shared_size_lem is a b zero r t =
    let z : (l : Bytes) → times l (a ++ []) ≡ times l is = λ l. omega (arith, t l, sum-append (push_of l) a [], zero-mul (times l b)) in
    omega (arith, r, encode-length is, labels_same is (a ++ []) (λ l p. omega (arith, p, z l)) (λ l p. omega (arith, p, z l)))
shared_size_lem is a b (suc n) r t =
    rw (eqb-suc-zero n) (omega (arith, r, encode-length is, labels_same is (a ++ b) (λ l p. some_of l (times l b) refl p) (λ l p. omega (arith, p, t l, sum-append (push_of l) a b, suc-mul n (times l b)))))
  where
    some_of : (l : Bytes) (k : ℕ) → times l b ≡ k → 0 < times l is → 0 < times l (a ++ b)
    some_of l zero e p = omega (arith, p, t l, sum-append (push_of l) a b, ap (λ (m : ℕ). suc n * m) e ∙ mul-zero (suc n))
    some_of l (suc k) e p = omega (arith, e, sum-append (push_of l) a b)

-- ── never longer than all texts side by side
labels_few : (is : List Item) (seen : List Bytes) → sum_of raw_len_of is + label_len seen is ≤ length (text_of is)
labels_few [] seen = omega arith
labels_few (byte b ∷ is) seen = omega (arith, labels_few is seen)
labels_few (push l ∷ is) seen = omega (arith, labels_few is (l ∷ seen), length-append l (text_of is), at_most_of (member l seen))
  where
    at_most_of : (b : Bool) → cond b 0 (length l) ≤ length l
    at_most_of true = omega arith
    at_most_of false = omega arith
labels_few (pop ∷ is) seen = omega (arith, labels_few is seen)
labels_few (raw x ∷ is) seen = omega (arith, labels_few is seen, length-append x (text_of is))

pub text_shorter : (is : List Item) → length (encode is).text ≤ length (text_of is)
text_shorter is = omega (arith, encode-length is, labels_few is [])

-- ── nor is all of a, with b n times
raws_few : (is : List Item) → sum_of raw_len_of is ≤ length (text_of is)
raws_few is = omega (arith, labels_few is [])

pub shared_less : (a b : List Item) (n : ℕ) → shared_size a n b ≤ length (text_of a) + n * length (text_of b)
unfolding shared_size
shared_less a b zero =
    omega (arith, labels_few (a ++ []) [], sum-append raw_len_of a [], ap length (text_append a []), length-append (text_of a) [], zero-mul (sum_of raw_len_of b), zero-mul (length (text_of b)))
shared_less a b (suc n) =
    rw (eqb-suc-zero n)
    (omega (
      arith,
      labels_few (a ++ b) [],
      sum-append raw_len_of a b,
      ap length (text_append a b),
      length-append (text_of a) (text_of b),
      suc-mul n (sum_of raw_len_of b),
      suc-mul n (length (text_of b)),
      mul-le-mul {n₁ = n} {n₂ = n} (omega arith) (raws_few b),
    ))
