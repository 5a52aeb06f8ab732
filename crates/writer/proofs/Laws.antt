-- Laws of writing items at the ends: one entry in numbers and text, and some items after others (`add-append`), with the room that this takes (`fits_left`, `fits_right`).
use mathlib.Core.Path.{◌≡◌, refl, sym, ap, ◌∙◌}
use mathlib.Core.Bool.{Bool, true, false, cond, not, ◌&&◌, false≢true}
use lib.Dec.{eqb}
use borrow.Author.Tests.{eqb-true}
use mathlib.Core.List.{List, [], ◌∷◌, ◌++◌, append_assoc, append-nil}
use Prim.Native.Nat.{ℕ, zero, suc, ◌+◌, ◌-◌, ◌*◌, ◌%◌, ◌≤◌}
use native.Mathlib.Omega.{arith}
use lib.ListN.{length, take, drop, length-append, length-drop, length-take}
use lib.Seq.{take_at, length-take-le, take-length}
use Rattle.buffer.specs.Place.{over, over_at, part}
use Rattle.buffer.proofs.Laws.{over_twice}
use Rattle.recording.specs.declared.Entry.{Entry}
use Rattle.recording.specs.Recording.{entry, entries_of, numbers_of_ranges, part_of, Item, item_of, data_of, pushed_in, start_in, new_text, entries_from, text_from}
use Rattle.recording.specs.Refusals.{bad_shape_of}
use Rattle.recording.proofs.EditLaws.{data_append}
use Rattle.recording.proofs.ItemsLaws.{entries_numbers}
use Rattle.share.proofs.PlacedLaws.{inside_after, placed_after}
use Rattle.share.specs.Placed.{placed_from}
use Rattle.buffer.proofs.Laws.{length_part}
use Rattle.recording.proofs.SizeLaws.{text_after, entries-append, numbers_append, entry_count, count-append, count_numbers}
use Rattle.writer.specs.Write.{Out, add, Fits, text_in, entries_in, numbers_at, text_at, numbers_for, text_for, item_at, start_for, add_for}
use Rattle.writer.specs.declared.Cursor.{Cursor}

-- ── one entry
pub pop_empty : (s n : ℕ) → not (eqb s 0 && eqb n 0) ≡ false → (s ≡ 0) × (n ≡ 0)
pop_empty s n h = go (eqb s 0) (eqb n 0) refl refl h
  where
    go : (a b : Bool) → eqb s 0 ≡ a → eqb n 0 ≡ b → not (a && b) ≡ false → (s ≡ 0) × (n ≡ 0)
    go true true p q g = (eqb-true s 0 p, eqb-true n 0 q)
    go true false p q g = absurd (false≢true (sym g))
    go false true p q g = absurd (false≢true (sym g))
    go false false p q g = absurd (false≢true (sym g))

-- the numbers that are written of an entry
entry_numbers_lem : (kind s n d : ℕ) (text t : List ℕ) (es : List Entry) → bad_shape_of kind s n ≡ false → s + n ≤ length text
    → numbers_of_ranges (entries_from d t es (item_of kind (take n (drop s text)) ∷ [])) ≡ d ∷ kind ∷ start_for kind (take n (drop s text)) t es ∷ n ∷ []
unfolding bad_shape_of start_for
entry_numbers_lem zero s n d text t es h k =
    let e : length (take n (drop s text)) ≡ n = simp (length-take, length-drop) (omega arith) in
    ap (λ (m : ℕ). d ∷ 0 ∷ start_in (take n (drop s text)) t (length t) es ∷ m ∷ []) e
entry_numbers_lem (suc zero) s n d text t es h k = let e = pop_empty s n h in rw e.1
entry_numbers_lem (suc (suc zero)) s n d text t es h k =
    let e : length (take n (drop s text)) ≡ n = simp (length-take, length-drop) (omega arith) in
    ap (λ (m : ℕ). d ∷ 2 ∷ length t ∷ m ∷ []) e
entry_numbers_lem (suc (suc (suc m))) s n d text t es h k = cc

-- and what its text adds: all of it, or nothing
entry_text : (kind d : ℕ) (l t : List ℕ) (es : List Entry) → text_from d t es (item_of kind l ∷ []) ≡ take (add_for kind l t es) l
unfolding add_for
entry_text zero d l t es = append-nil (new_text l t es) ∙ all_or_none (pushed_in l t es)
  where
    all_or_none : (b : Bool) → cond b [] l ≡ take (length (cond b [] l)) l
    all_or_none true = refl
    all_or_none false = sym (take-length l)
entry_text (suc zero) d l t es = refl
entry_text (suc (suc k)) d l t es = append-nil l ∙ sym (take-length l)

add_most : (kind : ℕ) (l t : List ℕ) (es : List Entry) → add_for kind l t es ≤ length l
unfolding add_for
add_most zero l t es = at_most_of (pushed_in l t es)
  where
    at_most_of : (b : Bool) → length (cond b [] l) ≤ length l
    at_most_of true = omega arith
    at_most_of false = omega arith
add_most (suc zero) l t es = omega arith
add_most (suc (suc k)) l t es = omega arith

take_most : (a n : ℕ) (l : List ℕ) → a ≤ n → take a (take n l) ≡ take a l
take_most zero n l h = refl
take_most (suc a) zero l h = absurd (omega arith)
take_most (suc a) (suc n) [] h = refl
take_most (suc a) (suc n) (b ∷ l) h = ap (λ (x : List ℕ). b ∷ x) (take_most a n l (omega arith))

-- ── what an entry writes behind what is written; f and m are the place that was found for it
module _ (d f m : ℕ) (c : Cursor) (text oe ot : List ℕ) (e : Entry) (b : bad_shape_of e.kind e.start e.len ≡ false) (l : e.start + e.len ≤ length text)
    (q : f ≡ start_for e.kind (take ((e.start + e.len) - e.start) (drop e.start text)) (take (c.t - 0) (drop 0 ot)) (entries_of (take (c.e - 0) (drop 0 oe))))
    (r : m ≡ add_for e.kind (take ((e.start + e.len) - e.start) (drop e.start text)) (take (c.t - 0) (drop 0 ot)) (entries_of (take (c.e - 0) (drop 0 oe)))) where
  own : take ((e.start + e.len) - e.start) (drop e.start text) ≡ part_of text e
  own = let h : (e.start + e.len) - e.start ≡ e.len = omega arith in ap (λ (n : ℕ). take n (drop e.start text)) h

  texts : take (c.t - 0) (drop 0 ot) ≡ take c.t ot
  texts = let h : c.t - 0 ≡ c.t = omega arith in ap (λ (n : ℕ). take n ot) h

  entries : take (c.e - 0) (drop 0 oe) ≡ take c.e oe
  entries = let h : c.e - 0 ≡ c.e = omega arith in ap (λ (n : ℕ). take n oe) h

  start_is : f ≡ start_for e.kind (part_of text e) (take c.t ot) (entries_of (take c.e oe))
  start_is = q ∙ (λ i. start_for e.kind (own i) (texts i) (entries_of (entries i)))

  add_is : m ≡ add_for e.kind (part_of text e) (take c.t ot) (entries_of (take c.e oe))
  add_is = r ∙ (λ i. add_for e.kind (own i) (texts i) (entries_of (entries i)))

  part_long : length (part_of text e) ≡ e.len
  part_long = simp (length-take, length-drop) (omega arith)

  pub add_short : m ≤ e.len
  add_short = omega (arith, add_is, part_long, add_most e.kind (part_of text e) (take c.t ot) (entries_of (take c.e oe)))

  pub entry-written : (d ∷ e.kind ∷ f ∷ e.len ∷ []) ≡ numbers_for d oe ot c (item_at text e)
  unfolding item_at numbers_for
  entry-written =
      ap (λ (g : ℕ). d ∷ e.kind ∷ g ∷ e.len ∷ []) start_is
      ∙ sym (entry_numbers_lem e.kind e.start e.len d text (take c.t ot) (entries_of (take c.e oe)) b l)

  pub text_written : part e.start (e.start + m) text ≡ text_for d oe ot c (item_at text e)
  unfolding item_at text_for
  text_written =
      let h : (e.start + m) - e.start ≡ m = omega arith in
      ap (λ (n : ℕ). take n (drop e.start text)) h ∙ sym (take_most m e.len (drop e.start text) add_short) ∙ ap (λ (n : ℕ). take n (part_of text e)) add_is
      ∙ sym (entry_text e.kind d (part_of text e) (take c.t ot) (entries_of (take c.e oe)))

  pub add-length : m ≡ length (text_for d oe ot c (item_at text e))
  add-length =
      let h : (e.start + m) - e.start ≡ m = omega arith in
      omega (arith, ap length (sym text_written), length_part e.start (e.start + m) text (omega (arith, add_short)), h)

-- ── items put at the ends
pub same_out : (a b : Out) → a.data_bytes ≡ b.data_bytes → a.entry_numbers ≡ b.entry_numbers → a.text ≡ b.text → a.d ≡ b.d → a.e ≡ b.e → a.t ≡ b.t → a ≡ b
same_out a b p q r s t u = λ i. record { data_bytes = p i; entry_numbers = q i; text = r i; d = s i; e = t i; t = u i }

pub data_size : (a b : List Item) → length (data_of (a ++ b)) ≡ length (data_of a) + length (data_of b)
data_size a b = ap length (data_append a b) ∙ length-append (data_of a) (data_of b)

-- what some items leave, for those that come behind
take_over_at : (at : ℕ) (a old : List ℕ) → at ≤ length old → take (at + length a) (over_at at a old) ≡ take at old ++ a
unfolding over_at
take_over_at at a old h =
    let l : length (take at old) ≡ at = length-take-le at old h in
    let m : length (take at old ++ a) ≡ at + length a = length-append (take at old) a ∙ ap (λ (n : ℕ). n + length a) l in
    rw (← append_assoc (take at old) a (drop (length a) (drop at old)), take_at (take at old ++ a) (drop (length a) (drop at old)) (at + length a) m)

entries_of-append : (ns : List ℕ) (es : List Entry) → length ns % 4 ≡ 0 → entries_of (ns ++ numbers_of_ranges es) ≡ entries_of ns ++ es
entries_of-append [] es h = entries_numbers es
entries_of-append (p ∷ []) es h = absurd (omega (arith, h))
entries_of-append (p ∷ k ∷ []) es h = absurd (omega (arith, h))
entries_of-append (p ∷ k ∷ s ∷ []) es h = absurd (omega (arith, h))
entries_of-append (p ∷ k ∷ s ∷ n ∷ ns) es h = ap (λ (l : List Entry). entry p k s n ∷ l) (entries_of-append ns es (omega (arith, h)))

module _ (a : List Item) (o : Out) (f : Fits a o) where
  pub text_left : text_in (add a o) ≡ text_in o ++ text_at o a
  unfolding add
  text_left = take_over_at o.t (text_at o a) o.text (omega (arith, f.text))

  pub entries_left : entries_in (add a o) ≡ entries_in o ++ entries_from o.d (text_in o) (entries_in o) a
  unfolding add
  entries_left =
      let h : length (take o.e o.entry_numbers) ≡ o.e = length-take-le o.e o.entry_numbers (omega (arith, f.entry_numbers)) in
      ap entries_of (take_over_at o.e (numbers_at o a) o.entry_numbers (omega (arith, f.entry_numbers)))
      ∙ entries_of-append (take o.e o.entry_numbers) (entries_from o.d (text_in o) (entries_in o) a) (omega (arith, h, f.fours))

  pub text_both : (b : List Item) → text_at o (a ++ b) ≡ text_at o a ++ text_at (add a o) b
  text_both b =
      text_after b a o.d (text_in o) (entries_in o)
      ∙ (λ i. text_at o a ++ text_from (places i) (sym text_left i) (sym entries_left i) b)
    where
      places : o.d + length (data_of a) ≡ (add a o).d
      places = unfold add in refl

  pub numbers_both : (b : List Item) → numbers_at o (a ++ b) ≡ numbers_at o a ++ numbers_at (add a o) b
  numbers_both b =
      ap numbers_of_ranges (entries-append b a o.d (text_in o) (entries_in o))
      ∙ numbers_append (entries_from o.d (text_in o) (entries_in o) a) (entries_from (o.d + length (data_of a)) (text_in o ++ text_at o a) (entries_in o ++ entries_from o.d (text_in o) (entries_in o) a) b)
      ∙ (λ i. numbers_at o a ++ numbers_of_ranges (entries_from (places i) (sym text_left i) (sym entries_left i) b))
    where
      places : o.d + length (data_of a) ≡ (add a o).d
      places = unfold add in refl

-- four numbers an entry, wherever the items are put
pub numbers_size : (is : List Item) (o : Out) → length (numbers_at o is) ≡ 4 * entry_count is
numbers_size is o = count_numbers is o.d (text_in o) (entries_in o)

-- the text of some items begins with that of the first of them
pub text_first : (a b : List Item) (o : Out) → length (text_at o a) ≤ length (text_at o (a ++ b))
text_first a b o =
    let r : List ℕ = text_from (o.d + length (data_of a)) (text_in o ++ text_at o a) (entries_in o ++ entries_from o.d (text_in o) (entries_in o) a) b in
    omega (arith, ap length (text_after b a o.d (text_in o) (entries_in o)), length-append (text_at o a) r)

pub fits_left : (a b : List Item) (o : Out) → Fits (a ++ b) o → Fits a o
fits_left a b o f =
    record {
      data_bytes = omega (arith, f.data_bytes, data_size a b);
      entry_numbers = omega (arith, f.entry_numbers, count-append a b, numbers_size a o, numbers_size (a ++ b) o);
      text = omega (arith, f.text, text_first a b o);
      data_limit_lem = omega (arith, f.data_limit_lem, data_size a b);
      text_limit_lem = omega (arith, f.text_limit_lem, text_first a b o);
      fours = f.fours;
      parts = f.parts;
      placed = f.placed;
    }

added : (a : List Item) (o : Out) → ((add a o).d ≡ o.d + length (data_of a)) × ((add a o).e ≡ o.e + length (numbers_at o a)) × ((add a o).t ≡ o.t + length (text_at o a))
unfolding add
added a o = (refl, refl, refl)

length_over : (at : ℕ) (a old : List ℕ) → at + length a ≤ length old → length (over_at at a old) ≡ length old
unfolding over_at over
length_over at a old h = simp (length-append, length-take, length-drop) (omega arith)

-- the buffers stay as long as they were
pub record Long (a b : Out) : Type 0 where
  pub data_bytes : length a.data_bytes ≡ length b.data_bytes
  pub entry_numbers : length a.entry_numbers ≡ length b.entry_numbers
  pub text : length a.text ≡ length b.text

pub add_long : (is : List Item) (o : Out) → Fits is o → Long (add is o) o
unfolding add
add_long is o f =
    record {
      data_bytes = length_over o.d (data_of is) o.data_bytes f.data_bytes;
      entry_numbers = length_over o.e (numbers_at o is) o.entry_numbers f.entry_numbers;
      text = length_over o.t (text_at o is) o.text f.text;
    }

pub fits_right : (a b : List Item) (o : Out) → Fits (a ++ b) o → Fits b (add a o)
fits_right a b o f =
    let g = fits_left a b o f in
    let l = add_long a o g in
    let s = added a o in
    let t : length (text_at o (a ++ b)) ≡ length (text_at o a) + length (text_at (add a o) b) = ap length (text_both a o g b) ∙ length-append (text_at o a) (text_at (add a o) b) in
    record {
      data_bytes = omega (arith, f.data_bytes, data_size a b, l.data_bytes, s.0);
      entry_numbers = omega (arith, f.entry_numbers, count-append a b, l.entry_numbers, numbers_size a o, numbers_size (a ++ b) o, numbers_size b (add a o), s.1);
      text = omega (arith, f.text, t, l.text, s.2);
      data_limit_lem = omega (arith, f.data_limit_lem, data_size a b, s.0);
      text_limit_lem = omega (arith, f.text_limit_lem, t, s.2);
      fours = omega (arith, f.fours, numbers_size a o, s.1);
      parts = rw (text_left a o g, entries_left a o g) (inside_after a o.d (text_in o) (entries_in o) f.parts);
      placed = rw (entries_left a o g) (placed_after a o.d (text_in o) (entries_in o) f.parts f.placed);
    }

pub add-append : (a b : List Item) (o : Out) → Fits a o → add b (add a o) ≡ add (a ++ b) o
add-append a b o f =
    let n = numbers_both a o f b in
    let t = text_both a o f b in
    let x = numbers_at (add a o) b in
    let y = text_at (add a o) b in
    unfold add in
    same_out (add b (add a o)) (add (a ++ b) o)
    (over_twice o.d (data_of a) (data_of b) o.data_bytes (omega (arith, f.data_bytes)) ∙ ap (λ (x : List ℕ). over_at o.d x o.data_bytes) (sym (data_append a b)))
    (over_twice o.e (numbers_at o a) x o.entry_numbers (omega (arith, f.entry_numbers)) ∙ ap (λ (x : List ℕ). over_at o.e x o.entry_numbers) (sym n))
    (over_twice o.t (text_at o a) y o.text (omega (arith, f.text)) ∙ ap (λ (x : List ℕ). over_at o.t x o.text) (sym t))
    (omega (arith, data_size a b))
    (omega (arith, ap length n, length-append (numbers_at o a) x))
    (omega (arith, ap length t, length-append (text_at o a) y))

-- ── the place of an entry's text, by its kind
module _ (l t : List ℕ) (es : List Entry) where
  pub place_label_lem : (kind f m : ℕ) → kind ≡ 0 → f ≡ start_in l t (length t) es → m ≡ length (new_text l t es) → (f ≡ start_for kind l t es) × (m ≡ add_for kind l t es)
  unfolding start_for add_for
  place_label_lem kind f m z p q = rw z (p, q)

  pub place-pop : (kind : ℕ) → kind ≡ 1 → (0 ≡ start_for kind l t es) × (0 ≡ add_for kind l t es)
  unfolding start_for add_for
  place-pop kind z = rw z (refl, refl)

  pub place-raw : (kind : ℕ) → (kind ≡ 0 → ⊥) → (kind ≡ 1 → ⊥) → (length t ≡ start_for kind l t es) × (length l ≡ add_for kind l t es)
  unfolding start_for add_for
  place-raw zero a b = absurd (a refl)
  place-raw (suc zero) a b = absurd (b refl)
  place-raw (suc (suc k)) a b = (refl, refl)

-- the entries that a search is lent
pub lent_placed : (k : ℕ) (oe : List ℕ) → placed_from 0 [] (entries_of (take k oe)) ≡ true → placed_from 0 [] (entries_of (take (k - 0) (drop 0 oe))) ≡ true
lent_placed k oe h = let z : k - 0 ≡ k = omega arith in ap (λ (n : ℕ). placed_from 0 [] (entries_of (take n oe))) z ∙ h
