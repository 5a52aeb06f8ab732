-- For the sizes: one entry's raw sequence and label, the sums entry by entry, and that the sums are those of the recordings' items (`size_of_items`).
use mathlib.Core.Path.{◌≡◌, refl, sym, ap, ◌∙◌}
use mathlib.Core.Bool.{Bool, true, false, cond, ◌&&◌, ◌||◌, false≢true}
use mathlib.Core.Logic.{inl, inr}
use mathlib.Core.List.{List, [], ◌∷◌, ◌++◌, append-nil}
use Prim.Native.Nat.{ℕ, zero, suc, ◌+◌, ◌-◌, ◌*◌, ◌%◌, ◌≤◌}
use native.Mathlib.Nat.{zero-mul}
use native.Mathlib.Omega.{arith}
use lib.Dec.{eqb, eqb-suc-zero}
use lib.ListN.{length, take, drop, length-take, length-drop}
use borrow.Author.Tests.{eq-eqb, ne_eqb}
use Rattle.recording.specs.declared.Entry.{Entry}
use Rattle.recording.specs.Lists.{same}
use Rattle.recording.specs.Recording.{Bytes, recording, entry, entries_of, part_of, Item, byte, push, pop, raw, byte_items, item_of, items_from, items, is_push_of, pushed_in, new_text, encode, text_of}
use Rattle.recording.specs.Refusals.{bad_shape_of, entry_fault, entries_fault, recording_fault}
use Rattle.recording.specs.Share.{Inside, sum_of, raw_len_of, times, member, label_len, shared_size}
use Rattle.recording.proofs.FaultLaws.{first_of-zero, no_entry_fault, no_fault}
use Rattle.recording.proofs.CheckLaws.{entries_quarter}
use Rattle.recording.proofs.ShareLaws.{or_comm, or_assoc, same_long, pushed-snoc, shared_size_lem, text_shorter, labels_same, encode-length}
use Rattle.share.specs.Sizes.{raw_in, raws_in, label_in, labels_in, size_less, text_size_of, own_size_of, less_size_of, Counts, Stands}

-- ── one entry
raw_most : (e : Entry) → raw_in e ≤ e.len
raw_most e = go (eqb e.kind 2)
  where
    go : (b : Bool) → cond b e.len 0 ≤ e.len
    go true = omega arith
    go false = omega arith

pub new_most : (b : Bool) (l : Bytes) → length (cond b [] l) ≤ length l
new_most true l = omega arith
new_most false l = omega arith

module _ (u : Bytes) (those : List Entry) (t : Bytes) (before : List Entry) (e : Entry) where
  pub no_label : (e.kind ≡ 0 → ⊥) → 0 ≡ label_in u those t before e
  unfolding label_in
  no_label h = rw (ne_eqb e.kind 0 h)

  module _ (k : e.kind ≡ 0) (l : Bytes) (own : l ≡ part_of t e) where
    label_is : label_in u those t before e ≡ cond (pushed_in l u those) 0 (length (new_text l t before))
    unfolding label_in
    label_is = rw (eq-eqb e.kind 0 k, own)

    pub none_new : length (new_text l u those) ≡ 0 → 0 ≡ label_in u those t before e
    none_new h = sym (label_is ∙ go (pushed_in l u those) refl)
      where
        go : (b : Bool) → pushed_in l u those ≡ b → cond b 0 (length (new_text l t before)) ≡ 0
        go true q = refl
        go false q = omega (arith, new_most (pushed_in l t before) l, ap (λ (b : Bool). length (cond b [] l)) (sym q) ∙ h)

    pub some_new : (length (new_text l u those) ≡ 0 → ⊥) → length (new_text l t before) ≡ label_in u those t before e
    some_new h = sym (label_is ∙ go (pushed_in l u those) refl)
      where
        go : (b : Bool) → pushed_in l u those ≡ b → cond b 0 (length (new_text l t before)) ≡ length (new_text l t before)
        go true q = absurd (h (ap (λ (b : Bool). length (cond b [] l)) q))
        go false q = refl

    pub label_most : length (new_text l t before) ≤ length l
    label_most = new_most (pushed_in l t before) l

-- ── entry by entry
pub inside_next : (t : Bytes) (e : Entry) (es : List Entry) → Inside t (e ∷ es) → (e.start + e.len ≤ length t) × Inside t es
unfolding Inside
inside_next t e es h = h

-- `size` has the raw sequences of the entries that were read, and `rest` are left
pub record Raws (t : Bytes) (all rest : List Entry) (size : ℕ) : Type 0 where
  pub sizes : size + raws_in rest ≡ raws_in all
  pub small : size + 65536 * length rest ≤ 65536 * length all
  pub inside : Inside t rest

pub raws_next : (t : Bytes) (all rest : List Entry) (size : ℕ) → Raws t all rest size → (e : Entry) (es : List Entry) → rest ≡ e ∷ es → length t ≤ 65536 → Raws t all es (size + raw_in e)
raws_next t all rest size r e es q h =
    let i = inside_next t e es (rw q at r.inside) in
    record { sizes = omega (arith, r.sizes, ap raws_in q); small = omega (arith, r.small, ap length q, raw_most e, i.0); inside = i.1 }

-- of at most 4,096 entries
pub raws_small : (t : Bytes) (ns : List ℕ) (rest : List Entry) (size : ℕ) → Raws t (entries_of ns) rest size → length ns ≤ 16384 → size ≤ 268435456
raws_small t ns rest size r h = omega (arith, r.small, entries_quarter ns)

pub raws_last : (t : Bytes) (all rest : List Entry) (size : ℕ) → Raws t all rest size → rest ≡ [] → size ≡ raws_in all
raws_last t all rest size r q = omega (arith, r.sizes, ap raws_in q)

-- entries side by side
pub entries_of-append : (ns ms : List ℕ) → length ns % 4 ≡ 0 → entries_of (ns ++ ms) ≡ entries_of ns ++ entries_of ms
entries_of-append [] ms h = refl
entries_of-append (p ∷ []) ms h = absurd (omega (arith, h))
entries_of-append (p ∷ k ∷ []) ms h = absurd (omega (arith, h))
entries_of-append (p ∷ k ∷ s ∷ []) ms h = absurd (omega (arith, h))
entries_of-append (p ∷ k ∷ s ∷ n ∷ ns) ms h = ap (λ (l : List Entry). entry p k s n ∷ l) (entries_of-append ns ms (omega (arith, h)))

-- ── the sums are those of the items
raw_item : (k s n : ℕ) (t : Bytes) → bad_shape_of k s n ≡ false → s + n ≤ length t → raw_len_of (item_of k (take n (drop s t))) ≡ cond (eqb k 2) n 0
unfolding bad_shape_of
raw_item zero s n t b h = refl
raw_item (suc zero) s n t b h = refl
raw_item (suc (suc zero)) s n t b h = simp (length-take, length-drop) (omega arith)
raw_item (suc (suc (suc k))) s n t b h = absurd (false≢true (sym b))

sum-bytes : (m : Item → ℕ) → ((b : ℕ) → m (byte b) ≡ 0) → (d : Bytes) (is : List Item) → sum_of m (byte_items d ++ is) ≡ sum_of m is
sum-bytes m z [] is = refl
sum-bytes m z (b ∷ d) is = omega (arith, z b, sum-bytes m z d is)

raws-items : (es : List Entry) (at from : ℕ) (d x t : Bytes) → entries_fault at d t es ≡ 0 → sum_of raw_len_of (items_from from t x es) ≡ raws_in es
raws-items [] at from d x t h = ap (sum_of raw_len_of) (sym (append-nil (byte_items x))) ∙ sum-bytes raw_len_of (λ b. refl) x []
raws-items (e ∷ es) at from d x t h =
    let a = first_of-zero (entry_fault at d t e) (entries_fault e.position d t es ∷ []) h in
    let g = first_of-zero (entries_fault e.position d t es) [] a.1 in
    let f = no_entry_fault at d t e a.0 in
    let p : ℕ = e.position in
    let r : List Item = items_from p t (drop (p - from) x) es in
    omega (arith, sum-bytes raw_len_of (λ b. refl) (take (p - from) x) (item_of e.kind (part_of t e) ∷ r), raw_item e.kind e.start e.len t f.shape f.part, raws-items es p p d (drop (p - from) x) t g.0)

labels_bytes : (d : Bytes) (is : List Item) (seen : List Bytes) → label_len seen (byte_items d ++ is) ≡ label_len seen is
labels_bytes [] is seen = refl
labels_bytes (b ∷ d) is seen = labels_bytes d is seen

-- `seen` are the labels of `those` and of the entries before
abbrev Knows : List Bytes → Bytes → List Entry → Bytes → List Entry → Type 0
Knows seen u those t before = (l : Bytes) → (pushed_in l u those || pushed_in l t before) ≡ member l seen

abbrev seen_after : List Bytes → List Item → List Bytes
seen_after seen [] = seen
seen_after seen (byte b ∷ is) = seen_after seen is
seen_after seen (push l ∷ is) = seen_after (l ∷ seen) is
seen_after seen (pop ∷ is) = seen_after seen is
seen_after seen (raw t ∷ is) = seen_after seen is

seen_bytes : (d : Bytes) (is : List Item) (seen : List Bytes) → seen_after seen (byte_items d ++ is) ≡ seen_after seen is
seen_bytes [] is seen = refl
seen_bytes (b ∷ d) is seen = seen_bytes d is seen

labels_append : (a b : List Item) (seen : List Bytes) → label_len seen (a ++ b) ≡ label_len seen a + label_len (seen_after seen a) b
labels_append [] b seen = omega arith
labels_append (byte x ∷ a) b seen = labels_append a b seen
labels_append (push l ∷ a) b seen = omega (arith, labels_append a b (l ∷ seen))
labels_append (pop ∷ a) b seen = labels_append a b seen
labels_append (raw t ∷ a) b seen = labels_append a b seen

-- one entry more
module _ (u : Bytes) (those : List Entry) (t : Bytes) (before : List Entry) (seen : List Bytes) (kn : Knows seen u those t before) (e : Entry) where
  one_more : (l : Bytes) → (pushed_in l u those || pushed_in l t (before ++ (e ∷ []))) ≡ (member l seen || is_push_of l t e)
  one_more l =
      ap (λ (b : Bool). pushed_in l u those || b) (pushed-snoc l t before e)
      ∙ sym (or_assoc (pushed_in l u those) (pushed_in l t before) (is_push_of l t e)) ∙ ap (λ (b : Bool). b || is_push_of l t e) (kn l)

  knows_label : e.kind ≡ 0 → length (part_of t e) ≡ e.len → Knows (part_of t e ∷ seen) u those t (before ++ (e ∷ []))
  knows_label k n l =
      one_more l
      ∙ (λ i. member l seen || (eq-eqb e.kind 0 k i && (eqb (sym n i) (length l) && same (part_of t e) l)))
      ∙ ap (λ (b : Bool). member l seen || b) (same_long (part_of t e) l) ∙ or_comm (member l seen) (same (part_of t e) l)

  knows_other : (e.kind ≡ 0 → ⊥) → Knows seen u those t (before ++ (e ∷ []))
  knows_other k l =
      one_more l ∙ (λ i. member l seen || (ne_eqb e.kind 0 k i && (eqb e.len (length l) && same (part_of t e) l))) ∙ or_comm (member l seen) false

  counted : e.kind ≡ 0 → cond (member (part_of t e) seen) 0 (length (part_of t e)) ≡ label_in u those t before e
  unfolding label_in
  counted k = rw (eq-eqb e.kind 0 k, ← kn (part_of t e)) (go (pushed_in (part_of t e) u those) (pushed_in (part_of t e) t before))
    where
      go : (a b : Bool) → cond (a || b) 0 (length (part_of t e)) ≡ cond a 0 (length (cond b [] (part_of t e)))
      go true b = refl
      go false true = refl
      go false false = refl

-- what one entry brings, as an item
pub record Brings (u : Bytes) (those : List Entry) (t : Bytes) (before : List Entry) (seen : List Bytes) (e : Entry) (x : Item) : Type 0 where
  pub seen' : List Bytes
  pub knows : Knows seen' u those t (before ++ (e ∷ []))
  pub length' : (r : List Item) → label_len seen (x ∷ r) ≡ label_in u those t before e + label_len seen' r
  pub after : (r : List Item) → seen_after seen (x ∷ r) ≡ seen_after seen' r

brings : (u : Bytes) (those : List Entry) (t : Bytes) (before : List Entry) (seen : List Bytes) → Knows seen u those t before → (e : Entry) → e.start + e.len ≤ length t
    → Brings u those t before seen e (item_of e.kind (part_of t e))
brings u those t before seen kn e h = go e.kind refl
  where
    long : length (part_of t e) ≡ e.len
    long = simp (length-take, length-drop) (omega arith)

    go : (k : ℕ) → e.kind ≡ k → Brings u those t before seen e (item_of k (part_of t e))
    go zero q =
        record {
          seen' = part_of t e ∷ seen;
          knows = knows_label u those t before seen kn e q long;
          length' = λ r. ap (λ (n : ℕ). n + label_len (part_of t e ∷ seen) r) (counted u those t before seen kn e q);
          after = λ r. refl;
        }
    go (suc zero) q =
        record {
          seen' = seen;
          knows = knows_other u those t before seen kn e (λ z. omega (arith, q, z));
          length' = λ r. omega (arith, no_label u those t before e (λ z. omega (arith, q, z)));
          after = λ r. refl;
        }
    go (suc (suc k)) q =
        record {
          seen' = seen;
          knows = knows_other u those t before seen kn e (λ z. omega (arith, q, z));
          length' = λ r. omega (arith, no_label u those t before e (λ z. omega (arith, q, z)));
          after = λ r. refl;
        }

-- all entries
pub record BringsAll (u : Bytes) (those : List Entry) (t : Bytes) (before : List Entry) (seen : List Bytes) (es : List Entry) (is : List Item) : Type 0 where
  pub knows : Knows (seen_after seen is) u those t (before ++ es)
  pub long : label_len seen is ≡ labels_in u those t before es

labels_items : (es : List Entry) (at from : ℕ) (d x t u : Bytes) (those before : List Entry) (seen : List Bytes) → entries_fault at d t es ≡ 0 → Knows seen u those t before
    → BringsAll u those t before seen es (items_from from t x es)
labels_items [] at from d x t u those before seen h kn =
    record {
      knows = λ l. ap (λ (y : List Entry). pushed_in l u those || pushed_in l t y) (append-nil before) ∙ kn l ∙ ap (member l) (sym (ap (seen_after seen) (sym (append-nil (byte_items x))) ∙ seen_bytes x [] seen));
      long = ap (label_len seen) (sym (append-nil (byte_items x))) ∙ labels_bytes x [] seen;
    }
labels_items (e ∷ es) at from d x t u those before seen h kn =
    let a = first_of-zero (entry_fault at d t e) (entries_fault e.position d t es ∷ []) h in
    let g = first_of-zero (entries_fault e.position d t es) [] a.1 in
    let f = no_entry_fault at d t e a.0 in
    let p : ℕ = e.position in
    let r : List Item = items_from p t (drop (p - from) x) es in
    let y : Item = item_of e.kind (part_of t e) in
    let b = brings u those t before seen kn e f.part in
    let ih = labels_items es p p d (drop (p - from) x) t u those (before ++ (e ∷ [])) b.seen' g.0 b.knows in
    record {
      knows = λ l. ap (λ (z : List Entry). pushed_in l u those || pushed_in l t z) (sym (mathlib.Core.List.append_assoc before (e ∷ []) es)) ∙ ih.knows l ∙ ap (member l) (sym (seen_bytes (take (p - from) x) (y ∷ r) seen ∙ b.after r));
      long = omega (arith, labels_bytes (take (p - from) x) (y ∷ r) seen, b.length' r, ih.long);
    }

pub size_of_items : (ds ns ts fs gs us : List ℕ) (n : ℕ) → recording_fault (recording ds ns ts) ≡ 0 → recording_fault (recording fs gs us) ≡ 0
    → text_size_of ts (entries_of ns) us (entries_of gs) n ≡ shared_size (items (recording ds ns ts)) n (items (recording fs gs us))
unfolding text_size_of shared_size items pushed_in
size_of_items ds ns ts fs gs us n p q = go n
  where
    a : List Item
    a = items_from 0 ts ds (entries_of ns)

    b : List Item
    b = items_from 0 us fs (entries_of gs)

    f : entries_fault 0 ds ts (entries_of ns) ≡ 0
    f = (no_fault (recording ds ns ts) p).entries

    g : entries_fault 0 fs us (entries_of gs) ≡ 0
    g = (no_fault (recording fs gs us) q).entries

    first : BringsAll [] [] ts [] [] (entries_of ns) a
    first = labels_items (entries_of ns) 0 0 ds ds ts [] [] [] [] f (λ l. refl)

    then : BringsAll ts (entries_of ns) us [] (seen_after [] a) (entries_of gs) b
    then = labels_items (entries_of gs) 0 0 fs fs us ts (entries_of ns) [] (seen_after [] a) g (λ l. or_comm (pushed_in l ts (entries_of ns)) false ∙ first.knows l)

    go : (n : ℕ) → (raws_in (entries_of ns) + n * raws_in (entries_of gs)) + (labels_in [] [] ts [] (entries_of ns) + cond (eqb n 0) 0 (labels_in ts (entries_of ns) us [] (entries_of gs)))
        ≡ (sum_of raw_len_of a + n * sum_of raw_len_of b) + label_len [] (a ++ cond (eqb n 0) [] b)
    go zero =
        let r : 0 * raws_in (entries_of gs) ≡ 0 * sum_of raw_len_of b = ap (λ (m : ℕ). 0 * m) (sym (raws-items (entries_of gs) 0 0 fs fs us g)) in
        omega (arith, raws-items (entries_of ns) 0 0 ds ds ts f, r, first.long, ap (label_len []) (append-nil a))
    go (suc n) =
        let r : suc n * raws_in (entries_of gs) ≡ suc n * sum_of raw_len_of b = ap (λ (m : ℕ). suc n * m) (sym (raws-items (entries_of gs) 0 0 fs fs us g)) in
        rw (eqb-suc-zero n) (omega (arith, raws-items (entries_of ns) 0 0 ds ds ts f, r, first.long, then.long, labels_append a b []))

-- the size of a recording alone
pub own_sum : (t : Bytes) (es : List Entry) → text_size_of t es [] [] 0 ≡ raws_in es + labels_in [] [] t [] es
unfolding text_size_of
own_sum t es = omega arith

-- a recording without anything has no fault
no_fault_none : recording_fault (recording [] [] []) ≡ 0
unfolding recording_fault
no_fault_none = refl

-- a result that has the entries of a content alone
pub own_of_items : (ds ns ts : List ℕ) (is : List Item) → recording_fault (recording ds ns ts) ≡ 0 → sum_of raw_len_of is ≡ sum_of raw_len_of (items (recording ds ns ts))
    → ((l : Bytes) → times l is ≡ times l (items (recording ds ns ts))) → text_size_of ts (entries_of ns) [] [] 0 ≡ length (encode is).text
own_of_items ds ns ts is h r t =
    let none : List Item = items (recording [] [] []) in
    size_of_items ds ns ts [] [] [] 0 h no_fault_none
    ∙ sym (shared_size_lem is (items (recording ds ns ts)) none 0 (omega (arith, r, zero-mul (sum_of raw_len_of none))) (λ l. omega (arith, t l, zero-mul (times l none))))

-- and so of all of a content, written anew
pub own_whole : (ds ns ts : List ℕ) → recording_fault (recording ds ns ts) ≡ 0 → own_size_of ts (entries_of ns) ≡ length (encode (items (recording ds ns ts))).text
own_whole ds ns ts h = own_of_items ds ns ts (items (recording ds ns ts)) h refl (λ l. refl)

pub own_less : (ds ns ts : List ℕ) → recording_fault (recording ds ns ts) ≡ 0 → own_size_of ts (entries_of ns) ≤ length (text_of (items (recording ds ns ts)))
own_less ds ns ts h =
    omega (arith, own_whole ds ns ts h, text_shorter (items (recording ds ns ts)))

-- a second recording of which nothing is written
pub size_none : (t u : Bytes) (es fs : List Entry) → own_size_of t es ≡ text_size_of t es u fs 0
unfolding text_size_of
size_none t u es fs = omega (arith, zero-mul (raws_in fs), zero-mul (raws_in []))

-- a result that has all labels of a content, and raw sequences of `gone` bytes less
pub less_of_items : (ds ns ts : List ℕ) (is : List Item) (gone : ℕ) → recording_fault (recording ds ns ts) ≡ 0 → sum_of raw_len_of is + gone ≡ sum_of raw_len_of (items (recording ds ns ts))
    → ((l : Bytes) → times l is ≡ times l (items (recording ds ns ts))) → less_size_of ts (entries_of ns) gone ≡ length (encode is).text
unfolding size_less
less_of_items ds ns ts is gone h r t =
    let all : List Item = items (recording ds ns ts) in
    let f = (no_fault (recording ds ns ts) h).entries in
    let a = own_whole ds ns ts h in
    let b = labels_same is all (λ l p. omega (arith, p, t l)) (λ l p. omega (arith, p, t l)) in
    let c : sum_of raw_len_of all ≡ raws_in (entries_of ns) = unfold items in raws-items (entries_of ns) 0 0 ds ds ts f in
    omega (arith, a, b, c, r, own_sum ts (entries_of ns), encode-length is, encode-length all, zero-mul (raws_in []))

-- the raw sequences that go are some of the recording's
pub gone_few : (ds ns ts : List ℕ) (is : List Item) (gone : ℕ) → recording_fault (recording ds ns ts) ≡ 0 → sum_of raw_len_of is + gone ≡ sum_of raw_len_of (items (recording ds ns ts))
    → gone ≤ raws_in (entries_of ns)
unfolding items
gone_few ds ns ts is gone h r = omega (arith, r, raws-items (entries_of ns) 0 0 ds ds ts (no_fault (recording ds ns ts) h).entries)

-- nothing goes
pub less_none : (t u : Bytes) (es fs : List Entry) (n : ℕ) → size_less 0 t es u fs n ≡ text_size_of t es u fs n
unfolding size_less text_size_of
less_none t u es fs n = let z : raws_in es - 0 ≡ raws_in es = omega arith in rw z

-- ── a size that settles as the exact one
pub exact : (room t r : ℕ) → Counts t r → Stands room t r
unfolding Stands
exact room t r c = inl c

pub roomy : (room t r : ℕ) → t ≤ r → r ≤ 65536 → r ≤ room → Stands room t r
unfolding Stands
roomy room t r a b c = inr (a, b, c)
