-- One run of the walk further: what is written of the data up to its end, and how far it is then decided what becomes of the bytes.
-- Runs of whole characters that stay (`kept_run`) or are replaced (`starred-run`); up to a place inside a character that stays (`kept_char`) or is replaced (`gone_char`); and on inside such a
-- character (`inside-run`).
-- The idea: what becomes of the bytes from a character's start on is what becomes of this character's, and behind it of those from the next one's start on (`fates-append`).
use Prim.Native.Nat.{ℕ, zero, suc, ◌+◌, ◌-◌, ◌≤◌, ◌<◌}
use native.Mathlib.Omega.{arith}
use mathlib.Core.Bool.{Bool, true, false, cond, ◌||◌, or_assoc}
use mathlib.Core.Path.{◌≡◌, refl, sym, ap, ◌∙◌}
use mathlib.Core.List.{List, [], ◌∷◌, ◌++◌, append_assoc, append-nil, flatten, reverse}
use lib.ListN.{length, take, drop, replicate, replicate-append-replicate, length-append, length-replicate, length-take, length-drop}
use lib.Seq.{take-append_seam, drop-append_seam, length-take-le, take-add, drop-drop}
use Rattle.buffer.specs.Place.{part}
use Rattle.buffer.proofs.HeldLaws.{flatten-append}
use Rattle.chars.specs.Chars.{Character, chars, char_in, bytes_of, wide, width_of}
use Rattle.chars.proofs.CharsLaws.{Valid, bytes-chars, valid-chars, char_next, char_some, char_inside}
use Rattle.chars.specs.Chars.{Seam}
use Rattle.recording.specs.Lists.{AllOf}
use Rattle.recording.specs.Recording.{Bytes, Item, byte_items}
use Rattle.recording.specs.Coloured.{Coloured, coloured_from}
use Rattle.recording.proofs.Lists.{all_left, all_right, or_left, or_right}
use Rattle.char_runs.specs.Runs.{Plain}
use Rattle.view.proofs.AbsentLaws.{among_reverse}
use Rattle.view.specs.Theorem.{opens}
use Rattle.view.specs.View.{among, any_under_of, hides, hidden_from, stars}
use Rattle.floor_runs.specs.Fates.{singles, gone, fates_of, fates_from, Fated}
use Rattle.floor_runs.proofs.PlacedLaws.{length-singles, flatten-singles, singles-append, flatten_none, length_gone}

-- ── lists
-- two lists in two parts each, the first parts of one length
parts_equal : {A : Type 0} (u v g h : List A) → u ++ v ≡ g ++ h → length u ≡ length g → (u ≡ g) × (v ≡ h)
parts_equal u v g h e n = (
  sym (take-append_seam u v) ∙ ap (take (length u)) e ∙ ap (λ (k : ℕ). take k (g ++ h)) n ∙ take-append_seam g h,
  sym (drop-append_seam u v) ∙ ap (drop (length u)) e ∙ ap (λ (k : ℕ). drop k (g ++ h)) n ∙ drop-append_seam g h,
)

-- what stands from `at` on begins with g
begins_with_lem : {A : Type 0} (fs g r : List A) (at n : ℕ) → drop at fs ≡ g ++ r → length g ≡ n → (take n (drop at fs) ≡ g) × (drop (at + n) fs ≡ r)
begins_with_lem fs g r at n e m = (
  ap (take n) e ∙ ap (λ (k : ℕ). take k (g ++ r)) (sym m) ∙ take-append_seam g r,
  sym (drop-drop n at fs) ∙ ap (drop n) e ∙ ap (λ (k : ℕ). drop k (g ++ r)) (sym m) ∙ drop-append_seam g r,
)

-- ── what stands under a label
any_append : (l : Bytes) (x y : List Coloured) → any_under_of l (x ++ y) ≡ (any_under_of l x || any_under_of l y)
any_append l [] y = refl
any_append l (c ∷ x) y = ap (λ (t : Bool). among l c.labels || t) (any_append l x y) ∙ sym (or_assoc (among l c.labels) (any_under_of l x) (any_under_of l y))

-- the coloured bytes of some bytes where the labels s are open
pub same_labels : (s : List Bytes) (p : Bytes) (is : List Item) (n : ℕ) → n ≤ length p → take n (coloured_from s (byte_items p ++ is)) ≡ coloured_from s (byte_items (take n p))
same_labels s p is zero h = refl
same_labels s [] is (suc n) h = absurd (omega (arith, h))
same_labels s (b ∷ p) is (suc n) h = ap (λ (r : List Coloured). record { val = b; labels = reverse s } ∷ r) (same_labels s p is n (omega (arith, h)))

-- and of the items behind them
pub colours_behind : (s : List Bytes) (p : Bytes) (is : List Item) (n : ℕ) → n ≡ length p → drop n (coloured_from s (byte_items p ++ is)) ≡ coloured_from s is
colours_behind s [] is zero h = refl
colours_behind s [] is (suc n) h = absurd (omega (arith, h))
colours_behind s (b ∷ p) is zero h = absurd (omega (arith, h))
colours_behind s (b ∷ p) is (suc n) h = colours_behind s p is n (omega (arith, h))

-- outside the label, and under it
pub opens_none : (l : Bytes) (p : Bytes) → opens l (byte_items p) ≡ false
opens_none l [] = refl
opens_none l (b ∷ p) = opens_none l p

abbrev pub IsUnder : Bytes → Coloured → Type 0
IsUnder l c = among l c.labels ≡ true

pub all_under : (l : Bytes) (s : List Bytes) (p : Bytes) → among l s ≡ true → AllOf (IsUnder l) (coloured_from s (byte_items p))
all_under l s [] h = tt
all_under l s (b ∷ p) h = (among_reverse l s ∙ h, all_under l s p h)

-- ── characters in two parts
module _ (l : Bytes) where
  fates-append : (cs ds : List Character) (ys : List Coloured) → fates_from l (cs ++ ds) ys ≡ fates_from l cs ys ++ fates_from l ds (drop (length (bytes_of cs)) ys)
  fates-append [] ds ys = refl
  fates-append (c ∷ cs) ds ys =
      let n : ℕ = length c.text in
      let e : drop (length (bytes_of cs)) (drop n ys) ≡ drop (length (c.text ++ bytes_of cs)) ys =
      drop-drop (length (bytes_of cs)) n ys ∙ ap (λ (k : ℕ). drop k ys) (sym (length-append c.text (bytes_of cs))) in
      go (hides l c (take n ys)) (fates-append cs ds (drop n ys) ∙ ap (λ (zs : List Coloured). fates_from l cs (drop n ys) ++ fates_from l ds zs) e)
    where
      go : (t : Bool) → fates_from l (cs ++ ds) (drop (length c.text) ys) ≡ fates_from l cs (drop (length c.text) ys) ++ fates_from l ds (drop (length (c.text ++ bytes_of cs)) ys)
          → fates_of (t ∷ hidden_from l (cs ++ ds) (drop (length c.text) ys)) (c ∷ (cs ++ ds))
          ≡ fates_of (t ∷ hidden_from l cs (drop (length c.text) ys)) (c ∷ cs) ++ fates_from l ds (drop (length (c.text ++ bytes_of cs)) ys)
      go true ih =
          ap (λ (r : List Bytes). gone c ++ r) ih
          ∙ sym (append_assoc (gone c) (fates_from l cs (drop (length c.text) ys)) (fates_from l ds (drop (length (c.text ++ bytes_of cs)) ys)))
      go false ih =
          ap (λ (r : List Bytes). singles c.text ++ r) ih
          ∙ sym (append_assoc (singles c.text) (fates_from l cs (drop (length c.text) ys)) (fates_from l ds (drop (length (c.text ++ bytes_of cs)) ys)))

  -- no byte of theirs is under the label: they stay
  kept_chars : (cs : List Character) (ys : List Coloured) → any_under_of l (take (length (bytes_of cs)) ys) ≡ false → fates_from l cs ys ≡ singles (bytes_of cs)
  kept_chars [] ys h = refl
  kept_chars (c ∷ cs) ys h =
      let n : ℕ = length c.text in
      let e : take (length (c.text ++ bytes_of cs)) ys ≡ take n ys ++ take (length (bytes_of cs)) (drop n ys) =
      ap (λ (k : ℕ). take k ys) (length-append c.text (bytes_of cs)) ∙ take-add n (length (bytes_of cs)) ys in
      let f : (any_under_of l (take n ys) || any_under_of l (take (length (bytes_of cs)) (drop n ys))) ≡ false =
      sym (any_append l (take n ys) (take (length (bytes_of cs)) (drop n ys))) ∙ ap (any_under_of l) (sym e) ∙ h in
      let ih = kept_chars cs (drop n ys) (or_right (any_under_of l (take n ys)) (any_under_of l (take (length (bytes_of cs)) (drop n ys))) f) in
      rw (or_left (any_under_of l (take n ys)) (any_under_of l (take (length (bytes_of cs)) (drop n ys))) f)
      (ap (λ (r : List Bytes). singles c.text ++ r) ih ∙ sym (singles-append c.text (bytes_of cs)))

  -- all of their bytes are under the label, and none of them is a 0A: they are replaced
  abbrev gone_all : List Character → List Bytes
  gone_all [] = []
  gone_all (c ∷ cs) = gone c ++ gone_all cs

  some_under : (n : ℕ) (ys : List Coloured) → 1 ≤ n → n ≤ length ys → AllOf (IsUnder l) (take n ys) → any_under_of l (take n ys) ≡ true
  some_under zero ys h g a = absurd (omega (arith, h))
  some_under (suc n) [] h g a = absurd (omega (arith, g))
  some_under (suc n) (y ∷ ys) h g a = rw a.0

  starred-chars : (cs : List Character) (ys : List Coloured) → Valid cs → length (bytes_of cs) ≤ length ys → AllOf (IsUnder l) (take (length (bytes_of cs)) ys) → AllOf Plain cs
      → fates_from l cs ys ≡ gone_all cs
  starred-chars [] ys v b u p = refl
  starred-chars (c ∷ cs) ys v b u p =
      let n : ℕ = length c.text in
      let m : ℕ = length (bytes_of cs) in
      let s : length (c.text ++ bytes_of cs) ≡ n + m = length-append c.text (bytes_of cs) in
      let e : take (length (c.text ++ bytes_of cs)) ys ≡ take n ys ++ take m (drop n ys) = ap (λ (k : ℕ). take k ys) s ∙ take-add n m ys in
      let a : AllOf (IsUnder l) (take n ys ++ take m (drop n ys)) = rw e at u in
      let some : 1 ≤ n = omega (arith, ap length v.0.text) in
      let t = some_under n ys some (omega (arith, s, b)) (all_left (IsUnder l) (take n ys) (take m (drop n ys)) a) in
      let ih = starred-chars cs (drop n ys) v.1 (omega (arith, s, b, length-drop n ys)) (all_right (IsUnder l) (take n ys) (take m (drop n ys)) a) p.1 in
      rw (t, p.0) (ap (λ (r : List Bytes). gone c ++ r) ih)

  length-gone_all : (cs : List Character) → Valid cs → length (gone_all cs) ≡ length (bytes_of cs)
  length-gone_all [] v = refl
  length-gone_all (c ∷ cs) v =
      omega (arith, length-append (gone c) (gone_all cs), length-append c.text (bytes_of cs), length_gone c (omega (arith, ap length v.0.text)), length-gone_all cs v.1)

  flatten-gone_all : (cs : List Character) → flatten (gone_all cs) ≡ replicate (width_of cs) 0x2A
  unfolding flatten
  flatten-gone_all [] = refl
  flatten-gone_all (c ∷ cs) =
      flatten-append (gone c) (gone_all cs)
      ∙ rw (flatten_none (length c.text - 1), append-nil (stars c), flatten-gone_all cs) (replicate-append-replicate {A = ℕ} (wide c) (width_of cs) 0x2A)

-- ── a place of the walk
module _ (l d : Bytes) (xs : List Coloured) (fs : List Bytes) where
  -- nothing is decided beyond it
  pub fated_at : (p : ℕ) (k : Bool) → p ≤ length d → drop p fs ≡ fates_from l (chars (drop p d)) (drop p xs) → Fated l d xs fs p p k
  fated_at p k h e = record { order = omega arith; within = h; decided = go k; ahead = e }
    where
      go : (k : Bool) → take (p - p) (drop p fs) ≡ cond k (singles (part p p d)) (replicate (p - p) [])
      go true = let z : p - p ≡ 0 = omega arith in rw z
      go false = let z : p - p ≡ 0 = omega arith in rw z

  -- ── whole characters
  module _ (at n : ℕ) (k : Bool) (F : Fated l d xs fs at at k) (h : at + n ≤ length d) (seam : Seam (drop at d) n) where
    abbrev cs : List Character
    cs = chars (take n (drop at d))

    bytes_are : bytes_of cs ≡ take n (drop at d)
    bytes_are = bytes-chars (take n (drop at d))

    as_long : length (bytes_of cs) ≡ n
    as_long = ap length bytes_are ∙ length-take-le n (drop at d) (omega (arith, length-drop at d))

    split : drop at fs ≡ fates_from l cs (drop at xs) ++ fates_from l (chars (drop (at + n) d)) (drop (at + n) xs)
    split =
        F.ahead ∙ ap (λ (x : List Character). fates_from l x (drop at xs)) seam ∙ fates-append l cs (chars (drop n (drop at d))) (drop at xs)
        ∙ ap (λ (m : ℕ). fates_from l cs (drop at xs) ++ fates_from l (chars (drop n (drop at d))) (drop m (drop at xs))) as_long
        ∙ (λ i. fates_from l cs (drop at xs) ++ fates_from l (chars (drop-drop n at d i)) (drop-drop n at xs i))

    -- none of their bytes is under the label
    pub kept_run : any_under_of l (take n (drop at xs)) ≡ false → Fated l d xs fs (at + n) (at + n) true × (flatten (take n (drop at fs)) ≡ take n (drop at d))
    kept_run u =
        let g : fates_from l cs (drop at xs) ≡ singles (take n (drop at d)) =
        kept_chars l cs (drop at xs) (ap (λ (m : ℕ). any_under_of l (take m (drop at xs))) as_long ∙ u) ∙ ap singles bytes_are in
        let b = begins_with_lem fs (fates_from l cs (drop at xs)) (fates_from l (chars (drop (at + n) d)) (drop (at + n) xs)) at n split
        (ap length g ∙ length-singles (take n (drop at d)) ∙ length-take-le n (drop at d) (omega (arith, length-drop at d))) in
        (fated_at (at + n) true h b.1, ap flatten (b.0 ∙ g) ∙ flatten-singles (take n (drop at d)))

    -- all of their bytes are, and none of them is a 0A
    pub starred-run : n ≤ length (drop at xs) → AllOf (IsUnder l) (take n (drop at xs)) → AllOf Plain cs
        → Fated l d xs fs (at + n) (at + n) false × (flatten (take n (drop at fs)) ≡ replicate (width_of cs) 0x2A)
    starred-run m u p =
        let v = valid-chars (take n (drop at d)) in
        let g : fates_from l cs (drop at xs) ≡ gone_all l cs =
        starred-chars l cs (drop at xs) v (omega (arith, as_long, m)) (rw as_long u) p in
        let b = begins_with_lem fs (fates_from l cs (drop at xs)) (fates_from l (chars (drop (at + n) d)) (drop (at + n) xs)) at n split (ap length g ∙ length-gone_all l cs v ∙ as_long) in
        (fated_at (at + n) false h b.1, ap flatten (b.0 ∙ g) ∙ flatten-gone_all l cs)

  -- ── on inside what is decided, up to `to`
  module _ (at to until : ℕ) (k : Bool) (F : Fated l d xs fs at until k) (h : at ≤ to) (g : to ≤ until) where
    abbrev a : ℕ
    a = to - at

    abbrev b : ℕ
    b = until - to

    sum : until - at ≡ a + b
    sum = omega (arith, h, g)

    here : at + a ≡ to
    here = omega (arith, h)

    -- in two parts, the first up to `to`
    in_two : (k : Bool) → cond k (singles (part at until d)) (replicate (until - at) [])
        ≡ cond k (singles (part at to d)) (replicate a []) ++ cond k (singles (part to until d)) (replicate b [])
    in_two true =
        ap (λ (m : ℕ). singles (take m (drop at d))) sum ∙ ap singles (take-add a b (drop at d)) ∙ singles-append (take a (drop at d)) (take b (drop a (drop at d)))
        ∙ ap (λ (x : Bytes). singles (take a (drop at d)) ++ singles (take b x)) (drop-drop a at d ∙ ap (λ (m : ℕ). drop m d) here)
    in_two false = ap (λ (m : ℕ). replicate {A = Bytes} m []) sum ∙ sym (replicate-append-replicate {A = Bytes} a b [])

    first_long : (k : Bool) → length (cond k (singles (part at to d)) (replicate a [])) ≡ a
    first_long true = length-singles (part at to d) ∙ length-take-le a (drop at d) (omega (arith, length-drop at d, F.within, h, g))
    first_long false = length-replicate {A = Bytes} a []

    second_long : (k : Bool) → length (cond k (singles (part to until d)) (replicate b [])) ≡ b
    second_long true = length-singles (part to until d) ∙ length-take-le b (drop to d) (omega (arith, length-drop to d, F.within, g))
    second_long false = length-replicate {A = Bytes} b []

    both : take (a + b) (drop at fs) ≡ cond k (singles (part at to d)) (replicate a []) ++ cond k (singles (part to until d)) (replicate b [])
    both = ap (λ (m : ℕ). take m (drop at fs)) (sym sum) ∙ F.decided ∙ in_two k

    written : (k : Bool) → flatten (cond k (singles (part at to d)) (replicate a [])) ≡ cond k (part at to d) []
    written true = flatten-singles (part at to d)
    written false = flatten_none a

    pub inside-run : Fated l d xs fs to until k × (flatten (take a (drop at fs)) ≡ cond k (part at to d) [])
    inside-run =
        let u : length (take (a + b) (drop at fs)) ≡ a + b = ap length both ∙ length-append (cond k (singles (part at to d)) (replicate a [])) (cond k (singles (part to until d)) (replicate b []))
        ∙ omega (arith, first_long k, second_long k) in
        let v : length (take a (drop at fs)) ≡ a = omega (arith, u, length-take (a + b) (drop at fs), length-take a (drop at fs)) in
        let p = parts_equal (take a (drop at fs)) (take b (drop a (drop at fs))) (cond k (singles (part at to d)) (replicate a [])) (cond k (singles (part to until d)) (replicate b []))
        (sym (take-add a b (drop at fs)) ∙ both) (v ∙ sym (first_long k)) in (
          record {
            order = g;
            within = F.within;
            decided = ap (λ (x : List Bytes). take b x) (ap (λ (m : ℕ). drop m fs) (sym here) ∙ sym (drop-drop a at fs)) ∙ p.1;
            ahead = F.ahead;
          },
          ap flatten p.0 ∙ written k,
        )

  -- ── the character at `at`, up to a place inside it or to its end
  module _ (at : ℕ) (k : Bool) (F : Fated l d xs fs at at k) (more : at < length d) where
    abbrev c : Character
    c = char_in at d

    abbrev n : ℕ
    n = length c.text

    one_char : (t : Bool) → hides l c (take n (drop at xs)) ≡ t → drop at fs ≡ fates_of (t ∷ []) (c ∷ []) ++ fates_from l (chars (drop (at + n) d)) (drop (at + n) xs)
    one_char t e =
        F.ahead ∙ ap (λ (x : List Character). fates_from l x (drop at xs)) (char_next d at more) ∙ fates-append l (c ∷ []) (chars (drop (at + n) d)) (drop at xs)
        ∙ ap (λ (b : Bool). fates_of (b ∷ []) (c ∷ []) ++ fates_from l (chars (drop (at + n) d)) (drop (length (c.text ++ [])) (drop at xs))) e
        ∙ ap (λ (x : List Coloured). fates_of (t ∷ []) (c ∷ []) ++ fates_from l (chars (drop (at + n) d)) x)
        (ap (λ (x : Bytes). drop (length x) (drop at xs)) (append-nil c.text) ∙ drop-drop n at xs)

    text_is : take n (drop at d) ≡ c.text
    text_is =
        ap (take n) (sym (bytes-chars (drop at d)) ∙ ap bytes_of (char_next d at more)) ∙ take-append_seam c.text (bytes_of (chars (drop (at + n) d)))

    -- it stays
    pub kept_char : hides l c (take n (drop at xs)) ≡ false → Fated l d xs fs at (at + n) true
    kept_char e =
        let b = begins_with_lem fs (singles c.text ++ []) (fates_from l (chars (drop (at + n) d)) (drop (at + n) xs)) at n (one_char false e)
        (ap length (append-nil (singles c.text)) ∙ length-singles c.text) in
        let z : (at + n) - at ≡ n = omega arith in
        record {
          order = omega arith;
          within = char_inside d at more;
          decided = rw z (b.0 ∙ append-nil (singles c.text) ∙ ap singles (sym text_is));
          ahead = b.1;
        }

    -- it is replaced: up to `to` the stars are written, and beyond it nothing comes
    module _ (to : ℕ) (h : at < to) (g : to ≤ at + n) (e : hides l c (take n (drop at xs)) ≡ true) where
      abbrev m : ℕ
      m = (to - at) - 1

      abbrev rest : ℕ
      rest = (at + n) - to

      some : 1 ≤ n
      some = char_some d at more

      gone_two : gone c ++ [] ≡ (stars c ∷ replicate m []) ++ replicate rest []
      gone_two =
          let z : n - 1 ≡ m + rest = omega (arith, h, g, some) in
          append-nil (gone c) ∙ ap (λ (j : ℕ). stars c ∷ replicate {A = Bytes} j []) z ∙ ap (λ (x : List Bytes). stars c ∷ x) (sym (replicate-append-replicate {A = Bytes} m rest []))

      pub gone_char : Fated l d xs fs to (at + n) false × (flatten (take (to - at) (drop at fs)) ≡ stars c)
      unfolding flatten
      gone_char =
          let R = fates_from l (chars (drop (at + n) d)) (drop (at + n) xs) in
          let q = one_char true e ∙ ap (λ (x : List Bytes). x ++ R) gone_two in
          let x = begins_with_lem fs ((stars c ∷ replicate m []) ++ replicate rest []) R at n q
          (sym (ap length gone_two) ∙ ap length (append-nil (gone c)) ∙ length_gone c some) in
          let y = begins_with_lem fs (stars c ∷ replicate m []) (replicate rest [] ++ R) at (to - at) (q ∙ append_assoc (stars c ∷ replicate m []) (replicate rest []) R)
          (omega (arith, length-replicate {A = Bytes} m [], h)) in
          let i : at + (to - at) ≡ to = omega (arith, h) in (
            record {
              order = g;
              within = char_inside d at more;
              decided =
                  ap (λ (j : ℕ). take rest (drop j fs)) (sym i) ∙ ap (take rest) y.1 ∙ ap (λ (j : ℕ). take j (replicate rest [] ++ R)) (sym (length-replicate {A = Bytes} rest []))
                  ∙ take-append_seam (replicate rest []) R;
              ahead = x.1;
            },
            ap flatten y.0 ∙ rw (flatten_none m) (append-nil (stars c)),
          )
