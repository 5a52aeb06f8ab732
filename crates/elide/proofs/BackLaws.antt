-- Reading a well-formed text from its end back: the character before a place starts at the last byte there that is not in 80..BF.
-- The idea: table 3-7 has only 80..BF in each column after the first (`more_trails`), and none of it in the first one (`no_row`).
use Prim.Native.Nat.{ℕ, suc, ◌+◌, ◌-◌, ◌*◌, ◌≤◌, ◌<◌}
use native.Mathlib.Omega.{arith}
use mathlib.Core.Bool.{Bool, true, false, cond}
use mathlib.Core.Path.{◌≡◌, refl, sym, ap, ◌∙◌, subst}
use mathlib.Core.List.{List, [], ◌∷◌, ◌++◌, reverse, reverse-cons, reverse-reverse, append_assoc, append-nil}
use lib.Dec.{leb}
use lib.ListN.{length, drop, get_or, length-append}
use lib.Seq.{drop-append_seam, get_or-append-add}
use borrow.Author.Tests.{leb-true, leb-false, le-leb, lt-leb, eqb-true}
use Rattle.chars.specs.Utf8.{table37, row_of, Trails, complete}
use Rattle.chars.specs.Chars.{Character, char_in, chars, bytes_of, wide, width_of, all_ok, well_formed_of}
use Rattle.chars.specs.Cut.{kept_within, truncate_start_pos_of, truncate_start_width}
use Rattle.chars.proofs.ReaderLaws.{below, above}
use Rattle.chars.proofs.TrailLaws.{more_trails, trails_at}
use Rattle.chars.proofs.JoinLaws.{and_both}
use Rattle.chars.proofs.CharsLaws.{Read, Valid, bytes-chars, bytes-append, width_append, width_bound, valid-chars, valid_prefix, valid_suffix, chars_rest, char_next}
use Rattle.chars.proofs.CutLaws.{kept_rest, split_kept, width_reverse}
use Rattle.elide.specs.Back.{StartBefore}

-- ── table 3-7
-- no sequence begins with a byte that trails
no_row : (b : ℕ) → Trails b → row_of b ≡ []
unfolding row_of table37
no_row b h =
    simp (
      above 0x00 0x7F b (omega (arith, h.0)),
      below 0xC2 0xDF b (omega (arith, h.1)),
      below 0xE0 0xE0 b (omega (arith, h.1)),
      below 0xE1 0xEC b (omega (arith, h.1)),
      below 0xED 0xED b (omega (arith, h.1)),
      below 0xEE 0xEF b (omega (arith, h.1)),
      below 0xF0 0xF0 b (omega (arith, h.1)),
      below 0xF1 0xF3 b (omega (arith, h.1)),
      below 0xF4 0xF4 b (omega (arith, h.1)),
    )

lead_stands : (b : ℕ) (more : List ℕ) → complete b more ≡ true → Trails b → ⊥
unfolding complete
lead_stands b more e h = omega (arith, eqb-true (suc (length more)) (length (row_of b)) e, ap length (no_row b h))

-- ── a well-formed character c, with the characters xs before it
module _ (s : List ℕ) (xs : List Character) (c : Character) (ys : List Character) (e : chars s ≡ xs ++ (c ∷ ys)) where
  read : Read c (bytes_of ys)
  read = (valid_suffix xs (c ∷ ys) (rw e at (valid-chars s))).0

  text_is : s ≡ bytes_of xs ++ (c.text ++ bytes_of ys)
  text_is = sym (bytes-chars s) ∙ ap bytes_of e ∙ bytes-append xs (c ∷ ys)

  byte_is : (j : ℕ) → get_or s (length (bytes_of xs) + j) 0 ≡ get_or (read.first ∷ (read.more ++ bytes_of ys)) j 0
  byte_is j =
      ap (λ (l : List ℕ). get_or l (length (bytes_of xs) + j) 0) text_is
      ∙ get_or-append-add (bytes_of xs) (c.text ++ bytes_of ys) j 0
      ∙ ap (λ (l : List ℕ). get_or (l ++ bytes_of ys) j 0) read.text

  lead_byte : c.ok ≡ true → Trails (get_or s (length (bytes_of xs)) 0) → ⊥
  lead_byte ok h =
      let z : length (bytes_of xs) ≡ length (bytes_of xs) + 0 = omega arith in
      lead_stands read.first read.more (sym read.ok ∙ ok) (subst Trails (ap (λ (n : ℕ). get_or s n 0) z ∙ byte_is 0) h)

  trail_bytes : (i : ℕ) → length (bytes_of xs) < i → i < length (bytes_of xs) + length c.text → Trails (get_or s i 0)
  trail_bytes i p q =
      let j : ℕ = i - suc (length (bytes_of xs)) in
      let k : i ≡ length (bytes_of xs) + suc j = omega arith in
      let m : j < length read.more = omega (arith, ap length read.text) in
      subst Trails (sym (ap (λ (n : ℕ). get_or s n 0) k ∙ byte_is (suc j))) (trails_at read.more (bytes_of ys) (more_trails c (bytes_of ys) read) j m)

  -- the place found from its end back is where it starts
  starts : (r : ℕ) → c.ok ≡ true → StartBefore s (length (bytes_of xs) + length c.text) r → r ≡ length (bytes_of xs)
  starts r ok b = go (leb (length (bytes_of xs)) r) refl (leb r (length (bytes_of xs))) refl
    where
      go : (t : Bool) → leb (length (bytes_of xs)) r ≡ t → (u : Bool) → leb r (length (bytes_of xs)) ≡ u → r ≡ length (bytes_of xs)
      go true p true q = omega (arith, leb-true (length (bytes_of xs)) r p, leb-true r (length (bytes_of xs)) q)
      go true p false q =
          let l = leb-false r (length (bytes_of xs)) q in
          absurd (b.stops (omega (arith, l)) (trail_bytes r l b.before))
      go false p u q = absurd (lead_byte ok (b.between (length (bytes_of xs)) (leb-false (length (bytes_of xs)) r p) (omega (arith, ap length read.text))))

  starts_with : char_in (length (bytes_of xs)) s ≡ c
  starts_with =
      let d : chars (drop (length (bytes_of xs)) s) ≡ c ∷ ys =
      ap chars (ap (drop (length (bytes_of xs))) text_is ∙ drop-append_seam (bytes_of xs) (c.text ++ bytes_of ys)) ∙ chars_rest s xs (c ∷ ys) e in
      let n = char_next s (length (bytes_of xs)) (omega (arith, ap length text_is, length-append (bytes_of xs) (c.text ++ bytes_of ys), length-append c.text (bytes_of ys), ap length read.text)) in
      cc (d, n)

-- ── well-formed parts of a well-formed text
ok_in : (xs : List Character) (c : Character) (ys : List Character) → all_ok (xs ++ (c ∷ ys)) ≡ true → c.ok ≡ true
ok_in [] c ys h = (and_both c.ok (all_ok ys) h).0
ok_in (x ∷ xs) c ys h = ok_in xs c ys (and_both x.ok (all_ok (xs ++ (c ∷ ys))) h).1

-- ── the characters before `at`, from the last one back
pub record UpTo (s : List ℕ) (at : ℕ) (back : List Character) : Type 0 where
  pub after : List Character
  pub split : chars s ≡ reverse back ++ after
  pub here : at ≡ length (bytes_of (reverse back))

-- the last of them starts at r, and `rest` are those before it
record Last (s : List ℕ) (at r : ℕ) (back : List Character) : Type 0 where
  last : Character
  rest : List Character
  is : back ≡ last ∷ rest
  up_to : UpTo s r rest
  far : at ≡ r + length last.text
  reads : char_in r s ≡ last

up_to_end : (s : List ℕ) → UpTo s (length s) (reverse (chars s))
up_to_end s =
    let e : reverse (reverse (chars s)) ≡ chars s = reverse-reverse (chars s) in
    record { after = []; split = sym (append-nil (reverse (reverse (chars s))) ∙ e); here = sym (ap (λ (l : List Character). length (bytes_of l)) e ∙ ap length (bytes-chars s)) }

last_before : (s : List ℕ) (at r : ℕ) (back : List Character) → well_formed_of s ≡ true → UpTo s at back → 0 < at → StartBefore s at r → Last s at r back
unfolding well_formed_of
last_before s at r [] ok u some b = absurd (omega (arith, u.here))
last_before s at r (c ∷ back) ok u some b =
    let xs : List Character = reverse back in
    let ys : List Character = u.after in
    let split : chars s ≡ xs ++ (c ∷ ys) = u.split ∙ ap (λ (l : List Character). l ++ ys) (reverse-cons c back) ∙ append_assoc xs (c ∷ []) ys in
    let bytes = ap (λ (l : List Character). length (bytes_of l)) (reverse-cons c back) ∙ ap length (bytes-append xs (c ∷ [])) in
    let far : at ≡ length (bytes_of xs) + length c.text = omega (arith, u.here, bytes, length-append (bytes_of xs) (c.text ++ []), length-append c.text []) in
    let here : r ≡ length (bytes_of xs) = starts s xs c ys split r (ok_in xs c ys (rw split at ok)) (subst (λ (n : ℕ). StartBefore s n r) far b) in
    record {
      last = c;
      rest = back;
      is = refl;
      up_to = record { after = c ∷ ys; split = split; here = here };
      far = omega (arith, far, here);
      reads = ap (λ (n : ℕ). char_in n s) here ∙ starts_with s xs c ys split;
    }

-- it is kept, or it would pass the width w
module _ (s : List ℕ) (at r w m : ℕ) (back : List Character) (l : Last s at r back) (e : w ≡ wide (char_in r s)) where
  kept_last : kept_within m back ≡ cond (leb w m) (l.last ∷ kept_within (m - w) l.rest) []
  kept_last = ap (kept_within m) l.is ∙ rw (e ∙ ap wide l.reads)

  last_kept : w ≤ m
      → (length (bytes_of (kept_within m back)) ≡ (at - r) + length (bytes_of (kept_within (m - w) l.rest))) × (width_of (kept_within m back) ≡ w + width_of (kept_within (m - w) l.rest))
  last_kept h =
      let k : kept_within m back ≡ l.last ∷ kept_within (m - w) l.rest = kept_last ∙ simp (le-leb w m h) in (
        omega (arith, l.far, ap (λ (cs : List Character). length (bytes_of cs)) k, length-append l.last.text (bytes_of (kept_within (m - w) l.rest))),
        omega
            (arith, e, ap wide l.reads, ap width_of k),
      )

  last_passes : m < w → kept_within m back ≡ []
  last_passes h = kept_last ∙ simp (lt-leb w m h)

-- nothing is wide before the first place
none_before : (s : List ℕ) (m : ℕ) (back : List Character) → UpTo s 0 back → width_of (kept_within m back) ≡ 0
none_before s m back u =
    let v : Valid (reverse back) = valid_prefix (reverse back) u.after (rw u.split at (valid-chars s)) in
    omega (arith, u.here, width_bound (reverse back) v, width_reverse back, ap width_of (split_kept m back), width_append (kept_within m back) (kept_rest m back))

-- ── the cut at a text's start, read from its end back: `left` is left of max
pub record SoFar (s : List ℕ) (max at left : ℕ) : Type 0 where
  pub back : List Character
  pub up_to : UpTo s at back
  pub within : at ≤ length s
  pub room : left ≤ max
  pub small : max - left ≤ 2 * (length s - at)
  -- what is still to be kept reaches the cut's place; and the widths
  pub bytes : at - length (bytes_of (kept_within left back)) ≡ truncate_start_pos_of max s
  pub columns : max - left + width_of (kept_within left back) ≡ truncate_start_width max s

pub back_start : (s : List ℕ) (max : ℕ) → SoFar s max (length s) max
unfolding truncate_start_pos_of truncate_start_width
back_start s max = record { back = reverse (chars s); up_to = up_to_end s; within = omega arith; room = omega arith; small = omega arith; bytes = omega arith; columns = omega arith }

module _ (s : List ℕ) (max at left r w : ℕ) (ok : well_formed_of s ≡ true) (f : SoFar s max at left) (some : 0 < at) (b : StartBefore s at r) (e : w ≡ wide (char_in r s)) where
  -- the character before `at` is kept
  pub back_on : w ≤ 2 → w ≤ left → SoFar s max r (left - w)
  back_on two h =
      let l = last_before s at r f.back ok f.up_to some b in
      let n = last_kept s at r w left f.back l e h in
      record {
        back = l.rest;
        up_to = l.up_to;
        within = omega (arith, b.before, f.within);
        room = omega (arith, f.room);
        small = omega (arith, b.before, f.within, f.small, f.room, two, h);
        bytes = omega (arith, n.0, f.bytes, b.before);
        columns = omega (arith, n.1, f.columns, f.room, h);
      }

  -- or it would pass max
  pub back_stops : left < w → (at ≡ truncate_start_pos_of max s) × (max - left ≡ truncate_start_width max s)
  back_stops h =
      let none = last_passes s at r w left f.back (last_before s at r f.back ok f.up_to some b) e h in
      (omega (arith, ap (λ (cs : List Character). length (bytes_of cs)) none, f.bytes), omega (arith, ap width_of none, f.columns))

-- the text's start
pub back_end : (s : List ℕ) (max left : ℕ) → SoFar s max 0 left → (0 ≡ truncate_start_pos_of max s) × (max - left ≡ truncate_start_width max s)
back_end s max left f = (omega (arith, f.bytes), omega (arith, none_before s left f.back f.up_to, f.columns))
