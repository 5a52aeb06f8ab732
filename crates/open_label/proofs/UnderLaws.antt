-- Whether one of the next bytes is under the label, read entry by entry: bytes before the next entry are all under it or none is, by what is open (`under_first`, `under_passed`, `under_all`).
-- The idea of the loop: what answers for the bytes that are left answers for all (`Reading`), where no byte passed was under the label.
use Prim.Native.Nat.{ℕ, zero, suc, ◌+◌, ◌-◌, ◌≤◌, ◌<◌}
use native.Mathlib.Omega.{arith}
use mathlib.Core.Bool.{Bool, true, false, not, ◌&&◌}
use mathlib.Core.Path.{◌≡◌, refl, sym, ap, ◌∙◌}
use mathlib.Core.List.{List, [], ◌∷◌, ◌++◌}
use lib.Dec.{eqb, ltb}
use lib.Seq.{drop-drop}
use lib.ListN.{length, take, drop, length-take, length-drop}
use borrow.Author.Tests.{lt-ltb, ltb-true}
use Rattle.buffer.specs.Place.{part}
use Rattle.buffer.proofs.Laws.{length_part}
use Rattle.recording.specs.declared.Entry.{Entry}
use Rattle.recording.specs.Recording.{Bytes, Item, byte, push, pop, raw, byte_items, items_from}
use Rattle.recording.specs.Coloured.{Coloured, coloured_from, open_after}
use Rattle.recording.specs.Refusals.{bad_shape_of}
use Rattle.recording.proofs.Lists.{and_left, and_right}
use Rattle.recording.proofs.SizeLaws.{IsEntry}
use Rattle.writer.specs.Write.{Valid, place_for, item_at}
use Rattle.writer.proofs.Carry.{placed, valid-parts, is_entry, bytes_first}
use Rattle.view.specs.View.{among, any_under_of}
use Rattle.view.proofs.AbsentLaws.{among_reverse}
use Rattle.open_label.specs.declared.Open.{Open}
use Rattle.open_label.specs.Open.{Opened, Under}
use Rattle.open_label.proofs.OpenLaws.{told_open}

-- ── bytes with no entry between them
module _ (l : Bytes) where
  pub under_first : (d : Bytes) (n : ℕ) (s : List Bytes) (is : List Item) → 0 < length d → 0 < n → among l s ≡ true → any_under_of l (take n (coloured_from s (byte_items d ++ is))) ≡ true
  under_first [] n s is h g a = absurd (omega arith)
  under_first (b ∷ d) zero s is h g a = absurd (omega arith)
  under_first (b ∷ d) (suc n) s is h g a = rw (among_reverse l s, a)

  pub under_passed : (d : Bytes) (n : ℕ) (s : List Bytes) (is : List Item) → (0 < length d → among l s ≡ false)
      → any_under_of l (take (length d + n) (coloured_from s (byte_items d ++ is))) ≡ any_under_of l (take n (coloured_from s is))
  under_passed [] n s is h = let e : 0 + n ≡ n = omega arith in rw e
  under_passed (b ∷ d) n s is h =
      let a : among l s ≡ false = h (omega arith) in
      let e : suc (length d) + n ≡ suc (length d + n) = omega arith in
      rw (e, among_reverse l s, a) (under_passed d n s is (λ _. a))

  pub under_all : (d : Bytes) (s : List Bytes) (is : List Item) → 0 < length d → any_under_of l (take (length d) (coloured_from s (byte_items d ++ is))) ≡ among l s
  under_all d s is h = go (among l s) refl
    where
      go : (t : Bool) → among l s ≡ t → any_under_of l (take (length d) (coloured_from s (byte_items d ++ is))) ≡ among l s
      go true a = under_first d (length d) s is h h a ∙ sym a
      go false a =
          let z : length d ≡ length d + 0 = omega arith in
          ap (λ (n : ℕ). any_under_of l (take n (coloured_from s (byte_items d ++ is)))) z ∙ under_passed d 0 s is (λ _. a) ∙ sym a

-- an entry is no byte
coloured-entry : (s : List Bytes) (x : Item) (is : List Item) → IsEntry x → coloured_from s (x ∷ is) ≡ coloured_from (open_after s (x ∷ [])) is
coloured-entry s (byte b) is h = absurd h
coloured-entry s (push k) is h = refl
coloured-entry s pop is h = refl
coloured-entry s (raw t) is h = refl

-- ── the state of the loop
-- what is left of a content at the offset `at`, with these entries
abbrev pub left_at : List ℕ → List ℕ → ℕ → List Entry → List Item
left_at ds ts at es = items_from at ts (drop at ds) es

-- the loop began at `at₀` with the entries `all` and what is open in `from`; `es` are left
pub record Reading (l ds ts : List ℕ) (end at₀ : ℕ) (all : List Entry) (from : Open) (at : ℕ) (es : List Entry) (o : Open) : Type 0 where
  pub valid : Valid at (length ds) (length ts) es
  pub here : at < end
  pub depth : o.depth + length es ≤ from.depth + length all
  pub rest : (r : Bool) → Under l o (end - at) (left_at ds ts at es) r → Under l from (end - at₀) (left_at ds ts at₀ all) r

pub reading_first : (l ds ts : List ℕ) (end at : ℕ) (all es : List Entry) (from : Open) → Valid at (length ds) (length ts) all → at < end → es ≡ all → Reading l ds ts end at all from at es from
reading_first l ds ts end at all es from v h q = rw q record { valid = v; here = h; depth = omega arith; rest = λ r u. u }

module _ (l ds ts : List ℕ) (end at₀ : ℕ) (all : List Entry) (from : Open) (at : ℕ) (es : List Entry) (o : Open) (s : Reading l ds ts end at₀ all from at es o) (long : end ≤ length ds) where
  -- bytes up to m places on come first, if no entry stands before that
  bytes_next : (m : ℕ) → at + m ≤ place_for es → left_at ds ts at es ≡ byte_items (take m (drop at ds)) ++ items_from (at + m) ts (drop m (drop at ds)) es
  bytes_next m h = bytes_first m at ts (drop at ds) es h

  length_first : (m : ℕ) → at + m ≤ length ds → length (take m (drop at ds)) ≡ m
  length_first m h = simp (length-take, length-drop) (omega arith)

  -- the next entry is at `end` or beyond: what is open decides
  pub ends : end ≤ place_for es → Under l from (end - at₀) (left_at ds ts at₀ all) (not (eqb o.since 0))
  unfolding Under
  ends g =
      let z : length (take (end - at) (drop at ds)) ≡ end - at = length_first (end - at) (omega (arith, s.here)) in
      s.rest (not (eqb o.since 0)) (λ st h. sym (told_open l o st h)
      ∙ sym (ap (λ (is : List Item). any_under_of l (take (end - at) (coloured_from st is))) (bytes_next (end - at) (omega (arith, s.here, g)))
      ∙ (λ i. any_under_of l (take (sym z i) (coloured_from st (byte_items (take (end - at) (drop at ds)) ++ items_from (at + (end - at)) ts (drop (end - at) (drop at ds)) es))))
      ∙ under_all l (take (end - at) (drop at ds)) st _ (omega (arith, z, s.here))))

  -- there is none
  pub ends_none : length ds ≤ 1048576 → es ≡ [] → Under l from (end - at₀) (left_at ds ts at₀ all) (not (eqb o.since 0))
  unfolding place_for
  ends_none short q = ends (omega (arith, long, ap place_for q, short))

  -- a turn: the next entry
  module _ (e : Entry) (more : List Entry) (q : es ≡ e ∷ more) where
    pub ok : (at ≤ e.position) × (bad_shape_of e.kind e.start e.len ≡ false) × (e.start + e.len ≤ length ts) × Valid e.position (length ds) (length ts) more
    ok = valid-parts at (length ds) (length ts) e more (rw q at s.valid)

    entry_place : place_for es ≡ e.position
    entry_place = ap place_for q ∙ placed e more

    pub ends_before : end ≤ e.position → Under l from (end - at₀) (left_at ds ts at₀ all) (not (eqb o.since 0))
    ends_before g = ends (omega (arith, g, entry_place))

    module _ (before : e.position < end) where
      -- a byte before it is under the label
      pub hit : (ltb at e.position && not (eqb o.since 0)) ≡ true → Under l from (end - at₀) (left_at ds ts at₀ all) true
      unfolding Under
      hit c =
          let p : ℕ = e.position in
          let b : at < p = ltb-true at p (and_left (ltb at p) (not (eqb o.since 0)) c) in
          let z : length (take (p - at) (drop at ds)) ≡ p - at = length_first (p - at) (omega (arith, b, before, long)) in
          s.rest true (λ st h. sym (ap (λ (is : List Item). any_under_of l (take (end - at) (coloured_from st is))) (bytes_next (p - at) (omega (arith, b, entry_place)))
          ∙ under_first l (take (p - at) (drop at ds)) (end - at) st _ (omega (arith, z)) (omega (arith, s.here))
          (told_open l o st h ∙ and_right (ltb at p) (not (eqb o.since 0)) c)))

      -- what is left begins with the bytes up to it
      left_entry : left_at ds ts at es ≡ byte_items (part at e.position ds) ++ (item_at ts e ∷ left_at ds ts e.position more)
      unfolding item_at
      left_entry =
          let h : at + (e.position - at) ≡ e.position = omega (arith, ok.0) in
          ap (λ (x : List Entry). items_from at ts (drop at ds) x) q
          ∙ ap (λ (d : List ℕ). byte_items (part at e.position ds) ++ (item_at ts e ∷ items_from e.position ts d more)) (drop-drop (e.position - at) at ds ∙ ap (λ (n : ℕ). drop n ds) h)

      -- what is left, where the labels of st are open
      turned : (st : List Bytes) → (at < e.position → among l st ≡ false) → any_under_of l (take (end - at) (coloured_from st (left_at ds ts at es)))
          ≡ any_under_of l (take (end - e.position) (coloured_from (open_after st (item_at ts e ∷ [])) (left_at ds ts e.position more)))
      turned st a =
          let b : List ℕ = part at e.position ds in
          let x : Item = item_at ts e in
          let rest : List Item = left_at ds ts e.position more in
          let n : length b ≡ e.position - at = length_part at e.position ds (omega (arith, before, long)) in
          let z : end - at ≡ length b + (end - e.position) = omega (arith, n, ok.0, before) in
          (λ i. any_under_of l (take (z i) (coloured_from st (left_entry i))))
          ∙ under_passed l b (end - e.position) st (x ∷ rest) (λ h. a (omega (arith, n, h)))
          ∙ ap (λ (cs : List Coloured). any_under_of l (take (end - e.position) cs)) (coloured-entry st x rest (is_entry ts e).kind)

      pub step : (ltb at e.position && not (eqb o.since 0)) ≡ false → (o' : Open) → Opened l (item_at ts e) o o' → o'.depth ≤ o.depth + 1
          → Reading l ds ts end at₀ all from e.position more o'
      unfolding Under Opened
      step c o' op d =
          record {
            valid = ok.3;
            here = before;
            depth = omega (arith, s.depth, d, ap length q);
            rest = λ r u. s.rest r (λ st h. u (open_after st (item_at ts e ∷ [])) (op st h)
                ∙ sym (turned st (λ g. told_open l o st h ∙ (rw (lt-ltb at e.position g) at c))));
          }
