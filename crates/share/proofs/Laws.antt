-- For the search of a label: texts compared from their end, an entry whose part passes the text's end, and the entries in order.
use mathlib.Core.Path.{◌≡◌, refl, sym, ap, ◌∙◌}
use mathlib.Core.Bool.{Bool, true, false}
use mathlib.Core.List.{List, [], ◌∷◌}
use Prim.Native.Nat.{ℕ, zero, suc, ◌+◌, ◌-◌, ◌≤◌, ◌<◌}
use native.Mathlib.Omega.{arith}
use lib.Dec.{eqb}
use lib.ListN.{length, take, drop, get_or, length-take, length-drop}
use lib.Seq.{drop-cons}
use borrow.Author.Tests.{eq-eqb, ne_eqb}
use Rattle.recording.specs.declared.Entry.{Entry}
use Rattle.recording.specs.Lists.{same}
use Rattle.recording.specs.Recording.{Bytes, part_of, is_push_of, pushed_in, start_in, new_text}
use Rattle.recording.proofs.Lists.{same_self, same_equal}

-- ── two texts
pub differ : (x y : Bytes) → (x ≡ y → ⊥) → same x y ≡ false
differ x y h = go (same x y) refl
  where
    go : (b : Bool) → same x y ≡ b → same x y ≡ false
    go true q = absurd (h (same_equal x y q))
    go false q = q

pub alike : (x y : Bytes) → x ≡ y → same x y ≡ true
alike x y e = ap (same x) (sym e) ∙ same_self x

-- from i - 1 on they are equal too
pub tail_more : (x y : Bytes) (i : ℕ) → 0 < i → i ≤ length x → length x ≡ length y → get_or x (i - 1) 0 ≡ get_or y (i - 1) 0 → drop i x ≡ drop i y → drop (i - 1) x ≡ drop (i - 1) y
tail_more x y i p w n g t =
    let e : suc (i - 1) ≡ i = omega arith in
    let h : i - 1 < length x = omega arith in
    let k : i - 1 < length y = omega arith in
    drop-cons x (i - 1) 0 h ∙ (λ j. g j ∷ (ap (λ (n : ℕ). drop n x) e ∙ t ∙ ap (λ (n : ℕ). drop n y) (sym e)) j) ∙ sym (drop-cons y (i - 1) 0 k)

-- ── one entry
module _ (l t : Bytes) (e : Entry) (k : e.kind ≡ 0) (n : e.len ≡ length l) where
  only_text : is_push_of l t e ≡ same (part_of t e) l
  only_text = rw (eq-eqb e.kind 0 k, eq-eqb e.len (length l) n)

  -- a part that passes the text's end has fewer bytes; an empty one has none
  pub sticks_out : length t < e.start + e.len → eqb e.len 0 ≡ is_push_of l t e
  sticks_out h = go e.len refl ∙ sym only_text
    where
      shorter : (m : ℕ) → e.len ≡ suc m → part_of t e ≡ l → ⊥
      shorter m q p = omega (arith, h, n, q, ap length p, length-take e.len (drop e.start t), length-drop e.start t)

      go : (m : ℕ) → e.len ≡ m → eqb e.len 0 ≡ same (part_of t e) l
      go zero q = eq-eqb e.len 0 q ∙ sym (alike (part_of t e) l (ap (λ (m : ℕ). take m (drop e.start t)) q ∙ sym (empty l (sym n ∙ q))))
        where
          empty : (x : Bytes) → length x ≡ 0 → x ≡ []
          empty [] z = refl
          empty (b ∷ x) z = absurd (omega arith)
      go (suc m) q = ne_eqb e.len 0 (λ z. omega (arith, q, z)) ∙ sym (differ (part_of t e) l (shorter m q))

-- ── entry by entry: `rest` are left, and none before is a push of l
pub record Passed (l t : Bytes) (all rest : List Entry) : Type 0 where
  pub start : start_in l t (length t) rest ≡ start_in l t (length t) all
  pub pushed : pushed_in l t rest ≡ pushed_in l t all

pub passed_none : (l t : Bytes) (all : List Entry) → Passed l t all all
passed_none l t all = record { start = refl; pushed = refl }

module _ (l t : Bytes) (all rest : List Entry) (p : Passed l t all rest) where
  module _ (e : Entry) (es : List Entry) (q : rest ≡ e ∷ es) where
    pub found : is_push_of l t e ≡ true → (e.start ≡ start_in l t (length t) all) × (0 ≡ length (new_text l t all))
    unfolding start_in pushed_in
    found h =
        let s : start_in l t (length t) (e ∷ es) ≡ e.start = rw h in
        let u : pushed_in l t (e ∷ es) ≡ true = rw h in
        let v : pushed_in l t all ≡ true = sym p.pushed ∙ ap (pushed_in l t) q ∙ u in
        (sym s ∙ ap (start_in l t (length t)) (sym q) ∙ p.start, rw v)

    pub passed_one : is_push_of l t e ≡ false → Passed l t all es
    unfolding start_in pushed_in
    passed_one h =
        let s : start_in l t (length t) (e ∷ es) ≡ start_in l t (length t) es = rw h in
        let u : pushed_in l t (e ∷ es) ≡ pushed_in l t es = rw h in
        record {
          start = sym s ∙ ap (start_in l t (length t)) (sym q) ∙ p.start;
          pushed = sym u ∙ ap (pushed_in l t) (sym q) ∙ p.pushed;
        }

  pub passed_all : rest ≡ [] → (length t ≡ start_in l t (length t) all) × (length l ≡ length (new_text l t all))
  unfolding start_in pushed_in
  passed_all z =
      let v : pushed_in l t all ≡ false = sym p.pushed ∙ ap (pushed_in l t) z in
      (ap (start_in l t (length t)) (sym z) ∙ p.start, rw v)
