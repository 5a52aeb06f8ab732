-- A lent list that is filled from a place on: what is in it already and what is still to come are together all that goes in (`Filled`). It begins as it was (`fill_start`), some of what is to come is
-- put where it ends (`fill_more`, `fill_stored`) or nothing is (`fill_kept`), and where nothing is to come it holds all (`fill_end`).
use mathlib.Core.Path.{◌≡◌, refl, sym, ap, ◌∙◌}
use mathlib.Core.List.{List, [], ◌∷◌, ◌++◌, append_assoc, append-nil}
use Prim.Native.Nat.{ℕ, ◌+◌, ◌≤◌}
use native.Mathlib.Omega.{arith}
use lib.ListN.{length, set, length-append, length-set}
use Rattle.buffer.specs.Place.{over_at}
use Rattle.buffer.proofs.Laws.{over_none, over_twice, one_store}

-- `all` goes into `old` from `first` on; the list is now `now`, filled up to k, and `rest` is still to come
pub record Filled (all rest old now : List ℕ) (first k : ℕ) : Type 0 where
  pub new : List ℕ
  pub holds : now ≡ over_at first new old
  pub end : k ≡ first + length new
  pub whole : new ++ rest ≡ all
  pub long : length now ≡ length old

pub fill_start : (all rest old : List ℕ) (first : ℕ) → rest ≡ all → Filled all rest old old first first
fill_start all rest old first e = record { new = []; holds = sym (over_none first old); end = omega arith; whole = e; long = refl }

module _ (all rest old now : List ℕ) (first k : ℕ) (S : Filled all rest old now first k) where
  -- what is to come has room, if all has
  pub fill_room : first + length all ≤ length old → k + length rest ≤ length now
  fill_room fits = omega (arith, S.end, S.long, fits, ap length S.whole, length-append S.new rest)

  -- the list stays, and the same is still to come
  pub fill_kept : (rest' now' : List ℕ) (k' : ℕ) → rest ≡ rest' → now' ≡ now → k' ≡ k → Filled all rest' old now' first k'
  fill_kept rest' now' k' e w n =
      record {
        new = S.new;
        holds = w ∙ S.holds;
        end = n ∙ S.end;
        whole = ap (λ (x : List ℕ). S.new ++ x) (sym e) ∙ S.whole;
        long = ap length w ∙ S.long;
      }

  -- some of it is put at k
  pub fill_more : first ≤ length old → (a rest' now' : List ℕ) (k' : ℕ) → rest ≡ a ++ rest' → now' ≡ over_at k a now → length now' ≡ length now → k' ≡ k + length a
      → Filled all rest' old now' first k'
  fill_more h a rest' now' k' e w l n =
      record {
        new = S.new ++ a;
        holds = w ∙ (λ i. over_at (S.end i) a (S.holds i)) ∙ over_twice first S.new a old h;
        end = omega (arith, n, S.end, length-append S.new a);
        whole = append_assoc S.new a rest' ∙ ap (λ (x : List ℕ). S.new ++ x) (sym e) ∙ S.whole;
        long = l ∙ S.long;
      }

  -- one number is stored
  pub fill_stored : first + length all ≤ length old → (m : ℕ) (rest' now' : List ℕ) (k' : ℕ) → rest ≡ m ∷ rest' → now' ≡ set now k m → k' ≡ k + 1 → Filled all rest' old now' first k'
  fill_stored fits m rest' now' k' e w n =
      fill_more (omega (arith, fits)) (m ∷ []) rest' now' k' e (w ∙ one_store now k m (omega (arith, fill_room fits, ap length e))) (ap length w ∙ length-set now k m) n

  -- nothing is left
  pub fill_end : rest ≡ [] → (now ≡ over_at first all old) × (k ≡ first + length all)
  fill_end e =
      let q : S.new ≡ all = sym (append-nil S.new) ∙ ap (λ (x : List ℕ). S.new ++ x) (sym e) ∙ S.whole in
      (S.holds ∙ ap (λ (x : List ℕ). over_at first x old) q, S.end ∙ ap (λ (x : List ℕ). first + length x) q)
