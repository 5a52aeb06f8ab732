-- A search that compares only the parts that are new (`New`), over entries that are placed as a result has them; and a result has them so (`placed_after`).
use mathlib.Core.Path.{◌≡◌, refl, sym, ap, ◌∙◌, subst}
use mathlib.Core.Bool.{Bool, true, false, cond, ◌&&◌, ◌||◌, not, false≢true}
use mathlib.Core.List.{List, [], ◌∷◌, ◌++◌, append_assoc, append-nil}
use Prim.Native.Nat.{ℕ, suc, ◌+◌, ◌≤◌, ◌<◌}
use native.Mathlib.Omega.{arith}
use lib.Dec.{eqb, leb}
use lib.ListN.{length, take, drop, length-append}
use borrow.Author.Tests.{eq-eqb, eqb-true, le-leb, lt-leb}
use Rattle.recording.specs.declared.Entry.{Entry}
use Rattle.recording.specs.Lists.{same}
use Rattle.recording.specs.Recording.{Bytes, entry, part_of, Item, byte, push, pop, raw, is_push_of, pushed_in, start_in, push_at, new_text, entries_from, text_from}
use Rattle.recording.proofs.Lists.{and_left, and_right, or_left, or_right}
use Rattle.recording.proofs.SizeLaws.{append-cons}
use Rattle.recording.proofs.FaultLaws.{inside_next, start_inside}
use Rattle.recording.specs.Share.{Inside}
use Rattle.recording.proofs.ShareLaws.{pushed-snoc}
use Rattle.share.specs.Placed.{same_part, copied, top_of, top_after, placed_one, placed_from}
use Rattle.share.proofs.Laws.{Passed, passed_none, passed_one}

-- ── a part that a push before has was compared there
same_push : (l t : Bytes) (x e : Entry) → same_part x e ≡ true → is_push_of l t e ≡ true → is_push_of l t x ≡ true
same_push l t x e q p =
    let k : eqb x.kind 0 ≡ true = and_left (eqb x.kind 0) (eqb x.start e.start && eqb x.len e.len) q in
    let r = and_right (eqb x.kind 0) (eqb x.start e.start && eqb x.len e.len) q in
    let s : x.start ≡ e.start = eqb-true x.start e.start (and_left (eqb x.start e.start) (eqb x.len e.len) r) in
    let n : x.len ≡ e.len = eqb-true x.len e.len (and_right (eqb x.start e.start) (eqb x.len e.len) r) in
    let m = and_right (eqb e.kind 0) (eqb e.len (length l) && same (part_of t e) l) p in
    (λ i. k i && (eqb (n i) (length l) && same (take (n i) (drop (s i) t)) l)) ∙ m

copied-push : (l t : Bytes) (e : Entry) (xs : List Entry) → copied e xs ≡ true → is_push_of l t e ≡ true → pushed_in l t xs ≡ true
unfolding copied pushed_in
copied-push l t e [] c p = absurd (false≢true c)
copied-push l t e (x ∷ xs) c p = go (same_part x e) refl (λ d. copied-push l t e xs d p)
  where
    go : (b : Bool) → same_part x e ≡ b → (copied e xs ≡ true → pushed_in l t xs ≡ true) → (is_push_of l t x || pushed_in l t xs) ≡ true
    go true q f = ap (λ (z : Bool). z || pushed_in l t xs) (same_push l t x e q p)
    go false q f = ap (λ (z : Bool). is_push_of l t x || z) (f (ap (λ (z : Bool). z || copied e xs) (sym q) ∙ c)) ∙ or_true (is_push_of l t x)
      where
        or_true : (a : Bool) → (a || true) ≡ true
        or_true true = refl
        or_true false = refl

-- an entry below the top is no push of a label that none before has
below : (l t : Bytes) (top : ℕ) (before : List Entry) (e : Entry) → placed_one top before e ≡ true → pushed_in l t before ≡ false → e.start < top → is_push_of l t e ≡ false
unfolding placed_one
below l t top before e p n h = go (is_push_of l t e) refl
  where
    go : (b : Bool) → is_push_of l t e ≡ b → is_push_of l t e ≡ false
    go false q = q
    go true q =
        let k : eqb e.kind 0 ≡ true = and_left (eqb e.kind 0) (eqb e.len (length l) && same (part_of t e) l) q in
        let c : copied e before ≡ true = (λ i. not (sym k i) || (sym (lt-leb top e.start h) i || copied e before)) ∙ p in
        absurd (false≢true (sym n ∙ copied-push l t e before c q))

-- ── entry by entry: `done` were read, none of them a push of l, and `rest` are left
pub record New (l t : Bytes) (all done rest : List Entry) (top : ℕ) : Type 0 where
  pub passed : Passed l t all rest
  pub none : pushed_in l t done ≡ false
  pub placed : placed_from top done rest ≡ true

pub new_first : (l t : Bytes) (all : List Entry) → placed_from 0 [] all ≡ true → New l t all [] all 0
unfolding pushed_in
new_first l t all h = record { passed = passed_none l t all; none = refl; placed = h }

module _ (l t : Bytes) (all done rest : List Entry) (top : ℕ) (s : New l t all done rest top) (e : Entry) (es : List Entry) (q : rest ≡ e ∷ es) where
  parts : (placed_one top done e && placed_from (top_of top e) (done ++ (e ∷ [])) es) ≡ true
  unfolding placed_from
  parts = sym (ap (placed_from top done) q) ∙ s.placed

  here : placed_one top done e ≡ true
  here = and_left (placed_one top done e) (placed_from (top_of top e) (done ++ (e ∷ [])) es) parts

  next : is_push_of l t e ≡ false → New l t all (done ++ (e ∷ [])) es (top_of top e)
  next h =
      record {
        passed = passed_one l t all rest s.passed e es q h;
        none = pushed-snoc l t done e ∙ (λ i. s.none i || h i);
        placed = and_right (placed_one top done e) (placed_from (top_of top e) (done ++ (e ∷ [])) es) parts;
      }

  -- a part that is new was compared
  pub new_next : top ≤ e.start → is_push_of l t e ≡ false → New l t all (done ++ (e ∷ [])) es (e.start + e.len)
  unfolding top_of
  new_next h g = subst (New l t all (done ++ (e ∷ [])) es) (rw (le-leb top e.start h)) (next g)

  -- and another need not be
  pub old_next : e.start < top → New l t all (done ++ (e ∷ [])) es top
  unfolding top_of
  old_next h = subst (New l t all (done ++ (e ∷ [])) es) (rw (lt-leb top e.start h)) (next (below l t top done e here s.none h))

-- ── a result has its entries so
copied_start : (l t : Bytes) (es : List Entry) (at new : ℕ) → pushed_in l t es ≡ true → copied (entry at 0 (start_in l t new es) (length l)) es ≡ true
unfolding pushed_in start_in copied
copied_start l t [] at new h = absurd (false≢true h)
copied_start l t (x ∷ es) at new h = go (is_push_of l t x) refl (λ g. copied_start l t es at new g)
  where
    or_right_true : (a b : Bool) → b ≡ true → (a || b) ≡ true
    or_right_true true b h = refl
    or_right_true false b h = h

    go : (b : Bool) → is_push_of l t x ≡ b → (pushed_in l t es ≡ true → copied (entry at 0 (start_in l t new es) (length l)) es ≡ true)
        → (same_part x (entry at 0 (cond b x.start (start_in l t new es)) (length l)) || copied (entry at 0 (cond b x.start (start_in l t new es)) (length l)) es) ≡ true
    go true q f =
        let k = and_left (eqb x.kind 0) (eqb x.len (length l) && same (part_of t x) l) q in
        let n = and_left (eqb x.len (length l)) (same (part_of t x) l) (and_right (eqb x.kind 0) (eqb x.len (length l) && same (part_of t x) l) q) in
        (λ i. (k i && (eq-eqb x.start x.start refl i && n i)) || copied (entry at 0 x.start (length l)) es)
    go false q f =
        or_right_true (same_part x (entry at 0 (start_in l t new es) (length l))) (copied (entry at 0 (start_in l t new es) (length l)) es) (f (ap (λ (z : Bool). z || pushed_in l t es) (sym q) ∙ h))

start_new : (l t : Bytes) (es : List Entry) (new : ℕ) → pushed_in l t es ≡ false → start_in l t new es ≡ new
unfolding pushed_in start_in
start_new l t [] new h = refl
start_new l t (x ∷ es) new h =
    let a = or_left (is_push_of l t x) (pushed_in l t es) h in
    ap (λ (z : Bool). cond z x.start (start_in l t new es)) a ∙ start_new l t es new (or_right (is_push_of l t x) (pushed_in l t es) h)

push-placed : (l t : Bytes) (es : List Entry) (at top : ℕ) → top ≤ length t → placed_one top es (push_at at t es l) ≡ true
unfolding placed_one
push-placed l t es at top h = go (pushed_in l t es) refl
  where
    or_any : (a b : Bool) → b ≡ true → (a || b) ≡ true
    or_any true b h = refl
    or_any false b h = h

    go : (b : Bool) → pushed_in l t es ≡ b → (leb top (start_in l t (length t) es) || copied (push_at at t es l) es) ≡ true
    go true q = or_any (leb top (start_in l t (length t) es)) (copied (push_at at t es l) es) (copied_start l t es at (length t) q)
    go false q = (λ i. leb top (start_new l t es (length t) q i) || copied (push_at at t es l) es) ∙ ap (λ (z : Bool). z || copied (push_at at t es l) es) (le-leb top (length t) h)

-- ── a result's entries are placed so, however they come (`placed_after`)
placed_snoc : (es before : List Entry) (top : ℕ) (e : Entry) → placed_from top before es ≡ true → placed_one (top_after top es) (before ++ es) e ≡ true → placed_from top before (es ++ (e ∷ [])) ≡ true
unfolding placed_from top_after
placed_snoc [] before top e h g = ap (λ (b : List Entry). placed_one top b e && true) (sym (append-nil before)) ∙ ap (λ (z : Bool). z && true) g
placed_snoc (x ∷ es) before top e h g =
    let a = and_left (placed_one top before x) (placed_from (top_of top x) (before ++ (x ∷ [])) es) h in
    let b = and_right (placed_one top before x) (placed_from (top_of top x) (before ++ (x ∷ [])) es) h in
    let c = placed_snoc es (before ++ (x ∷ [])) (top_of top x) e b (ap (λ (y : List Entry). placed_one (top_after (top_of top x) es) y e) (append-cons before x es) ∙ g) in
    λ i. a i && c i

top_inside : (t : Bytes) (es : List Entry) (top : ℕ) → top ≤ length t → Inside t es → top_after top es ≤ length t
unfolding Inside top_after top_of
top_inside t [] top h i = h
top_inside t (e ∷ es) top h i = top_inside t es (cond (leb top e.start) (e.start + e.len) top) (go (leb top e.start)) i.1
  where
    go : (b : Bool) → cond b (e.start + e.len) top ≤ length t
    go true = i.0
    go false = h

other-placed : (top : ℕ) (before : List Entry) (e : Entry) → eqb e.kind 0 ≡ false → placed_one top before e ≡ true
unfolding placed_one
other-placed top before e h = rw h

pub placed_after : (is : List Item) (at : ℕ) (t : Bytes) (es : List Entry) → Inside t es → placed_from 0 [] es ≡ true → placed_from 0 [] (es ++ entries_from at t es is) ≡ true
placed_after [] at t es i h = ap (placed_from 0 []) (append-nil es) ∙ h
placed_after (byte b ∷ is) at t es i h = placed_after is (suc at) t es i h
placed_after (push l ∷ is) at t es i h =
    let e : Entry = push_at at t es l in
    let n : Bytes = new_text l t es in
    let p = placed_snoc es [] 0 e h (push-placed l t es at (top_after 0 es) (top_inside t es 0 (omega arith) i)) in
    ap (placed_from 0 []) (sym (append-cons es e (entries_from at (t ++ n) (es ++ (e ∷ [])) is)))
    ∙ placed_after is at (t ++ n) (es ++ (e ∷ [])) (inside_next t n es e i (start_inside l t es i)) p
placed_after (pop ∷ is) at t es i h =
    let e : Entry = entry at 1 0 0 in
    let g : Inside t (es ++ (e ∷ [])) = rw (append-nil t) at (inside_next t [] es e i (omega arith)) in
    ap (placed_from 0 []) (sym (append-cons es e (entries_from at t (es ++ (e ∷ [])) is)))
    ∙ placed_after is at t (es ++ (e ∷ [])) g (placed_snoc es [] 0 e h (other-placed (top_after 0 es) es e refl))
placed_after (raw x ∷ is) at t es i h =
    let e : Entry = entry at 2 (length t) (length x) in
    ap (placed_from 0 []) (sym (append-cons es e (entries_from at (t ++ x) (es ++ (e ∷ [])) is)))
    ∙ placed_after is at (t ++ x) (es ++ (e ∷ [])) (inside_next t x es e i (omega (arith, length-append t x))) (placed_snoc es [] 0 e h (other-placed (top_after 0 es) es e refl))

-- ── both are kept by what is written behind
pub inside_after : (is : List Item) (at : ℕ) (t : Bytes) (es : List Entry) → Inside t es → Inside (t ++ text_from at t es is) (es ++ entries_from at t es is)
inside_after [] at t es i = rw (append-nil t, append-nil es) i
inside_after (byte b ∷ is) at t es i = inside_after is (suc at) t es i
inside_after (push l ∷ is) at t es i =
    let e : Entry = push_at at t es l in
    let n : Bytes = new_text l t es in
    rw (← append-cons es e (entries_from at (t ++ n) (es ++ (e ∷ [])) is), ← append_assoc t n (text_from at (t ++ n) (es ++ (e ∷ [])) is))
    (inside_after is at (t ++ n) (es ++ (e ∷ [])) (inside_next t n es e i (start_inside l t es i)))
inside_after (pop ∷ is) at t es i =
    let e : Entry = entry at 1 0 0 in
    let g : Inside t (es ++ (e ∷ [])) = rw (append-nil t) at (inside_next t [] es e i (omega arith)) in
    rw (← append-cons es e (entries_from at t (es ++ (e ∷ [])) is)) (inside_after is at t (es ++ (e ∷ [])) g)
inside_after (raw x ∷ is) at t es i =
    let e : Entry = entry at 2 (length t) (length x) in
    rw (← append-cons es e (entries_from at (t ++ x) (es ++ (e ∷ [])) is), ← append_assoc t x (text_from at (t ++ x) (es ++ (e ∷ [])) is))
    (inside_after is at (t ++ x) (es ++ (e ∷ [])) (inside_next t x es e i (omega (arith, length-append t x))))

pub places_none : placed_from 0 [] [] ≡ true
unfolding placed_from
places_none = refl
