-- Grouping: a derivation that follows `groups_from`, and what it gives.
use Prim.Native.Nat.{ℕ, ◌+◌, ◌<◌}
use native.Mathlib.Omega.{arith}
use mathlib.Core.Bool.{Bool, true, false}
use mathlib.Core.Path.{◌≡◌, refl, ap, ◌∙◌}
use mathlib.Core.List.{List, [], ◌∷◌, ◌++◌}
use lib.ListN.{length}
use Rattle.recording.specs.Lists.{AllOf}
use Rattle.recording.proofs.Lists.{all_left, all_right}
use Rattle.layout.specs.Wrap.{onto_first, groups_from, groups}

abbrev pub concat : {A : Type 0} → List (List A) → List A
concat [] = []
concat (g ∷ gs) = g ++ concat gs

module _ {A : Type 0} where
  pub all_concat : (P : A → Type 0) (gs : List (List A)) → AllOf P (concat gs) → AllOf (AllOf P) gs
  all_concat P [] h = tt
  all_concat P (g ∷ gs) h = (all_left P g (concat gs) h, all_concat P gs (all_right P g (concat gs) h))

module _ {A : Type 0} (joins : ℕ → A → Bool) (size : A → ℕ) where
  pub from_join : (run : ℕ) (a : A) (r : List A) → joins run a ≡ true → groups_from joins size run (a ∷ r) ≡ onto_first a (groups_from joins size (run + size a) r)
  from_join run a r e = rw (e, groups_from)

  pub from_new : (run : ℕ) (a : A) (r : List A) → joins run a ≡ false → groups_from joins size run (a ∷ r) ≡ [] ∷ onto_first a (groups_from joins size (size a) r)
  from_new run a r e = rw (e, groups_from)

  pub data Grouped : ℕ → List A → List (List A) → Type 0 where
    end : {run : ℕ} → Grouped run [] ([] ∷ [])
    join : {run : ℕ} {a : A} {r g : List A} {gs : List (List A)} → joins run a ≡ true → Grouped (run + size a) r (g ∷ gs) → Grouped run (a ∷ r) ((a ∷ g) ∷ gs)
    new : {run : ℕ} {a : A} {r g : List A} {gs : List (List A)} → joins run a ≡ false → Grouped (size a) r (g ∷ gs) → Grouped run (a ∷ r) ([] ∷ (a ∷ g) ∷ gs)

  onto_join : (run : ℕ) (a : A) (r : List A) (gs : List (List A)) → joins run a ≡ true → Grouped (run + size a) r gs → Grouped run (a ∷ r) (onto_first a gs)
  onto_join run a r (g ∷ gs) e d = join e d
  onto_join run a r [] e d = elim d [ ]

  onto_new : (run : ℕ) (a : A) (r : List A) (gs : List (List A)) → joins run a ≡ false → Grouped (size a) r gs → Grouped run (a ∷ r) ([] ∷ onto_first a gs)
  onto_new run a r (g ∷ gs) e d = new e d
  onto_new run a r [] e d = elim d [ ]

  pub grouped : (run : ℕ) (as' : List A) → Grouped run as' (groups_from joins size run as')
  grouped run [] = end
  grouped run (a ∷ r) = go (joins run a) refl (grouped (run + size a) r) (grouped (size a) r)
    where
      go : (t : Bool) → joins run a ≡ t → Grouped (run + size a) r (groups_from joins size (run + size a) r) → Grouped (size a) r (groups_from joins size (size a) r)
          → Grouped run (a ∷ r) (groups_from joins size run (a ∷ r))
      go true e d f = rw (from_join run a r e) (onto_join run a r (groups_from joins size (run + size a) r) e d)
      go false e d f = rw (from_new run a r e) (onto_new run a r (groups_from joins size (size a) r) e f)

  pub grouped_concat : {run : ℕ} {as' : List A} {gs : List (List A)} → Grouped run as' gs → concat gs ≡ as'
  grouped_concat end = refl
  grouped_concat (join {a = a} e d) = ap (λ (l : List A). a ∷ l) (grouped_concat d)
  grouped_concat (new {a = a} e d) = ap (λ (l : List A). a ∷ l) (grouped_concat d)

  -- each group, grouped again, is one group
  abbrev pub Single : List A → Type 0
  Single g = groups joins size g ≡ g ∷ []

  pub grouped_first : {run : ℕ} {as' g : List A} {gs : List (List A)} → Grouped run as' (g ∷ gs) → groups_from joins size run g ≡ g ∷ []
  grouped_first end = refl
  grouped_first (join {run = run} {a = a} {g = g} e d) = from_join run a g e ∙ ap (λ (l : List (List A)). onto_first a l) (grouped_first d)
  grouped_first (new e d) = refl

  pub grouped_rest : {run : ℕ} {as' g : List A} {gs : List (List A)} → Grouped run as' (g ∷ gs) → AllOf Single gs
  grouped_rest end = tt
  grouped_rest (join e d) = grouped_rest d
  grouped_rest (new {a = a} e d) = (ap (λ (l : List (List A)). onto_first a l) (grouped_first d), grouped_rest d)

  -- the groups of a list that has a first member
  pub groups-cons : (a : A) (r : List A) (gs : List (List A)) → Grouped (size a) r gs → AllOf Single (onto_first a gs)
  groups-cons a r (g ∷ gs) d = (ap (λ (l : List (List A)). onto_first a l) (grouped_first d), grouped_rest d)
  groups-cons a r [] d = elim d [ ]

  pub groups-single : (as' : List A) → AllOf Single (groups joins size as')
  groups-single [] = (refl, tt)
  groups-single (a ∷ r) = groups-cons a r (groups_from joins size (size a) r) (grouped (size a) r)

  onto_concat : (a : A) (gs : List (List A)) → concat (onto_first a gs) ≡ a ∷ concat gs
  onto_concat a [] = refl
  onto_concat a (g ∷ gs) = refl

  pub groups-concat : (as' : List A) → concat (groups joins size as') ≡ as'
  groups-concat [] = refl
  groups-concat (a ∷ r) = onto_concat a (groups_from joins size (size a) r) ∙ ap (λ (l : List A). a ∷ l) (grouped_concat (grouped (size a) r))

  onto_some : (a : A) (gs : List (List A)) → 0 < length (onto_first a gs)
  onto_some a [] = omega arith
  onto_some a (g ∷ gs) = omega arith

  pub groups_some : (as' : List A) → 0 < length (groups joins size as')
  groups_some [] = omega arith
  groups_some (a ∷ r) = onto_some a (groups_from joins size (size a) r)

  -- all of them join
  abbrev pub Joined : ℕ → List A → Type 0
  Joined run [] = Unit {0}
  Joined run (a ∷ r) = (joins run a ≡ true) × Joined (run + size a) r

  abbrev pub JoinedAll : List A → Type 0
  JoinedAll [] = Unit {0}
  JoinedAll (a ∷ r) = Joined (size a) r

  pub joined_first : {run : ℕ} {as' g : List A} {gs : List (List A)} → Grouped run as' (g ∷ gs) → Joined run g
  joined_first end = tt
  joined_first (join e d) = (e, joined_first d)
  joined_first (new e d) = tt

  pub joined-rest : {run : ℕ} {as' g : List A} {gs : List (List A)} → Grouped run as' (g ∷ gs) → AllOf JoinedAll gs
  joined-rest end = tt
  joined-rest (join e d) = joined-rest d
  joined-rest (new e d) = (joined_first d, joined-rest d)

  joined-cons : (a : A) (r : List A) (gs : List (List A)) → Grouped (size a) r gs → AllOf JoinedAll (onto_first a gs)
  joined-cons a r (g ∷ gs) d = (joined_first d, joined-rest d)
  joined-cons a r [] d = elim d [ ]

  pub groups-joined : (as' : List A) → AllOf JoinedAll (groups joins size as')
  groups-joined [] = (tt, tt)
  groups-joined (a ∷ r) = joined-cons a r (groups_from joins size (size a) r) (grouped (size a) r)

  pub joined_from : (run : ℕ) (r : List A) → Joined run r → groups_from joins size run r ≡ r ∷ []
  joined_from run [] h = refl
  joined_from run (a ∷ r) h = from_join run a r h.0 ∙ ap (λ (l : List (List A)). onto_first a l) (joined_from (run + size a) r h.1)

  pub joined-groups : (r : List A) → JoinedAll r → groups joins size r ≡ r ∷ []
  joined-groups [] h = refl
  joined-groups (a ∷ r) h = ap (λ (l : List (List A)). onto_first a l) (joined_from (size a) r h)
