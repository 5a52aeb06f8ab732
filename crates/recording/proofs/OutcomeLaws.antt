-- For code that finds the refusals one after another: which refusal a call gives when it stops there (`stops-..`), and what it then has to answer and leave.
use mathlib.Core.Path.{◌≡◌, refl, sym, ap, ◌∙◌}
use mathlib.Core.Bool.{Bool, true, false, cond}
use mathlib.Core.List.{List, [], ◌∷◌}
use Prim.Native.Nat.{ℕ, zero, suc, ◌<◌}
use native.Mathlib.Omega.{arith}
use lib.Dec.{eqb}
use lib.ListN.{length}
use borrow.Author.Tests.{eq-eqb, ne_eqb, eqb-true}
use Rattle.recording.specs.declared.Refusal.{Refusal}
use Rattle.recording.specs.declared.Refusal.TheVariants.{DataTooLong, EntryNumbers, EntryShape, EntryPosition, TextPart, LabelIllFormed, TextIllFormed, ReplacementRange}
use Rattle.recording.specs.declared.Refusal.TheVariants.{ResultOverLimit, LengthOverBuffer, DataBufferTooShort, EntryBufferTooShort, TextBufferTooShort, LineListTooShort}
use Rattle.recording.specs.declared.Refusal.TheVariants.{TabStop, PrefixNewline, PrefixMissing, ViewLabel, ContentUnbalanced, LineIndex, NoSuchPlace, CellEnds, TallyShape, TallyCell, TallyLine}
use Rattle.recording.specs.declared.Refusal.TheVariants.{SetsDiffer, CallNumbers, AnswerListTooShort}
use Rattle.std.specs.Prelude.{Ok, Err}
use Rattle.recording.specs.Recording.{Recording}
use Rattle.recording.specs.Refusals.{number_of_refusal, first_of, recording_fault}
use Rattle.recording.specs.Outcome.{Room, Result, Faults, content_faults, Outcome, refused, done, over_limit, no_room, refusal_of, settle}
use Rattle.recording.specs.Outcome.{Lent, lent_after, returned, answer_of, Promised, replied, reply_of}

-- no refusal has the number 0
pub number_pos : (f : Refusal) → 0 < number_of_refusal f
number_pos DataTooLong = omega arith
number_pos EntryNumbers = omega arith
number_pos EntryShape = omega arith
number_pos EntryPosition = omega arith
number_pos TextPart = omega arith
number_pos LabelIllFormed = omega arith
number_pos TextIllFormed = omega arith
number_pos ReplacementRange = omega arith
number_pos ResultOverLimit = omega arith
number_pos LengthOverBuffer = omega arith
number_pos DataBufferTooShort = omega arith
number_pos EntryBufferTooShort = omega arith
number_pos TextBufferTooShort = omega arith
number_pos LineListTooShort = omega arith
number_pos TabStop = omega arith
number_pos PrefixNewline = omega arith
number_pos PrefixMissing = omega arith
number_pos ViewLabel = omega arith
number_pos ContentUnbalanced = omega arith
number_pos LineIndex = omega arith
number_pos NoSuchPlace = omega arith
number_pos CellEnds = omega arith
number_pos TallyShape = omega arith
number_pos TallyCell = omega arith
number_pos TallyLine = omega arith
number_pos SetsDiffer = omega arith
number_pos CallNumbers = omega arith
number_pos AnswerListTooShort = omega arith

-- ── the first of some tests
pub first_hit : (n : ℕ) (ns : List ℕ) → 0 < n → first_of (n ∷ ns) ≡ n
first_hit n ns h = rw (ne_eqb n 0 (λ z. omega (arith, h, z)))

pub first_on : (n : ℕ) (ns : List ℕ) → n ≡ 0 → first_of (n ∷ ns) ≡ first_of ns
first_on n ns h = rw (eq-eqb n 0 h)

pub first_one : (n : ℕ) → first_of (n ∷ []) ≡ n
first_one n = go (eqb n 0) refl
  where
    go : (t : Bool) → eqb n 0 ≡ t → first_of (n ∷ []) ≡ n
    go true e = rw e (sym (eqb-true n 0 e))
    go false e = rw e

-- ── where a call stops
module _ (f : Faults) (o : Room) (x : Result) where
  pub stops_lengths : 0 < f.lengths → refusal_of f o x ≡ f.lengths
  unfolding refusal_of
  stops_lengths h = rw (ne_eqb f.lengths 0 (λ z. omega (arith, h, z)))

  module _ (a : f.lengths ≡ 0) where
    pub stops_content : 0 < f.content → refusal_of f o x ≡ f.content
    unfolding refusal_of
    stops_content h = rw (a, ne_eqb f.content 0 (λ z. omega (arith, h, z)))

    module _ (b : f.content ≡ 0) where
      pub stops_second : 0 < f.second → refusal_of f o x ≡ f.second
      unfolding refusal_of
      stops_second h = rw (a, b, ne_eqb f.second 0 (λ z. omega (arith, h, z)))

      module _ (c : f.second ≡ 0) where
        pub stops_added : 0 < f.added → refusal_of f o x ≡ f.added
        unfolding refusal_of
        stops_added h = rw (a, b, c, ne_eqb f.added 0 (λ z. omega (arith, h, z)))

        module _ (d : f.added ≡ 0) where
          pub stops_plain : 0 < f.plain → refusal_of f o x ≡ f.plain
          unfolding refusal_of
          stops_plain h = rw (a, b, c, d, ne_eqb f.plain 0 (λ z. omega (arith, h, z)))

          module _ (e : f.plain ≡ 0) where
            pub stops_own : 0 < f.own → refusal_of f o x ≡ f.own
            unfolding refusal_of
            stops_own h = rw (a, b, c, d, e, ne_eqb f.own 0 (λ z. omega (arith, h, z)))

            -- only the result is left to be judged
            pub stops_sizes : f.own ≡ 0 → refusal_of f o x ≡ first_of (over_limit x.recording ∷ no_room o x ∷ [])
            unfolding refusal_of
            stops_sizes g = rw (a, b, c, d, e, g)

  -- ── what it then answers and leaves
  pub refused_by : (n : ℕ) → 0 < n → refusal_of f o x ≡ n → settle f o x ≡ refused n
  unfolding settle
  refused_by n h e = rw (e, ne_eqb n 0 (λ q. omega (arith, h, q)))

  pub is_refused : (r : Refusal) → refusal_of f o x ≡ number_of_refusal r → settle f o x ≡ refused (number_of_refusal r)
  is_refused r e = refused_by (number_of_refusal r) (number_pos r) e

  pub is_done : refusal_of f o x ≡ 0 → settle f o x ≡ done x
  unfolding settle
  is_done e = rw e

  pub refused_answer : (r : Refusal) → refusal_of f o x ≡ number_of_refusal r → answer_of (Err r) ≡ returned (settle f o x)
  unfolding returned
  refused_answer r e = rw (is_refused r e)

  pub refused_lent : (r : Refusal) (b : Lent) → refusal_of f o x ≡ number_of_refusal r → b ≡ lent_after (settle f o x) b
  unfolding lent_after
  refused_lent r b e = rw (is_refused r e)

  pub done_answer : (d e t n : ℕ) → refusal_of f o x ≡ 0 → d ≡ length x.recording.data_bytes → e ≡ length x.recording.entry_numbers → t ≡ length x.recording.text → n ≡ x.number
      → answer_of (Ok (record { «data» = d; entries = e; text = t; number = n })) ≡ returned (settle f o x)
  unfolding returned
  done_answer d e t n z ed ee et en = rw (is_done z) (λ i. record { refusal = 0; data_bytes = ed i; entry_numbers = ee i; text = et i; number = en i })

  -- the refusal that comes back, 0 included
  pub refusal_told : (returned (settle f o x)).refusal ≡ refusal_of f o x
  unfolding settle returned
  refusal_told = go (eqb (refusal_of f o x) 0) refl
    where
      go : (t : Bool) → eqb (refusal_of f o x) 0 ≡ t → (returned (cond t (done x) (refused (refusal_of f o x)))).refusal ≡ refusal_of f o x
      go true q = sym (eqb-true (refusal_of f o x) 0 q)
      go false q = refl

  pub refusal-replied : (a b : ℕ) → (replied (settle f o x) a b).refusal ≡ refusal_of f o x
  unfolding settle replied
  refusal-replied a b = go (eqb (refusal_of f o x) 0) refl
    where
      go : (t : Bool) → eqb (refusal_of f o x) 0 ≡ t → (replied (cond t (done x) (refused (refusal_of f o x))) a b).refusal ≡ refusal_of f o x
      go true q = sym (eqb-true (refusal_of f o x) 0 q)
      go false q = refl

  -- and back: an outcome that is not refused was granted
  pub done_only : (y : Result) → settle f o x ≡ done y → (refusal_of f o x ≡ 0) × (x ≡ y)
  unfolding settle
  done_only y e = go (eqb (refusal_of f o x) 0) refl e
    where
      take_out : Outcome → Result
      take_out (refused n) = x
      take_out (done z) = z

      go : (t : Bool) → eqb (refusal_of f o x) 0 ≡ t → cond t (done x) (refused (refusal_of f o x)) ≡ done y → (refusal_of f o x ≡ 0) × (x ≡ y)
      go true q p = (eqb-true (refusal_of f o x) 0 q, ap take_out p)
      go false q p = (cc, cc)

-- ── an outcome, and what is then answered and left
module _ (u : Outcome) where
  pub promise_refused : (f : Refusal) (b : Lent) → u ≡ refused (number_of_refusal f) → Promised u b b (Err f)
  unfolding returned lent_after
  promise_refused f b e = (rw e, rw e)

  pub reply_refused : (f : Refusal) (a b : ℕ) → u ≡ refused (number_of_refusal f) → reply_of (Err f) ≡ replied u a b
  unfolding replied
  reply_refused f a b e = rw e

  pub reply_found : (x : Result) (a b a' b' : ℕ) → u ≡ done x → a ≡ a' → b ≡ b' → reply_of (Ok (record { first = a; second = b })) ≡ replied u a' b'
  unfolding replied
  reply_found x a b a' b' e p q = rw e (λ i. record { refusal = 0; first = p i; second = q i })

-- ── a call that reads one recording and has a refusal of its own
module _ (r : Recording) (own : ℕ) (o : Room) (x : Result) where
  pub content-refused : (f : Refusal) → recording_fault r ≡ number_of_refusal f → settle (content_faults r own) o x ≡ refused (number_of_refusal f)
  content-refused f e = is_refused (content_faults r own) o x f (stops_content (content_faults r own) o x refl (omega (arith, e, number_pos f)) ∙ e)

  module _ (a : recording_fault r ≡ 0) where
    pub own_refused : (f : Refusal) → own ≡ number_of_refusal f → settle (content_faults r own) o x ≡ refused (number_of_refusal f)
    own_refused f e = is_refused (content_faults r own) o x f (stops_own (content_faults r own) o x refl a refl refl refl (omega (arith, e, number_pos f)) ∙ e)

    pub content_done : own ≡ 0 → first_of (over_limit x.recording ∷ no_room o x ∷ []) ≡ 0 → settle (content_faults r own) o x ≡ done x
    content_done e z = is_done (content_faults r own) o x (stops_sizes (content_faults r own) o x refl a refl refl refl e ∙ z)

  -- where what is left to be judged is never refused, there are no other refusals
  pub content_own : (own ≡ 0 → first_of (over_limit x.recording ∷ no_room o x ∷ []) ≡ 0) → refusal_of (content_faults r own) o x ≡ first_of (recording_fault r ∷ own ∷ [])
  content_own z = first (recording_fault r) refl
    where
      then : (n : ℕ) → own ≡ n → recording_fault r ≡ 0 → refusal_of (content_faults r own) o x ≡ first_of (recording_fault r ∷ own ∷ [])
      then zero e a = stops_sizes (content_faults r own) o x refl a refl refl refl e ∙ z e ∙ sym e ∙ sym (first_one own) ∙ sym (first_on (recording_fault r) (own ∷ []) a)
      then (suc n) e a = stops_own (content_faults r own) o x refl a refl refl refl (omega (arith, e)) ∙ sym (first_one own) ∙ sym (first_on (recording_fault r) (own ∷ []) a)

      first : (n : ℕ) → recording_fault r ≡ n → refusal_of (content_faults r own) o x ≡ first_of (recording_fault r ∷ own ∷ [])
      first zero a = then own refl a
      first (suc n) a = stops_content (content_faults r own) o x refl (omega (arith, a)) ∙ sym (first_hit (recording_fault r) (own ∷ []) (omega (arith, a)))
