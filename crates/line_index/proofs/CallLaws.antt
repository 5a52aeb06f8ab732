-- Where a call returns, and what it has then answered and left, in the form in which the code finds it.
-- Each fault is reckoned once; what follows from it are `recording`'s laws of calls that read one recording.
use Rattle.std.specs.Prelude as Std
use Prim.Native.Nat.{ℕ, suc, ◌+◌, ◌-◌, ◌≤◌, ◌<◌}
use native.Mathlib.Omega.{arith}
use mathlib.Core.Bool.{true, false}
use mathlib.Core.Path.{◌≡◌, refl, sym, ap, subst, ◌∙◌}
use mathlib.Core.List.{List, [], ◌∷◌}
use lib.ListN.{length, take, drop, get_or, length-append}
use lib.Seq.{length-take-le}
use lib.Dec.{leb}
use borrow.Author.Tests.{lt-ltb, le-ltb, lt-leb, le-leb, leb-true, leb-false}
use Rattle.std.specs.List.Sorted.{IsPartitionedBy}
use Rattle.buffer.specs.Place.{over, over_at}
use Rattle.recording.specs.declared.Refusal.{Refusal}
use Rattle.recording.specs.declared.Refusal.TheVariants.{LineIndex, NoSuchPlace}
use Rattle.recording.specs.Lists.{same}
use Rattle.recording.proofs.Lists.{same_equal}
use Rattle.recording.specs.Recording.{Recording}
use Rattle.recording.specs.Refusals.{number_of_refusal, first_of, recording_fault}
use Rattle.recording.specs.Outcome.{Outcome, done, over_limit, no_room, settle, lent_after, returned, Promised, content_faults, line_room, lent_lines, nothing_left_of, reply_of}
use Rattle.recording.proofs.OutcomeLaws as outcomes
use Rattle.recording.proofs.OutcomeLaws.{promise_refused, reply_refused, reply_found}
use Rattle.line_index.specs.Starts.{starts_from, line_starts, line_span, line_of_offset, place_for}
use Rattle.line_index.specs.Index.{short_fault, index_fault, extend_fault, line_fault, place_fault, index_result, build_outcome, extend_outcome, line_replied, place_replied}
use Rattle.line_index.proofs.StartLaws.{extend_is_build, first_is, starts_parted, halved}
use Rattle.line_index.proofs.WriteLaws.{front_over}

-- ── 36
module _ (d : List ℕ) (room : ℕ) where
  short_36 : room < length (line_starts d) → short_fault d room ≡ 36
  unfolding short_fault
  short_36 h = rw (lt-ltb room (length (line_starts d)) h)

  short_0 : length (line_starts d) ≤ room → short_fault d room ≡ 0
  unfolding short_fault
  short_0 h = rw (le-ltb room (length (line_starts d)) h)

module _ (d ix : List ℕ) where
  index_36 : same ix (line_starts d) ≡ false → index_fault d ix ≡ 36
  unfolding index_fault
  index_36 s = rw s

  index_0 : same ix (line_starts d) ≡ true → index_fault d ix ≡ 0
  unfolding index_fault
  index_0 s = rw s

  pub index_is : same ix (line_starts d) ≡ true → ix ≡ line_starts d
  index_is s = same_equal ix (line_starts d) s

-- for extending a list whose front is an index: only the room is left to be judged, as for building
pub fault_is : (d : List ℕ) (earlier : ℕ) (ix : List ℕ) (used : ℕ) → used ≤ length ix → earlier ≤ length d → same (take used ix) (line_starts (take earlier d)) ≡ true
    → extend_fault d earlier ix used ≡ short_fault d (length ix)
unfolding extend_fault
fault_is d earlier ix used u v s =
    rw (le-ltb (length ix) used u, le-ltb (length d) earlier v, index_0 (take earlier d) (take used ix) s) (outcomes.first_one (short_fault d (length ix)))

-- ── questions: the recording's refusal, 36, 37, or the two numbers
module _ (r : Recording) (ix : List ℕ) (n : ℕ) where
  abbrev d : List ℕ
  d = r.data_bytes

  abbrev line_outcome : Outcome
  line_outcome = settle (content_faults r (line_fault d ix n)) (line_room 0) nothing_left_of

  abbrev place_outcome : Outcome
  place_outcome = settle (content_faults r (place_fault d ix n)) (line_room 0) nothing_left_of

  pub line_content : (f : Refusal) → recording_fault r ≡ number_of_refusal f → reply_of (Std.Err f) ≡ line_replied r ix n
  unfolding line_replied
  line_content f e = reply_refused line_outcome f (line_span d n).first (line_span d n).end (outcomes.content-refused r (line_fault d ix n) (line_room 0) nothing_left_of f e)

  pub place-content : (f : Refusal) → recording_fault r ≡ number_of_refusal f → reply_of (Std.Err f) ≡ place_replied r ix n
  unfolding place_replied
  place-content f e = reply_refused place_outcome f (place_for d n).line (place_for d n).column (outcomes.content-refused r (place_fault d ix n) (line_room 0) nothing_left_of f e)

  module _ (a : recording_fault r ≡ 0) where
    line_own : (f : Refusal) → line_fault d ix n ≡ number_of_refusal f → reply_of (Std.Err f) ≡ line_replied r ix n
    unfolding line_replied
    line_own f e = reply_refused line_outcome f (line_span d n).first (line_span d n).end (outcomes.own_refused r (line_fault d ix n) (line_room 0) nothing_left_of a f e)

    place_own : (f : Refusal) → place_fault d ix n ≡ number_of_refusal f → reply_of (Std.Err f) ≡ place_replied r ix n
    unfolding place_replied
    place_own f e = reply_refused place_outcome f (place_for d n).line (place_for d n).column (outcomes.own_refused r (place_fault d ix n) (line_room 0) nothing_left_of a f e)

    module _ (s : same ix (line_starts d) ≡ false) where
      pub line_wrong : reply_of (Std.Err LineIndex) ≡ line_replied r ix n
      unfolding line_fault
      line_wrong = line_own LineIndex (rw (index_36 d ix s))

      pub place_wrong : reply_of (Std.Err LineIndex) ≡ place_replied r ix n
      unfolding place_fault
      place_wrong = place_own LineIndex (rw (index_36 d ix s))

    module _ (s : same ix (line_starts d) ≡ true) where
      count_is : length ix ≡ length (line_starts d)
      count_is = ap length (index_is d ix s)

      pub line_missing : length ix ≤ n → reply_of (Std.Err NoSuchPlace) ≡ line_replied r ix n
      unfolding line_fault
      line_missing h = line_own NoSuchPlace (rw (index_0 d ix s, le-leb (length (line_starts d)) n (omega (arith, h, count_is))))

      line_0 : n < length ix → line_fault d ix n ≡ 0
      unfolding line_fault
      line_0 h = rw (index_0 d ix s, lt-leb (length (line_starts d)) n (omega (arith, h, count_is)))

      pub line_found : n < length ix → (e : ℕ) → e ≡ (line_span d n).end → reply_of (Std.Ok (record { first = get_or ix n 0; second = e })) ≡ line_replied r ix n
      unfolding line_replied over_limit no_room
      line_found h e q =
          reply_found line_outcome nothing_left_of (get_or ix n 0) e (line_span d n).first (line_span d n).end
          (outcomes.content_done r (line_fault d ix n) (line_room 0) nothing_left_of a (line_0 h) refl)
          (ap (λ (l : List ℕ). get_or l n 0) (index_is d ix s) ∙ sym (first_is d n)) q

      pub place_missing : length d < n → reply_of (Std.Err NoSuchPlace) ≡ place_replied r ix n
      unfolding place_fault
      place_missing h = place_own NoSuchPlace (rw (index_0 d ix s, lt-ltb (length d) n h))

      place_0 : n ≤ length d → place_fault d ix n ≡ 0
      unfolding place_fault
      place_0 h = rw (index_0 d ix s, le-ltb (length d) n h)

      -- where the search begins
      pub first_within : (0 < length ix) × (get_or ix 0 0 ≤ n)
      unfolding line_starts
      first_within = (omega (arith, count_is), omega (arith, ap (λ (l : List ℕ). get_or l 0 0) (index_is d ix s)))

      pub index_parted : n ≤ length d → IsPartitionedBy (λ (y : ℕ). leb y n) ix
      index_parted h = subst (λ (l : List ℕ). IsPartitionedBy (λ (y : ℕ). leb y n) l) (sym (index_is d ix s)) (starts_parted d n h)

      -- and where it ends
      pub place_found : n ≤ length d → (i : ℕ) → i < length ix → get_or ix i 0 ≤ n → (i + 1 < length ix → n < get_or ix (i + 1) 0)
          → reply_of (Std.Ok (record { first = i; second = n - get_or ix i 0 })) ≡ place_replied r ix n
      unfolding place_replied place_for over_limit no_room
      place_found h i l p q =
          let x = index_is d ix s in
          let e : i ≡ line_of_offset d n
          = halved d n h i (omega (arith, l, count_is)) (subst (λ (y : List ℕ). get_or y i 0 ≤ n) x p) (subst (λ (y : List ℕ). i + 1 < length y → n < get_or y (i + 1) 0) x q) in
          let c : n - get_or ix i 0 ≡ n - (line_span d (line_of_offset d n)).first = (λ t. n - get_or (x t) (e t) 0) ∙ ap (λ (z : ℕ). n - z) (sym (first_is d (line_of_offset d n))) in
          reply_found place_outcome nothing_left_of i (n - get_or ix i 0) (place_for d n).line (place_for d n).column
          (outcomes.content_done r (place_fault d ix n) (line_room 0) nothing_left_of a (place_0 h) refl) e c

-- ── calls that leave an index
pub room_left : (d : List ℕ) (room : ℕ) → length (line_starts d) ≤ room → first_of (over_limit (index_result d).recording ∷ no_room (line_room room) (index_result d) ∷ []) ≡ 0
unfolding over_limit no_room index_result
room_left d room h = rw (le-ltb room (length (line_starts d)) h)

left_done : (u : Outcome) (d : List ℕ) (n : ℕ) (old now : List ℕ) → u ≡ done (index_result d) → n ≡ length (line_starts d) → now ≡ over (line_starts d) old
    → Promised u (lent_lines old) (lent_lines now) (Std.Ok (record { «data» = 0; entries = 0; text = 0; number = n }))
unfolding returned lent_after index_result over
left_done u d n old now e p q = rw e (λ i. record { refusal = 0; data_bytes = 0; entry_numbers = 0; text = 0; number = p i }, λ i. lent_lines (q i))

pub starts_one : (d : List ℕ) → length (line_starts d) ≡ suc (length (starts_from 0 (drop 0 d)))
unfolding line_starts
starts_one d = refl

-- a list of so many numbers, asked whether it takes the starts behind the first
module _ (d : List ℕ) (room : ℕ) where
  pub room_none : room ≡ 0 → room < length (line_starts d)
  room_none h = omega (arith, starts_one d, h)

  pub room_short : leb (length (starts_from 0 (drop 0 d))) (room - 1) ≡ false → room < length (line_starts d)
  room_short h = omega (arith, starts_one d, leb-false (length (starts_from 0 (drop 0 d))) (room - 1) h)

  pub room_enough : (room ≡ 0 → ⊥) → leb (length (starts_from 0 (drop 0 d))) (room - 1) ≡ true → length (line_starts d) ≤ room
  room_enough h t = omega (arith, starts_one d, leb-true (length (starts_from 0 (drop 0 d))) (room - 1) t, h)

module _ (r : Recording) (ix : List ℕ) where
  pub build_content : (f : Refusal) → recording_fault r ≡ number_of_refusal f → Promised (build_outcome r (length ix)) (lent_lines ix) (lent_lines ix) (Std.Err f)
  unfolding build_outcome
  build_content f e =
      promise_refused (build_outcome r (length ix)) f (lent_lines ix)
      (outcomes.content-refused r (short_fault r.data_bytes (length ix)) (line_room (length ix)) (index_result r.data_bytes) f e)

  module _ (a : recording_fault r ≡ 0) where
    pub build_short : length ix < length (line_starts r.data_bytes) → Promised (build_outcome r (length ix)) (lent_lines ix) (lent_lines ix) (Std.Err LineIndex)
    unfolding build_outcome
    build_short h =
        promise_refused (build_outcome r (length ix)) LineIndex (lent_lines ix)
        (outcomes.own_refused r (short_fault r.data_bytes (length ix)) (line_room (length ix)) (index_result r.data_bytes) a LineIndex (short_36 r.data_bytes (length ix) h))

    build_is : length (line_starts r.data_bytes) ≤ length ix → build_outcome r (length ix) ≡ done (index_result r.data_bytes)
    unfolding build_outcome
    build_is h =
        outcomes.content_done r (short_fault r.data_bytes (length ix)) (line_room (length ix)) (index_result r.data_bytes) a (short_0 r.data_bytes (length ix) h)
        (room_left r.data_bytes (length ix) h)

    pub build_done : length (line_starts r.data_bytes) ≤ length ix → (n : ℕ) (now : List ℕ) → n ≡ length (line_starts r.data_bytes) → now ≡ over (line_starts r.data_bytes) ix
        → Promised (build_outcome r (length ix)) (lent_lines ix) (lent_lines now) (Std.Ok (record { «data» = 0; entries = 0; text = 0; number = n }))
    build_done h n now p q = left_done (build_outcome r (length ix)) r.data_bytes n ix now (build_is h) p q

  module _ (earlier used : ℕ) where
    abbrev e_d : List ℕ
    e_d = r.data_bytes

    pub extend_content : (f : Refusal) → recording_fault r ≡ number_of_refusal f → Promised (extend_outcome r earlier ix used) (lent_lines ix) (lent_lines ix) (Std.Err f)
    unfolding extend_outcome
    extend_content f e =
        promise_refused (extend_outcome r earlier ix used) f (lent_lines ix)
        (outcomes.content-refused r (extend_fault e_d earlier ix used) (line_room (length ix)) (index_result e_d) f e)

    module _ (a : recording_fault r ≡ 0) where
      stopped : extend_fault e_d earlier ix used ≡ 36 → Promised (extend_outcome r earlier ix used) (lent_lines ix) (lent_lines ix) (Std.Err LineIndex)
      unfolding extend_outcome
      stopped e =
          promise_refused (extend_outcome r earlier ix used) LineIndex (lent_lines ix)
          (outcomes.own_refused r (extend_fault e_d earlier ix used) (line_room (length ix)) (index_result e_d) a LineIndex e)

      pub extend_used : length ix < used → Promised (extend_outcome r earlier ix used) (lent_lines ix) (lent_lines ix) (Std.Err LineIndex)
      unfolding extend_fault
      extend_used h = stopped (rw (lt-ltb (length ix) used h))

      module _ (u : used ≤ length ix) where
        pub extend_earlier : length e_d < earlier → Promised (extend_outcome r earlier ix used) (lent_lines ix) (lent_lines ix) (Std.Err LineIndex)
        unfolding extend_fault
        extend_earlier h = stopped (rw (le-ltb (length ix) used u, lt-ltb (length e_d) earlier h))

        module _ (v : earlier ≤ length e_d) where
          pub extend_wrong : same (take used ix) (line_starts (take earlier e_d)) ≡ false → Promised (extend_outcome r earlier ix used) (lent_lines ix) (lent_lines ix) (Std.Err LineIndex)
          unfolding extend_fault
          extend_wrong s = stopped (rw (le-ltb (length ix) used u, le-ltb (length e_d) earlier v, index_36 (take earlier e_d) (take used ix) s))

          module _ (s : same (take used ix) (line_starts (take earlier e_d)) ≡ true) where
            front_is : take used ix ≡ line_starts (take earlier e_d)
            front_is = index_is (take earlier e_d) (take used ix) s

            used_is : length (line_starts (take earlier e_d)) ≡ used
            used_is = sym (ap length front_is) ∙ length-take-le used ix u

            all_length : length (line_starts e_d) ≡ used + length (starts_from earlier (drop earlier e_d))
            all_length =
                ap length (extend_is_build earlier e_d v) ∙ length-append (line_starts (take earlier e_d)) (starts_from earlier (drop earlier e_d))
                ∙ ap (λ (n : ℕ). n + length (starts_from earlier (drop earlier e_d))) used_is

            pub extend_short : length ix - used < length (starts_from earlier (drop earlier e_d)) → Promised (extend_outcome r earlier ix used) (lent_lines ix) (lent_lines ix) (Std.Err LineIndex)
            extend_short h = stopped (fault_is e_d earlier ix used u v s ∙ short_36 e_d (length ix) (omega (arith, h, all_length)))

            module _ (h : length (starts_from earlier (drop earlier e_d)) ≤ length ix - used) where
              pub extend_fits : used + length (starts_from earlier (drop earlier e_d)) ≤ length ix
              extend_fits = omega (arith, h, u)

              extend_is : extend_outcome r earlier ix used ≡ done (index_result e_d)
              unfolding extend_outcome
              extend_is =
                  outcomes.content_done r (extend_fault e_d earlier ix used) (line_room (length ix)) (index_result e_d) a
                  (fault_is e_d earlier ix used u v s ∙ short_0 e_d (length ix) (omega (arith, extend_fits, all_length)))
                  (room_left e_d (length ix) (omega (arith, extend_fits, all_length)))

              written : over_at used (starts_from earlier (drop earlier e_d)) ix ≡ over (line_starts e_d) ix
              written =
                  ap (λ (n : ℕ). over_at n (starts_from earlier (drop earlier e_d)) ix) (sym used_is)
                  ∙ front_over (line_starts (take earlier e_d)) (starts_from earlier (drop earlier e_d)) ix (ap (λ (n : ℕ). take n ix) used_is ∙ front_is)
                  ∙ ap (λ (l : List ℕ). over l ix) (sym (extend_is_build earlier e_d v))

              pub extend_done : (n : ℕ) (now : List ℕ) → n ≡ used + length (starts_from earlier (drop earlier e_d)) → now ≡ over_at used (starts_from earlier (drop earlier e_d)) ix
                  → Promised (extend_outcome r earlier ix used) (lent_lines ix) (lent_lines now) (Std.Ok (record { «data» = 0; entries = 0; text = 0; number = n }))
              extend_done n now p q = left_done (extend_outcome r earlier ix used) e_d n ix now extend_is (p ∙ sym all_length) (q ∙ written)
