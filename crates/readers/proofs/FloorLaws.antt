-- The floor's reading at the head of a turn (`Going`): which labels are open, the coloured bytes from here on, and what becomes of the bytes. A turn is a run of the data and the entries behind it
-- (`going_next`).
-- What is to come is the run's bytes, those entries without the raw sequences that go, and what is to come behind them (`come-next`); at the data's end nothing is (`come_end`).
use Prim.Native.Nat.{ℕ, ◌+◌, ◌-◌, ◌≤◌, ◌<◌}
use native.Mathlib.Omega.{arith}
use mathlib.Core.Bool.{true, false}
use mathlib.Core.Path.{◌≡◌, refl, sym, ap, subst, ◌∙◌}
use mathlib.Core.List.{List, [], ◌∷◌, ◌++◌, flatten}
use lib.ListN.{length, take, drop, replicate, length-replicate, length-drop, length-append, take-append-drop, drop_of_length-le}
use lib.Seq.{length-take-le, drop-drop}
use Rattle.buffer.specs.Place.{part}
use Rattle.buffer.proofs.Laws.{length_part}
use Rattle.buffer.proofs.HeldLaws.{flatten-append}
use Rattle.recording.specs.declared.Entry.{Entry}
use Rattle.recording.specs.Recording.{Bytes, Recording, recording, entries_of, byte_items, items_from, items, data_of, encode}
use Rattle.recording.specs.Coloured.{Coloured, coloured_from, coloured, open_after}
use Rattle.recording.specs.Edit.{front}
use Rattle.recording.proofs.EditLaws.{coloured-back}
use Rattle.writer.specs.declared.Cursor.{Cursor}
use Rattle.writer.specs.Write.{Valid, Sound, left, place_for}
use Rattle.writer.proofs.Carry.{valid_in}
use Rattle.view.specs.View.{drop_raws, floor_items}
use Rattle.view.proofs.SizeLaws.{data_bound}
use Rattle.open_label.specs.declared.Walk.{Walk}
use Rattle.open_label.specs.Open.{Tells}
use Rattle.open_label.specs.Walk.{next_place, Arrived, Standing, first_walk_of}
use Rattle.open_label.proofs.WalkLaws.{left_run_lem, ready_run}
use Rattle.floor_runs.specs.declared.Run.{Run}
use Rattle.floor_runs.specs.Fates.{fates, to_come, Fated}
use Rattle.floor_runs.specs.Runs.{copied_run_to, run_bytes, RunOf}
use Rattle.floor_runs.proofs.PlacedLaws.{come_run, come_entries, length-fates, data_floor}
use Rattle.floor_runs.proofs.FateLaws.{colours_behind, fated_at}
use Rattle.readers.specs.Entries.{Passed}

-- ── what a run writes
pub bytes-copied : (d : Bytes) (at : ℕ) (r : Run) → r.copy ≡ true → run_bytes d at r ≡ part at r.to d
bytes-copied d at r h = rw h

pub bytes-starred : (d : Bytes) (at : ℕ) (r : Run) → r.copy ≡ false → run_bytes d at r ≡ replicate r.stars 0x2A
bytes-starred d at r h = rw h

pub length-copied : (d : Bytes) (at : ℕ) (r : Run) → r.copy ≡ true → r.to ≤ length d → length (run_bytes d at r) ≡ r.to - at
length-copied d at r h b = ap length (bytes-copied d at r h) ∙ length_part at r.to d b

pub length-starred : (d : Bytes) (at : ℕ) (r : Run) → r.copy ≡ false → length (run_bytes d at r) ≡ r.stars
length-starred d at r h = ap length (bytes-starred d at r h) ∙ length-replicate {A = ℕ} r.stars 0x2A

module _ (l ds ns ts : List ℕ) where
  abbrev pub q : Recording
  q = recording ds ns ts

  abbrev pub xs : List Coloured
  xs = coloured q

  abbrev pub fs : List Bytes
  fs = fates l q

  pub record Going (w : Walk) (r : Run) : Type 0 where
    pub stack : List Bytes
    pub tells : Tells l w.o stack
    pub standing : Standing ds ns ts w
    pub colours : drop w.c.at xs ≡ coloured_from stack (left ds ns ts w.c)
    pub fated : Fated l ds xs fs w.c.at r.until r.copy

  -- ── at first
  pub first_arrived : Sound ds ns ts → Arrived ds ns ts first_walk_of
  first_arrived s = record { ready = record { within = omega arith; valid = s.valid; short = s.short }; depth = omega arith }

  pub first_left : left ds ns ts first_walk_of.c ≡ items q
  unfolding left items
  first_left = refl

  unfoldable pub going_first : (w : Walk) → Passed l ds ns ts first_walk_of w → Going w (copied_run_to 0)
  unfolding coloured fates
  going_first w p =
      record {
        stack = open_after [] (front 0 (left ds ns ts first_walk_of.c));
        tells = p.tells [] (refl, refl);
        standing = p.standing;
        colours = ap (λ (n : ℕ). drop n xs) p.here ∙ ap (coloured_from []) (sym first_left) ∙ sym (coloured-back [] 0 (left ds ns ts first_walk_of.c))
            ∙ ap (coloured_from (open_after [] (front 0 (left ds ns ts first_walk_of.c)))) (sym p.rest);
        fated = rw p.here (fated_at l ds xs fs 0 true (omega arith) refl);
      }

  -- ── one turn
  module _ (w : Walk) (r : Run) (G : Going w r) (r' : Run) (R : RunOf l ds (left ds ns ts w.c) w.o w.c.at r.until r.copy (length ds) r') (b : r'.to ≤ next_place ns w.c)
      (c' : Cursor) (a : c'.at ≡ r'.to) (k : c'.k ≡ w.c.k) where
    abbrev at : ℕ
    at = w.c.at

    abbrev n : ℕ
    n = c'.at - at

    abbrev pub behind : Walk
    behind = record { c = c'; o = w.o }

    further : at ≤ c'.at
    further = omega (arith, a, R.further)

    before : c'.at ≤ next_place ns w.c
    before = omega (arith, a, b)

    within : c'.at ≤ length ds
    within = omega (arith, a, R.before)

    there : at + n ≡ c'.at
    there = omega (arith, further)

    pub arrived_next : Arrived ds ns ts behind
    arrived_next =
        record {
          ready = ready_run ds ns ts w.c c' further before k within G.standing.arrived.ready;
          depth = omega (arith, k, G.standing.arrived.depth);
        }

    left_is : left ds ns ts w.c ≡ byte_items (part at c'.at ds) ++ left ds ns ts c'
    left_is = left_run_lem ds ns ts w.c c' further before k

    pub written : Fated l ds xs fs r'.to r'.until r'.copy × (flatten (take (r'.to - at) (drop at fs)) ≡ run_bytes ds at r')
    written = R.writes G.stack xs fs G.tells G.colours G.fated

    run-bytes : flatten (take n (drop at fs)) ≡ run_bytes ds at r'
    run-bytes = ap (λ (m : ℕ). flatten (take (m - at) (drop at fs))) a ∙ written.1

    fates_two : drop at fs ≡ take n (drop at fs) ++ drop c'.at fs
    fates_two = sym (take-append-drop n (drop at fs)) ∙ ap (λ (x : List Bytes). take n (drop at fs) ++ x) (drop-drop n at fs ∙ ap (λ (m : ℕ). drop m fs) there)

    pub come_run_next : to_come l (drop at fs) G.stack (left ds ns ts w.c) ≡ byte_items (run_bytes ds at r') ++ to_come l (drop c'.at fs) G.stack (left ds ns ts c')
    come_run_next =
        (λ i. to_come l (fates_two i) G.stack (left_is i))
        ∙ come_run l (take n (drop at fs)) (drop c'.at fs) G.stack (part at c'.at ds) (left ds ns ts c')
        (length-take-le n (drop at fs) (omega (arith, length-drop at fs, length-fates l q, within)) ∙ sym (length_part at c'.at ds within))
        ∙ ap (λ (x : Bytes). byte_items x ++ to_come l (drop c'.at fs) G.stack (left ds ns ts c')) run-bytes

    pub colours_there : drop c'.at xs ≡ coloured_from G.stack (left ds ns ts c')
    colours_there =
        ap (λ (m : ℕ). drop m xs) (sym there) ∙ sym (drop-drop n at xs) ∙ ap (drop n) (G.colours ∙ ap (coloured_from G.stack) left_is)
        ∙ colours_behind G.stack (part at c'.at ds) (left ds ns ts c') n (sym (length_part at c'.at ds within))

    -- by lengths alone
    pub length_run : length (flatten (drop at fs)) ≡ length (run_bytes ds at r') + length (flatten (drop c'.at fs))
    length_run =
        ap (λ (x : List Bytes). length (flatten x)) fates_two ∙ ap length (flatten-append (take n (drop at fs)) (drop c'.at fs))
        ∙ length-append (flatten (take n (drop at fs))) (flatten (drop c'.at fs)) ∙ ap (λ (x : Bytes). length x + length (flatten (drop c'.at fs))) run-bytes

    module _ (w' : Walk) (P : Passed l ds ns ts behind w') where
      unfoldable pub going_next : Going w' r'
      going_next =
          record {
            stack = open_after G.stack (front 0 (left ds ns ts c'));
            tells = P.tells G.stack G.tells;
            standing = P.standing;
            colours = ap (λ (m : ℕ). drop m xs) P.here ∙ colours_there ∙ sym (coloured-back G.stack 0 (left ds ns ts c'))
                ∙ ap (coloured_from (open_after G.stack (front 0 (left ds ns ts c')))) (sym P.rest);
            fated = subst (λ (m : ℕ). Fated l ds xs fs m r'.until r'.copy) (sym (P.here ∙ a)) written.0;
          }

      pub come_entries_next : to_come l (drop c'.at fs) G.stack (left ds ns ts c')
          ≡ drop_raws l G.stack (front 0 (left ds ns ts c')) ++ to_come l (drop w'.c.at fs) (open_after G.stack (front 0 (left ds ns ts c'))) (left ds ns ts w'.c)
      come_entries_next =
          come_entries l (drop c'.at fs) G.stack (left ds ns ts c')
          ∙ (λ i. drop_raws l G.stack (front 0 (left ds ns ts c')) ++ to_come l (drop (sym P.here i) fs) (open_after G.stack (front 0 (left ds ns ts c'))) (sym P.rest i))

  -- ── at the data's end
  module _ (w : Walk) (r : Run) (G : Going w r) (e : length ds ≤ w.c.at) where
    none_left : (es : List Entry) → w.c.at < place_for es → Valid w.c.at (length ds) (length ts) es → es ≡ []
    unfolding place_for Valid
    none_left [] p v = refl
    none_left (x ∷ es) p v = absurd (omega (arith, p, e, valid_in x.position (length ds) (length ts) es v.3))

    nothing_left : left ds ns ts w.c ≡ []
    unfolding left
    nothing_left =
        (λ i. items_from w.c.at ts (drop_of_length-le ds {i = w.c.at} e i) (none_left (entries_of (drop w.c.k ns)) G.standing.passed G.standing.arrived.ready.valid i))

    pub come_end : to_come l (drop w.c.at fs) G.stack (left ds ns ts w.c) ≡ []
    come_end = ap (to_come l (drop w.c.at fs) G.stack) nothing_left

    pub length_end : length (flatten (drop w.c.at fs)) ≡ 0
    unfolding flatten
    length_end = ap (λ (x : List Bytes). length (flatten x)) (drop_of_length-le fs {i = w.c.at} (omega (arith, e, length-fates l q)))

  -- ── all of it
  -- never longer than the content
  pub floor_short : length (flatten fs) ≤ length ds
  unfolding encode
  floor_short = omega (arith, data_bound l q, ap length (data_floor l q))

  pub length_floor : length (data_of (floor_items l q)) ≡ length (flatten fs)
  length_floor = ap length (data_floor l q)
