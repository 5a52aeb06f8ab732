-- The next run, in each of the ways that the code finds it: `copied`, `newline`, `starred`, `divided_gone`, `divided_kept`, `inside`.
-- The idea: all bytes of a run have the same labels (`run_colours`), so one question decides for whole characters; a character that goes on past the run is asked for by itself.
use Prim.Native.Nat.{ℕ, ◌+◌, ◌-◌, ◌≤◌, ◌<◌}
use native.Mathlib.Omega.{arith}
use mathlib.Core.Bool.{Bool, true, false, cond, ◌&&◌, not}
use mathlib.Core.Path.{◌≡◌, refl, sym, ap, subst, ◌∙◌}
use mathlib.Core.List.{List, [], ◌∷◌}
use lib.ListN.{length, take, drop, get_or, replicate, length-drop}
use borrow.Author.Tests.{eq-eqb, ne_eqb}
use Rattle.buffer.specs.Place.{part}
use Rattle.buffer.proofs.Laws.{length_part}
use Rattle.chars.specs.Chars.{chars, char_in, wide}
use Rattle.recording.specs.Lists.{AllOf, same}
use Rattle.recording.specs.Recording.{Bytes, Item, byte_items, entries_of}
use Rattle.recording.specs.Coloured.{Coloured, coloured_from}
use Rattle.recording.proofs.Lists.{same_equal}
use Rattle.recording.proofs.ItemsLaws.{values-coloured, data_items_from}
use Rattle.layout.proofs.StepLaws.{length-values}
use Rattle.writer.specs.declared.Cursor.{Cursor}
use Rattle.writer.specs.Write.{left}
use Rattle.view.proofs.AbsentLaws.{none_under}
use Rattle.view.specs.View.{among, any_under_of}
use Rattle.floor_runs.specs.Fates.{fates_from, Fated}
use Rattle.floor_runs.proofs.FateLaws.{same_labels, opens_none, IsUnder, all_under, fated_at, kept_run, starred-run, inside-run, kept_char, gone_char}
use Rattle.char_runs.specs.declared.Stretch.{Stretch}
use Rattle.char_runs.specs.Runs.{Passes, WholeUpTo, Covered}
use Rattle.char_runs.proofs.RunLaws.{newline_alone}
use Rattle.open_label.specs.declared.Open.{Open}
use Rattle.open_label.specs.Open.{Tells, Under}
use Rattle.open_label.proofs.OpenLaws.{told_open}
use Rattle.open_label.proofs.SameLaws.{same_lengths}
use Rattle.floor_runs.specs.declared.Run.{Run}
use Rattle.open_label.specs.declared.Walk.{Walk}
use Rattle.open_label.specs.Walk.{next_place}
use Rattle.floor_runs.specs.Runs.{copied_run_to, RunOf}
use Rattle.open_label.proofs.WalkLaws.{left_run_lem}

and_false : (a b : Bool) → b ≡ true → (a && not b) ≡ false
and_false true b h = rw h
and_false false b h = refl

and_true : (a b : Bool) → a ≡ true → b ≡ false → (a && not b) ≡ true
and_true a b h g = rw (h, g)

and_none : (a b : Bool) → a ≡ false → (a && b) ≡ false
and_none a b h = rw h

-- a place that is told by a distance
moved : (l d : Bytes) (xs : List Coloured) (fs : List Bytes) (at n to : ℕ) (k : Bool) → at + n ≡ to → Fated l d xs fs (at + n) (at + n) k → Fated l d xs fs to to k
moved l d xs fs at n to k e F = subst (λ (m : ℕ). Fated l d xs fs m m k) e F

module _ (l ds ns ts : List ℕ) (w : Walk) (end : ℕ) (h : w.c.at < end) (e : end ≤ length ds) (p : end ≤ next_place ns w.c) where
  abbrev at : ℕ
  at = w.c.at

  abbrev is : List Item
  is = left ds ns ts w.c

  abbrev there : Cursor
  there = record { at = end; k = w.c.k; d = 0; e = 0; t = 0 }

  -- ── the coloured bytes of the run
  module _ (s : List Bytes) (xs : List Coloured) (C : drop at xs ≡ coloured_from s is) where
    run_colours : (n : ℕ) → n ≤ end - at → take n (drop at xs) ≡ coloured_from s (byte_items (take n (part at end ds)))
    run_colours n b =
        ap (take n) (C ∙ ap (coloured_from s) (left_run_lem ds ns ts w.c there (omega (arith, h)) p refl))
        ∙ same_labels s (part at end ds) (left ds ns ts there) n (omega (arith, b, length_part at end ds e))

    closed : (n : ℕ) → n ≤ end - at → among l s ≡ false → any_under_of l (take n (drop at xs)) ≡ false
    closed n b g = ap (any_under_of l) (run_colours n b) ∙ none_under l s (byte_items (take n (part at end ds))) g (opens_none l (take n (part at end ds)))

    covered_all : (n : ℕ) → n ≤ end - at → among l s ≡ true → AllOf (IsUnder l) (take n (drop at xs))
    covered_all n b g = rw (run_colours n b) (all_under l s (take n (part at end ds)) g)

    long : length (drop at xs) ≡ length ds - at
    unfolding left
    long =
        ap length C ∙ sym (length-values (coloured_from s is)) ∙ ap length (values-coloured s is ∙ data_items_from (entries_of (drop w.c.k ns)) at ts (drop at ds)) ∙ length-drop at ds

  -- ── outside the label: whole characters are copied
  pub copied : (m : ℕ) → w.o.since ≡ 0 → WholeUpTo ds at end m → at < m → RunOf l ds is w.o at at true end (copied_run_to m)
  copied m z W g =
      record {
        further = g;
        before = W.to;
        order = omega arith;
        within = omega (arith, W.to, e);
        writes = λ s xs fs T C F.
            let i : at + (m - at) ≡ m = omega (arith, g) in
            let u = closed s xs C (m - at) (omega (arith, W.to)) (told_open l w.o s T ∙ rw (eq-eqb w.o.since 0 z)) in
            let r = kept_run l ds xs fs at (m - at) true F (omega (arith, i, W.to, e)) W.seam u in
            (moved l ds xs fs at (m - at) m true i r.0, r.1);
      }

  -- ── under the label: a 0A stays, whole characters up to it become stars
  pub newline : get_or ds at 0 ≡ 0x0A → RunOf l ds is w.o at at true end (copied_run_to (at + 1))
  newline z =
      let t : (char_in at ds).text ≡ 0x0A ∷ [] = same_equal (char_in at ds).text (0x0A ∷ []) (newline_alone ds at z) in
      let i : at + length (char_in at ds).text ≡ at + 1 = ap (λ (x : Bytes). at + length x) t in
      record {
        further = omega arith;
        before = omega (arith, h);
        order = omega arith;
        within = omega (arith, h, e);
        writes = λ s xs fs T C F.
            let own = take (length (char_in at ds).text) (drop at xs) in
            let k = kept_char l ds xs fs at true F (omega (arith, h, e)) (and_false (any_under_of l own) (same (char_in at ds).text (0x0A ∷ [])) (newline_alone ds at z)) in
            inside-run l ds xs fs at (at + 1) (at + 1) true (rw i at k) (omega arith) (omega arith);
      }

  pub starred : (r : Stretch) → (w.o.since ≡ 0 → ⊥) → Covered ds at end r → at < r.end
      → RunOf l ds is w.o at at true end (record { to = r.end; until = r.end; copy = false; stars = r.width })
  starred r z K g =
      record {
        further = g;
        before = K.to;
        order = omega arith;
        within = omega (arith, K.to, e);
        writes = λ s xs fs T C F.
            let i : at + (r.end - at) ≡ r.end = omega (arith, g) in
            let o : among l s ≡ true = told_open l w.o s T ∙ rw (ne_eqb w.o.since 0 z) in
            let n : r.end - at ≤ end - at = omega (arith, K.to) in
            let q = starred-run l ds xs fs at (r.end - at) true F (omega (arith, i, K.to, e)) K.seam (omega (arith, n, e, long s xs C)) (covered_all s xs C (r.end - at) n o) K.plain in
            (moved l ds xs fs at (r.end - at) r.end false i q.0, q.1 ∙ ap (λ (m : ℕ). replicate {A = ℕ} m 0x2A) (sym K.columns));
      }

  -- ── a character that goes on past the run
  module _ (P : Passes ds at end) (n : ℕ) (ln : n ≡ length (char_in at ds).text) (inn : at + n ≤ length ds) (t : Bool) (U : Under l w.o ((at + n) - at) is t) where
    own_under : (s : List Bytes) (xs : List Coloured) → Tells l w.o s → drop at xs ≡ coloured_from s is → any_under_of l (take (length (char_in at ds).text) (drop at xs)) ≡ t
    unfolding Under
    own_under s xs T C =
        let z : (at + n) - at ≡ length (char_in at ds).text = omega (arith, ln) in
        sym (U s T ∙ (λ i. any_under_of l (take (z i) (sym C i))))

    -- it is no 0A
    not_newline : same (char_in at ds).text (0x0A ∷ []) ≡ false
    not_newline = same_lengths (char_in at ds).text (0x0A ∷ []) (λ q. omega (arith, q, P, h))

    pub divided_gone : t ≡ true → (m : ℕ) → m ≡ wide (char_in at ds) → RunOf l ds is w.o at at true end (record { to = end; until = at + n; copy = false; stars = m })
    divided_gone q m ew =
        record {
          further = h;
          before = omega arith;
          order = omega (arith, P, ln);
          within = inn;
          writes = λ s xs fs T C F.
              let own = take (length (char_in at ds).text) (drop at xs) in
              let x = and_true (any_under_of l own) (same (char_in at ds).text (0x0A ∷ [])) (own_under s xs T C ∙ q) not_newline in
              let g = gone_char l ds xs fs at true F (omega (arith, h, e)) end h (omega (arith, P)) x in
              (subst (λ (j : ℕ). Fated l ds xs fs end (at + j) false) (sym ln) g.0, g.1 ∙ ap (λ (j : ℕ). replicate {A = ℕ} j 0x2A) (sym ew));
        }

    pub divided_kept : t ≡ false → RunOf l ds is w.o at at true end (record { to = end; until = at + n; copy = true; stars = 0 })
    divided_kept q =
        record {
          further = h;
          before = omega arith;
          order = omega (arith, P, ln);
          within = inn;
          writes = λ s xs fs T C F.
              let own = take (length (char_in at ds).text) (drop at xs) in
              let x = and_none (any_under_of l own) (not (same (char_in at ds).text (0x0A ∷ []))) (own_under s xs T C ∙ q) in
              let k = subst (λ (j : ℕ). Fated l ds xs fs at (at + j) true) (sym ln) (kept_char l ds xs fs at true F (omega (arith, h, e)) x) in
              inside-run l ds xs fs at end (at + n) true k (omega (arith, h)) (omega (arith, P, ln));
        }

-- ── on inside a character
module _ (l ds : List ℕ) (is : List Item) (o : Open) (at until : ℕ) (copy : Bool) where
  no_stars : (k : Bool) (x : Bytes) → cond k x [] ≡ cond k x (replicate 0 0x2A)
  no_stars true x = refl
  no_stars false x = refl

  pub inside : (end to : ℕ) → at < to → to ≤ end → to ≤ until → until ≤ length ds → RunOf l ds is o at until copy end (record { to = to; until = until; copy = copy; stars = 0 })
  inside end to a b c d =
      record {
        further = a;
        before = b;
        order = c;
        within = d;
        writes = λ s xs fs T C F.
            let r = inside-run l ds xs fs at to until copy F (omega (arith, a)) c in
            (r.0, r.1 ∙ no_stars copy (part at to ds));
      }

  -- where nothing is decided beyond the place, a run from there
  pub fresh : (end end' : ℕ) (r : Run) → until ≤ at → end ≤ end' → RunOf l ds is o at at true end r → RunOf l ds is o at until copy end' r
  fresh end end' r u b R =
      record {
        further = R.further;
        before = omega (arith, R.before, b);
        order = R.order;
        within = R.within;
        writes = λ s xs fs T C F.
            let q : until ≡ at = omega (arith, u, F.order) in
            R.writes s xs fs T C (fated_at l ds xs fs at true (omega (arith, F.order, F.within))
            (ap (λ (j : ℕ). drop j fs) (sym q) ∙ F.ahead ∙ (λ i. fates_from l (chars (drop (q i) ds)) (drop (q i) xs))));
      }
