-- The entries at a place of the content, one after another, as they are passed (`Passing`) and as what the floor is left of them is written (`Putting`).
-- The idea: both carry the entries passed as a list, so what is open behind them is known for any labels open before them, and those with the entries still to come are all of the place.
-- What is written has no data: so it is the same whatever the data buffer holds (`any_data`), and room in one is room enough.
use Prim.Native.Nat.{ℕ, ◌+◌, ◌≤◌, ◌<◌}
use native.Mathlib.Omega.{arith}
use mathlib.Core.Bool.{Bool, true, false}
use mathlib.Core.Path.{◌≡◌, refl, sym, ap, ◌∙◌}
use mathlib.Core.List.{List, [], ◌∷◌, ◌++◌, append_assoc, append-nil}
use lib.ListN.{length, take, drop}
use Rattle.buffer.specs.Place.{over_at}
use Rattle.buffer.proofs.Laws.{over_none}
use Rattle.recording.specs.declared.Entry.{Entry}
use Rattle.recording.specs.Recording.{Bytes, entries_of, Item, data_of}
use Rattle.recording.specs.Coloured.{open_after}
use Rattle.recording.specs.Edit.{front, back}
use Rattle.recording.specs.Refusals.{bad_shape_of}
use Rattle.recording.proofs.EditLaws.{open_append, data_front}
use Rattle.writer.specs.declared.Cursor.{Cursor}
use Rattle.writer.specs.Write.{Out, out, add, Fits, numbers_for, text_for, left, item_at}
use Rattle.share.specs.Placed.{placed_from}
use Rattle.writer.proofs.Laws.{same_out, fits_left, add-append}
use Rattle.writer.proofs.Carry.{is_entry, add-nil, bytes_wrote, turn_wrote, room_turn, same_room}
use Rattle.writer.proofs.Progress.{Progress, room_now, long_now}
use Rattle.view.specs.View.{drop_raws}
use Rattle.view.proofs.DropLaws.{drop_data}
use Rattle.open_label.specs.declared.Walk.{Walk}
use Rattle.open_label.specs.Open.{Tells, Opened, Drops}
use Rattle.open_label.specs.Walk.{next_place, Arrived}
use Rattle.open_label.proofs.WalkLaws.{entry_whole, entry_fine, entry_here, front_next, back_next, ready_next, no_front, same_back}
use Rattle.readers.specs.Entries.{Passed, shown, EntriesPut, EntriesFit, EntriesWritten}

-- ── passing them
-- from w, where no entry of the place is passed, to v: the next entry's position is p
pub record Passing (l ds ns ts : List ℕ) (w v : Walk) (p : ℕ) : Type 0 where
  pub gone : List Item
  pub joins : gone ++ front 0 (left ds ns ts v.c) ≡ front 0 (left ds ns ts w.c)
  pub behind : back 0 (left ds ns ts v.c) ≡ back 0 (left ds ns ts w.c)
  pub tells : (s : List Bytes) → Tells l w.o s → Tells l v.o (open_after s gone)
  pub arrived : Arrived ds ns ts v
  pub here : v.c.at ≡ w.c.at
  pub next : p ≡ next_place ns v.c

pub passing_first : (l ds ns ts : List ℕ) (w : Walk) (p : ℕ) → Arrived ds ns ts w → p ≡ next_place ns w.c → Passing l ds ns ts w w p
passing_first l ds ns ts w p a n = record { gone = []; joins = refl; behind = refl; tells = λ s h. h; arrived = a; here = refl; next = n }

module _ (l ds ns ts : List ℕ) (w v : Walk) (p : ℕ) (s : Passing l ds ns ts w v p) where
  -- an entry is next
  module _ (more : p ≤ v.c.at) where
    near : next_place ns v.c ≤ v.c.at
    near = omega (arith, more, s.next)

    pub whole : v.c.k + 4 ≤ length ns
    whole = entry_whole ds ns ts v.c s.arrived.ready near

    module _ (e : Entry) (q : entries_of (drop v.c.k ns) ≡ e ∷ entries_of (drop (v.c.k + 4) ns)) where
      pub ok : (bad_shape_of e.kind e.start e.len ≡ false) × (e.start + e.len ≤ length ts) × (e.position ≡ v.c.at)
      ok =
          let f = entry_fine ds ns ts v.c s.arrived.ready near e q in (f.1, f.2, entry_here ds ns ts v.c s.arrived.ready near e q)

      -- what `opened` asks
      pub may_open : length ns ≤ 18446744073709551615 → (e.start + e.len ≤ length ts) × (v.o.depth < 18446744073709551615)
      may_open big = (ok.1, omega (arith, big, whole, s.arrived.depth))

      -- behind it
      module _ (v' : Walk) (a : v'.c.at ≡ v.c.at) (k : v'.c.k ≡ v.c.k + 4) where
        pub front-step : front 0 (left ds ns ts v.c) ≡ item_at ts e ∷ front 0 (left ds ns ts v'.c)
        front-step = front_next ds ns ts v.c s.arrived.ready near e q v'.c a k

        pub passing_next : (p' : ℕ) → Opened l (item_at ts e) v.o v'.o → v'.o.depth ≤ v.o.depth + 1 → p' ≡ next_place ns v'.c → Passing l ds ns ts w v' p'
        unfolding Opened
        passing_next p' o d n =
            record {
              gone = s.gone ++ (item_at ts e ∷ []);
              joins = append_assoc s.gone (item_at ts e ∷ []) (front 0 (left ds ns ts v'.c)) ∙ ap (λ (is : List Item). s.gone ++ is) (sym front-step) ∙ s.joins;
              behind = sym (back_next ds ns ts v.c s.arrived.ready near e q v'.c a k) ∙ s.behind;
              tells = λ st h. rw (open_append st s.gone (item_at ts e ∷ [])) (o (open_after st s.gone) (s.tells st h));
              arrived = record { ready = ready_next ds ns ts v.c s.arrived.ready near e q v'.c a k; depth = omega (arith, d, k, s.arrived.depth) };
              here = a ∙ s.here;
              next = n;
            }

  -- none is left
  module _ (past : v.c.at < p) where
    beyond : v.c.at < next_place ns v.c
    beyond = omega (arith, past, s.next)

    pub none_left : front 0 (left ds ns ts v.c) ≡ []
    none_left = no_front ds ns ts v.c s.arrived.ready beyond

    all_gone : s.gone ≡ front 0 (left ds ns ts w.c)
    all_gone = sym (append-nil s.gone) ∙ ap (λ (is : List Item). s.gone ++ is) (sym none_left) ∙ s.joins

    pub passed : Passed l ds ns ts w v
    passed =
        record {
          standing = record { arrived = s.arrived; passed = beyond };
          here = s.here;
          rest = sym (same_back ds ns ts v.c s.arrived.ready beyond) ∙ s.behind;
          tells = λ st h. rw all_gone at (s.tells st h);
        }

-- ── writing them
-- items without data are put the same whatever the data buffer holds
any_data : (is : List Item) (od oe ot oe' ot' : List ℕ) (c c' : Cursor) → data_of is ≡ [] → out od oe' ot' c' ≡ add is (out od oe ot c) → EntriesPut is oe ot c oe' ot' c'
unfolding EntriesPut out add
any_data is od oe ot oe' ot' c c' none e b =
    same_out (out b oe' ot' c') (add is (out b oe ot c)) (sym (over_none c.d b) ∙ ap (λ (d : List ℕ). over_at c.d d b) (sym none)) (ap (λ (o : Out). o.entry_numbers) e)
    (ap (λ (o : Out). o.text) e) (ap (λ (o : Out). o.d) e) (ap (λ (o : Out). o.e) e) (ap (λ (o : Out). o.t) e)

-- an entry that goes, and one that stays
pub gone_put : (goes : Bool) (x : Item) (oe ot : List ℕ) (c c' : Cursor) → goes ≡ true → c'.d ≡ c.d → c'.e ≡ c.e → c'.t ≡ c.t → EntriesPut (shown goes x) oe ot c oe ot c'
unfolding EntriesPut
gone_put goes x oe ot c c' g d e t = rw g (λ od. bytes_wrote od od oe ot [] c c' (sym (over_none c.d od)) (omega (arith, d)) e t)

pub kept_put : (goes : Bool) (ts : List ℕ) (n : Entry) (oe ot oe' ot' : List ℕ) (c c' : Cursor) → goes ≡ false
    → oe' ≡ over_at c.e (numbers_for c.d oe ot c (item_at ts n)) oe → ot' ≡ over_at c.t (text_for c.d oe ot c (item_at ts n)) ot
    → c'.d ≡ c.d → c'.e ≡ c.e + 4 → c'.t ≡ c.t + length (text_for c.d oe ot c (item_at ts n)) → EntriesPut (shown goes (item_at ts n)) oe ot c oe' ot' c'
unfolding EntriesPut
kept_put goes ts n oe ot oe' ot' c c' g ee et d e t =
    rw g (λ od. turn_wrote od od oe oe' ot ot' [] c c c' (item_at ts n) (is_entry ts n) (sym (over_none c.d od)) (omega arith) refl refl ee et d e t)

-- the entries passed are written, but for those that go; room for all of them was there
pub record Putting (l ds ns ts : List ℕ) (w v : Walk) (p : ℕ) (oe₀ ot₀ oe ot : List ℕ) : Type 0 where
  pub passing : Passing l ds ns ts w v p
  pub fit : EntriesFit l ds ns ts w oe₀ ot₀
  pub done : List Item
  pub wrote : out fit.bytes oe ot v.c ≡ add done (out fit.bytes oe₀ ot₀ w.c)
  pub rest : (s : List Bytes) → Tells l w.o s
      → done ++ drop_raws l (open_after s passing.gone) (front 0 (left ds ns ts v.c)) ≡ drop_raws l s (front 0 (left ds ns ts w.c))

pub putting_first : (l ds ns ts : List ℕ) (w : Walk) (p : ℕ) (oe ot : List ℕ) → Arrived ds ns ts w → EntriesFit l ds ns ts w oe ot → p ≡ next_place ns w.c → Putting l ds ns ts w w p oe ot oe ot
unfolding passing_first
putting_first l ds ns ts w p oe ot a f n =
    record { passing = passing_first l ds ns ts w p a n; fit = f; done = []; wrote = add-nil (out f.bytes oe ot w.c); rest = λ s h. refl }

module _ (l ds ns ts : List ℕ) (w v : Walk) (p : ℕ) (oe₀ ot₀ oe ot : List ℕ) (s : Putting l ds ns ts w v p oe₀ ot₀ oe ot) where
  -- what the floor is left of the place's entries, and of those to come, where the labels st are open at first
  abbrev whole_of : List Bytes → List Item
  whole_of st = drop_raws l st (front 0 (left ds ns ts w.c))

  abbrev to_come : List Bytes → List Item
  to_come st = drop_raws l (open_after st s.passing.gone) (front 0 (left ds ns ts v.c))

  -- the buffers at first and now
  abbrev first : Out
  first = out s.fit.bytes oe₀ ot₀ w.c

  abbrev current : Out
  current = out s.fit.bytes oe ot v.c

  progress : Progress (whole_of s.fit.stack) (to_come s.fit.stack) first current
  progress = record { done = s.done; wrote = s.wrote; joins = s.rest s.fit.stack s.fit.tells }

  -- there is room for what is to come, and for what is done; the buffers are as long as they were
  room : Fits (to_come s.fit.stack) current
  room = room_now (whole_of s.fit.stack) (to_come s.fit.stack) first current progress s.fit.room

  room_done : Fits s.done first
  room_done =
      fits_left s.done (to_come s.fit.stack) first (rw (s.rest s.fit.stack s.fit.tells) s.fit.room)

  pub long : (length oe ≡ length oe₀) × (length ot ≡ length ot₀)
  unfolding out
  long =
      let g = long_now (whole_of s.fit.stack) (to_come s.fit.stack) first current progress s.fit.room in (g.entry_numbers, g.text)

  -- an entry is next
  module _ (more : p ≤ v.c.at) (e : Entry) (q : entries_of (drop v.c.k ns) ≡ e ∷ entries_of (drop (v.c.k + 4) ns)) (goes : Bool) (drops : Drops e v.o goes) where
    -- what the floor is left of the entries behind it
    abbrev later_of : Walk → List Bytes → List Item
    later_of v' st = drop_raws l (open_after st (s.passing.gone ++ (item_at ts e ∷ []))) (front 0 (left ds ns ts v'.c))

    parted : (v' : Walk) → v'.c.at ≡ v.c.at → v'.c.k ≡ v.c.k + 4 → (st : List Bytes) → Tells l w.o st
        → to_come st ≡ shown goes (item_at ts e) ++ later_of v' st
    unfolding Drops
    parted v' a k st h =
        ap (drop_raws l (open_after st s.passing.gone)) (front-step l ds ns ts w v p s.passing more e q v' a k)
        ∙ drops l ts (open_after st s.passing.gone) (front 0 (left ds ns ts v'.c)) (s.passing.tells st h)
        ∙ ap (λ (t : List Bytes). shown goes (item_at ts e) ++ drop_raws l t (front 0 (left ds ns ts v'.c))) (sym (open_append st s.passing.gone (item_at ts e ∷ [])))

    -- a walk behind it
    abbrev after : Walk
    after = record { c = record { at = v.c.at; k = v.c.k + 4; d = 0; e = 0; t = 0 }; o = v.o }

    room_one : Fits (shown goes (item_at ts e)) current
    room_one =
        fits_left (shown goes (item_at ts e)) (later_of after s.fit.stack) current
        (rw (parted after refl refl s.fit.stack s.fit.tells) at room)

    room_kept : goes ≡ false → Fits (item_at ts e ∷ []) current
    room_kept g = rw g at room_one

    -- what `put_unless` asks
    pub may_put : length ns ≤ 18446744073709551615
        → ((bad_shape_of e.kind e.start e.len ≡ false) × (e.start + e.len ≤ length ts) × (e.position ≡ v.c.at))
        × (((v.c.d ≤ 1048576) × (v.c.k + 4 ≤ 18446744073709551615))
        × (goes ≡ false → (v.c.e + 4 ≤ length oe) × (v.c.t + length (text_for v.c.d oe ot v.c (item_at ts e)) ≤ length ot) × (v.c.t ≤ 65536)
        × (placed_from 0 [] (entries_of (take v.c.e oe)) ≡ true)))
    unfolding out
    may_put big =
        let f = ok l ds ns ts w v p s.passing more e q in (
          f,
          (
            (omega (arith, room_one.data_limit_lem), omega (arith, big, whole l ds ns ts w v p s.passing more)),
            (λ g.
                let r = room_turn s.fit.bytes oe ot [] v.c (item_at ts e) (is_entry ts e) (room_kept g) in
                let m = same_room oe ot v.c v.c (v.c.d + 0) (item_at ts e) (omega arith) refl refl in
                (r.entry_numbers, omega (arith, r.text, m), omega (arith, r.text_limit_lem), r.placed)),
          ),
        )

    pub putting_next : (v' : Walk) (p' : ℕ) (oe' ot' : List ℕ) → v'.c.at ≡ v.c.at → v'.c.k ≡ v.c.k + 4 → EntriesPut (shown goes (item_at ts e)) oe ot v.c oe' ot' v'.c
        → Opened l (item_at ts e) v.o v'.o → v'.o.depth ≤ v.o.depth + 1 → p' ≡ next_place ns v'.c → Putting l ds ns ts w v' p' oe₀ ot₀ oe' ot'
    unfolding EntriesPut passing_next
    putting_next v' p' oe' ot' a k put o d n =
        record {
          passing = passing_next l ds ns ts w v p s.passing more e q v' a k p' o d n;
          fit = s.fit;
          done = s.done ++ shown goes (item_at ts e);
          wrote = put s.fit.bytes ∙ ap (add (shown goes (item_at ts e))) s.wrote ∙ add-append s.done (shown goes (item_at ts e)) first room_done;
          rest = λ st h. append_assoc s.done (shown goes (item_at ts e)) (later_of v' st)
              ∙ ap (λ (is : List Item). s.done ++ is) (sym (parted v' a k st h)) ∙ s.rest st h;
        }

  -- none is left
  module _ (past : v.c.at < p) where
    all_done : (st : List Bytes) → Tells l w.o st → s.done ≡ whole_of st
    all_done st h =
        sym (append-nil s.done) ∙ ap (λ (is : List Item). s.done ++ drop_raws l (open_after st s.passing.gone) is) (sym (none_left l ds ns ts w v p s.passing past)) ∙ s.rest st h

    pub written : EntriesWritten l ds ns ts w oe₀ ot₀ v oe ot
    unfolding EntriesWritten
    written st h =
        any_data (whole_of st) s.fit.bytes oe₀ ot₀ oe ot w.c v.c (drop_data l st (front 0 (left ds ns ts w.c)) ∙ data_front 0 (left ds ns ts w.c))
        (s.wrote ∙ ap (λ (is : List Item). add is first) (all_done st h))
