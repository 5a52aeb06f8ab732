-- Writing what the floor is left, a turn at a time: what is written and what is to come are together the whole (`Written`, by `Progress` of the writer). A turn writes a run, and then the entries
-- behind it.
use Prim.Native.Nat.{ℕ, ◌+◌, ◌≤◌}
use native.Mathlib.Omega.{arith}
use mathlib.Core.Path.{◌≡◌, refl, sym, ap, subst, ◌∙◌}
use mathlib.Core.List.{List, [], ◌++◌, append-nil}
use lib.ListN.{length, drop}
use Rattle.buffer.specs.Place.{over_at}
use Rattle.recording.specs.Recording.{Bytes, Item, byte_items}
use Rattle.recording.specs.Coloured.{open_after}
use Rattle.recording.specs.Edit.{front, back}
use Rattle.recording.proofs.ItemsLaws.{data_bytes_lem}
use Rattle.writer.specs.declared.Cursor.{Cursor}
use Rattle.writer.specs.Write.{Out, out, blank, add, Fits, left}
use Rattle.writer.proofs.Laws.{fits_left, Long}
use Rattle.writer.proofs.Carry.{bytes_wrote}
use Rattle.writer.proofs.Progress.{Progress, progress_first, long_now, room_now, further}
use Rattle.view.specs.View.{drop_raws, floor_items}
use Rattle.open_label.specs.declared.Walk.{Walk}
use Rattle.open_label.specs.Walk.{next_place, first_walk_of}
use Rattle.floor_runs.specs.declared.Run.{Run}
use Rattle.floor_runs.specs.Fates.{to_come}
use Rattle.floor_runs.specs.Runs.{copied_run_to, run_bytes, RunOf}
use Rattle.floor_runs.proofs.PlacedLaws.{floor_placed, come_entries}
use Rattle.readers.specs.Entries.{Passed, EntriesPut, EntriesFit, EntriesWritten}
use Rattle.readers.proofs.FloorLaws.{q, fs, Going, first_left, going_first, behind, going_next, come_run_next, come_entries_next, come_end}

module _ (l ds ns ts : List ℕ) where
  abbrev pub whole : List Item
  whole = floor_items l (q l ds ns ts)

  -- what is to come at the head of a turn
  abbrev ahead : (w : Walk) (r : Run) → Going l ds ns ts w r → List Item
  ahead w r G = to_come l (drop w.c.at (fs l ds ns ts)) G.stack (left ds ns ts w.c)

  pub record Written (w : Walk) (r : Run) (o₀ o : Out) : Type 0 where
    pub going : Going l ds ns ts w r
    pub progress : Progress whole (ahead w r going) o₀ o

  module _ (od₀ oe₀ ot₀ : List ℕ) (room : Fits whole (blank od₀ oe₀ ot₀)) where
    abbrev o₀ : Out
    o₀ = blank od₀ oe₀ ot₀

    -- ── at first: the entries before the first byte
    first_two : whole ≡ drop_raws l [] (front 0 (left ds ns ts first_walk_of.c))
        ++ to_come l (fs l ds ns ts) (open_after [] (front 0 (left ds ns ts first_walk_of.c))) (back 0 (left ds ns ts first_walk_of.c))
    first_two =
        floor_placed l (q l ds ns ts) ∙ ap (to_come l (fs l ds ns ts) []) (sym (first_left l ds ns ts)) ∙ come_entries l (fs l ds ns ts) [] (left ds ns ts first_walk_of.c)

    pub first_fit_lem : EntriesFit l ds ns ts first_walk_of oe₀ ot₀
    unfolding out
    first_fit_lem =
        record {
          stack = [];
          tells = (refl, refl);
          bytes = od₀;
          room = fits_left (drop_raws l [] (front 0 (left ds ns ts first_walk_of.c)))
              (to_come l (fs l ds ns ts) (open_after [] (front 0 (left ds ns ts first_walk_of.c))) (back 0 (left ds ns ts first_walk_of.c))) o₀ (subst (λ (x : List Item). Fits x o₀) first_two room);
        }

    written_first : (w : Walk) (oe ot : List ℕ) → Passed l ds ns ts first_walk_of w → EntriesWritten l ds ns ts first_walk_of oe₀ ot₀ w oe ot
        → Written w (copied_run_to 0) o₀ (out od₀ oe ot w.c)
    unfolding EntriesWritten EntriesPut out going_first
    written_first w oe ot p e =
        let G = going_first l ds ns ts w p in
        record {
          going = G;
          progress =
              further whole whole o₀ o₀ (progress_first whole whole o₀ refl) room (drop_raws l [] (front 0 (left ds ns ts first_walk_of.c))) (ahead w (copied_run_to 0) G) (out od₀ oe ot w.c)
              (first_two ∙ (λ i. drop_raws l [] (front 0 (left ds ns ts first_walk_of.c))
              ++ to_come l (drop (sym p.here i) (fs l ds ns ts)) (open_after [] (front 0 (left ds ns ts first_walk_of.c))) (sym p.rest i)))
              (e [] (refl, refl) od₀);
        }

    -- the same, where the first place and the first run are told by equations
    pub begun : (w : Walk) (r : Run) (oe ot : List ℕ) → r ≡ copied_run_to 0 → Passed l ds ns ts first_walk_of w → EntriesWritten l ds ns ts first_walk_of oe₀ ot₀ w oe ot
        → Written w r o₀ (out od₀ oe ot w.c)
    begun w r oe ot g p e = subst (λ (x : Run). Written w x o₀ (out od₀ oe ot w.c)) (sym g) (written_first w oe ot p e)

    -- ── one turn
    module _ (w : Walk) (r : Run) (od oe ot : List ℕ) (W : Written w r o₀ (out od oe ot w.c)) where
      abbrev G : Going l ds ns ts w r
      G = W.going

      -- the buffers are as long as they were
      pub as_long : Long (out od oe ot w.c) o₀
      as_long = long_now whole (ahead w r G) o₀ (out od oe ot w.c) W.progress room

      pub written_end : length ds ≤ w.c.at → out od oe ot w.c ≡ add whole o₀
      written_end e =
          let s = W.progress in
          s.wrote ∙ ap (λ (x : List Item). add x o₀) (sym (append-nil s.done) ∙ ap (λ (x : List Item). s.done ++ x) (sym (come_end l ds ns ts w r G e)) ∙ s.joins)

      module _ (r' : Run) (R : RunOf l ds (left ds ns ts w.c) w.o w.c.at r.until r.copy (length ds) r') (b : r'.to ≤ next_place ns w.c) where
        abbrev run : Bytes
        run = run_bytes ds w.c.at r'

        -- there is room for the run; the cursor behind it is not known yet
        abbrev there : Cursor
        there = record { at = r'.to; k = w.c.k; d = 0; e = 0; t = 0 }

        pub run_room : w.c.d + length run ≤ length od
        unfolding out
        run_room =
            let e = come_run_next l ds ns ts w r G r' R b there refl refl in
            let f = fits_left (byte_items run) (to_come l (drop r'.to (fs l ds ns ts)) G.stack (left ds ns ts there)) (out od oe ot w.c)
            (subst (λ (x : List Item). Fits x (out od oe ot w.c)) e (room_now whole (ahead w r G) o₀ (out od oe ot w.c) W.progress room)) in
            omega (arith, f.data_bytes, ap length (data_bytes_lem run))

        module _ (c' : Cursor) (a : c'.at ≡ r'.to) (k : c'.k ≡ w.c.k) (dd : c'.d ≡ w.c.d + length run) (ee : c'.e ≡ w.c.e) (et : c'.t ≡ w.c.t)
            (od' : List ℕ) (eo : od' ≡ over_at w.c.d run od) where
          abbrev next : List Item
          next = to_come l (drop c'.at (fs l ds ns ts)) G.stack (left ds ns ts c')

          run_progress : Progress whole next o₀ (out od' oe ot c')
          run_progress =
              further whole (ahead w r G) o₀ (out od oe ot w.c) W.progress room (byte_items run) next (out od' oe ot c') (come_run_next l ds ns ts w r G r' R b c' a k)
              (bytes_wrote od od' oe ot run w.c c' eo dd ee et)

          abbrev entries : List Item
          entries = drop_raws l G.stack (front 0 (left ds ns ts c'))

          pub entries_fit : EntriesFit l ds ns ts (behind l ds ns ts w r G r' R b c' a k) oe ot
          entries_fit =
              record {
                stack = G.stack;
                tells = G.tells;
                bytes = od';
                room = fits_left entries (to_come l (drop c'.at (fs l ds ns ts)) (open_after G.stack (front 0 (left ds ns ts c'))) (back 0 (left ds ns ts c'))) (out od' oe ot c')
                    (subst (λ (x : List Item). Fits x (out od' oe ot c')) (come_entries l (drop c'.at (fs l ds ns ts)) G.stack (left ds ns ts c'))
                    (room_now whole next o₀ (out od' oe ot c') run_progress room));
              }

          pub written_next : (w' : Walk) (oe' ot' : List ℕ) → Passed l ds ns ts (behind l ds ns ts w r G r' R b c' a k) w'
              → EntriesWritten l ds ns ts (behind l ds ns ts w r G r' R b c' a k) oe ot w' oe' ot' → Written w' r' o₀ (out od' oe' ot' w'.c)
          unfolding EntriesWritten EntriesPut going_next
          written_next w' oe' ot' p e =
              let G' = going_next l ds ns ts w r G r' R b c' a k w' p in
              record {
                going = G';
                progress =
                    further whole next o₀ (out od' oe ot c') run_progress room entries (ahead w' r' G') (out od' oe' ot' w'.c)
                    (come_entries_next l ds ns ts w r G r' R b c' a k w' p) (e G.stack G.tells od');
              }
