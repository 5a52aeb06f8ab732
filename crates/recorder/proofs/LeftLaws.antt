-- A call that only the sizes of what it leaves can refuse (`judged_by_size`): where it returns it has the whole promise at once (`left_refused`, `left_settled`, `left_written`), and it has room to write (`left_room`).
-- Over any items: the sizes that the code took are theirs (`Sized`); all of a recording has its own (`whole_sized`).
use Rattle.recording.specs.Check.{fault_of}
use Rattle.std.specs.Prelude as Std
use Prim.Native.Nat.{ℕ, ◌*◌, ◌≤◌}
use mathlib.Core.Path.{◌≡◌, refl, sym, subst, ◌∙◌}
use mathlib.Core.List.{List, [], ◌∷◌}
use lib.ListN.{length}
use Rattle.buffer.specs.Place.{over}
use Rattle.recording.specs.declared.Refusal.{Refusal}
use Rattle.recording.specs.Recording.{recording, entries_of, Item, items, data_of, text_of, encode}
use Rattle.recording.specs.Refusals.{number_of_refusal, first_of, recording_fault}
use Rattle.recording.specs.Outcome.{Result, over_limit, no_room, refusal_of, Lent, lent_after, room_in, Promised}
use Rattle.recording.proofs.OutcomeLaws.{stops_sizes, is_done, refused_answer, refused_lent, done_answer}
use Rattle.recording.proofs.SizeLaws.{entry_count, count_numbers}
use borrow.Author.Tests.{ltb-false}
use Rattle.recording.proofs.FaultLaws.{no_fault, inside_of}
use Rattle.recording.specs.Share.{Inside}
use Rattle.share.specs.Sizes.{own_size_of, Stands}
use Rattle.share.proofs.SizeLaws.{own_whole, own_less}
use Rattle.writer.specs.declared.Cursor.{Cursor}
use Rattle.writer.specs.Write.{out, add, blank, Fits}
use Rattle.writer.specs.Sizes.{sizes_fault, room_of_state}
use Rattle.writer.proofs.Steps.{data_size, from_start}
use Rattle.writer.proofs.Sizes.{same_verdict, size_refused, size_granted, fits_blank, numbers_items, quads_of}
use Rattle.recorder.specs.Recorder.{lent_of, leaves, no_faults, judged_by_size}

-- the items have d data bytes, e entry numbers and a text for which t stands in this room
pub record Sized (room : ℕ) (is : List Item) (d e t : ℕ) : Type 0 where
  pub data_size : d ≡ length (data_of is)
  pub entry_size : e ≡ 4 * entry_count is
  pub text_size_lem : Stands room (length (encode is).text) t

-- ── the sizes are settled, and the items written
module _ (is : List Item) (od oe ot : List ℕ) where
  abbrev b : Lent
  b = lent_of od oe ot

  abbrev result : Result
  result = leaves (encode is)

  judged : refusal_of no_faults (room_in b) result ≡ first_of (over_limit (encode is) ∷ no_room (room_in b) result ∷ [])
  judged = stops_sizes no_faults (room_in b) result refl refl refl refl refl refl

  module _ (d e t : ℕ) (z : Sized (length ot) is d e t) (v : Std.Result Unit Refusal) (g : fault_of v ≡ sizes_fault d e t 0 (room_of_state (length od) (length oe) (length ot) 0)) where
    data_is : d ≡ length (encode is).data_bytes
    unfolding encode
    data_is = z.data_size

    entries_are : e ≡ length (encode is).entry_numbers
    unfolding encode
    entries_are = z.entry_size ∙ sym (count_numbers is 0 [] [])

    -- the text's own size would settle it alike
    verdict : fault_of v ≡ sizes_fault d e (length (encode is).text) 0 (room_of_state (length od) (length oe) (length ot) 0)
    verdict = g ∙ same_verdict d e (length (encode is).text) t 0 (room_of_state (length od) (length oe) (length ot) 0) z.text_size_lem

    pub left_refused : (f : Refusal) → v ≡ Std.Err f → Promised (judged_by_size (room_in b) is) b b (Std.Err f)
    unfolding judged_by_size
    left_refused f q =
        let n : refusal_of no_faults (room_in b) result ≡ number_of_refusal f = judged ∙ size_refused result (room_in b) v f d e (length (encode is).text) 0 verdict q data_is entries_are refl refl in
        (refused_answer no_faults (room_in b) result f n, refused_lent no_faults (room_in b) result f b n)

    -- ── and there is room
    module _ (q : v ≡ (Std.Ok tt)) where
      fit : first_of (over_limit (encode is) ∷ no_room (room_in b) result ∷ []) ≡ 0
      fit = size_granted result (room_in b) v d e (length (encode is).text) 0 verdict q data_is entries_are refl refl

      pub left_room : Fits is (blank od oe ot)
      left_room = fits_blank is [] 0 od oe ot (room_in b) refl refl refl fit

      -- what is written is what the answer says, by any numbers that are the sizes
      answered : (x y : ℕ) → x ≡ length (encode is).data_bytes → y ≡ length (encode is).entry_numbers
          → (od' oe' ot' : List ℕ) (c : Cursor) → out od' oe' ot' c ≡ add is (blank od oe ot)
          → Promised (judged_by_size (room_in b) is) b (lent_of od' oe' ot') (Std.Ok (record { «data» = x; entries = y; text = c.t; number = 0 }))
      unfolding judged_by_size lent_after encode over
      answered x y ex ey od' oe' ot' c w =
          let s = from_start is od oe ot od' oe' ot' c w in (
            done_answer no_faults (room_in b) result x y c.t 0 (judged ∙ fit) ex ey s.5 refl,
            rw (is_done no_faults (room_in b) result (judged ∙ fit)) (λ i. record { data_bytes = s.0 i; entry_numbers = s.1 i; text = s.2 i; lines = [] }),
          )

      -- those that were settled
      pub left_settled : (od' oe' ot' : List ℕ) (c : Cursor) → out od' oe' ot' c ≡ add is (blank od oe ot)
          → Promised (judged_by_size (room_in b) is) b (lent_of od' oe' ot') (Std.Ok (record { «data» = d; entries = e; text = c.t; number = 0 }))
      left_settled = answered d e data_is entries_are

      -- or the place behind what is written
      pub left_written : (od' oe' ot' : List ℕ) (c : Cursor) → out od' oe' ot' c ≡ add is (blank od oe ot)
          → Promised (judged_by_size (room_in b) is) b (lent_of od' oe' ot') (Std.Ok (record { «data» = c.d; entries = c.e; text = c.t; number = 0 }))
      unfolding encode
      left_written od' oe' ot' c w =
          let s = from_start is od oe ot od' oe' ot' c w in
          answered c.d c.e s.3 s.4 od' oe' ot' c w

-- ── the sizes of all of a recording: its own, and a text that has each label a single time
pub whole_sized : (ds ns ts : List ℕ) (room t : ℕ) → recording_fault (recording ds ns ts) ≡ 0 → Stands room (own_size_of ts (entries_of ns)) t
    → Sized room (items (recording ds ns ts)) (length ds) (length ns) t
whole_sized ds ns ts room t h e =
    record {
      data_size = sym (data_size ds ns ts);
      entry_size = sym (numbers_items ds ns ts (quads_of ds ns ts h)) ∙ count_numbers (items (recording ds ns ts)) 0 [] [];
      text_size_lem = subst (λ (k : ℕ). Stands room k t) (own_whole ds ns ts h) e;
    }

-- what `own_size` asks
module _ (ds ns ts : List ℕ) (h : recording_fault (recording ds ns ts) ≡ 0) where
  pub own_bounds : (length ns ≤ 16384) × (length ts ≤ 65536) × Inside ts (entries_of ns)
  own_bounds =
      let f = no_fault (recording ds ns ts) h in
      (ltb-false 16384 (length ns) f.entry_numbers, ltb-false 65536 (length ts) f.text, inside_of (entries_of ns) 0 ds ts f.entries)

  pub own_at_most : (n : ℕ) → n ≡ length (text_of (items (recording ds ns ts))) → own_size_of ts (entries_of ns) ≤ n
  own_at_most n e = rw e (own_less ds ns ts h)
