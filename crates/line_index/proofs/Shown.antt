-- All that Q-7 asks to be shown (`specs/Shown.antt`).
-- A reply that is not refused has passed every test (`line_passed`, `place_passed`), and one that passes them has its numbers (`line_numbers_lem`, `place_numbers`).
use Prim.Native.Nat.{ℕ, ◌+◌, ◌-◌, ◌≤◌, ◌<◌}
use native.Mathlib.Omega.{arith}
use mathlib.Core.Bool.{true, not, ◌||◌}
use mathlib.Core.Path.{◌≡◌, refl, sym, ap, subst, ◌∙◌}
use mathlib.Core.List.{List, [], ◌∷◌, ◌++◌}
use lib.Dec.{leb, ltb}
use lib.ListN.{length, take, drop, length-append}
use lib.Seq.{take-append_seam, drop-append-add, drop-drop}
use borrow.Author.Tests.{ltb-false, leb-false, le-ltb, lt-leb}
use Rattle.buffer.specs.Place.{over, part}
use Rattle.buffer.proofs.Laws.{take_over, length_over}
use Rattle.recording.specs.Lists.{same}
use Rattle.recording.proofs.Lists.{not_false, same_self}
use Rattle.recording.specs.Recording.{Bytes, Recording}
use Rattle.recording.specs.Refusals.{first_of, refuse_if, recording_fault}
use Rattle.recording.specs.Outcome.{Outcome, done, over_limit, no_room, refusal_of, settle, lent_after, returned, Promised, content_faults, line_room, lent_lines, nothing_left_of, Replied, replied}
use Rattle.recording.proofs.OutcomeLaws.{is_done, refusal_told, refusal-replied, content_own, content_done}
use Rattle.recording.proofs.FaultLaws.{first_of-zero, refuse_if-zero, Granted, granted}
use Rattle.line_index.specs.Starts.{starts_from, line_starts, line_span, Place, place_for}
use Rattle.line_index.specs.Index.{short_fault, index_fault, extend_fault, line_fault, place_fault, index_result, build_outcome, extend_outcome, line_replied, place_replied}
use Rattle.line_index.specs.Shown.{Extending, Built, AfterAppend, Lines, LineReply, EveryOffset, LineOfPlace, PlaceOfLine, Turned}
use Rattle.line_index.proofs.StartLaws.{extend_is_build, first_is, end_inner, end_last, end_le, end_newline, place_line, place_start, place_end, place_only, place_unique}
use Rattle.line_index.proofs.LineLaws.{pieces_split, lines_joined, lines_count, line_bytes_lem, line_clean}
use Rattle.line_index.proofs.CallLaws.{fault_is, room_left}

-- ── extending
pub extending : Extending
unfolding extend_outcome build_outcome
extending r earlier ix used v u e =
    let d = r.data_bytes in
    let s : same (take used ix) (line_starts (take earlier d)) ≡ true = ap (λ (l : List ℕ). same l (line_starts (take earlier d))) e ∙ same_self (line_starts (take earlier d)) in
    ap (λ (n : ℕ). settle (content_faults r n) (line_room (length ix)) (index_result d)) (fault_is d earlier ix used u v s)

pub built : Built
unfolding build_outcome lent_after index_result short_fault returned over
built r ix ix' a p z =
    let d = r.data_bytes in
    let f = content_faults r (short_fault d (length ix)) in
    let n : refusal_of f (line_room (length ix)) (index_result d) ≡ 0
    = sym (refusal_told f (line_room (length ix)) (index_result d)) ∙ sym (ap (λ x. x.refusal) p.0) ∙ z in
    let G : Granted f (line_room (length ix)) (index_result d) = granted f (line_room (length ix)) (index_result d) n in
    let w : build_outcome r (length ix) ≡ done (index_result d) = is_done f (line_room (length ix)) (index_result d) n in (
      record {
        fits = ltb-false (length ix) (length (line_starts d)) (refuse_if-zero (ltb (length ix) (length (line_starts d))) 35 G.own);
        list = ap (λ x. x.lines) (p.1 ∙ ap (λ (u : Outcome). lent_after u (lent_lines ix)) w);
      },
      ap (λ x. x.number) (p.0 ∙ ap returned w),
    )

-- a longer text over a shorter one is as over what was there before
over_again : (a b old : List ℕ) → length b ≤ length a → over a (over b old) ≡ over a old
unfolding over
over_again a b old h =
    let m : ℕ = length a - length b in
    let e : length a ≡ length b + m = omega arith in
    ap (λ (l : List ℕ). a ++ l)
    (ap (λ (n : ℕ). drop n (b ++ drop (length b) old)) e ∙ drop-append-add b (drop (length b) old) m ∙ drop-drop m (length b) old ∙ ap (λ (n : ℕ). drop n old) (sym e))

pub after_append : AfterAppend
after_append r q x e ix ix' ix'' b H p =
    let d = r.data_bytes in
    let used : ℕ = length (line_starts d) in
    let l : length ix' ≡ length ix = ap length H.list ∙ length_over (line_starts d) ix H.fits in
    let front : take (length d) q.data_bytes ≡ d = ap (λ (y : Bytes). take (length d) y) e ∙ take-append_seam d x in
    let long : length q.data_bytes ≡ length d + length x = ap length e ∙ length-append d x in
    let same_out : extend_outcome q (length d) ix' used ≡ build_outcome q (length ix')
    = extending q (length d) ix' used (omega (arith, long)) (omega (arith, l, H.fits))
    (ap (λ (y : List ℕ). take used y) H.list ∙ take_over (line_starts d) ix ∙ ap line_starts (sym front)) in
    let more : length (line_starts d) ≤ length (line_starts q.data_bytes)
    = omega (
      arith,
      ap length (extend_is_build (length d) q.data_bytes (omega (arith, long))),
      ap (λ (y : Bytes). length (line_starts y)) front,
      length-append (line_starts (take (length d) q.data_bytes)) (starts_from (length d) (drop (length d) q.data_bytes)),
    ) in (
      p.0 ∙ ap returned same_out ∙ ap (λ (n : ℕ). returned (build_outcome q n)) l,
      λ z.
          let B = built q ix' ix'' b (subst (λ (u : Outcome). Promised u (lent_lines ix') (lent_lines ix'') b) same_out p) z in
          record {
            fits = omega (arith, l, B.0.fits);
            list = B.0.list ∙ ap (λ (y : List ℕ). over (line_starts q.data_bytes) y) H.list ∙ over_again (line_starts q.data_bytes) (line_starts d) ix more;
          },
    )

-- ── lines
pub lines : (d : Bytes) → Lines d
lines d =
    record {
      split = pieces_split d;
      joined = lines_joined d;
      count = lines_count d;
      line = line_bytes_lem d;
      clean = line_clean d;
      inner = λ n h. (end_newline d n h, first_is d (n + 1) ∙ end_inner d n h ∙ omega arith);
      last = end_last d;
    }

-- ── places
pub every_offset : EveryOffset
every_offset d o h = record { there = place_line d o h; offset = place_start d o h; within = place_end d o h; only = place_unique d o }

-- ── a question that is not refused has passed all tests, and one that passes them has its numbers
module _ (r : Recording) (ix : List ℕ) where
  abbrev d : Bytes
  d = r.data_bytes

  index_passed : index_fault d ix ≡ 0 → same ix (line_starts d) ≡ true
  unfolding index_fault
  index_passed h = not_false (same ix (line_starts d)) (refuse_if-zero (not (same ix (line_starts d))) 35 h)

  module _ (n : ℕ) where
    line_passed : (line_replied r ix n).refusal ≡ 0 → (recording_fault r ≡ 0) × (same ix (line_starts d) ≡ true) × (n < length (line_starts d))
    unfolding line_replied line_fault
    line_passed h =
        let f = content_faults r (line_fault d ix n) in
        let G = granted f (line_room 0) nothing_left_of (sym (refusal-replied f (line_room 0) nothing_left_of (line_span d n).first (line_span d n).end) ∙ h) in
        let o = first_of-zero (index_fault d ix) (refuse_if (leb (length (line_starts d)) n) 37 ∷ []) G.own in
        let l = first_of-zero (refuse_if (leb (length (line_starts d)) n) 37) [] o.1 in
        (G.content, index_passed o.0, leb-false (length (line_starts d)) n (refuse_if-zero (leb (length (line_starts d)) n) 36 l.0))

    place_passed : (place_replied r ix n).refusal ≡ 0 → (recording_fault r ≡ 0) × (same ix (line_starts d) ≡ true) × (n ≤ length d)
    unfolding place_replied place_fault
    place_passed h =
        let f = content_faults r (place_fault d ix n) in
        let G = granted f (line_room 0) nothing_left_of (sym (refusal-replied f (line_room 0) nothing_left_of (place_for d n).line (place_for d n).column) ∙ h) in
        let o = first_of-zero (index_fault d ix) (refuse_if (ltb (length d) n) 37 ∷ []) G.own in
        let l = first_of-zero (refuse_if (ltb (length d) n) 37) [] o.1 in
        (G.content, index_passed o.0, ltb-false (length d) n (refuse_if-zero (ltb (length d) n) 36 l.0))

    module _ (a : recording_fault r ≡ 0) (s : same ix (line_starts d) ≡ true) where
      line_numbers_lem : n < length (line_starts d) → line_replied r ix n ≡ record { refusal = 0; first = (line_span d n).first; second = (line_span d n).end }
      unfolding line_replied line_fault index_fault replied over_limit no_room
      line_numbers_lem h = rw (content_done r (line_fault d ix n) (line_room 0) nothing_left_of a (rw (s, lt-leb (length (line_starts d)) n h)) refl)

      place_numbers : n ≤ length d → place_replied r ix n ≡ record { refusal = 0; first = (place_for d n).line; second = (place_for d n).column }
      unfolding place_replied place_fault index_fault replied over_limit no_room
      place_numbers h = rw (content_done r (place_fault d ix n) (line_room 0) nothing_left_of a (rw (s, le-ltb (length d) n h)) refl)

-- ── what is replied is that line of the data
pub line_reply : LineReply
line_reply r ix n h =
    let p = line_passed r ix n h in
    let e = line_numbers_lem r ix n p.0 p.1 p.2 in
    ap (λ (x : Replied). part x.first x.second r.data_bytes) e ∙ line_bytes_lem r.data_bytes n p.2

-- ── the questions answer each other
pub line_of_place : LineOfPlace
line_of_place r ix o h =
    let d = r.data_bytes in
    let p = place_passed r ix o h in
    let e = place_numbers r ix o p.0 p.1 p.2 in
    let n : ℕ = (place_for d o).line in
    let k = line_numbers_lem r ix n p.0 p.1 (place_line d o p.2) in
    let g : line_replied r ix (place_replied r ix o).first ≡ record { refusal = 0; first = (line_span d n).first; second = (line_span d n).end } = ap (λ (x : Replied). line_replied r ix x.first) e ∙ k in (
      ap (λ (x : Replied). x.refusal) g,
      (λ i. (g i).first + (e i).second) ∙ place_start d o p.2,
      subst (λ (x : Replied). o ≤ x.second) (sym g) (place_end d o p.2),
    )

pub place_of_line : PlaceOfLine
place_of_line r ix n c h l =
    let d = r.data_bytes in
    let p = line_passed r ix n h in
    let e = line_numbers_lem r ix n p.0 p.1 p.2 in
    let w : (line_span d n).first + c ≤ (line_span d n).end = subst (λ (x : Replied). x.first + c ≤ x.second) e l in
    let q = place_only d n c p.2 w in
    ap (λ (x : Replied). place_replied r ix (x.first + c)) e
    ∙ place_numbers r ix ((line_span d n).first + c) p.0 p.1 (omega (arith, w, end_le d n p.2))
    ∙ ap (λ (x : Place). record { refusal = 0; first = x.line; second = x.column }) q

-- ── these refusals, in this order, and no others
pub turned : (r : Recording) (ix : List ℕ) → Turned r ix
unfolding build_outcome extend_outcome line_replied place_replied short_fault extend_fault over_limit no_room
turned r ix =
    let d = r.data_bytes in
    let room : short_fault d (length ix) ≡ 0 → first_of (over_limit (index_result d).recording ∷ no_room (line_room (length ix)) (index_result d) ∷ []) ≡ 0
    = λ z. room_left d (length ix) (ltb-false (length ix) (length (line_starts d)) (refuse_if-zero (ltb (length ix) (length (line_starts d))) 35 z)) in
    record {
      build = refusal_told (content_faults r (short_fault d (length ix))) (line_room (length ix)) (index_result d) ∙ content_own r (short_fault d (length ix)) (line_room (length ix)) (index_result d) room;
      extend = λ earlier used.
          refusal_told (content_faults r (extend_fault d earlier ix used)) (line_room (length ix)) (index_result d)
          ∙ content_own r (extend_fault d earlier ix used) (line_room (length ix)) (index_result d) (λ z.
          let i : ℕ = index_fault (take earlier d) (take used ix) in
          let g = first_of-zero (refuse_if (ltb (length ix) used || ltb (length d) earlier) 36) (i ∷ short_fault d (length ix) ∷ []) z in
          let k = first_of-zero i (short_fault d (length ix) ∷ []) g.1 in
          room (first_of-zero (short_fault d (length ix)) [] k.1).0);
      line = λ n.
          refusal-replied (content_faults r (line_fault d ix n)) (line_room 0) nothing_left_of (line_span d n).first (line_span d n).end ∙ content_own r (line_fault d ix n) (line_room 0) nothing_left_of (λ z. refl);
      place = λ o.
          refusal-replied (content_faults r (place_fault d ix o)) (line_room 0) nothing_left_of (place_for d o).line (place_for d o).column
          ∙ content_own r (place_fault d ix o) (line_room 0) nothing_left_of (λ z. refl);
    }
