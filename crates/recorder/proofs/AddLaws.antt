-- The adding calls: in which order they refuse, and that bytes put at the used end of a buffer are the longer result over it (`over_take`).
-- At each return of a call there is one law: `used_refused`, `added_refused`, `data_refused` or `entry_refused` where it is refused, `data_added` or `entry_added` where it is not.
use Rattle.std.specs.Prelude as Std
use mathlib.Core.Path.{◌≡◌, refl, sym, ap, ◌∙◌}
use mathlib.Core.Bool.{Bool, true, false, cond}
use mathlib.Core.List.{List, [], ◌∷◌, ◌++◌, append_assoc}
use Prim.Native.Nat.{ℕ, ◌+◌, ◌-◌, ◌≤◌, ◌<◌}
use native.Mathlib.Omega.{arith}
use lib.Dec.{eqb}
use lib.ListN.{length, take, drop, length-append, length-take, take-append-drop}
use lib.Seq.{length-take-le, drop-drop, take-length}
use borrow.Author.Tests.{ltb-false, eqb-true, eqb-false}
use Rattle.buffer.specs.Place.{over, over_at, part}
use Rattle.recording.specs.declared.Done.{Done}
use Rattle.recording.specs.declared.Refusal.{Refusal}
use Rattle.recording.specs.Recording.{Bytes, Recording, entry, entries_of, numbers_of_ranges, pushed_in, new_text}
use Rattle.recording.specs.declared.Entry.{Entry}
use Rattle.recording.specs.Refusals.{number_of_refusal, first_of, recording_fault}
use Rattle.recording.specs.Outcome.{Faults, refusal_of, settle, Lent, lent_after, room_in, Promised}
use Rattle.recording.specs.Check.{fault_of}
use Rattle.recording.proofs.FaultLaws.{first_of-zero, no_fault, inside_of, start_inside}
use Rattle.recording.proofs.OutcomeLaws.{number_pos, first_hit, first_on, first_one, stops_lengths, stops_content, stops_added, stops_sizes, is_done, refused_answer, refused_lent, done_answer}
use Rattle.writer.specs.Sizes.{sizes_fault}
use Rattle.writer.proofs.Sizes.{same_fault, within}
use Rattle.recorder.specs.Recorder.{leaves, used_of, UsedIn, lengths_fault, add_faults, with_data, with_entry}

-- ── buffers of which the front is used
pub over_take : (d : ℕ) (x buf : List ℕ) → d ≤ length buf → over (take d buf ++ x) buf ≡ over_at d x buf
unfolding over_at
over_take d x buf h =
    let l : length (take d buf ++ x) ≡ d + length x = length-append (take d buf) x ∙ ap (λ (n : ℕ). n + length x) (length-take-le d buf h) in
    append_assoc (take d buf) x (drop (length (take d buf ++ x)) buf) ∙ (rw (l, drop-drop (length x) d buf))

pub over_used : (d : ℕ) (buf : List ℕ) → d ≤ length buf → over (take d buf) buf ≡ buf
unfolding over
over_used d buf h = rw (length-take-le d buf h) (take-append-drop d buf)

-- a whole text put, written as its part from 0 up to its end
pub whole_part : (n : ℕ) (x old : List ℕ) → over_at n (part 0 (length x) x) old ≡ over_at n x old
whole_part n x old =
    let z : length x - 0 ≡ length x = omega arith in
    let w : part 0 (length x) x ≡ x = rw z (take-length x) in
    ap (λ (l : List ℕ). over_at n l old) w

-- ── 10, then the content
module _ (b : Lent) (d e t : ℕ) where
  -- the first of the two is a call's refusal, whatever comes after
  abbrev pub used_fault : ℕ
  used_fault = first_of (lengths_fault b d e t ∷ recording_fault (used_of b d e t) ∷ [])

  pub used_alone : lengths_fault b d e t ≡ 0 → used_fault ≡ recording_fault (used_of b d e t)
  used_alone z = first_on (lengths_fault b d e t) (recording_fault (used_of b d e t) ∷ []) z ∙ first_one (recording_fault (used_of b d e t))

  -- without faults the used lengths are within the limits
  pub used_in : (r : Std.Result ℕ Refusal) → fault_of r ≡ recording_fault (used_of b d e t) → d ≤ length b.data_bytes → e ≤ length b.entry_numbers → t ≤ length b.text
      → Std.IfOk r (λ _. UsedIn b d e t)
  used_in (Std.Err y) f ld le lt = tt
  used_in (Std.Ok m) f ld le lt =
      let n = no_fault (used_of b d e t) (sym f) in
      record {
        data_bytes = ld;
        entry_numbers = le;
        text = lt;
        data_limit_lem = omega (arith, length-take-le d b.data_bytes ld, ltb-false 1048576 (length (take d b.data_bytes)) n.data_bytes);
        entry_limit_lem = omega (arith, length-take-le e b.entry_numbers le, ltb-false 16384 (length (take e b.entry_numbers)) n.entry_numbers);
        text_limit_lem = omega (arith, length-take-le t b.text lt, ltb-false 65536 (length (take t b.text)) n.text);
      }

  -- so are lengths that are settled
  pub settled_in : (l : ℕ) → 0 ≡ sizes_fault d e t l (room_in b) → UsedIn b d e t
  settled_in l h =
      let w = within d e t l (room_in b) (sym h) in
      record {
        data_bytes = w.data_room;
        entry_numbers = w.entry_room;
        text = w.text_room;
        data_limit_lem = w.data_limit_lem;
        entry_limit_lem = w.entry_limit_lem;
        text_limit_lem = w.text_limit_lem;
      }

-- ── a call that adds to what is used of the buffers: n is the refusal of what it adds, and q what it leaves
module _ (b : Lent) (d e t n : ℕ) (q : Recording) where
  abbrev faults : Faults
  faults = add_faults n b d e t

  refused_by : (y : Refusal) → refusal_of faults (room_in b) (leaves q) ≡ number_of_refusal y → Promised (settle faults (room_in b) (leaves q)) b b (Std.Err y)
  refused_by y m = (refused_answer faults (room_in b) (leaves q) y m, refused_lent faults (room_in b) (leaves q) y b m)

  pub used_refused : (y : Refusal) → number_of_refusal y ≡ used_fault b d e t → Promised (settle faults (room_in b) (leaves q)) b b (Std.Err y)
  unfolding add_faults
  used_refused y f = refused_by y (go (eqb (lengths_fault b d e t) 0) refl)
    where
      go : (s : Bool) → eqb (lengths_fault b d e t) 0 ≡ s → refusal_of faults (room_in b) (leaves q) ≡ number_of_refusal y
      go true w =
          let z = eqb-true (lengths_fault b d e t) 0 w in
          let u = used_alone b d e t z in
          stops_content faults (room_in b) (leaves q) z (omega (arith, f, u, number_pos y)) ∙ sym u ∙ sym f
      go false w =
          let p : 0 < lengths_fault b d e t = omega (arith, eqb-false (lengths_fault b d e t) 0 w) in
          stops_lengths faults (room_in b) (leaves q) p ∙ sym (first_hit (lengths_fault b d e t) (recording_fault (used_of b d e t) ∷ []) p) ∙ sym f

  -- what is used has no fault
  module _ (f : 0 ≡ used_fault b d e t) where
    both : (lengths_fault b d e t ≡ 0) × (recording_fault (used_of b d e t) ≡ 0)
    both =
        let z = first_of-zero (lengths_fault b d e t) (recording_fault (used_of b d e t) ∷ []) (sym f) in
        (z.0, sym (first_one (recording_fault (used_of b d e t))) ∙ z.1)

    pub added_refused : (y : Refusal) → n ≡ number_of_refusal y → Promised (settle faults (room_in b) (leaves q)) b b (Std.Err y)
    unfolding add_faults
    added_refused y p = refused_by y (stops_added faults (room_in b) (leaves q) both.0 both.1 refl (omega (arith, p, number_pos y)) ∙ p)

    -- nor has what is added: then the sizes, which are those of q
    module _ (z : n ≡ 0) (nd ne nt : ℕ) (s : (nd ≡ length q.data_bytes) × (ne ≡ length q.entry_numbers) × (nt ≡ length q.text)) where
      by_size : refusal_of faults (room_in b) (leaves q) ≡ sizes_fault nd ne nt 0 (room_in b)
      unfolding add_faults
      by_size = stops_sizes faults (room_in b) (leaves q) both.0 both.1 refl z refl refl ∙ same_fault (leaves q) (room_in b) nd ne nt 0 s.0 s.1 s.2 refl

      pub size_refused : (y : Refusal) → number_of_refusal y ≡ sizes_fault nd ne nt 0 (room_in b) → Promised (settle faults (room_in b) (leaves q)) b b (Std.Err y)
      size_refused y g = refused_by y (by_size ∙ sym g)

      pub added : 0 ≡ sizes_fault nd ne nt 0 (room_in b) → (x : Done) → (x.data ≡ nd) × (x.entries ≡ ne) × (x.text ≡ nt) × (x.number ≡ 0)
          → (od oe ot : List ℕ) → od ≡ over q.data_bytes b.data_bytes → oe ≡ over q.entry_numbers b.entry_numbers → ot ≡ over q.text b.text
          → Promised (settle faults (room_in b) (leaves q)) b (record { data_bytes = od; entry_numbers = oe; text = ot; lines = b.lines }) (Std.Ok x)
      unfolding lent_after over
      added g x a od oe ot wd we wt =
          let k : refusal_of faults (room_in b) (leaves q) ≡ 0 = by_size ∙ sym g in (
            done_answer faults (room_in b) (leaves q) x.data x.entries x.text x.number k (a.0 ∙ s.0) (a.1 ∙ s.1) (a.2 ∙ s.2) a.3,
            rw (is_done faults (room_in b) (leaves q) k) (λ j. record { data_bytes = wd j; entry_numbers = we j; text = wt j; lines = b.lines }),
          )

-- ── the two shapes of a result, over what is used of the buffers: the sizes that are settled are its lengths, and what is written is it over the buffers
module _ (b : Lent) (d e t : ℕ) (i : UsedIn b d e t) (f : 0 ≡ used_fault b d e t) (n : ℕ) (z : n ≡ 0) (x : Bytes) where
  front_d : length (take d b.data_bytes) ≡ d
  front_d = length-take-le d b.data_bytes i.data_bytes

  front_e : length (take e b.entry_numbers) ≡ e
  front_e = length-take-le e b.entry_numbers i.entry_numbers

  front_t : length (take t b.text) ≡ t
  front_t = length-take-le t b.text i.text

  -- bytes at the data's end
  data_sizes : (d + length x ≡ length (with_data x (used_of b d e t)).data_bytes) × (e ≡ length (with_data x (used_of b d e t)).entry_numbers) × (t ≡ length (with_data x (used_of b d e t)).text)
  unfolding with_data
  data_sizes = (omega (arith, front_d, length-append (take d b.data_bytes) x), sym front_e, sym front_t)

  pub data_refused : (y : Refusal) → number_of_refusal y ≡ sizes_fault (d + length x) e t 0 (room_in b)
      → Promised (settle (add_faults n b d e t) (room_in b) (leaves (with_data x (used_of b d e t)))) b b (Std.Err y)
  data_refused y g = size_refused b d e t n (with_data x (used_of b d e t)) f z (d + length x) e t data_sizes y g

  pub data_added : 0 ≡ sizes_fault (d + length x) e t 0 (room_in b) → (a : Done) → (a.data ≡ d + length x) × (a.entries ≡ e) × (a.text ≡ t) × (a.number ≡ 0)
      → (od : List ℕ) → od ≡ over_at d x b.data_bytes
      → Promised (settle (add_faults n b d e t) (room_in b) (leaves (with_data x (used_of b d e t)))) b (record { data_bytes = od; entry_numbers = b.entry_numbers; text = b.text; lines = b.lines }) (Std.Ok a)
  unfolding with_data
  data_added g a w od wd =
      added b d e t n (with_data x (used_of b d e t)) f z (d + length x) e t data_sizes g a w od b.entry_numbers b.text (wd ∙ sym (over_take d x b.data_bytes i.data_bytes))
      (sym (over_used e b.entry_numbers i.entry_numbers)) (sym (over_used t b.text i.text))

  -- an entry at the entries' end, with a part of k bytes from `start` on; x at the text's end
  module _ (kind start k nt : ℕ) (q : nt ≡ t + length x) where
    abbrev left : Recording
    left = with_entry kind start k x (used_of b d e t)

    entry_sizes : (d ≡ length left.data_bytes) × (e + 4 ≡ length left.entry_numbers) × (nt ≡ length left.text)
    unfolding with_entry
    entry_sizes = (
      sym front_d,
      omega (arith, front_e, length-append (take e b.entry_numbers) (numbers_of_ranges (entry (length (take d b.data_bytes)) kind start k ∷ []))),
      omega (arith, q, front_t, length-append (take t b.text) x),
    )

    pub entry_refused : (y : Refusal) → number_of_refusal y ≡ sizes_fault d (e + 4) nt 0 (room_in b) → Promised (settle (add_faults n b d e t) (room_in b) (leaves left)) b b (Std.Err y)
    entry_refused y g = size_refused b d e t n left f z d (e + 4) nt entry_sizes y g

    pub entry_added : 0 ≡ sizes_fault d (e + 4) nt 0 (room_in b) → (a : Done) → (a.data ≡ d) × (a.entries ≡ e + 4) × (a.text ≡ nt) × (a.number ≡ 0)
        → (oe ot : List ℕ) → oe ≡ over_at e (numbers_of_ranges (entry d kind start k ∷ [])) b.entry_numbers → ot ≡ over_at t x b.text
        → Promised (settle (add_faults n b d e t) (room_in b) (leaves left)) b (record { data_bytes = b.data_bytes; entry_numbers = oe; text = ot; lines = b.lines }) (Std.Ok a)
    unfolding with_entry
    entry_added g a w oe ot we wt =
        added b d e t n left f z d (e + 4) nt entry_sizes g a w b.data_bytes oe ot (sym (over_used d b.data_bytes i.data_bytes))
        (rw (← front_d) at we ∙ sym (over_take e (numbers_of_ranges (entry (length (take d b.data_bytes)) kind start k ∷ [])) b.entry_numbers i.entry_numbers))
        (wt ∙ sym (over_take t x b.text i.text))

-- ── a label that is added
-- the label's part lies in the text with what it adds
pub label_short : (b : Lent) (d e t : ℕ) → UsedIn b d e t → 0 ≡ used_fault b d e t → (l : Bytes)
    → length l ≤ t + length (new_text l (take t b.text) (entries_of (take e b.entry_numbers)))
label_short b d e t i f l =
    let es = entries_of (take e b.entry_numbers) in
    let z = both b d e t 0 (used_of b d e t) f in
    omega (
      arith,
      start_inside l (take t b.text) es (inside_of es 0 (take d b.data_bytes) (take t b.text) (no_fault (used_of b d e t) z.1).entries),
      length-append (take t b.text) (new_text l (take t b.text) es),
      length-take-le t b.text i.text,
    )

-- the part of it that comes to the text: all of it or none, so it is a front of the label
pub new_front : (l t : Bytes) (es : List Entry) → take (length (new_text l t es)) l ≡ new_text l t es
new_front l t es = go (pushed_in l t es)
  where
    go : (b : Bool) → take (length (cond b [] l)) l ≡ cond b [] l
    go true = refl
    go false = take-length l

pub new_short : (l t : Bytes) (es : List Entry) → length (new_text l t es) ≤ length l
new_short l t es = omega (arith, ap length (new_front l t es), length-take (length (new_text l t es)) l)
