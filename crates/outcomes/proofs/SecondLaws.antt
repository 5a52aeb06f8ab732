-- A call with a second recording on three lent buffers: what its check of both found (`both_refused`, `both_fine`), then a fault of its own (`own_refused`); it has no line list.
use Rattle.recording.specs.Check.{fault_of}
use Rattle.std.specs.Prelude as Std
use mathlib.Core.Path.{◌≡◌, refl, sym, subst, ◌∙◌}
use mathlib.Core.List.{List, []}
use Prim.Native.Nat.{ℕ, ◌+◌, ◌*◌, ◌≤◌}
use native.Mathlib.Omega.{arith}
use lib.ListN.{length}
use borrow.Author.Tests.{ltb-false}
use Rattle.buffer.specs.Place.{over}
use Rattle.recording.specs.declared.Refusal.{Refusal}
use Rattle.recording.specs.declared.TextSizes.{TextSizes}
use Rattle.recording.specs.Recording.{Recording, recording, entries_of, Item, items, data_of, text_of, encode}
use Rattle.recording.specs.Share.{Inside, sum_of, raw_len_of, times}
use Rattle.recording.proofs.ShareLaws.{shared_size_lem, shared_less}
use Rattle.share.specs.Sizes.{text_size_of, Stands}
use Rattle.share.proofs.SizeLaws.{size_of_items}
use Rattle.recording.specs.Refusals.{number_of_refusal, recording_fault}
use Rattle.recording.specs.Check.{BothChecked}
use Rattle.recording.specs.Outcome.{Lent, room_in}
use Rattle.recording.proofs.FaultLaws.{no_fault, inside_of}
use Rattle.recording.proofs.SizeLaws.{entry_count, count_numbers}
use Rattle.writer.specs.declared.Cursor.{Cursor}
use Rattle.writer.specs.Write.{out, add, blank, Fits, Sound}
use Rattle.writer.specs.Sizes.{sizes_fault}
use Rattle.writer.proofs.Sizes.{numbers_items, quads_of}
use Rattle.writer.proofs.Steps as steps
use Rattle.layout.specs.Layout.{Kind, Job, with_second, result_items, lines_left, number, second_fault, kind_fault, own_fault}
use Rattle.layout.specs.Lent.{lent_of, Leaves}
use Rattle.outcomes.proofs.OutcomeLaws as outcomes
use Rattle.outcomes.proofs.OutcomeLaws.{Accepted, Sized}

-- ── what is known of a recording once its check has found nothing; n: the length of its entries' texts
pub record Fine (ds ns ts : List ℕ) (n : ℕ) : Type 0 where
  pub passed : recording_fault (recording ds ns ts) ≡ 0
  pub whole : Sound ds ns ts
  -- its sizes, as those of its items, and their bounds
  pub data_size : length ds ≡ length (data_of (items (recording ds ns ts)))
  pub entry_size : length ns ≡ 4 * entry_count (items (recording ds ns ts))
  pub text_size_lem : n ≡ length (text_of (items (recording ds ns ts)))
  pub data_short : length ds ≤ 1048576
  pub entries_short : length ns ≤ 16384
  pub text_short : n ≤ 268435456
  -- what `text_size` asks
  pub own_short : length ts ≤ 65536
  pub parts : Inside ts (entries_of ns)

pub checked_fine : (ds ns ts : List ℕ) (n : ℕ) → recording_fault (recording ds ns ts) ≡ 0 → n ≡ length (text_of (items (recording ds ns ts))) → n ≤ 268435456 → Fine ds ns ts n
checked_fine ds ns ts n z m w =
    let g = no_fault (recording ds ns ts) z in
    record {
      passed = z;
      whole = steps.sound ds ns ts z;
      data_size = sym (steps.data_size ds ns ts);
      entry_size = omega (arith, count_numbers (items (recording ds ns ts)) 0 [] [], numbers_items ds ns ts (quads_of ds ns ts z));
      text_size_lem = m;
      data_short = ltb-false 1048576 (length ds) g.data_bytes;
      entries_short = ltb-false 16384 (length ns) g.entry_numbers;
      text_short = w;
      own_short = ltb-false 65536 (length ts) g.text;
      parts = inside_of (entries_of ns) 0 ds ts g.entries;
    }

-- ── a result that has all of a content's entries, and those of a second recording m times
pub record Shares (is a b : List Item) (m : ℕ) : Type 0 where
  pub raws : sum_of raw_len_of is ≡ sum_of raw_len_of a + m * sum_of raw_len_of b
  pub labels : (l : List ℕ) → times l is ≡ times l a + m * times l b

module _ (ds ns ts fs gs us : List ℕ) (n₁ n₂ m : ℕ) (p : Fine ds ns ts n₁) (q : Fine fs gs us n₂) where
  -- all texts side by side are never less
  pub sizes_less : text_size_of ts (entries_of ns) us (entries_of gs) m ≤ n₁ + m * n₂
  sizes_less =
      rw (size_of_items ds ns ts fs gs us m p.passed q.passed, p.text_size_lem, q.text_size_lem) (shared_less (items (recording ds ns ts)) (items (recording fs gs us)) m)

  -- the text of such a result
  pub sizes_shared : (is : List Item) → Shares is (items (recording ds ns ts)) (items (recording fs gs us)) m → text_size_of ts (entries_of ns) us (entries_of gs) m ≡ length (encode is).text
  sizes_shared is s =
      size_of_items ds ns ts fs gs us m p.passed q.passed
      ∙ sym (shared_size_lem is (items (recording ds ns ts)) (items (recording fs gs us)) m s.raws s.labels)

-- ── what a call is given: its kind and width, the content, the second recording, and three lent buffers
pub record Given : Type 0 where
  pub kind : Kind
  pub width : ℕ
  pub ds : List ℕ
  pub ns : List ℕ
  pub ts : List ℕ
  pub fs : List ℕ
  pub gs : List ℕ
  pub us : List ℕ
  pub od : List ℕ
  pub oe : List ℕ
  pub ot : List ℕ

abbrev pub content : Given → Recording
content x = recording x.ds x.ns x.ts

abbrev pub second : Given → Recording
second x = recording x.fs x.gs x.us

abbrev pub job : Given → Job
job x = with_second x.kind x.width (second x)

abbrev pub lent : Given → Lent
lent x = lent_of x.od x.oe x.ot

-- nothing is refused of either recording
abbrev pub BothFine : Given → TextSizes → Type 0
BothFine x n = Fine x.ds x.ns x.ts n.content × Fine x.fs x.gs x.us n.second

module _ (x : Given) (k : Std.Result TextSizes Refusal) (h : BothChecked k (content x) (second x)) where
  pub both_refused : (f : Refusal) → k ≡ Std.Err f → Leaves (job x) (content x) (lent x) (lent x) (Std.Err f)
  unfolding second_fault
  both_refused f q = outcomes.input_refused (job x) (content x) (lent x) f (rw q at h)

  pub both_fine : (n : TextSizes) → k ≡ Std.Ok n → BothFine x n
  both_fine n q =
      let g : BothChecked (Std.Ok n) (content x) (second x) = rw q at h in
      (checked_fine x.ds x.ns x.ts n.content g.0 g.1.1.0 g.1.1.1.1.0, checked_fine x.fs x.gs x.us n.second g.1.0 g.1.1.1.0 g.1.1.1.1.1)

-- at a fault of its own
pub own_refused : (x : Given) (n : TextSizes) → BothFine x n → (f : Refusal) → kind_fault x.kind x.fs x.ds ≡ number_of_refusal f → Leaves (job x) (content x) (lent x) (lent x) (Std.Err f)
unfolding second_fault own_fault
own_refused x n fine f e = outcomes.own_refused (job x) (content x) (lent x) fine.0.passed fine.1.passed f e

-- what `text_size` asks of the two recordings, whose entries are written once and m times
pub texts_less : (x : Given) (n : TextSizes) (m : ℕ) → BothFine x n → text_size_of x.ts (entries_of x.ns) x.us (entries_of x.gs) m ≤ n.content + m * n.second
texts_less x n m fine = sizes_less x.ds x.ns x.ts x.fs x.gs x.us n.content n.second m fine.0 fine.1

-- the call has no fault of its own, and leaves these items, with their sizes; they have the second recording's entries m times
pub record Measured (x : Given) (m : ℕ) (is : List Item) (d e t : ℕ) : Type 0 where
  pub own : kind_fault x.kind x.fs x.ds ≡ 0
  pub leaves : result_items (job x) (content x) ≡ is
  pub data_size : d ≡ length (data_of is)
  pub entry_size : e ≡ 4 * entry_count is
  pub shares : Shares is (items (content x)) (items (second x)) m
  pub text_size_lem : Stands (length x.ot) (text_size_of x.ts (entries_of x.ns) x.us (entries_of x.gs) m) t

module _ (x : Given) (n : TextSizes) (fine : BothFine x n) (m : ℕ) (is : List Item) (d e t : ℕ) (z : Measured x m is d e t)
    (v : Std.Result Unit Refusal) (g : fault_of v ≡ sizes_fault d e t 0 (room_in (lent x))) where
  accepted : Accepted (job x) (content x)
  unfolding second_fault own_fault
  accepted = record { content = fine.0.passed; second = fine.1.passed; own = z.own }

  stands : Stands (length x.ot) (length (encode is).text) t
  stands =
      subst (λ (k : ℕ). Stands (length x.ot) k t)
      (sizes_shared x.ds x.ns x.ts x.fs x.gs x.us n.content n.second m fine.0 fine.1 is z.shares) z.text_size_lem

  sized : Sized (job x) (content x) (length x.ot) is d e t 0
  unfolding lines_left
  sized = record { leaves = z.leaves; data_size = z.data_size; entry_size = z.entry_size; text_size_lem = stands; line_size_lem = refl }

  pub sizes_refused : (f : Refusal) → v ≡ Std.Err f → Leaves (job x) (content x) (lent x) (lent x) (Std.Err f)
  sizes_refused f q = outcomes.sizes_refused (job x) (content x) (lent x) accepted is d e t 0 sized v g f q

  pub has_room : v ≡ (Std.Ok tt) → Fits is (blank x.od x.oe x.ot)
  has_room q = outcomes.has_room (job x) (content x) (lent x) accepted is d e t 0 sized v g q

  pub written : v ≡ (Std.Ok tt) → (w : ℕ) (od oe ot : List ℕ) (k : Cursor) → number (job x) (content x) ≡ w → out od oe ot k ≡ add is (blank x.od x.oe x.ot)
      → Leaves (job x) (content x) (lent x) (lent_of od oe ot) (Std.Ok (record { «data» = k.d; entries = k.e; text = k.t; number = w }))
  unfolding lines_left over
  written q w od oe ot k en wrote = outcomes.written (job x) (content x) (lent x) accepted is d e t 0 sized v g q w od oe ot [] k en wrote refl
