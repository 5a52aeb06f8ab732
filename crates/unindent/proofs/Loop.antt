-- The second pass, which writes: a turn carries the content on up to the next line that is not empty and passes the prefix there, the end carries on the rest.
-- The idea: `State` says that what is written and what is left of the edit are together the whole (`Progress` of the writer), and that every line to come begins with the prefix.
use mathlib.Core.Path.{◌≡◌, refl, sym, ap, ◌∙◌}
use mathlib.Core.Bool.{Bool, true, false}
use mathlib.Core.List.{List, ◌∷◌, ◌++◌}
use Prim.Native.Nat.{ℕ, ◌+◌, ◌-◌, ◌≤◌, ◌<◌}
use native.Mathlib.Omega.{arith}
use lib.ListN.{length, drop, length-drop}
use lib.Seq.{drop-drop}
use Rattle.recording.specs.Recording.{Bytes, recording, Item, items}
use Rattle.recording.specs.Edit.{keep, front, back, entries_only, edit}
use Rattle.recording.proofs.Lists.{and_left}
use Rattle.writer.specs.declared.Cursor.{Cursor}
use Rattle.writer.specs.Write.{Out, add, Fits, Sound, Ready, left}
use Rattle.writer.proofs.Laws.{Long}
use Rattle.writer.proofs.Steps.{fits_first, fits_then, left_start, ready_start}
use Rattle.writer.proofs.Progress as progress
use Rattle.writer.proofs.Progress.{Progress, progress_first, progress_same, ready_within, rest_kept}
use Rattle.layout.specs.Wrap.{split_lines}
use Rattle.layout.specs.Unindent.{has_newline_in, begins_with, all_begin}
use Rattle.layout.proofs.LineLaws.{lines_at}
use Rattle.layout.proofs.UnindentLaws.{byte_ops}
use Rattle.indent.specs.Lines.{to_next}
use Rattle.unindent.proofs.Laws as laws
use Rattle.unindent.proofs.Laws.{due, plan_pass, plan_off, plan_last}

-- all that is written
abbrev pub whole : Bytes → (ds ns ts : List ℕ) → List Item
whole p ds ns ts = edit (byte_ops (length p) (length p) ds) (items (recording ds ns ts))

-- at is the first byte of the next line that is not empty
pub record State (p ds ns ts : List ℕ) (o₀ o : Out) (c : Cursor) (at : ℕ) : Type 0 where
  -- whether the byte at the cursor may be the first of its line
  pub start : Bool
  pub written : Progress (whole p ds ns ts) (edit (byte_ops (length p) (due (length p) start) (drop c.at ds)) (left ds ns ts c)) o₀ o
  pub ready : Ready ds ns ts c
  pub next : at ≡ c.at + to_next start (drop c.at ds)
  pub within : at ≤ length ds
  pub good : all_begin p (lines_at start (split_lines (drop c.at ds))) ≡ true

pub state_first : (p ds ns ts : List ℕ) (o : Out) (c : Cursor) (at : ℕ) → c.at ≡ 0 → c.k ≡ 0 → Sound ds ns ts → all_begin p (split_lines ds) ≡ true → at ≡ 0 + to_next true (drop 0 ds) → at ≤ length ds
    → State p ds ns ts o o c at
state_first p ds ns ts o c at a k s g e w =
    record {
      start = true;
      written = progress_first (whole p ds ns ts) _ o (λ i. edit (byte_ops (length p) (length p) (drop (a i) ds)) (left_start ds ns ts c a k i));
      ready = ready_start ds ns ts c a k s;
      next = rw a e;
      within = w;
      good = rw a g;
    }

module _ (p ds ns ts : List ℕ) (one_line : has_newline_in p ≡ false) (o₀ o : Out) (c : Cursor) (at : ℕ) (s : State p ds ns ts o₀ o c at) (room : Fits (whole p ds ns ts) o₀) where
  abbrev n : ℕ
  n = length p

  abbrev to_come_lem : List Item
  to_come_lem = edit (byte_ops n (due n s.start) (drop c.at ds)) (left ds ns ts c)

  fits_now : Fits to_come_lem o
  fits_now = progress.room_now (whole p ds ns ts) to_come_lem o₀ o s.written room

  pub long_now : Long o o₀
  long_now = progress.long_now (whole p ds ns ts) to_come_lem o₀ o s.written room

  pub before : c.at ≤ at
  before = omega (arith, s.next)

  -- a turn
  module _ (more : at < length ds) where
    begins : begins_with p (drop at ds) ≡ true
    begins = and_left (begins_with p (drop at ds)) (all_begin p (drop 1 (split_lines (drop at ds)))) (sym (laws.judged p ds one_line c.at s.start at s.next more) ∙ s.good)

    pub inside : at + n ≤ length ds
    inside = laws.inside p ds one_line c.at s.start at s.next more begins

    -- what is left behind the bytes that are kept
    abbrev behind : List Item
    behind = back (at - c.at) (left ds ns ts c)

    abbrev up_to : List Item
    up_to = front (at - c.at) (left ds ns ts c)

    abbrev entries_there : List Item
    entries_there = entries_only (front n behind)

    abbrev later : List Item
    later = edit (byte_ops n 0 (drop (at + n) ds)) (back n behind)

    parted : to_come_lem ≡ up_to ++ (entries_there ++ later)
    parted =
        let e : to_next s.start (drop c.at ds) ≡ at - c.at = omega (arith, s.next) in
        plan_pass n s.start (drop c.at ds) (left ds ns ts c) (laws.ahead p ds one_line c.at s.start at s.next more)
        ∙ (λ i. edit (keep (e i) ∷ byte_ops n n (laws.here p ds one_line c.at s.start at s.next more i)) (left ds ns ts c))
        ∙ ap (λ (l : List Item). up_to ++ l)
        (plan_off n n (drop at ds) behind (laws.no_break p ds one_line c.at s.start at s.next more begins)
        ∙ ap (λ (x : Bytes). entries_there ++ edit (byte_ops n 0 x) (back n behind)) (drop-drop n at ds))

    pub room_keep : Fits up_to o
    room_keep = fits_first up_to (entries_there ++ later) to_come_lem o parted fits_now

    module _ (o₁ : Out) (c₁ : Cursor) (w₁ : o₁ ≡ add up_to o) (l₁ : left ds ns ts c₁ ≡ behind) (a₁ : c₁.at ≡ at) where
      passed : (at + n) - c₁.at ≡ n
      passed = omega (arith, a₁)

      -- what the skip writes, and what it leaves
      gone : entries_only (front ((at + n) - c₁.at) (left ds ns ts c₁)) ≡ entries_there
      gone = λ i. entries_only (front (passed i) (l₁ i))

      pub room_skip : Fits (entries_only (front ((at + n) - c₁.at) (left ds ns ts c₁))) o₁
      room_skip = rw gone (fits_first entries_there later (entries_there ++ later) o₁ refl (fits_then up_to (entries_there ++ later) to_come_lem o o₁ parted fits_now w₁))

      pub step : (o₂ : Out) (c₂ : Cursor) (at' : ℕ) → o₂ ≡ add (entries_only (front ((at + n) - c₁.at) (left ds ns ts c₁))) o₁ → left ds ns ts c₂ ≡ back ((at + n) - c₁.at) (left ds ns ts c₁)
          → Ready ds ns ts c₂ → c₂.at ≡ at + n → at' ≡ (at + n) + to_next false (drop (at + n) ds) → at' ≤ length ds → State p ds ns ts o₀ o₂ c₂ at'
      step o₂ c₂ at' w₂ l₂ r a₂ e w =
          let rest : left ds ns ts c₂ ≡ back n behind = l₂ ∙ (λ i. back (passed i) (l₁ i)) in
          let kept = progress.further (whole p ds ns ts) to_come_lem o₀ o s.written room up_to (entries_there ++ later) o₁ parted w₁ in
          let on = progress.further (whole p ds ns ts) (entries_there ++ later) o₀ o₁ kept room entries_there later o₂ refl (w₂ ∙ ap (λ (l : List Item). add l o₁) gone) in
          record {
            start = false;
            written = progress_same (whole p ds ns ts) later _ o₀ o₂ (λ i. edit (byte_ops n 0 (drop (a₂ i) ds)) (rest i)) on;
            ready = r;
            next = rw a₂ e;
            within = w;
            good = rw a₂ (sym (laws.later p ds one_line c.at s.start at s.next more begins) ∙ s.good);
          }

  -- the end
  module _ (past : length ds ≤ at) where
    abbrev last : List Item
    last = front (length ds - c.at) (left ds ns ts c)

    last_is : to_come_lem ≡ last
    last_is = plan_last n s.start (drop c.at ds) (left ds ns ts c) (omega (arith, past, s.next, length-drop c.at ds)) ∙ sym (rest_kept ds ns ts c s.ready)

    pub here : c.at ≤ length ds
    here = ready_within ds ns ts c s.ready

    pub room_last : Fits last o
    room_last = rw (← last_is) fits_now

    pub finish : (o' : Out) → o' ≡ add last o → o' ≡ add (whole p ds ns ts) o₀
    finish o' w = progress.finished (whole p ds ns ts) to_come_lem o₀ o s.written room o' (w ∙ ap (λ (l : List Item). add l o) (sym last_is))
