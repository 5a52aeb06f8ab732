-- The indenting loop: a turn carries the content on up to the next line that is not empty and puts the prefix there, the end carries on the rest.
-- The idea: `State` says what is done, and that the plan for what is left of the data gives the rest of the result.
use mathlib.Core.Path.{◌≡◌, refl, sym, ap, ◌∙◌}
use mathlib.Core.Bool.{Bool, true, false}
use mathlib.Core.List.{List, ◌++◌, append_assoc}
use Prim.Native.Nat.{ℕ, ◌+◌, ◌-◌, ◌≤◌, ◌<◌}
use native.Mathlib.Omega.{arith}
use lib.ListN.{length, drop, length-drop}
use lib.Seq.{drop-drop}
use Rattle.recording.specs.Recording.{recording, entries_of, Item, items_from, items}
use Rattle.recording.specs.Edit.{front, back, edit}
use Rattle.writer.specs.declared.Cursor.{Cursor}
use Rattle.writer.specs.Write.{Out, add, Fits, Sound, Ready, left}
use Rattle.writer.proofs.Laws.{add-append, Long}
use Rattle.writer.proofs.Progress as progress
use Rattle.writer.proofs.Progress.{Progress, progress_first, progress_same, ready_within, rest_kept}
use Rattle.writer.proofs.Steps.{fits_first, fits_then, left_start, ready_start}
use Rattle.layout.specs.Layout.{indent_ops}
use Rattle.indent.specs.Lines.{to_next}
use Rattle.indent.proofs.Laws.{plan_next, plan_last}

-- x is the prefix, p the next place where it is due
pub record State (x : List Item) (ds ns ts : List ℕ) (o₀ o : Out) (c : Cursor) (p : ℕ) : Type 0 where
  -- whether the byte at the cursor may still get a prefix
  pub start : Bool
  -- what is left gives the rest of the result
  pub written : Progress (edit (indent_ops x true ds) (items (recording ds ns ts))) (edit (indent_ops x start (drop c.at ds)) (left ds ns ts c)) o₀ o
  pub ready : Ready ds ns ts c
  pub next : p ≡ c.at + to_next start (drop c.at ds)
  pub within : p ≤ length ds

pub state_first : (x : List Item) (ds ns ts : List ℕ) (o : Out) (c : Cursor) (p : ℕ)
    → c.at ≡ 0 → c.k ≡ 0 → Sound ds ns ts → p ≡ 0 + to_next true (drop 0 ds) → p ≤ length ds → State x ds ns ts o o c p
state_first x ds ns ts o c p a k s e l =
    record {
      start = true;
      written = progress_first _ _ o (λ i. edit (indent_ops x true (drop (a i) ds)) (left_start ds ns ts c a k i));
      ready = ready_start ds ns ts c a k s;
      next = rw a e;
      within = l;
    }

module _ (x : List Item) (ds ns ts : List ℕ) (o₀ o : Out) (c : Cursor) (p : ℕ) (s : State x ds ns ts o₀ o c p)
    (room : Fits (edit (indent_ops x true ds) (items (recording ds ns ts))) o₀) where
  abbrev ahead : ℕ
  ahead = to_next s.start (drop c.at ds)

  abbrev left_over : List Item
  left_over = edit (indent_ops x s.start (drop c.at ds)) (left ds ns ts c)

  abbrev whole : List Item
  whole = edit (indent_ops x true ds) (items (recording ds ns ts))

  fits_now : Fits left_over o
  fits_now = progress.room_now whole left_over o₀ o s.written room

  pub long_now : Long o o₀
  long_now = progress.long_now whole left_over o₀ o s.written room

  pub here : c.at ≤ length ds
  here = ready_within ds ns ts c s.ready

  pub before : c.at ≤ p
  before = omega (arith, s.next)

  -- a turn
  module _ (more : p < length ds) where
    abbrev up_to : List Item
    up_to = front (p - c.at) (left ds ns ts c)

    abbrev behind : List Item
    behind = edit (indent_ops x false (drop p ds)) (back (p - c.at) (left ds ns ts c))

    parted : left_over ≡ up_to ++ (x ++ behind)
    parted =
        let e : ahead ≡ p - c.at = omega (arith, s.next) in
        let h : c.at + (p - c.at) ≡ p = omega (arith, before) in
        plan_next x s.start (drop c.at ds) (left ds ns ts c) (omega (arith, s.next, length-drop c.at ds))
        ∙ (λ i. front (e i) (left ds ns ts c) ++ (x ++ edit (indent_ops x false (drop (e i) (drop c.at ds))) (back (e i) (left ds ns ts c))))
        ∙ ap (λ (l : List ℕ). up_to ++ (x ++ edit (indent_ops x false l) (back (p - c.at) (left ds ns ts c)))) (drop-drop (p - c.at) c.at ds ∙ ap (λ (m : ℕ). drop m ds) h)

    pub room_keep : Fits up_to o
    room_keep = fits_first up_to (x ++ behind) left_over o parted fits_now

    module _ (o₁ : Out) (w₁ : o₁ ≡ add up_to o) where
      room_rest : Fits (x ++ behind) o₁
      room_rest = fits_then up_to (x ++ behind) left_over o o₁ parted fits_now w₁

      pub room_prefix : Fits x o₁
      room_prefix = fits_first x behind (x ++ behind) o₁ refl room_rest

      pub step : (o₂ : Out) (c₁ c₂ : Cursor) (p' : ℕ) → o₂ ≡ add x o₁ → left ds ns ts c₁ ≡ back (p - c.at) (left ds ns ts c) → Ready ds ns ts c₁ → c₁.at ≡ p → c₂.at ≡ c₁.at → c₂.k ≡ c₁.k
          → p' ≡ p + to_next false (drop p ds) → p' ≤ length ds → State x ds ns ts o₀ o₂ c₂ p'
      unfolding left
      step o₂ c₁ c₂ p' w₂ l r a ea ek ep lp =
          let turn : o₂ ≡ add (up_to ++ x) o = w₂ ∙ ap (λ (y : Out). add x y) w₁ ∙ add-append up_to x o room_keep in
          let m = progress.further whole left_over o₀ o s.written room (up_to ++ x) behind o₂ (parted ∙ sym (append_assoc up_to x behind)) turn in
          let same : left ds ns ts c₂ ≡ back (p - c.at) (left ds ns ts c) = (λ i. items_from (ea i) ts (drop (ea i) ds) (entries_of (drop (ek i) ns))) ∙ l in
          let there : c₂.at ≡ p = ea ∙ a in
          record {
            start = false;
            written = progress_same whole behind _ o₀ o₂ (λ i. edit (indent_ops x false (drop (there i) ds)) (same i)) m;
            ready = record { within = rw ek r.within; valid = rw (ea, ek) r.valid; short = r.short };
            next = rw there ep;
            within = lp;
          }

  -- the end
  module _ (past : length ds ≤ p) where
    abbrev last : List Item
    last = front (length ds - c.at) (left ds ns ts c)

    last_is : left_over ≡ last
    last_is = plan_last x s.start (drop c.at ds) (left ds ns ts c) (omega (arith, s.next, length-drop c.at ds)) ∙ sym (rest_kept ds ns ts c s.ready)

    pub room_last : Fits last o
    room_last = rw (← last_is) fits_now

    pub finish : (o' : Out) → o' ≡ add last o → o' ≡ add (edit (indent_ops x true ds) (items (recording ds ns ts))) o₀
    finish o' w = progress.finished whole left_over o₀ o s.written room o' (w ∙ ap (λ (l : List Item). add l o) (sym last_is))
