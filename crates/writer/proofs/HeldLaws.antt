-- What a step of the writer has written, told by runs: items put at the ends are one run, their data (`added_held`), and the data of what is kept of a content is a part of it (`data_left`).
use mathlib.Core.Path.{◌≡◌, sym, ap, ◌∙◌}
use mathlib.Core.List.{List, [], ◌++◌, append-nil}
use Prim.Native.Nat.{ℕ, ◌+◌, ◌-◌}
use native.Mathlib.Omega.{arith}
use lib.ListN.{length, take, drop}
use Rattle.buffer.specs.Place.{over_at, part}
use Rattle.buffer.specs.Held.{HoldsUpTo, RunHeld}
use Rattle.buffer.proofs.HeldLaws.{run_held, held_none, next_first}
use Rattle.recording.specs.declared.Entry.{Entry}
use Rattle.recording.specs.Recording.{Item, items_from, entries_of, data_of}
use Rattle.recording.specs.Edit.{front}
use Rattle.recording.proofs.EditLaws.{data_front}
use Rattle.recording.proofs.ItemsLaws.{data_items_from}
use Rattle.writer.specs.declared.Cursor.{Cursor}
use Rattle.writer.specs.Write.{Out, add, left}

-- ── items put at the ends
pub added_held : (is : List Item) (run : List ℕ) (o o' : Out) → o' ≡ add is o → data_of is ≡ run → RunHeld o.d o'.d run o.data_bytes o'.data_bytes
unfolding add
added_held is run o o' w e =
    run_held o.d o'.d run o.data_bytes o'.data_bytes (ap (λ (x : Out). x.data_bytes) w ∙ ap (λ (x : List ℕ). over_at o.d x o.data_bytes) e)
    (ap (λ (x : Out). x.d) w ∙ ap (λ (x : List ℕ). o.d + length x) e)

-- from the start on: the first run of a result, and all of it
module _ (is : List Item) (o o' : Out) (z : o.d ≡ 0) (w : o' ≡ add is o) where
  pub first_held : (run rest finished : List ℕ) → data_of is ≡ run → finished ≡ run ++ rest → HoldsUpTo o'.d finished o.data_bytes o'.data_bytes
  unfolding RunHeld
  first_held run rest finished e f =
      (rw z at (added_held is run o o' w e)) finished o.data_bytes (held_none finished o.data_bytes) (next_first run rest finished f)

  pub all_held : (finished : List ℕ) → data_of is ≡ finished → (o'.d ≡ length finished) × HoldsUpTo o'.d finished o.data_bytes o'.data_bytes
  unfolding add
  all_held finished e = (ap (λ (x : Out). x.d) w ∙ (omega (arith, z, ap length e)), first_held finished [] finished e (sym (append-nil finished)))

-- ── what is kept of a content
pub data_left : (ds ns ts : List ℕ) (c : Cursor) (n : ℕ) → data_of (front (n - c.at) (left ds ns ts c)) ≡ part c.at n ds
unfolding left
data_left ds ns ts c n =
    let es : List Entry = entries_of (drop c.k ns) in
    data_front (n - c.at) (items_from c.at ts (drop c.at ds) es) ∙ ap (λ (x : List ℕ). take (n - c.at) x) (data_items_from es c.at ts (drop c.at ds))
