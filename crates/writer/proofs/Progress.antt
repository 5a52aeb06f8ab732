-- The writing of a result step by step: what is written and what is still to come are together the whole (`Progress`), and a step moves items from the one to the other (`further`).
-- So in each loop over it the data buffer holds the finished result up to where it is written (`held_now`).
use mathlib.Core.Path.{◌≡◌, refl, sym, ap, ◌∙◌}
use mathlib.Core.List.{List, [], ◌++◌, append_assoc, append-nil}
use Prim.Native.Nat.{ℕ, ◌-◌, ◌≤◌}
use native.Mathlib.Omega.{arith}
use lib.ListN.{length, drop, length-drop}
use Rattle.buffer.specs.Held.{HoldsUpTo}
use Rattle.recording.specs.Recording.{entries_of, Item, data_of}
use Rattle.recording.specs.Edit.{front}
use Rattle.recording.proofs.EditLaws.{data_append}
use Rattle.recording.proofs.ItemsLaws.{data_items_from}
use Rattle.writer.specs.declared.Cursor.{Cursor}
use Rattle.writer.specs.Write.{Out, add, Fits, Ready, left}
use Rattle.writer.proofs.Laws.{fits_left, fits_right, add-append, add_long, Long}
use Rattle.writer.proofs.Carry.{valid_in, add-nil}
use Rattle.writer.proofs.Steps.{front_all}
use Rattle.writer.proofs.HeldLaws.{first_held}

pub record Progress (whole to_come_lem : List Item) (o₀ o : Out) : Type 0 where
  pub done : List Item
  pub wrote : o ≡ add done o₀
  pub joins : done ++ to_come_lem ≡ whole

pub progress_first : (whole to_come_lem : List Item) (o : Out) → to_come_lem ≡ whole → Progress whole to_come_lem o o
progress_first whole to_come_lem o e = record { done = []; wrote = add-nil o; joins = e }

-- what is to come, in other words
pub progress_same : (whole a b : List Item) (o₀ o : Out) → b ≡ a → Progress whole a o₀ o → Progress whole b o₀ o
progress_same whole a b o₀ o e s = record { done = s.done; wrote = s.wrote; joins = ap (λ (l : List Item). s.done ++ l) e ∙ s.joins }

-- the data buffer holds the finished result up to here, and beyond it what it held at first
pub held_now : (whole to_come_lem : List Item) (o₀ o : Out) → Progress whole to_come_lem o₀ o → o₀.d ≡ 0 → HoldsUpTo o.d (data_of whole) o₀.data_bytes o.data_bytes
held_now whole to_come_lem o₀ o s z =
    first_held s.done o₀ o z s.wrote (data_of s.done) (data_of to_come_lem) (data_of whole) refl (ap (λ (l : List Item). data_of l) (sym s.joins) ∙ data_append s.done to_come_lem)

module _ (whole to_come_lem : List Item) (o₀ o : Out) (s : Progress whole to_come_lem o₀ o) (room : Fits whole o₀) where
  all : Fits (s.done ++ to_come_lem) o₀
  all = rw s.joins room

  fits_done : Fits s.done o₀
  fits_done = fits_left s.done to_come_lem o₀ all

  -- the buffers are as long as they were, and there is room for what is to come
  pub long_now : Long o o₀
  long_now = rw s.wrote (add_long s.done o₀ fits_done)

  pub room_now : Fits to_come_lem o
  room_now = rw s.wrote (fits_right s.done to_come_lem o₀ all)

  -- the items a are written, and b is still to come
  pub further : (a b : List Item) (o' : Out) → to_come_lem ≡ a ++ b → o' ≡ add a o → Progress whole b o₀ o'
  further a b o' e w =
      record {
        done = s.done ++ a;
        wrote = w ∙ ap (λ (y : Out). add a y) s.wrote ∙ add-append s.done a o₀ fits_done;
        joins = append_assoc s.done a b ∙ ap (λ (l : List Item). s.done ++ l) (sym e) ∙ s.joins;
      }

  -- all is written
  pub finished : (o' : Out) → o' ≡ add to_come_lem o → o' ≡ add whole o₀
  finished o' w =
      let f = further to_come_lem [] o' (sym (append-nil to_come_lem)) w in
      f.wrote ∙ ap (λ (l : List Item). add l o₀) (sym (append-nil f.done) ∙ f.joins)

-- ── where a cursor is ready, it is within the data, and what is kept from there to the end is all that is left
module _ (ds ns ts : List ℕ) (c : Cursor) (r : Ready ds ns ts c) where
  pub ready_within : c.at ≤ length ds
  ready_within = valid_in c.at (length ds) (length ts) (entries_of (drop c.k ns)) r.valid

  pub rest_kept : front (length ds - c.at) (left ds ns ts c) ≡ left ds ns ts c
  unfolding left
  rest_kept =
      front_all (length ds - c.at) (left ds ns ts c)
      (omega (arith, ap length (data_items_from (entries_of (drop c.k ns)) c.at ts (drop c.at ds)), length-drop c.at ds))
