-- A content written in two steps from its start, bytes and entries in one and the entries alone in the other; and the one run of data that it leaves, with its size.
use mathlib.Core.Path.{◌≡◌, ap, ◌∙◌}
use mathlib.Core.List.{List, [], ◌++◌, append-nil}
use Prim.Native.Nat.{ℕ, ◌-◌, ◌≤◌}
use native.Mathlib.Omega.{arith}
use lib.ListN.{length, take, drop, length-drop, drop_of_length-le}
use lib.Seq.{length-take-le}
use Rattle.recording.specs.Recording.{recording, Item, items, data_of}
use Rattle.recording.specs.Edit.{front, back, entries_only, edit}
use Rattle.recording.proofs.EditLaws.{data_back, edit_data_lem}
use Rattle.recording.proofs.ItemsLaws.{data_items}
use Rattle.writer.specs.declared.Cursor.{Cursor}
use Rattle.writer.specs.Write.{Out, add, Fits, left}
use Rattle.writer.proofs.Steps.{fits_first, fits_then, then, front_start, back_start, front_all, back_all, data_size}
use Rattle.layout.specs.Layout.{cut_end_of, cut_start_of}

-- ── two steps
module _ (n : ℕ) (ds ns ts : List ℕ) where
  rest_size : length (data_of (back n (items (recording ds ns ts)))) ≡ length ds - n
  rest_size =
      let is : List Item = items (recording ds ns ts) in
      ap length (data_back n is) ∙ length-drop n (data_of is) ∙ (omega (arith, data_size ds ns ts))

  pub edit_up_to : edit (cut_end_of n ds) (items (recording ds ns ts)) ≡ front n (items (recording ds ns ts)) ++ entries_only (front (length ds - n) (back n (items (recording ds ns ts))))
  edit_up_to =
      let is : List Item = items (recording ds ns ts) in
      rw (back_all (length ds - n) (back n is) (omega (arith, rest_size)), append-nil (entries_only (front (length ds - n) (back n is))))

  pub edit_from : edit (cut_start_of n) (items (recording ds ns ts)) ≡ entries_only (front n (items (recording ds ns ts))) ++ front (length ds - n) (back n (items (recording ds ns ts)))
  edit_from = let is : List Item = items (recording ds ns ts) in rw (front_all (length ds - n) (back n is) (omega (arith, rest_size)))

-- the first step carries on what f leaves of the items before the byte n, the second what g leaves of the others
module _ (f g : List Item → List Item) (all : List Item) (ds ns ts : List ℕ) (n : ℕ)
    (e : all ≡ f (front n (items (recording ds ns ts))) ++ g (front (length ds - n) (back n (items (recording ds ns ts)))))
    (from : Cursor) (a : from.at ≡ 0) (k : from.k ≡ 0) (o : Out) (fits : Fits all o) where
  abbrev one : List Item
  one = f (front n (items (recording ds ns ts)))

  abbrev two : List Item
  two = g (front (length ds - n) (back n (items (recording ds ns ts))))

  pub first_room : Fits (f (front (n - from.at) (left ds ns ts from))) o
  first_room = rw (front_start ds ns ts from a k n) (fits_first one two all o e fits)

  module _ (r : Cursor) (o₁ : Out) (w : o₁ ≡ add (f (front (n - from.at) (left ds ns ts from))) o) (l : left ds ns ts r ≡ back (n - from.at) (left ds ns ts from)) (at : r.at ≡ n) where
    first : o₁ ≡ add one o
    first = w ∙ ap (λ (x : List Item). add (f x) o) (front_start ds ns ts from a k n)

    second : g (front (length ds - r.at) (left ds ns ts r)) ≡ two
    second = λ i. g (front (length ds - at i) ((l ∙ back_start ds ns ts from a k n) i))

    pub second_room : Fits (g (front (length ds - r.at) (left ds ns ts r))) o₁
    second_room = rw second (fits_then one two all o o₁ e fits first)

    pub both : (o₂ : Out) → o₂ ≡ add (g (front (length ds - r.at) (left ds ns ts r))) o₁ → o₂ ≡ add all o
    both o₂ v = then one two all o o₁ o₂ e fits first (v ∙ ap (λ (x : List Item). add x o₁) second)

-- ── the run that is kept
module _ (n : ℕ) (ds ns ts : List ℕ) where
  pub up_to_run : data_of (edit (cut_end_of n ds) (items (recording ds ns ts))) ≡ take n ds
  up_to_run =
      let none : drop (length ds - n) (drop n ds) ≡ [] = drop_of_length-le (drop n ds) {i = length ds - n} (omega (arith, length-drop n ds)) in
      edit_data_lem (cut_end_of n ds) (items (recording ds ns ts)) ∙ ap (λ (d : List ℕ). take n d ++ drop (length ds - n) (drop n d)) (data_items (recording ds ns ts))
      ∙ ap (λ (x : List ℕ). take n ds ++ x) none ∙ append-nil (take n ds)

  pub from_run : data_of (edit (cut_start_of n) (items (recording ds ns ts))) ≡ drop n ds
  from_run = edit_data_lem (cut_start_of n) (items (recording ds ns ts)) ∙ ap (λ (d : List ℕ). drop n d) (data_items (recording ds ns ts))

  pub up_to_data : n ≤ length ds → length (data_of (edit (cut_end_of n ds) (items (recording ds ns ts)))) ≡ n
  up_to_data h = ap length up_to_run ∙ length-take-le n ds h

  pub from_data : length (data_of (edit (cut_start_of n) (items (recording ds ns ts)))) ≡ length ds - n
  from_data = ap length from_run ∙ length-drop n ds
