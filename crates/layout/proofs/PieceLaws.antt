-- Padding by the document's word "piece": what a repeated fill writes as data is each of its pieces, n times, before the next.
-- The idea: `repeat_pieces` and `pieces_from` carry the same bytes since the last entry, and an empty run of bytes writes nothing.
use Prim.Native.Nat.{ℕ, zero, suc}
use mathlib.Core.Path.{◌≡◌, refl, sym, ap, ◌∙◌}
use mathlib.Core.List.{List, [], ◌∷◌, ◌++◌, append_assoc}
use Rattle.recording.specs.Recording.{Bytes, Recording, non_empty, Item, byte, push, pop, raw, items, data_of, pieces_from, pieces}
use Rattle.recording.proofs.EditLaws.{data_append}
use Rattle.layout.specs.Layout.{copies, repeat_pieces, padding}

-- each piece n times, before the next
abbrev pub each_times : ℕ → List Bytes → Bytes
each_times n [] = []
each_times n (p ∷ ps) = data_of (copies n p) ++ each_times n ps

each_append : (n : ℕ) (ps qs : List Bytes) → each_times n (ps ++ qs) ≡ each_times n ps ++ each_times n qs
each_append n [] qs = refl
each_append n (p ∷ ps) qs = rw (each_append n ps qs) (sym (append_assoc (data_of (copies n p)) (each_times n ps) (each_times n qs)))

none_copied : (n : ℕ) → data_of (copies n []) ≡ []
none_copied zero = refl
none_copied (suc n) = none_copied n

each_one : (n : ℕ) (p : Bytes) (r : Bytes) → each_times n (non_empty p) ++ r ≡ data_of (copies n p) ++ r
each_one n [] r = rw (none_copied n)
each_one n (b ∷ p) r = ap (λ (l : Bytes). l ++ r) (append_end (data_of (copies n (b ∷ p))))
  where
    append_end : (x : Bytes) → x ++ [] ≡ x
    append_end x = mathlib.Core.List.append-nil x

repeated : (n : ℕ) (p : Bytes) (is : List Item) → data_of (repeat_pieces n p is) ≡ each_times n (pieces_from p is)
repeated n p [] = sym (mathlib.Core.List.append-nil _) ∙ sym (each_one n p []) ∙ mathlib.Core.List.append-nil _
repeated n p (byte b ∷ is) = repeated n (p ++ (b ∷ [])) is
repeated n p (push l ∷ is) = data_append (copies n p) (push l ∷ repeat_pieces n [] is) ∙ rw (repeated n [] is, each_append n (non_empty p) (pieces_from [] is))
    (sym (each_one n p (each_times n (pieces_from [] is))))
repeated n p (pop ∷ is) = data_append (copies n p) (pop ∷ repeat_pieces n [] is) ∙ rw (repeated n [] is, each_append n (non_empty p) (pieces_from [] is))
    (sym (each_one n p (each_times n (pieces_from [] is))))
repeated n p (raw t ∷ is) = data_append (copies n p) (raw t ∷ repeat_pieces n [] is) ∙ rw (repeated n [] is, each_append n (non_empty p) (pieces_from [] is))
    (sym (each_one n p (each_times n (pieces_from [] is))))

pub padding-pieces : (n : ℕ) (f : Recording) → data_of (padding (suc n) (items f)) ≡ each_times (suc n) (pieces f)
unfolding pieces
padding-pieces n f = repeated (suc n) [] (items f)
