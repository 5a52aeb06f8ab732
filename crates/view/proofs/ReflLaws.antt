-- Every recording is alike to itself, under any label (`alike_self`): so the relation leaves out no recording, and goes over all of it.
-- The idea: by the characters, at each one the entries before it and then its own items.
use Prim.Native.Nat.{ℕ, zero, suc}
use native.Mathlib.Omega.{arith}
use mathlib.Core.Bool.{Bool, true, false}
use mathlib.Core.Path.{◌≡◌, refl, sym, ap, ◌∙◌}
use mathlib.Core.List.{List, [], ◌∷◌, ◌++◌, tail}
use lib.ListN.{length, drop}
use lib.Seq.{drop-append_seam}
use Rattle.chars.specs.Chars.{Character, chars, bytes_of}
use Rattle.chars.proofs.CharsLaws.{Valid, bytes-chars, valid-chars}
use Rattle.recording.specs.Recording.{Bytes, Recording, Item, byte, push, pop, raw, items, data_of}
use Rattle.recording.specs.Coloured.{coloured, open_after}
use Rattle.recording.specs.Edit.{front, back, entries_only}
use Rattle.recording.proofs.EditLaws.{data_back}
use Rattle.recording.proofs.ItemsLaws.{data_items}
use Rattle.view.specs.View.{hidden}
use Rattle.view.specs.Alike.{beyond, of_char, after_char, Same, none, bytes, pushes, pops, raws, Corresponding, end, entries, kept, replaced, Alike}
use Rattle.view.proofs.SizeLaws.{length-hidden}

data_beyond : (n : ℕ) (is : List Item) → data_of (beyond n is) ≡ drop n (data_of is)
data_beyond zero is = refl
data_beyond (suc n) [] = refl
data_beyond (suc n) (byte b ∷ is) = data_beyond n is
data_beyond (suc n) (push l ∷ is) = data_beyond (suc n) is
data_beyond (suc n) (pop ∷ is) = data_beyond (suc n) is
data_beyond (suc n) (raw t ∷ is) = data_beyond (suc n) is

-- what is left after the entries starts with a byte, or is nothing
back_end : (is : List Item) → data_of is ≡ [] → back 0 is ≡ []
back_end [] e = refl
back_end (byte b ∷ is) e = absurd (omega (arith, ap length e))
back_end (push l ∷ is) e = back_end is e
back_end (pop ∷ is) e = back_end is e
back_end (raw t ∷ is) e = back_end is e

back-byte : (is : List Item) (b : ℕ) (d : Bytes) → data_of is ≡ b ∷ d → (x : ℕ) × (js : List Item) × (back 0 is ≡ byte x ∷ js)
back-byte [] b d e = absurd (omega (arith, ap length e))
back-byte (byte x ∷ is) b d e = (x, is, refl)
back-byte (push l ∷ is) b d e = back-byte is b d e
back-byte (pop ∷ is) b d e = back-byte is b d e
back-byte (raw t ∷ is) b d e = back-byte is b d e

module _ (l : Bytes) where
  same_self : (s : List Bytes) (is : List Item) → Same l s is is
  same_self s [] = none
  same_self s (byte b ∷ is) = bytes (same_self s is)
  same_self s (push k ∷ is) = pushes (same_self (k ∷ s) is)
  same_self s (pop ∷ is) = pops (same_self (tail s) is)
  same_self s (raw t ∷ is) = raws (same_self s is)

  -- from a character's first byte on, given the rest
  at_char : (h : Bool) (hs : List Bool) (c : Character) (cs : List Character) (s : List Bytes) (b : ℕ) (is : List Item)
      → Corresponding l (open_after s (of_char c (byte b ∷ is))) hs cs (after_char c (byte b ∷ is)) cs (after_char c (byte b ∷ is))
      → Corresponding l s (h ∷ hs) (c ∷ cs) (byte b ∷ is) (c ∷ cs) (byte b ∷ is)
  at_char true hs c cs s b is x = replaced refl (same_self s (entries_only (of_char c (byte b ∷ is)))) x
  at_char false hs c cs s b is x = kept (same_self s (of_char c (byte b ∷ is))) x

  self : (hs : List Bool) (cs : List Character) (s : List Bytes) (is : List Item) → length hs ≡ length cs → Valid cs → data_of is ≡ bytes_of cs → Corresponding l s hs cs is cs is
  self [] [] s is z v e = entries {hs = []} {cs = []} {ds = []} {is = is} {js = is} (same_self s (front 0 is)) (rw (back_end is e) end)
  self [] (c ∷ cs) s is z v e = absurd (omega (arith, z))
  self (h ∷ hs) [] s is z v e = absurd (omega (arith, z))
  self (h ∷ hs) (c ∷ cs) s is z v e =
      let s₀ : List Bytes = open_after s (front 0 is) in
      let p = back-byte is v.0.first (v.0.more ++ bytes_of cs) (e ∙ ap (λ (t : Bytes). t ++ bytes_of cs) v.0.text) in
      let here : List Item = byte p.0 ∷ p.1 in
      let d : data_of here ≡ bytes_of (c ∷ cs) = ap data_of (sym p.2) ∙ data_back 0 is ∙ e in
      let f : data_of (after_char c here) ≡ bytes_of cs = data_beyond (length c.text) here ∙ ap (drop (length c.text)) d ∙ drop-append_seam c.text (bytes_of cs) in
      entries {hs = h ∷ hs} {cs = c ∷ cs} {ds = c ∷ cs} {is = is} {js = is} (same_self s (front 0 is))
      (rw p.2 (at_char h hs c cs s₀ p.0 p.1 (self hs cs (open_after s₀ (of_char c here)) (after_char c here) (omega (arith, z)) v.1 f)))

  pub alike_self : (r : Recording) → Alike l r r
  unfolding hidden
  alike_self r =
      record {
        same_replaced = refl;
        corresponding =
            self (hidden l r) (chars r.data_bytes) [] (items r) (length-hidden l (chars r.data_bytes) (coloured r)) (valid-chars r.data_bytes)
            (data_items r ∙ sym (bytes-chars r.data_bytes));
      }
