-- What the edits of the layout calls put in: indenting its prefix, taking the indent off nothing, every other call bytes.
-- So what is true of the prefix, or of any bytes, is true of all that is put in (`AllPuts`).
use Prim.Native.Nat.{ℕ}
use mathlib.Core.Bool.{Bool, true, false, cond, ◌&&◌, not}
use mathlib.Core.List.{List, [], ◌∷◌, ◌++◌}
use lib.Dec.{eqb}
use lib.ListN.{length}
use Rattle.chars.specs.Chars.{Character, chars}
use Rattle.buffer.specs.Place.{part}
use Rattle.recording.specs.Recording.{Bytes, Item, byte_items}
use Rattle.recording.specs.Edit.{keep, skip, put}
use Rattle.recording.proofs.EditLaws.{AllPuts}
use Rattle.layout.specs.declared.Replacement.{Replacement}
use Rattle.layout.specs.Tabs.{spaces_at_column, spaces, leads_with, column_after, tab_ops}
use Rattle.layout.specs.Unindent.{unindent_ops}
use Rattle.layout.specs.Wrap.{Line, wrap_lines_of}
use Rattle.layout.specs.Layout.{indent_ops, wrap_ops, replace_ops, Single, wrapped_lines, replaced_parts, tabs_expanded, single_ops}

module _ (P : List Item → Type 0) where
  pub puts_indent : (p : List Item) (start : Bool) (d : Bytes) → P p → AllPuts P (indent_ops p start d)
  puts_indent p start [] h = tt
  puts_indent p start (b ∷ d) h = go (start && not (eqb b 0x0A)) (puts_indent p (eqb b 0x0A) d h)
    where
      go : (t : Bool) → AllPuts P (indent_ops p (eqb b 0x0A) d) → AllPuts P (cond t (put p ∷ []) [] ++ keep 1 ∷ indent_ops p (eqb b 0x0A) d)
      go true q = (h, q)
      go false q = q

  pub puts_unindent : (n : ℕ) (ls : List Bytes) → AllPuts P (unindent_ops n ls)
  puts_unindent n [] = tt
  puts_unindent n (l ∷ ls) = puts_unindent n ls

  module _ (bytes : (d : Bytes) → P (byte_items d)) where
    pub puts_wrap : (n at : ℕ) (ls : List Line) → AllPuts P (wrap_ops n at ls)
    puts_wrap n at [] = tt
    puts_wrap n at (l ∷ []) = tt
    puts_wrap n at (l ∷ m ∷ ls) = (bytes (0x0A ∷ []), puts_wrap n l.end (m ∷ ls))

    pub puts_replace : (t : Bytes) (at : ℕ) (xs : List Replacement) → AllPuts P (replace_ops t at xs)
    puts_replace t at [] = tt
    puts_replace t at (x ∷ xs) = (bytes (part x.from x.to t), puts_replace t x.end xs)

    pub puts_tabs : (s c : ℕ) (cs : List Character) → AllPuts P (tab_ops s c cs)
    puts_tabs s c [] = tt
    puts_tabs s c (ch ∷ cs) = go (leads_with 0x09 ch) (puts_tabs s (column_after s c ch) cs)
      where
        go : (t : Bool) → AllPuts P (tab_ops s (column_after s c ch) cs)
            → AllPuts P (cond t (put (byte_items (spaces (spaces_at_column s c))) ∷ skip 1 ∷ []) (keep (length ch.text) ∷ []) ++ tab_ops s (column_after s c ch) cs)
        go true q = (bytes (spaces (spaces_at_column s c)), q)
        go false q = q

    pub puts_single : (s : Single) (d : Bytes) → AllPuts P (single_ops s d)
    puts_single (wrapped_lines w b) d = puts_wrap (length d) 0 (wrap_lines_of w b d)
    puts_single (replaced_parts xs t) d = puts_replace t 0 xs
    puts_single (tabs_expanded s) d = puts_tabs s 0 (chars d)
