-- Whether a reader's label is open, told by two numbers in place of the stack of open labels; and what one reading of the entries finds.
use Rattle.std.specs.Prelude.{ℕ, suc, ◌+◌, ◌*◌, Bool, cond, ◌≡◌, List, [], ◌∷◌, ◌++◌, eqb, length, take, Result, Ok, Err}
use Rattle.recording.specs.Lists.{same}
use Rattle.recording.specs.declared.Entry.{Entry}
use Rattle.recording.specs.declared.Refusal.{Refusal}
use Rattle.recording.specs.Recording.{Bytes, Recording, Item, items, text_of}
use Rattle.recording.specs.Coloured.{coloured_from, open_after}
use Rattle.recording.proofs.SizeLaws.{entry_count}
use Rattle.writer.specs.Write.{item_at}
use Rattle.view.specs.View.{any_under_of, drop_raws}
use Rattle.view.specs.Theorem.{opens}
use Rattle.open_label.specs.declared.Open.{Open}
use Rattle.open_label.specs.declared.Kept.{Kept}

-- the depth that the outermost push of the label made, 0 if it is not open: after a push (is it this label's?) and after a pop, from the depth and this before
abbrev pub since_push : Bool → ℕ → ℕ → ℕ
since_push is depth since = cond (eqb since 0) (cond is (suc depth) 0) since

abbrev pub since_pop : ℕ → ℕ → ℕ
since_pop depth since = cond (eqb depth since) 0 since

-- the same of the open labels, innermost first
abbrev pub since_of : Bytes → List Bytes → ℕ
since_of l [] = 0
since_of l (k ∷ s) = since_push (same l k) (length s) (since_of l s)

-- the labels s are open: o has how many, and since which depth l is
abbrev pub Tells : Bytes → Open → List Bytes → Type 0
Tells l o s = (o.depth ≡ length s) × (o.since ≡ since_of l s)

-- r tells what is open behind the item x, whatever labels are open before it, where o tells that
unfoldable pub Opened : Bytes → Item → Open → Open → Type 0
Opened l x o r = (s : List Bytes) → Tells l o s → Tells l r (open_after s (x ∷ []))

-- whether the entry e is dropped for the floor, where o tells what is open before it: what dropping the raw sequences under the label leaves of it, and of the items behind it
unfoldable pub Drops : Entry → Open → Bool → Type 0
Drops e o r = (l t : Bytes) (s : List Bytes) (is : List Item) → Tells l o s
    → drop_raws l s (item_at t e ∷ is) ≡ cond r [] (item_at t e ∷ []) ++ drop_raws l (open_after s (item_at t e ∷ [])) is

-- whether one of the next n data bytes of the items is under l, where o tells what is open before them
unfoldable pub Under : Bytes → Open → ℕ → List Item → Bool → Type 0
Under l o n is r = (s : List Bytes) → Tells l o s → r ≡ any_under_of l (take n (coloured_from s is))

-- r is n with the entry e counted, unless it is dropped for the floor
pub record Counted (e : Entry) (o : Open) (n r : Kept) : Type 0 where
  pub gone : Bool
  pub drops : Drops e o gone
  pub entries : r.entries ≡ n.entries + cond gone 0 4
  pub text : r.text ≡ n.text + cond gone 0 e.len

-- ── one reading of the entries
-- of the recording q, unless the reading is refused: whether the label is pushed at all, and the entry numbers and text bytes that the floor is left
unfoldable pub ScanTold : Bytes → Recording → Result Kept Refusal → Type 0
ScanTold l q (Err f) = Unit {0}
ScanTold l q (Ok k) =
    (k.found ≡ opens l (items q)) × (k.entries ≡ 4 * entry_count (drop_raws l [] (items q))) × (k.text ≡ length (text_of (drop_raws l [] (items q))))
