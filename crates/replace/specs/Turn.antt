-- One record's turn in the writing: what it asks of the place in the content and of the buffers, and what it leaves.
use Rattle.std.specs.Prelude.{ℕ, ◌-◌, false, ◌≡◌, List, ◌++◌, length}
use Rattle.buffer.specs.Place.{part}
use Rattle.recording.specs.Recording.{Item, byte_items}
use Rattle.recording.specs.Edit.{front, back, entries_only}
use Rattle.writer.specs.declared.Cursor.{Cursor}
use Rattle.writer.specs.Write.{Out, add, Fits, Ready, left}
use Rattle.layout.specs.declared.Replacement.{Replacement}
use Rattle.layout.specs.Layout.{bad_record_of}

-- what a record writes of the items from the offset `at` on: those before its start and the entries there, the new bytes, and the entries of the stretch that goes
unfoldable pub turn_items : List ℕ → ℕ → Replacement → List Item → List Item
turn_items new at x is = front (x.start - at) is ++ (byte_items (part x.from x.to new) ++ entries_only (front (x.end - x.start) (back (x.start - at) is)))

-- and what it leaves of them
unfoldable pub turn_left : ℕ → Replacement → List Item → List Item
turn_left at x is = back (x.end - x.start) (back (x.start - at) is)

pub record Turn (ds ns ts new : List ℕ) (x : Replacement) (c : Cursor) (o : Out) : Type 0 where
  pub ready : Ready ds ns ts c
  pub good : bad_record_of c.at (length ds) (length new) x ≡ false
  pub fits : Fits (turn_items new c.at x (left ds ns ts c)) o

pub record Turned (ds ns ts new : List ℕ) (x : Replacement) (c c' : Cursor) (o o' : Out) : Type 0 where
  pub wrote : o' ≡ add (turn_items new c.at x (left ds ns ts c)) o
  pub behind : left ds ns ts c' ≡ turn_left c.at x (left ds ns ts c)
  pub ready : Ready ds ns ts c'
  pub here : c'.at ≡ x.end
