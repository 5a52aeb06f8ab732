-- A place of the content as code goes along it, with what is open there.
use Rattle.std.specs.Prelude.{ℕ, ◌≤◌, ◌<◌, List, drop}
use Rattle.recording.specs.Recording.{Recording, entries_of}
use Rattle.writer.specs.declared.Cursor.{Cursor}
use Rattle.writer.specs.Write.{Ready, place_for}
use Rattle.open_label.specs.declared.Walk.{Walk}

-- the position of the next entry
abbrev pub next_place : List ℕ → Cursor → ℕ
next_place ns c = place_for (entries_of (drop c.k ns))

-- a place at which entries may stand
pub record Arrived (ds ns ts : List ℕ) (w : Walk) : Type 0 where
  pub ready : Ready ds ns ts w.c
  pub depth : w.o.depth ≤ w.c.k

-- they are passed
pub record Standing (ds ns ts : List ℕ) (w : Walk) : Type 0 where
  pub arrived : Arrived ds ns ts w
  pub passed : w.c.at < next_place ns w.c

-- the same of a recording
abbrev pub ArrivedIn : Recording → Walk → Type 0
ArrivedIn r w = Arrived r.data_bytes r.entry_numbers r.text w

abbrev pub StandingIn : Recording → Walk → Type 0
StandingIn r w = Standing r.data_bytes r.entry_numbers r.text w

-- the content's first place: nothing is written, and no label is open
abbrev pub first_walk_of : Walk
first_walk_of = record { c = record { at = 0; k = 0; d = 0; e = 0; t = 0 }; o = record { depth = 0; since = 0 } }
