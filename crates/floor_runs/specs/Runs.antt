-- The next run of the floor's data, as code goes along the content: it has no entry inside, and its bytes are copied, or stars come in their stead.
use Rattle.std.specs.Prelude.{ℕ, ◌-◌, ◌≤◌, ◌<◌, Bool, true, cond, ◌≡◌, length, take, drop, replicate}
use mathlib.Core.List.{List, flatten}
use Rattle.buffer.specs.Place.{part}
use Rattle.recording.specs.Recording.{Bytes, Item}
use Rattle.recording.specs.Coloured.{Coloured, coloured_from}
use Rattle.open_label.specs.declared.Open.{Open}
use Rattle.open_label.specs.Open.{Tells}
use Rattle.floor_runs.specs.declared.Run.{Run}
use Rattle.floor_runs.specs.Fates.{Fated}

-- a run that is copied, up to a place at which a character ends
abbrev pub copied_run_to : ℕ → Run
copied_run_to n = record { to = n; until = n; copy = true; stars = 0 }

-- what a run that begins at `at` writes
abbrev pub run_bytes : Bytes → ℕ → Run → Bytes
run_bytes d at r = cond r.copy (part at r.to d) (replicate r.stars 0x2A)

-- the next run where the items `is` are left, o tells what is open, and it is decided up to `until` what becomes of the bytes: it goes at least one byte further and not past `end`,
-- and it writes what becomes of its bytes, whatever labels are open (s), coloured bytes these are (xs) and becomes of each byte (fs)
pub record RunOf (l d : Bytes) (is : List Item) (o : Open) (at until : ℕ) (copy : Bool) (end : ℕ) (r : Run) : Type 0 where
  pub further : at < r.to
  pub before : r.to ≤ end
  pub order : r.to ≤ r.until
  pub within : r.until ≤ length d
  pub writes : (s : List Bytes) (xs : List Coloured) (fs : List Bytes) → Tells l o s → drop at xs ≡ coloured_from s is → Fated l d xs fs at until copy
      → Fated l d xs fs r.to r.until r.copy × (flatten (take (r.to - at) (drop at fs)) ≡ run_bytes d at r)
