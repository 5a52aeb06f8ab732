-- What is counted, and what becomes of the bytes from here on, are together as long as what the floor is left (FloorLaws, `length_run`).
use mathlib.Core.Path.{◌≡◌}
use mathlib.Core.List.{flatten}
use Prim.Native.Nat.{◌+◌, ◌-◌}
use lib.ListN.{length, drop}
use Rattle.readers.proofs.FloorLaws.{fs, Going}
use Rattle.readers.proofs.floor_len.Given as goal

abbrev pub invariant-loop-w : goal.invariant-loop-w
invariant-loop-w l = Going l.label l.content.bytes.now l.content.entries.now l.content.text.now l.w l.run × (l.size + length (flatten (drop l.w.c.at (fs l.label l.content.bytes.now l.content.entries.now l.content.text.now))) ≡ length (flatten (fs l.label l.content.bytes.now l.content.entries.now l.content.text.now)))

abbrev pub decreases-loop-w : goal.decreases-loop-w
decreases-loop-w l = length l.content.bytes.now - l.w.c.at
