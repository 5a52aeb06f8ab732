-- What a page of cells leaves, of the struct that the code has of it.
use Rattle.std.specs.Prelude.{ℕ, List}
use Rattle.recording.specs.Recording.{Bytes}
use Rattle.cells.specs.declared.Page.{Page}
use Rattle.cells.specs.Cells.{parts, joined, cell_numbers}

-- the joined cells
abbrev pub joined_of : Page → Bytes
joined_of g = joined g.max_width g.ellipsis.now (parts g.ends.now g.content.now)

-- their numbers
abbrev pub numbers_of : Page → List ℕ
numbers_of g = cell_numbers g.max_width g.ellipsis.now 0 (parts g.ends.now g.content.now)
