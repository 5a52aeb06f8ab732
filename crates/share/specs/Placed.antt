-- Entries as a result has them: a push has its text at or beyond all texts before it, or it has the part of a push before it. Who searches a label there need not compare a part twice.
use Rattle.std.specs.Prelude.{ℕ, ◌+◌, Bool, true, false, cond, ◌&&◌, ◌||◌, not, List, [], ◌∷◌, ◌++◌, eqb, leb}
use Rattle.recording.specs.declared.Entry.{Entry}

-- the same part as an entry's, of a push
abbrev pub same_part : Entry → Entry → Bool
same_part x e = eqb x.kind 0 && (eqb x.start e.start && eqb x.len e.len)

-- a push before has the part
unfoldable pub copied : Entry → List Entry → Bool
copied e [] = false
copied e (x ∷ xs) = same_part x e || copied e xs

-- how far the texts reach
unfoldable pub top_of : ℕ → Entry → ℕ
top_of top e = cond (leb top e.start) (e.start + e.len) top

-- and behind all entries
unfoldable pub top_after : ℕ → List Entry → ℕ
top_after top [] = top
top_after top (e ∷ es) = top_after (top_of top e) es

-- an entry that is no push, or has its text beyond all before, or a part that is there
unfoldable pub placed_one : ℕ → List Entry → Entry → Bool
placed_one top before e = not (eqb e.kind 0) || (leb top e.start || copied e before)

-- all entries, behind those before
unfoldable pub placed_from : ℕ → List Entry → List Entry → Bool
placed_from top before [] = true
placed_from top before (e ∷ es) = placed_one top before e && placed_from (top_of top e) (before ++ (e ∷ [])) es
