-- Taking the indent off (document 02, Q-3): what becomes of the lines, and which lines are refused. All of it from the data bytes alone.
use Rattle.std.specs.Prelude.{ℕ, suc, ◌-◌, Bool, true, false, ◌&&◌, ◌||◌, not, List, [], ◌∷◌, eqb, length}
use Rattle.recording.specs.Recording.{Bytes, is_nil}
use Rattle.recording.specs.Edit.{Op, keep, skip}
use Rattle.recording.specs.Refusals.{first_of, refuse_if}
use Rattle.layout.specs.Wrap.{split_lines}

-- how many bytes are taken out of a line: the prefix's n, none if the line is empty
abbrev pub taken_out_of : ℕ → Bytes → ℕ
taken_out_of n [] = 0
taken_out_of n (b ∷ l) = n

-- at the first byte of every line that is not empty the prefix's n bytes are skipped; the rest of the line stays, and its 0A (the last line has none, and `keep` keeps what there is)
abbrev pub unindent_ops : ℕ → List Bytes → List Op
unindent_ops n [] = []
unindent_ops n (l ∷ ls) = skip (taken_out_of n l) ∷ keep (suc (length l - taken_out_of n l)) ∷ unindent_ops n ls

-- ── refusals
-- whether a 0A is among the bytes
abbrev pub has_newline_in : Bytes → Bool
has_newline_in [] = false
has_newline_in (b ∷ d) = eqb b 0x0A || has_newline_in d

-- whether a line begins with the bytes p
abbrev pub begins_with : Bytes → Bytes → Bool
begins_with [] l = true
begins_with (b ∷ p) [] = false
begins_with (b ∷ p) (c ∷ l) = eqb b c && begins_with p l

-- whether every line that is not empty does
abbrev pub all_begin : Bytes → List Bytes → Bool
all_begin p [] = true
all_begin p (l ∷ ls) = (is_nil l || begins_with p l) && all_begin p ls

-- 32: the prefix p has a 0A; 33: a line of the data d that is not empty does not begin with it
unfoldable pub prefix_fault : Bytes → Bytes → ℕ
prefix_fault p d = first_of (refuse_if (has_newline_in p) 32 ∷ refuse_if (not (all_begin p (split_lines d))) 33 ∷ [])
