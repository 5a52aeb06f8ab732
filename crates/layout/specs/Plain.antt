-- The plain steps of demand 3 (document 01, "Plain steps"; document 02), on lists of coloured bytes with stretches. Byte values alone choose what is cut, counted or broken.
use Rattle.std.specs.Prelude.{ℕ, zero, suc, ◌-◌, ◌/◌, ◌%◌, Bool, true, cond, ◌&&◌, not, List, [], ◌∷◌, ◌++◌, ltb, eqb, length, take, drop}
use Rattle.chars.specs.Chars.{text_width_of}
use Rattle.chars.specs.Cut.{truncate_end_pos_of, zero_width_len_of}
use Rattle.buffer.specs.Place.{part}
use Rattle.recording.specs.Recording.{Bytes, Recording}
use Rattle.recording.specs.Coloured.{Coloured, coloured, values}
use Rattle.recording.specs.Edit.{labels_at, under}
use Rattle.layout.specs.declared.Replacement.{Replacement}
use Rattle.layout.specs.Tabs.{spaces}
use Rattle.layout.specs.Wrap.{Line, wrap_lines_of}
use Rattle.layout.specs.Layout.{trimmed_start_pos, fill_count_of, Kind, truncated_start, truncated_end, padded_start, padded_end, padded_centered}
use Rattle.layout.specs.Layout.{indented_lines, unindented_lines, Single, wrapped_lines, replaced_parts, tabs_expanded, Job, with_second, alone, Call, refusal, after}

-- what the steps are told of a call: of a refused one only that; of any other its name, numbers, breaking, replacement records and text, and its second recording as coloured bytes
pub data Told : Type 0 where
  was_refused : Told
  with_second' : Kind → ℕ → List Coloured → Told
  alone' : Single → Told

-- ── stretches
abbrev pub times : ℕ → List Coloured → List Coloured
times zero f = []
times (suc n) f = f ++ times n f

-- the bytes from a up to e
abbrev pub stretch : ℕ → ℕ → List Coloured → List Coloured
stretch a e cs = take (e - a) (drop a cs)

-- the labels of the byte at offset n, none at the data's end
abbrev pub labels_of : ℕ → List Coloured → List Bytes
labels_of n cs = labels_at (drop n cs)

abbrev pub with_labels : List Bytes → Bytes → List Coloured
with_labels ls [] = []
with_labels ls (b ∷ bs) = record { val = b; labels = ls } ∷ with_labels ls bs

-- the prefix list before each line that is not empty, under the labels of that line's first byte
abbrev pub indented : List Coloured → Bool → List Coloured → List Coloured
indented p start [] = []
indented p start (c ∷ cs) = cond (start && not (eqb c.val 0x0A)) (under c.labels p) [] ++ c ∷ indented p (eqb c.val 0x0A) cs

-- the first n bytes of every line gone; k: how many of the next byte's line are still to go
abbrev pub unindented : ℕ → ℕ → List Coloured → List Coloured
unindented n k [] = []
unindented n zero (c ∷ cs) = c ∷ unindented n (cond (eqb c.val 0x0A) n 0) cs
unindented n (suc k) (c ∷ cs) = cond (eqb c.val 0x0A) (c ∷ unindented n n cs) (unindented n k cs)

-- the stretches of the lines, with one 0A between neighbours, under the labels of the byte at the finished line's end offset
abbrev pub wrapped : List Line → List Coloured → List Coloured
wrapped [] cs = []
wrapped (l ∷ []) cs = stretch l.first l.end cs
wrapped (l ∷ m ∷ ls) cs = stretch l.first l.end cs ++ record { val = 0x0A; labels = labels_of l.end cs } ∷ wrapped (m ∷ ls) cs

-- the stretch from start to end gone, the new bytes in its stead, under the labels of the byte at start
abbrev pub replaced : Bytes → ℕ → List Replacement → List Coloured → List Coloured
replaced t at [] cs = drop at cs
replaced t at (x ∷ xs) cs = stretch at x.start cs ++ (with_labels (labels_of x.start cs) (part x.from x.to t) ++ replaced t x.end xs cs)

-- each 09 gone, and in its stead, under its labels, the spaces from the width of the line so far to the next stop; `line` has the bytes made since the last 0A
abbrev pub tabbed : ℕ → Bytes → List Coloured → List Coloured
tabbed s line [] = []
tabbed s line (c ∷ cs) =
    let blanks = spaces (s - text_width_of line % s) in
    cond (eqb c.val 0x09) (with_labels c.labels blanks ++ tabbed s (line ++ blanks) cs) (c ∷ tabbed s (cond (eqb c.val 0x0A) [] (line ++ (c.val ∷ []))) cs)

-- ── one step
unfoldable pub step : Told → List Coloured → List Coloured
step was_refused cs = cs
step (with_second' truncated_start m e) cs =
    cond (ltb m (text_width_of (values cs))) (drop (trimmed_start_pos m (values e)) e ++ drop (trimmed_start_pos (m - text_width_of (values e)) (values cs)) cs)
    (drop (zero_width_len_of (values cs)) cs)
step (with_second' truncated_end m e) cs =
    cond (ltb m (text_width_of (values cs))) (take (truncate_end_pos_of (m - text_width_of (values e)) (values cs)) cs ++ take (truncate_end_pos_of m (values e)) e) cs
step (with_second' padded_start m f) cs = times (fill_count_of m (values cs)) f ++ cs
step (with_second' padded_end m f) cs = cs ++ times (fill_count_of m (values cs)) f
step (with_second' padded_centered m f) cs = let n = fill_count_of m (values cs) in times (n / 2) f ++ (cs ++ times (n - n / 2) f)
step (with_second' indented_lines m p) cs = indented p true cs
step (with_second' unindented_lines m p) cs = unindented (length p) (length p) cs
step (alone' (wrapped_lines w b)) cs = wrapped (wrap_lines_of w b (values cs)) cs
step (alone' (replaced_parts xs t)) cs = replaced t 0 xs cs
step (alone' (tabs_expanded s)) cs = tabbed s [] cs

abbrev pub steps : List Told → List Coloured → List Coloured
steps [] cs = cs
steps (t ∷ ts) cs = steps ts (step t cs)

-- ── what the steps are told
unfoldable pub told_of_job : Job → Told
told_of_job (with_second k m q) = with_second' k m (coloured q)
told_of_job (alone s) = alone' s

abbrev pub told : List Call → Recording → List Told
told [] r = []
told (c ∷ cs) r = cond (eqb (refusal c r) 0) (told_of_job c.job) was_refused ∷ told cs (after c r)
