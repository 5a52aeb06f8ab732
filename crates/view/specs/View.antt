-- Q-6: what the floor reads and what the office reads of one recording, given a label; and what is refused.
use Rattle.std.specs.Prelude.{ℕ, Bool, true, false, cond, ◌&&◌, ◌||◌, not, length, take, drop, replicate}
use mathlib.Core.List.{List, [], ◌∷◌, ◌++◌, tail}
use Rattle.chars.specs.Chars.{Character, chars, wide, well_formed_of}
use Rattle.recording.specs.Lists.{same}
use Rattle.recording.specs.Recording.{Bytes, Recording, is_nil, Item, byte, push, pop, raw, byte_items, items, encode}
use Rattle.recording.specs.Coloured.{Coloured, coloured, balanced}
use Rattle.recording.specs.Edit.{Op, keep, skip, put, edit}
use Rattle.recording.specs.Refusals.{first_of, refuse_if}
use Rattle.recording.specs.Outcome.{Room, Faults, content_faults, Outcome, settle}
use Rattle.recorder.specs.Recorder.{leaves}

-- ── which characters are replaced
-- the label is among these
abbrev pub among : Bytes → List Bytes → Bool
among l [] = false
among l (k ∷ ks) = same l k || among l ks

-- any of these bytes is under the label
abbrev pub any_under_of : Bytes → List Coloured → Bool
any_under_of l [] = false
any_under_of l (c ∷ cs) = among l c.labels || any_under_of l cs

-- a character with its coloured bytes: it is replaced if any of them is under the label; 0A stays
abbrev pub hides : Bytes → Character → List Coloured → Bool
hides l c cs = any_under_of l cs && not (same c.text (0x0A ∷ []))

-- for each character whether it is replaced; cs has the coloured bytes from its first on
abbrev pub hidden_from : Bytes → List Character → List Coloured → List Bool
hidden_from l [] cs = []
hidden_from l (c ∷ chs) cs = hides l c (take (length c.text) cs) ∷ hidden_from l chs (drop (length c.text) cs)

unfoldable pub hidden : Bytes → Recording → List Bool
hidden l r = hidden_from l (chars r.data_bytes) (coloured r)

-- ── what the floor reads
-- as many `*` as the character's width
abbrev pub stars : Character → Bytes
stars c = replicate (wide c) 0x2A

-- the stars come in after the entries before the character, so under the labels of its first byte; the entries inside it come after them
abbrev pub floor_ops : List Bool → List Character → List Op
floor_ops [] cs = []
floor_ops (h ∷ hs) [] = []
floor_ops (true ∷ hs) (c ∷ cs) = put (byte_items (stars c)) ∷ skip (length c.text) ∷ floor_ops hs cs
floor_ops (false ∷ hs) (c ∷ cs) = keep (length c.text) ∷ floor_ops hs cs

-- the raw sequences placed under the label dropped: those where it is among the labels open, which `s` has, innermost first
abbrev pub drop_raws : Bytes → List Bytes → List Item → List Item
drop_raws l s [] = []
drop_raws l s (byte b ∷ is) = byte b ∷ drop_raws l s is
drop_raws l s (push k ∷ is) = push k ∷ drop_raws l (k ∷ s) is
drop_raws l s (pop ∷ is) = pop ∷ drop_raws l (tail s) is
drop_raws l s (raw t ∷ is) = cond (among l s) [] (raw t ∷ []) ++ drop_raws l s is

unfoldable pub floor_items : Bytes → Recording → List Item
floor_items l r = edit (floor_ops (hidden l r) (chars r.data_bytes)) (drop_raws l [] (items r))

-- the recording that the floor reads
abbrev pub floor_of : Bytes → Recording → Recording
floor_of l r = encode (floor_items l r)

-- ── refusals: 34, the label is empty or ill-formed; 35, the content is unbalanced
unfoldable pub view_fault : Bytes → Recording → ℕ
view_fault l r = first_of (refuse_if (is_nil l || not (well_formed_of l)) 34 ∷ refuse_if (not (balanced r)) 35 ∷ [])

-- they follow the content's checks, for both readers
unfoldable pub view_faults : Bytes → Recording → Faults
view_faults l r = content_faults r (view_fault l r)

-- ── the two readers
unfoldable pub office_outcome : Bytes → Room → Recording → Outcome
office_outcome l o r = settle (view_faults l r) o (leaves (encode (items r)))

unfoldable pub floor_outcome : Bytes → Room → Recording → Outcome
floor_outcome l o r = settle (view_faults l r) o (leaves (floor_of l r))
