-- ONE NOTION OF A LINE: what stands from the starts to the ends is `split_lines` of the data (`pieces_split`). So no line has a 0A, and the lines joined by 0A are the data.
use Prim.Native.Nat.{ℕ, zero, suc, ◌+◌, ◌-◌, ◌≤◌, ◌<◌}
use native.Mathlib.Omega.{arith}
use mathlib.Core.Bool.{Bool, true, false, cond}
use mathlib.Core.Path.{◌≡◌, refl, sym, ap, ◌∙◌}
use mathlib.Core.List.{List, [], ◌∷◌, ◌++◌, append-nil}
use lib.Dec.{eqb}
use lib.ListN.{length, take, drop, get_or, length-drop}
use lib.Seq.{take-suc, get_or-drop}
use Rattle.buffer.specs.Place.{part}
use Rattle.recording.specs.Lists.{AllOf}
use Rattle.layout.specs.Wrap.{onto_first, split_lines, join_lines}
use Rattle.layout.specs.Unindent.{has_newline_in}
use Rattle.layout.proofs.ByteWordLaws.{NoNewline, lines_none}
use Rattle.layout.proofs.LineLaws.{some_lines, before_first, nil_first, first_onto}
use Rattle.layout.proofs.TwiceLaws.{join_lines_lem}
use Rattle.line_index.specs.Starts.{starts_from, line_starts, ends_from, line_ends, line_span}
use Rattle.line_index.specs.Shown.{pieces}
use Rattle.line_index.proofs.StartLaws.{left_more, left_byte, left_next, ends_length}

part_none : (a : ℕ) (w : List ℕ) → part a a w ≡ []
part_none a w =
    let e : a - a ≡ 0 = omega arith in
    rw e

-- one byte more
part_more : (s at b : ℕ) (bs w : List ℕ) → s ≤ at → drop at w ≡ b ∷ bs → part s (suc at) w ≡ part s at w ++ (b ∷ [])
part_more s at b bs w l e =
    let n : ℕ = at - s in
    let en : suc at - s ≡ suc n = omega arith in
    let es : s + n ≡ at = omega arith in
    ap (λ (k : ℕ). take k (drop s w)) en ∙ take-suc (drop s w) n 0 (omega (arith, length-drop s w, left_more at b bs w e))
    ∙ ap (λ (x : ℕ). take n (drop s w) ++ (x ∷ [])) (get_or-drop s w n 0 ∙ ap (λ (k : ℕ). get_or w k 0) es ∙ left_byte at b bs w e)

-- the line under way starts at s, the place is `at`, and d is left
split_from : (w : List ℕ) (s at : ℕ) (d : List ℕ) → s ≤ at → drop at w ≡ d → pieces w (s ∷ starts_from at d) (ends_from at d) ≡ before_first (part s at w) (split_lines d)
unfolding starts_from ends_from
split_from w s at [] l e = ap (λ (x : List ℕ). x ∷ []) (sym (append-nil (part s at w)))
split_from w s at (b ∷ d) l e =
    go (eqb b 0x0A) (split_from w (suc at) (suc at) d (omega arith) (left_next at b d w e)) (split_from w s (suc at) d (omega arith) (left_next at b d w e))
  where
    go : (t : Bool) → pieces w (suc at ∷ starts_from (suc at) d) (ends_from (suc at) d) ≡ before_first (part (suc at) (suc at) w) (split_lines d)
        → pieces w (s ∷ starts_from (suc at) d) (ends_from (suc at) d) ≡ before_first (part s (suc at) w) (split_lines d)
        → pieces w (s ∷ cond t (suc at ∷ starts_from (suc at) d) (starts_from (suc at) d)) (cond t (at ∷ ends_from (suc at) d) (ends_from (suc at) d))
        ≡ before_first (part s at w) (cond t ([] ∷ split_lines d) (onto_first b (split_lines d)))
    go true f g =
        let r : pieces w (suc at ∷ starts_from (suc at) d) (ends_from (suc at) d) ≡ split_lines d
        = f ∙ ap (λ (x : List ℕ). before_first x (split_lines d)) (part_none (suc at) w) ∙ nil_first (split_lines d) (some_lines d) in
        λ i. sym (append-nil (part s at w)) i ∷ r i
    go false f g = g ∙ ap (λ (x : List ℕ). before_first x (split_lines d)) (part_more s at b d w l e) ∙ sym (first_onto (part s at w) b (split_lines d))

-- THE LINES AT THE STARTS ARE split_lines
pub pieces_split : (d : List ℕ) → pieces d (line_starts d) (line_ends d) ≡ split_lines d
unfolding line_starts line_ends
pieces_split d = split_from d 0 0 d (omega arith) refl ∙ nil_first (split_lines d) (some_lines d)

pieces_at : (d ss es : List ℕ) (n : ℕ) → n < length ss → length ss ≤ length es → get_or (pieces d ss es) n [] ≡ part (get_or ss n 0) (get_or es n 0) d
pieces_at d [] es n h g = absurd (omega arith)
pieces_at d (s ∷ ss) [] n h g = absurd (omega arith)
pieces_at d (s ∷ ss) (e ∷ es) zero h g = refl
pieces_at d (s ∷ ss) (e ∷ es) (suc n) h g = pieces_at d ss es n (omega arith) (omega arith)

pieces-length : (d ss es : List ℕ) → length ss ≤ length es → length (pieces d ss es) ≡ length ss
pieces-length d [] es g = refl
pieces-length d (s ∷ ss) [] g = absurd (omega arith)
pieces-length d (s ∷ ss) (e ∷ es) g = ap suc (pieces-length d ss es (omega arith))

both : (d : List ℕ) → length (line_starts d) ≤ length (line_ends d)
unfolding line_starts line_ends
both d = omega (arith, ends_length 0 d)

-- as many lines as split_lines has
pub lines_count : (d : List ℕ) → length (line_starts d) ≡ length (split_lines d)
lines_count d = sym (pieces-length d (line_starts d) (line_ends d) (both d)) ∙ ap length (pieces_split d)

-- line n is line n of split_lines
pub line_bytes_lem : (d : List ℕ) (n : ℕ) → n < length (line_starts d) → part (line_span d n).first (line_span d n).end d ≡ get_or (split_lines d) n []
unfolding line_span
line_bytes_lem d n h = sym (pieces_at d (line_starts d) (line_ends d) n h (both d)) ∙ ap (λ (ls : List (List ℕ)). get_or ls n []) (pieces_split d)

-- LINE n HAS NO 0A
all_at : (P : List ℕ → Type 0) (ls : List (List ℕ)) (n : ℕ) → n < length ls → AllOf P ls → P (get_or ls n [])
all_at P [] n h a = absurd (omega arith)
all_at P (l ∷ ls) zero h a = a.0
all_at P (l ∷ ls) (suc n) h a = all_at P ls n (omega arith) a.1

no_newline : (l : List ℕ) → AllOf NoNewline l → has_newline_in l ≡ false
no_newline [] h = refl
no_newline (b ∷ l) h = rw h.0 (no_newline l h.1)

pub line_clean : (d : List ℕ) (n : ℕ) → n < length (line_starts d) → has_newline_in (part (line_span d n).first (line_span d n).end d) ≡ false
line_clean d n h = ap has_newline_in (line_bytes_lem d n h) ∙ no_newline (get_or (split_lines d) n []) (all_at (AllOf NoNewline) (split_lines d) n (omega (arith, h, lines_count d)) (lines_none d))

-- THE LINES JOINED BY 0A ARE THE DATA
pub lines_joined : (d : List ℕ) → join_lines (pieces d (line_starts d) (line_ends d)) ≡ d
lines_joined d = ap join_lines (pieces_split d) ∙ join_lines_lem d
