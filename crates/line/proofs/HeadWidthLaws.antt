-- The first head of what is left, and the bytes 20 after it, end where characters end, and their widths are those of their bytes.
-- The idea: a word ends at the data's end or before a byte below 80, so the word's characters are read as they are in the data.
use Prim.Native.Nat.{ℕ}
use native.Mathlib.Omega.{arith}
use mathlib.Core.Bool.{Bool, true, false, cond}
use mathlib.Core.Path.{◌≡◌, refl, sym, ap, ◌∙◌}
use mathlib.Core.List.{List, [], ◌∷◌, ◌++◌, append-nil, append_assoc}
use lib.ListN.{length, take, drop}
use Rattle.chars.specs.Chars.{Character, chars, Seam, bytes_of, width_of, text_width_of}
use Rattle.chars.proofs.CharsLaws.{bytes-chars}
use Rattle.chars.proofs.SeamLaws.{Low, width_none, seam_low, seam_after}
use Rattle.layout.specs.Tabs.{spaces}
use Rattle.layout.proofs.TabLaws.{chars-spaces, width_spaces}
use Rattle.layout.proofs.WordLaws.{length-spaces}
use Rattle.line.specs.Rest.{ends_word, word_text, space_len, first_head_of, head_len, head_width}
use Rattle.line.proofs.WordCharLaws.{end_low}
use Rattle.line.proofs.HeadLaws.{spaces_split, after_head, head_split}

-- ── the word at the front
word_take : (d : List ℕ) → take (length (word_text d)) d ≡ word_text d
unfolding word_text
word_take [] = refl
word_take (x ∷ d) = go (ends_word x) (word_take d)
  where
    go : (t : Bool) → take (length (word_text d)) d ≡ word_text d → take (length (cond t [] (x ∷ word_text d))) (x ∷ d) ≡ cond t [] (x ∷ word_text d)
    go true h = refl
    go false h = ap (λ (r : List ℕ). x ∷ r) h

word_low : (d : List ℕ) → Low (drop (length (word_text d)) d)
unfolding word_text
word_low [] = tt
word_low (x ∷ d) = go (ends_word x) refl (word_low d)
  where
    go : (t : Bool) → ends_word x ≡ t → Low (drop (length (word_text d)) d) → Low (drop (length (cond t [] (x ∷ word_text d))) (x ∷ d))
    go true e h = end_low x e
    go false e h = h

pub head_seam : (m : ℕ) (d : List ℕ) → Seam d (head_len m d) × (text_width_of (take (head_len m d) d) ≡ head_width m d)
unfolding head_len head_width first_head_of text_width_of
head_seam m d =
    let n : ℕ = length (word_text d) in
    let h : List Character = first_head_of m d in
    let rest : List Character = after_head m (chars (word_text d)) in
    let e : chars d ≡ h ++ (rest ++ chars (drop n d)) =
    seam_low d n (word_low d) ∙ ap (λ (r : List ℕ). chars r ++ chars (drop n d)) (word_take d) ∙ ap (λ (r : List Character). r ++ chars (drop n d)) (sym (head_split m (chars (word_text d))))
    ∙ append_assoc h rest (chars (drop n d)) in
    let r = seam_after d h (rest ++ chars (drop n d)) e in
    (r.0, ap width_of r.1)

-- ── the bytes 20 at the front
pub gap_seam : (d : List ℕ) → Seam d (space_len d) × (text_width_of (take (space_len d) d) ≡ space_len d)
unfolding text_width_of
gap_seam d =
    let k : ℕ = space_len d in
    let y : List ℕ = drop k d in
    let e : chars d ≡ chars (spaces k) ++ chars y = ap chars (sym (spaces_split d).0) ∙ chars-spaces k y in
    let l : length (bytes_of (chars (spaces k))) ≡ k = ap length (bytes-chars (spaces k)) ∙ length-spaces k in
    let w : width_of (chars (spaces k)) ≡ k = ap (λ (r : List ℕ). width_of (chars r)) (sym (append-nil (spaces k))) ∙ width_spaces k [] ∙ omega (arith, width_none) in
    let r : Seam d k × (chars (take k d) ≡ chars (spaces k)) = rw l at (seam_after d (chars (spaces k)) (chars y) e) in
    (r.0, ap width_of r.1 ∙ w)
