-- A read fills the buffer from where the bytes before it end.
use Rattle.std.proofs.Common.{◌≡◌, ℕ, ◌+◌, ◌-◌, ◌≤◌, List, ◌++◌, length, take, drop, sym, ap, ◌∙◌, subst, le_refl, drop_at, length-take-le, rules}
use Rattle.std.proofs.lemmas.List.{take-append-le}
use Rattle.std.proofs.lemmas.Slice.{take-put_mid_below}
use Rattle.std.proofs.Math.Seq.{take-add}
use Rattle.std.specs.Io.KnownBytes.{Consumes}
use Rattle.std.proofs.KnownBytes.{Consumes-trans}
use borrow.Rule.Slice.PartMut.{put_mid, post_of}
use Rattle.rows.proofs.read_sheet.Goals as goal

filled : (a k n : ℕ) (xs ys : List ℕ) → a ≤ length xs → n ≤ length ys → take a xs ++ take n ys ≡ take (a + n) (put_mid a k xs ys)
filled a k n xs ys within fits =
    let after = post_of a k xs in
    let whole = put_mid a k xs ys in
    let part : take n (drop a whole) ≡ take n ys = ap (take n) (drop_at (take a xs) (ys ++ after) a (length-take-le a xs within)) ∙ take-append-le n ys after fits in
    let front : take a whole ≡ take a xs = take-put_mid_below _ _ _ _ _ (le_refl _) within in
    ap (λ l. l ++ take n ys) (sym front) ∙ ap (λ l. take a whole ++ l) (sym part) ∙ sym (take-add a n whole)

pub loop-n-preserved : goal.loop-n-preserved
loop-n-preserved g c =
    let from = c.loop-n.n in
    let more = c.in_ok-more in
    let joined = filled from (length c.loop-n.sheet - from) more.more c.loop-n.sheet c.read.new.buf c.loop-n.invariant.within more.ensures.bound.0 in
    record { within = search rules; bytes = subst (Consumes _ _) joined (Consumes-trans _ _ _ _ _ c.loop-n.invariant.bytes more.ensures.bytes.0) }
