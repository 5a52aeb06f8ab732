-- Each turn stores the byte of one pair more (`pair_at`, `store_next`).
use Rattle.std.proofs.Common.{◌≡◌, ◌++◌, ◌+◌, ◌*◌, ◌<◌, ◌/◌, List, ℕ, length, take, drop, get_or, set, refl, sym, ap, ◌∙◌, arith}
use Rattle.std.proofs.Math.Seq.{take-length}
use Rattle.buffer.specs.Place.{over}
use Rattle.sheet.specs.Sheet.{from_pairs, data_of}
use Rattle.sheet.proofs.SheetLaws.{length_pairs, pair_at, store_next}
use Rattle.sheet.proofs.unhex.Goals as goal

pub loop-k-preserved : goal.loop-k-preserved
loop-k-preserved c =
    let s = c.args.s.now in
    let k = c.loop-k.k in
    let old = c.args.out.now in
    let byte = c.nibble.result * 16 + c.nibble-in-loop-k.result in
    let more : k < length s / 2 = omega arith in
    let v : byte ≡ get_or (from_pairs s) k 0 = rw (c.nibble.ensures.value, c.nibble-in-loop-k.ensures.value) (sym (pair_at s k more)) in
    ap (λ (o : List ℕ). set o k byte) c.loop-k.invariant ∙ ap (set (take k (from_pairs s) ++ drop k old) k) v ∙ store_next (from_pairs s) old k (omega (arith, length_pairs s)) (omega arith)

pub returns : goal.returns
unfolding data_of over
returns c =
    let s = c.args.s.now in
    let p = from_pairs s in
    let e : c.loop-k.k ≡ length p = omega (arith, length_pairs s) in
    record {
      value = (omega (arith, length_pairs s), refl);
      out_after = c.loop-k.invariant ∙ ap (λ (j : ℕ). take j p ++ drop j c.args.out.now) e ∙ ap (λ (q : List ℕ). q ++ drop (length p) c.args.out.now) (take-length p);
    }
