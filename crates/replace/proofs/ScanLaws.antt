-- What the scan over all records finds: refusal 8 exactly as `records_fault` has it, and, capped, the data size of the result.
-- The idea of the second: the size so far and the data that the records left make of the rest are together the size of the whole.
use Rattle.std.specs.Prelude.{Ok, Err, IfOk}
use mathlib.Core.Path.{◌≡◌, refl, sym, ap, subst, ◌∙◌}
use mathlib.Core.Bool.{Bool, true, false}
use mathlib.Core.List.{List, [], ◌∷◌, ◌++◌}
use Prim.Native.Nat.{ℕ, ◌+◌, ◌-◌, ◌≤◌, ◌<◌}
use native.Mathlib.Omega.{arith}
use lib.Dec.{ltb}
use lib.ListN.{length, take, drop, length-append, length-drop}
use lib.Seq.{drop-drop, length-take-le}
use borrow.Author.Tests.{ltb-true, ltb-false}
use Rattle.buffer.specs.Place.{part}
use Rattle.buffer.proofs.Laws.{length_part}
use Rattle.recording.specs.Recording.{byte_items, data_of}
use Rattle.recording.specs.Edit.{edit_data}
use Rattle.recording.specs.declared.Refusal.TheVariants.{ReplacementRange}
use Rattle.recording.specs.Check.{fault_of}
use Rattle.recording.specs.Outcome.{Room}
use Rattle.recording.proofs.ItemsLaws.{data_bytes_lem}
use Rattle.writer.specs.Sizes.{sizes_fault}
use Rattle.writer.proofs.Sizes.{over_d}
use Rattle.layout.specs.declared.Replacement.{Replacement}
use Rattle.layout.specs.Layout.{bad_record_of, records_fault, replace_ops}
use Rattle.replace.specs.declared.Scan.{Scan}
use Rattle.replace.specs.Records.{capped, scan, check_step, check_all}
use Rattle.replace.proofs.RecordLaws.{Good, good, capped_over, capped_in}

-- ── capped sizes: a cap inside a sum does not show, and refusal 9 does not see the cap
pub capped-sum : (a b : ℕ) → capped (capped a + b) ≡ capped (a + b)
capped-sum a b = go (ltb 1048576 a) refl
  where
    go : (v : Bool) → ltb 1048576 a ≡ v → capped (capped a + b) ≡ capped (a + b)
    go true e =
        let h : 1048576 < a = ltb-true 1048576 a e in
        let q = capped_over a h in
        capped_over (capped a + b) (omega (arith, q)) ∙ sym (capped_over (a + b) (omega (arith, h)))
    go false e = ap (λ (n : ℕ). capped (n + b)) (capped_in a (ltb-false 1048576 a e))

pub capped_fault : (n e t l : ℕ) (o : Room) → sizes_fault (capped n) e t l o ≡ sizes_fault n e t l o
capped_fault n e t l o = go (ltb 1048576 n) refl
  where
    go : (v : Bool) → ltb 1048576 n ≡ v → sizes_fault (capped n) e t l o ≡ sizes_fault n e t l o
    go true q =
        let h : 1048576 < n = ltb-true 1048576 n q in
        over_d (capped n) e t l o (omega (arith, capped_over n h)) ∙ sym (over_d n e t l o h)
    go false q = ap (λ (m : ℕ). sizes_fault m e t l o) (capped_in n (ltb-false 1048576 n q))

-- ── one record
module _ (n t : ℕ) (x : Replacement) (s : Scan) where
  step_fails : bad_record_of s.at n t x ≡ true → check_step n t x s ≡ Err ReplacementRange
  unfolding check_step
  step_fails h = rw h

  step_goes : bad_record_of s.at n t x ≡ false → check_step n t x s ≡ Ok (scan x.end (capped (capped (s.size + (x.start - s.at)) + (x.to - x.from))))
  unfolding check_step
  step_goes h = rw h

-- ── refusal 8
pub eight : (n t : ℕ) (xs : List Replacement) (s : Scan) → fault_of (check_all n t xs s) ≡ records_fault s.at n t xs
eight n t [] s = refl
eight n t (x ∷ xs) s = go (bad_record_of s.at n t x) refl (λ v. eight n t xs v)
  where
    go : (b : Bool) → bad_record_of s.at n t x ≡ b → ((v : Scan) → fault_of (check_all n t xs v) ≡ records_fault v.at n t xs)
        → fault_of (check_all n t (x ∷ xs) s) ≡ records_fault s.at n t (x ∷ xs)
    go true e more =
        let q = step_fails n t x s e in
        rw (q, e)
    go false e more =
        let q = step_goes n t x s e in
        rw (q, e) (more _)

-- ── the size of the result
-- what one record makes of the data from `at` on
pub size_next : (ds new : List ℕ) (at : ℕ) (x : Replacement) (xs : List Replacement) → Good at (length ds) (length new) x
    → length (edit_data (replace_ops new at (x ∷ xs)) (drop at ds)) ≡ ((x.start - at) + (x.to - x.from)) + length (edit_data (replace_ops new x.end xs) (drop x.end ds))
size_next ds new at x xs g =
    let m : (at + (x.start - at)) + (x.end - x.start) ≡ x.end = omega (arith, g.low, g.order) in
    let rest : drop (x.end - x.start) (drop (x.start - at) (drop at ds)) ≡ drop x.end ds =
    ap (λ (l : List ℕ). drop (x.end - x.start) l) (drop-drop (x.start - at) at ds) ∙ drop-drop (x.end - x.start) (at + (x.start - at)) ds ∙ ap (λ (k : ℕ). drop k ds) m in
    let kept : List ℕ = take (x.start - at) (drop at ds) in
    let put_in : List ℕ = data_of (byte_items (part x.from x.to new)) in
    let more : List ℕ = edit_data (replace_ops new x.end xs) (drop x.end ds) in
    rw rest
    (omega (
      arith,
      length-append kept (put_in ++ more),
      length-append put_in more,
      length-take-le (x.start - at) (drop at ds) (omega (arith, g.order, g.high, length-drop at ds)),
      ap length (data_bytes_lem (part x.from x.to new)),
      length_part x.from x.to new g.within,
    ))

assoc : (a b c : ℕ) → (a + b) + c ≡ a + (b + c)
assoc a b c = omega arith

-- with no record bad: the end of the last one is within the data, and the size up to there and the rest of the data are the size of the result
pub result_size : (ds new : List ℕ) (xs : List Replacement) (s : Scan) → s.at ≤ length ds
    → IfOk (check_all (length ds) (length new) xs s)
    (λ v. (v.at ≤ length ds) × (capped (v.size + (length ds - v.at)) ≡ capped (s.size + length (edit_data (replace_ops new s.at xs) (drop s.at ds)))))
result_size ds new [] s l = (l, ap (λ (m : ℕ). capped (s.size + m)) (sym (length-drop s.at ds)))
result_size ds new (x ∷ xs) s l = go (bad_record_of s.at (length ds) (length new) x) refl (λ v h. result_size ds new xs v h)
  where
    more : ℕ
    more = length (edit_data (replace_ops new x.end xs) (drop x.end ds))

    -- the records from ys on, from w, find the size m
    Finds : List Replacement → Scan → ℕ → Type 0
    Finds ys w m = IfOk (check_all (length ds) (length new) ys w) (λ v. (v.at ≤ length ds) × (capped (v.size + (length ds - v.at)) ≡ m))

    go : (b : Bool) → bad_record_of s.at (length ds) (length new) x ≡ b
        → ((w : Scan) → w.at ≤ length ds → Finds xs w (capped (w.size + length (edit_data (replace_ops new w.at xs) (drop w.at ds)))))
        → Finds (x ∷ xs) s (capped (s.size + length (edit_data (replace_ops new s.at (x ∷ xs)) (drop s.at ds))))
    go true e rest = rw (step_fails (length ds) (length new) x s e) tt
    go false e rest =
        let g = good s.at (length ds) (length new) x e in
        let kept : ℕ = x.start - s.at in
        let put_in : ℕ = x.to - x.from in
        let sum : (s.size + kept + put_in) + more ≡ s.size + length (edit_data (replace_ops new s.at (x ∷ xs)) (drop s.at ds)) = omega (arith, size_next ds new s.at x xs g) in
        let w : Scan = scan x.end (capped (capped (s.size + kept) + put_in)) in
        rw (step_goes (length ds) (length new) x s e)
        (subst (λ (m : ℕ). Finds xs w m)
        (capped-sum (capped (s.size + kept) + put_in) more
        ∙ ap capped (assoc (capped (s.size + kept)) put_in more)
        ∙ capped-sum (s.size + kept) (put_in + more)
        ∙ ap capped (sym (assoc (s.size + kept) put_in more))
        ∙ ap capped sum)
        (rest w g.high))
