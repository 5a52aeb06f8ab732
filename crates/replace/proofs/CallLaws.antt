-- What the scan of the records says of the call: refusal 8 or none (`records_fault_lem`, `none_bad`), that the last record ends within the data (`within`),
-- and that the capped size of the data settles as the size of the result does (`settled`). The rest of the call is that of any call on a content alone (`AloneLaws` of `outcomes`).
use Rattle.recording.specs.Check.{fault_of}
use Rattle.recording.specs.declared.Refusal.{Refusal}
use Rattle.std.specs.Prelude as Std
use mathlib.Core.Path.{◌≡◌, sym, ap, subst, ◌∙◌}
use mathlib.Core.List.{List}
use Prim.Native.Nat.{ℕ, ◌+◌, ◌-◌, ◌≤◌}
use native.Mathlib.Omega.{arith}
use lib.ListN.{length, drop}
use Rattle.recording.proofs.CheckLaws.{refused-number, fine_zero}
use Rattle.recording.specs.Edit.{edit_data}
use Rattle.recording.specs.Refusals.{number_of_refusal}
use Rattle.recording.specs.Outcome.{Room}
use Rattle.writer.specs.Sizes.{sizes_fault}
use Rattle.layout.specs.declared.Replacement.{Replacement}
use Rattle.layout.specs.Layout.{Single, replaced_parts, single_ops, single_fault, replace_ops}
use Rattle.replace.specs.declared.Scan.{Scan}
use Rattle.replace.specs.Records.{capped, scan, check_all}
use Rattle.replace.proofs.ScanLaws.{eight, result_size, capped_fault}

module _ (ds new : List ℕ) (xs : List Replacement) (r : Std.Result Scan Refusal) (scanned : r ≡ check_all (length ds) (length new) xs (scan 0 0)) where
  abbrev call : Single
  call = replaced_parts xs new

  pub records_fault_lem : fault_of r ≡ single_fault call ds
  records_fault_lem = ap (λ (v : Std.Result Scan Refusal). fault_of v) scanned ∙ eight (length ds) (length new) xs (scan 0 0)

  pub some_bad : (f : Refusal) → r ≡ Std.Err f → single_fault call ds ≡ number_of_refusal f
  some_bad f e = sym records_fault_lem ∙ refused-number r f e

  module _ (s : Scan) (ok : r ≡ Std.Ok s) where
    pub none_bad : single_fault call ds ≡ 0
    none_bad = sym records_fault_lem ∙ fine_zero r s ok

    found : (s.at ≤ length ds) × (capped (s.size + (length ds - s.at)) ≡ capped (0 + length (edit_data (replace_ops new 0 xs) (drop 0 ds))))
    found =
        subst (λ (v : Std.Result Scan Refusal). Std.IfOk v (λ w. (w.at ≤ length ds) × (capped (w.size + (length ds - w.at)) ≡ capped (0 + length (edit_data (replace_ops new 0 xs) (drop 0 ds))))))
        (sym scanned ∙ ok) (result_size ds new xs (scan 0 0) (omega arith))

    pub within : s.at ≤ length ds
    within = found.0

    capped_size : capped (s.size + (length ds - s.at)) ≡ capped (length (edit_data (single_ops call ds) ds))
    capped_size = found.1 ∙ ap capped (omega arith)

    pub settled : (d e n : ℕ) (o : Room) → d ≡ capped (s.size + (length ds - s.at)) → (v : Std.Result Unit Refusal) → fault_of v ≡ sizes_fault d e n 0 o
        → fault_of v ≡ sizes_fault (length (edit_data (single_ops call ds) ds)) e n 0 o
    settled d e n o sum v g = g ∙ ap (λ (m : ℕ). sizes_fault m e n 0 o) (sum ∙ capped_size) ∙ capped_fault (length (edit_data (single_ops call ds) ds)) e n 0 o
