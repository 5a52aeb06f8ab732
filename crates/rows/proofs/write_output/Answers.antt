-- Each way puts the heading and what the laws of the output say comes after it.
use Rattle.std.proofs.Common.{◌≡◌, ◌++◌, ◌+◌, drop, sym, ◌∙◌, arith}
use borrow.Author.Rules.{part_to_end}
use Rattle.std.proofs.lemmas.Bool.{false≢true}
use Rattle.sheet.specs.Sheet.{sheet_lines}
use Rattle.rows.specs.Rows.{bad_row, rows_from, rows_heading, output}
use Rattle.rows.proofs.OutputLaws.{too_long, no_line, no_heading, with_heading, finished}
use Rattle.rows.proofs.write_output.Goals as goal
use Rattle.rows.proofs.write_output.Goals.{then-e-sheet-via-then-e-sheet, then-e-sheet-via-else-e-sheet+then-not-is_heading}

pub returns-then-sheet-gt65536 : goal.returns-then-sheet-gt65536
unfolding rows_heading
returns-then-sheet-gt65536 c =
    let s = c.args.sheet.now in
    let h = c.put-n in
    let p = c.put_bad in
    let f = finished s c.args.out.now _ _ (bad_row 0) h.result p.result (too_long s c.if-sheet-gt65536.true) h.ensures.0 h.ensures.1 p.ensures.value.0 p.ensures.value.1 in
    record { value = f.0; upper_bound = f.1 }

pub returns-then-e-sheet : goal.returns-then-e-sheet
unfolding rows_heading
returns-then-e-sheet c =
    let s = c.args.sheet.now in
    let h = c.put-n in
    let p = c.put_bad-then-e-sheet in
    let e = c.find-e in
    let short = c.if-sheet-gt65536.false in
    let bad : output s ≡ rows_heading ++ bad_row 0 = elim c.then-e-sheet.branch [
      | then-e-sheet-via-then-e-sheet w ↦ no_line s e.result short e.ensures.value w.if-e-sheet.true
      | then-e-sheet-via-else-e-sheet+then-not-is_heading w ↦ no_heading s e.result short e.ensures.value (omega (arith, e.ensures.lower_bound, w.if-e-sheet.false))
          (λ q. false≢true (sym w.if-not-is_heading.true ∙ w.is_heading.ensures.1 q))
    ] in
    let f = finished s c.args.out.now _ _ (bad_row 0) h.result p.result bad h.ensures.0 h.ensures.1 p.ensures.value.0 p.ensures.value.1 in
    record { value = f.0; upper_bound = f.1 }

pub returns : goal.returns
unfolding rows_heading
returns c =
    let s = c.args.sheet.now in
    let h = c.put-n in
    let p = c.put_rows in
    let e = c.find-e in
    let right = with_heading s e.result c.if-sheet-gt65536.false e.ensures.value (omega (arith, e.ensures.lower_bound, c.if-e-sheet.false)) (c.is_heading.ensures.0 c.if-not-is_heading.false) in
    let rest = part_to_end s (e.result + 1) in
    let f = finished s c.args.out.now _ _ (rows_from 0 (sheet_lines (drop (e.result + 1) s))) h.result p.result right h.ensures.0 h.ensures.1 (rw rest at p.ensures.0) (rw rest at p.ensures.1) in
    record { value = f.0; upper_bound = f.1 }
