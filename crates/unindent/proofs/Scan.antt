-- The first pass, which holds every line against the prefix and works out how many data bytes are left.
-- The idea: `Scan` says that the lines from here on decide, and that what is kept up to here and what is left of the rest are together the result.
use mathlib.Core.Path.{◌≡◌, refl, ap, ◌∙◌}
use mathlib.Core.Bool.{Bool, true, false, ◌&&◌}
use mathlib.Core.List.{[], ◌∷◌, ◌++◌}
use Prim.Native.Nat.{ℕ, ◌+◌, ◌-◌, ◌≤◌, ◌<◌}
use native.Mathlib.Omega.{arith}
use lib.ListN.{length, take, drop, length-append, length-drop, take-append-drop}
use lib.Seq.{drop-drop}
use Rattle.recording.specs.declared.Refusal.TheVariants.{PrefixMissing}
use Rattle.recording.specs.Recording.{Bytes}
use Rattle.recording.specs.Edit.{keep, skip, edit_data}
use Rattle.recording.specs.Refusals.{number_of_refusal}
use Rattle.recording.proofs.ItemsLaws.{edit-alike}
use Rattle.layout.specs.Wrap.{split_lines}
use Rattle.layout.specs.Unindent.{unindent_ops, has_newline_in, begins_with, all_begin, prefix_fault}
use Rattle.layout.proofs.LineLaws.{lines_at}
use Rattle.layout.proofs.UnindentLaws.{byte_ops, by_bytes, begin_long, prefix_fits}
use Rattle.indent.specs.Lines.{to_next}
use Rattle.unindent.proofs.Laws as laws
use Rattle.unindent.proofs.Laws.{due, plan_pass, plan_off, plan_last, begin_last}

-- at is the first byte of the next line that is not empty
pub record Scan (p d : Bytes) (size at : ℕ) : Type 0 where
  -- up to where the lines are done, and whether the byte there may be the first of its line
  pub from : ℕ
  pub start : Bool
  pub next : at ≡ from + to_next start (drop from d)
  pub within : at ≤ length d
  -- the lines from there on decide
  pub same : all_begin p (split_lines d) ≡ all_begin p (lines_at start (split_lines (drop from d)))
  -- how many bytes are kept up to there
  pub kept : ℕ
  pub size_is : size ≡ kept + length (drop from d)
  pub total : kept + length (edit_data (byte_ops (length p) (due (length p) start) (drop from d)) (drop from d)) ≡ length (edit_data (byte_ops (length p) (length p) d) d)

pub scan_first : (p d : Bytes) (at : ℕ) → at ≡ 0 + to_next true (drop 0 d) → at ≤ length d → Scan p d (length d) at
scan_first p d at e w = record { from = 0; start = true; next = e; within = w; same = refl; kept = 0; size_is = omega arith; total = omega arith }

module _ (p d : Bytes) (one_line : has_newline_in p ≡ false) (size at : ℕ) (s : Scan p d size at) where
  abbrev n : ℕ
  n = length p

  -- what is left of the data
  abbrev rest : Bytes
  rest = drop s.from d

  abbrev ahead : ℕ
  ahead = to_next s.start rest

  module _ (more : at < length d) where
    pub scan-refused : begins_with p (drop at d) ≡ false → prefix_fault p d ≡ number_of_refusal PrefixMissing
    unfolding prefix_fault
    scan-refused b =
        let e : all_begin p (split_lines d) ≡ false =
        s.same ∙ laws.judged p d one_line s.from s.start at s.next more ∙ ap (λ (t : Bool). t && all_begin p (drop 1 (split_lines (drop at d)))) b in
        rw (one_line, e)

    module _ (b : begins_with p (drop at d) ≡ true) where
      pub inside : at + n ≤ length d
      inside = laws.inside p d one_line s.from s.start at s.next more b

      here : drop ahead rest ≡ drop at d
      here = laws.here p d one_line s.from s.start at s.next more

      before : length (take ahead rest) ≡ ahead
      before =
          let far = laws.ahead p d one_line s.from s.start at s.next more in
          omega (arith, ap length (take-append-drop ahead rest), length-append (take ahead rest) (drop ahead rest), length-drop ahead rest, far)

      -- the bytes up to the line stay, and the prefix goes
      edited : edit_data (byte_ops n (due n s.start) rest) rest ≡ take ahead rest ++ edit_data (byte_ops n 0 (drop (at + n) d)) (drop (at + n) d)
      edited =
          edit-alike (byte_ops n (due n s.start) rest) (keep ahead ∷ byte_ops n n (drop ahead rest)) rest
          (λ is. plan_pass n s.start rest is (laws.ahead p d one_line s.from s.start at s.next more))
          ∙ ap (λ (x : Bytes). take ahead rest ++ edit_data (byte_ops n n x) x) here
          ∙ ap (λ (x : Bytes). take ahead rest ++ x)
          (edit-alike (byte_ops n n (drop at d)) (skip n ∷ byte_ops n 0 (drop n (drop at d))) (drop at d)
          (λ is. plan_off n n (drop at d) is (laws.no_break p d one_line s.from s.start at s.next more b))
          ∙ ap (λ (x : Bytes). edit_data (byte_ops n 0 x) x) (drop-drop n at d))

      pub enough : n ≤ size
      enough = omega (arith, s.size_is, length-drop s.from d, s.next, inside)

      pub scan_next : (size' at' : ℕ) → size' ≡ size - n → at' ≡ (at + n) + to_next false (drop (at + n) d) → at' ≤ length d → Scan p d size' at'
      scan_next size' at' z e w =
          let long : length (edit_data (byte_ops n (due n s.start) rest) rest) ≡ ahead + length (edit_data (byte_ops n 0 (drop (at + n) d)) (drop (at + n) d)) =
          omega (arith, ap length edited, length-append (take ahead rest) (edit_data (byte_ops n 0 (drop (at + n) d)) (drop (at + n) d)), before) in
          record {
            from = at + n;
            start = false;
            next = e;
            within = w;
            same = s.same ∙ laws.later p d one_line s.from s.start at s.next more b;
            kept = s.kept + ahead;
            size_is = omega (arith, z, s.size_is, s.next, length-drop s.from d, length-drop (at + n) d, inside);
            total = omega (arith, s.total, long);
          }

  -- behind the last line
  module _ (past : length d ≤ at) where
    over : length rest ≤ ahead
    over = omega (arith, past, s.next, length-drop s.from d)

    all_begin_lem : all_begin p (split_lines d) ≡ true
    all_begin_lem = s.same ∙ begin_last p s.start rest over

    pub scan_fine : prefix_fault p d ≡ 0
    scan_fine = prefix_fits p d (record { one_line = one_line; all = all_begin_lem })

    pub scan_size : size ≡ length (edit_data (unindent_ops n (split_lines d)) d)
    scan_size =
        let last : edit_data (byte_ops n (due n s.start) rest) rest ≡ rest = edit-alike (byte_ops n (due n s.start) rest) [] rest (λ is. plan_last n s.start rest is over) in
        let lines : edit_data (unindent_ops n (split_lines d)) d ≡ edit_data (byte_ops n n d) d =
        edit-alike (unindent_ops n (split_lines d)) (byte_ops n n d) d (λ is. by_bytes n d (begin_long p (split_lines d) all_begin_lem) is) in
        omega (arith, s.size_is, s.total, ap length last, ap length lines)
