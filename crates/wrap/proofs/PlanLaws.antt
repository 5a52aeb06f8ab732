-- The loop over the lines writes the plan `wrap_ops`: a line's items, a 0A, and the plan of the lines that are left.
-- The idea: what is done, and the plan from the cursor on, is the whole plan (`State`); one law for a line that others follow, one for the last.
use Prim.Native.Nat.{ℕ, ◌-◌, ◌≤◌, ◌<◌}
use native.Mathlib.Omega.{arith}
use mathlib.Core.Bool.{Bool}
use mathlib.Core.Path.{◌≡◌, refl, sym, ap, ◌∙◌}
use mathlib.Core.List.{List, [], ◌∷◌, ◌++◌, append_assoc, append-nil}
use lib.ListN.{length, drop, length-drop}
use Rattle.recording.specs.Recording.{recording, entries_of, Item, byte, items_from}
use Rattle.recording.specs.Edit.{front, back, entries_only, edit}
use Rattle.recording.proofs.ItemsLaws.{data_items_from}
use Rattle.recording.proofs.EditLaws.{front-back, back-back}
use Rattle.writer.specs.declared.Cursor.{Cursor}
use Rattle.writer.specs.Write.{Out, add, Fits, Ready, Sound, left}
use Rattle.writer.proofs.Laws.{add_long, Long}
use Rattle.writer.proofs.Progress as progress
use Rattle.writer.proofs.Progress.{Progress, progress_first, progress_same}
use Rattle.writer.proofs.Steps.{fits_first, fits_then, then, back_all, left_start, ready_start}
use Rattle.layout.specs.Wrap.{Line, line_of, split_lines}
use Rattle.layout.specs.Layout.{wrap_ops, wrap, result_items}
use Rattle.layout.proofs.LineLaws.{some_lines}
use Rattle.layout.proofs.WordLaws.{some_all}
use Rattle.line.specs.Rest.{rest_lines}
use Rattle.std.specs.Prelude.{Option, Some, None, IfSome}
use Rattle.line.specs.Line.{following, lines_on}
use Rattle.line.specs.declared.Next.{Next}
use Rattle.line.proofs.RestLaws.{rest_all}
use Rattle.wrap.specs.Plan.{line_items, line_left}

abbrev newline : List Item
newline = byte 0x0A ∷ []

-- ── one line of the plan
plan_more : (n at : ℕ) (l : Line) (ms : List Line) (is : List Item) → 0 < length ms
    → edit (wrap_ops n at (l ∷ ms)) is
    ≡ line_items (l.first - at) (l.end - l.first) is ++ (newline ++ edit (wrap_ops n l.end ms) (line_left (l.first - at) (l.end - l.first) is))
unfolding line_items line_left
plan_more n at l [] is h = absurd (omega arith)
plan_more n at l (m ∷ ms) is h =
    let a : ℕ = l.first - at in
    let b : ℕ = l.end - l.first in
    let r : List Item = newline ++ edit (wrap_ops n l.end (m ∷ ms)) (back b (back a is)) in
    rw (front-back b (back a is), back-back b (back a is)) (sym (append_assoc (entries_only (front a is)) (front b (back a is)) r))

plan_last : (n at : ℕ) (l : Line) (is : List Item)
    → edit (wrap_ops n at (l ∷ [])) is
    ≡ line_items (l.first - at) (l.end - l.first) is
    ++ (entries_only (front (n - l.end) (line_left (l.first - at) (l.end - l.first) is)) ++ back (n - l.end) (line_left (l.first - at) (l.end - l.first) is))
unfolding line_items line_left
plan_last n at l is =
    let a : ℕ = l.first - at in
    let b : ℕ = l.end - l.first in
    let r : List Item = entries_only (front (n - l.end) (back b (back a is))) ++ back (n - l.end) (back b (back a is)) in
    sym (append_assoc (entries_only (front a is)) (front b (back a is)) r)

-- ── a line is written in two steps
pub skip_fits : (a b : ℕ) (is : List Item) (o : Out) → Fits (line_items a b is) o → Fits (entries_only (front a is)) o
unfolding line_items
skip_fits a b is o room = fits_first (entries_only (front a is)) (front b (back a is)) (line_items a b is) o refl room

module _ (a b : ℕ) (is : List Item) (o o₁ : Out) (n : ℕ) (is₁ : List Item) (room : Fits (line_items a b is) o) (v₁ : o₁ ≡ add (entries_only (front a is)) o) (l₁ : is₁ ≡ back a is) (en : n ≡ b) where
  parted_line : line_items a b is ≡ entries_only (front a is) ++ front n is₁
  unfolding line_items
  parted_line = λ i. entries_only (front a is) ++ front (sym en i) (sym l₁ i)

  pub keep_fits : Fits (front n is₁) o₁
  keep_fits = fits_then (entries_only (front a is)) (front n is₁) (line_items a b is) o o₁ parted_line room v₁

  pub line_wrote : (o₂ : Out) → o₂ ≡ add (front n is₁) o₁ → o₂ ≡ add (line_items a b is) o
  line_wrote o₂ v₂ = then (entries_only (front a is)) (front n is₁) (line_items a b is) o o₁ o₂ parted_line room v₁ v₂

  pub line_left_lem : (is₂ : List Item) → is₂ ≡ back n is₁ → is₂ ≡ line_left a b is
  unfolding line_left
  line_left_lem is₂ e = e ∙ (λ i. back (en i) (l₁ i))

rest_some : (w : ℕ) (b : Bool) (at : ℕ) (d : List ℕ) → 0 < length (rest_lines w b at d)
unfolding rest_lines
rest_some w b at d = some_all w b at (split_lines d) (some_lines d)

-- ── the state between two lines: `at` is where the next one starts
pub record State (ds ns ts : List ℕ) (w : ℕ) (b : Bool) (o₀ o : Out) (c : Cursor) (at : ℕ) : Type 0 where
  -- the plan of the lines that are left gives the rest
  pub written : Progress (result_items (wrap w b) (recording ds ns ts)) (edit (wrap_ops (length ds) c.at (rest_lines w b at (drop at ds))) (left ds ns ts c)) o₀ o
  pub ready : Ready ds ns ts c
  pub here : c.at ≤ at
  pub within : at ≤ length ds

pub state_first : (ds ns ts : List ℕ) (w : ℕ) (b : Bool) (o : Out) (c : Cursor) → c.at ≡ 0 → c.k ≡ 0 → Sound ds ns ts → State ds ns ts w b o o c 0
unfolding result_items
state_first ds ns ts w b o c a k s =
    record {
      written = progress_first _ _ o (λ j. edit (wrap_ops (length ds) (a j) (rest_all w b ds j)) (left_start ds ns ts c a k j));
      ready = ready_start ds ns ts c a k s;
      here = omega (arith, a);
      within = omega arith;
    }

-- a cursor that stands at the same place
same_left : (ds ns ts : List ℕ) (c c' : Cursor) → c'.at ≡ c.at → c'.k ≡ c.k → left ds ns ts c' ≡ left ds ns ts c
unfolding left
same_left ds ns ts c c' a k = λ i. items_from (a i) ts (drop (a i) ds) (entries_of (drop (k i) ns))

same_ready : (ds ns ts : List ℕ) (c c' : Cursor) → c'.at ≡ c.at → c'.k ≡ c.k → Ready ds ns ts c → Ready ds ns ts c'
same_ready ds ns ts c c' a k r = record { within = omega (arith, k, r.within); valid = rw (a, k) r.valid; short = r.short }

-- what a promise says of a value that is there
pub at_some : {o : Option ℕ} {n : ℕ} (P : ℕ → Type 0) → o ≡ Some n → IfSome o P → P n
at_some P e p = rw e at p

-- nothing is left behind the last byte
back_end : (ds ns ts : List ℕ) (c : Cursor) → back (length ds - c.at) (left ds ns ts c) ≡ []
unfolding left
back_end ds ns ts c =
    back_all (length ds - c.at) (left ds ns ts c)
    (omega (arith, ap length (data_items_from (entries_of (drop c.k ns)) c.at ts (drop c.at ds)), length-drop c.at ds))

module _ (ds ns ts : List ℕ) (w : ℕ) (b : Bool) (o₀ o : Out) (c : Cursor) (at : ℕ) (S : State ds ns ts w b o₀ o c at) (room : Fits (result_items (wrap w b) (recording ds ns ts)) o₀) where
  abbrev all : List Item
  all = result_items (wrap w b) (recording ds ns ts)

  abbrev left_over : List Item
  left_over = edit (wrap_ops (length ds) c.at (rest_lines w b at (drop at ds))) (left ds ns ts c)

  pub long_now : Long o o₀
  long_now = progress.long_now all left_over o₀ o S.written room

  room_now : Fits left_over o
  room_now = progress.room_now all left_over o₀ o S.written room

  module _ (r : Next) (e : rest_lines w b at (drop at ds) ≡ line_of at r.end ∷ following w b ds r) where
    -- what the line writes and leaves
    abbrev turn : List Item
    turn = line_items (at - c.at) (r.end - at) (left ds ns ts c)

    abbrev gone : List Item
    gone = line_left (at - c.at) (r.end - at) (left ds ns ts c)

    abbrev later : ℕ → List Item
    later n = edit (wrap_ops (length ds) r.end (rest_lines w b n (drop n ds))) gone

    abbrev tail : List Item
    tail = entries_only (front (length ds - r.end) gone)

    parted : (n : ℕ) → r.next ≡ Some n → left_over ≡ turn ++ (newline ++ later n)
    parted n m =
        let k : rest_lines w b at (drop at ds) ≡ line_of at r.end ∷ rest_lines w b n (drop n ds) = e ∙ ap (λ (o : Option ℕ). line_of at r.end ∷ lines_on w b ds o) m in
        ap (λ (ls : List Line). edit (wrap_ops (length ds) c.at ls) (left ds ns ts c)) k
        ∙ plan_more (length ds) c.at (line_of at r.end) (rest_lines w b n (drop n ds)) (left ds ns ts c) (rest_some w b n (drop n ds))

    parted_last : r.next ≡ None → left_over ≡ turn ++ (tail ++ back (length ds - r.end) gone)
    parted_last m =
        let k : rest_lines w b at (drop at ds) ≡ line_of at r.end ∷ [] = e ∙ ap (λ (o : Option ℕ). line_of at r.end ∷ lines_on w b ds o) m in
        ap (λ (ls : List Line). edit (wrap_ops (length ds) c.at ls) (left ds ns ts c)) k ∙ plan_last (length ds) c.at (line_of at r.end) (left ds ns ts c)

    pub room_line : Fits turn o
    room_line = go r.next refl
      where
        go : (t : Option ℕ) → r.next ≡ t → Fits turn o
        go (Some n) m = fits_first turn (newline ++ later n) left_over o (parted n m) room_now
        go None m = fits_first turn (tail ++ back (length ds - r.end) gone) left_over o (parted_last m) room_now

    module _ (o₁ : Out) (c₁ : Cursor) (v₁ : o₁ ≡ add turn o) (l₁ : left ds ns ts c₁ ≡ gone) (r₁ : Ready ds ns ts c₁) (a₁ : c₁.at ≡ r.end) where
      pub long_line : Long o₁ o
      long_line = rw v₁ (add_long turn o room_line)

      -- a line follows
      module _ (n : ℕ) (m : r.next ≡ Some n) where
        parted_both : left_over ≡ (turn ++ newline) ++ later n
        parted_both = parted n m ∙ sym (append_assoc turn newline (later n))

        room_both : Fits (turn ++ newline) o
        room_both = fits_first (turn ++ newline) (later n) left_over o parted_both room_now

        pub room_newline : Fits newline o₁
        room_newline = fits_then turn newline (turn ++ newline) o o₁ refl room_both v₁

        pub step : (o₂ : Out) (c₂ : Cursor) → o₂ ≡ add newline o₁ → c₂.at ≡ c₁.at → c₂.k ≡ c₁.k → r.end ≤ n → n ≤ length ds → State ds ns ts w b o₀ o₂ c₂ n
        step o₂ c₂ v₂ a₂ k₂ p q =
            let d = progress.further all left_over o₀ o S.written room (turn ++ newline) (later n) o₂ parted_both (then turn newline (turn ++ newline) o o₁ o₂ refl room_both v₁ v₂) in
            let a : c₂.at ≡ r.end = a₂ ∙ a₁ in
            let g : left ds ns ts c₂ ≡ gone = same_left ds ns ts c₁ c₂ a₂ k₂ ∙ l₁ in
            record {
              written = progress_same all (later n) _ o₀ o₂ (λ i. edit (wrap_ops (length ds) (a i) (rest_lines w b n (drop n ds))) (g i)) d;
              ready = same_ready ds ns ts c₁ c₂ a₂ k₂ r₁;
              here = omega (arith, a);
              within = q;
            }

      -- it is the last line
      module _ (m : r.next ≡ None) where
        abbrev behind : List Item
        behind = entries_only (front (length ds - c₁.at) (left ds ns ts c₁))

        behind_is : tail ++ back (length ds - r.end) gone ≡ behind ++ []
        behind_is = (λ i. entries_only (front (length ds - sym a₁ i) (sym l₁ i)) ++ back (length ds - sym a₁ i) (sym l₁ i)) ∙ ap (λ (l : List Item). behind ++ l) (back_end ds ns ts c₁)

        parted_all : left_over ≡ turn ++ behind
        parted_all = parted_last m ∙ ap (λ (l : List Item). turn ++ l) (behind_is ∙ append-nil behind)

        pub room_behind : Fits behind o₁
        room_behind = fits_then turn behind left_over o o₁ parted_all room_now v₁

        pub finish : (o₂ : Out) → o₂ ≡ add behind o₁ → o₂ ≡ add all o₀
        finish o₂ v₂ = progress.finished all left_over o₀ o S.written room o₂ (then turn behind left_over o o₁ o₂ parted_all room_now v₁ v₂)
