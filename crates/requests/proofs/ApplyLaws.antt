-- A call that leaves no lines, made without a line list, is the same call with one that it leaves as it is (`unlined`).
-- The idea: only refusal 24 asks for the room of the line list, and for no lines there is always room.
use Rattle.recording.specs.Outcome.{Answer}
use Prim.Native.Nat.{ℕ, ◌<◌}
use native.Mathlib.Omega.{arith}
use mathlib.Core.Bool.{Bool, true, false, cond}
use mathlib.Core.Path.{◌≡◌, refl, sym, ap, subst, ◌∙◌}
use mathlib.Core.List.{List, []}
use lib.Dec.{eqb}
use lib.ListN.{length}
use borrow.Author.Tests.{le-ltb, ne_eqb}
use Rattle.buffer.specs.Place.{over}
use Rattle.recording.specs.Recording.{Recording}
use Rattle.recording.specs.Outcome.{Room, Result, Faults, Outcome, refused, done, no_room, refusal_of, settle, Lent, lent_after, Promised}
use Rattle.layout.specs.Layout.{Job, truncate_start, truncate_end, pad_start, pad_end, pad_centered, indent, unindent, wrap, replace, expand_tabs, lines_left, result_of, faults_of, outcome}
use Rattle.layout.specs.Lent.{lent_of, lent_lined, call_in, Leaves}
use Rattle.replace.specs.Records.{records_of}
use Rattle.requests.specs.Requests.{job_of}

abbrev room : ℕ → ℕ → ℕ → ℕ → Room
room d e t l = record { data_bytes = d; entry_numbers = e; text = t; lines = l }

room_free : (d e t l : ℕ) (x : Result) → x.lines ≡ [] → no_room (room d e t 0) x ≡ no_room (room d e t l) x
unfolding no_room
room_free d e t l x h = rw (h, le-ltb l 0 (omega arith))

abbrev NoneLeft : Outcome → Type 0
NoneLeft (refused n) = Unit {0}
NoneLeft (done x) = x.lines ≡ []

none_settled : (f : Faults) (o : Room) (x : Result) → x.lines ≡ [] → NoneLeft (settle f o x)
unfolding settle
none_settled f o x h = go (eqb (refusal_of f o x) 0)
  where
    go : (t : Bool) → NoneLeft (cond t (done x) (refused (refusal_of f o x)))
    go true = h
    go false = tt

module _ (j : Job) (r : Recording) (h : lines_left j r ≡ []) where
  no_lines : (result_of j r).lines ≡ []
  unfolding result_of
  no_lines = rw h

  same_outcome : (od oe ot ol : List ℕ) → outcome (call_in j (lent_of od oe ot)) r ≡ outcome (call_in j (lent_lined od oe ot ol)) r
  unfolding outcome settle refusal_of
  same_outcome od oe ot ol = rw (room_free (length od) (length oe) (length ot) (length ol) (result_of j r) no_lines)

  none_left : (o : Room) → NoneLeft (outcome (record { job = j; room = o }) r)
  unfolding outcome
  none_left o = none_settled (faults_of j r) o (result_of j r) no_lines

-- a line list beside the three buffers
abbrev beside : List ℕ → Lent → Lent
beside ol b = lent_lined b.data_bytes b.entry_numbers b.text ol

lent_whole : (x : Outcome) (od oe ot ol : List ℕ) → NoneLeft x → beside ol (lent_after x (lent_of od oe ot)) ≡ lent_after x (lent_lined od oe ot ol)
unfolding lent_after over
lent_whole (refused n) od oe ot ol h = refl
lent_whole (done x) od oe ot ol h = rw h

-- k: the call by its kind; j: the call by its name
pub unlined : (k j : Job) (r : Recording) (od oe ot ol od' oe' ot' : List ℕ) (a : Answer) → k ≡ j → lines_left j r ≡ []
    → Leaves j r (lent_of od oe ot) (lent_of od' oe' ot') a → Leaves k r (lent_lined od oe ot ol) (lent_lined od' oe' ot' ol) a
unlined k j r od oe ot ol od' oe' ot' a q h p =
    let x : Outcome = outcome (call_in j (lent_of od oe ot)) r in
    let o : x ≡ outcome (call_in j (lent_lined od oe ot ol)) r = same_outcome j r h od oe ot ol in
    let whole : lent_lined od' oe' ot' ol ≡ lent_after x (lent_lined od oe ot ol) =
    ap (beside ol) p.1 ∙ lent_whole x od oe ot ol (none_left j r h (room (length od) (length oe) (length ot) 0)) in
    subst (λ (i : Job). Leaves i r (lent_lined od oe ot ol) (lent_lined od' oe' ot' ol) a) (sym q)
    (subst (λ (y : Outcome). Promised y (lent_lined od oe ot ol) (lent_lined od' oe' ot' ol) a) o (p.0, whole))

pub lined : (k j : Job) (r : Recording) (od oe ot ol od' oe' ot' ol' : List ℕ) (a : Answer) → k ≡ j
    → Leaves j r (lent_lined od oe ot ol) (lent_lined od' oe' ot' ol') a → Leaves k r (lent_lined od oe ot ol) (lent_lined od' oe' ot' ol') a
lined k j r od oe ot ol od' oe' ot' ol' a q h = subst (λ (i : Job). Leaves i r (lent_lined od oe ot ol) (lent_lined od' oe' ot' ol') a) (sym q) h

-- ── the job of a kind
module _ (k n : ℕ) (q : Recording) where
  pub job_start : k ≡ 0 → job_of k n q ≡ truncate_start n q
  unfolding job_of
  job_start h = rw h

  pub job_end : k ≡ 1 → job_of k n q ≡ truncate_end n q
  unfolding job_of
  job_end h = rw h

  pub job_pad_start : k ≡ 2 → job_of k n q ≡ pad_start n q
  unfolding job_of
  job_pad_start h = rw h

  pub job_pad_end : k ≡ 3 → job_of k n q ≡ pad_end n q
  unfolding job_of
  job_pad_end h = rw h

  pub job_pad_centered : k ≡ 4 → job_of k n q ≡ pad_centered n q
  unfolding job_of
  job_pad_centered h = rw h

  pub job_indent : k ≡ 5 → job_of k n q ≡ indent q
  unfolding job_of
  job_indent h = rw h

  -- 6 wraps, 7 wraps and breaks
  pub job_wrap : k ≡ 6 → job_of k n q ≡ wrap n false
  unfolding job_of
  job_wrap h = rw h

  pub job_wrap_breaking : k ≡ 7 → job_of k n q ≡ wrap n true
  unfolding job_of
  job_wrap_breaking h = rw h

  pub job_replace : k ≡ 8 → job_of k n q ≡ replace (records_of q.entry_numbers) q.data_bytes
  unfolding job_of
  job_replace h = rw h

  pub job_tabs : k ≡ 9 → job_of k n q ≡ expand_tabs n
  unfolding job_of
  job_tabs h = rw h

  -- all others take the indent off
  pub job_unindent : 9 < k → job_of k n q ≡ unindent q
  unfolding job_of
  job_unindent h =
      rw (
        ne_eqb k 0 (λ e. omega (arith, h, e)),
        ne_eqb k 1 (λ e. omega (arith, h, e)),
        ne_eqb k 2 (λ e. omega (arith, h, e)),
        ne_eqb k 3 (λ e. omega (arith, h, e)),
        ne_eqb k 4 (λ e. omega (arith, h, e)),
        ne_eqb k 5 (λ e. omega (arith, h, e)),
        ne_eqb k 6 (λ e. omega (arith, h, e)),
        ne_eqb k 7 (λ e. omega (arith, h, e)),
        ne_eqb k 8 (λ e. omega (arith, h, e)),
        ne_eqb k 9 (λ e. omega (arith, h, e)),
      )
