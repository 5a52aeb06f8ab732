-- Q-6's theorem (`floors_agree`): recordings that are alike under the label leave the floor the same items. And so do two calls that have kept their promise (`running_agrees`).
-- The idea: the floor's edits of the two are the same item for item but for raw sequences under the label (`edits_same`), and these are dropped.
use Rattle.recording.specs.Outcome.{Answer}
use Prim.Native.Nat.{ℕ, zero, suc}
use native.Mathlib.Nat.{zero-add}
use mathlib.Core.Bool.{Bool, cond}
use mathlib.Core.Path.{◌≡◌, refl, sym, ap, ◌∙◌, subst}
use mathlib.Core.List.{List, [], ◌∷◌, ◌++◌, append_assoc}
use lib.ListN.{length, take}
use Rattle.chars.specs.Chars.{Character, chars, wide}
use Rattle.recording.specs.Recording.{Bytes, Recording, Item, byte, push, pop, raw, byte_items, items, encode}
use Rattle.recording.specs.Coloured.{open_after, balanced_from, balanced, coloured}
use Rattle.recording.specs.Edit.{Op, keep, skip, put, front, back, entries_only, edit}
use Rattle.recording.specs.Refusals.{recording_fault}
use Rattle.recording.specs.Outcome.{Room, Outcome, refused, done, Lent, room_in, returned, read_back_of, Promised}
use Rattle.recording.proofs.EditLaws.{open_entries, front-back, back-back, front_with_back, only_append, only_entries, kept_more, skipped_more, skip_none}
use Rattle.recording.proofs.FaultLaws.{read_back}
use Rattle.view.specs.View.{among, stars, floor_ops, drop_raws, hidden, floor_items, floor_of, view_fault, view_faults, floor_outcome}
use Rattle.view.specs.Alike.{through, beyond, of_char, after_char, Same, none, bytes, pushes, pops, raws, raws_under, Corresponding, end, entries, kept, replaced, Alike}
use Rattle.view.specs.Theorem.{Theorem, left_in_lent, Running}
use Rattle.view.proofs.DropLaws.{floor_drop, floor_balance}

-- ── an edit, cut at the entries before the next byte and behind a character
edit_on : (ops : List Op) (is : List Item) → front 0 is ++ edit ops (back 0 is) ≡ edit ops is
edit_on [] is = front_with_back 0 is
edit_on (keep n ∷ ops) is = kept_more 0 n ops is ∙ ap (λ (m : ℕ). edit (keep m ∷ ops) is) (zero-add n)
edit_on (skip n ∷ ops) is = sym (skip_none (skip n ∷ ops) is) ∙ skipped_more 0 n ops is ∙ ap (λ (m : ℕ). edit (skip m ∷ ops) is) (zero-add n)
edit_on (put p ∷ ops) is = rw (front-back 0 is, back-back 0 is)

front-through : (n : ℕ) (is : List Item) → front n is ≡ through n is ++ front 0 (beyond n is)
front-through zero is = refl
front-through (suc n) [] = refl
front-through (suc n) (byte b ∷ is) = ap (λ (r : List Item). byte b ∷ r) (front-through n is)
front-through (suc n) (push l ∷ is) = ap (λ (r : List Item). push l ∷ r) (front-through (suc n) is)
front-through (suc n) (pop ∷ is) = ap (λ (r : List Item). pop ∷ r) (front-through (suc n) is)
front-through (suc n) (raw t ∷ is) = ap (λ (r : List Item). raw t ∷ r) (front-through (suc n) is)

back-beyond : (n : ℕ) (is : List Item) → back n is ≡ back 0 (beyond n is)
back-beyond zero is = refl
back-beyond (suc n) [] = refl
back-beyond (suc n) (byte b ∷ is) = back-beyond n is
back-beyond (suc n) (push l ∷ is) = back-beyond (suc n) is
back-beyond (suc n) (pop ∷ is) = back-beyond (suc n) is
back-beyond (suc n) (raw t ∷ is) = back-beyond (suc n) is

only_through : (n : ℕ) (is : List Item) → entries_only (front n is) ≡ entries_only (through n is) ++ front 0 (beyond n is)
only_through n is =
    ap entries_only (front-through n is) ∙ only_append (through n is) (front 0 (beyond n is)) ∙ ap (λ (r : List Item). entries_only (through n is) ++ r) (only_entries (beyond n is))

-- a character that stays, with the entries inside it; and the rest
keep_through : (n : ℕ) (ops : List Op) (is : List Item) → edit (keep n ∷ ops) is ≡ through n is ++ edit ops (beyond n is)
keep_through n ops is =
    rw (front-through n is, back-beyond n is, append_assoc (through n is) (front 0 (beyond n is)) (edit ops (back 0 (beyond n is))), edit_on ops (beyond n is))

-- a character that goes; the entries inside it stay
skip-through : (n : ℕ) (ops : List Op) (is : List Item) → edit (skip n ∷ ops) is ≡ entries_only (through n is) ++ edit ops (beyond n is)
skip-through n ops is =
    rw (only_through n is, back-beyond n is, append_assoc (entries_only (through n is)) (front 0 (beyond n is)) (edit ops (back 0 (beyond n is))), edit_on ops (beyond n is))

-- ── the same but for raw sequences under the label
module _ (l : Bytes) where
  same_append : {s : List Bytes} {a b : List Item} (x y : List Item) → Same l s a b → Same l (open_after s a) x y → Same l s (a ++ x) (b ++ y)
  same_append x y none h = h
  same_append x y (bytes g) h = bytes (same_append x y g h)
  same_append x y (pushes g) h = pushes (same_append x y g h)
  same_append x y (pops g) h = pops (same_append x y g h)
  same_append x y (raws g) h = raws (same_append x y g h)
  same_append x y (raws_under u g) h = raws_under u (same_append x y g h)

  same_bytes : (s : List Bytes) (d e : Bytes) (x y : List Item) → d ≡ e → Same l s x y → Same l s (byte_items d ++ x) (byte_items e ++ y)
  same_bytes s d e x y p h = subst (λ (f : Bytes). Same l s (byte_items d ++ x) (byte_items f ++ y)) p (go d)
    where
      go : (d : Bytes) → Same l s (byte_items d ++ x) (byte_items d ++ y)
      go [] = h
      go (b ∷ d) = bytes (go d)

  -- with these dropped they are the same
  same_dropped : {s : List Bytes} {a b : List Item} → Same l s a b → drop_raws l s a ≡ drop_raws l s b
  same_dropped none = refl
  same_dropped (bytes {b = b} g) = ap (λ (r : List Item). byte b ∷ r) (same_dropped g)
  same_dropped (pushes {k = k} g) = ap (λ (r : List Item). push k ∷ r) (same_dropped g)
  same_dropped (pops g) = ap (λ (r : List Item). pop ∷ r) (same_dropped g)
  same_dropped (raws {s = s} {t = t} g) = ap (λ (r : List Item). cond (among l s) [] (raw t ∷ []) ++ r) (same_dropped g)
  same_dropped (raws_under u g) = rw u (same_dropped g)

  -- as many labels are open in both
  same_bal : {s : List Bytes} {a b : List Item} → Same l s a b → (n : ℕ) → balanced_from n a ≡ balanced_from n b
  same_bal none n = refl
  same_bal (bytes g) n = same_bal g n
  same_bal (pushes g) n = same_bal g (suc n)
  same_bal (pops g) zero = refl
  same_bal (pops g) (suc n) = same_bal g n
  same_bal (raws g) n = same_bal g n
  same_bal (raws_under u g) n = same_bal g n

  -- ── the floor's edits of two recordings that correspond
  as_wide : (c d : Character) → wide c ≡ wide d → stars c ≡ stars d
  as_wide c d w = cc

  edits_same : {s : List Bytes} {hs : List Bool} {cs ds : List Character} {is js : List Item} → Corresponding l s hs cs is ds js
      → Same l s (edit (floor_ops hs cs) is) (edit (floor_ops hs ds) js)
  edits_same end = none
  edits_same (entries {hs = hs} {cs = cs} {ds = ds} {is = is} {js = js} g x) =
      rw (← edit_on (floor_ops hs cs) is, ← edit_on (floor_ops hs ds) js) (same_append (edit (floor_ops hs cs) (back 0 is)) (edit (floor_ops hs ds) (back 0 js)) g (edits_same x))
  edits_same (kept {hs = hs} {c = c} {cs = cs} {ds = ds} {b = b} {is = is} {js = js} g x) =
      rw (keep_through (length c.text) (floor_ops hs cs) (byte b ∷ is), keep_through (length c.text) (floor_ops hs ds) (byte b ∷ js))
      (same_append (edit (floor_ops hs cs) (after_char c (byte b ∷ is))) (edit (floor_ops hs ds) (after_char c (byte b ∷ js))) g (edits_same x))
  edits_same (replaced {s = s} {hs = hs} {c = c} {d = d} {cs = cs} {ds = ds} {b = b} {e = e} {is = is} {js = js} w g x) =
      let rest_c : List Item = edit (floor_ops hs cs) (after_char c (byte b ∷ is)) in
      let rest_d : List Item = edit (floor_ops hs ds) (after_char d (byte e ∷ js)) in
      rw (skip-through (length c.text) (floor_ops hs cs) (byte b ∷ is), skip-through (length d.text) (floor_ops hs ds) (byte e ∷ js))
      (same_bytes s (stars c) (stars d) (entries_only (of_char c (byte b ∷ is)) ++ rest_c) (entries_only (of_char d (byte e ∷ js)) ++ rest_d) (as_wide c d w)
      (same_append rest_c rest_d g (rw (open_entries s (of_char c (byte b ∷ is))) (edits_same x))))

-- ── two recordings that are alike
module _ (l : Bytes) (r q : Recording) (h : Alike l r q) where
  abbrev of_r : List Item
  of_r = edit (floor_ops (hidden l r) (chars r.data_bytes)) (items r)

  abbrev of_q : List Item
  of_q = edit (floor_ops (hidden l r) (chars q.data_bytes)) (items q)

  same_edits : Same l [] of_r of_q
  same_edits = edits_same l h.corresponding

  same_items : floor_items l r ≡ floor_items l q
  unfolding floor_items
  same_items =
      floor_drop l (hidden l r) (chars r.data_bytes) (items r) ∙ same_dropped l same_edits ∙ sym (floor_drop l (hidden l r) (chars q.data_bytes) (items q))
      ∙ ap (λ (hs : List Bool). edit (floor_ops hs (chars q.data_bytes)) (drop_raws l [] (items q))) h.same_replaced

  same_balance : balanced r ≡ balanced q
  unfolding balanced
  same_balance =
      sym (floor_balance (hidden l r) (chars r.data_bytes) (items r)) ∙ same_bal l same_edits 0 ∙ floor_balance (hidden l r) (chars q.data_bytes) (items q)

  same_faults : recording_fault r ≡ 0 → recording_fault q ≡ 0 → view_faults l r ≡ view_faults l q
  unfolding view_faults view_fault
  same_faults a b = rw (a, b, same_balance)

-- what is read back does not depend on what the buffers held
any_buffers : (x : Outcome) (b c : Lent) → read_back_of x b ≡ read_back_of x c
unfolding returned
any_buffers (refused n) b c = refl
any_buffers (done x) b c = read_back x b ∙ sym (read_back x c)

pub floors_agree : Theorem
unfolding floor_outcome
floors_agree l r q a b h o =
    let f : view_faults l r ≡ view_faults l q = same_faults l r q h a b in
    let e : floor_of l r ≡ floor_of l q = ap encode (same_items l r q h) in
    let x : floor_outcome l o r ≡ floor_outcome l o q = rw (f, e) in
    record {
      outcomes = x;
      colours = ap coloured e;
      entries = (ap (λ (y : Recording). y.entry_numbers) e, ap (λ (y : Recording). y.text) e);
      numbers = ap returned x;
      refusals = rw (f, e);
      buffers = λ b c. ap (λ (y : Outcome). read_back_of y b) x ∙ any_buffers (floor_outcome l o q) b c;
    }

-- ── of what running code leaves: the lengths answered and the buffers are the outcome's
left_back : (z : Outcome) (b b' : Lent) (a : Answer) → Promised z b b' a → left_in_lent a b' ≡ read_back_of z b
left_back z b b' a p = λ i. record {
  data_bytes = take (p.0 i).data_bytes (p.1 i).data_bytes;
  entry_numbers = take (p.0 i).entry_numbers (p.1 i).entry_numbers;
  text = take (p.0 i).text (p.1 i).text;
}

pub running_agrees : Running
running_agrees l r q a a' h b b' c c' x y e p p' =
    let z : floor_outcome l (room_in b) r ≡ floor_outcome l (room_in c) q = (floors_agree l r q a a' h (room_in b)).outcomes ∙ ap (λ (o : Room). floor_outcome l o q) e in (
      p.0 ∙ ap returned z ∙ sym p'.0,
      left_back (floor_outcome l (room_in b) r) b b' x p ∙ ap (λ (w : Outcome). read_back_of w b) z ∙ any_buffers (floor_outcome l (room_in c) q) b c
          ∙ sym (left_back (floor_outcome l (room_in c) q) c c' y p'),
    )
