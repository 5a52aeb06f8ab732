-- The loop over the lines that are not empty keeps `Scan` (`proofs/Scan.antt`): a line without the prefix is a refusal, at the end there is none and the size is that of the result.
use native.Mathlib.Omega.{arith}
use Prim.Native.Nat.{ℕ, ◌+◌, ◌≤◌}
use mathlib.Core.Path.{◌≡◌, refl, sym, ◌∙◌}
use mathlib.Core.Bool.{true}
use mathlib.Core.List.{List}
use lib.ListN.{length, drop}
use Rattle.layout.specs.Unindent.{begins_with}
use Rattle.unindent.proofs.Laws.{moves}
use Rattle.unindent.proofs.Scan.{scan_first, scan-refused, inside, enough, scan_next, scan_fine, scan_size}
use Rattle.unindent.proofs.left_len.Goals as goal

pub loop-at-init : goal.loop-at-init
loop-at-init c = scan_first _ _ _ c.next_line-at.ensures.value c.next_line-at.ensures.lower_bound.1

pub begins_at-requires : goal.begins_at-requires
begins_at-requires c = c.loop-at.invariant.within

pub returns-then-not-begins_at : goal.returns-then-not-begins_at
returns-then-not-begins_at c =
    let content : List ℕ = c.args.content.now in
    let prefix : List ℕ = c.args.prefix.now in
    let b = c.begins_at in
    record {
      result_value = sym (scan-refused prefix content c.requires.1 _ _ c.loop-at.invariant c.loop-at-test.true (sym b.ensures ∙ c.if-not-begins_at.true));
      counted = tt;
    }

pub overflow_sub-size : goal.overflow_sub-size
overflow_sub-size c =
    let content : List ℕ = c.args.content.now in
    let prefix : List ℕ = c.args.prefix.now in
    let begins : begins_with prefix (drop c.loop-at.at content) ≡ true = let b = c.begins_at in sym b.ensures ∙ c.if-not-begins_at.false in
    enough prefix content c.requires.1 _ _ c.loop-at.invariant c.loop-at-test.true begins

pub overflow_add-at : goal.overflow_add-at
overflow_add-at c =
    let content : List ℕ = c.args.content.now in
    let prefix : List ℕ = c.args.prefix.now in
    let begins : begins_with prefix (drop c.loop-at.at content) ≡ true = let b = c.begins_at in sym b.ensures ∙ c.if-not-begins_at.false in
    let inner : c.loop-at.at + length prefix ≤ length content = inside prefix content c.requires.1 _ _ c.loop-at.invariant c.loop-at-test.true begins in
    omega (arith, inner, c.requires.0)

pub next_line-at-requires-in-loop-at : goal.next_line-at-requires-in-loop-at
next_line-at-requires-in-loop-at c =
    let content : List ℕ = c.args.content.now in
    let prefix : List ℕ = c.args.prefix.now in
    let begins : begins_with prefix (drop c.loop-at.at content) ≡ true = let b = c.begins_at in sym b.ensures ∙ c.if-not-begins_at.false in
    let inner : c.loop-at.at + length prefix ≤ length content = inside prefix content c.requires.1 _ _ c.loop-at.invariant c.loop-at-test.true begins in
    inner

pub loop-at-smaller : goal.loop-at-smaller
loop-at-smaller c =
    let content : List ℕ = c.args.content.now in
    let prefix : List ℕ = c.args.prefix.now in
    let more = c.loop-at-test.true in
    omega (arith, c.next_line-at-in-loop-at.ensures.value, more, moves (length prefix) c.loop-at.at content more)

pub loop-at-preserved : goal.loop-at-preserved
loop-at-preserved c =
    let content : List ℕ = c.args.content.now in
    let prefix : List ℕ = c.args.prefix.now in
    let begins : begins_with prefix (drop c.loop-at.at content) ≡ true = let b = c.begins_at in sym b.ensures ∙ c.if-not-begins_at.false in
    let n = c.next_line-at-in-loop-at.ensures in
    scan_next prefix content c.requires.1 _ _ c.loop-at.invariant c.loop-at-test.true begins _ _ refl n.value n.lower_bound.1

pub returns : goal.returns
returns c =
    let content : List ℕ = c.args.content.now in
    let prefix : List ℕ = c.args.prefix.now in
    let past = c.loop-at-test.false in record {
      result_value = sym (scan_fine prefix content c.requires.1 _ _ c.loop-at.invariant past);
      counted = scan_size prefix content c.requires.1 _ _ c.loop-at.invariant past;
    }
