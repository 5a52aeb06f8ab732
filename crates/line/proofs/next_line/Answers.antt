-- The lines from `at` on are the line that is found and those from its `next` on: the laws of `LoopLaws` at the code's places.
use Rattle.std.proofs.Common.{◌≡◌, ◌+◌, ◌-◌, ◌*◌, ◌≤◌, length, length-drop, sym, ap, ◌∙◌, arith}
use borrow.Author.Rules.{part_to_end}
use Rattle.line.specs.Rest.{word_text, limit_of_line, unreached}
use Rattle.line.proofs.LineLaws as laws
use Rattle.line.proofs.LoopLaws as loops
use Rattle.line.proofs.RestLaws.{word_le}
use Rattle.line.proofs.RoomLaws.{limit_ge, room_le}
use Rattle.line.proofs.VisibleLaws.{search_visible}
use Rattle.line.proofs.next_line.Goals as goal
use Rattle.line.proofs.next_line.Goals.{else-words-test, then-words-test+in-Some+then-left-w+then-w-limit, then-words-test+then-not-fits, in_default, in-Some+then-left-w+else-w-limit}

-- a line without bytes
pub returns-then-not-in_line : goal.returns-then-not-in_line
returns-then-not-in_line c =
    let a = c.args in
    let none = sym c.in_line.ensures ∙ c.if-not-in_line.true in
    let p : laws.Promise a.«data».now a.at a.width a.break_words c.after_line.result = rw c.after_line.ensures (laws.state_end _ _ _ _ _ _ _ _ _ _ (laws.state_start _ _ _ _ c.requires) none) in
    record { data_value = p.0; at_le_end = p.1; width_value = p.2 }

pub words-init : goal.words-init
words-init c = loops.words_start _ _ _ _ c.requires (sym c.in_line.ensures ∙ c.if-not-in_line.false)

-- the visible bytes at the front are part of the head, or as many of them as have room
pub loop-c-init : goal.loop-c-init
loop-c-init c =
    let a = c.args in
    let word = c.words.word.now in
    let n = c.visible_len-i.result in
    let room = c.room_of-room.result in
    let limit = c.limit_of-limit.result in
    let narrow : room ≤ limit = rw c.room_of-room.ensures (room_le _ _ _ _ (rw c.limit_of-limit.ensures (limit_ge a.width a.break_words (omega arith)))) in
    let e : limit - n ≡ limit - (room - (room - n)) = omega (arith, c.visible_len-i.ensures) in
    record {
      search = loops.search_as word limit n (limit - n) (limit - (room - (room - n))) e (search_visible word limit n (omega (arith, c.visible_len-i.ensures)) (omega (arith, c.visible_len-i.ensures, narrow)));
      left_room = omega arith;
      room_limit = narrow;
    }

pub overflow_add-i : goal.overflow_add-i
overflow_add-i c = omega (arith, word_le c.words.word.now, c.words.invariant.left, c.in-Some.ensures.len_in_bounds)

pub loop-c-smaller : goal.loop-c-smaller
loop-c-smaller c = omega (arith, c.in-Some.ensures.len_in_bounds, laws.seen_some (word_text c.words.word.now) c.loop-c.i c.in-Some.c c.in-Some.ensures.value)

-- one more character in the head, which is the one that was seen
pub loop-c-preserved : goal.loop-c-preserved
loop-c-preserved c =
    let word = c.words.word.now in
    let room = c.room_of-room.result in
    let limit = c.limit_of-limit.result in
    let I = c.loop-c.invariant in
    let g = c.in-Some in
    let left = c.loop-c.left in
    let more = laws.search_more word limit c.loop-c.i (limit - (room - left)) I.search g.c g.ensures.value (omega (arith, I, c.if-left-w.false, c.from-w.ensures)) g.ensures.len_in_bounds.1 in
    record {
      search = loops.search_as word limit (c.loop-c.i + g.c.len) ((limit - (room - left)) - g.c.width) (limit - (room - (left - c.from-w.result))) (omega (arith, I, c.if-left-w.false, c.from-w.ensures)) more;
      left_room = omega (arith, I);
      room_limit = I.room_limit;
    }

-- the head that is taken
headed : (c : goal.After-goes_on-going) → loops.IsHead c.args.width c.args.break_words c.words.word.now c.head_at-head.result
headed c =
    let a = c.args in
    let word = c.words.word.now in
    let room = c.room_of-room.result in
    let limit = c.limit_of-limit.result in
    let l = c.loop-c in
    let I = c.loop-c.invariant in
    let h = c.head_at-head in
    let cut = c.match-seen_in_word.cut in
    elim c.match-seen_in_word.branch [
      | in_default w ↦ loops.head_end a.width a.break_words word limit room l.i l.left cut h.result c.limit_of-limit.ensures I.search I.left_room I.room_limit w.cut-is h.ensures.value w.in_default.ensures.value
      | in-Some+then-left-w+else-w-limit w ↦ loops.head_pass a.width a.break_words word limit room l.i l.left cut h.result c.limit_of-limit.ensures I.search I.left_room I.room_limit w.cut-is h.ensures.value w.in-Some.c
          w.in-Some.ensures.value (omega (arith, w.if-w-limit.false, w.from-w.ensures))
    ]

pub words-smaller : goal.words-smaller
words-smaller c =
    let word = c.words.word.now in
    let W = c.words.invariant in
    let h = headed c in
    let s = c.spaces_at-gap in
    let n = c.head_at-head.result.len + s.result in
    let some = laws.moves _ _ _ _ _ _ _ _ _ _ W.state (limit_of_line c.args.width c.args.break_words) c.head_at-head.result.len s.result (W.goes c.words-test.true) h.0 s.ensures.0 in
    omega (arith, ap length (part_to_end word n), length-drop n word, s.ensures.1, some)

pub words-preserved : goal.words-preserved
words-preserved c =
    let a = c.args in
    let h = headed c in
    let s = c.spaces_at-gap in
    let fits = sym c.fits.ensures ∙ c.if-not-fits.false in
    loops.words_next _ _ _ _ _ _ _ _ _ c.words.invariant (omega arith) c.words-test.true c.head_at-head.result.len c.head_at-head.result.width h.0 h.1 s.result c.goes_on-going.result (omega arith) s.ensures.0 s.ensures.1 fits c.goes_on-going.ensures

-- the line is over: no head may come, a character shows that the next head does not fit, or the head does not
pub returns : goal.returns
returns c =
    let a = c.args in
    let W = c.words.invariant in
    let short : 2 * length a.«data».now ≤ unreached = omega arith in
    let limit = c.limit_of-limit.result in
    let p : laws.Promise a.«data».now a.at a.width a.break_words c.after_line-2.result = rw c.after_line-2.ensures (elim c.words-test.branch [
      | else-words-test w ↦ W.over w.words-test.false
      | then-words-test+in-Some+then-left-w+then-w-limit w ↦
          let g = w.in-Some in
          let room = w.room_of-room.result in
          let I = w.loop-c.invariant in
          let more = laws.search_more c.words.word.now limit w.loop-c.i (limit - (room - w.loop-c.left)) I.search g.c g.ensures.value (omega (arith, w.if-w-limit.true, w.from-w.ensures)) g.ensures.len_in_bounds.1 in
          let some = laws.seen_some (word_text c.words.word.now) w.loop-c.i g.c g.ensures.value in
          loops.words_early _ _ _ _ _ _ _ _ _ W short w.words-test.true limit ((room - w.loop-c.left) + g.c.width) c.limit_of-limit.ensures
          (omega (arith, more.place, some)) (omega (arith, more.width, I, w.if-w-limit.true, w.from-w.ensures))
          (loops.past_room _ _ _ _ _ _ w.room_of-room.ensures (omega (arith, w.if-left-w.true, I, w.from-w.ensures)) (omega (arith, w.if-w-limit.true, I, w.from-w.ensures)))
      | then-words-test+then-not-fits w ↦
          let word = c.words.word.now in
          let room = w.room_of-room.result in
          let l = w.loop-c in
          let I = w.loop-c.invariant in
          let h = w.head_at-head in
          let cut = w.match-seen_in_word.cut in
          let e : loops.IsHead a.width a.break_words word h.result = elim w.match-seen_in_word.branch [
            | in_default v ↦ loops.head_end a.width a.break_words word limit room l.i l.left cut h.result c.limit_of-limit.ensures I.search I.left_room I.room_limit v.cut-is h.ensures.value v.in_default.ensures.value
            | in-Some+then-left-w+else-w-limit v ↦ loops.head_pass a.width a.break_words word limit room l.i l.left cut h.result c.limit_of-limit.ensures I.search I.left_room I.room_limit v.cut-is h.ensures.value v.in-Some.c
                v.in-Some.ensures.value (omega (arith, v.if-w-limit.false, v.from-w.ensures))
          ] in
          loops.words_new _ _ _ _ _ _ _ _ _ W short w.words-test.true _ _ e.0 e.1 (sym w.fits.ensures ∙ w.if-not-fits.true)
    ]) in
    record { data_value = p.0; at_le_end = p.1; width_value = p.2 }
