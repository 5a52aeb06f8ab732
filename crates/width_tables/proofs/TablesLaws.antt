-- THE THEOREM over any two tables (`alike`); by its own table the library is what it says (`published`); so the library beside any other table (`unchanged`), what running code leaves (`answered`), and lists of calls (`lists`).
use Prim.Native.Nat.{ℕ}
use mathlib.Core.Path.{◌≡◌, refl, sym, ap, subst, ◌∙◌}
use mathlib.Core.List.{List, [], ◌∷◌, tail}
use lib.ListN.{length}
use Rattle.chars.specs.Width.{Range, ranges}
use Rattle.chars.specs.Chars.{Character, chars}
use Rattle.buffer.specs.Place.{over}
use Rattle.recording.specs.Lists.{AllOf}
use Rattle.recording.specs.Recording.{Bytes}
use Rattle.recording.specs.Outcome.{Room, Outcome, room_in, Promised, lent_lines}
use Rattle.layout.specs.Layout.{content_after}
use Rattle.layout.specs.Lent.{call_in}
use Rattle.cells.specs.Cells.{parts}
use Rattle.elide.specs.Elide.{lent}
use Rattle.sheet.specs.Sheet.{sheet_lines}
use Rattle.tally.specs.Tally.{tally_outcome}
use Rattle.width_tables.specs.ByTable as By
use Rattle.width_tables.specs.ByTable.{chars_by}
use Rattle.width_tables.specs.Tables.{Answers, library, by_table, lent_to, tally_texts, value_texts, SameOn, EachIs, TextsOf, AsWide, TablesAlike, Published, Unchanged, AnsweredBy, run_by, outcomes_by, ListsAlike, TallySameOn, TallyAlike, TallyPublished, TallyUnchanged, TallyAnsweredBy}
use Rattle.width_tables.proofs.CharacterLaws.{own_chars}
use Rattle.width_tables.proofs.AlikeLaws as two
use Rattle.width_tables.proofs.PublishedLaws as own

-- ── any two tables
each : (Ok : ℕ → Type 0) (cs : List Character) → EachIs Ok cs → AllOf (λ (c : Character). Ok c.code) cs
each Ok [] h = tt
each Ok (c ∷ cs) h = (h.0, each Ok cs h.1)

texts : (t u : List Range) (ds : List Bytes) → TextsOf (AsWide t u) ds → AllOf (two.Alike t u) ds
texts t u [] h = tt
texts t u (d ∷ ds) h = (each (AsWide t u) (chars d) h.0, texts t u ds h.1)

pub alike : TablesAlike
alike t u =
    let one : (d : Bytes) → TextsOf (AsWide t u) (d ∷ []) → two.Alike t u d = λ d h. (texts t u (d ∷ []) h).0 in
    record {
      layout = λ c r h. two.layout t u c r (texts t u (lent_to c.job r) h);
      floor = λ l o r h. two.floor t u l o r (one r.data_bytes h);
      wrap_bytes_of = λ w b d room h. two.wrap-bytes t u w b d room (one d h);
      cells = λ m ends e d o h. let p = texts t u (e ∷ parts ends d) h in two.cells t u m ends e d o p.0 p.1;
      elide_end_of = λ room s e m h. let p = texts t u (s ∷ e ∷ []) h in two.elide_end_lem t u room s e m p.0 p.1.0;
      elide_start_of = λ room s e m h. let p = texts t u (s ∷ e ∷ []) h in two.elide_start_lem t u room s e m p.0 p.1.0;
      width = λ d h. two.width t u d (one d h);
      end_pos = λ m d h. two.end_pos_lem t u m d (one d h);
      end_width = λ m d h. two.end_width_lem t u m d (one d h);
      start_pos = λ m d h. two.start_pos_lem t u m d (one d h);
      start_width = λ m d h. two.start_width_lem t u m d (one d h);
      zero_width = λ d h. two.zero_width_lem t u d (one d h);
      trimmed = λ d h. two.trim t u d (one d h);
      wraplist = λ s h. two.wraplist t u s (texts t u (value_texts (tail (sheet_lines s))) h);
    }

-- ── the library's own table
own_reading : ◌≡◌ {A = Bytes → List Character} chars (chars_by ranges)
own_reading = λ i d. sym (own_chars d) i

pub published : Published
published = record {
  layout = λ c r h. own.layout c r ∙ ap (λ (x : Bytes → List Character). By.outcome x c r) own_reading;
  floor = λ l o r h. own.floor l o r ∙ ap (λ (x : Bytes → List Character). By.floor_outcome x l o r) own_reading;
  wrap_bytes_of = λ w b d room h. own.wrap-bytes w b d room ∙ ap (λ (x : Bytes → List Character). By.wrap_bytes_outcome x w b d room) own_reading;
  cells = λ m ends e d o h. own.cells m ends e d o ∙ ap (λ (x : Bytes → List Character). By.cells_outcome x m ends e d o) own_reading;
  elide_end_of = λ room s e m h. own.elide_end_lem room s e m ∙ ap (λ (x : Bytes → List Character). By.elide_end_outcome x room s e m) own_reading;
  elide_start_of = λ room s e m h. own.elide_start_lem room s e m ∙ ap (λ (x : Bytes → List Character). By.elide_start_outcome x room s e m) own_reading;
  width = λ d h. own.width d ∙ ap (λ (x : Bytes → List Character). By.text_width_of x d) own_reading;
  end_pos = λ m d h. own.end_pos_lem m d ∙ ap (λ (x : Bytes → List Character). By.truncate_end_pos_of x m d) own_reading;
  end_width = λ m d h. own.end_width_lem m d ∙ ap (λ (x : Bytes → List Character). By.truncate_end_width x m d) own_reading;
  start_pos = λ m d h. own.start_pos_lem m d ∙ ap (λ (x : Bytes → List Character). By.truncate_start_pos_of x m d) own_reading;
  start_width = λ m d h. own.start_width_lem m d ∙ ap (λ (x : Bytes → List Character). By.truncate_start_width x m d) own_reading;
  zero_width = λ d h. own.zero_width_lem d ∙ ap (λ (x : Bytes → List Character). By.zero_width_len_of x d) own_reading;
  trimmed = λ d h. own.trim d ∙ ap (λ (x : Bytes → List Character). By.trimmed x d) own_reading;
  wraplist = λ s h. own.wraplist s ∙ ap (λ (x : Bytes → List Character). By.output x s) own_reading;
}

-- ── the library beside any table
joined : (Ok Fine : List Bytes → Type 0) → ((ts : List Bytes) → Ok ts → Fine ts) → (a b c : Answers) → SameOn (λ ts. Unit {0}) a b → SameOn Fine b c → SameOn Ok a c
joined Ok Fine f a b c p q = record {
  layout = λ x r h. p.layout x r tt ∙ q.layout x r (f _ h);
  floor = λ l o r h. p.floor l o r tt ∙ q.floor l o r (f _ h);
  wrap_bytes_of = λ w t d room h. p.wrap_bytes_of w t d room tt ∙ q.wrap_bytes_of w t d room (f _ h);
  cells = λ m ends e d o h. p.cells m ends e d o tt ∙ q.cells m ends e d o (f _ h);
  elide_end_of = λ room s e m h. p.elide_end_of room s e m tt ∙ q.elide_end_of room s e m (f _ h);
  elide_start_of = λ room s e m h. p.elide_start_of room s e m tt ∙ q.elide_start_of room s e m (f _ h);
  width = λ d h. p.width d tt ∙ q.width d (f _ h);
  end_pos = λ m d h. p.end_pos m d tt ∙ q.end_pos m d (f _ h);
  end_width = λ m d h. p.end_width m d tt ∙ q.end_width m d (f _ h);
  start_pos = λ m d h. p.start_pos m d tt ∙ q.start_pos m d (f _ h);
  start_width = λ m d h. p.start_width m d tt ∙ q.start_width m d (f _ h);
  zero_width = λ d h. p.zero_width d tt ∙ q.zero_width d (f _ h);
  trimmed = λ d h. p.trimmed d tt ∙ q.trimmed d (f _ h);
  wraplist = λ s h. p.wraplist s tt ∙ q.wraplist s (f _ h);
}

every : (Ok Fine : ℕ → Type 0) → ((c : ℕ) → Ok c → Fine c) → (cs : List Character) → EachIs Ok cs → EachIs Fine cs
every Ok Fine f [] h = tt
every Ok Fine f (c ∷ cs) h = (f c.code h.0, every Ok Fine f cs h.1)

all_texts : (Ok Fine : ℕ → Type 0) → ((c : ℕ) → Ok c → Fine c) → (ts : List Bytes) → TextsOf Ok ts → TextsOf Fine ts
all_texts Ok Fine f [] h = tt
all_texts Ok Fine f (d ∷ ds) h = (every Ok Fine f (chars d) h.0, all_texts Ok Fine f ds h.1)

pub unchanged : Unchanged
unchanged t Ok f =
    joined (TextsOf Ok) (TextsOf (AsWide ranges t)) (λ ts h. all_texts Ok (AsWide ranges t) f ts h) library (by_table ranges) (by_table t) published (alike ranges t)

-- ── running code
pub answered : (Ok : List Bytes → Type 0) (b : Answers) → SameOn Ok library b → AnsweredBy b Ok
answered Ok b p = record {
  layout = λ j r old new x h k. subst (λ (o : Outcome). Promised o old new x) (p.layout (call_in j old) r h) k;
  floor = λ l r old new x h k. subst (λ (o : Outcome). Promised o old new x) (p.floor l (room_in old) r h) k;
  wrap_bytes_of = λ w t d old new x h k. subst (λ (o : Outcome). Promised o (lent_lines old) (lent_lines new) x) (p.wrap_bytes_of w t d (length old) h) k;
  cells = λ m ends e d old new x h k. subst (λ (o : Outcome). Promised o old new x) (p.cells m ends e d (room_in old) h) k;
  elide_end_of = λ s e old new m x h k. subst (λ (o : Outcome). Promised o (lent old) (lent new) x) (p.elide_end_of (length old) s e m h) k;
  elide_start_of = λ s e old new m x h k. subst (λ (o : Outcome). Promised o (lent old) (lent new) x) (p.elide_start_of (length old) s e m h) k;
  wraplist = λ s old new n h k. (k.0 ∙ ap length (p.wraplist s h), k.1 ∙ ap (λ (y : Bytes). over y old) (p.wraplist s h));
}

-- ── lists of calls
pub lists : (Ok : List Bytes → Type 0) (a b : Answers) → SameOn Ok a b → ListsAlike Ok a b
lists Ok a b p [] r h = (refl, refl)
lists Ok a b p (c ∷ cs) r h =
    let e : a.layout c r ≡ b.layout c r = p.layout c r h.0 in
    let k = lists Ok a b p cs (content_after (a.layout c r) r) h.1 in (
      ap (λ (os : List Outcome). a.layout c r ∷ os) k.0 ∙ ap (λ (o : Outcome). o ∷ outcomes_by b cs (content_after o r)) e,
      k.1 ∙ ap (λ (o : Outcome). run_by b cs (content_after o r)) e,
    )

-- ── the tally sheet
pub tally_alike : TallyAlike
tally_alike t u ns s o h = let p = texts t u (tally_texts s) h in two.tally t u ns s o p.0 p.1

pub tally_published : TallyPublished
tally_published ns s o h = own.tally ns s o ∙ ap (λ (x : Bytes → List Character). By.tally_outcome x ns s o) own_reading

pub tally_unchanged : TallyUnchanged
tally_unchanged t Ok f ns s o h =
    tally_published ns s o tt ∙ tally_alike ranges t ns s o (all_texts Ok (AsWide ranges t) f (tally_texts s) h)

pub tally_answered : (Ok : List Bytes → Type 0) (b : List ℕ → Bytes → Room → Outcome) → TallySameOn Ok tally_outcome b → TallyAnsweredBy b Ok
tally_answered Ok b p ns s old new x h k = subst (λ (o : Outcome). Promised o old new x) (p ns s (room_in old) h) k
