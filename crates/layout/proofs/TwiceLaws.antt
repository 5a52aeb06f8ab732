-- A wrapped text, wrapped again with the same width and breaking, stays as it is.
use Prim.Native.Nat.{ℕ, zero, suc, ◌+◌, ◌-◌, ◌≤◌, ◌<◌}
use native.Mathlib.Omega.{arith}
use mathlib.Core.Bool.{Bool, true, false, cond, ◌&&◌}
use mathlib.Core.Logic.{◌⊎◌, inl, inr}
use mathlib.Core.Path.{◌≡◌, refl, sym, ap, ◌∙◌}
use mathlib.Core.List.{List, [], ◌∷◌, ◌++◌, append-nil, append_assoc}
use lib.Dec.{ltb, eqb}
use lib.ListN.{length, take, drop, length-append}
use borrow.Author.Tests.{eqb-true}
use lib.Seq.{drop-drop, take_at, drop_at, take_all}
use Rattle.chars.specs.Chars.{Character, bytes_of}
use Rattle.chars.proofs.CharsLaws.{bytes-append, valid_clean}
use Rattle.recording.specs.Lists.{AllOf}
use Rattle.recording.specs.Coloured.{Coloured, values}
use Rattle.recording.specs.Edit.{labels_at}
use Rattle.recording.specs.Recording.{is_nil, Bytes}
use Rattle.recording.proofs.ItemsLaws.{values-append, values-take, values-drop}
use Rattle.recording.proofs.Lists.{all_left, all_right, all_append}
use Rattle.layout.specs.Plain.{stretch, labels_of, wrapped}
use Rattle.layout.specs.Wrap.{onto_first, groups, split_lines, join_lines, Word, ByteWord, byte_word, byte_words, words_of, split_words, split_words_at_width, fits_line, full_width, first_fit_of, Line}
use Rattle.layout.specs.Wrap.{line_of, shown_len, whole_len, group_lines, wrapped_line, lines_from, wrap_lines_of}
use Rattle.layout.proofs.BreakLaws.{WordOk, Spaced, breaking_chain, breaking_pieces, fit_spaced}
use Rattle.layout.proofs.ByteWordLaws.{ChainFrom, Chain, NoNewline, RunOk, Next, lines_none, runs_ok, runs_chain, runs_unrun}
use Rattle.layout.proofs.GroupLaws.{concat, all_concat, groups-concat, Joined, JoinedAll, groups-joined, joined-groups, groups_some}
use Rattle.layout.proofs.StepLaws.{length-values}
use Rattle.layout.proofs.WordLaws.{join_words, full, blanks, flat, bytes_flat, full_append, full_fitted, length_full}
use Rattle.layout.proofs.LineLaws.{some_lines}

-- ── a line as it is shown: the last word without its whitespace
abbrev pub closed : List Word → List Word
closed [] = []
closed (v ∷ []) = record { body = v.body; space = 0 } ∷ []
closed (v ∷ u ∷ us) = v ∷ closed (u ∷ us)

abbrev pub text : List Word → Bytes
text g = full (closed g)

whole_closed : (g : List Word) → whole_len (closed g) ≡ shown_len g
whole_closed [] = refl
whole_closed (v ∷ []) = omega arith
whole_closed (v ∷ u ∷ us) = omega (arith, whole_closed (u ∷ us))

shown_closed : (g : List Word) → shown_len (closed g) ≡ shown_len g
shown_closed [] = refl
shown_closed (v ∷ []) = refl
shown_closed (v ∷ u ∷ []) = refl
shown_closed (v ∷ u ∷ t ∷ us) = omega (arith, shown_closed (u ∷ t ∷ us))

pub length_text : (g : List Word) → length (text g) ≡ shown_len g
length_text g = length_full (closed g) ∙ whole_closed g

-- ── such a line, wrapped again, is one line
abbrev as_runs : List Word → List ByteWord
as_runs [] = []
as_runs (v ∷ vs) = byte_word (bytes_of v.body) v.space ∷ as_runs vs

unrun_full : (vs : List Word) → join_words (as_runs vs) ≡ full vs
unrun_full [] = refl
unrun_full (v ∷ vs) = rw (unrun_full vs)

words_back : (t : Bool) (w : ℕ) (vs : List Word) → AllOf (WordOk t w) vs → words_of (as_runs vs) ≡ vs
words_back t w [] h = refl
words_back t w (v ∷ vs) h = rw (valid_clean v.body h.0.valid, words_back t w vs h.1)

runs_back : (t : Bool) (w : ℕ) (vs : List Word) → AllOf (WordOk t w) vs → AllOf RunOk (as_runs vs)
runs_back t w [] h = tt
runs_back t w (v ∷ vs) h = (h.0.inner, runs_back t w vs h.1)

chain_back : (v : Word) (vs : List Word) → ChainFrom Spaced v vs → ChainFrom Next (byte_word (bytes_of v.body) v.space) (as_runs vs)
chain_back v [] c = tt
chain_back v (u ∷ us) c = (c.0, chain_back u us c.1)

closed_ok : (t : Bool) (w : ℕ) (g : List Word) → AllOf (WordOk t w) g → AllOf (WordOk t w) (closed g)
closed_ok t w [] h = tt
closed_ok t w (v ∷ []) h = h
closed_ok t w (v ∷ u ∷ us) h = (h.0, closed_ok t w (u ∷ us) h.1)

closed_chain : (g : List Word) → Chain Spaced g → Chain Spaced (closed g)
closed_chain [] h = tt
closed_chain (v ∷ []) h = tt
closed_chain (v ∷ u ∷ []) h = h
closed_chain (v ∷ u ∷ t ∷ us) h = (h.0, closed_chain (u ∷ t ∷ us) h.1)

closed_joined : (w run : ℕ) (g : List Word) → Joined (fits_line w) full_width run g → Joined (fits_line w) full_width run (closed g)
closed_joined w run [] h = tt
closed_joined w run (v ∷ []) h = h
closed_joined w run (v ∷ u ∷ us) h = (h.0, closed_joined w (run + full_width v) (u ∷ us) h.1)

closed_joined_all : (w : ℕ) (g : List Word) → JoinedAll (fits_line w) full_width g → JoinedAll (fits_line w) full_width (closed g)
closed_joined_all w [] h = tt
closed_joined_all w (v ∷ []) h = tt
closed_joined_all w (v ∷ u ∷ us) h = closed_joined w (full_width v) (u ∷ us) h

unbroken : (w : ℕ) (vs : List Word) → AllOf (WordOk true w) vs → split_words w vs ≡ vs
unbroken w [] h = refl
unbroken w (v ∷ vs) h = rw (h.0.single refl, unbroken w vs h.1)

breaking_back : (w : ℕ) (b : Bool) (vs : List Word) → AllOf (WordOk (b && ltb 0 w) w) vs → split_words_at_width w b vs ≡ vs
unfolding split_words_at_width
breaking_back w b vs h = go (b && ltb 0 w) h
  where
    go : (t : Bool) → AllOf (WordOk t w) vs → cond t (split_words w vs) vs ≡ vs
    go true k = unbroken w vs k
    go false k = refl

abbrev Stable : ℕ → Bool → Bytes → Type 0
Stable w b t = (g : List Word) × (wrapped_line w b t ≡ g ∷ []) × (shown_len g ≡ length t)

stable_nil : (w : ℕ) (b : Bool) → Stable w b []
unfolding wrapped_line first_fit_of split_words_at_width
stable_nil w b = ([], go (b && ltb 0 w), refl)
  where
    go : (t : Bool) → groups (fits_line w) full_width (cond t (split_words w []) []) ≡ [] ∷ []
    go true = refl
    go false = refl

-- the words of a line that is not void
stable_words : (w : ℕ) (b : Bool) (v : Word) (vs : List Word) → AllOf (WordOk (b && ltb 0 w) w) (v ∷ vs) → ChainFrom Spaced v vs → JoinedAll (fits_line w) full_width (v ∷ vs)
    → (is_nil (bytes_of v.body) ≡ false) ⊎ (0 < v.space) → wrapped_line w b (full (v ∷ vs)) ≡ (v ∷ vs) ∷ []
unfolding wrapped_line first_fit_of
stable_words w b v vs o c j s =
    let e : byte_words (full (v ∷ vs)) ≡ as_runs (v ∷ vs) =
    ap byte_words (sym (unrun_full (v ∷ vs))) ∙ runs_unrun (byte_word (bytes_of v.body) v.space) (as_runs vs) (runs_back (b && ltb 0 w) w (v ∷ vs) o) (chain_back v vs c) s in
    ap (λ (rs : List ByteWord). groups (fits_line w) full_width (split_words_at_width w b (words_of rs))) e
    ∙ ap (λ (us : List Word). groups (fits_line w) full_width (split_words_at_width w b us)) (words_back (b && ltb 0 w) w (v ∷ vs) o)
    ∙ ap (λ (us : List Word). groups (fits_line w) full_width us) (breaking_back w b (v ∷ vs) o)
    ∙ joined-groups (fits_line w) full_width (v ∷ vs) j

stable_closed : (w : ℕ) (b : Bool) (g : List Word) → AllOf (WordOk (b && ltb 0 w) w) g → Chain Spaced g → JoinedAll (fits_line w) full_width g → shown_len g ≡ length (full g) → Stable w b (full g)
stable_closed w b [] o c j l = stable_nil w b
stable_closed w b (v ∷ []) o c j l = go (bytes_of v.body) v.space refl refl
  where
    go : (x : Bytes) (n : ℕ) → bytes_of v.body ≡ x → v.space ≡ n → Stable w b (full (v ∷ []))
    go (y ∷ x) n p q = ((v ∷ []), stable_words w b v [] o c j (inl (ap is_nil p)), l)
    go [] (suc n) p q = ((v ∷ []), stable_words w b v [] o c j (inr (omega arith)), l)
    go [] zero p q = rw (p, q) (stable_nil w b)
stable_closed w b (v ∷ u ∷ us) o c j l = ((v ∷ u ∷ us), stable_words w b v (u ∷ us) o c j (inr c.0.0), l)

-- the lines of one line
abbrev pub texts : List (List Word) → List Bytes
texts [] = []
texts (g ∷ gs) = text g ∷ texts gs

stable_groups : (w : ℕ) (b : Bool) (gs : List (List Word)) → AllOf (AllOf (WordOk (b && ltb 0 w) w)) gs → AllOf (Chain Spaced) gs → AllOf (JoinedAll (fits_line w) full_width) gs
    → AllOf (Stable w b) (texts gs)
stable_groups w b [] o c j = tt
stable_groups w b (g ∷ gs) o c j = (
  stable_closed w b (closed g) (closed_ok (b && ltb 0 w) w g o.0) (closed_chain g c.0) (closed_joined_all w g j.0) (shown_closed g ∙ sym (length_text g)),
  stable_groups w b gs o.1 c.1 j.1,
)

abbrev pub texts_of : ℕ → Bool → List Bytes → List Bytes
texts_of w b [] = []
texts_of w b (l ∷ ls) = texts (wrapped_line w b l) ++ texts_of w b ls

stable_fitted : (w : ℕ) (b : Bool) (l : Bytes) → AllOf NoNewline l → AllOf (Stable w b) (texts (wrapped_line w b l))
unfolding wrapped_line first_fit_of
stable_fitted w b l h =
    let vs : List Word = split_words_at_width w b (words_of (byte_words l)) in
    let ok : AllOf (WordOk (b && ltb 0 w) w) vs = breaking_pieces w b (byte_words l) (runs_ok l h) in
    stable_groups w b (groups (fits_line w) full_width vs) (all_concat (WordOk (b && ltb 0 w) w) (groups (fits_line w) full_width vs) (rw (groups-concat (fits_line w) full_width vs) ok))
    (fit_spaced w vs (breaking_chain w b (byte_words l) (runs_chain l))) (groups-joined (fits_line w) full_width vs)

stable_all : (w : ℕ) (b : Bool) (ls : List Bytes) → AllOf (AllOf NoNewline) ls → AllOf (Stable w b) (texts_of w b ls)
stable_all w b [] h = tt
stable_all w b (l ∷ ls) h = all_append (Stable w b) (texts (wrapped_line w b l)) (texts_of w b ls) (stable_fitted w b l h.0) (stable_all w b ls h.1)

-- what is shown of a line is its beginning
pub flat_closed : (g : List Word) → (z : List Character) × (flat g ≡ flat (closed g) ++ z)
flat_closed [] = ([], refl)
flat_closed (v ∷ []) = (blanks v.space, rw (append-nil (blanks v.space), append-nil v.body))
flat_closed (v ∷ u ∷ us) =
    let r : (z : List Character) × (flat (u ∷ us) ≡ flat (closed (u ∷ us)) ++ z) = flat_closed (u ∷ us) in
    (r.0, rw (r.1, append_assoc v.body (blanks v.space ++ flat (closed (u ∷ us))) r.0, append_assoc (blanks v.space) (flat (closed (u ∷ us))) r.0))

full_closed : (g : List Word) → (z : Bytes) × (full g ≡ full (closed g) ++ z)
full_closed g =
    let r = flat_closed g in
    (bytes_of r.0, sym (bytes_flat g) ∙ ap bytes_of r.1 ∙ bytes-append (flat (closed g)) r.0 ∙ ap (λ (x : Bytes). x ++ bytes_of r.0) (bytes_flat (closed g)))

-- no line holds a 0A
texts_none : (gs : List (List Word)) → AllOf NoNewline (full (concat gs)) → AllOf (AllOf NoNewline) (texts gs)
texts_none [] h = tt
texts_none (g ∷ gs) h =
    let k : AllOf NoNewline (full g ++ full (concat gs)) = rw (full_append g (concat gs)) at h in
    let m : AllOf NoNewline (full (closed g) ++ (full_closed g).0) = rw (full_closed g).1 at (all_left NoNewline (full g) (full (concat gs)) k) in
    (all_left NoNewline (full (closed g)) (full_closed g).0 m, texts_none gs (all_right NoNewline (full g) (full (concat gs)) k))

none_all : (w : ℕ) (b : Bool) (ls : List Bytes) → AllOf (AllOf NoNewline) ls → AllOf (AllOf NoNewline) (texts_of w b ls)
none_all w b [] h = tt
none_all w b (l ∷ ls) h = all_append (AllOf NoNewline) (texts (wrapped_line w b l)) (texts_of w b ls) (texts_none (wrapped_line w b l) (rw (full_fitted w b l) h.0)) (none_all w b ls h.1)

-- ── lines joined by 0A
pub line_more : (t r : Bytes) → AllOf NoNewline t → split_lines (t ++ 0x0A ∷ r) ≡ t ∷ split_lines r
line_more [] r h = refl
line_more (b ∷ t) r h = rw (h.0, line_more t r h.1)

pub line_last : (t : Bytes) → AllOf NoNewline t → split_lines t ≡ t ∷ []
line_last [] h = refl
line_last (b ∷ t) h = rw (h.0, line_last t h.1)

lines_join : (t : Bytes) (ts : List Bytes) → AllOf (AllOf NoNewline) (t ∷ ts) → split_lines (join_lines (t ∷ ts)) ≡ t ∷ ts
lines_join t [] h = line_last t h.0
lines_join t (u ∷ ts) h = line_more t (join_lines (u ∷ ts)) h.0 ∙ ap (λ (l : List Bytes). t ∷ l) (lines_join u ts h.1)

join_onto : (b : ℕ) (ls : List Bytes) → join_lines (onto_first b ls) ≡ b ∷ join_lines ls
join_onto b [] = refl
join_onto b (l ∷ []) = refl
join_onto b (l ∷ m ∷ ls) = refl

join_nil : (ls : List Bytes) → 0 < length ls → join_lines ([] ∷ ls) ≡ 0x0A ∷ join_lines ls
join_nil [] h = absurd (omega arith)
join_nil (l ∷ ls) h = refl

pub join_lines_lem : (d : Bytes) → join_lines (split_lines d) ≡ d
join_lines_lem [] = refl
join_lines_lem (b ∷ d) = go (eqb b 0x0A) refl (join_lines_lem d)
  where
    go : (t : Bool) → eqb b 0x0A ≡ t → join_lines (split_lines d) ≡ d → join_lines (cond t ([] ∷ split_lines d) (onto_first b (split_lines d))) ≡ b ∷ d
    go true e h = join_nil (split_lines d) (some_lines d) ∙ rw (h, eqb-true b 0x0A e)
    go false e h = join_onto b (split_lines d) ∙ rw h

-- ── the bytes of a wrapped text are the shown lines, joined
abbrev pub cuts : Bytes → List Line → List Bytes
cuts d [] = []
cuts d (l ∷ ls) = take (l.end - l.first) (drop l.first d) ∷ cuts d ls

values-stretch : (a e : ℕ) (cs : List Coloured) → values (stretch a e cs) ≡ take (e - a) (drop a (values cs))
values-stretch a e cs = values-take (e - a) (drop a cs) ∙ rw (values-drop a cs)

values-wrapped : (ls : List Line) (cs : List Coloured) → values (wrapped ls cs) ≡ join_lines (cuts (values cs) ls)
values-wrapped [] cs = refl
values-wrapped (l ∷ []) cs = values-stretch l.first l.end cs
values-wrapped (l ∷ m ∷ ls) cs =
    values-append (stretch l.first l.end cs) (record { val = 0x0A; labels = labels_of l.end cs } ∷ wrapped (m ∷ ls) cs)
    ∙ rw (values-stretch l.first l.end cs, values-wrapped (m ∷ ls) cs)

pub cuts_append : (d : Bytes) (x y : List Line) → cuts d (x ++ y) ≡ cuts d x ++ cuts d y
cuts_append d [] y = refl
cuts_append d (l ∷ x) y = ap (λ (r : List Bytes). take (l.end - l.first) (drop l.first d) ∷ r) (cuts_append d x y)

cut_group : (d : Bytes) (at : ℕ) (g : List Word) (z : Bytes) → drop at d ≡ full g ++ z → take ((at + shown_len g) - at) (drop at d) ≡ text g
cut_group d at g z h =
    let e : (at + shown_len g) - at ≡ shown_len g = omega arith in
    rw (e, h, (full_closed g).1, append_assoc (full (closed g)) (full_closed g).0 z) (take_at (full (closed g)) ((full_closed g).0 ++ z) (shown_len g) (length_text g))

pub cuts_spans : (d : Bytes) (at : ℕ) (gs : List (List Word)) (z : Bytes) → drop at d ≡ full (concat gs) ++ z → cuts d (group_lines at gs) ≡ texts gs
cuts_spans d at [] z h = refl
cuts_spans d at (g ∷ gs) z h =
    let e : drop at d ≡ full g ++ (full (concat gs) ++ z) = h ∙ rw (full_append g (concat gs)) (append_assoc (full g) (full (concat gs)) z) in
    let n : drop (at + whole_len g) d ≡ full (concat gs) ++ z = sym (drop-drop (whole_len g) at d) ∙ rw e (drop_at (full g) (full (concat gs) ++ z) (whole_len g) (length_full g)) in
    rw (cut_group d at g (full (concat gs) ++ z) e, cuts_spans d (at + whole_len g) gs z n)

-- the lines behind the first one
pub line_behind : (d : Bytes) (at : ℕ) (l m : Bytes) (ls : List Bytes) → drop at d ≡ join_lines (l ∷ m ∷ ls) → drop (suc (at + length l)) d ≡ join_lines (m ∷ ls)
line_behind d at l m ls h =
    let k : (at + length l) + 1 ≡ suc (at + length l) = omega arith in
    rw (← k, ← drop-drop 1 (at + length l) d, ← drop-drop (length l) at d, h, drop_at l (0x0A ∷ join_lines (m ∷ ls)) (length l) refl)

pub cuts_all : (w : ℕ) (b : Bool) (d : Bytes) (at : ℕ) (ls : List Bytes) → drop at d ≡ join_lines ls → cuts d (lines_from w b at ls) ≡ texts_of w b ls
cuts_all w b d at [] h = refl
cuts_all w b d at (l ∷ []) h =
    cuts_append d (group_lines at (wrapped_line w b l)) [] ∙ rw (cuts_spans d at (wrapped_line w b l) [] (h ∙ sym (append-nil l) ∙ ap (λ (x : Bytes). x ++ []) (sym (full_fitted w b l))))
cuts_all w b d at (l ∷ m ∷ ls) h =
    cuts_append d (group_lines at (wrapped_line w b l)) (lines_from w b (suc (at + length l)) (m ∷ ls))
    ∙ rw (
      cuts_spans d at (wrapped_line w b l) (0x0A ∷ join_lines (m ∷ ls)) (h ∙ ap (λ (x : Bytes). x ++ 0x0A ∷ join_lines (m ∷ ls)) (sym (full_fitted w b l))),
      cuts_all w b d
          (suc (at + length l)) (m ∷ ls) (line_behind d at l m ls h),
    )

pub wrapped-values : (w : ℕ) (b : Bool) (cs : List Coloured) → values (wrapped (wrap_lines_of w b (values cs)) cs) ≡ join_lines (texts_of w b (split_lines (values cs)))
unfolding wrap_lines_of
wrapped-values w b cs =
    values-wrapped (lines_from w b 0 (split_lines (values cs))) cs ∙ ap join_lines (cuts_all w b (values cs) 0 (split_lines (values cs)) (sym (join_lines_lem (values cs))))

-- ── stable lines, wrapped again
abbrev cover : ℕ → List Bytes → List Line
cover at [] = []
cover at (t ∷ ts) = line_of at (at + length t) ∷ cover (suc (at + length t)) ts

cover_spans : (w : ℕ) (b : Bool) (at : ℕ) (ts : List Bytes) → AllOf (Stable w b) ts → lines_from w b at ts ≡ cover at ts
cover_spans w b at [] h = refl
cover_spans w b at (t ∷ ts) h = rw (h.0.1, h.0.2, cover_spans w b (suc (at + length t)) ts h.1)

-- a coloured list whose values begin with t and 0A
record Split (t j : Bytes) (x : List Coloured) : Type 0 where
  head : List Coloured
  mark : Coloured
  tail : List Coloured
  rest_of : x ≡ head ++ mark ∷ tail
  long : length head ≡ length t
  newline : mark.val ≡ 0x0A
  rest : values tail ≡ j

split : (t j : Bytes) (x : List Coloured) → values x ≡ t ++ 0x0A ∷ j → Split t j x
split [] j [] h = absurd (let z : ◌≡◌ {A = ℕ} 0 1 = cc in omega arith)
split [] j (c ∷ x) h = record { head = []; mark = c; tail = x; rest_of = refl; long = refl; newline = cc; rest = cc }
split (b ∷ t) j [] h = absurd (let z : ◌≡◌ {A = ℕ} 0 1 = cc in omega arith)
split (b ∷ t) j (c ∷ x) h =
    let e : values x ≡ t ++ 0x0A ∷ j = cc in
    let s : Split t j x = split t j x e in
    record { head = c ∷ s.head; mark = s.mark; tail = s.tail; rest_of = ap (λ (l : List Coloured). c ∷ l) s.rest_of; long = ap suc s.long; newline = s.newline; rest = s.rest }

cover_step : (at : ℕ) (t : Bytes) (j : Bytes) (cs z : List Coloured) (s : Split t j (drop at cs)) → (values (drop (suc (at + length t)) cs) ≡ j → z ≡ drop (suc (at + length t)) cs)
    → stretch at (at + length t) cs ++ record { val = 0x0A; labels = labels_of (at + length t) cs } ∷ z ≡ drop at cs
cover_step at t j cs z s f =
    let e : (at + length t) - at ≡ length t = omega arith in
    let k : (at + length t) + 1 ≡ suc (at + length t) = omega arith in
    let d : drop (at + length t) cs ≡ s.mark ∷ s.tail = sym (drop-drop (length t) at cs) ∙ ap (λ (x : List Coloured). drop (length t) x) s.rest_of
    ∙ drop_at s.head (s.mark ∷ s.tail) (length t) s.long in
    let d' : drop (suc (at + length t)) cs ≡ s.tail = ap (λ (n : ℕ). drop n cs) (sym k) ∙ sym (drop-drop 1 (at + length t) cs) ∙ ap (λ (x : List Coloured). drop 1 x) d in
    let e₁ : stretch at (at + length t) cs ≡ s.head = ap (λ (n : ℕ). take n (drop at cs)) e ∙ ap (λ (x : List Coloured). take (length t) x) s.rest_of
    ∙ take_at s.head (s.mark ∷ s.tail) (length t) s.long in
    let e₂ : ◌≡◌ {A = Coloured} (record { val = 0x0A; labels = labels_of (at + length t) cs }) s.mark =
    ap (λ (x : List Coloured). record { val = 0x0A; labels = labels_at x }) d ∙ ap {B = Coloured} (λ (v : ℕ). record { val = v; labels = s.mark.labels }) (sym s.newline) in
    let e₃ : z ≡ s.tail = f (ap values d' ∙ s.rest) ∙ d' in
    ap (λ (x : List Coloured). x ++ record { val = 0x0A; labels = labels_of (at + length t) cs } ∷ z) e₁
    ∙ ap (λ (m : Coloured). s.head ++ m ∷ z) e₂ ∙ ap (λ (x : List Coloured). s.head ++ s.mark ∷ x) e₃ ∙ sym s.rest_of

covered : (at : ℕ) (t : Bytes) (ts : List Bytes) (cs : List Coloured) → values (drop at cs) ≡ join_lines (t ∷ ts) → wrapped (cover at (t ∷ ts)) cs ≡ drop at cs
covered at t [] cs h =
    let e : (at + length t) - at ≡ length t = omega arith in
    let n : length (drop at cs) ≤ length t = omega (arith, length-values (drop at cs), ap length h) in
    rw e (take_all (length t) (drop at cs) n)
covered at t (u ∷ ts) cs h =
    cover_step at t (join_lines (u ∷ ts)) cs (wrapped (cover (suc (at + length t)) (u ∷ ts)) cs) (split t (join_lines (u ∷ ts)) (drop at cs) h) (λ e. covered (suc (at + length t)) u ts cs e)

some_texts : (gs : List (List Word)) → length (texts gs) ≡ length gs
some_texts [] = refl
some_texts (g ∷ gs) = ap suc (some_texts gs)

wrapped_cover : (w : ℕ) (b : Bool) (ts : List Bytes) (cs : List Coloured) → AllOf (Stable w b) ts → AllOf (AllOf NoNewline) ts → 0 < length ts → values cs ≡ join_lines ts
    → wrapped (wrap_lines_of w b (values cs)) cs ≡ cs
unfolding wrap_lines_of
wrapped_cover w b [] cs o q z h = absurd (omega arith)
wrapped_cover w b (t ∷ ts) cs o q z h =
    ap (λ (ls : List Bytes). wrapped (lines_from w b 0 ls) cs) (ap split_lines h ∙ lines_join t ts q) ∙ ap (λ (ls : List Line). wrapped ls cs) (cover_spans w b 0 (t ∷ ts) o) ∙ covered 0 t ts cs h

texts_some : (w : ℕ) (b : Bool) (ls : List Bytes) → 0 < length ls → 0 < length (texts_of w b ls)
unfolding wrapped_line first_fit_of
texts_some w b [] h = h
texts_some w b (l ∷ ls) h =
    omega (arith, length-append (texts (wrapped_line w b l)) (texts_of w b ls), some_texts (wrapped_line w b l), groups_some (fits_line w) full_width (split_words_at_width w b (words_of (byte_words l))))

pub wrapped_twice : (w : ℕ) (b : Bool) (cs : List Coloured)
    → wrapped (wrap_lines_of w b (values (wrapped (wrap_lines_of w b (values cs)) cs))) (wrapped (wrap_lines_of w b (values cs)) cs) ≡ wrapped (wrap_lines_of w b (values cs)) cs
wrapped_twice w b cs =
    let ls : List Bytes = split_lines (values cs) in
    wrapped_cover w b (texts_of w b ls) (wrapped (wrap_lines_of w b (values cs)) cs) (stable_all w b ls (lines_none (values cs))) (none_all w b ls (lines_none (values cs)))
    (texts_some w b ls (some_lines (values cs)))
    (wrapped-values w b cs)
