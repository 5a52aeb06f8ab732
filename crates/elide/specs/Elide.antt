-- Module 6 of document 01: plain text, with the Rust's order. Text over max is cut to max, then whole characters leave at the cut side until the ellipsis fits.
use Rattle.std.specs.Prelude.{ℕ, ◌+◌, ◌-◌, cond, ◌&&◌, not, List, [], ◌∷◌, ◌++◌, reverse, ltb, eqb, length, drop}
use Rattle.chars.specs.Chars.{Character, chars, bytes_of, wide, width_of, text_width_of, well_formed_of}
use Rattle.chars.specs.Cut.{kept_within, zero_width_len_of}
use Rattle.recording.specs.Recording.{Bytes, recording}
use Rattle.recording.specs.Refusals.{data_limit, first_of, refuse_if}
use Rattle.recording.specs.Outcome.{Room, Result, Faults, Outcome, Lent, settle}

-- ── what stays of a text
-- characters leave from the front while those that left are less than w wide
abbrev pub leaving : ℕ → List Character → List Character
leaving w [] = []
leaving w (c ∷ cs) = cond (eqb w 0) (c ∷ cs) (leaving (w - wide c) cs)

-- a text cut to m, at its end or at its start
abbrev pub cut_at_end : ℕ → List Character → List Character
cut_at_end m cs = kept_within m cs

abbrev pub cut_at_start : ℕ → List Character → List Character
cut_at_start m cs = reverse (kept_within m (reverse cs))

-- and once an ellipsis that is e wide fits
unfoldable pub fit_at_end : ℕ → ℕ → List Character → List Character
fit_at_end m e cs = let kept = cut_at_end m cs in reverse (leaving (width_of kept - (m - e)) (reverse kept))

unfoldable pub fit_at_start : ℕ → ℕ → List Character → List Character
fit_at_start m e cs = let kept = cut_at_start m cs in leaving (width_of kept - (m - e)) kept

-- a text without its leading zero-width characters
unfoldable pub trimmed : Bytes → Bytes
trimmed s = drop (zero_width_len_of s) s

-- ── the results: bytes and width
pub record Elided : Type 0 where
  pub text : Bytes
  pub columns : ℕ

abbrev pub elided : Bytes → ℕ → Elided
elided s n = record { text = s; columns = n }

-- text within m comes back as it is; an ellipsis e wider than m is cut too and comes back alone
unfoldable pub elide_end_of : ℕ → Bytes → Bytes → Elided
elide_end_of m s e =
    cond (ltb m (text_width_of s))
    (cond (ltb m (text_width_of e))
    (let kept = cut_at_end m (chars e) in elided (bytes_of kept) (width_of kept))
    (let kept = fit_at_end m (text_width_of e) (chars s) in elided (bytes_of kept ++ e) (width_of kept + text_width_of e)))
    (elided s (text_width_of s))

-- likewise at the start, where what was cut loses its leading zero-width characters
unfoldable pub elide_start_of : ℕ → Bytes → Bytes → Elided
elide_start_of m s e =
    cond (ltb m (text_width_of s))
    (cond (ltb m (text_width_of e))
    (let kept = cut_at_start m (chars e) in elided (trimmed (bytes_of kept)) (width_of kept))
    (let kept = fit_at_start m (text_width_of e) (chars s) in elided (e ++ trimmed (bytes_of kept)) (width_of kept + text_width_of e)))
    (elided s (text_width_of s))

-- 0A is added unless the text is empty or ends in 0A
abbrev pub missing_newline : Bytes → Bytes
missing_newline [] = []
missing_newline (b ∷ []) = cond (eqb b 0x0A) [] (0x0A ∷ [])
missing_newline (b ∷ c ∷ cs) = missing_newline (c ∷ cs)

unfoldable pub complete_newline_of : Bytes → Bytes
complete_newline_of s = s ++ missing_newline s

-- ── the calls: what each leaves, returns and refuses; n is the length of the lent buffer
abbrev pub plain_result : Bytes → ℕ → Result
plain_result s w = record { recording = recording s [] []; lines = []; number = w }

abbrev pub plain_room : ℕ → Room
plain_room n = record { data_bytes = n; entry_numbers = 0; text = 0; lines = 0 }

-- a lent buffer, where no other is lent
abbrev pub lent : Bytes → Lent
lent out = record { data_bytes = out; entry_numbers = []; text = []; lines = [] }

-- text and ellipsis count as data; 7 for either
abbrev pub over_data : Bytes → ℕ
over_data s = refuse_if (ltb data_limit (length s)) 1

abbrev pub ill_formed_read : Bytes → Bytes → ℕ
ill_formed_read s e = refuse_if (not (well_formed_of s && well_formed_of e)) 7

abbrev pub faults_by : ℕ → ℕ → ℕ → Faults
faults_by content second plain = record { lengths = 0; content = content; second = second; added = 0; plain = plain; own = 0 }

unfoldable pub plain_faults : Bytes → Bytes → Faults
plain_faults s e = faults_by (over_data s) (over_data e) (ill_formed_read s e)

abbrev pub no_faults : Faults
no_faults = faults_by 0 0 0

-- the first of them that is not 0
unfoldable pub plain_fault : Bytes → Bytes → ℕ
plain_fault s e = first_of (over_data s ∷ over_data e ∷ ill_formed_read s e ∷ [])

unfoldable pub elide_end_outcome : ℕ → Bytes → Bytes → ℕ → Outcome
elide_end_outcome n s e m = let x = elide_end_of m s e in settle (plain_faults s e) (plain_room n) (plain_result x.text x.columns)

unfoldable pub elide_start_outcome : ℕ → Bytes → Bytes → ℕ → Outcome
elide_start_outcome n s e m = let x = elide_start_of m s e in settle (plain_faults s e) (plain_room n) (plain_result x.text x.columns)

-- no ellipsis, no width
unfoldable pub complete_newline_outcome : ℕ → Bytes → Outcome
complete_newline_outcome n s = settle (plain_faults s []) (plain_room n) (plain_result (complete_newline_of s) 0)
