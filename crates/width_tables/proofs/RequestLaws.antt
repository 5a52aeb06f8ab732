-- Request Q-5: the widths of faces and trucks, those of all others, and the theorem at document 01's nineteen ranges. The rows are computed.
use Prim.Native.Nat.{ℕ, ◌≤◌}
use native.Mathlib.Omega.{arith}
use mathlib.Core.Bool.{Bool, true, false, cond, ◌||◌, false≢true}
use mathlib.Core.Path.{◌≡◌, refl, ◌∙◌}
use mathlib.Core.List.{[], ◌∷◌, ◌++◌}
use Rattle.chars.specs.Utf8.{within, table37, row_of, tail_len, complete}
use Rattle.chars.specs.Width.{nineteen_ranges, faces_and_trucks, ranges, width_in, char_width_of}
use Rattle.chars.specs.Chars.{char_at, chars, text_width_of, well_formed_of}
use Rattle.chars.proofs.RangeLaws.{behind, bounds, aside}
use Rattle.recording.specs.Recording.{items, pushed_in, start_in, encode}
use Rattle.recording.specs.Coloured.{coloured, balanced}
use Rattle.recording.specs.Refusals.{bad_shape_of, entry_fault, recording_fault}
use Rattle.recording.specs.Outcome.{over_limit, no_room, refusal_of, settle}
use Rattle.recording.proofs.Lists.{or_left, or_right}
use Rattle.layout.specs.Wrap.{split_words_at_width, first_fit_of}
use Rattle.layout.specs.Layout.{fill_count_of, result_items, lines_left, number, result_of, second_fault, own_fault, faults_of, outcome}
use Rattle.view.specs.View.{view_fault, view_faults}
use Rattle.elide.specs.Elide.{fit_at_start}
use Rattle.tally.specs.Tally.{tilde, space, tally_outcome}
use Rattle.width_tables.specs.ByTable as By
use Rattle.width_tables.specs.ByTable.{chars_by}
use Rattle.width_tables.specs.Tables.{library, SameOn, TextsOf, TallySameOn}
use Rattle.width_tables.specs.FacesAndTrucks.{face_or_truck, Other, as_before_of, before, faces, AsItWas, Joined, FacesAndTrucks, TallyAsBefore}
use Rattle.width_tables.proofs.TablesLaws.{unchanged, answered, lists, tally_unchanged, tally_answered}

-- ── the widths
in_either : (c : ℕ) → face_or_truck c ≡ true → (0x1F600 ≤ c) × (c ≤ 0x1F6C5) × (width_in faces_and_trucks c ≡ 2)
in_either c h = go (within 0x1F600 0x1F64F c) refl (within 0x1F680 0x1F6C5 c) refl h
  where
    go : (s : Bool) → within 0x1F600 0x1F64F c ≡ s → (t : Bool) → within 0x1F680 0x1F6C5 c ≡ t → (s || t) ≡ true → (0x1F600 ≤ c) × (c ≤ 0x1F6C5) × (◌≡◌ {A = ℕ} (cond s 2 (cond t 2 1)) 2)
    go true e t f h = let k = bounds 0x1F600 0x1F64F c e in (omega (arith, k), omega (arith, k), refl)
    go false e true f h = let k = bounds 0x1F680 0x1F6C5 c f in (omega (arith, k), omega (arith, k), refl)
    go false e false f h = absurd (false≢true h)

two_wide : (c : ℕ) → face_or_truck c ≡ true → (width_in nineteen_ranges c ≡ 1) × (char_width_of c ≡ 2)
unfolding ranges char_width_of
two_wide c h =
    let k = in_either c h in
    let w = aside 0x1F600 0x1F6C5 c k.0 k.1 nineteen_ranges faces_and_trucks tt in
    (w.0, w.1 ∙ k.2)

in_neither : (c : ℕ) → Other c → width_in faces_and_trucks c ≡ 1
in_neither c h = rw (or_left (within 0x1F600 0x1F64F c) (within 0x1F680 0x1F6C5 c) h, or_right (within 0x1F600 0x1F64F c) (within 0x1F680 0x1F6C5 c) h)

as_before : (c : ℕ) → Other c → width_in ranges c ≡ width_in nineteen_ranges c
unfolding ranges
as_before c h = behind nineteen_ranges faces_and_trucks c (in_neither c h)

others : (c : ℕ) → Other c → char_width_of c ≡ width_in nineteen_ranges c
unfolding char_width_of
others c h = as_before c h

-- ── the rows
as_it_was : AsItWas
unfolding ranges table37 row_of tail_len complete char_width_of char_at chars chars_by well_formed_of items pushed_in start_in encode bad_shape_of entry_fault recording_fault over_limit no_room refusal_of settle split_words_at_width first_fit_of fit_at_start second_fault own_fault faults_of By.text_width_of By.truncate_end_pos_of By.truncate_end_width By.truncate_start_pos_of By.truncate_start_width By.zero_width_len_of By.trimmed_start_pos By.fill_count_of By.wrapped_line By.wrap_lines_of By.result_items By.lines_left By.number By.result_of By.outcome coloured balanced view_fault view_faults By.hidden By.floor_items By.floor_outcome By.trimmed By.elide_start_of
as_it_was = record { width = refl; cuts = (refl, refl); kept = (refl, refl); fill = refl; spaced = refl; unbroken = refl; listed = refl; tabs = refl; star = refl; short = refl }

joined : Joined
unfolding ranges table37 row_of tail_len complete char_width_of char_at chars text_width_of chars_by well_formed_of items pushed_in start_in encode bad_shape_of entry_fault recording_fault over_limit no_room refusal_of settle second_fault own_fault faults_of fill_count_of result_items lines_left number result_of outcome By.text_width_of By.fill_count_of By.result_items By.lines_left By.number By.result_of By.outcome
joined = record { none = ((refl, tt), ((refl, (refl, tt)), ((refl, tt), tt))); now = refl; then = refl }

pub calls_as_before : SameOn (TextsOf Other) library before
calls_as_before = unchanged nineteen_ranges Other as_before

pub faces_and_trucks_lem : FacesAndTrucks
faces_and_trucks_lem = record {
  widths = two_wide;
  others = others;
  calls = calls_as_before;
  running = answered (TextsOf Other) before calls_as_before;
  lists = lists (TextsOf Other) library before calls_as_before;
  rows = as_it_was;
  joined = joined;
}

-- ── the tally sheet
laid : By.laid_cell_of as_before_of (record { width = 3; alignment = 0 }) faces ≡ faces ++ 0x20 ∷ []
unfolding ranges table37 row_of tail_len complete char_width_of char_at chars chars_by well_formed_of items pushed_in start_in encode bad_shape_of entry_fault recording_fault over_limit no_room refusal_of settle split_words_at_width first_fit_of fit_at_start second_fault own_fault faults_of By.text_width_of By.truncate_end_pos_of By.truncate_end_width By.truncate_start_pos_of By.truncate_start_width By.zero_width_len_of By.trimmed_start_pos By.fill_count_of By.wrapped_line By.wrap_lines_of By.result_items By.lines_left By.number By.result_of By.outcome coloured balanced view_fault view_faults By.hidden By.floor_items By.floor_outcome By.trimmed By.elide_start_of tilde space By.cell_text By.laid_cell_of
laid = refl

tally_as_before : TallySameOn (TextsOf Other) tally_outcome (By.tally_outcome (chars_by nineteen_ranges))
tally_as_before = tally_unchanged nineteen_ranges Other as_before

pub tally_as_before_lem : TallyAsBefore
tally_as_before_lem = record {
  calls = tally_as_before;
  running = tally_answered (TextsOf Other) (By.tally_outcome (chars_by nineteen_ranges)) tally_as_before;
  laid = laid;
}
